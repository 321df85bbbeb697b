-- The path of a place over leaves of w elements: its length, its elements, and its part at each level.
use Rattle.std.proofs.Common.{◌≡◌, ℕ, zero, suc, ◌+◌, ◌*◌, ◌/◌, ◌^◌, ◌<◌, List, take, drop, refl, sym, suc-mul, zero-mul, arith}
use Rattle.std.proofs.lemmas.List.{length-append}
use Rattle.kinds.specs.Kinds.{State, Sound}
use Rattle.sponge.proofs.Parts.{each_none, each_append}
use Rattle.sponge.proofs.Pairs.{pair_state}
use Rattle.model.specs.Trees.{sibling, node, path_of}
use Rattle.model.proofs.Rows.{row_piece}

module _ {n c w : ℕ} {F : List ℕ → List ℕ} (sound : Sound n c w F) (leaves : ℕ → List ℕ) (each : (k : ℕ) → State w (leaves k)) where
  pub node_state : (j k : ℕ) → State w (node c w F leaves j k)
  node_state zero k = each k
  node_state (suc j) k = pair_state sound _ _ (node_state j (2 * k)) (node_state j (2 * k + 1))

  pub path_state : (d place : ℕ) → State (d * w) (path_of c w F d leaves place)
  path_state zero place = record { long = sym (zero-mul w); each = each_none }
  path_state (suc d) place =
      let front = path_state d place in
      let last = node_state d (sibling (place / 2 ^ d)) in
      record {
        long = let m = suc-mul d w in let x = front.long in let y = last.long in simp length-append (omega arith);
        each = each_append _ _ front.each last.each;
      }

  pub path_part : (d place j : ℕ) → j < d → take w (drop (j * w) (path_of c w F d leaves place)) ≡ node c w F leaves j (sibling (place / 2 ^ j))
  path_part d place j low =
      row_piece w d (λ m. path_of c w F m leaves place) (λ m. node c w F leaves m (sibling (place / 2 ^ m))) refl (λ m. refl) (λ m h. (node_state m (sibling (place / 2 ^ m))).long) d j (omega arith) low

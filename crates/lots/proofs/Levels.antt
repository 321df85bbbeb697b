-- The tree over a table's leaves, worked out level by level.
use Rattle.std.proofs.Common.{◌≡◌, ℕ, zero, suc, ◌+◌, ◌-◌, ◌*◌, ◌^◌, ◌<◌, ◌≤◌, List, length, replicate, sym, ap, ◌∙◌, pow-suc, arith, pow_mono}
use Rattle.sponge.specs.Digests.{two_to_one}
use Rattle.model.specs.Trees.{node, tree_value}
use Rattle.model.specs.Lots.{leaf_at}
use Rattle.lots.specs.Nodes.{under, leaves_in}
use Rattle.lots.proofs.Places.{leaf_is}

pub child_low : (n level i : ℕ) → level ≡ n + 1 → level ≤ 8 → i < 2 ^ (8 - level) → 2 * i + 1 < 2 ^ (8 - n)
child_low n level i e h l =
    let d : ℕ = 8 - level in
    let ed : 8 - n ≡ suc d = omega arith in
    rw ed (omega (arith, pow-suc 2 d))

module _ (c w : ℕ) (F : List ℕ → List ℕ) (d : ℕ) (ns : List (List ℕ)) (long : length ns ≡ 512) (low : d ≤ 8) where
  -- the nodes of a level
  under_is : (j n k : ℕ) → n + j ≡ d → k < 2 ^ n → under c w F ns j (2 ^ n + k) ≡ node c w F (leaf_at w (leaves_in d ns)) j k
  under_is zero n k e h = let en : n ≡ d = omega arith in rw en (sym (leaf_is d k ns (replicate w 0) long low (rw en at h)))
  under_is (suc j) n k e h =
      let p = pow-suc 2 n in
      let a : 2 * (2 ^ n + k) ≡ 2 ^ suc n + 2 * k = omega arith in
      let b : 2 * (2 ^ n + k) + 1 ≡ 2 ^ suc n + (2 * k + 1) = omega arith in
      let top : ℕ → ℕ → List ℕ = node c w F (leaf_at w (leaves_in d ns)) in
      let l : under c w F ns j (2 * (2 ^ n + k)) ≡ top j (2 * k) = ap (under c w F ns j) a ∙ under_is j (suc n) (2 * k) (omega arith) (omega arith) in
      let r : under c w F ns j (2 * (2 ^ n + k) + 1) ≡ top j (2 * k + 1) = ap (under c w F ns j) b ∙ under_is j (suc n) (2 * k + 1) (omega arith) (omega arith) in
      ap (λ (t : List ℕ). two_to_one c w F t (under c w F ns j (2 * (2 ^ n + k) + 1))) l ∙ ap (λ (t : List ℕ). two_to_one c w F (top j (2 * k)) t) r

  pub root_under : under c w F ns d 1 ≡ tree_value c w F d (leaf_at w (leaves_in d ns))
  root_under = under_is d 0 0 (omega arith) (omega arith)

pub root_low : (d : ℕ) → d ≤ 8 → 1 ≤ d → 1 < 2 ^ (8 - (d - 1))
root_low d h l = let m : 1 ≤ 8 - (d - 1) = omega arith in let p : 2 ^ 1 ≤ 2 ^ (8 - (d - 1)) = pow_mono m in omega arith

-- The path that a closed lot writes leads the check from the leaf to the root.
use Rattle.std.proofs.Common.{◌≡◌, ℕ, zero, suc, ◌+◌, ◌*◌, ◌/◌, ◌%◌, ◌^◌, ◌<◌, ◌≤◌, Bool, true, false, eqb, ltb, ◌≢◌, List, [], ◌∷◌, length, Some, None, Option, sym, refl, ap, ◌∙◌, ap₂, div-one, arith}
use native.Mathlib.Nat.{div-eq_of_lt}
use Rattle.std.proofs.lemmas.Bool.{cond_both, eqb-true, eqb-false, ne_eqb, le-ltb, lt-leb, or_from}
use Rattle.field.specs.Field.{Elements}
use Rattle.kinds.specs.Answers.{Answer, granted, if_granted}
use Rattle.kinds.specs.Kinds.{State, Sound}
use Rattle.kinds.specs.Permuting.{bad_buffer}
use Rattle.sponge.specs.Digests.{two_to_one}
use Rattle.sponge.proofs.Parts.{each_none}
use Rattle.model.specs.Calls.{no_place}
use Rattle.model.specs.Histories.{last_record}
use Rattle.model.specs.Trees.{leaf, sibling, node, tree_value, path_of}
use Rattle.model.specs.Lots.{leaf_at, lot_after, history_of}
use Rattle.model.specs.Closed.{closed_root_answer, open_answer}
use Rattle.kinds.proofs.Causes.{granted_by, good_buffer}
use Rattle.model.proofs.Hands.{FairRecord, leaf_state}
use Rattle.model.proofs.Heaps.{sibling_even, sibling_odd, half_again, closed_laws}
use Rattle.model.proofs.Paths.{node_state, path_state, path_part}
use Rattle.model.proofs.Runs.{stands_after}
use Rattle.openings.specs.Opening.{same, words_of, Pair, paired, is_right, hash_of, own_at}
use Rattle.openings.proofs.Digests.{same_decides}
use Rattle.openings.proofs.Admitted.{Fine, fine_granted}
use Rattle.openings.specs.Checks.{bad_claim, check_call}
use Rattle.promises.specs.Promises.{Opened}

fair_claim : (r : Option (List ℕ)) → FairRecord r → (bad_claim r).0 ≡ false
fair_claim None fair = refl
fair_claim (Some xs) fair =
    let some = fair.some in
    or_from (eqb (length xs) 0) (ltb 4096 (length xs)) (ne_eqb (length xs) 0 (λ e. omega arith)) (le-ltb 4096 (length xs) fair.small)

fair_words : (r : Option (List ℕ)) → FairRecord r → Elements (words_of r)
fair_words None fair = each_none
fair_words (Some xs) fair = fair.each

-- a tree of a depth over leaves of w elements
module _ {n c w : ℕ} {F : List ℕ → List ℕ} (sound : Sound n c w F) (leaves : ℕ → List ℕ) (each : (k : ℕ) → State w (leaves k)) (depth : ℕ) where
  -- a node and its sibling, in their order, hash to the node above
  node_above : (j k : ℕ) → hash_of c w F (paired (eqb (k % 2) 1) (node c w F leaves j k) (node c w F leaves j (sibling k))) ≡ node c w F leaves (suc j) (k / 2)
  node_above j k =
      let at = node c w F leaves j in
      let P : Pair → Type 0 = λ p. hash_of c w F p ≡ two_to_one c w F (at (2 * (k / 2))) (at (2 * (k / 2) + 1)) in
      cond_both (eqb (k % 2) 1) (at (sibling k), at k) (at k, at (sibling k)) P
      (λ t.
      let one = eqb-true (k % 2) 1 t in
      let odd : k % 2 ≢ 0 = λ z. omega arith in
      let own : k ≡ 2 * (k / 2) + 1 = omega arith in
      ap₂ (λ (x y : ℕ). two_to_one c w F (at x) (at y)) (sibling_odd k odd) own)
      (λ t.
      let not-one : k % 2 ≢ 1 = eqb-false (k % 2) 1 t in
      let even : k % 2 ≡ 0 = omega arith in
      let own : k ≡ 2 * (k / 2) = omega arith in
      ap₂ (λ (x y : ℕ). two_to_one c w F (at x) (at y)) own (sibling_even k even))

  comes_to : (place j : ℕ) → j ≤ depth → own_at c w F place (leaves place) (path_of c w F depth leaves place) j ≡ node c w F leaves j (place / 2 ^ j)
  comes_to place zero low = ap leaves (sym (div-one place))
  comes_to place (suc j) low =
      ap₂ (λ (own other : List ℕ). hash_of c w F (paired (is_right place j) own other)) (comes_to place j (omega arith)) (path_part sound leaves each depth place j (omega arith))
      ∙ node_above j (place / 2 ^ j)
      ∙ ap (node c w F leaves (suc j)) (half_again place j)

  comes_to_root : (place : ℕ) → place < 2 ^ depth → own_at c w F place (leaves place) (path_of c w F depth leaves place) depth ≡ tree_value c w F depth leaves
  comes_to_root place low = comes_to place depth (omega arith) ∙ ap (node c w F leaves depth) (div-eq_of_lt low)

  accepts : (place : ℕ) (claim : Option (List ℕ)) → depth ≤ 8 → place < 2 ^ depth → FairRecord claim → leaves place ≡ leaf c w F claim → ◌≡◌ {A = Answer × Bool} (check_call c w F (tree_value c w F depth leaves) depth place claim (path_of c w F depth leaves place)) (granted, true)
  accepts place claim small low fair kept =
      let top = tree_value c w F depth leaves in
      let path = path_of c w F depth leaves place in
      let fine : Fine w top depth claim path = record { root_fits = node_state sound leaves each depth 0; climbs = record { each = fair_words claim fair; path_fits = path_state sound leaves each depth place } } in
      let admitted = fine_granted w top depth place claim path (le-ltb 8 depth small) (lt-leb (2 ^ depth) place low) (fair_claim claim fair) fine in
      let reached : same (own_at c w F place (leaf c w F claim) path depth) top ≡ true =
      ap (λ (own : List ℕ). same own top) (ap (λ (own : List ℕ). own_at c w F place own path depth) (sym kept) ∙ comes_to_root place low) ∙ (same_decides top top).1 refl in
      ap₂ (λ (a : Answer) (r : Bool). (a, if_granted a r false)) admitted reached

pub opened : {n c w : ℕ} {F : List ℕ → List ℕ} → Sound n c w F → Opened c w F
opened {n} {c} {w} {F} sound d ks small place out top low long wide =
    let l = lot_after c w F d ks in
    let h = history_of c w F d ks in
    let now = stands_after sound d ks small in
    let leaves = leaf_at w l.leaves in
    let each : (k : ℕ) → State w (leaves k) = λ k. rw (now.leaf_kept k) (leaf_state sound (last_record h k) (now.records_fair k)) in
    let shallow : l.depth ≤ 8 = rw now.depth_same now.depth_small in
    let rooted : closed_root_answer w top ≡ granted = granted_by (bad_buffer w top ∷ []) (good_buffer w top wide, tt) in
    let given : open_answer w l.depth place out ≡ granted =
    granted_by (no_place l.depth place ∷ bad_buffer (l.depth * w) out ∷ []) (lt-leb (2 ^ l.depth) place low, (good_buffer (l.depth * w) out long, tt)) in
    let laws = closed_laws c w F in
    let root = laws.root_written l top ∙ ap (λ (a : Answer). if_granted a (tree_value c w F l.depth leaves) top) rooted in
    let path = laws.path_written l place out ∙ ap (λ (a : Answer). if_granted a (path_of c w F l.depth leaves place) out) given in
    record {
      root_granted = rooted;
      open_granted = given;
      accepted =
          ap₂ (λ (x y : List ℕ). check_call c w F x l.depth place (last_record h place) y) root path
          ∙ accepts sound leaves each l.depth place (last_record h place) shallow low (now.records_fair place) (now.leaf_kept place);
    }

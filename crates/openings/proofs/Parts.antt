-- Parts of words that are read in a row, each counted past those before it.
use Rattle.std.proofs.Common.{◌≡◌, ℕ, ◌+◌, ◌<◌, List, [], ◌∷◌, ◌++◌, length, drop, drop-cons, get_or, Bor, add-one, refl, sym, ap, ◌∙◌}
use Rattle.std.specs.List.{flat_map}
use Rattle.kinds.specs.Answers.{granted, denied, answer}
use Rattle.kinds.specs.Words.{not_elements, not_elements_past}
use Rattle.kinds.proofs.FirstBad.{past_first, past_rest}

abbrev pub joined : List (Bor (List ℕ)) → List ℕ
joined xs = flat_map (λ x. x.now) xs

abbrev pub part : List (Bor (List ℕ)) → ℕ → List ℕ
part xs n = (get_or xs n (record { ref_ptr = (0, 0); now = [] })).now

-- what is answered from part n on, where that many words stand before it
module _ (parts : List (Bor (List ℕ))) (n before : ℕ) (h : n < length parts) where
  pub part_next : joined (drop n parts) ≡ part parts n ++ joined (drop (n + 1) parts)
  part_next = rw (drop-cons parts n (record { ref_ptr = (0, 0); now = [] }), add-one)

  module _ (decide : answer (not_elements (joined parts) ∷ []) ≡ answer (not_elements_past before (joined (drop n parts)) ∷ [])) where
    here : answer (not_elements (joined parts) ∷ []) ≡ answer (not_elements_past before (part parts n ++ joined (drop (n + 1) parts)) ∷ [])
    here = decide ∙ ap (λ (xs : List ℕ). answer (not_elements_past before xs ∷ [])) part_next

    pub part_denied : (m : ℕ) (vs : List ℕ) → denied m vs ≡ answer (not_elements_past before (part parts n) ∷ []) → denied m vs ≡ answer (not_elements (joined parts) ∷ [])
    part_denied m vs e = past_first before (part parts n) (joined (drop (n + 1) parts)) m vs e ∙ sym here

    pub part_granted : granted ≡ answer (not_elements_past before (part parts n) ∷ []) → answer (not_elements (joined parts) ∷ []) ≡ answer (not_elements_past (before + length (part parts n)) (joined (drop (n + 1) parts)) ∷ [])
    part_granted e = here ∙ sym (past_rest before (before + length (part parts n)) (part parts n) (joined (drop (n + 1) parts)) refl e)

-- What a granted call tells of the causes of its refusal.
use Rattle.std.proofs.Common.{◌≡◌, ℕ, false, eqb, List, [], ◌∷◌, length, refl, ⊎_elim, arith}
use Rattle.std.specs.List.{AllByRecursion}
use Rattle.std.proofs.lemmas.Bool.{cases_Bool, ltb-false, le-ltb, not-false, eq-eqb, eqb-true}
use Rattle.field.specs.Field.{Elements}
use Rattle.kinds.specs.Answers.{granted, denied, Cause, answer}
use Rattle.kinds.specs.Words.{first_bad, not_elements}
use Rattle.kinds.specs.Permuting.{bad_buffer}
use Rattle.kinds.proofs.FirstBad.{all_from, first_is}

abbrev pub NoneThere : List Cause → Type 0
NoneThere xs = AllByRecursion (λ x. x.0 ≡ false) xs

pub none_there : (xs : List Cause) → answer xs ≡ granted → NoneThere xs
none_there [] e = tt
none_there (x ∷ xs) e =
    ⊎_elim
    (λ b. absurd (let never : denied x.1 x.2 ≡ granted = rw b at e in cc))
    (λ b. (b, none_there xs (rw b at e)))
    (cases_Bool x.0)

pub granted_by : (xs : List Cause) → NoneThere xs → answer xs ≡ granted
granted_by [] none = refl
granted_by (x ∷ xs) none = rw none.0 (granted_by xs none.1)

pub all_elements : (xs : List ℕ) → (not_elements xs).0 ≡ false → Elements xs
all_elements xs e = all_from xs (ltb-false (first_bad xs) (length xs) e)

pub good_elements : (xs : List ℕ) → Elements xs → (not_elements xs).0 ≡ false
good_elements xs each =
    let e = first_is xs (length xs) (omega arith) each (λ never. absurd (omega arith)) in
    le-ltb (first_bad xs) (length xs) (omega arith)

-- a buffer has the right length where it is not refused, and is not refused where it has
pub right_buffer : (n : ℕ) (xs : List ℕ) → (bad_buffer n xs).0 ≡ false → length xs ≡ n
right_buffer n xs e = eqb-true (length xs) n (not-false (eqb (length xs) n) e)

pub good_buffer : (n : ℕ) (xs : List ℕ) → length xs ≡ n → (bad_buffer n xs).0 ≡ false
good_buffer n xs e = rw (eq-eqb (length xs) n e)

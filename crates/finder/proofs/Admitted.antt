-- What two openings that are admitted have, and the causes of a refusal in a row.
use Rattle.std.proofs.Common.{◌≡◌, ℕ, ◌*◌, List, [], ◌∷◌, ◌++◌, Option, sym, ap, ◌∙◌}
use Rattle.kinds.specs.Answers.{Answer, granted, denied, Cause, answer}
use Rattle.kinds.specs.Words.{not_elements}
use Rattle.kinds.proofs.Causes.{NoneThere, all_elements, right_buffer}
use Rattle.sponge.proofs.Parts.{each_left, each_right}
use Rattle.model.specs.Calls.{too_deep, no_place}
use Rattle.kinds.specs.Kinds.{State}
use Rattle.kinds.specs.Permuting.{bad_buffer}
use Rattle.openings.specs.Opening.{words_of}
use Rattle.openings.specs.Checks.{bad_claim}
use Rattle.openings.proofs.Admitted.{Fine}
use Rattle.openings.proofs.Causes.{answer_front, answer_past}
use Rattle.finder.specs.Findings.{Shown, nothing, handed_causes, unless_denied, found, verdict, find_call}

pub both_fine : (w : ℕ) (root : List ℕ) (depth place : ℕ) (claim1 : Option (List ℕ)) (path1 : List ℕ) (claim2 : Option (List ℕ)) (path2 out : List ℕ) →
    NoneThere (handed_causes w root depth place claim1 path1 claim2 path2 out) → Fine w root depth claim1 path1 × Fine w root depth claim2 path2
both_fine w root depth place claim1 path1 claim2 path2 out none =
    let sizes = none.1.1.1.1 in
    let all = all_elements (root ++ (words_of claim1 ++ (path1 ++ (words_of claim2 ++ path2)))) sizes.1.1.1.1.0 in
    let r1 = each_right root (words_of claim1 ++ (path1 ++ (words_of claim2 ++ path2))) all in
    let r2 = each_right (words_of claim1) (path1 ++ (words_of claim2 ++ path2)) r1 in
    let r3 = each_right path1 (words_of claim2 ++ path2) r2 in
    let top : State w root = record { long = right_buffer w root sizes.0; each = each_left root (words_of claim1 ++ (path1 ++ (words_of claim2 ++ path2))) all } in
    let fits1 : State (depth * w) path1 = record { long = right_buffer (depth * w) path1 sizes.1.0; each = each_left path1 (words_of claim2 ++ path2) r2 } in
    let fits2 : State (depth * w) path2 = record { long = right_buffer (depth * w) path2 sizes.1.1.0; each = each_right (words_of claim2) path2 r3 } in (
      record { root_fits = top; climbs = record { each = each_left (words_of claim1) (path1 ++ (words_of claim2 ++ path2)) r1; path_fits = fits1 } },
      record { root_fits = top; climbs = record { each = each_left (words_of claim2) path2 r3; path_fits = fits2 } },
    )

-- causes that are not there
pub none_front : (xs ys : List Cause) → NoneThere (xs ++ ys) → NoneThere xs
none_front [] ys none = tt
none_front (x ∷ xs) ys none = (none.0, none_front xs ys none.1)

pub none_back : (xs ys : List Cause) → NoneThere (xs ++ ys) → NoneThere ys
none_back [] ys none = none
none_back (x ∷ xs) ys none = none_back xs ys none.1

-- the refusals of numbers and lengths come first
module _ (c w : ℕ) (F : List ℕ → List ℕ) (root : List ℕ) (depth place : ℕ) (claim1 : Option (List ℕ)) (path1 : List ℕ) (claim2 : Option (List ℕ)) (path2 out : List ℕ) where
  abbrev numbers : List Cause
  numbers = too_deep depth ∷ no_place depth place ∷ []

  abbrev lengths : List Cause
  lengths = bad_claim claim1 ∷ bad_claim claim2 ∷ bad_buffer w root ∷ bad_buffer (depth * w) path1 ∷ bad_buffer (depth * w) path2 ∷ []

  pub lengths_denied : granted ≡ answer numbers → (n : ℕ) (vs : List ℕ) → denied n vs ≡ answer lengths → ◌≡◌ {A = Answer × Shown × List ℕ} (denied n vs, nothing, out) (find_call c w F root depth place claim1 path1 claim2 path2 out)
  lengths_denied g n vs e =
      let words = not_elements (root ++ (words_of claim1 ++ (path1 ++ (words_of claim2 ++ path2)))) in
      let rest : List Cause = bad_buffer (4 * w) out ∷ words ∷ verdict c w F root depth place claim1 path1 claim2 path2 in
      ap (λ (a : Answer). unless_denied a out (found c w F depth place claim1 path1 claim2 path2 out))
      (answer_front lengths rest n vs e ∙ sym (answer_past numbers (lengths ++ rest) (sym g)))

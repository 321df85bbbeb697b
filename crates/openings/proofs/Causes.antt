-- Causes of one kind in a row.
use Rattle.std.proofs.Common.{◌≡◌, ℕ, ◌*◌, List, [], ◌∷◌, ◌++◌, map, cond, Some, None, Option, refl, ⊎_elim}
use Rattle.std.specs.List.{list_any}
use Rattle.std.proofs.lemmas.Bool.{cases_Bool}
use Rattle.std.proofs.lemmas.List.{append-nil}
use Rattle.kinds.specs.Answers.{granted, denied, Cause, answer}
use Rattle.kinds.specs.Permuting.{bad_buffer}
use Rattle.kinds.proofs.Causes.{none_there}
use Rattle.openings.specs.declared.opening.Opening.{Opening}
use Rattle.openings.specs.Checks.{bad_claim}
use Rattle.openings.specs.Sites.{claim_of, shape_causes}

-- every cause denies by one number and tells nothing more
module _ {X : Type 0} (f : X → Cause) (n : ℕ) (one : (x : X) → denied (f x).1 (f x).2 ≡ denied n []) where
  any_answer : (xs : List X) (rest : List Cause) → answer (map f xs ++ rest) ≡ cond (list_any (λ x. (f x).0) xs) (denied n []) (answer rest)
  any_answer [] rest = refl
  any_answer (x ∷ xs) rest =
      ⊎_elim (λ b. rw b (one x)) (λ b. rw b (any_answer xs rest)) (cases_Bool (f x).0)

bad_claim_one : (claim : Option (List ℕ)) → denied (bad_claim claim).1 (bad_claim claim).2 ≡ denied 4 []
bad_claim_one None = refl
bad_claim_one (Some xs) = refl

-- the claims, the root and the paths in turn
pub shapes_answer : (w : ℕ) (root : List ℕ) (depth : ℕ) (xs : List Opening) → answer (shape_causes w root depth xs) ≡
    cond (list_any (λ x. (bad_claim (claim_of x)).0) xs) (denied 4 []) (cond (bad_buffer w root).0 (denied 10 []) (cond (list_any (λ x. (bad_buffer (depth * w) x.path.now).0) xs) (denied 10 []) granted))
shapes_answer w root depth xs =
    let path : Opening → Cause = λ x. bad_buffer (depth * w) x.path.now in
    let paths = rw append-nil at (any_answer path 10 (λ x. refl) xs []) in
    rw (any_answer (λ x. bad_claim (claim_of x)) 4 (λ x. bad_claim_one (claim_of x)) xs (bad_buffer w root ∷ map path xs), paths) refl

-- the first causes decide, unless none of them is there
pub answer_past : (xs ys : List Cause) → answer xs ≡ granted → answer (xs ++ ys) ≡ answer ys
answer_past [] ys e = refl
answer_past (x ∷ xs) ys e = let none = none_there (x ∷ xs) e in rw none.0 (answer_past xs ys (rw none.0 at e))

pub answer_front : (xs ys : List Cause) (n : ℕ) (vs : List ℕ) → denied n vs ≡ answer xs → denied n vs ≡ answer (xs ++ ys)
answer_front [] ys n vs e = cc
answer_front (x ∷ xs) ys n vs e =
    ⊎_elim (λ b. rw b (rw b at e)) (λ b. rw b (answer_front xs ys n vs (rw b at e))) (cases_Bool x.0)

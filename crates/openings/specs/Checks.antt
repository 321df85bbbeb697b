-- The check of an opening as a call: what it answers, and whether it accepts.
use Rattle.std.specs.Prelude.{ℕ, ◌*◌, Bool, false, List, [], ◌∷◌, ◌++◌, length, Some, None, Ok, Err, Option, Result}
use Rattle.kinds.specs.declared.denial.Denial.{Denial}
use Rattle.kinds.specs.Answers.{Answer, Cause, answer, if_granted}
use Rattle.kinds.specs.Words.{not_elements}
use Rattle.kinds.specs.Permuting.{bad_buffer}
use Rattle.sponge.specs.Calls.{bad_length}
use Rattle.model.specs.Calls.{too_deep, no_place}
use Rattle.openings.specs.Opening.{words_of, reaches}

-- refusal 4: nothing is claimed with no length
abbrev pub bad_claim : Option (List ℕ) → Cause
bad_claim None = (false, 4, [])
bad_claim (Some xs) = bad_length (length xs)

-- in refusal 7 the index is counted through the root, the record and the path
abbrev pub check_causes : ℕ → List ℕ → ℕ → ℕ → Option (List ℕ) → List ℕ → List Cause
check_causes w root depth place claim path =
    too_deep depth ∷ no_place depth place ∷ bad_claim claim ∷ bad_buffer w root ∷ bad_buffer (depth * w) path ∷ not_elements (root ++ (words_of claim ++ path)) ∷ []

-- granted, or the first refusal that has its cause
abbrev pub check_answer : ℕ → List ℕ → ℕ → ℕ → Option (List ℕ) → List ℕ → Answer
check_answer w root depth place claim path = answer (check_causes w root depth place claim path)

-- an opening is accepted where it is not denied and comes to the root
abbrev pub check_call : ℕ → ℕ → (List ℕ → List ℕ) → List ℕ → ℕ → ℕ → Option (List ℕ) → List ℕ → Answer × Bool
check_call c w F root depth place claim path =
    (check_answer w root depth place claim path, if_granted (check_answer w root depth place claim path) (reaches c w F root depth place claim path) false)

-- whether a result of the check accepts
abbrev pub accepted : Result Bool Denial → Bool
accepted (Ok x) = x
accepted (Err e) = false

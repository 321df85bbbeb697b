-- The refusals of openings that are handed over together.
use Rattle.std.specs.Prelude.{ℕ, ◌*◌, List, ◌∷◌, ◌++◌, Option, map}
use Rattle.kinds.specs.Answers.{Cause}
use Rattle.kinds.specs.Permuting.{bad_buffer}
use Rattle.openings.specs.declared.opening.Opening.{Opening}
use Rattle.openings.specs.Opening.{claimed}
use Rattle.openings.specs.Checks.{bad_claim}

-- the claim of an opening as the program has it
abbrev pub claim_of : Opening → Option (List ℕ)
claim_of x = claimed x.claim

-- the refusals of lengths, in their order: the claims are looked at before the root and the paths
abbrev pub shape_causes : ℕ → List ℕ → ℕ → List Opening → List Cause
shape_causes w root depth xs =
    map (λ x. bad_claim (claim_of x)) xs ++ (bad_buffer w root ∷ map (λ x. bad_buffer (depth * w) x.path.now) xs)

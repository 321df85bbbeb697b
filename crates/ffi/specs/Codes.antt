-- How the answer of a call is told to C: as one number, and where it is cheap the index that goes with a refusal.
use Rattle.std.specs.Prelude.{ℕ, List, [], ◌∷◌}
use Rattle.kinds.specs.Answers.{Answer, granted, denied}

-- 0 where a call is granted, else the refusal's number
abbrev pub code_of : Answer → ℕ
code_of granted = 0
code_of (denied n vs) = n

-- the same of an answer with what the buffers then hold
abbrev pub coded : {A : Type 0} → Answer × A → ℕ × A
coded x = (code_of x.0, x.1)

-- the first of some values, else what stood there before
abbrev pub first_value : List ℕ → ℕ → ℕ
first_value [] before = before
first_value (v ∷ vs) before = v

-- what stands where C is told the index of the word that a refusal speaks of
abbrev pub index_after : Answer → ℕ → ℕ
index_after granted before = before
index_after (denied n vs) before = first_value vs before

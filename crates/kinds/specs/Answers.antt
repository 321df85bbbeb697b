-- What a call answers, and how the causes of a refusal decide it.
use Rattle.std.specs.Prelude.{ℕ, Bool, cond, List, [], ◌∷◌}

-- granted; or denied, with the refusal's number and the values that go with it
pub data Answer : Type 0 where
  granted : Answer
  denied : (number : ℕ) (values : List ℕ) → Answer

-- a cause of refusal: whether it is there, its number, and the values that go with it
abbrev pub Cause : Type 0
Cause = Bool × ℕ × List ℕ

-- the first cause that is there decides; with none the call is granted
abbrev pub answer : List Cause → Answer
answer [] = granted
answer (x ∷ xs) = cond x.0 (denied x.1 x.2) (answer xs)

-- the first of two things where a call is granted, else the second
abbrev pub if_granted : {A : Type 0} → Answer → A → A → A
if_granted granted x y = x
if_granted (denied n vs) x y = y

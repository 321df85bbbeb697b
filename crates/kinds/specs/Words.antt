-- Words that come from outside: each has to be an element.
use Rattle.std.specs.Prelude.{ℕ, suc, ◌+◌, cond, List, [], ◌∷◌, length, nat_lt}
use Rattle.field.specs.Field.{p}
use Rattle.kinds.specs.Answers.{Cause}

-- how many words stand before the first that is no element
abbrev pub first_bad : List ℕ → ℕ
first_bad [] = 0
first_bad (x ∷ xs) = cond (nat_lt x p) (suc (first_bad xs)) 0

-- refusal 7, with the index of that word
abbrev pub not_elements : List ℕ → Cause
not_elements xs = (nat_lt (first_bad xs) (length xs), 7, first_bad xs ∷ [])

-- the same where n words stand before these, so that the index is counted past them
abbrev pub not_elements_past : ℕ → List ℕ → Cause
not_elements_past n xs = (nat_lt (first_bad xs) (length xs), 7, (n + first_bad xs) ∷ [])

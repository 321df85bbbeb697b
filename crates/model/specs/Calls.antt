-- What a caller can ask of a lot while it is filled, and what is refused.
use Rattle.std.specs.Prelude.{ℕ, ◌^◌, Bool, not, List, [], ◌∷◌, length, nat_le, nat_lt}
use Rattle.kinds.specs.Answers.{Answer, Cause}
use Rattle.kinds.specs.Words.{not_elements}
use Rattle.kinds.specs.Permuting.{bad_buffer}
use Rattle.sponge.specs.Calls.{bad_length}

-- the numbers are the caller's: none is assumed to be in range
pub data Call : Type 0 where
  making : (depth : ℕ) → Call
  begin : (station place stated : ℕ) → Call
  feed : (station word : ℕ) → Call
  -- eight words; the laws hold for any number of them
  feed_eight : (station : ℕ) (words : List ℕ) → Call
  seal : (station : ℕ) → Call
  abandon : (station : ℕ) → Call
  clear : (place : ℕ) → Call
  root : (buffer : List ℕ) → Call

-- each call with its answer, the newest first
abbrev pub History : Type 0
History = List (Call × Answer)

-- refusal 1: a depth is at most 8
abbrev pub too_deep : ℕ → Cause
too_deep depth = (nat_lt 8 depth, 1, [])

-- refusal 2: stations are 0 to 7
abbrev pub no_station : ℕ → Cause
no_station s = (nat_lt 7 s, 2, [])

-- refusal 3: the places of a tree are 0 to 2 ^ depth - 1
abbrev pub no_place : ℕ → ℕ → Cause
no_place depth place = (nat_le (2 ^ depth) place, 3, [])

-- the causes that a call can be refused for, in their order: by the digest size, the lot's depth, which stations are
-- idle, and how many elements each lacks of its stated length
abbrev pub causes : ℕ → ℕ → (ℕ → Bool) → (ℕ → ℕ) → Call → List Cause
causes w depth idle lacks (making d) = too_deep d ∷ []
causes w depth idle lacks (begin s p n) = no_station s ∷ no_place depth p ∷ bad_length n ∷ (not (idle s), 5, []) ∷ []
causes w depth idle lacks (feed s x) = no_station s ∷ (idle s, 6, []) ∷ not_elements (x ∷ []) ∷ (nat_lt (lacks s) 1, 8, []) ∷ []
causes w depth idle lacks (feed_eight s xs) = no_station s ∷ (idle s, 6, []) ∷ not_elements xs ∷ (nat_lt (lacks s) (length xs), 8, []) ∷ []
causes w depth idle lacks (seal s) = no_station s ∷ (idle s, 6, []) ∷ (nat_lt 0 (lacks s), 9, []) ∷ []
causes w depth idle lacks (abandon s) = no_station s ∷ (idle s, 6, []) ∷ []
causes w depth idle lacks (clear p) = no_place depth p ∷ []
causes w depth idle lacks (root b) = bad_buffer w b ∷ []

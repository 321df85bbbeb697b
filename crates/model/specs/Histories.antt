-- What calls and their answers alone say of stations and places.
use Rattle.std.specs.Prelude.{ℕ, ◌-◌, Bool, true, false, cond, List, [], ◌∷◌, ◌++◌, length, Some, None, Option, ◌==◌}
use Rattle.kinds.specs.Answers.{if_granted}
use Rattle.model.specs.Calls.{Call, making, begin, feed, feed_eight, seal, abandon, clear, root, History}

-- what a station has in hand: nothing, or a record begun for a place, with the length stated for it and its elements so far
pub data Hand : Type 0 where
  nothing : Hand
  holding : (place stated : ℕ) (elements : List ℕ) → Hand

-- the hand with more elements at the end of its record
abbrev pub with_more : Hand → List ℕ → Hand
with_more nothing ys = nothing
with_more (holding p n xs) ys = holding p n (xs ++ ys)

-- whether no record is in hand
abbrev pub is_nothing : Hand → Bool
is_nothing nothing = true
is_nothing (holding p n xs) = false

-- how many elements a record in hand is short of its stated length
abbrev pub short_of : Hand → ℕ
short_of nothing = 0
short_of (holding p n xs) = n - length xs

-- the hand of station s after a granted call, from its hand before
abbrev pub hand_after : Call → ℕ → Hand → Hand
hand_after (making d) s before = nothing
hand_after (begin t p n) s before = cond (t == s) (holding p n []) before
hand_after (feed t x) s before = cond (t == s) (with_more before (x ∷ [])) before
hand_after (feed_eight t xs) s before = cond (t == s) (with_more before xs) before
hand_after (seal t) s before = cond (t == s) nothing before
hand_after (abandon t) s before = cond (t == s) nothing before
hand_after (clear p) s before = before
hand_after (root b) s before = before

-- the record in hand at a station: the elements granted there since its last granted begin, in order
abbrev pub in_hand : History → ℕ → Hand
in_hand [] s = nothing
in_hand (e ∷ h) s = if_granted e.1 (hand_after e.0 s (in_hand h s)) (in_hand h s)

-- the record of place p after the hand is sealed
abbrev pub sealed_from : Hand → ℕ → Option (List ℕ) → Option (List ℕ)
sealed_from nothing p before = before
sealed_from (holding q n xs) p before = cond (q == p) (Some xs) before

-- the record of place p after a granted call, from the hands and its record before
abbrev pub record_after : Call → (ℕ → Hand) → ℕ → Option (List ℕ) → Option (List ℕ)
record_after (making d) hands p before = None
record_after (begin t q n) hands p before = before
record_after (feed t x) hands p before = before
record_after (feed_eight t xs) hands p before = before
record_after (seal t) hands p before = sealed_from (hands t) p before
record_after (abandon t) hands p before = before
record_after (clear q) hands p before = cond (q == p) None before
record_after (root b) hands p before = before

-- the last record of place p: that of the last granted seal there since the lot was last newly made, or None where
-- there is none or a granted clear of the place came later
abbrev pub last_record : History → ℕ → Option (List ℕ)
last_record [] p = None
last_record (e ∷ h) p = if_granted e.1 (record_after e.0 (in_hand h) p (last_record h p)) (last_record h p)

-- the depth after a granted call
abbrev pub depth_after : Call → ℕ → ℕ
depth_after (making d) before = d
depth_after (begin t q n) before = before
depth_after (feed t x) before = before
depth_after (feed_eight t xs) before = before
depth_after (seal t) before = before
depth_after (abandon t) before = before
depth_after (clear q) before = before
depth_after (root b) before = before

-- the depth of a lot that was first made with depth d
abbrev pub depth_of : ℕ → History → ℕ
depth_of d [] = d
depth_of d (e ∷ h) = if_granted e.1 (depth_after e.0 (depth_of d h)) (depth_of d h)

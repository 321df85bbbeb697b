-- A lot as the program keeps it, without what is stale in memory, and what each call answers and leaves.
use Rattle.std.specs.Prelude.{ℕ, ◌+◌, ◌-◌, ◌^◌, Bool, true, false, List, [], ◌∷◌, length, replicate, slice_index_or, slice_set}
use Rattle.kinds.specs.Answers.{Answer, answer, if_granted}
use Rattle.sponge.specs.Streams.{Stream, fed_all, begun, finished}
use Rattle.model.specs.Calls.{Call, making, begin, feed, feed_eight, seal, abandon, clear, root, History, causes}
use Rattle.model.specs.Trees.{lot_start, tree_value}

-- idle; or busy with a record for a place: its stated length, how many elements it got, and the sponge they went into
pub data Station : Type 0 where
  idle : Station
  busy : (place stated got : ℕ) (sponge : Stream) → Station

-- the depth, the leaf at each place, and the eight stations
pub record Lot : Type 0 where
  pub depth : ℕ
  pub leaves : List (List ℕ)
  pub stations : List Station

-- a lot of depth d just made: no place has a record, and each station is idle
abbrev pub newly_made : ℕ → ℕ → Lot
newly_made w d = record { depth = d; leaves = replicate (2 ^ d) (replicate w 0); stations = replicate 8 idle }

-- station s; past the eight, an idle one
abbrev pub station_at : Lot → ℕ → Station
station_at l s = slice_index_or l.stations s idle

-- the leaf at place p; past the places, w zeros
abbrev pub leaf_at : ℕ → List (List ℕ) → ℕ → List ℕ
leaf_at w ls p = slice_index_or ls p (replicate w 0)

-- whether a station has no record in hand
abbrev pub is_idle : Station → Bool
is_idle idle = true
is_idle (busy p n g s) = false

-- how many elements a station lacks of its stated length
abbrev pub lacks : Station → ℕ
lacks idle = 0
lacks (busy p n g s) = n - g

-- the answer to a call, by what the lot has
abbrev pub answer_to : ℕ → Lot → Call → Answer
answer_to w l k = answer (causes w l.depth (λ s. is_idle (station_at l s)) (λ s. lacks (station_at l s)) k)

-- the lot with station s replaced
abbrev pub with_station : Lot → ℕ → Station → Lot
with_station l s v = record { depth = l.depth; leaves = l.leaves; stations = slice_set l.stations s v }

module _ (c w : ℕ) (F : List ℕ → List ℕ) where
  -- a station that has just begun a record of n elements for place p
  abbrev pub begun_for : ℕ → ℕ → Station
  begun_for p n = busy p n 0 (begun c w (lot_start w n))

  -- a station after more elements; an idle one takes none
  abbrev pub fed_with : Station → List ℕ → Station
  fed_with idle xs = idle
  fed_with (busy p n g s) xs = busy p n (g + length xs) (fed_all c w F s xs)

  -- the leaves after a station's record is sealed
  abbrev pub sealed_into : List (List ℕ) → Station → List (List ℕ)
  sealed_into ls idle = ls
  sealed_into ls (busy p n g s) = slice_set ls p (finished c w F s)

  -- the lot after a granted call
  abbrev pub effect : Lot → Call → Lot
  effect l (making d) = newly_made w d
  effect l (begin s p n) = with_station l s (begun_for p n)
  effect l (feed s x) = with_station l s (fed_with (station_at l s) (x ∷ []))
  effect l (feed_eight s xs) = with_station l s (fed_with (station_at l s) xs)
  effect l (seal s) = record { depth = l.depth; leaves = sealed_into l.leaves (station_at l s); stations = slice_set l.stations s idle }
  effect l (abandon s) = with_station l s idle
  effect l (clear p) = record { depth = l.depth; leaves = slice_set l.leaves p (replicate w 0); stations = l.stations }
  effect l (root b) = l

  -- what a granted call leaves in its buffer, if it has one
  abbrev pub written : Lot → Call → List ℕ
  written l (root b) = tree_value c w F l.depth (leaf_at w l.leaves)
  written l (making d) = []
  written l (begin s p n) = []
  written l (feed s x) = []
  written l (feed_eight s xs) = []
  written l (seal s) = []
  written l (abandon s) = []
  written l (clear p) = []

  -- the buffer that a call brings
  abbrev pub brought : Call → List ℕ
  brought (root b) = b
  brought (making d) = []
  brought (begin s p n) = []
  brought (feed s x) = []
  brought (feed_eight s xs) = []
  brought (seal s) = []
  brought (abandon s) = []
  brought (clear p) = []

  -- the lot after a call, the answer, and the buffer after: a denied call leaves the lot and the buffer as they were
  abbrev pub step : Lot → Call → Lot × Answer × List ℕ
  step l k = (if_granted (answer_to w l k) (effect l k) l, answer_to w l k, if_granted (answer_to w l k) (written l k) (brought k))

  -- the lot and the history after calls
  abbrev pub run : (Lot × History) → List Call → (Lot × History)
  run at [] = at
  run at (k ∷ ks) = run ((step at.0 k).0, (k, (step at.0 k).1) ∷ at.1) ks

  -- the lot after calls, from a newly made one of depth d
  abbrev pub lot_after : ℕ → List Call → Lot
  lot_after d ks = (run (newly_made w d, []) ks).0

  -- the history of those calls
  abbrev pub history_of : ℕ → List Call → History
  history_of d ks = (run (newly_made w d, []) ks).1

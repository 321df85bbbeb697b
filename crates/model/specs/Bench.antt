-- The bench in its own words: places hold records, stations hold the record in hand. Worked out from the history alone,
-- and tied to the program's lot by a relation.
use Rattle.std.specs.Prelude.{◌≡◌, ℕ, ◌^◌, List, [], length, Option}
use Rattle.kinds.specs.Answers.{Answer, answer, if_granted}
use Rattle.sponge.specs.Streams.{fed_all, begun}
use Rattle.model.specs.Calls.{Call, making, begin, feed, feed_eight, seal, abandon, clear, root, History, causes}
use Rattle.model.specs.Histories.{Hand, nothing, holding, is_nothing, short_of, in_hand, last_record, depth_of}
use Rattle.model.specs.Trees.{lot_start, leaf, tree_value, path_of}
use Rattle.model.specs.Lots.{Lot, Station, idle, busy, station_at, leaf_at}
use Rattle.model.specs.Closed.{closed_root_answer, open_answer}

-- the depth, the record of each place, and what each station has in hand
pub record Bench : Type 0 where
  pub depth : ℕ
  pub records : ℕ → Option (List ℕ)
  pub hands : ℕ → Hand

-- the bench that a history tells, of a lot that was first made with depth d
abbrev pub bench_of : ℕ → History → Bench
bench_of d h = record { depth = depth_of d h; records = last_record h; hands = in_hand h }

module _ (c w : ℕ) (F : List ℕ → List ℕ) where
  -- the station that keeps what is in hand
  abbrev pub kept : Hand → Station
  kept nothing = idle
  kept (holding p n xs) = busy p n (length xs) (fed_all c w F (begun c w (lot_start w n)) xs)

  -- the lot keeps the bench: its depth, the leaf of the record at each place, and what each station has in hand
  pub record Keeps (b : Bench) (l : Lot) : Type 0 where
    pub depth_same : l.depth ≡ b.depth
    pub leaves_long : length l.leaves ≡ 2 ^ b.depth
    pub leaf_kept : (p : ℕ) → leaf_at w l.leaves p ≡ leaf c w F (b.records p)
    pub hand_kept : (s : ℕ) → station_at l s ≡ kept (b.hands s)

  -- the tree value of the records
  abbrev pub root_of : Bench → List ℕ
  root_of b = tree_value c w F b.depth (λ p. leaf c w F (b.records p))

  -- what the bench answers to a call
  abbrev pub bench_answer : Bench → Call → Answer
  bench_answer b k = answer (causes w b.depth (λ s. is_nothing (b.hands s)) (λ s. short_of (b.hands s)) k)

  -- what it leaves in the buffer; root alone has one
  abbrev pub bench_buffer : Bench → Call → List ℕ
  bench_buffer b (root out) = if_granted (bench_answer b (root out)) (root_of b) out
  bench_buffer b (making d) = []
  bench_buffer b (begin s p n) = []
  bench_buffer b (feed s x) = []
  bench_buffer b (feed_eight s xs) = []
  bench_buffer b (seal s) = []
  bench_buffer b (abandon s) = []
  bench_buffer b (clear p) = []

  -- what it answers to root once it is closed, and what it leaves in the buffer
  abbrev pub bench_closed_root : Bench → List ℕ → Answer × List ℕ
  bench_closed_root b out = (closed_root_answer w out, if_granted (closed_root_answer w out) (root_of b) out)

  -- the same of open at a place
  abbrev pub bench_open : Bench → ℕ → List ℕ → Answer × List ℕ
  bench_open b place out =
      (open_answer w b.depth place out, if_granted (open_answer w b.depth place out) (path_of c w F b.depth (λ p. leaf c w F (b.records p)) place) out)

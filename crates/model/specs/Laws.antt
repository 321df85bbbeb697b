-- The laws of a lot over whole runs, for every kind with capacity size c, digest size w and mapping F.
use Rattle.std.specs.Prelude.{◌≡◌, ℕ, ◌+◌, ◌-◌, ◌^◌, ◌<◌, ◌≤◌, List, [], slice_index_or}
use Rattle.kinds.specs.Answers.{if_granted}
use Rattle.model.specs.Calls.{Call, History}
use Rattle.model.specs.Trees.{node, tree_value, path_of}
use Rattle.model.specs.Bench.{bench_of, Keeps, bench_answer, bench_buffer, bench_closed_root, bench_open}
use Rattle.model.specs.Lots.{Lot, leaf_at, step, lot_after, history_of}
use Rattle.model.specs.Closed.{closed, closed_root_answer, closed_root_call, open_answer, open_call}

module _ (c w : ℕ) (F : List ℕ → List ℕ) where
  -- what holds of a lot and its history after any calls, where it was newly made with a depth of at most 8
  abbrev pub AfterAny : (ℕ → Lot → History → Type 0) → Type 0
  AfterAny P = (d : ℕ) (ks : List Call) → d ≤ 8 → P d (lot_after c w F d ks) (history_of c w F d ks)

  -- the lot keeps the bench that the history tells: so the leaf at each place is the digest of its last record, or w zeros
  abbrev pub KeepsLastRecords : Type 0
  KeepsLastRecords = AfterAny (λ d l h. Keeps c w F (bench_of d h) l)

  -- the next call is answered, and its buffer left, as the calls and answers before tell: root writes the tree value of
  -- the last records
  abbrev pub AnswersTold : Type 0
  AnswersTold = AfterAny (λ d l h. (k : Call) →
      ((step c w F l k).1 ≡ bench_answer c w F (bench_of d h) k) × ((step c w F l k).2 ≡ bench_buffer c w F (bench_of d h) k))

  -- once closed, root writes the tree value of the last records, and open the path of the place in their tree, whatever the
  -- place and the buffer
  abbrev pub ClosedTold : Type 0
  ClosedTold = AfterAny (λ d l h. (place : ℕ) (out : List ℕ) →
      (closed_root_call w (closed c w F l) out ≡ bench_closed_root c w F (bench_of d h) out) × (open_call w (closed c w F l) place out ≡ bench_open c w F (bench_of d h) place out))

  -- what a lot keeps and answers, while it is filled and once it is closed
  pub record LotLaws : Type 0 where
    pub keeps_last_records : KeepsLastRecords
    pub answers_told : AnswersTold
    pub closed_told : ClosedTold

  -- a closed lot has the nodes of each level, and writes the tree value of its leaves and the path of each place
  pub record ClosedLaws : Type 0 where
    pub level_nodes : (l : Lot) (j k : ℕ) → j ≤ l.depth → k < 2 ^ (l.depth - j) →
        slice_index_or (closed c w F l).nodes (2 ^ (l.depth - j) + k) [] ≡ node c w F (leaf_at w l.leaves) j k
    pub root_written : (l : Lot) (out : List ℕ) →
        (closed_root_call w (closed c w F l) out).1 ≡ if_granted (closed_root_answer w out) (tree_value c w F l.depth (leaf_at w l.leaves)) out
    pub path_written : (l : Lot) (place : ℕ) (out : List ℕ) →
        (open_call w (closed c w F l) place out).1 ≡ if_granted (open_answer w l.depth place out) (path_of c w F l.depth (leaf_at w l.leaves) place) out

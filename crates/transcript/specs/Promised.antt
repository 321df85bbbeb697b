-- What is promised of lots, said of lines.
use Rattle.std.specs.Prelude.{◌≡◌, ℕ, ◌^◌, ◌<◌, Bool, true, false, List, [], ◌∷◌, Ok}
use Rattle.kinds.specs.Answers.{Answer, granted, answer}
use Rattle.lines.specs.Lines.{ok_line, numbers_line, heading_word}
use Rattle.lines.specs.declared.writing.Heading.TheVariants as heading
use Rattle.reader.specs.declared.orders.Order.{Order}
use Rattle.reader.specs.declared.orders.Order.TheVariants as order
use Rattle.model.specs.Calls.{Call, History, no_place}
use Rattle.model.specs.Histories.{last_record}
use Rattle.model.specs.Trees.{leaf, tree_value, path_of}
use Rattle.model.specs.Lots.{Lot, history_of}
use Rattle.model.specs.Bench.{bench_of, bench_answer, bench_buffer}
use Rattle.openings.specs.Checks.{check_call}
use Rattle.rpo_kinds.specs.declared.names.KindName.{KindName}
use Rattle.turns.specs.Answers.{answer_line, numbers_told}
use Rattle.script.specs.Stages.{capacity_size, digest_size, mixing}
use Rattle.transcript.specs.Commands.{Asked}
use Rattle.transcript.specs.Lots.{call_of, closes, calls_of, order_line, started_by}

-- the line of a call's answer, and of what it leaves in its buffer
abbrev pub call_line : Order → Answer × List ℕ → ℕ → List ℕ
call_line order.Root x at = numbers_told heading.Root x at
call_line o x at = answer_line x.0 ok_line at

-- of a lot that a start made with this kind and depth
module _ (kind : KindName) (depth : ℕ) where
  -- the calls that commands ask for, with their answers
  abbrev pub history_behind : List Asked → History
  history_behind before = history_of (capacity_size kind) (digest_size kind) (mixing kind) depth (calls_of (digest_size kind) before)

  -- what they alone tell: the answer to a call, with what it leaves in its buffer, and the leaf of the last record of each place
  abbrev pub call_told : List Asked → Call → Answer × List ℕ
  call_told before k =
      let bench = bench_of depth (history_behind before) in
      (bench_answer (capacity_size kind) (digest_size kind) (mixing kind) bench k, bench_buffer (capacity_size kind) (digest_size kind) (mixing kind) bench k)

  -- the leaf of the last record of each place
  abbrev pub leaves_told : List Asked → ℕ → List ℕ
  leaves_told before place = leaf (capacity_size kind) (digest_size kind) (mixing kind) (last_record (history_behind before) place)

  -- the tree value of these leaves
  abbrev pub root_told : List Asked → List ℕ
  root_told before = tree_value (capacity_size kind) (digest_size kind) (mixing kind) depth (leaves_told before)

  -- whether there is such a place, and its path
  abbrev pub path_told : List Asked → ℕ → Answer × List ℕ
  path_told before place =
      (answer (no_place depth place ∷ []), path_of (capacity_size kind) (digest_size kind) (mixing kind) depth (leaves_told before) place)

  -- the lines behind these commands
  pub record LinesTold (before : List Asked) : Type 0 where
    -- until the close, that of each call is told by the calls and answers before
    pub call_lines : (o : Order) (k : Call) (at : ℕ) → closes before ≡ false → call_of (digest_size kind) o ≡ k ∷ [] → order_line kind depth before o at ≡ call_line o (call_told before k) at
    -- until the close and behind it, root prints the tree value of the last records
    pub root_line : (at : ℕ) → order_line kind depth before order.Root at ≡ numbers_line (heading_word heading.Root) (root_told before)
    -- behind it, open prints the path of a place in their tree, unless there is no such place
    pub open_line : (place at : ℕ) → closes before ≡ true → order_line kind depth before (order.Open place) at ≡ numbers_told heading.Path (path_told before place) at
    -- and under that root the check accepts that path, with the last record of the place, or nothing, as the claim
    pub accepted : (place : ℕ) → place < 2 ^ depth →
        ◌≡◌ {A = Answer × Bool} (check_call (capacity_size kind) (digest_size kind) (mixing kind) (root_told before) depth place (last_record (history_behind before) place) (path_told before place).1) (granted, true)

  -- the same last record at each place
  abbrev pub SameRecords : List Asked → List Asked → Type 0
  SameRecords one other = (place : ℕ) → place < 2 ^ depth → last_record (history_behind one) place ≡ last_record (history_behind other) place

  -- whatever stations did, and when: with the same last records the lines are the same
  pub record LinesAlike (one other : List Asked) : Type 0 where
    pub same_root : (at : ℕ) → order_line kind depth one order.Root at ≡ order_line kind depth other order.Root at
    pub same_path : (place at : ℕ) → closes one ≡ true → closes other ≡ true → order_line kind depth one (order.Open place) at ≡ order_line kind depth other (order.Open place) at

-- behind any start that is granted, whatever the commands
pub record LinesPromised : Type 0 where
  pub told : (start : Asked) (lot : KindName × Lot) (before : List Asked) → started_by start ≡ Ok lot → LinesTold lot.0 lot.1.depth before
  pub alike : (start : Asked) (lot : KindName × Lot) (one other : List Asked) → started_by start ≡ Ok lot → SameRecords lot.0 lot.1.depth one other → LinesAlike lot.0 lot.1.depth one other

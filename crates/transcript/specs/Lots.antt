-- Whole scripts: one line for each command, and each is told by the lot that the calls of the commands before it leave.
use Rattle.std.specs.Prelude.{◌≡◌, ℕ, Bool, true, false, cond, List, [], ◌∷◌, ◌++◌, replicate, Ok, Err, Result}
use Rattle.std.specs.List.{concat}
use Rattle.lines.specs.Lines.{ok_line}
use Rattle.reader.specs.declared.orders.Order.{Order}
use Rattle.reader.specs.declared.orders.Order.TheVariants as order
use Rattle.reader.specs.declared.fault.ScriptFault.{ScriptFault}
use Rattle.reader.specs.declared.fault.ScriptFault.TheVariants as fault
use Rattle.model.specs.Calls.{Call, begin, feed, feed_eight, seal, abandon, clear, root}
use Rattle.model.specs.Lots.{Lot, lot_after}
use Rattle.model.specs.Closed.{closed}
use Rattle.rpo_kinds.specs.declared.names.KindName.{KindName}
use Rattle.turns.specs.Answers.{fault_line}
use Rattle.turns.specs.Turns.{filled, asked}
use Rattle.script.specs.Stages.{capacity_size, digest_size, mixing, started, start_with}
use Rattle.transcript.specs.Transcripts.{transcript}
use Rattle.transcript.specs.Commands.{Asked, commands}

-- the call of a lot with digests of w numbers that a command asks for, if it asks for one
abbrev pub call_of : ℕ → Order → List Call
call_of w (order.Begin s p n) = begin s p n ∷ []
call_of w (order.Feed s x) = feed s x ∷ []
call_of w (order.FeedEight s xs) = feed_eight s xs ∷ []
call_of w (order.Seal s) = seal s ∷ []
call_of w (order.Abandon s) = abandon s ∷ []
call_of w (order.Clear p) = clear p ∷ []
call_of w order.Root = root (replicate w 0) ∷ []
call_of w o = []

-- whether it is a close
abbrev pub is_close : Result Order ScriptFault → Bool
is_close (Ok order.Close) = true
is_close o = false

-- whether a close is among them
abbrev pub closes : List Asked → Bool
closes [] = false
closes (a ∷ more) = cond (is_close a.0) true (closes more)

-- the same of a command or a fault; a fault asks for none
abbrev pub call_asked : ℕ → Result Order ScriptFault → List Call
call_asked w (Ok o) = call_of w o
call_asked w (Err f) = []

-- the calls that commands ask for, up to the close
abbrev pub calls_of : ℕ → List Asked → List Call
calls_of w [] = []
calls_of w (a ∷ more) = cond (is_close a.0) [] (call_asked w a.0 ++ calls_of w more)

module _ (kind : KindName) (depth : ℕ) where
  -- the lot behind commands: what the run of their calls leaves of a lot newly made
  abbrev pub lot_behind : List Asked → Lot
  lot_behind before = lot_after (capacity_size kind) (digest_size kind) (mixing kind) depth (calls_of (digest_size kind) before)

  -- the line of the command behind them: the answer of its call to that lot, or to that lot closed
  abbrev pub order_line : List Asked → Order → ℕ → List ℕ
  order_line before order.Close at = ok_line
  order_line before o at =
      cond (closes before) (asked (digest_size kind) (closed (capacity_size kind) (digest_size kind) (mixing kind) (lot_behind before)) o at)
      (filled (capacity_size kind) (digest_size kind) (mixing kind) (lot_behind before) o at).1

-- the lot that the first command makes, or the fault in its place
abbrev pub started_by : Asked → Result (KindName × Lot) ScriptFault
started_by (Ok (order.Start kind depth), at) = started kind depth at
started_by (Ok o, at) = Err (fault.OutOfPhase at)
started_by (Err f, at) = Err f

-- the line of a command behind others, of which the first made the lot; a first that is denied has none behind it
abbrev pub lot_line : Result (KindName × Lot) ScriptFault → List Asked → Asked → List ℕ
lot_line (Err f) before a = fault_line f a.1
lot_line (Ok l) before (Err f, at) = fault_line f at
lot_line (Ok l) before (Ok o, at) = order_line l.0 l.1.depth before o at

-- the line of a command behind others; the first is to be a start
abbrev pub line_behind : List Asked → Asked → List ℕ
line_behind [] a = (start_with (started_by a) a.1).1
line_behind (first ∷ before) a = lot_line (started_by first) before a

-- one line for each command
abbrev pub lines_behind : List Asked → List Asked → List (List ℕ)
lines_behind before [] = []
lines_behind before (a ∷ more) = line_behind before a ∷ lines_behind (before ++ a ∷ []) more

-- the lines of a script are those of its commands
abbrev pub LinesOfCommands : Type 0
LinesOfCommands = (script : List ℕ) → transcript script ≡ concat (lines_behind [] (commands script))

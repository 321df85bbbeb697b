-- A script that is run one line per call.
use Rattle.std.specs.Prelude.{ℕ, ◌+◌, ◌-◌, ◌<◌, ◌≤◌, cond, List, length, Some, None, Ok, Err, Option, Result, nat_lt}
use Rattle.kinds.specs.declared.denial.Denial.{Denial}
use Rattle.kinds.specs.declared.denial.Denial.TheVariants as denial
use Rattle.lines.specs.Lines.{over}
use Rattle.reader.specs.declared.phases.Phase.{Phase}
use Rattle.reader.specs.declared.fault.ScriptFault.TheVariants as fault
use Rattle.reader.specs.Commands.{Reading, read_at}
use Rattle.reader.specs.Orders.{order_of}
use Rattle.reader.specs.Phases.{in_phase}
use Rattle.turns.specs.Answers.{fault_line}
use Rattle.script.specs.Stages.{Stage, before, ended, phase_in, act}

-- the script, the offset of the next command, and how far the reading has come
pub record Run : Type 0 where
  pub script : List ℕ
  pub at : ℕ
  pub stage : Stage

-- a run at the start of a script
abbrev pub fresh : List ℕ → Run
fresh script = record { script = script; at = 0; stage = before }

-- refusal 16: a command out of its phase
abbrev pub phased : Phase → ℕ → Option Reading → Option Reading
phased p at None = None
phased p at (Some (Err f)) = Some (Err f)
phased p at (Some (Ok x)) = Some (cond (in_phase p x.0.verb) (Ok x) (Err (fault.OutOfPhase at)))

-- refusal 17: a script above 65,536 bytes
abbrev pub next_in : Option Phase → Run → Option Reading
next_in None r = None
next_in (Some p) r = cond (nat_lt 65536 (length r.script)) (Some (Err fault.TooLong)) (phased p r.at (read_at r.script r.at))

-- the command that is next, or the fault that stands there; none where the reading is at its end
unfoldable pub next_command : Run → Option Reading
next_command r = next_in (phase_in r.stage) r

-- the run after a command or a fault, and the line; a fault of the script ends the reading
unfoldable pub turn : Run → Reading → Run × List ℕ
turn r (Err f) = (record { script = r.script; at = r.at; stage = ended }, fault_line f r.at)
turn r (Ok x) = (record { script = r.script; at = x.1; stage = (act r.stage (order_of x.0) r.at).0 }, (act r.stage (order_of x.0) r.at).1)

-- what a call leaves that has room for a line, and what it answers: none, or how long the line is
abbrev pub line_of : Run → List ℕ → Option Reading → Run × List ℕ × Result (Option ℕ) Denial
line_of r out None = (r, out, Ok None)
line_of r out (Some x) = ((turn r x).0, over (turn r x).1 out, Ok (Some (length (turn r x).1)))

-- refusal 10: a buffer that is shorter than 1,024 bytes; nothing is run then
abbrev pub next_line : Run → List ℕ → Run × List ℕ × Result (Option ℕ) Denial
next_line r out = cond (nat_lt (length out) 1024) (r, out, Err denial.BadBuffer) (line_of r out (next_command r))

-- how much is left to read: it falls with each line
abbrev pub left_by : Option Phase → ℕ → ℕ
left_by None n = 0
left_by (Some p) n = n + 1

-- the same of a run
abbrev pub left : Run → ℕ
left r = left_by (phase_in r.stage) (length r.script - r.at)

-- what a call from run r to run s promises with a line of n bytes
pub record LinePromise (r s : Run) (n : ℕ) : Type 0 where
  pub short : n ≤ 1024
  pub falls : left s < left r

-- what a call promises: with a line that, and with none nothing more
abbrev pub Promised : Run → Run → Result (Option ℕ) Denial → Type 0
Promised r s (Ok (Some n)) = LinePromise r s n
Promised r s (Ok None) = Unit {0}
Promised r s (Err e) = Unit {0}

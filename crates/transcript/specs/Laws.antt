-- What holds of every reading.
use Rattle.std.specs.Prelude.{◌≡◌, ℕ, ◌<◌, ◌≤◌, true, List, length, Some, None, Ok, Err}
use Rattle.kinds.specs.declared.denial.Denial.TheVariants as denial
use Rattle.reader.specs.declared.phases.Phase.{Phase}
use Rattle.reader.specs.declared.verbs.Verb.{Verb}
use Rattle.reader.specs.Orders.{ordered}
use Rattle.reader.specs.Phases.{in_phase}
use Rattle.reader.specs.declared.orders.Order.TheVariants as order
use Rattle.reader.specs.declared.fault.ScriptFault.{ScriptFault}
use Rattle.script.specs.Stages.{Stage, before, phase_in, started, act}
use Rattle.script.specs.Runs.{Run, turn, next_line}
use Rattle.transcript.specs.Commands.{phase_behind}

-- what ends a reading, and what does not
pub record ReadingLaws : Type 0 where
  -- a buffer that is too short is denied, and nothing is run
  pub short_keeps : (r : Run) (out : List ℕ) → length out < 1024 → next_line r out ≡ (r, out, Err denial.BadBuffer)
  -- after the reading has ended no line comes, and the buffer is kept
  pub ended_stays : (r : Run) (out : List ℕ) → 1024 ≤ length out → phase_in r.stage ≡ None → next_line r out ≡ (r, out, Ok None)
  -- whatever fault stands in a command's place, it ends the reading
  pub fault_ends : (r : Run) (f : ScriptFault) → phase_in (turn r (Err f)).0.stage ≡ None
  -- so does a start that is denied
  pub denied_start_ends : (kind depth at : ℕ) (f : ScriptFault) → started kind depth at ≡ Err f → phase_in (act before (order.Start kind depth) at).0 ≡ None
  -- a command in its phase leaves the phase that its kind says, whatever the lot answers: a start that is granted begins the filling, close ends it, the others change nothing
  pub goes_on : (s : Stage) (p : Phase) (v : Verb) (bytes : List ℕ) (at : ℕ) → phase_in s ≡ Some p → in_phase p v ≡ true
      → phase_in (act s (ordered v bytes) at).0 ≡ phase_behind p (ordered v bytes) at

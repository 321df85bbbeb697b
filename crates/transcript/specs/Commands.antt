-- The commands of a script, as its bytes alone tell them: no lot is asked.
use Rattle.std.specs.Prelude.{ℕ, zero, suc, ◌+◌, cond, List, [], ◌∷◌, length, Some, None, Ok, Err, Option, Result, nat_lt}
use Rattle.model.specs.Lots.{Lot}
use Rattle.rpo_kinds.specs.declared.names.KindName.{KindName}
use Rattle.reader.specs.declared.orders.Order.{Order}
use Rattle.reader.specs.declared.orders.Order.TheVariants as order
use Rattle.reader.specs.declared.phases.Phase.{Phase}
use Rattle.reader.specs.declared.phases.Phase.TheVariants as phase
use Rattle.reader.specs.declared.fault.ScriptFault.{ScriptFault}
use Rattle.reader.specs.declared.fault.ScriptFault.TheVariants as fault
use Rattle.reader.specs.Commands.{Reading, read_at}
use Rattle.reader.specs.Orders.{order_of}
use Rattle.script.specs.Stages.{started}
use Rattle.script.specs.Runs.{phased}

-- a command, or the fault that stands in its place, and the offset
abbrev pub Asked : Type 0
Asked = Result Order ScriptFault × ℕ

-- the phase behind a command; none behind a start that is denied
abbrev pub phase_started : Result (KindName × Lot) ScriptFault → Option Phase
phase_started (Ok l) = Some phase.Filling
phase_started (Err f) = None

-- the phase behind a command that was in its phase
abbrev pub phase_behind : Phase → Order → ℕ → Option Phase
phase_behind p (order.Start kind depth) at = phase_started (started kind depth at)
phase_behind p order.Close at = Some phase.Closed
phase_behind p o at = Some p

-- a command, if there is one, and those behind it; behind a fault there are none
abbrev pub with_command : Option Reading → ℕ → (Order → ℕ → List Asked) → List Asked
with_command None at rest = []
with_command (Some (Err f)) at rest = (Err f, at) ∷ []
with_command (Some (Ok x)) at rest = (Ok (order_of x.0), at) ∷ rest (order_of x.0) x.1

-- the commands from an offset on, at most n of them, in a phase
abbrev pub commands_from : List ℕ → ℕ → Option Phase → ℕ → List Asked
commands_from script zero p at = []
commands_from script (suc n) None at = []
commands_from script (suc n) (Some p) at = with_command (phased p at (read_at script at)) at (λ o next. commands_from script n (phase_behind p o at) next)

-- a script that is too long has that fault alone; else there is at most a command for each byte
unfoldable pub commands : List ℕ → List Asked
commands script = cond (nat_lt 65536 (length script)) ((Err fault.TooLong, 0) ∷ []) (commands_from script (length script + 1) (Some phase.Before) 0)

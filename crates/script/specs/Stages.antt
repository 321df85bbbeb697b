-- How far the reading of a script has come, and what a command does there.
use Rattle.std.specs.Prelude.{ℕ, cond, List, Some, None, Ok, Err, Option, Result, nat_lt}
use Rattle.kinds.specs.declared.denial.Denial.{Denial}
use Rattle.kinds.specs.declared.denial.Denial.TheVariants as denial
use Rattle.kinds.specs.Kinds.{drill}
use Rattle.rpo_kinds.specs.Mappings.{rpo_128, rpo_160}
use Rattle.rpo_kinds.specs.Names.{name_of}
use Rattle.rpo_kinds.specs.declared.names.KindName.{KindName}
use Rattle.rpo_kinds.specs.declared.names.KindName.TheVariants as kind
use Rattle.model.specs.Lots.{Lot, newly_made}
use Rattle.model.specs.Closed as model
use Rattle.lines.specs.Lines.{ok_line}
use Rattle.reader.specs.declared.orders.Order.{Order}
use Rattle.reader.specs.declared.orders.Order.TheVariants as order
use Rattle.reader.specs.declared.phases.Phase.{Phase}
use Rattle.reader.specs.declared.phases.Phase.TheVariants as phase
use Rattle.reader.specs.declared.fault.ScriptFault.{ScriptFault}
use Rattle.reader.specs.declared.fault.ScriptFault.TheVariants as fault
use Rattle.turns.specs.Answers.{fault_line}
use Rattle.turns.specs.Turns.{filled, asked}

-- how many elements of a state are the capacity, at each kind that a script can name
abbrev pub capacity_size : KindName → ℕ
capacity_size kind.Drill = 1
capacity_size kind.Rpo128 = 4
capacity_size kind.Rpo160 = 6

-- how many words a digest has
abbrev pub digest_size : KindName → ℕ
digest_size kind.Drill = 1
digest_size kind.Rpo128 = 4
digest_size kind.Rpo160 = 5

-- the mapping
abbrev pub mixing : KindName → List ℕ → List ℕ
mixing kind.Drill = drill
mixing kind.Rpo128 = rpo_128
mixing kind.Rpo160 = rpo_160

-- a command on a lot while it is filled, and its line
abbrev pub any_filled : KindName × Lot → Order → ℕ → (KindName × Lot) × List ℕ
any_filled l o at =
    ((l.0, (filled (capacity_size l.0) (digest_size l.0) (mixing l.0) l.1 o at).0), (filled (capacity_size l.0) (digest_size l.0) (mixing l.0) l.1 o at).1)

-- the lot, closed
abbrev pub any_closed : KindName × Lot → KindName × model.Closed
any_closed l = (l.0, model.closed (capacity_size l.0) (digest_size l.0) (mixing l.0) l.1)

-- the line of a command on a closed lot
abbrev pub any_asked : KindName × model.Closed → Order → ℕ → List ℕ
any_asked l o at = asked (digest_size l.0) l.1 o at

-- refusal 1: depth above 8
abbrev pub new_lot : ℕ → ℕ → Result Lot Denial
new_lot w depth = cond (nat_lt 8 depth) (Err denial.DepthTooLarge) (Ok (newly_made w depth))

-- a lot with the name of its kind
abbrev pub named_lot : KindName → Result Lot Denial → Result (KindName × Lot) ScriptFault
named_lot k (Ok l) = Ok (k, l)
named_lot k (Err d) = Err (fault.Denied d)

-- refusal 18 (unknown kind), then 1
abbrev pub started_as : Option KindName → ℕ → ℕ → Result (KindName × Lot) ScriptFault
started_as None depth at = Err (fault.UnknownKind at)
started_as (Some k) depth at = named_lot k (new_lot (digest_size k) depth)

-- the lot that a start of that kind byte and depth makes, or why it is denied
abbrev pub started : ℕ → ℕ → ℕ → Result (KindName × Lot) ScriptFault
started byte depth at = started_as (name_of byte) depth at

-- before the start, with a lot, with a closed lot, or at the end of the reading
pub data Stage : Type 0 where
  before : Stage
  filling : (lot : KindName × Lot) → Stage
  closed : (lot : KindName × model.Closed) → Stage
  ended : Stage

-- the phase that the next command has to be in; none once the reading has ended
abbrev pub phase_in : Stage → Option Phase
phase_in before = Some phase.Before
phase_in (filling l) = Some phase.Filling
phase_in (closed l) = Some phase.Closed
phase_in ended = None

-- what a command leaves, and its line: refusal 16, which ends the reading
abbrev pub out_of_phase : ℕ → Stage × List ℕ
out_of_phase at = (ended, fault_line (fault.OutOfPhase at) at)

-- a start that is denied ends the reading
abbrev pub start_with : Result (KindName × Lot) ScriptFault → ℕ → Stage × List ℕ
start_with (Ok l) at = (filling l, ok_line)
start_with (Err f) at = (ended, fault_line f at)

-- a start, which makes the lot
abbrev pub start_in : Stage → ℕ → ℕ → ℕ → Stage × List ℕ
start_in before kind depth at = start_with (started kind depth at) at
start_in s kind depth at = out_of_phase at

-- a close, which closes it
abbrev pub close_in : Stage → ℕ → Stage × List ℕ
close_in (filling l) at = (closed (any_closed l), ok_line)
close_in s at = out_of_phase at

-- a command that leaves the phase as it is
abbrev pub run_in : Stage → Order → ℕ → Stage × List ℕ
run_in (filling l) o at = (filling (any_filled l o at).0, (any_filled l o at).1)
run_in (closed l) o at = (closed l, any_asked l o at)
run_in s o at = out_of_phase at

-- a command that is in its phase
unfoldable pub act : Stage → Order → ℕ → Stage × List ℕ
act s (order.Start kind depth) at = start_in s kind depth at
act s order.Close at = close_in s at
act s o at = run_in s o at

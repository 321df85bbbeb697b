-- What the program's types show of a run.
use Rattle.std.specs.Prelude.{Ok, Err, Result}
use Rattle.model.specs.Lots.{Lot}
use Rattle.rpo_kinds.specs.declared.names.KindName.{KindName}
use Rattle.rpo_kinds.specs.declared.names.KindName.TheVariants as kind
use Rattle.reader.specs.declared.fault.ScriptFault.{ScriptFault}
use Rattle.script.specs.declared.any.OfKind.{OfKind}
use Rattle.script.specs.declared.any.OfKind.TheVariants as of
use Rattle.script.specs.declared.stage.Stage as declared
use Rattle.script.specs.declared.stage.Stage.TheVariants as stage
use Rattle.script.specs.Stages.{Stage, before, filling, closed, ended}

-- a lot, or a closed lot, with the name of its kind
abbrev pub shown_kind : {L : Type 0} → OfKind L L L → KindName × L
shown_kind (of.Drill l) = (kind.Drill, l)
shown_kind (of.Rpo128 l) = (kind.Rpo128, l)
shown_kind (of.Rpo160 l) = (kind.Rpo160, l)

-- what a start gives
abbrev pub shown_started : Result (OfKind Lot Lot Lot) ScriptFault → Result (KindName × Lot) ScriptFault
shown_started (Ok l) = Ok (shown_kind l)
shown_started (Err f) = Err f

-- how far the reading has come; lots that wait for a start show nothing
abbrev pub shown_stage : declared.Stage → Stage
shown_stage (stage.Before lots) = before
shown_stage (stage.Filling l) = filling (shown_kind l)
shown_stage (stage.Closed l) = closed (shown_kind l)
shown_stage stage.Ended = ended

-- Which commands are in which phase of a script.
use Rattle.std.specs.Prelude.{Bool, true, false}
use Rattle.reader.specs.declared.verbs.Verb.{Verb}
use Rattle.reader.specs.declared.verbs.Verb.TheVariants as verb
use Rattle.reader.specs.declared.phases.Phase.{Phase}
use Rattle.reader.specs.declared.phases.Phase.TheVariants as phase

-- whether a command may stand before the start, between start and close, and after the close
abbrev pub phases_of : Verb → Bool × Bool × Bool
phases_of verb.Start = (true, false, false)
phases_of verb.Begin = (false, true, false)
phases_of verb.Feed = (false, true, false)
phases_of verb.FeedEight = (false, true, false)
phases_of verb.Seal = (false, true, false)
phases_of verb.Abandon = (false, true, false)
phases_of verb.Clear = (false, true, false)
phases_of verb.Root = (false, true, true)
phases_of verb.Open = (false, false, true)
phases_of verb.Close = (false, true, false)

-- whether a command may stand in a phase
abbrev pub in_phase : Phase → Verb → Bool
in_phase phase.Before v = (phases_of v).0
in_phase phase.Filling v = (phases_of v).1
in_phase phase.Closed v = (phases_of v).2

use Rattle.std.proofs.Common.{arith}
use Rattle.std.proofs.lemmas.Grind.{common_steps}
use Rattle.script.specs.Runs.{next_command}
use Rattle.script.proofs.runner.Runner.next_command.Goals as goal
use Rattle.script.proofs.runner.Runner.next_command.Goals.{in_default-via-in-Ok+else-not-allows, in_default-via-in_default}

pub returns-in_default : goal.returns-in_default
unfolding next_command
returns-in_default c = elim c.in_default.branch [
  | in_default-via-in-Ok+else-not-allows w ↦ rw (← c.self.view_is) (grind (arith, common_steps))
  | in_default-via-in_default w ↦ rw (← c.self.view_is) (grind (arith, common_steps, w.in_default.not-Ok))
]

use Rattle.std.proofs.Common.{◌≡◌, length}
use Rattle.script.specs.Runs.{left}
use Rattle.console.proofs.scripts.print_lines.Given as goal

abbrev pub invariant-loop-n : goal.invariant-loop-n
invariant-loop-n l = length l.line ≡ 1024

abbrev pub decreases-loop-n : goal.decreases-loop-n
decreases-loop-n l = left l.runner

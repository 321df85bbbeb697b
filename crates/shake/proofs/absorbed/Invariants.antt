-- After k turns of the loop the first k blocks are absorbed.
use Rattle.std.proofs.Common.{◌≡◌}
use Rattle.shake.specs.Shake.{absorbed}
use Rattle.shake.proofs.absorbed.Given as goal

abbrev pub invariant-loop-k : goal.invariant-loop-k
invariant-loop-k l = l.lanes ≡ absorbed l.text l.k

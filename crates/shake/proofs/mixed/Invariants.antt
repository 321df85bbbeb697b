-- After j turns of the loop the first j lanes are mixed.
use Rattle.std.proofs.Common.{◌≡◌, take}
use Rattle.shake.specs.Shake.{mixed}
use Rattle.shake.proofs.mixed.Given as goal

abbrev pub invariant-loop-j : goal.invariant-loop-j
invariant-loop-j l = l.lane-items ≡ take 17 (mixed l.text l.i l.fn.lanes l.j)

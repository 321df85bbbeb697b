-- After i turns of the loop the lanes have gone through 2 i rounds.
use Rattle.std.proofs.Common.{◌≡◌, ◌*◌}
use Rattle.keccak.specs.Keccak.{rounds}
use Rattle.keccak.proofs.keccak_f.Given as goal

abbrev pub invariant-loop-i : goal.invariant-loop-i
invariant-loop-i l = l.lanes ≡ rounds l.initial.lanes (2 * l.i)

use Rattle.std.proofs.Common.{◌≡◌, take}
use Rattle.rpo.specs.Permutation.{backward}
use Rattle.rpo.proofs.permutation.RoundsBack.reverse.Given as goal

abbrev pub invariant-loop-r : goal.invariant-loop-r
invariant-loop-r g l =
    backward (take g.row.M l.self.inverse.twice.now) l.self.constants.now l.r l.s ≡ backward (take g.row.M l.self.inverse.twice.now) l.self.constants.now 7 l.initial.s

use Rattle.std.proofs.Common.{◌≡◌, take}
use Rattle.rpo.specs.Permutation.{forward}
use Rattle.rpo.proofs.permutation.Rounds.permute.Given as goal

abbrev pub invariant-loop-r : goal.invariant-loop-r
invariant-loop-r g l = l.s ≡ forward (take g.row.M l.self.small.matrix.twice.now) l.self.constants.now l.r l.initial.s

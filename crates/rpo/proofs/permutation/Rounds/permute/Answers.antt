use Rattle.std.proofs.Common.{take, refl}
use Rattle.rpo.specs.Permutation.{forward}
use Rattle.rpo.proofs.Steps.{forward_more}
use Rattle.rpo.proofs.permutation.Rounds.permute.Goals as goal

pub loop-r-init : goal.loop-r-init
unfolding forward
loop-r-init g c = refl

pub loop-r-preserved : goal.loop-r-preserved
loop-r-preserved g c =
    forward_more (take g.row.M c.args.self.small.matrix.twice.now) c.args.self.constants.now c.loop-r.r c.args.s.now c.loop-r.s c.round.new.s
    c.loop-r.invariant c.round.ensures

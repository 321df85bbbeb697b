use Rattle.std.proofs.Common.{take}
use Rattle.rpo.proofs.Steps.{round_is}
use Rattle.rpo.proofs.Totals.{first_long}
use Rattle.rpo.proofs.permutation.Rounds.round.Goals as goal

pub returns : goal.returns
returns g c =
    round_is g.row.M (take g.row.M c.args.self.small.matrix.twice.now) c.args.self.constants.now c.args.r c.args.s.now c.half.new.s c.half-2.new.s
    (first_long g.row.M c.args.self.small.matrix.twice.now c.args.self.small.matrix.doubled) c.half.ensures c.half-2.ensures

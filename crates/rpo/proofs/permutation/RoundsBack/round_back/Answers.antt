use Rattle.std.proofs.Common.{take}
use Rattle.rpo.proofs.Steps.{round_back_is}
use Rattle.rpo.proofs.Totals.{first_long}
use Rattle.rpo.proofs.permutation.RoundsBack.round_back.Goals as goal

pub returns : goal.returns
returns g c =
    round_back_is g.row.M (take g.row.M c.args.self.inverse.twice.now) c.args.self.constants.now c.args.r c.args.s.now c.half_back.new.s c.half_back-2.new.s
    (first_long g.row.M c.args.self.inverse.twice.now c.args.self.inverse.doubled) c.half_back.ensures c.half_back-2.ensures

use Rattle.std.proofs.Common.{◌≡◌, map, take}
use Rattle.field.specs.Field.{power_of}
use Rattle.rpo.specs.Permutation.{raised}
use Rattle.field.specs.Powers.{exponent_of}
use Rattle.rpo.proofs.Steps.{half_is}
use Rattle.rpo.proofs.Totals.{first_long}
use Rattle.rpo.proofs.permutation.Rounds.half.Goals as goal

pub returns : goal.returns
unfolding raised
returns g c =
    let is : c.raise_each.new.s ≡ map (λ x. power_of x (exponent_of c.args.power)) c.mix.new.s = c.raise_each.ensures in
    half_is g.row.M (take g.row.M c.args.self.small.matrix.twice.now) c.args.constants.now (exponent_of c.args.power) c.args.s.now c.mix.new.s c.raise_each.new.s
    (first_long g.row.M c.args.self.small.matrix.twice.now c.args.self.small.matrix.doubled) c.mix.ensures (is)

use Rattle.std.proofs.Common.{◌≡◌, map, take, ap, ◌∙◌, arith, rules}
use Rattle.field.specs.Field.{Elements, power_of}
use Rattle.field.specs.Powers.{exponent_of}
use Rattle.rpo.specs.Matrix.{times}
use Rattle.rpo.specs.Permutation.{unkeyed, raised, half_back}
use Rattle.rpo.proofs.Steps.{powers_state}
use Rattle.rpo.proofs.permutation.RoundsBack.half_back.Goals as goal

pub unkey-requires : goal.unkey-requires
unkey-requires g c =
    let each : Elements c.raise_each.new.s = (powers_state g.row.M (exponent_of c.args.power) c.args.s.now c.raise_each.new.s (omega arith) c.raise_each.ensures).each in
    search rules

pub returns : goal.returns
unfolding half_back raised
returns g c =
    let is : c.raise_each.new.s ≡ map (λ x. power_of x (exponent_of c.args.power)) c.args.s.now = c.raise_each.ensures in
    c.transform.ensures
    ∙ ap (times (take g.row.M c.args.self.inverse.twice.now)) (c.unkey.ensures ∙ ap (unkeyed c.args.constants.now 0) is)

use Rattle.std.proofs.Common.{◌≡◌, take, ap, ◌∙◌, arith}
use Rattle.rpo.specs.Permutation.{backward}
use Rattle.rpo.proofs.Steps.{backward_less}
use Rattle.rpo.proofs.permutation.RoundsBack.reverse.Goals as goal

pub loop-r-preserved : goal.loop-r-preserved
loop-r-preserved g c =
    backward_less (take g.row.M c.args.self.inverse.twice.now) c.args.self.constants.now c.loop-r.r c.loop-r.s c.round_back.new.s
    (backward (take g.row.M c.args.self.inverse.twice.now) c.args.self.constants.now 7 c.args.s.now)
    c.loop-r-test.true c.loop-r.invariant c.round_back.ensures

pub returns : goal.returns
unfolding backward
returns g c =
    let e : 0 ≡ c.loop-r.r = omega arith in
    ap (λ n. backward (take g.row.M c.args.self.inverse.twice.now) c.args.self.constants.now n c.loop-r.s) e ∙ c.loop-r.invariant

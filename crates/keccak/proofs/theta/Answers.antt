-- Written out, both sides are the same 25 lanes.
use Rattle.keccak.specs.Keccak.{theta}
use Rattle.keccak.proofs.theta.Goals as goal

pub returns : goal.returns
unfolding theta
returns c = simp c.effects-d.ensures

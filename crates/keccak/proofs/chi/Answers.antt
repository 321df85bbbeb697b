-- Written out, both sides are the same 25 lanes.
use Rattle.std.proofs.Common.{refl}
use Rattle.keccak.specs.Keccak.{chi}
use Rattle.keccak.proofs.chi.Goals as goal

pub returns : goal.returns
unfolding chi
returns c = refl

use Rattle.std.proofs.Common.{rules}
use Rattle.lots.proofs.Places.{leaves_zero}
use Rattle.lots.proofs.leaves.Leaves.make.Goals as goal

pub returns : goal.returns
returns g c = search (rules, leaves_zero)

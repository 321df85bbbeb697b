use Rattle.std.proofs.Common.{rules}
use Rattle.lots.proofs.Places.{leaves_put}
use Rattle.lots.proofs.leaves.Leaves.store.Goals as goal

pub returns-then-place-places : goal.returns-then-place-places
returns-then-place-places g c = search (rules, leaves_put)

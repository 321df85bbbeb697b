use Rattle.model.proofs.Order.{order}
use Rattle.model.proofs.order_law.Goals as goal

pub returns : goal.returns
returns g c = order g.met.K.Kind.sound

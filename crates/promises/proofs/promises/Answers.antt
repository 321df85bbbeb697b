use Rattle.model.proofs.Order.{order}
use Rattle.finder.proofs.Shows.{clash_law}
use Rattle.promises.proofs.Opened.{opened}
use Rattle.promises.proofs.promises.Goals as goal

pub returns : goal.returns
returns g c = let sound = g.met.K.Kind.sound in record { order = order sound; clash = clash_law sound; opened = opened sound }

use Rattle.model.proofs.Runs.{lot_laws}
use Rattle.model.proofs.lot_laws.Goals as goal

pub returns : goal.returns
returns g c = lot_laws g.met.K.Kind.sound

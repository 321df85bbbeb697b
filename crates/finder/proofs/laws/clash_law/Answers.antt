use Rattle.finder.proofs.Shows.{clash_law}
use Rattle.finder.proofs.laws.clash_law.Goals as goal

pub returns : goal.returns
returns g c = clash_law g.met.K.Kind.sound

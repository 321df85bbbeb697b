use Rattle.sponge.proofs.Together.{pairs_are_records}
use Rattle.sponge.proofs.laws.pairs_are_records.Goals as goal

pub returns : goal.returns
returns g c = pairs_are_records g.met.K.Kind.sound

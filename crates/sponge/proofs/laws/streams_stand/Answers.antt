use Rattle.sponge.proofs.Joins.{streams_to_digests}
use Rattle.sponge.proofs.laws.streams_stand.Goals as goal

pub returns : goal.returns
returns g c = streams_to_digests g.met.K.Kind.sound

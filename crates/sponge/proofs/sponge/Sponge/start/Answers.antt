use Rattle.sponge.proofs.Sponges.{started}
use Rattle.sponge.proofs.sponge.Sponge.start.Goals as goal

pub returns : goal.returns
returns g c = started g.met.K.Kind.sound c.args.first.word

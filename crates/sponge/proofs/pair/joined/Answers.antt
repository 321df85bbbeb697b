use Rattle.sponge.proofs.Pairs.{laid_pair}
use Rattle.sponge.proofs.pair.joined.Goals as goal

pub returns : goal.returns
returns g c =
    laid_pair g.K.Kind.CAPACITY g.K.Kind.DIGEST c.CAPACITY-c.result c.DIGEST-w.result c.args.a.now c.args.b.now _ _ g.met.K.Kind.sound.m_small c.CAPACITY-c.ensures c.DIGEST-w.ensures c.requires.a.long c.requires.b.long c.copy_from_slice.ensures.after c.copy_from_slice-2.ensures.after

use Rattle.std.proofs.Common.{ap, ◌∙◌}
use Rattle.sponge.specs.Digests.{cut}
use Rattle.sponge.proofs.Pairs.{joined_state}
use Rattle.sponge.proofs.pair.compress.Goals as goal

pub mix-requires : goal.mix-requires
mix-requires g c =
    let k = g.K.Kind in
    rw (c.state_len.ensures, c.joined-words.ensures) (joined_state k.CAPACITY k.DIGEST c.args.a.now c.args.b.now c.requires.a c.requires.b)

pub cut-requires : goal.cut-requires
cut-requires g c =
    let k = g.K.Kind in
    let sound = g.met.K.Kind.sound in
    rw (c.mix.ensures, c.state_len.ensures, c.joined-words.ensures) (sound.keeps _ (joined_state k.CAPACITY k.DIGEST c.args.a.now c.args.b.now c.requires.a c.requires.b))

pub returns : goal.returns
returns g c =
    let k = g.K.Kind in
    c.cut.ensures ∙ ap (cut k.CAPACITY k.DIGEST) (rw (c.state_len.ensures, c.joined-words.ensures) at c.mix.ensures)

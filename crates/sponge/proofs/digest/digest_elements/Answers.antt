use Rattle.std.proofs.Common.{ap, ◌∙◌}
use Rattle.sponge.specs.Digests.{record_digest}
use Rattle.sponge.specs.Streams.{Stream, fed_all, finished}
use Rattle.sponge.proofs.Joins.{streams_to_digests}
use Rattle.sponge.proofs.digest.digest_elements.Goals as goal

pub returns : goal.returns
returns g c =
    let k = g.K.Kind in
    let xs = c.args.words.now in
    c.finish.ensures ∙ ap (finished k.CAPACITY k.DIGEST k.mapping) c.absorb_all.ensures
    ∙ ap (λ (s : Stream). finished k.CAPACITY k.DIGEST k.mapping (fed_all k.CAPACITY k.DIGEST k.mapping s xs)) c.start-sponge.ensures
    ∙ streams_to_digests g.met.K.Kind.sound c.start_for.result.word xs c.start_for.result.below c.requires
    ∙ ap (λ n. record_digest k.CAPACITY k.DIGEST k.mapping n xs) c.start_for.ensures

use Rattle.std.proofs.Common.{ap, ◌∙◌}
use Rattle.std.proofs.lemmas.List.{take_all}
use Rattle.sponge.specs.Streams.{fed_all, held}
use Rattle.sponge.proofs.Feeds.{fed_more}
use Rattle.sponge.proofs.sponge.Sponge.absorb_all.Goals as goal

pub loop-x-preserved : goal.loop-x-preserved
loop-x-preserved g c =
    let k = g.K.Kind in
    fed_more k.CAPACITY k.DIGEST k.mapping (held k.CAPACITY k.DIGEST c.args.self.now) _ _ c.args.words.now c.loop-x.x-index c.loop-x-test.true c.loop-x.invariant c.absorb.ensures

pub returns : goal.returns
returns g c =
    let k = g.K.Kind in
    c.loop-x.invariant ∙ ap (fed_all k.CAPACITY k.DIGEST k.mapping (held k.CAPACITY k.DIGEST c.args.self.now)) (take_all c.loop-x.x-index c.args.words.now c.loop-x-test.false)

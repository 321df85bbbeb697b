use Rattle.std.proofs.Common.{◌≡◌, take}
use Rattle.sponge.specs.Streams.{fed_all, held}
use Rattle.sponge.proofs.sponge.Sponge.absorb_all.Given as goal

abbrev pub invariant-loop-x : goal.invariant-loop-x
invariant-loop-x g l =
    let k = g.K.Kind in
    held k.CAPACITY k.DIGEST l.self ≡ fed_all k.CAPACITY k.DIGEST k.mapping (held k.CAPACITY k.DIGEST l.initial.self) (take l.x-index l.words)

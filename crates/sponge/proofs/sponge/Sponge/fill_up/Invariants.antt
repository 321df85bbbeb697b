use Rattle.std.proofs.Common.{◌≡◌, ◌+◌, ◌-◌, replicate}
use Rattle.sponge.specs.Streams.{fed_all, held}
use Rattle.sponge.proofs.sponge.Sponge.fill_up.Given as goal

abbrev pub invariant-loop : goal.invariant-loop
invariant-loop g l =
    let k = g.K.Kind in
    held k.CAPACITY k.DIGEST l.self ≡ fed_all k.CAPACITY k.DIGEST k.mapping (held k.CAPACITY k.DIGEST l.initial.self) (replicate (l.counter - (l.at + 1)) 0)

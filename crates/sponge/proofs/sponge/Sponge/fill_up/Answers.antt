use Rattle.std.proofs.Common.{◌≡◌, ℕ, ◌+◌, ◌-◌, ◌%◌, ◌<◌, refl, ap, mod-lt, arith}
use Rattle.sponge.specs.Streams.{held}
use Rattle.sponge.proofs.Feeds.{fed_zeros, filled_up}
use Rattle.sponge.proofs.sponge.Sponge.fill_up.Goals as goal

pub loop-init : goal.loop-init
loop-init g c =
    let at = c.args.self.now.filled % c.rate-r.result in
    let none : at + 1 - (at + 1) ≡ 0 = omega arith in
    rw none

pub loop-preserved : goal.loop-preserved
loop-preserved g c =
    let k = g.K.Kind in
    fed_zeros k.CAPACITY k.DIGEST k.mapping (held k.CAPACITY k.DIGEST c.absorb.new.self) _ _ c.loop.counter (c.args.self.now.filled % c.rate-r.result) c.loop.auto.counter c.loop.invariant c.absorb-in-loop.ensures

pub returns : goal.returns
returns g c =
    let k = g.K.Kind in
    let n = c.args.self.now.filled in
    let some : 0 < c.rate-r.result = omega (arith, g.met.K.Kind.sound.w_some) in
    let low : n % c.rate-r.result < c.rate-r.result = mod-lt n some in
    filled_up k.CAPACITY k.DIGEST k.mapping (held k.CAPACITY k.DIGEST c.args.self.now) (held k.CAPACITY k.DIGEST c.absorb.new.self) (held k.CAPACITY k.DIGEST c.loop.self) n (n % c.rate-r.result) c.loop.counter refl (ap (λ (r : ℕ). n % r) c.rate-r.ensures) c.if-at-eq0.false (omega arith) c.absorb.ensures c.loop.invariant

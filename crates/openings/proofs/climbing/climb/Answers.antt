use Rattle.std.proofs.Common.{◌≡◌, ℕ, ◌*◌, length, sym, ap, ◌∙◌, mul_comm, arith, rules}
use Rattle.std.proofs.lemmas.List.{take_all}
use Rattle.openings.specs.Opening.{own_at, pairs_below}
use Rattle.openings.proofs.Digests.{part_state}
use Rattle.openings.proofs.Steps.{next_cut, cut_ends, own_more, pairs_more}
use Rattle.openings.proofs.climbing.climb.Goals as goal

pub step-own-requires-clause-sibling : goal.step-own-requires-clause-sibling
step-own-requires-clause-sibling g c =
    let l = c.loop-level in
    let v = l.invariant in
    let e = c.in-Some.ensures.steps in
    let some = g.met.K.Kind.sound.w_some in
    let cut = next_cut g.K.Kind.DIGEST c.args.site.depth.levels c.args.path.now l.level-iterator.iter.rest.now c.requires.path.long l.level-iterator.count v.rest c.in-Some.sibling.now c.next.new.self.iter.rest.now (omega arith) e.0.1.0 (e.0.1.1 ∙ v.size) in
    rw cut.here (part_state g.K.Kind.DIGEST c.args.site.depth.levels l.level-iterator.count c.args.path.now c.requires.path cut.below)

pub loop-level-preserved : goal.loop-level-preserved
loop-level-preserved g c =
    let k = g.K.Kind in
    let l = c.loop-level in
    let v = l.invariant in
    let e = c.in-Some.ensures.steps in
    let some = g.met.K.Kind.sound.w_some in
    let n = l.level-iterator.count in
    let cut = next_cut k.DIGEST c.args.site.depth.levels c.args.path.now l.level-iterator.iter.rest.now c.requires.path.long n v.rest c.in-Some.sibling.now c.next.new.self.iter.rest.now (omega arith) e.0.1.0 (e.0.1.1 ∙ v.size) in
    let below = cut.below in
    let to = 2 * c.DIGEST-w.result * c.in-Some.level in
    let at : to ≡ n * (2 * k.DIGEST) = rw (e.1, c.DIGEST-w.ensures, mul_comm n (2 * k.DIGEST)) in
    let right = rw e.1 at c.is_on_right-right.ensures in
    record {
      can_next = search rules;
      is_finite = tt;
      size = e.0.0 ∙ v.size;
      rest = rw e.2 cut.left;
      level = omega arith;
      own = rw e.2 (own_more k.CAPACITY k.DIGEST k.mapping c.args.site.place c.args.leaf c.args.path.now l.own c.step-own.result c.in-Some.sibling.now n _ right v.own cut.here c.step-own.ensures.own);
      pairs = rw e.2 (pairs_more k.CAPACITY k.DIGEST k.mapping c.args.site.place c.args.site.depth.levels c.args.leaf c.args.path.now l.own c.in-Some.sibling.now c.next.new.self.iter.rest.now l.pairs c.step-own.new.pair n to _ _ at (l.auto.pairs ∙ c.requires.room) c.step-own.ensures.long cut right v.own v.pairs c.step-own.ensures.pair);
    }

pub returns : goal.returns
returns g c =
    let k = g.K.Kind in
    let l = c.loop-level in
    let v = l.invariant in
    let e = c.in-None.ensures.steps in
    let n = l.level-iterator.count in
    let at-end : n ≡ c.args.site.depth.levels = cut_ends k.DIGEST c.args.site.depth.levels c.args.path.now l.level-iterator.iter.rest.now c.requires.path.long n v.rest v.level (rw v.size at e.0.1.0) in
    let all : n * (2 * k.DIGEST) ≡ c.args.site.depth.levels * (2 * k.DIGEST) = ap (λ (m : ℕ). m * (2 * k.DIGEST)) at-end in
    let long : length l.pairs ≡ c.args.site.depth.levels * (2 * k.DIGEST) = l.auto.pairs ∙ c.requires.room in
    record {
      top = v.own ∙ ap (own_at k.CAPACITY k.DIGEST k.mapping c.args.site.place c.args.leaf c.args.path.now) at-end;
      pairs = sym (take_all (n * (2 * k.DIGEST)) l.pairs (omega arith)) ∙ v.pairs ∙ ap (pairs_below k.CAPACITY k.DIGEST k.mapping c.args.site.place c.args.leaf c.args.path.now) at-end;
    }

use Rattle.std.proofs.Common.{◌≡◌, ℕ, ◌*◌, ◌++◌, List, length, take, drop, replicate, ◌∙◌, rules}
use Rattle.std.proofs.lemmas.List.{take_at, length-take-le}
use Rattle.openings.proofs.Admitted.{pairs_front, pairs_fit}
use Rattle.finder.specs.Findings.{Shown, shown_by, alike, shows}
use Rattle.openings.specs.Opening.{part_at}
use Rattle.openings.specs.Sites.{claim_of}
use Rattle.finder.proofs.Finds.{compared}
use Rattle.finder.proofs.finding.find_admitted.Goals as goal

pub reach-one-requires-clause-room : goal.reach-one-requires-clause-room
reach-one-requires-clause-room g c = rw (← c.levels-depth.ensures.exact) (pairs_front g.met.K.Kind.sound c.levels-depth.result c.rate-k.result c.levels-depth.ensures.shallow c.rate-k.ensures)

pub reach-two-requires-clause-room : goal.reach-two-requires-clause-room
reach-two-requires-clause-room g c = rw (← c.levels-depth.ensures.exact) (pairs_front g.met.K.Kind.sound c.levels-depth.result c.rate-k.result c.levels-depth.ensures.shallow c.rate-k.ensures)

pub returns : goal.returns
returns g c =
    let k = c.rate-k.result in
    let site = c.args.site in
    let claim1 = claim_of c.args.first in
    let claim2 = claim_of c.args.second in
    let out = c.args.out.now in
    let n = c.levels-depth.result * k in
    let front : length (take n (replicate {A = ℕ} 128 0)) ≡ n = length-take-le n (replicate 128 0) (pairs_fit g.met.K.Kind.sound c.levels-depth.result k c.levels-depth.ensures.shallow c.rate-k.ensures) in
    let one : take n (c.reach-one.new.pairs ++ drop n (replicate {A = ℕ} 128 0)) ≡ c.reach-one.new.pairs = take_at c.reach-one.new.pairs _ n (c.reach-one.auto.pairs ∙ front) in
    let two : take n (c.reach-two.new.pairs ++ drop n (replicate {A = ℕ} 128 0)) ≡ c.reach-two.new.pairs = take_at c.reach-two.new.pairs _ n (c.reach-two.auto.pairs ∙ front) in
    let shown : ◌≡◌ {A = Shown × List ℕ} (shown_by c.show_highest.result, c.show_highest.new.out) (shows (λ level. part_at k level c.reach-one.new.pairs) (λ level. part_at k level c.reach-two.new.pairs) claim1 claim2 out site.depth.levels) =
    rw (one, two, c.levels-depth.ensures.exact) at c.show_highest.ensures in
    let e : c.eq.result ≡ alike claim1 c.args.first.path.now claim2 c.args.second.path.now = search rules in
    compared g.met.K.Kind.sound site.root.now site.depth.levels site.place claim1 c.args.first.path.now claim2 c.args.second.path.now out
    c.requires.first c.requires.second c.reach-one.result c.reach-two.result c.eq.result c.reach-one.new.pairs c.reach-two.new.pairs c.show_highest.new.out (shown_by c.show_highest.result) k
    c.reach-one.ensures.answer c.reach-two.ensures.answer e c.reach-one.ensures.pairs c.reach-two.ensures.pairs c.rate-k.ensures c.in_ok-judge.ensures shown

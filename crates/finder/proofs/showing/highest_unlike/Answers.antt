use Rattle.std.proofs.Common.{ℕ, refl, rules}
use borrow.Author.Tests.{tests}
use Rattle.openings.specs.Opening.{same, part_at}
use Rattle.openings.proofs.Tests.{same_words}
use Rattle.finder.proofs.Searches.{highest_found}
use Rattle.finder.proofs.showing.highest_unlike.Goals as goal

pub returns-clause-highest : goal.returns-clause-highest
returns-clause-highest c =
    let test = λ (level : ℕ). same (part_at c.args.k level c.args.first.pairs.now) (part_at c.args.k level c.args.second.pairs.now) in
    highest_found test _ (λ x b q k. (search (rules, tests), search (rules, tests, same_words))) c.args.n c.find.result c.rev.result c.find.new.self (rw c.rev.ensures.source refl) (rw c.rev.ensures.source refl) c.find.ensures.ran

use Rattle.std.proofs.Common.{◌∙◌}
use Rattle.openings.proofs.Tests.{same_words}
use Rattle.openings.proofs.climbing.reach.Goals as goal

pub returns-clause-answer : goal.returns-clause-answer
returns-clause-answer g c =
    c.eq.ensures ∙ same_words c.words.result.now c.args.site.root.now ∙ rw (c.words.ensures.is, c.climb-top.ensures.top, c.leaf_of-leaf.ensures)

use Rattle.std.proofs.Common.{◌*◌, sym, ◌∙◌, arith}
use Rattle.openings.proofs.Admitted.{paths_right}
use Rattle.openings.proofs.Causes.{shapes_answer}
use Rattle.openings.proofs.site.Site.admit.Goals as goal
use Rattle.openings.proofs.site.Site.admit.Goals.{then-self-DIGEST-via-then-self-DIGEST, then-self-DIGEST-via-else-self-DIGEST+then-any_bad_path}

pub returns-then-self-DIGEST-clause-answer : goal.returns-then-self-DIGEST-clause-answer
returns-then-self-DIGEST-clause-answer g c =
    elim c.then-self-DIGEST.branch [
      | then-self-DIGEST-via-then-self-DIGEST w ↦ grind (arith, shapes_answer)
      | then-self-DIGEST-via-else-self-DIGEST+then-any_bad_path w ↦ let paths = rw (c.levels.ensures.exact, c.DIGEST.ensures) at w.any_bad_path.ensures in grind (arith, shapes_answer)
    ]

pub returns-clause-answer : goal.returns-clause-answer
returns-clause-answer g c = let paths = rw (c.levels.ensures.exact, c.DIGEST.ensures) at c.any_bad_path.ensures in grind (arith, shapes_answer)

pub returns-clause-paths : goal.returns-clause-paths
returns-clause-paths g c =
    let none = c.if-any_bad_path.false in
    paths_right (c.args.self.depth.levels * g.K.Kind.DIGEST) c.args.openings.now (rw (c.levels.ensures.exact, c.DIGEST.ensures) at (sym c.any_bad_path.ensures ∙ none))

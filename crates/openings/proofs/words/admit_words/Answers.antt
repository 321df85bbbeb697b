use Rattle.std.proofs.Common.{◌+◌, length, drop, sym, ap, arith}
use Rattle.std.proofs.Math.ListN.{drop_of_length-le}
use Rattle.std.proofs.lemmas.List.{length-append}
use Rattle.std.proofs.lemmas.Result.{err_from_is_err_and}
use Rattle.kinds.specs.Denials.{number_of, values_of}
use Rattle.openings.proofs.Admitted.{parts_each}
use Rattle.openings.proofs.Parts.{joined, part, part_next, part_denied, part_granted}
use Rattle.openings.proofs.words.admit_words.Goals as goal

pub returns-in_err-admit-clause-answer : goal.returns-in_err-admit-clause-answer
returns-in_err-admit-clause-answer c =
    let l = c.loop-part in
    let p = err_from_is_err_and c.from_residual.result c.from_residual.ensures.1 in
    let e = c.in_err-admit.field-0.0 in
    rw (p.1, p.2) (part_denied c.args.parts.now l.part-index l.before c.loop-part-test.true l.invariant.decide (number_of e) (values_of e) c.in_err-admit.ensures.answer)

pub loop-part-preserved : goal.loop-part-preserved
loop-part-preserved c =
    let l = c.loop-part in
    let xs = c.args.parts.now in
    let next = ap length (part_next xs l.part-index l.before c.loop-part-test.true) in
    let long = length-append (part xs l.part-index) (joined (drop (l.part-index + 1) xs)) in
    record {
      long = omega arith;
      decide = part_granted xs l.part-index l.before c.loop-part-test.true l.invariant.decide c.in_ok-admit.ensures.answer;
    }

pub returns-clause-each : goal.returns-clause-each
returns-clause-each c =
    let none = drop_of_length-le c.args.parts.now c.loop-part-test.false in
    parts_each c.args.parts.now (sym (rw none at c.loop-part.invariant.decide))

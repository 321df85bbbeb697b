use Rattle.std.proofs.Common.{rules, arith, ◌∙◌, ◌++◌}
use Rattle.kinds.specs.Denials.{number_of, values_of}
use Rattle.kinds.proofs.FirstBad.{past_none, past_first, past_rest}
use Rattle.sponge.proofs.pair.admit_both.Goals as goal

pub returns-in_err-admit : goal.returns-in_err-admit
returns-in_err-admit c =
    let e = c.in_err-admit.field-0.0 in
    let h = past_first 0 c.args.a.now c.args.b.now (number_of e) (values_of e) c.in_err-admit.ensures.answer ∙ past_none (c.args.a.now ++ c.args.b.now) in
    search (rules, h)

pub returns-clause-answer : goal.returns-clause-answer
returns-clause-answer c = c.admit-2.ensures.answer ∙ past_rest 0 _ c.args.a.now c.args.b.now (omega arith) c.in_ok-admit.ensures.answer ∙ past_none (c.args.a.now ++ c.args.b.now)

use Rattle.kinds.proofs.FirstBad.{refused_at, admitted}
use Rattle.kinds.proofs.words.admit.Goals as goal

pub returns-in-Some-clause-answer : goal.returns-in-Some-clause-answer
returns-in-Some-clause-answer c = refused_at c.args.before c.args.words.now c.in-Some.i c.in-Some.ensures

pub returns-in-None : goal.returns-in-None
returns-in-None c = let h = admitted c.args.before c.args.words.now c.in-None.ensures in record { answer = h.0; each = h.1 }

use Rattle.std.proofs.Common.{arith}
use Rattle.std.proofs.lemmas.Fmt.{decimal_digit}
use Rattle.lines.proofs.line.Line.push_spaced_number.Goals as goal

pub returns-then-n-lt10-clause-written : goal.returns-then-n-lt10-clause-written
returns-then-n-lt10-clause-written g c = rw (decimal_digit c.args.n (omega (arith, c.if-n-lt10.true))) c.push_text.ensures

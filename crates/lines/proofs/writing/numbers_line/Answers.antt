use Rattle.std.proofs.Common.{arith}
use Rattle.std.proofs.lemmas.List.{take_all}
use Rattle.lines.specs.Lines.{line}
use Rattle.lines.proofs.writing.numbers_line.Goals as goal

pub returns-clause-is : goal.returns-clause-is
unfolding line
returns-clause-is g c =
    let all = take_all c.loop-n.n-index c.args.numbers.now (omega arith) in
    rw (c.push_text-2.ensures, c.loop-n.invariant.0, all)

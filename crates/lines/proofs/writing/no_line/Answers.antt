use Rattle.std.proofs.Common.{codes, decimal}
use Rattle.kinds.specs.Denials.{layer_word}
use Rattle.lines.proofs.Puts.{three_parts}
use Rattle.lines.proofs.writing.no_line.Goals as goal

pub returns-clause-is : goal.returns-clause-is
returns-clause-is g c =
    let a = rw (c.clear.ensures) at c.push_text.ensures in
    let b = rw a at c.push_spaced_number.ensures.written in
    let d = rw b at c.push_text-2.ensures in
    let e = rw (d, c.as_bytes.ensures.value, c.word.ensures) at c.push_text-3.ensures in
    let f = rw e at c.push_spaced_number-2.ensures.written in
    let g = rw f at c.push_text-4.ensures in
    rw g (three_parts (codes "no") (decimal c.args.number) (layer_word c.args.layer) (decimal c.args.offset))

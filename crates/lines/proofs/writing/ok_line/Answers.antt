use Rattle.std.proofs.Common.{rules}
use Rattle.lines.specs.Lines.{line}
use Rattle.lines.proofs.writing.ok_line.Goals as goal

pub returns : goal.returns
unfolding line
returns g c = search rules

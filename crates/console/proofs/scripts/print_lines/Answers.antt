use Rattle.console.proofs.Ended.{none_left}
use Rattle.console.proofs.scripts.print_lines.Goals as goal

pub returns-in_default : goal.returns-in_default
returns-in_default c = none_left c.loop-n.runner c.next_line.new.self c.loop-n.line c.next_line.new.out c.next_line.result c.loop-n.invariant c.next_line.ensures.exact (λ n e. cc)

pub returns-in_default-2 : goal.returns-in_default-2
returns-in_default-2 c = none_left c.loop-n.runner c.next_line.new.self c.loop-n.line c.next_line.new.out c.next_line.result c.loop-n.invariant c.next_line.ensures.exact (λ n e. cc)

use Rattle.std.proofs.Common.{◌≡◌, replicate}
use Rattle.lots.proofs.table.Table.new.Given as goal

abbrev pub invariant-loop : goal.invariant-loop
invariant-loop g l = l.nodes.items ≡ replicate l.counter (replicate g.K.Kind.DIGEST 0)

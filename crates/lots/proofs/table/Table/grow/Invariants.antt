use Rattle.std.proofs.Common.{◌≤◌}
use Rattle.lots.specs.Nodes.{Grown}
use Rattle.lots.proofs.table.Table.grow.Given as goal

abbrev pub invariant-loop-i : goal.invariant-loop-i
invariant-loop-i g l = Grown g.K.Kind.CAPACITY g.K.Kind.DIGEST g.K.Kind.mapping l.i l.half l.initial.self.nodes.items l.self.nodes.items × (l.i ≤ l.half)

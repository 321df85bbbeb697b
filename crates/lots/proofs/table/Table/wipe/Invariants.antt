use Rattle.std.proofs.Common.{◌≡◌, replicate, take}
use Rattle.lots.proofs.table.Table.wipe.Given as goal

abbrev pub invariant-loop-node : goal.invariant-loop-node
invariant-loop-node g l = take l.node-index l.node-items ≡ replicate l.node-index (replicate g.K.Kind.DIGEST 0)

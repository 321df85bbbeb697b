use Rattle.std.proofs.Common.{◌≡◌, ◌-◌, ◌*◌, ◌/◌, ◌^◌, ◌<◌, ◌≤◌, ◌++◌, take}
use Rattle.model.specs.Closed.{siblings_from}
use Rattle.lots.proofs.table.Table.path.Given as goal

abbrev pub invariant-loop-level : goal.invariant-loop-level
invariant-loop-level g l =
    (2 ^ (l.levels - l.level) ≤ l.node / 2 ^ l.level) × (l.node / 2 ^ l.level < 512)
    × (take (l.level * g.K.Kind.DIGEST) l.out ++ siblings_from l.self.nodes.items (l.levels - l.level) (l.node / 2 ^ l.level) ≡ siblings_from l.self.nodes.items l.levels l.node)

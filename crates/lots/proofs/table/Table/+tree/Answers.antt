use Rattle.std.proofs.Common.{◌+◌, ◌-◌, ◌*◌, ◌^◌, ◌<◌, arith}
use Rattle.lots.proofs.Levels.{child_low}
use Rattle.lots.proofs.table.Table.+tree.Goals as goal

pub tree-left-requires : goal.tree-left-requires
tree-left-requires g t c κs within =
    let low : 2 * c.args.i + 1 < 2 ^ (8 - (c.args.level - 1)) = child_low (c.args.level - 1) c.args.level c.args.i (omega arith) c.requires.0 c.requires.1 in
    (omega arith, (within, (omega arith, omega arith)))

pub tree-right-requires : goal.tree-right-requires
tree-right-requires g t c κs within =
    (omega arith, (within, (omega arith, child_low (c.args.level - 1) c.args.level c.args.i (omega arith) c.requires.0 c.requires.1)))

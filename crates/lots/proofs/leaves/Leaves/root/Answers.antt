use Rattle.std.proofs.Common.{rules}
use Rattle.lots.proofs.Levels.{root_low, root_under}
use Rattle.lots.proofs.leaves.Leaves.root.Goals as goal

pub tree-requires : goal.tree-requires
tree-requires g c = search (rules, root_low)

pub returns-in_default : goal.returns-in_default
returns-in_default g c = search (rules, root_under)

use Rattle.lots.proofs.table.Table.+tree.Given as goal

abbrev pub decreases-tree : goal.decreases-tree
decreases-tree g l = l.level

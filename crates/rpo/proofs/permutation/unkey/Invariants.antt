use Rattle.std.proofs.Common.{◌≡◌, ◌+◌, get_or}
use Rattle.field.specs.Field.{difference_of}
use Rattle.field.proofs.Each.{Done}
use Rattle.rpo.proofs.permutation.unkey.Given as goal

abbrev pub invariant-loop-i : goal.invariant-loop-i
invariant-loop-i g l = Done g.row.M (λ i y. y ≡ difference_of (get_or l.initial.s i 0) (get_or l.constants (0 + i) 0)) l.initial.s l.i l.s

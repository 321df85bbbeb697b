use Rattle.std.proofs.Common.{◌+◌, length, get_or, ◌∙◌, arith}
use Rattle.std.proofs.lemmas.List.FromFn.{fill_by_all}
use Rattle.field.specs.Field.{difference_of}
use Rattle.rpo.specs.Permutation.{unkeyed}
use Rattle.rpo.proofs.permutation.unkey.Goals as goal

pub returns : goal.returns
unfolding unkeyed
returns g c =
    fill_by_all (λ i. difference_of (get_or c.args.s.now i 0) (get_or c.args.constants.now (0 + i) 0)) c.loop-i.s (length c.args.s.now) 0
    (c.loop-i.invariant.0 ∙ omega arith) (λ i h. c.loop-i.invariant.1 i (omega arith))

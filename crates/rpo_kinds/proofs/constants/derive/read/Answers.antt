use Rattle.std.proofs.Common.{◌≡◌, ℕ, ◌+◌, ◌-◌, ◌*◌, arith, rules}
use Rattle.kinds.proofs.Arrays.{made}
use Rattle.shake.proofs.Fill.{filled_all}
use Rattle.rpo_kinds.specs.Constants.{constant_at}
use Rattle.rpo_kinds.proofs.constants.derive.read.Goals as goal

pub returns : goal.returns
unfolding constant_at
returns g c =
    let bytes = c.args.bytes.now in
    let items = c.from_fn.ensures.items in
    let nine : (i : ℕ) → 9 * i + 9 - 9 * i ≡ 9 = λ i. omega arith in
    filled_all (constant_at bytes) g.row.N g.row.N _ (omega arith) (items.long, made _ _ _ (constant_at bytes) (λ i y q called. (search rules, search (rules, nine))) g.row.N items)

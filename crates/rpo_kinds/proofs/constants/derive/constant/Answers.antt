use Rattle.std.proofs.Common.{arith}
use Rattle.rpo_kinds.proofs.Bytes.{nine_bytes}
use Rattle.rpo_kinds.proofs.constants.derive.constant.Goals as goal

pub returns-then-rest-top : goal.returns-then-rest-top
returns-then-rest-top c = omega (arith, nine_bytes c.args.bytes.now c.requires)

pub returns-else-rest-top : goal.returns-else-rest-top
returns-else-rest-top c = omega (arith, nine_bytes c.args.bytes.now c.requires)

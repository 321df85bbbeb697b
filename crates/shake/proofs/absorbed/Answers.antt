-- Each turn of the loop absorbs one block more.
use Rattle.std.proofs.Common.{◌≡◌, ℕ, ◌+◌, ◌*◌, ◌/◌, List, length, refl, add-one, arith}
use Rattle.keccak.specs.Keccak.{keccak_f}
use Rattle.shake.specs.Shake.{mixed, absorbed}
use Rattle.shake.proofs.absorbed.Goals as goal

absorbed_more : (text : List ℕ) (k : ℕ) → absorbed text (k + 1) ≡ keccak_f (mixed text (136 * k) (absorbed text k) 17)
unfolding absorbed
absorbed_more text k = rw add-one

pub loop-k-init : goal.loop-k-init
unfolding absorbed
loop-k-init c = refl

pub loop-k-preserved : goal.loop-k-preserved
loop-k-preserved c = let e = absorbed_more c.args.text.now c.loop-k.k in cc

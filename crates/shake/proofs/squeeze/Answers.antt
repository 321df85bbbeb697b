-- Each turn of the loop writes one byte more, and the last turn of a block goes on to the next state.
use Rattle.std.proofs.Common.{◌≡◌, ℕ, ◌+◌, ◌/◌, List, refl, add-one, arith, rules}
use Rattle.keccak.specs.Keccak.{keccak_f}
use Rattle.shake.specs.Shake.{squeezed, output_at, output}
use Rattle.shake.proofs.Fill.{filled_more, filled_all}
use Rattle.shake.proofs.squeeze.Goals as goal
use Rattle.shake.proofs.squeeze.Goals.{then-i-eq135, else-i-eq135}

squeezed_more : (state : List ℕ) (k : ℕ) → squeezed state (k + 1) ≡ keccak_f (squeezed state k)
unfolding squeezed
squeezed_more state k = rw add-one

pub loop-i-init : goal.loop-i-init
unfolding squeezed
loop-i-init c = (refl, search rules)

pub loop-i-preserved : goal.loop-i-preserved
unfolding output_at
loop-i-preserved c = (
  elim c.if-i-eq135.branch [
    | then-i-eq135 w ↦
        let e = squeezed_more c.args.lanes (c.loop-i.i / 136) in
        let q : (c.loop-i.i + 1) / 136 ≡ c.loop-i.i / 136 + 1 = omega arith in
        cc
    | else-i-eq135 w ↦
        let q : (c.loop-i.i + 1) / 136 ≡ c.loop-i.i / 136 = omega arith in
        cc
  ],
  filled_more (output_at c.args.lanes) _ _ _ _ (omega arith) (cc) c.loop-i.invariant.1,
)

pub returns : goal.returns
unfolding output
returns c = filled_all (output_at c.args.lanes) _ _ _ (omega arith) c.loop-i.invariant.1

-- After i turns of the loop i bytes are written, and the state is that of the block of byte i.
use Rattle.std.proofs.Common.{◌≡◌, ◌/◌, length}
use Rattle.shake.specs.Shake.{squeezed, output_at}
use Rattle.shake.proofs.Fill.{Filled}
use Rattle.shake.proofs.squeeze.Given as goal

abbrev pub invariant-loop-i : goal.invariant-loop-i
invariant-loop-i l =
    (l.lanes ≡ squeezed l.initial.lanes (l.i / 136))
    × Filled (output_at l.initial.lanes) (length l.initial.out) l.i l.out

-- Written out, both sides are the same five words.
use Rattle.keccak.specs.Keccak.{parity, effect, effects}
use Rattle.keccak.proofs.effects.Goals as goal

pub returns : goal.returns
unfolding parity effect effects
returns c =
    simp (
      c.rotate_left.ensures,
      c.rotate_left-2.ensures,
      c.rotate_left-3.ensures,
      c.rotate_left-4.ensures,
      c.rotate_left-5.ensures,
    )

-- What a granted call of a lot tells of its station and length.
use Rattle.std.proofs.Common.{◌≡◌, ℕ, ◌<◌, ◌≤◌, false, eqb, ltb, refl, arith}
use Rattle.std.proofs.lemmas.Bool.{ltb-false, eqb-false, or_parts}
use Rattle.kinds.specs.Answers.{Answer, granted, denied, if_granted}
use Rattle.sponge.specs.Calls.{bad_length}
use Rattle.model.specs.Calls.{no_station}

pub one_of_eight : (s : ℕ) → (no_station s).0 ≡ false → s < 8
one_of_eight s e = let a = ltb-false 7 s e in omega arith

pub good_length : (n : ℕ) → (bad_length n).0 ≡ false → (1 ≤ n) × (n ≤ 4096)
good_length n e =
    let parts = or_parts (eqb n 0) (ltb 4096 n) e in
    let some = eqb-false n 0 parts.0 in
    (omega arith, ltb-false 4096 n parts.1)

-- a call that brings no buffer leaves none
pub same_either_way : {A : Type 0} (a : Answer) (x : A) → if_granted a x x ≡ x
same_either_way granted x = refl
same_either_way (denied n vs) x = refl

-- Each turn of the loop is two rounds, and 24 of them are the permutation.
use Rattle.std.proofs.Common.{◌≡◌, ℕ, ◌+◌, ◌*◌, List, get_or, refl, add-one, ap, ◌∙◌, arith}
use Rattle.keccak.specs.Keccak.{round, rounds, round_words, keccak_f}
use Rattle.keccak.proofs.keccak_f.Goals as goal

rounds_more : (a : List ℕ) (n : ℕ) → rounds a (n + 1) ≡ round (rounds a n) (get_or round_words n 0)
unfolding rounds
rounds_more a n = rw add-one

two_more : (a : List ℕ) (i : ℕ)
    → rounds a (2 * (i + 1)) ≡ round (round (rounds a (2 * i)) (get_or round_words (2 * i) 0)) (get_or round_words (2 * i + 1) 0)
two_more a i =
    ap (rounds a) (twice i) ∙ rounds_more a (2 * i + 1) ∙ ap (λ s. round s (get_or round_words (2 * i + 1) 0)) (rounds_more a (2 * i))
  where
    twice : (i : ℕ) → 2 * (i + 1) ≡ 2 * i + 1 + 1
    twice i = omega arith

pub loop-i-init : goal.loop-i-init
unfolding rounds
loop-i-init c = refl

pub loop-i-preserved : goal.loop-i-preserved
loop-i-preserved c = let e = two_more c.args.lanes c.loop-i.i in cc

pub returns : goal.returns
unfolding keccak_f
returns c = let e : c.loop-i.i ≡ 12 = omega arith in cc

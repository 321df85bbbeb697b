-- The drill kind's sums come to its mapping.
use Rattle.std.proofs.Common.{◌≡◌, ℕ, ◌+◌, ◌*◌, ◌%◌, List, [], ◌∷◌, length, get_or, set, refl, arith}
use Rattle.field.specs.Field.{p, sum_of}

pub three : (s : List ℕ) (a b : ℕ) → length s ≡ 3 → set (set s 0 a) 1 b ≡ a ∷ b ∷ get_or s 2 0 ∷ []
three [] a b e = absurd (omega arith)
three (x ∷ []) a b e = absurd (omega arith)
three (x ∷ y ∷ []) a b e = absurd (omega arith)
three (x ∷ y ∷ z ∷ []) a b e = refl
three (x ∷ y ∷ z ∷ v ∷ s) a b e = absurd (omega arith)

pub t_is : (x y z x2 x3 z2 u t : ℕ) → x2 ≡ sum_of x x → x3 ≡ sum_of x2 x → z2 ≡ sum_of z z → u ≡ sum_of y z2 → t ≡ sum_of u x3 → t ≡ (y + 2 * z + 3 * x) % p
t_is x y z x2 x3 z2 u t e1 e2 e3 e4 e5 = omega arith

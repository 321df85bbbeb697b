-- The permutation F and its reverse G, over the first row of a circulant matrix, the first row of the
-- inverse matrix, and the round constants, any numbers: 2 * m to a round for a state of m elements. Assumes 14 * m of
-- them; one that is missing counts as 0.
use Rattle.std.specs.Prelude.{ℕ, zero, suc, ◌+◌, ◌*◌, List, map, length, slice_index}
use Rattle.field.specs.Field.{sum_of, difference_of, power_of, exponent_d}
use Rattle.rpo.specs.Matrix.{made_by, times}

-- the constants from a place on added, one to each element
unfoldable pub keyed : List ℕ → ℕ → List ℕ → List ℕ
keyed constants place s = made_by (λ i. sum_of (slice_index s i) (slice_index constants (place + i))) (length s)

-- the same constants taken off again
unfoldable pub unkeyed : List ℕ → ℕ → List ℕ → List ℕ
unkeyed constants place s = made_by (λ i. difference_of (slice_index s i) (slice_index constants (place + i))) (length s)

-- each element to the power e
unfoldable pub raised : ℕ → List ℕ → List ℕ
raised e s = map (λ x. power_of x e) s

-- half a round: multiplied by the matrix, the constants added, raised to the power e
unfoldable pub half : List ℕ → List ℕ → ℕ → ℕ → List ℕ → List ℕ
half row constants place e s = raised e (keyed constants place (times row s))

-- half a round undone, by the inverse matrix and the power that undoes the half's
unfoldable pub half_back : List ℕ → List ℕ → ℕ → ℕ → List ℕ → List ℕ
half_back inverse constants place e s = times inverse (unkeyed constants place (raised e s))

-- the round r: a half with the power 7 and a half with the power d, each with the next m constants
unfoldable pub round : List ℕ → List ℕ → ℕ → List ℕ → List ℕ
round row constants r s =
    half row constants ((2 * r + 1) * length row) exponent_d (half row constants (2 * r * length row) 7 s)

-- the round r undone: its second half first, by the power 7, and then its first, by the power d
unfoldable pub round_back : List ℕ → List ℕ → ℕ → List ℕ → List ℕ
round_back inverse constants r s =
    half_back inverse constants (2 * r * length inverse) exponent_d (half_back inverse constants ((2 * r + 1) * length inverse) 7 s)

-- the first n rounds, and the same undone from the last to the first
unfoldable pub forward : List ℕ → List ℕ → ℕ → List ℕ → List ℕ
forward row constants zero s = s
forward row constants (suc n) s = round row constants n (forward row constants n s)

unfoldable pub backward : List ℕ → List ℕ → ℕ → List ℕ → List ℕ
backward inverse constants zero s = s
backward inverse constants (suc n) s = backward inverse constants n (round_back inverse constants n s)

-- F: seven rounds
abbrev pub permuted : List ℕ → List ℕ → List ℕ → List ℕ
permuted row constants s = forward row constants 7 s

-- G: seven rounds undone
abbrev pub reversed : List ℕ → List ℕ → List ℕ → List ℕ
reversed inverse constants s = backward inverse constants 7 s

-- The steps of the code come to the halves of a round, the rounds and all seven of them, and so do their reverses.
use Rattle.std.proofs.Common.{◌≡◌, ℕ, suc, ◌+◌, ◌-◌, ◌*◌, ◌%◌, ◌^◌, ◌<◌, List, map, length, get_or, take, drop, sym, ap, ◌∙◌, add-one, arith}
use Rattle.std.proofs.lemmas.Nat.{pow-mod}
use Rattle.std.proofs.lemmas.List.FromFn.{fill_by_all}
use Rattle.std.proofs.Math.Nat.{zero-add}
use Rattle.std.proofs.lemmas.List.{get_or-drop, get_or-map, length-map, take_rest}
use Rattle.field.specs.Field.{p, sum_of, power_of, exponent_d}
use Rattle.field.specs.Lanes.{Lanes}
use Rattle.kinds.specs.Kinds.{State}
use Rattle.rpo.specs.Matrix.{made_by, times, times_at}
use Rattle.rpo.specs.Permutation.{keyed, unkeyed, raised, half, half_back, round, round_back, forward, backward}
use Rattle.rpo.proofs.Inverses.{made_at}
use Rattle.rpo.proofs.Rounds.{times_state, keyed_state, raised_state}

-- t is congruent to the matrix times s and the constants, and r is t to the power e
pub half_is : (m : ℕ) (row k : List ℕ) (e : ℕ) (s t r : List ℕ) → length row ≡ m
    → Lanes m (λ i y. y % p ≡ (times_at row s i + get_or k i 0) % p) t → r ≡ map (λ x. power_of x e) t
    → r ≡ half row k 0 e s
unfolding half raised keyed times
half_is m row k e s t r long lanes is = is ∙ by_place t lanes.long at ∙ sym (by_place whole whole_long (λ i h. ap (λ y. power_of y e) (sum i h)))
  where
    whole : List ℕ
    whole = keyed k 0 (times row s)

    sums : ℕ → ℕ
    sums i = sum_of (times_at row s i) (get_or k i 0)

    whole_long : length whole ≡ m
    whole_long = (keyed_state k 0 (times row s)).long ∙ (times_state row s).long ∙ long

    sum : (i : ℕ) → i < m → get_or whole i 0 ≡ sums i
    sum i h =
        made_at (λ i. sum_of (get_or (times row s) i 0) (get_or k (0 + i) 0)) (length (times row s)) i (omega (arith, (times_state row s).long))
        ∙ ap (λ y. sum_of y (get_or k (0 + i) 0)) (made_at (times_at row s) (length row) i (omega arith))
        ∙ ap (λ n. sum_of (times_at row s i) (get_or k n 0)) (zero-add i)

    by_place : (xs : List ℕ) → length xs ≡ m → ((i : ℕ) → i < m → power_of (get_or xs i 0) e ≡ power_of (sums i) e)
        → map (λ x. power_of x e) xs ≡ made_by (λ i. power_of (sums i) e) m
    by_place xs len at =
        fill_by_all (λ i. power_of (sums i) e) (map (λ x. power_of x e) xs) m 0 (length-map xs (λ x. power_of x e) ∙ len)
        (λ i h. get_or-map (λ x. power_of x e) xs i 0 0 (omega arith) ∙ at i h)

    at : (i : ℕ) → i < m → power_of (get_or t i 0) e ≡ power_of (sums i) e
    at i h = sym (pow-mod (get_or t i 0) e p) ∙ ap (λ y. y ^ e % p) (lanes.at i h)

pub powers_state : (m e : ℕ) (s r : List ℕ) → length s ≡ m → r ≡ map (λ x. power_of x e) s → State m r
unfolding raised
powers_state m e s r long is = record { long = ap length is ∙ (raised_state e s).long ∙ long; each = rw is (raised_state e s).each }

-- the constants from a place on, as a slice has them
abbrev pub rest : ℕ → List ℕ → List ℕ
rest n k = take (length k - n) (drop n k)

-- a half with the constants from a place on
half_rest : (row : List ℕ) (n : ℕ) (k : List ℕ) (e : ℕ) (s : List ℕ) → half row (rest n k) 0 e s ≡ half row k n e s
unfolding half keyed
half_rest row n k e s = simp (take_rest, get_or-drop, zero-add)

half_back_rest : (inverse : List ℕ) (n : ℕ) (k : List ℕ) (e : ℕ) (s : List ℕ) → half_back inverse (rest n k) 0 e s ≡ half_back inverse k n e s
unfolding half_back unkeyed
half_back_rest inverse n k e s = simp (take_rest, get_or-drop, zero-add)

-- a round by its halves, with m for the length of the row
pub round_is : (m : ℕ) (row k : List ℕ) (r : ℕ) (s t u : List ℕ) → length row ≡ m → t ≡ half row (rest (2 * r * m) k) 0 7 s
    → u ≡ half row (rest ((2 * r + 1) * m) k) 0 exponent_d t → u ≡ round row k r s
unfolding round
round_is m row k r s t u long first second =
    second ∙ half_rest row ((2 * r + 1) * m) k exponent_d t
    ∙ ap (half row k ((2 * r + 1) * m) exponent_d) (first ∙ half_rest row (2 * r * m) k 7 s)
    ∙ ap (λ n. half row k ((2 * r + 1) * n) exponent_d (half row k (2 * r * n) 7 s)) (sym long)

pub round_back_is : (m : ℕ) (inverse k : List ℕ) (r : ℕ) (s t u : List ℕ) → length inverse ≡ m → t ≡ half_back inverse (rest ((2 * r + 1) * m) k) 0 7 s
    → u ≡ half_back inverse (rest (2 * r * m) k) 0 exponent_d t → u ≡ round_back inverse k r s
unfolding round_back
round_back_is m inverse k r s t u long second first =
    first ∙ half_back_rest inverse (2 * r * m) k exponent_d t
    ∙ ap (half_back inverse k (2 * r * m) exponent_d) (second ∙ half_back_rest inverse ((2 * r + 1) * m) k 7 s)
    ∙ ap (λ n. half_back inverse k (2 * r * n) exponent_d (half_back inverse k ((2 * r + 1) * n) 7 s)) (sym long)

-- one round more, and one round less to undo
pub forward_more : (row k : List ℕ) (n : ℕ) (s t u : List ℕ) → t ≡ forward row k n s → u ≡ round row k n t → u ≡ forward row k (n + 1) s
unfolding forward
forward_more row k n s t u before is = is ∙ ap (round row k n) before ∙ sym (ap (λ i. forward row k i s) (add-one n))

pub backward_less : (inverse k : List ℕ) (n : ℕ) (t u w : List ℕ) → 0 < n → backward inverse k n t ≡ w → u ≡ round_back inverse k (n - 1) t
    → backward inverse k (n - 1) u ≡ w
unfolding backward
backward_less inverse k n t u w pos before is =
    let e : suc (n - 1) ≡ n = omega arith in
    ap (backward inverse k (n - 1)) is ∙ ap (λ i. backward inverse k i t) e ∙ before

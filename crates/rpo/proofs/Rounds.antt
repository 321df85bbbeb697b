-- Half a round and its reverse undo one another, and so do a round and all seven.
use Rattle.std.proofs.Common.{◌≡◌, ℕ, zero, suc, ◌+◌, ◌-◌, ◌*◌, ◌%◌, ◌<◌, List, length, get_or, sym, refl, ap, ◌∙◌, ⊎_elim, arith}
use Rattle.std.proofs.lemmas.List.FromFn.{fill_by_all}
use Rattle.std.proofs.lemmas.List.{get_or_past, get_or-map, length-map}
use Rattle.std.proofs.lemmas.Bool.{cases_lt}
use Rattle.field.specs.Field.{p, Elements, sum_of, difference_of, power_of, exponent_d}
use Rattle.field.specs.Primes.{Prime, UndoneEachWay}
use Rattle.field.proofs.Inverse.{powers_undone}
use Rattle.field.proofs.Goldilocks.{p_prime}
use Rattle.kinds.specs.Kinds.{State}
use Rattle.rpo.specs.Matrix.{times, times_at}
use Rattle.rpo.specs.Rows.{row_12, inverse_12, row_16, inverse_16}
use Rattle.rpo.specs.Permutation.{keyed, unkeyed, raised, half, half_back, round, round_back, forward, backward, permuted, reversed}
use Rattle.rpo.specs.Undo.{Inverse, Inverses, InverseRows, UndoBy, Undo, UndoBoth}
use Rattle.rpo.proofs.Inverses.{made_at, made_state, times_undone}

pub below : (n : ℕ) → n % p < p
below n = omega arith

pub times_state : (row s : List ℕ) → State (length row) (times row s)
unfolding times
times_state row s = made_state (times_at row s) (length row) (λ i. below _)

pub keyed_state : (k : List ℕ) (place : ℕ) (s : List ℕ) → State (length s) (keyed k place s)
unfolding keyed
keyed_state k place s = made_state (λ i. sum_of (get_or s i 0) (get_or k (place + i) 0)) (length s) (λ i. below _)

pub unkeyed_state : (k : List ℕ) (place : ℕ) (s : List ℕ) → State (length s) (unkeyed k place s)
unfolding unkeyed
unkeyed_state k place s = made_state (λ i. difference_of (get_or s i 0) (get_or k (place + i) 0)) (length s) (λ i. below _)

pub raised_state : (e : ℕ) (s : List ℕ) → State (length s) (raised e s)
unfolding raised
raised_state e s = record {
  long = length-map s (λ x. power_of x e);
  each = λ i h. rw (get_or-map (λ x. power_of x e) s i 0 0 (omega (arith, length-map s (λ x. power_of x e)))) (below _);
}

pub half_state : (row k : List ℕ) (place e : ℕ) (s : List ℕ) → State (length row) (half row k place e s)
unfolding half
half_state row k place e s = record {
  long = (raised_state e (keyed k place (times row s))).long ∙ (keyed_state k place (times row s)).long ∙ (times_state row s).long;
  each = (raised_state e (keyed k place (times row s))).each;
}

pub half_back_state : (inverse k : List ℕ) (place e : ℕ) (s : List ℕ) → State (length inverse) (half_back inverse k place e s)
unfolding half_back
half_back_state inverse k place e s = times_state inverse (unkeyed k place (raised e s))

-- states stay states
pub forward_state : (row k : List ℕ) (n : ℕ) (s : List ℕ) → State (length row) s → State (length row) (forward row k n s)
unfolding forward round
forward_state row k zero s st = st
forward_state row k (suc n) s st =
    half_state row k ((2 * n + 1) * length row) exponent_d (half row k (2 * n * length row) 7 (forward row k n s))

off_on : (t c : ℕ) → t < p → c < p → ((t + c) % p + (p - c)) % p ≡ t
off_on t c ht hc = omega arith

on_off : (t c : ℕ) → t < p → c < p → ((t + (p - c)) % p + c) % p ≡ t
on_off t c ht hc = omega arith

constant_below : (k : List ℕ) → Elements k → (j : ℕ) → get_or k j 0 < p
constant_below k e j = ⊎_elim (λ l. e j l) (λ l. rw (get_or_past k j 0 l) (omega arith)) (cases_lt j (length k))

-- constants added and taken off
module _ (k : List ℕ) (e : Elements k) (place : ℕ) (s : List ℕ) (each : Elements s) where
  unkeyed_keyed : unkeyed k place (keyed k place s) ≡ s
  unfolding unkeyed keyed
  unkeyed_keyed =
      sym (fill_by_all (λ i. difference_of (get_or (keyed k place s) i 0) (get_or k (place + i) 0)) s (length (keyed k place s)) 0 (sym (keyed_state k place s).long) at)
    where
      at : (i : ℕ) → i < length (keyed k place s) → get_or s i 0 ≡ difference_of (get_or (keyed k place s) i 0) (get_or k (place + i) 0)
      at i h =
          let l : i < length s = omega (arith, (keyed_state k place s).long) in
          sym (ap (λ y. difference_of y (get_or k (place + i) 0)) (made_at (λ i. sum_of (get_or s i 0) (get_or k (place + i) 0)) (length s) i l)
          ∙ off_on (get_or s i 0) (get_or k (place + i) 0) (each i l) (constant_below k e (place + i)))

  keyed_unkeyed : keyed k place (unkeyed k place s) ≡ s
  unfolding unkeyed keyed
  keyed_unkeyed =
      sym (fill_by_all (λ i. sum_of (get_or (unkeyed k place s) i 0) (get_or k (place + i) 0)) s (length (unkeyed k place s)) 0 (sym (unkeyed_state k place s).long) at)
    where
      at : (i : ℕ) → i < length (unkeyed k place s) → get_or s i 0 ≡ sum_of (get_or (unkeyed k place s) i 0) (get_or k (place + i) 0)
      at i h =
          let l : i < length s = omega (arith, (unkeyed_state k place s).long) in
          sym (ap (λ y. sum_of y (get_or k (place + i) 0)) (made_at (λ i. difference_of (get_or s i 0) (get_or k (place + i) 0)) (length s) i l)
          ∙ on_off (get_or s i 0) (get_or k (place + i) 0) (each i l) (constant_below k e (place + i)))

raised_undone : (e f : ℕ) → ((x : ℕ) → x < p → power_of (power_of x e) f ≡ x) → (s : List ℕ) → Elements s → raised f (raised e s) ≡ s
unfolding raised
raised_undone e f undone s each =
    fill_by_all (λ i. get_or s i 0) (raised f (raised e s)) (length s) 0 ((raised_state f (raised e s)).long ∙ (raised_state e s).long) at
    ∙ sym (fill_by_all (λ i. get_or s i 0) s (length s) 0 refl (λ i h. refl))
  where
    at : (i : ℕ) → i < length s → get_or (raised f (raised e s)) i 0 ≡ get_or s i 0
    at i h =
        get_or-map (λ x. power_of x f) (raised e s) i 0 0 (omega (arith, (raised_state e s).long))
        ∙ ap (λ y. power_of y f) (get_or-map (λ x. power_of x e) s i 0 0 h) ∙ undone (get_or s i 0) (each i h)

module _ (undone : UndoneEachWay) (row inverse k : List ℕ) (there : Inverse inverse row) (back : Inverse row inverse) (each : Elements k) where
  half_undone : (place e f : ℕ) → ((x : ℕ) → x < p → power_of (power_of x e) f ≡ x) → (s : List ℕ) → State (length row) s
      → half_back inverse k place f (half row k place e s) ≡ s
  unfolding half half_back
  half_undone place e f u s st =
      ap (λ t. times inverse (unkeyed k place t)) (raised_undone e f u (keyed k place (times row s)) (keyed_state k place (times row s)).each)
      ∙ ap (times inverse) (unkeyed_keyed k each place (times row s) (times_state row s).each) ∙ times_undone inverse row s there st

  half_back_undone : (place e f : ℕ) → ((x : ℕ) → x < p → power_of (power_of x f) e ≡ x) → (s : List ℕ) → State (length row) s
      → half row k place e (half_back inverse k place f s) ≡ s
  unfolding half half_back
  half_back_undone place e f u s st =
      ap (λ t. raised e (keyed k place t)) (times_undone row inverse (unkeyed k place (raised f s)) back lifted)
      ∙ ap (raised e) (keyed_unkeyed k each place (raised f s) (raised_state f s).each) ∙ raised_undone f e u s st.each
    where
      lifted : State (length inverse) (unkeyed k place (raised f s))
      lifted = record {
        long = (unkeyed_state k place (raised f s)).long ∙ (raised_state f s).long ∙ st.long ∙ sym there.same;
        each = (unkeyed_state k place (raised f s)).each;
      }

  back_state : (place e : ℕ) (s : List ℕ) → State (length row) (half_back inverse k place e s)
  back_state place e s = rw (← there.same) (half_back_state inverse k place e s)

  -- the places of the constants by the length of the row
  round_back_is : (r : ℕ) (s : List ℕ)
      → round_back inverse k r s
      ≡ half_back inverse k (2 * r * length row) exponent_d (half_back inverse k ((2 * r + 1) * length row) 7 s)
  unfolding round_back
  round_back_is r s = ap (λ m. half_back inverse k (2 * r * m) exponent_d (half_back inverse k ((2 * r + 1) * m) 7 s)) there.same

  round_undone : (r : ℕ) (s : List ℕ) → State (length row) s → round_back inverse k r (round row k r s) ≡ s
  unfolding round
  round_undone r s st =
      round_back_is r (round row k r s)
      ∙ ap (half_back inverse k (2 * r * length row) exponent_d)
      (half_undone ((2 * r + 1) * length row) exponent_d 7 (λ x h. (undone x h).1) (half row k (2 * r * length row) 7 s) (half_state row k (2 * r * length row) 7 s))
      ∙ half_undone (2 * r * length row) 7 exponent_d (λ x h. (undone x h).0) s st

  round_back_undone : (r : ℕ) (s : List ℕ) → State (length row) s → round row k r (round_back inverse k r s) ≡ s
  unfolding round
  round_back_undone r s st =
      ap (round row k r) (round_back_is r s)
      ∙ ap (half row k ((2 * r + 1) * length row) exponent_d)
      (half_back_undone (2 * r * length row) 7 exponent_d (λ x h. (undone x h).1) (half_back inverse k ((2 * r + 1) * length row) 7 s) (back_state ((2 * r + 1) * length row) 7 s))
      ∙ half_back_undone ((2 * r + 1) * length row) exponent_d 7 (λ x h. (undone x h).0) s st

  round_back_state : (r : ℕ) (s : List ℕ) → State (length row) (round_back inverse k r s)
  unfolding round_back
  round_back_state r s = back_state (2 * r * length inverse) exponent_d (half_back inverse k ((2 * r + 1) * length inverse) 7 s)

  there_and_back : (n : ℕ) (s : List ℕ) → State (length row) s → backward inverse k n (forward row k n s) ≡ s
  unfolding forward backward
  there_and_back zero s st = refl
  there_and_back (suc n) s st =
      ap (backward inverse k n) (round_undone n (forward row k n s) (forward_state row k n s st)) ∙ there_and_back n s st

  back_and_there : (n : ℕ) (s : List ℕ) → State (length row) s → forward row k n (backward inverse k n s) ≡ s
  unfolding forward backward
  back_and_there zero s st = refl
  back_and_there (suc n) s st =
      ap (round row k n) (back_and_there n (round_back inverse k n s) (round_back_state n s)) ∙ round_back_undone n s st

pub undo : Undo
undo pr row inverse k (there, back) each s st =
    let u = powers_undone pr in
    (there_and_back u row inverse k there back each 7 s st, back_and_there u row inverse k there back each 7 s st)

-- two mappings that are these, on states of m elements
pub undone_by : {m l : ℕ} {row inverse : List ℕ} {F G : List ℕ → List ℕ} (k : List ℕ) → Elements k → m ≡ l → length row ≡ m → Inverses row inverse
    → ((s : List ℕ) → F s ≡ permuted row k s) → ((s : List ℕ) → G s ≡ reversed inverse k s) → UndoBy l F G
undone_by {m} {l} {row} {inverse} {F} {G} k each em er inverses mixes unmixes s st =
    let same : l ≡ length row = omega arith in
    let both = undo p_prime row inverse k inverses each s (rw same at st) in (
      unmixes (F s) ∙ ap (reversed inverse k) (mixes s) ∙ both.0,
      mixes (G s) ∙ ap (permuted row k) (unmixes s) ∙ both.1,
    )

-- the products of the tables, computed
pub inverse_rows : InverseRows
inverse_rows = (
  (record { same = refl; identity = refl }, record { same = refl; identity = refl }),
  (record { same = refl; identity = refl }, record { same = refl; identity = refl }),
)

pub undo_both : Prime p → UndoBoth
undo_both pr k each = (undo pr row_12 inverse_12 k inverse_rows.0 each, undo pr row_16 inverse_16 k inverse_rows.1 each)

-- Lists of elements: their parts, and lists made of them.
use Rattle.std.proofs.Common.{ℕ, zero, suc, ◌+◌, ◌-◌, ◌<◌, ◌≤◌, List, [], ◌∷◌, ◌++◌, length, take, drop, set, replicate, refl, ◌∙◌, ⊎_elim, arith}
use Rattle.std.proofs.lemmas.Bool.{cases_lt, cases_eq}
use Rattle.std.proofs.lemmas.List.{length-append, length-replicate, length-set, length-take, length-drop, get_or_append_left, get_or-append_right, get_or-append-add, get_or-replicate, get_or-take, get_or-drop, get_or-set_same, get_or-set_other}
use Rattle.field.specs.Field.{p, Elements}
use Rattle.kinds.specs.Kinds.{State}
use Rattle.sponge.specs.Digests.{cut}

pub each_none : Elements []
each_none k l = absurd (omega arith)

pub each_cons : (x : ℕ) (xs : List ℕ) → x < p → Elements xs → Elements (x ∷ xs)
each_cons x xs h e zero l = h
each_cons x xs h e (suc k) l = e k (omega arith)

pub each_append : (xs ys : List ℕ) → Elements xs → Elements ys → Elements (xs ++ ys)
each_append xs ys ex ey k h =
    ⊎_elim (λ l. rw (get_or_append_left xs ys 0 k l) (ex k l))
    (λ l. rw (get_or-append_right xs ys (length xs) k 0 refl l) (ey (k - length xs) (let n = length-append xs ys in omega arith)))
    (cases_lt k (length xs))

pub each_left : (xs ys : List ℕ) → Elements (xs ++ ys) → Elements xs
each_left xs ys e k h = let n = length-append xs ys in rw (get_or_append_left xs ys 0 k h) at (e k (omega arith))

pub each_right : (xs ys : List ℕ) → Elements (xs ++ ys) → Elements ys
each_right xs ys e k h = let n = length-append xs ys in rw (get_or-append-add xs ys k 0) at (e (length xs + k) (omega arith))

pub each_zeros : (n : ℕ) → Elements (replicate n 0)
each_zeros n k h = let l : k < n = omega (arith, length-replicate {A = ℕ} n 0) in rw (get_or-replicate {A = ℕ} n k 0 0 l) (omega arith)

pub each_take : (n : ℕ) (xs : List ℕ) → Elements xs → Elements (take n xs)
each_take n xs e k h =
    let l = length-take n xs in
    let a : k < n = omega arith in
    rw (get_or-take n xs k 0 a) (e k (omega arith))

pub each_drop : (n : ℕ) (xs : List ℕ) → Elements xs → Elements (drop n xs)
each_drop n xs e k h = let l = length-drop n xs in rw (get_or-drop n xs k 0) (e (n + k) (omega arith))

pub each_set : (xs : List ℕ) (i x : ℕ) → x < p → Elements xs → Elements (set xs i x)
each_set xs i x h e k l =
    let within : k < length xs = omega (arith, length-set xs i x) in
    ⊎_elim
    (λ q. rw q (let w : i < length xs = omega arith in rw (get_or-set_same xs i x 0 w) h))
    (λ ne. rw (get_or-set_other xs i k x 0 ne) (e k within))
    (cases_eq k i)

pub set_state : (m : ℕ) (s : List ℕ) (i x : ℕ) → x < p → State m s → State m (set s i x)
set_state m s i x h t = record { long = length-set s i x ∙ t.long; each = each_set s i x h t.each }

pub front_state : {n : ℕ} (m : ℕ) (s : List ℕ) → State n s → m ≤ n → State m (take m s)
front_state {n} m s t h = record { long = simp length-take (omega (arith, t.long)); each = each_take m s t.each }

pub cut_state : (c w : ℕ) {n : ℕ} (s : List ℕ) → State n s → c + w ≤ n → State w (cut c w s)
cut_state c w s t h =
    record { long = simp (length-take, length-drop) (omega (arith, t.long)); each = each_take w (drop c s) (each_drop c s t.each) }

pub zeros_state : (n : ℕ) → State n (replicate n 0)
zeros_state n = record { long = length-replicate {A = ℕ} n 0; each = each_zeros n }

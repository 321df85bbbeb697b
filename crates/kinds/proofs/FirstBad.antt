-- Where the first word that is no element stands.
use Rattle.std.proofs.Common.{◌≡◌, ℕ, zero, suc, ◌+◌, ◌<◌, ◌≤◌, List, [], ◌∷◌, ◌++◌, length, get_or, refl, ap, ◌∙◌, zero-add, add_assoc, length-append, ⊎_elim, arith}
use Rattle.std.proofs.lemmas.Bool.{lt-ltb, le-ltb, le-leb, lt-leb, cases_lt}
use Rattle.std.specs.List.{position_or_len}
use Rattle.std.proofs.lemmas.Grind.{common_steps}
use Rattle.std.specs.Prelude.{position, nat_le, nat_lt, cond, Some, None}
use Rattle.field.specs.Field.{p, Elements}
use Rattle.kinds.specs.Words.{first_bad, not_elements, not_elements_past}
use Rattle.kinds.specs.Answers.{answer, if_granted, granted, denied}

-- all before n are elements, and what stands at n is none
pub first_is : (xs : List ℕ) (n : ℕ) → n ≤ length xs → ((k : ℕ) → k < n → get_or xs k 0 < p) → (n < length xs → p ≤ get_or xs n 0) → n ≡ first_bad xs
first_is [] n h before here = omega arith
first_is (x ∷ xs) zero h before here = rw (le-ltb x p (here (omega arith)))
first_is (x ∷ xs) (suc n) h before here =
    rw (lt-ltb x p (before 0 (omega arith)))
    (ap suc (first_is xs n (omega arith) (λ k l. before (suc k) (omega arith)) (λ l. here (omega arith))))

pub first_le : (xs : List ℕ) → first_bad xs ≤ length xs
first_le [] = omega arith
first_le (x ∷ xs) =
    ⊎_elim (λ l. rw (lt-ltb x p l) (let h = first_le xs in omega arith)) (λ l. rw (le-ltb x p l) (omega arith)) (cases_lt x p)

pub all_from : (xs : List ℕ) → length xs ≤ first_bad xs → Elements xs
all_from [] h = λ k l. absurd (omega arith)
all_from (x ∷ xs) h =
    ⊎_elim
    (λ l. let below = rw (lt-ltb x p l) at h in
    (λ k. elim k as (λ m. m < length (x ∷ xs) → get_or (x ∷ xs) m 0 < p) [ zero ↦ (λ g. l) | suc j ↦ (λ g. all_from xs (omega arith) j (omega arith)) ]))
    (λ l. let low = rw (le-ltb x p l) at h in absurd (omega arith))
    (cases_lt x p)

pub first_append : (xs ys : List ℕ) → length xs ≤ first_bad xs → first_bad (xs ++ ys) ≡ length xs + first_bad ys
first_append [] ys h = omega arith
first_append (x ∷ xs) ys h =
    ⊎_elim
    (λ l. let below = rw (lt-ltb x p l) at h in rw (lt-ltb x p l) (let e = first_append xs ys (omega arith) in omega arith))
    (λ l. let low = rw (le-ltb x p l) at h in absurd (omega arith))
    (cases_lt x p)

pub first_front : (xs ys : List ℕ) → first_bad xs < length xs → first_bad (xs ++ ys) ≡ first_bad xs
first_front [] ys h = absurd (omega arith)
first_front (x ∷ xs) ys h =
    ⊎_elim
    (λ l. let below = rw (lt-ltb x p l) at h in rw (lt-ltb x p l) (ap suc (first_front xs ys (omega arith))))
    (λ l. rw (le-ltb x p l))
    (cases_lt x p)

first_or_len : (xs : List ℕ) → position_or_len (λ x. nat_le p x) xs ≡ first_bad xs
first_or_len [] = refl
first_or_len (x ∷ xs) =
    ⊎_elim
    (λ l. rw (lt-ltb x p l) (let e = first_or_len xs in let b = lt-leb p x l in grind (arith, common_steps, e, b)))
    (λ l. rw (le-ltb x p l) (let b = le-leb p x l in grind (arith, common_steps, b)))
    (cases_lt x p)

place_is : (xs : List ℕ) → position (λ x. nat_le p x) xs ≡ cond (nat_lt (first_bad xs) (length xs)) (Some (first_bad xs)) None
place_is xs = ap (λ n. cond (nat_lt n (length xs)) (Some n) None) (first_or_len xs)

-- words of which one is no element are refused at the first such place, and others are granted
pub refused_at : (n : ℕ) (xs : List ℕ) (i : ℕ) → Some i ≡ position (λ x. nat_le p x) xs → denied 7 ((n + i) ∷ []) ≡ answer (not_elements_past n xs ∷ [])
refused_at n xs i h =
    let e = h ∙ place_is xs in
    ⊎_elim
    (λ l. let f = rw (lt-ltb (first_bad xs) (length xs) l) at e in rw (lt-ltb (first_bad xs) (length xs) l) cc)
    (λ l. let f = rw (le-ltb (first_bad xs) (length xs) l) at e in cc)
    (cases_lt (first_bad xs) (length xs))

pub admitted : (n : ℕ) (xs : List ℕ) → None ≡ position (λ x. nat_le p x) xs → (granted ≡ answer (not_elements_past n xs ∷ [])) × Elements xs
admitted n xs h =
    let e = h ∙ place_is xs in
    ⊎_elim
    (λ l. let f = rw (lt-ltb (first_bad xs) (length xs) l) at e in cc)
    (λ l. (rw (le-ltb (first_bad xs) (length xs) l), all_from xs l))
    (cases_lt (first_bad xs) (length xs))

pub past_none : (xs : List ℕ) → answer (not_elements_past 0 xs ∷ []) ≡ answer (not_elements xs ∷ [])
past_none xs = rw zero-add

-- words in two parts are refused by the first part, and where that is granted by the second
pub past_both : (n : ℕ) (xs ys : List ℕ)
    → answer (not_elements_past n (xs ++ ys) ∷ []) ≡ if_granted (answer (not_elements_past n xs ∷ [])) (answer (not_elements_past (n + length xs) ys ∷ [])) (answer (not_elements_past n xs ∷ []))
past_both n xs ys =
    ⊎_elim
    (λ (l : first_bad xs < length xs).
    let more : first_bad xs < length (xs ++ ys) = simp length-append (omega arith) in
    rw (first_front xs ys l, lt-ltb (first_bad xs) (length xs) l, lt-ltb (first_bad xs) (length (xs ++ ys)) more))
    (λ (l : length xs ≤ first_bad xs).
    rw (first_append xs ys l, le-ltb (first_bad xs) (length xs) l)
    (⊎_elim
    (λ (m : first_bad ys < length ys).
    let more : length xs + first_bad ys < length (xs ++ ys) = simp length-append (omega arith) in
    rw (lt-ltb (length xs + first_bad ys) (length (xs ++ ys)) more, lt-ltb (first_bad ys) (length ys) m, add_assoc))
    (λ (m : length ys ≤ first_bad ys).
    let most : length (xs ++ ys) ≤ length xs + first_bad ys = simp length-append (omega arith) in
    rw (le-ltb (length xs + first_bad ys) (length (xs ++ ys)) most, le-ltb (first_bad ys) (length ys) m))
    (cases_lt (first_bad ys) (length ys))))
    (cases_lt (first_bad xs) (length xs))

pub past_first : (n : ℕ) (xs ys : List ℕ) (k : ℕ) (vs : List ℕ) → denied k vs ≡ answer (not_elements_past n xs ∷ []) → denied k vs ≡ answer (not_elements_past n (xs ++ ys) ∷ [])
past_first n xs ys k vs h = rw (past_both n xs ys, ← h)

pub past_rest : (n m : ℕ) (xs ys : List ℕ) → m ≡ n + length xs → granted ≡ answer (not_elements_past n xs ∷ []) → answer (not_elements_past m ys ∷ []) ≡ answer (not_elements_past n (xs ++ ys) ∷ [])
past_rest n m xs ys e h = rw (past_both n xs ys, ← h, e)

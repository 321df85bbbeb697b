-- The highest level that fails a test, and paths whose parts are alike.
use Rattle.std.proofs.Common.{◌≡◌, ℕ, zero, suc, ◌*◌, ◌<◌, ◌≤◌, Bool, true, false, List, length, take, sym, ◌∙◌, ⊎_elim, suc-mul, zero-mul, arith, take-add}
use Rattle.std.proofs.lemmas.Bool.{cases_Bool, cases_eq}
use Rattle.std.proofs.lemmas.List.{take_all}
use Rattle.openings.specs.Opening.{part_at}
use Rattle.finder.specs.Findings.{highest}

-- what a highest level says
pub record Highest (test : ℕ → Bool) (n level : ℕ) : Type 0 where
  pub within : level < n
  pub fails : test level ≡ false
  pub above : (k : ℕ) → level < k → k < n → test k ≡ true

pub highest_none : (test : ℕ → Bool) (n : ℕ) → highest test n ≡ 0 → (k : ℕ) → k < n → test k ≡ true
highest_none test zero e k h = absurd (omega arith)
highest_none test (suc n) e k h =
    ⊎_elim
    (λ t. let rest = rw t at e in ⊎_elim (λ q. rw q t) (λ ne. highest_none test n rest k (omega arith)) (cases_eq k n))
    (λ t. let bad = rw t at e in absurd (omega arith))
    (cases_Bool (test n))

pub highest_some : (test : ℕ → Bool) (n level : ℕ) → highest test n ≡ suc level → Highest test n level
highest_some test zero level e = absurd (omega arith)
highest_some test (suc n) level e =
    ⊎_elim
    (λ t.
    let rest = highest_some test n level (rw t at e) in
    record { within = let h = rest.within in omega arith; fails = rest.fails; above = λ k l h. ⊎_elim (λ q. rw q t) (λ ne. rest.above k l (omega arith)) (cases_eq k n) })
    (λ t.
    let here : n ≡ level = let bad = rw t at e in omega arith in
    record { within = omega arith; fails = rw (← here) t; above = λ k l h. absurd (omega arith) })
    (cases_Bool (test n))

-- paths whose parts are alike at every level are alike
fronts : (w depth : ℕ) (p q : List ℕ) → ((k : ℕ) → k < depth → part_at w k p ≡ part_at w k q) → (n : ℕ) → n ≤ depth → take (n * w) p ≡ take (n * w) q
fronts w depth p q e zero h = let z = zero-mul w in rw z
fronts w depth p q e (suc n) h =
    let m = suc-mul n w in
    rw (m, take-add (n * w) w p, take-add (n * w) w q, fronts w depth p q e n (omega arith), e n (omega arith))

pub paths_alike : (w depth : ℕ) (p q : List ℕ) → length p ≡ depth * w → length q ≡ depth * w → ((k : ℕ) → k < depth → part_at w k p ≡ part_at w k q) → p ≡ q
paths_alike w depth p q n m e =
    sym (take_all (depth * w) p (omega arith)) ∙ fronts w depth p q e depth (omega arith) ∙ take_all (depth * w) q (omega arith)

-- One thing put among many: what is shown at each index, and what holds there.
use Rattle.std.proofs.Common.{◌≡◌, ℕ, ◌<◌, cond, eqb, ◌≢◌, List, length, get_or, set, replicate, sym, ◌∙◌, ⊎_elim, arith}
use Rattle.std.proofs.lemmas.Bool.{cond_both, cases_lt, eqb-true, eqb-false}
use Rattle.std.proofs.lemmas.List.{length-replicate, get_or-set_same, get_or-set_other, get_or-replicate, get_or_past}

-- a list of one thing alone, past its end too
pub all_same : {X : Type 0} (m k : ℕ) (x : X) → get_or (replicate m x) k x ≡ x
all_same m k x = ⊎_elim (λ b. get_or-replicate m k x x b) (λ b. get_or_past (replicate m x) k x (let e = length-replicate m x in omega arith)) (cases_lt k m)

module _ {Y : Type 0} (old : ℕ → Y) (change : Y → Y) (i : ℕ) where
  -- what a list shows of many things, after one of them is changed
  pub put_shown : {X : Type 0} (show : Y → X) (xs : List X) (v z : X) → i < length xs → v ≡ show (change (old i)) → ((k : ℕ) → get_or xs k z ≡ show (old k)) → (k : ℕ) → get_or (set xs i v) k z ≡ show (cond (eqb i k) (change (old k)) (old k))
  put_shown show xs v z within new shown k =
      cond_both (eqb i k) (change (old k)) (old k) (λ y. get_or (set xs i v) k z ≡ show y)
      (λ t. let same : i ≡ k = eqb-true i k t in rw (← same) (get_or-set_same xs i v z within ∙ new))
      (λ t. let other : k ≢ i = λ e. eqb-false i k t (sym e) in get_or-set_other xs i k v z other ∙ shown k)

  pub put_holds : (P : Y → Type 0) → P (change (old i)) → ((k : ℕ) → P (old k)) → (k : ℕ) → P (cond (eqb i k) (change (old k)) (old k))
  put_holds P new holds k =
      cond_both (eqb i k) (change (old k)) (old k) P (λ t. let same : i ≡ k = eqb-true i k t in rw (← same) new) (λ t. holds k)

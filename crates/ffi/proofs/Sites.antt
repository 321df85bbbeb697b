-- A depth or a place that is too large for its operand is refused as the operand's largest is.
use Rattle.std.proofs.Common.{◌≡◌, ℕ, ◌^◌, ◌<◌, ◌≤◌, min, true, false, ltb, leb, List, ◌∷◌, drop, Option, refl, ap, ◌∙◌, ⊎_elim, arith, pow_mono}
use Rattle.std.proofs.lemmas.Bool.{cases_Bool, cases_lt, lt-ltb, ltb-false, le-leb}
use Rattle.std.proofs.Math.Nat.{min-eq_right, le-min}
use Rattle.kinds.specs.Answers.{Answer, denied, Cause, answer, if_granted}
use Rattle.model.specs.Calls.{too_deep, no_place}
use Rattle.openings.specs.Opening.{reaches}
use Rattle.openings.specs.Checks.{check_causes, check_call}
use Rattle.finder.specs.Findings.{find_causes, found, unless_denied, find_call}

-- of a depth of at most 8 no place above 255 is one
no_such : (d p : ℕ) → d ≤ 8 → 256 ≤ p → leb (2 ^ d) p ≡ true
no_such d p h far = let most : 2 ^ d ≤ 2 ^ 8 = pow_mono h in le-leb (2 ^ d) p (omega arith)

-- calls that are refused for their depth first and then for their place, and say of a denial no more than that it is one
module _ {A : Type 0} (rest : ℕ → ℕ → List Cause) (says : Answer → ℕ → ℕ → A) (same : (n : ℕ) (vs : List ℕ) (d1 d2 p1 p2 : ℕ) → says (denied n vs) d1 p1 ≡ says (denied n vs) d2 p2) where
  abbrev call : ℕ → ℕ → A
  call d p = says (answer (too_deep d ∷ no_place d p ∷ rest d p)) d p

  all_deep : (d1 d2 p1 p2 : ℕ) → 8 < d1 → 8 < d2 → call d1 p1 ≡ call d2 p2
  all_deep d1 d2 p1 p2 h1 h2 = rw (lt-ltb 8 d1 h1, lt-ltb 8 d2 h2) (same 1 _ d1 d2 p1 p2)

  all_far : (d p1 p2 : ℕ) → 256 ≤ p1 → 256 ≤ p2 → call d p1 ≡ call d p2
  all_far d p1 p2 h1 h2 =
      ⊎_elim
      (λ b. rw b (same 1 _ d d p1 p2))
      (λ b. let h = ltb-false 8 d b in rw (b, no_such d p1 h h1, no_such d p2 h h2) (same 3 _ d d p1 p2))
      (cases_Bool (ltb 8 d))

  cut : (d p : ℕ) → call (min 255 d) (min 65535 p) ≡ call d p
  cut d p =
      ⊎_elim
      (λ (deep : 255 < d). all_deep (min 255 d) d (min 65535 p) p (le-min {k = 9} {a = 255} {b = d} (omega arith) (omega arith)) (omega arith))
      (λ (h : d ≤ 255). ap (λ n. call n (min 65535 p)) (min-eq_right {n = d} {m = 255} h) ∙
      ⊎_elim
      (λ (off : 65535 < p). all_far d (min 65535 p) p (le-min {k = 256} {a = 65535} {b = p} (omega arith) (omega arith)) (omega arith))
      (λ (k : p ≤ 65535). ap (call d) (min-eq_right {n = p} {m = 65535} k))
      (cases_lt 65535 p))
      (cases_lt 255 d)

module _ (c w : ℕ) (F : List ℕ → List ℕ) (root : List ℕ) where
  pub same_check : (d p : ℕ) (claim : Option (List ℕ)) (path : List ℕ) → check_call c w F root (min 255 d) (min 65535 p) claim path ≡ check_call c w F root d p claim path
  same_check d p claim path =
      cut (λ d p. drop 2 (check_causes w root d p claim path)) (λ a d p. (a, if_granted a (reaches c w F root d p claim path) false)) (λ n vs d1 d2 p1 p2. refl) d p

  pub same_finding : (d p : ℕ) (claim1 : Option (List ℕ)) (path1 : List ℕ) (claim2 : Option (List ℕ)) (path2 out : List ℕ)
      → find_call c w F root (min 255 d) (min 65535 p) claim1 path1 claim2 path2 out ≡ find_call c w F root d p claim1 path1 claim2 path2 out
  same_finding d p claim1 path1 claim2 path2 out =
      cut (λ d p. drop 2 (find_causes c w F root d p claim1 path1 claim2 path2 out))
      (λ a d p. unless_denied a out (found c w F d p claim1 path1 claim2 path2 out))
      (λ n vs d1 d2 p1 p2. refl) d p

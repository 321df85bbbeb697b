-- A search for the highest level that fails a test, from above.
use Rattle.std.proofs.Common.{◌≡◌, ℕ, suc, ◌+◌, ◌-◌, ◌<◌, Bool, true, false, not, List, [], ◌∷◌, Some, None, Option, sym, refl, subst, arith}
use Rattle.std.proofs.lemmas.Bool.{not-true, not-false}
use denote.Ref.{Bor}
use denote.Param.Members.{Mut}
use Rattle.std.specs.Fn.{CalledAt}
use Rattle.std.specs.List.{FoldsTo}
use Rattle.std.specs.Option.{MatchOption}
use Rattle.std.specs.Iterator.{Yields, YieldsThen}
use Rattle.std.specs.declared.iter.Rev.{Rev}
use Rattle.std.specs.declared.ops.Range.{Range}
use Rattle.finder.specs.Findings.{highest, one_past}

-- what a range that is read from its end gives
abbrev falling : Rev (Range ℕ) → Option ℕ → Rev (Range ℕ) → Type 0
falling s r t = (t.iter.start ≡ s.iter.start)
    × MatchOption r ((s.iter.end - s.iter.start ≡ 0) × (t.iter.end ≡ s.iter.end)) (λ x. (0 < s.iter.end - s.iter.start) × (x ≡ t.iter.end) × (s.iter.end ≡ t.iter.end + 1))

module _ {F : Type 0} {g : Mut F (Bor ℕ × Unit {0}) Bool} (test : ℕ → Bool) (f : F) (tells : (x : ℕ) (b : Bool) (q : F) → CalledAt g f x b q → (q ≡ f) × (b ≡ not (test x))) where
  found : (xs : List ℕ) (n : ℕ) (r : Option ℕ) (j : F) (s t u : Rev (Range ℕ)) → s.iter.start ≡ 0 → s.iter.end ≡ n → Yields falling s xs t → falling t r u →
      FoldsTo (λ p x q. CalledAt g p x false q) f xs j → MatchOption r (Unit {0}) (λ x. (h : F) × CalledAt g j x true h) → one_past r ≡ highest test n
  found [] n None j s t u low high same ends folds last = let z : n ≡ 0 = let e : falling s None u = rw same ends in omega (arith, e.1.0) in rw z refl
  found [] n (Some x) j s t u low high same gives folds last =
      let e : falling s (Some x) u = rw same gives in
      let z : n ≡ suc x = omega (arith, e.1.1, e.1.2) in
      let k = not-true (test x) (sym (tells x true last.0 (rw folds last.1)).1) in
      rw (z, k) refl
  found (x ∷ xs) n r j s t u low high yields gives folds last =
      let e = yields.1 in
      let z : n ≡ suc x = omega (arith, e.1.1, e.1.2) in
      let k = tells x false folds.0 folds.1 in
      let rest = subst (λ p. FoldsTo (λ p x q. CalledAt g p x false q) p xs j) k.0 folds.2 in
      rw (z, not-false (test x) (sym k.1)) (found xs x r j yields.0 t u (omega (arith, e.0)) (sym e.1.1) yields.2 gives rest last)

  pub highest_found : (n : ℕ) (r : Option ℕ) (s u : Rev (Range ℕ)) → s.iter.start ≡ 0 → s.iter.end ≡ n →
      (xs : List ℕ) × (j : F) × YieldsThen falling s xs r u × FoldsTo (λ p x q. CalledAt g p x false q) f xs j × MatchOption r (Unit {0}) (λ x. (h : F) × CalledAt g j x true h) → one_past r ≡ highest test n
  highest_found n r s u low high ran = found ran.0 n r ran.1 s ran.2.0 u low high ran.2.1 ran.2.2 ran.3 ran.4

-- Arrays that `array::from_fn` makes.
use Rattle.std.proofs.Common.{◌≡◌, ℕ, zero, suc, ◌+◌, ◌<◌, List, get_or, subst, ◌∙◌, arith}
use Rattle.std.specs.Array.{IsFromFnResult, IsFromFnResultFrom}
use denote.Param.Members.{Mut, Called}

-- items that a closure made, which no call of it changes
module _ {F : Type 0} (g : Mut F (ℕ × Unit {0}) ℕ) (f : F) (ys : List ℕ) (h : ℕ → ℕ) (gives : (i y : ℕ) (q : F) → Called g f (i, tt) y q → (q ≡ f) × (y ≡ h i)) where
  each_made : (i n k : ℕ) → IsFromFnResultFrom g f ys i n → k < n → get_or ys (i + k) 0 ≡ h (i + k)
  each_made i zero k c b = absurd (omega arith)
  each_made i (suc n) zero (q, y, is, call, more) b =
      let e : i + 0 ≡ i = omega arith in rw e (is.1 0 ∙ (gives i y q call).1)
  each_made i (suc n) (suc k) (q, y, is, call, more) b =
      let e : i + suc k ≡ i + 1 + k = omega arith in
      rw e (each_made (i + 1) n k (subst (λ s. IsFromFnResultFrom g s ys (i + 1) n) (gives i y q call).0 more) (omega arith))

  pub made : (n : ℕ) → IsFromFnResult g f ys n → (k : ℕ) → k < n → get_or ys k 0 ≡ h k
  made n r k b = let z : 0 + k ≡ k = omega arith in rw z at (each_made 0 n k r.each b)

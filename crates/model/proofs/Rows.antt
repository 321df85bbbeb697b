-- Pieces of one length in a row.
use Rattle.std.proofs.Common.{◌≡◌, ℕ, zero, suc, ◌*◌, ◌<◌, ◌≤◌, List, [], ◌++◌, length, take, drop, sym, ap, ◌∙◌, ⊎_elim, mul-le-mul_right, suc-mul, zero-mul, arith}
use Rattle.std.proofs.lemmas.Bool.{cases_lt}
use Rattle.std.proofs.lemmas.List.{length-append, length-drop, drop-append-le, drop_at, take-append-le, take_all}

module _ {X : Type 0} (k n : ℕ) (row piece : ℕ → List X) (none : row 0 ≡ []) (more : (m : ℕ) → row (suc m) ≡ row m ++ piece m) (long : (m : ℕ) → m < n → length (piece m) ≡ k) where
  row_long : (m : ℕ) → m ≤ n → length (row m) ≡ m * k
  row_long zero h = ap length none ∙ sym (zero-mul k)
  row_long (suc m) h =
      ap length (more m) ∙ length-append (row m) (piece m) ∙ (let a = row_long m (omega arith) in let b = long m (omega arith) in let d = suc-mul m k in omega arith)

  pub row_piece : (m j : ℕ) → m ≤ n → j < m → take k (drop (j * k) (row m)) ≡ piece j
  row_piece zero j h low = absurd (omega arith)
  row_piece (suc m) j h low =
      let front = row_long m (omega arith) in
      let last = long m (omega arith) in
      rw (more m)
      (⊎_elim
      (λ below.
      let s = suc-mul j k in
      let fits : suc j * k ≤ m * k = mul-le-mul_right k (omega arith) in
      let inside : k ≤ length (drop (j * k) (row m)) = let e = length-drop (j * k) (row m) in omega arith in
      ap (take k) (drop-append-le (j * k) (row m) (piece m) (omega arith)) ∙ take-append-le k (drop (j * k) (row m)) (piece m) inside ∙ row_piece m j (omega arith) below)
      (λ past.
      let here : j ≡ m = omega arith in
      let all : length (piece m) ≤ k = omega arith in
      rw here (ap (take k) (drop_at (row m) (piece m) (m * k) front) ∙ take_all k (piece m) all))
      (cases_lt j m))

-- The two-to-one hash of two digests is the digest of the record that they make together: one block, with nothing filled up.
use Rattle.std.proofs.Common.{◌≡◌, ℕ, suc, ◌+◌, ◌-◌, ◌*◌, ◌/◌, ◌%◌, List, [], ◌++◌, length, take, replicate, sym, ap, ◌∙◌, arith}
use native.Mathlib.Nat.{div-eq_of_eq-mul_left, mod_self}
use Rattle.std.proofs.lemmas.Bool.{eq-eqb}
use Rattle.std.proofs.lemmas.List.{length-append, take-replicate, take_all, append-nil}
use Rattle.kinds.specs.Kinds.{Sound}
use Rattle.sponge.specs.Digests.{cut, filling, filled, first_state, after_blocks, record_digest, start_of, PairsAreRecords}

module _ {n c w : ℕ} {F : List ℕ → List ℕ} (sound : Sound n c w F) where
  zeros_front : take c (first_state c w 0) ≡ replicate c 0
  zeros_front =
      let some = sound.c_some in
      let e : suc (c + 2 * w - 1) ≡ c + 2 * w = omega arith in
      ap (λ (m : ℕ). take c (replicate {A = ℕ} m 0)) e ∙ take-replicate {X = ℕ} c (c + 2 * w) 0 (omega arith)

  -- a record of one full block
  one_block : (xs : List ℕ) → length xs ≡ 2 * w → record_digest c w F (start_of w (length xs)) xs ≡ cut c w (F (replicate c 0 ++ xs))
  one_block xs long =
      let some = sound.w_some in
      let full : length xs % (2 * w) ≡ 0 = ap (λ (m : ℕ). m % (2 * w)) long ∙ mod_self (2 * w) in
      let start : start_of w (length xs) ≡ 0 = rw (eq-eqb (length xs % (2 * w)) 0 full) in
      let none : filling w (length xs) ≡ [] = rw (eq-eqb (length xs % (2 * w)) 0 full) in
      let whole : filled w xs ≡ xs = ap (λ (l : List ℕ). xs ++ l) none ∙ append-nil xs in
      let one : length xs / (2 * w) ≡ 1 = div-eq_of_eq-mul_left (omega arith) (omega arith) in
      let all : take (2 * w) xs ≡ xs = take_all (2 * w) xs (omega arith) in
      ap (λ (b : ℕ). record_digest c w F b xs) start
      ∙ ap (λ (ys : List ℕ). cut c w (after_blocks c w F (length ys / (2 * w)) (first_state c w 0) ys)) whole
      ∙ ap (λ (k : ℕ). cut c w (after_blocks c w F k (first_state c w 0) xs)) one
      ∙ ap (λ (zs : List ℕ). cut c w (F (zs ++ take (2 * w) xs))) zeros_front
      ∙ ap (λ (ys : List ℕ). cut c w (F (replicate c 0 ++ ys))) all

  pub pairs_are_records : PairsAreRecords c w F
  pairs_are_records a b sa sb = sym (one_block (a ++ b) (simp length-append (omega (arith, sa.long, sb.long))))

-- A record fed element by element comes to its digest by blocks, and a digest is made of elements.
use Rattle.std.proofs.Common.{◌≡◌, ℕ, suc, ◌+◌, ◌-◌, ◌*◌, ◌/◌, ◌%◌, ◌<◌, ◌≤◌, eqb, ◌≢◌, List, [], ◌∷◌, ◌++◌, length, replicate, sym, ap, ◌∙◌, mod-lt, suc-mul, div-add-mod', zero-add, arith}
use native.Mathlib.Nat.{div-eq_of_eq-mul_left, zero-mod}
use Rattle.std.proofs.lemmas.Bool.{cond_both, eqb-true, eqb-false}
use Rattle.std.proofs.lemmas.List.{length-append, length-replicate}
use Rattle.field.specs.Field.{p, Elements}
use Rattle.kinds.specs.Kinds.{State, Sound}
use Rattle.sponge.specs.Digests.{cut, filling, filled, first_state, start_of, digest_of}
use Rattle.sponge.specs.Streams.{Stream, fed_all, begun, finished, Fair, StreamsToDigests}
use Rattle.sponge.proofs.Parts.{each_none, each_cons, each_zeros, each_append, cut_state}
use Rattle.sponge.proofs.Feeds.{fed_append, all_count, all_fair, begun_fair, filling_mod}
use Rattle.sponge.proofs.Blocks.{by_blocks}

whole : (m q r : ℕ) → 0 < r → m ≡ q * r → m ≡ m / r * r
whole m q r h e = e ∙ ap (λ (k : ℕ). k * r) (sym (div-eq_of_eq-mul_left h e))

filled_long : (w : ℕ) (xs : List ℕ) → 1 ≤ w → length (filled w xs) ≡ length (filled w xs) / (2 * w) * (2 * w)
filled_long w xs h =
    let n = length xs in
    let f = n % (2 * w) in
    let q = n / (2 * w) in
    let pos : 0 < 2 * w = omega arith in
    let parts : q * (2 * w) + f ≡ n = div-add-mod' n (2 * w) in
    let low : f < 2 * w = mod-lt n pos in
    cond_both {A = List ℕ} (eqb f 0) [] (1 ∷ replicate (2 * w - (f + 1)) 0) (λ ys. length (xs ++ ys) ≡ length (xs ++ ys) / (2 * w) * (2 * w))
    (λ t. let z = eqb-true f 0 t in let l = length-append {A = ℕ} xs [] in whole (length (xs ++ [])) q (2 * w) pos (omega arith))
    (λ t.
    let nz : f ≢ 0 = eqb-false f 0 t in
    let l = length-append {A = ℕ} xs (1 ∷ replicate (2 * w - (f + 1)) 0) in
    let z = length-replicate {A = ℕ} (2 * w - (f + 1)) 0 in
    let m = suc-mul q (2 * w) in
    whole (length (xs ++ (1 ∷ replicate (2 * w - (f + 1)) 0))) (suc q) (2 * w) pos (omega arith))

pub each_filling : (w n : ℕ) → Elements (filling w n)
each_filling w n =
    let f = n % (2 * w) in
    cond_both {A = List ℕ} (eqb f 0) [] (1 ∷ replicate (2 * w - (f + 1)) 0) Elements
    (λ t. each_none)
    (λ t. each_cons 1 (replicate (2 * w - (f + 1)) 0) (omega arith) (each_zeros (2 * w - (f + 1))))

pub start_small : (w n : ℕ) → start_of w n < p
start_small w n = cond_both (eqb (n % (2 * w)) 0) 0 1 (λ b. b < p) (λ _. omega arith) (λ _. omega arith)

module _ {n c w : ℕ} {F : List ℕ → List ℕ} (sound : Sound n c w F) where
  pub finished_state : (s : Stream) → Fair c w s → State w (finished c w F s)
  finished_state s fair =
      cut_state c w (fed_all c w F s (filling w s.1)).0 (all_fair sound (filling w s.1) s (each_filling w s.1) fair).holds (omega arith)

  pub streams_to_digests : StreamsToDigests c w F
  streams_to_digests start xs small e =
      let s = begun c w start in
      let ys = filled w xs in
      let each : Elements ys = each_append xs (filling w (length xs)) e (each_filling w (length xs)) in
      let count : (fed_all c w F s xs).1 ≡ length xs % (2 * w) = all_count c w F xs s 0 sound.w_some (sym (zero-mod (2 * w))) ∙ ap (λ (m : ℕ). m % (2 * w)) (zero-add (length xs)) in
      let same : filling w (fed_all c w F s xs).1 ≡ filling w (length xs) = ap (filling w) count ∙ filling_mod w (length xs) in
      ap (λ (ys : List ℕ). cut c w (fed_all c w F (fed_all c w F s xs) ys).0) same
      ∙ ap (λ (t : Stream). cut c w t.0) (sym (fed_append c w F s xs (filling w (length xs))))
      ∙ ap (λ (t : Stream). cut c w t.0) (by_blocks sound (length ys / (2 * w)) (first_state c w start) ys (begun_fair sound start small).holds each (filled_long w xs sound.w_some))

  pub digest_state : (xs : List ℕ) → Elements xs → State w (digest_of c w F xs)
  digest_state xs e =
      let small = start_small w (length xs) in
      let s = begun c w (start_of w (length xs)) in
      rw (← streams_to_digests (start_of w (length xs)) xs small e) (finished_state (fed_all c w F s xs) (all_fair sound xs s e (begun_fair sound (start_of w (length xs)) small)))

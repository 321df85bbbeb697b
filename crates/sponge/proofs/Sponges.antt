-- The program's sponge: sixteen words, of which a kind uses the front, and a count of which it uses the rest by its rate.
use Rattle.std.proofs.Common.{◌≡◌, ℕ, suc, ◌+◌, ◌-◌, ◌*◌, ◌%◌, ◌<◌, ◌≤◌, List, ◌∷◌, ◌++◌, take, drop, replicate, ap, ◌∙◌, mod-lt, mod-eq_of_lt, arith}
use native.Mathlib.Nat.{zero-mod}
use Rattle.std.proofs.lemmas.List.{length-append, length-drop, take_at, take-replicate}
use Rattle.field.specs.Field.{p}
use Rattle.kinds.specs.Kinds.{State, Sound}
use Rattle.sponge.specs.Streams.{Stream, fed, begun, Fair}
use Rattle.sponge.proofs.Parts.{each_append, each_drop, front_state}
use Rattle.sponge.proofs.Feeds.{fed_fair}

pub first_front : (b m : ℕ) → 1 ≤ m → m ≤ 16 → take m (b ∷ replicate 15 0) ≡ b ∷ replicate {A = ℕ} (m - 1) 0
first_front b m h l =
    let s : m ≡ suc (m - 1) = omega arith in
    ap (λ (n : ℕ). take n (b ∷ replicate 15 0)) s ∙ ap (λ (t : List ℕ). b ∷ t) (take-replicate {X = ℕ} (m - 1) 15 0 (omega arith))

module _ {n c w : ℕ} {F : List ℕ → List ℕ} (sound : Sound n c w F) where
  pub started : (b : ℕ) → ◌≡◌ {A = Stream} (take (c + 2 * w) (b ∷ replicate 15 0), 0 % (2 * w)) (begun c w b)
  started b =
      let some = sound.c_some in
      ap (λ (i : ℕ). (take (c + 2 * w) (b ∷ replicate 15 0), i)) (zero-mod (2 * w)) ∙ ap (λ (s : List ℕ). (s, 0)) (first_front b (c + 2 * w) (omega arith) sound.m_small)

  -- one element over the front of the words st, which leaves `last` there and gives the place r
  module _ (st last : List ℕ) (mm rr r filled x : ℕ) (em : mm ≡ c + 2 * w) (er : rr ≡ 2 * w) (words : State 16 st) where
    pub front_fair : Fair c w (take (mm - 0) st, filled % rr)
    front_fair =
        let z : mm - 0 ≡ c + 2 * w = omega arith in
        let some = sound.w_some in
        rw (z, er) (record { holds = front_state (c + 2 * w) st words sound.m_small; room = mod-lt filled (omega arith) })

    module _ (small : x < p) (e : ◌≡◌ {A = Stream} (last, r) (fed c w F (take (mm - 0) st, filled % rr) x)) where
      next_fair : Fair c w (last, r)
      next_fair = rw e (fed_fair sound (take (mm - 0) st, filled % rr) x small front_fair)

      pub words_state : State 16 (last ++ drop (mm - 0) st)
      words_state =
          let m = sound.m_small in
          record {
            long = simp (length-append, length-drop) (omega (arith, next_fair.holds.long, words.long));
            each = each_append last (drop (mm - 0) st) next_fair.holds.each (each_drop (mm - 0) st words.each);
          }

      pub absorbed : ◌≡◌ {A = Stream} (take (c + 2 * w) (last ++ drop (mm - 0) st), r % (2 * w)) (fed c w F (take (c + 2 * w) st, filled % (2 * w)) x)
      absorbed =
          let z : mm - 0 ≡ c + 2 * w = omega arith in
          let low : r < 2 * w = next_fair.room in
          rw (take_at last (drop (mm - 0) st) (c + 2 * w) next_fair.holds.long, mod-eq_of_lt low) (rw (z, er) at e)

-- the digest as it is copied out of the words

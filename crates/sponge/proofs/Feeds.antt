-- What an element fed leaves, and elements fed one after the other.
use Rattle.std.proofs.Common.{◌≡◌, ℕ, suc, ◌+◌, ◌-◌, ◌*◌, ◌%◌, ◌<◌, ◌≤◌, eqb, ◌≢◌, List, [], ◌∷◌, ◌++◌, length, get_or, take, set, replicate, sym, refl, ap, ◌∙◌, add-zero, mod-lt, mod-eq_of_lt, add-one, arith}
use native.Mathlib.Nat.{suc-mod, mod_self, mod-mod}
use Rattle.std.proofs.lemmas.Bool.{cond_both, eqb-true, eqb-false, ne_eqb}
use Rattle.std.proofs.lemmas.List.Sums.{fold_push, fold_more}
use Rattle.std.proofs.lemmas.List.{length-replicate, replicate_more}
use Rattle.field.specs.Field.{p, Elements}
use Rattle.kinds.specs.Kinds.{Sound}
use Rattle.sponge.specs.Digests.{filling}
use Rattle.sponge.specs.Streams.{Stream, fed, fed_all, begun, Fair}
use Rattle.sponge.proofs.Parts.{set_state, each_cons, each_zeros}

pub fed_append : (c w : ℕ) (F : List ℕ → List ℕ) (s : Stream) (xs ys : List ℕ) → fed_all c w F s (xs ++ ys) ≡ fed_all c w F (fed_all c w F s xs) ys
fed_append c w F s [] ys = refl
fed_append c w F s (x ∷ xs) ys = fed_append c w F (fed c w F s x) xs ys

pub fed_more : (c w : ℕ) (F : List ℕ → List ℕ) (s t u : Stream) (xs : List ℕ) (i : ℕ) → i < length xs → t ≡ fed_all c w F s (take i xs) → u ≡ fed c w F t (get_or xs i 0) → u ≡ fed_all c w F s (take (i + 1) xs)
fed_more c w F s t u xs i h et eu = eu ∙ ap (λ (v : Stream). fed c w F v (get_or xs i 0)) et ∙ sym (fold_more (fed c w F) s xs i 0 h)

pub fed_zeros : (c w : ℕ) (F : List ℕ → List ℕ) (s t u : Stream) (i f : ℕ) → f + 1 ≤ i → t ≡ fed_all c w F s (replicate (i - (f + 1)) 0) → u ≡ fed c w F t 0 → u ≡ fed_all c w F s (replicate (i + 1 - (f + 1)) 0)
fed_zeros c w F s t u i f h et eu =
    let e : i + 1 - (f + 1) ≡ i - (f + 1) + 1 = omega arith in
    eu ∙ ap (λ (v : Stream). fed c w F v 0) et
    ∙ sym (rw (e, ← replicate_more {X = ℕ} (i - (f + 1)) 0) (fold_push (fed c w F) s (replicate (i - (f + 1)) 0) 0))

-- the place in the block
fed_count : (c w : ℕ) (F : List ℕ → List ℕ) (s : Stream) (x k : ℕ) → 1 ≤ w → s.1 ≡ k % (2 * w) → (fed c w F s x).1 ≡ (k + 1) % (2 * w)
fed_count c w F s x k h e =
    let n : (k + 1) % (2 * w) ≡ suc (k % (2 * w)) % (2 * w) = ap (λ (n : ℕ). n % (2 * w)) (add-one k) ∙ suc-mod k (2 * w) in
    let below : k % (2 * w) < 2 * w = mod-lt k (omega arith) in
    cond_both {A = Stream} (eqb (s.1 + 1) (2 * w)) (F (set s.0 (c + s.1) x), 0) (set s.0 (c + s.1) x, s.1 + 1) (λ q. q.1 ≡ (k + 1) % (2 * w))
    (λ t.
    let full : suc (k % (2 * w)) ≡ 2 * w = let u = eqb-true (s.1 + 1) (2 * w) t in omega arith in
    sym (n ∙ ap (λ (n : ℕ). n % (2 * w)) full ∙ mod_self (2 * w)))
    (λ t.
    let ne : s.1 + 1 ≢ 2 * w = eqb-false (s.1 + 1) (2 * w) t in
    let small : suc (k % (2 * w)) < 2 * w = omega arith in
    let done = mod-eq_of_lt small in
    omega arith)

pub all_count : (c w : ℕ) (F : List ℕ → List ℕ) (xs : List ℕ) (s : Stream) (k : ℕ) → 1 ≤ w → s.1 ≡ k % (2 * w) → (fed_all c w F s xs).1 ≡ (k + length xs) % (2 * w)
all_count c w F [] s k h e = rw add-zero e
all_count c w F (x ∷ xs) s k h e =
    let m : k + 1 + length xs ≡ k + suc (length xs) = omega arith in
    rw (← m) (all_count c w F xs (fed c w F s x) (k + 1) h (fed_count c w F s x k h e))

-- what fills up depends on the place in the block alone
pub filling_mod : (w n : ℕ) → filling w (n % (2 * w)) ≡ filling w n
filling_mod w n = rw (mod-mod n (2 * w))

-- where a block is begun, one 1 and then zeros fill it up
pub filled_up : (c w : ℕ) (F : List ℕ → List ℕ) (s one new : Stream) (n at i : ℕ) → s.1 ≡ n % (2 * w) → at ≡ n % (2 * w) → at ≢ 0 → i ≡ 2 * w → one ≡ fed c w F s 1 → new ≡ fed_all c w F one (replicate (i - (at + 1)) 0) → new ≡ fed_all c w F s (filling w s.1)
filled_up c w F s one new n at i es ea ne ei e1 e =
    let place : s.1 % (2 * w) ≡ at = ap (λ (m : ℕ). m % (2 * w)) es ∙ mod-mod n (2 * w) ∙ sym ea in
    let zeros : List ℕ = replicate (2 * w - (at + 1)) 0 in
    let filler : 1 ∷ zeros ≡ filling w s.1 = rw (place, ne_eqb at 0 ne) in
    e ∙ ap (λ (m : ℕ). fed_all c w F one (replicate (m - (at + 1)) 0)) ei ∙ ap (λ (t : Stream). fed_all c w F t zeros) e1 ∙ ap (fed_all c w F s) filler

module _ {n c w : ℕ} {F : List ℕ → List ℕ} (sound : Sound n c w F) where
  pub fed_fair : (s : Stream) (x : ℕ) → x < p → Fair c w s → Fair c w (fed c w F s x)
  fed_fair s x h fair =
      let next = set_state (c + 2 * w) s.0 (c + s.1) x h fair.holds in
      cond_both {A = Stream} (eqb (s.1 + 1) (2 * w)) (F (set s.0 (c + s.1) x), 0) (set s.0 (c + s.1) x, s.1 + 1) (Fair c w)
      (λ e. record { holds = sound.keeps _ next; room = let some = sound.w_some in omega arith })
      (λ e. record { holds = next; room = let ne : s.1 + 1 ≢ 2 * w = eqb-false (s.1 + 1) (2 * w) e in let below = fair.room in omega arith })

  pub all_fair : (xs : List ℕ) (s : Stream) → Elements xs → Fair c w s → Fair c w (fed_all c w F s xs)
  all_fair [] s e f = f
  all_fair (x ∷ xs) s e f = all_fair xs (fed c w F s x) (λ k h. e (suc k) (omega arith)) (fed_fair s x (e 0 (omega arith)) f)

  pub begun_fair : (start : ℕ) → start < p → Fair c w (begun c w start)
  begun_fair start h =
      let some = sound.c_some in
      let more = sound.w_some in
      record {
        holds = record {
          long = let e = length-replicate {A = ℕ} (c + 2 * w - 1) 0 in omega arith;
          each = each_cons start (replicate (c + 2 * w - 1) 0) h (each_zeros (c + 2 * w - 1));
        };
        room = omega arith;
      }

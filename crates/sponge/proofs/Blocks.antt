-- Elements fed one by one are taken block by block.
use Rattle.std.proofs.Common.{◌≡◌, ℕ, zero, suc, ◌+◌, ◌*◌, ◌<◌, ◌≢◌, List, [], ◌∷◌, ◌++◌, length, take, drop, set, sym, ap, ◌∙◌, add-zero, suc-mul, arith}
use Rattle.std.proofs.lemmas.Bool.{eq-eqb, ne_eqb}
use Rattle.std.proofs.lemmas.List.{take_more_set, set_split, drop_all, append_assoc, take-append-drop, length-take-le, length-drop, length-set, length-append, nil_from_length}
use Rattle.field.specs.Field.{Elements}
use Rattle.kinds.specs.Kinds.{State, Sound}
use Rattle.sponge.specs.Digests.{after_blocks}
use Rattle.sponge.specs.Streams.{Stream, fed, fed_all}
use Rattle.sponge.proofs.Parts.{each_append, each_take, each_drop}
use Rattle.sponge.proofs.Feeds.{fed_append}

module _ (c w : ℕ) (F : List ℕ → List ℕ) where
  abbrev mixed : List ℕ → Stream
  mixed s = (F s, 0)

  last_word : (s : List ℕ) (f y : ℕ) → f + 1 ≡ 2 * w → length s ≡ c + 2 * w → fed c w F (s, f) y ≡ (F (take (c + f) s ++ (y ∷ [])), 0)
  last_word s f y e n =
      let i : c + f < length s = omega arith in
      let whole : set s (c + f) y ≡ take (c + f) s ++ (y ∷ []) = set_split s (c + f) y i ∙ ap (λ (t : List ℕ). take (c + f) s ++ (y ∷ t)) (drop_all (suc (c + f)) s (omega arith)) in
      rw (eq-eqb (f + 1) (2 * w) e, whole)

  inner_word : (s : List ℕ) (f y : ℕ) → f + 1 < 2 * w → fed c w F (s, f) y ≡ (set s (c + f) y, f + 1)
  inner_word s f y h = let ne : f + 1 ≢ 2 * w = omega arith in rw (ne_eqb (f + 1) (2 * w) ne)

  block : (ys : List ℕ) (f : ℕ) (s : List ℕ) → f + length ys ≡ 2 * w → f < 2 * w → length s ≡ c + 2 * w → fed_all c w F (s, f) ys ≡ (F (take (c + f) s ++ ys), 0)
  block [] f s e h n = absurd (omega arith)
  block (y ∷ []) f s e h n = last_word s f y (omega arith) n
  block (y ∷ z ∷ zs) f s e h n =
      let t = set s (c + f) y in
      let one : fed_all c w F (s, f) (y ∷ z ∷ zs) ≡ fed_all c w F (t, f + 1) (z ∷ zs) = ap (λ (q : Stream). fed_all c w F q (z ∷ zs)) (inner_word s f y (omega arith)) in
      let rest = block (z ∷ zs) (f + 1) t (omega arith) (omega arith) (length-set s (c + f) y ∙ n) in
      let i : c + f < length s = omega arith in
      let g : c + (f + 1) ≡ c + f + 1 = omega arith in
      let front : take (c + (f + 1)) t ≡ take (c + f) s ++ (y ∷ []) = ap (λ (m : ℕ). take m t) g ∙ take_more_set s (c + f) y i in
      let joined : take (c + (f + 1)) t ++ (z ∷ zs) ≡ take (c + f) s ++ (y ∷ z ∷ zs) = ap (λ (u : List ℕ). u ++ (z ∷ zs)) front ∙ append_assoc (take (c + f) s) (y ∷ []) (z ∷ zs) in
      one ∙ rest ∙ ap mixed joined

pub by_blocks : {n c w : ℕ} {F : List ℕ → List ℕ} → Sound n c w F → (k : ℕ) (s ys : List ℕ) → State (c + 2 * w) s → Elements ys → length ys ≡ k * (2 * w) → fed_all c w F (s, 0) ys ≡ (after_blocks c w F k s ys, 0)
by_blocks {n} {c} {w} {F} sound zero s ys st ey e = let none = nil_from_length ys (omega arith) in ap (fed_all c w F (s, 0)) none
by_blocks {n} {c} {w} {F} sound (suc k) s ys st ey e =
    let m = suc-mul k (2 * w) in
    let some = sound.w_some in
    let front = take (2 * w) ys in
    let back = drop (2 * w) ys in
    let long : length front ≡ 2 * w = length-take-le (2 * w) ys (omega arith) in
    let split : fed_all c w F (s, 0) ys ≡ fed_all c w F (fed_all c w F (s, 0) front) back = ap (fed_all c w F (s, 0)) (sym (take-append-drop (2 * w) ys)) ∙ fed_append c w F (s, 0) front back in
    let first = block c w F front 0 s (omega arith) (omega arith) st.long in
    let next = F (take c s ++ front) in
    let firstly : fed_all c w F (s, 0) front ≡ (next, 0) = first ∙ ap (λ (i : ℕ). mixed c w F (take i s ++ front)) (add-zero c) in
    let over : State (c + 2 * w) (take c s ++ front) = record {
      long = let a = length-append (take c s) front in let b = length-take-le c s (omega arith) in omega arith;
      each = each_append (take c s) front (each_take c s st.each) (each_take (2 * w) ys ey);
    } in
    split ∙ ap (λ (q : Stream). fed_all c w F q back) firstly ∙ by_blocks sound k next back (sound.keeps _ over) (each_drop (2 * w) ys ey) (let d = length-drop (2 * w) ys in omega arith)

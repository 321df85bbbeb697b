-- What the steps of a climb come to.
use Rattle.std.proofs.Common.{◌≡◌, ℕ, suc, ◌+◌, ◌*◌, ◌<◌, ◌≤◌, Bool, List, ◌++◌, length, take, drop, refl, sym, ap, ⊎_elim, ◌∙◌, mul-le-mul_right, suc-mul, add-one, arith}
use Rattle.std.proofs.lemmas.List.{length-append, length-drop, drop-drop, take_at, drop_at}
use Rattle.std.proofs.lemmas.Bool.{cases_lt}
use Rattle.std.proofs.lemmas.Slice.{take-put_mid}
use borrow.Rule.Slice.PartMut.{put_mid}
use Rattle.openings.specs.Opening.{is_right, part_at, paired, flat, hash_of, own_at, pair_at, pairs_below}

-- parts of one length in a row
pub within : (k depth level at n : ℕ) → at ≡ level * k → n ≡ depth * k → level < depth → at + k ≤ n
within k depth level at n e m h =
    let a = suc-mul level k in
    let b : suc level * k ≤ depth * k = mul-le-mul_right k (omega arith) in
    omega arith

pub times_more : (k level at : ℕ) → at ≡ level * k → at + k ≡ (level + 1) * k
times_more k level at e = let a = suc-mul level k in rw (add-one level) (omega arith)

-- the part at a level, and what is left of the path after it
pub record Cut (w depth level : ℕ) (path sibling tail : List ℕ) : Type 0 where
  pub below : level < depth
  pub here : sibling ≡ part_at w level path
  pub left : tail ≡ drop ((level + 1) * w) path

-- a path that is read part by part
module _ (w depth : ℕ) (path rest : List ℕ) (long : length path ≡ depth * w) (level : ℕ) (begins : rest ≡ drop (level * w) path) where
  pub next_cut : (sibling tail : List ℕ) → 1 ≤ w → rest ≡ sibling ++ tail → length sibling ≡ w → Cut w depth level path sibling tail
  next_cut sibling tail some e n =
      let f : drop (level * w) path ≡ sibling ++ tail = sym begins ∙ e in
      let m = length-drop (level * w) path in
      let j = length-append sibling tail in
      let l = ap length f in
      record {
        below = ⊎_elim (λ h. h) (λ h. let past : depth * w ≤ level * w = mul-le-mul_right w h in absurd (omega arith)) (cases_lt level depth);
        here = sym (rw f (take_at sibling tail w n));
        left = rw (← times_more w level (level * w) refl, ← drop-drop w (level * w) path, f) (sym (drop_at sibling tail w n));
      }

  pub cut_ends : level ≤ depth → length rest < w → level ≡ depth
  cut_ends most short =
      let l = ap length begins in
      let m = length-drop (level * w) path in
      ⊎_elim (λ h. let room = within w depth level (level * w) (length path) refl long h in absurd (omega arith)) (λ h. omega arith) (cases_lt level depth)

pub own_more : (c w : ℕ) (F : List ℕ → List ℕ) (place : ℕ) (bottom path own next sibling : List ℕ) (level : ℕ) (r : Bool) → r ≡ is_right place level → own ≡ own_at c w F place bottom path level →
    sibling ≡ part_at w level path → next ≡ hash_of c w F (paired r own sibling) → next ≡ own_at c w F place bottom path (level + 1)
own_more c w F place bottom path own next sibling level r er eo es en = rw (add-one level, en, es, er, eo)

pub pairs_more : (c w : ℕ) (F : List ℕ → List ℕ) (place depth : ℕ) (bottom path own sibling tail pairs next : List ℕ) (level to k : ℕ) (r : Bool) → to ≡ level * (2 * w) → length pairs ≡ depth * (2 * w) → length next ≡ 2 * w → Cut w depth level path sibling tail →
    r ≡ is_right place level → own ≡ own_at c w F place bottom path level → take (level * (2 * w)) pairs ≡ pairs_below c w F place bottom path level → next ≡ flat (paired r own sibling) →
    take ((level + 1) * (2 * w)) (put_mid to k pairs next) ≡ pairs_below c w F place bottom path (level + 1)
pairs_more c w F place depth bottom path own sibling tail pairs next level to k r et n long cut er eo ep en =
    let h = cut.below in
    let in-room = within (2 * w) depth level to (length pairs) et n h in
    let front = take-put_mid to k pairs next (to + 2 * w) (omega arith) (omega arith) in
    let before : take to pairs ≡ pairs_below c w F place bottom path level = rw et ep in
    let last : next ≡ flat (pair_at c w F place bottom path level) = rw (en, cut.here, er, eo) in
    rw (← times_more (2 * w) level to et) (front ∙ rw (before, last, add-one level))

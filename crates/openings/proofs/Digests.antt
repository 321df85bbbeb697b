-- The digests and pairs of an opening are states of their sizes.
use Rattle.std.proofs.Common.{◌≡◌, ℕ, zero, suc, ◌*◌, ◌<◌, ◌≤◌, Bool, true, false, List, take, drop, Some, None, Decides, Option, sym, ap, ◌∙◌, mul-le-mul_right, suc-mul, arith, rules}
use Rattle.std.proofs.lemmas.Slice.Eq.{compares_Decides}
use Rattle.std.proofs.lemmas.List.{length-append, length-take-le, length-drop, take_at, drop_at}
use Rattle.field.specs.Field.{Elements}
use Rattle.kinds.specs.Kinds.{State, Sound}
use Rattle.sponge.proofs.Parts.{each_append, each_take, each_drop, zeros_state}
use Rattle.sponge.proofs.Joins.{digest_state}
use Rattle.sponge.proofs.Pairs.{pair_state}
use Rattle.model.specs.Trees.{leaf}
use Rattle.openings.specs.Opening.{same, words_of, is_right, part_at, Pair, paired, flat, own_at, pair_at}

pub same_decides : (xs ys : List ℕ) → Decides (same xs ys) (xs ≡ ys)
same_decides = compares_Decides same (search rules)

-- two digests of w elements
pub record Digests (w : ℕ) (p : Pair) : Type 0 where
  pub left : State w p.0
  pub right : State w p.1

pub paired_digests : (w : ℕ) (r : Bool) (a b : List ℕ) → State w a → State w b → Digests w (paired r a b)
paired_digests w true a b s t = record { left = t; right = s }
paired_digests w false a b s t = record { left = s; right = t }

pub flat_state : (w : ℕ) (p : Pair) → Digests w p → State (2 * w) (flat p)
flat_state w p d =
    record { long = let n = length-append p.0 p.1 in let x = d.left.long in let y = d.right.long in omega arith; each = each_append p.0 p.1 d.left.each d.right.each }

pub leaf_state : {n c w : ℕ} {F : List ℕ → List ℕ} → Sound n c w F → (claim : Option (List ℕ)) → Elements (words_of claim) → State w (leaf c w F claim)
leaf_state sound (Some xs) e = digest_state sound xs e
leaf_state {n} {c} {w} {F} sound None e = zeros_state w

pub part_state : (w depth level : ℕ) (path : List ℕ) → State (depth * w) path → level < depth → State w (part_at w level path)
part_state w depth level path fits h =
    let m = suc-mul level w in
    let below : suc level * w ≤ depth * w = mul-le-mul_right w (omega arith) in
    record {
      long = length-take-le w (drop (level * w) path) (let d = length-drop (level * w) path in let n = fits.long in omega arith);
      each = each_take w (drop (level * w) path) (each_drop (level * w) path fits.each);
    }

-- a leaf and a path of a depth
module _ {n c w : ℕ} {F : List ℕ → List ℕ} (sound : Sound n c w F) (place depth : ℕ) (bottom path : List ℕ) (low : State w bottom) (fits : State (depth * w) path) where
  pub own_state : (level : ℕ) → level ≤ depth → State w (own_at c w F place bottom path level)
  own_state zero h = low
  own_state (suc level) h =
      let d = paired_digests w (is_right place level) _ _ (own_state level (omega arith)) (part_state w depth level path fits (omega arith)) in
      pair_state sound _ _ d.left d.right

  pub pair_digests : (level : ℕ) → level < depth → Digests w (pair_at c w F place bottom path level)
  pair_digests level h = paired_digests w (is_right place level) _ _ (own_state level (omega arith)) (part_state w depth level path fits h)

-- a pair is known from its words
pub from_flat : (w : ℕ) (p q : Pair) → Digests w p → Digests w q → flat p ≡ flat q → p ≡ q
from_flat w p q d e f =
    let n = d.left.long in
    let m = e.left.long in
    let a : p.0 ≡ q.0 = sym (take_at p.0 p.1 w n) ∙ ap (take w) f ∙ take_at q.0 q.1 w m in
    let b : p.1 ≡ q.1 = sym (drop_at p.0 p.1 w n) ∙ ap (drop w) f ∙ drop_at q.0 q.1 w m in
    λ i. (a i, b i)

pub paired_parts : (r : Bool) (a b s t : List ℕ) → paired r a s ≡ paired r b t → (a ≡ b) × (s ≡ t)
paired_parts true a b s t e = (ap (λ (p : Pair). p.1) e, ap (λ (p : Pair). p.0) e)
paired_parts false a b s t e = (ap (λ (p : Pair). p.0) e, ap (λ (p : Pair). p.1) e)

-- An opening: a claim, which is a record or nothing for an empty place, and a path of one digest for each level below
-- the root; and what it comes to, over a kind with capacity size c, digest size w and mapping F.
use Rattle.std.specs.Prelude.{ℕ, zero, suc, ◌*◌, ◌/◌, ◌%◌, ◌^◌, Bool, true, false, cond, ◌&&◌, List, [], ◌∷◌, ◌++◌, take, drop, Some, None, Option, ◌==◌}
use Rattle.std.specs.Borrow.{Bor}
use Rattle.std.specs.Option.{option_map}
use Rattle.field.specs.Field.{Elements}
use Rattle.kinds.specs.Kinds.{State}
use Rattle.sponge.specs.Digests.{two_to_one}
use Rattle.model.specs.Trees.{leaf}

-- whether two lists of words are one
abbrev pub same : List ℕ → List ℕ → Bool
same [] [] = true
same [] (y ∷ ys) = false
same (x ∷ xs) [] = false
same (x ∷ xs) (y ∷ ys) = x == y && same xs ys

-- a claim as the program has it
abbrev pub claimed : Option (Bor (List ℕ)) → Option (List ℕ)
claimed claim = option_map (λ x. x.now) claim

-- the words of a claim
abbrev pub words_of : Option (List ℕ) → List ℕ
words_of (Some xs) = xs
words_of None = []

-- bit `level` of the place: whether the digest at that level is the right one of its pair
abbrev pub is_right : ℕ → ℕ → Bool
is_right place level = place / 2 ^ level % 2 == 1

-- the part of n words at a level
abbrev pub part_at : ℕ → ℕ → List ℕ → List ℕ
part_at n level words = take n (drop (level * n) words)

-- two digests, the left one first
abbrev pub Pair : Type 0
Pair = List ℕ × List ℕ

-- a digest and its sibling as a pair
abbrev pub paired : Bool → List ℕ → List ℕ → Pair
paired right own sibling = cond right (sibling, own) (own, sibling)

-- the words of a pair
abbrev pub flat : Pair → List ℕ
flat p = p.0 ++ p.1

module _ (c w : ℕ) (F : List ℕ → List ℕ) where
  -- the two-to-one hash of a pair
  abbrev pub hash_of : Pair → List ℕ
  hash_of p = two_to_one c w F p.0 p.1

  -- the digest that a leaf and a path come to at a level; the leaf itself is at level 0
  abbrev pub own_at : ℕ → List ℕ → List ℕ → ℕ → List ℕ
  own_at place bottom path zero = bottom
  own_at place bottom path (suc level) = hash_of (paired (is_right place level) (own_at place bottom path level) (part_at w level path))

  -- the pair of digests at a level that is hashed for the level above
  abbrev pub pair_at : ℕ → List ℕ → List ℕ → ℕ → Pair
  pair_at place bottom path level = paired (is_right place level) (own_at place bottom path level) (part_at w level path)

  -- the words of the pairs at the levels below n, in a row
  abbrev pub pairs_below : ℕ → List ℕ → List ℕ → ℕ → List ℕ
  pairs_below place bottom path zero = []
  pairs_below place bottom path (suc level) = pairs_below place bottom path level ++ flat (pair_at place bottom path level)

  -- whether an opening comes to the root
  abbrev pub reaches : List ℕ → ℕ → ℕ → Option (List ℕ) → List ℕ → Bool
  reaches root depth place claim path = same (own_at place (leaf c w F claim) path depth) root

-- what can be climbed to a depth: a claim of elements, and a path of a digest for each level
pub record Climbable (w depth : ℕ) (claim : Option (List ℕ)) (path : List ℕ) : Type 0 where
  pub each : Elements (words_of claim)
  pub path_fits : State (depth * w) path

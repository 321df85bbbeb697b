-- Digests in a table in heap order: node 1 is the root, and 2i and 2i + 1 are below node i.
use Rattle.std.specs.Prelude.{◌≡◌, ℕ, zero, suc, ◌+◌, ◌-◌, ◌*◌, ◌^◌, ◌<◌, ◌≤◌, List, [], ◌∷◌, take, drop, slice_index_or}
use Rattle.sponge.specs.Digests.{two_to_one}
use Rattle.model.specs.Closed.{Closed}

-- node i of a table
abbrev pub node_at : List (List ℕ) → ℕ → List ℕ
node_at ns i = slice_index_or ns i []

-- node i, worked out from the nodes that lie `level` levels below it
abbrev pub under : ℕ → ℕ → (List ℕ → List ℕ) → List (List ℕ) → ℕ → ℕ → List ℕ
under c w F ns zero i = node_at ns i
under c w F ns (suc level) i = two_to_one c w F (under c w F ns level (2 * i)) (under c w F ns level (2 * i + 1))

-- the leaves of a tree of that depth: leaf k is node 2 ^ depth + k
abbrev pub leaves_in : ℕ → List (List ℕ) → List (List ℕ)
leaves_in depth ns = take (2 ^ depth) (drop (2 ^ depth) ns)

-- the closed lot that the nodes of a tree of that depth make; it has no node 0
abbrev pub closed_in : ℕ → List (List ℕ) → Closed
closed_in depth ns = record { depth = depth; nodes = [] ∷ take (2 * 2 ^ depth - 1) (drop 1 ns) }

-- a table in which each node from `from` to `half` is the hash of the two below it, and that is the old one from `half` on
pub record Grown (c w : ℕ) (F : List ℕ → List ℕ) (from half : ℕ) (old new : List (List ℕ)) : Type 0 where
  pub rest : drop half new ≡ drop half old
  pub inner : (i : ℕ) → from ≤ i → i < half → node_at new i ≡ two_to_one c w F (node_at new (2 * i)) (node_at new (2 * i + 1))

-- The tree over the places of a lot, for a kind with capacity size c, digest size w and mapping F. Assumes that a place is below
-- 2 ^ depth.
use Rattle.std.specs.Prelude.{ℕ, zero, suc, ◌+◌, ◌-◌, ◌*◌, ◌/◌, ◌%◌, ◌^◌, cond, List, [], ◌++◌, length, replicate, Some, None, Option, ◌==◌}
use Rattle.sponge.specs.Digests.{start_of, record_digest, two_to_one}

-- where capacity element 0 starts for a record of n elements in a lot
abbrev pub lot_start : ℕ → ℕ → ℕ
lot_start w n = start_of w n

-- the other child of a node's parent
abbrev pub sibling : ℕ → ℕ
sibling k = cond (k % 2 == 0) (k + 1) (k - 1)

module _ (c w : ℕ) (F : List ℕ → List ℕ) where
  -- the leaf of a place: the digest of its last record, or w zeros for an empty place
  abbrev pub leaf : Option (List ℕ) → List ℕ
  leaf None = replicate w 0
  leaf (Some xs) = record_digest c w F (lot_start w (length xs)) xs

  -- node k of level j: a leaf at level 0, else the two-to-one hash of nodes 2k and 2k + 1 of the level below
  abbrev pub node : (ℕ → List ℕ) → ℕ → ℕ → List ℕ
  node leaves zero k = leaves k
  node leaves (suc j) k = two_to_one c w F (node leaves j (2 * k)) (node leaves j (2 * k + 1))

  -- the tree value: node 0 of level depth
  abbrev pub tree_value : ℕ → (ℕ → List ℕ) → List ℕ
  tree_value depth leaves = node leaves depth 0

  -- the path of a place through levels 0 to n - 1: on each level, the sibling of the node above the place
  abbrev pub path_of : ℕ → (ℕ → List ℕ) → ℕ → List ℕ
  path_of zero leaves place = []
  path_of (suc n) leaves place = path_of n leaves place ++ node leaves n (sibling (place / 2 ^ n))

-- A closed lot: all nodes of its tree, and what its calls answer and write.
use Rattle.std.specs.Prelude.{ℕ, zero, suc, ◌+◌, ◌-◌, ◌*◌, ◌/◌, ◌^◌, cond, List, [], ◌∷◌, ◌++◌, map, nat_lt, slice_index_or}
use Rattle.std.specs.List.{range_with_len}
use Rattle.kinds.specs.Answers.{Answer, answer, if_granted}
use Rattle.kinds.specs.Permuting.{bad_buffer}
use Rattle.sponge.specs.Digests.{two_to_one}
use Rattle.model.specs.Calls.{no_place}
use Rattle.model.specs.Trees.{sibling}
use Rattle.model.specs.Lots.{Lot, leaf_at}

-- the nodes are in heap order: node 1 is the root, 2i and 2i + 1 are below node i, and leaf k is node 2 ^ depth + k; there
-- is no node 0
pub record Closed : Type 0 where
  pub depth : ℕ
  pub nodes : List (List ℕ)

-- the siblings of node i and of the nodes above it, on that many levels
abbrev pub siblings_from : List (List ℕ) → ℕ → ℕ → List ℕ
siblings_from nodes zero i = []
siblings_from nodes (suc levels) i = slice_index_or nodes (sibling i) [] ++ siblings_from nodes levels (i / 2)

-- refusal 10
abbrev pub closed_root_answer : ℕ → List ℕ → Answer
closed_root_answer w out = answer (bad_buffer w out ∷ [])

-- node 1, the root
abbrev pub closed_root_call : ℕ → Closed → List ℕ → Answer × List ℕ
closed_root_call w l out = (closed_root_answer w out, if_granted (closed_root_answer w out) (slice_index_or l.nodes 1 []) out)

-- refusals 3, 10
abbrev pub open_answer : ℕ → ℕ → ℕ → List ℕ → Answer
open_answer w depth place out = answer (no_place depth place ∷ bad_buffer (depth * w) out ∷ [])

-- the siblings on the way from the leaf up, the leaf's first
abbrev pub open_call : ℕ → Closed → ℕ → List ℕ → Answer × List ℕ
open_call w l place out =
    (open_answer w l.depth place out, if_granted (open_answer w l.depth place out) (siblings_from l.nodes l.depth (2 ^ l.depth + place)) out)

module _ (c w : ℕ) (F : List ℕ → List ℕ) where
  -- node i of a tree: a leaf, or the two-to-one hash of nodes 2i and 2i + 1, with at most `high` levels below it
  abbrev pub heap_node : ℕ → (ℕ → List ℕ) → ℕ → ℕ → List ℕ
  heap_node depth leaves zero i = leaves (i - 2 ^ depth)
  heap_node depth leaves (suc high) i =
      cond (nat_lt i (2 ^ depth)) (two_to_one c w F (heap_node depth leaves high (2 * i)) (heap_node depth leaves high (2 * i + 1))) (leaves (i - 2 ^ depth))

  -- nodes 1 to 2 * 2 ^ depth - 1, behind an empty list in the place of node 0
  abbrev pub all_nodes : ℕ → (ℕ → List ℕ) → List (List ℕ)
  all_nodes depth leaves = [] ∷ map (heap_node depth leaves depth) (range_with_len 1 (2 * 2 ^ depth - 1))

  -- the lot once it is closed, whatever its stations have in hand
  abbrev pub closed : Lot → Closed
  closed l = record { depth = l.depth; nodes = all_nodes l.depth (leaf_at w l.leaves) }

-- A table that is filled from its leaves to its root.
use Rattle.std.proofs.Common.{◌≡◌, ℕ, zero, suc, ◌+◌, ◌-◌, ◌*◌, ◌^◌, ◌<◌, ◌≤◌, List, [], ◌∷◌, map, length, get_or, take, drop, replicate, sym, ap, ◌∙◌, ap₂, ⊎_elim, pow-suc, arith, pow_pos}
use Rattle.std.specs.List.{range_with_len}
use Rattle.std.proofs.lemmas.Bool.{cases_lt}
use Rattle.std.proofs.lemmas.List.{ext_get_or, length-take, length-drop, get_or-drop}
use Rattle.std.proofs.lemmas.List.FromFn.{length-map-range_with_len, get_or-map-range_with_len}
use Rattle.sponge.specs.Digests.{two_to_one}
use Rattle.model.specs.Lots.{leaf_at}
use Rattle.model.specs.Closed.{heap_node, all_nodes}
use Rattle.model.proofs.Heaps.{heap_leaf, heap_inner}
use Rattle.lots.specs.Nodes.{node_at, leaves_in, closed_in, Grown}
use Rattle.lots.proofs.Places.{few, leaf_is}
use Rattle.lots.proofs.Paths.{node_kept}

level_up : (d h i : ℕ) → 2 ^ (d - suc h) ≤ i → 2 ^ (d - h) ≤ 2 * i
level_up d h i l =
    ⊎_elim
    (λ (b : h < d). let e : d - h ≡ suc (d - suc h) = omega arith in rw e (omega (arith, pow-suc 2 (d - suc h))))
    (λ (b : d ≤ h). let e : d - h ≡ 0 = omega arith in let f : d - suc h ≡ 0 = omega arith in let g : 1 ≤ i = rw f at l in rw e (omega arith))
    (cases_lt h d)

-- tables that are alike from some node on
same_node : (m j : ℕ) (xs ys : List (List ℕ)) → drop m xs ≡ drop m ys → m ≤ j → node_at xs j ≡ node_at ys j
same_node m j xs ys e h =
    let d : ℕ = j - m in
    let ej : m + d ≡ j = omega arith in
    rw (← ej) (sym (get_or-drop m xs d []) ∙ ap (λ (t : List (List ℕ)). get_or t d []) e ∙ get_or-drop m ys d [])

module _ {c w : ℕ} {F : List ℕ → List ℕ} {old new : List (List ℕ)} (d : ℕ) (low : d ≤ 8) (long : length old ≡ 512) (len : length new ≡ 512) (g : Grown c w F 1 (2 ^ d) old new) where
  abbrev leaves : ℕ → List ℕ
  leaves = leaf_at w (leaves_in d old)

  grown_leaf : (h i : ℕ) → 2 ^ d ≤ i → i < 2 * 2 ^ d → node_at new i ≡ heap_node c w F d leaves h i
  grown_leaf h i l u =
      let ei : 2 ^ d + (i - 2 ^ d) ≡ i = omega arith in
      let lk : i - 2 ^ d < 2 ^ d = omega arith in
      same_node (2 ^ d) i new old g.rest l ∙ ap (node_at old) (sym ei) ∙ sym (leaf_is d (i - 2 ^ d) old (replicate w 0) long low lk) ∙ sym (heap_leaf c w F d leaves h i l)

  grown_heap : (h i : ℕ) → 1 ≤ i → i < 2 * 2 ^ d → 2 ^ (d - h) ≤ i → node_at new i ≡ heap_node c w F d leaves h i
  grown_heap zero i p u l = let z : d - 0 ≡ d = omega arith in grown_leaf zero i (rw z at l) u
  grown_heap (suc h) i p u l =
      ⊎_elim
      (λ b.
      let up = level_up d h i l in
      let x = grown_heap h (2 * i) (omega arith) (omega arith) up in
      let y = grown_heap h (2 * i + 1) (omega arith) (omega arith) (omega arith) in
      g.inner i p b ∙ ap₂ (two_to_one c w F) x y ∙ sym (heap_inner c w F d leaves h i b))
      (λ b. grown_leaf (suc h) i b u)
      (cases_lt i (2 ^ d))

  pub nodes_grown : (closed_in d new).nodes ≡ all_nodes c w F d leaves
  nodes_grown =
      let z : d - d ≡ 0 = omega arith in
      let n : ℕ = 2 * 2 ^ d - 1 in
      let p = pow_pos d in
      let f = few d low in
      let own : ℕ → List ℕ = heap_node c w F d leaves d in
      let long1 : length (take n (drop 1 new)) ≡ n = simp (length-take, length-drop) (omega arith) in
      ap (λ (xs : List (List ℕ)). [] ∷ xs)
      (ext_get_or [] (take n (drop 1 new)) (map own (range_with_len 1 n)) (long1 ∙ sym (length-map-range_with_len own 1 n))
      (λ i h.
      let u : i < n = omega arith in
      node_kept d (suc i) new (omega arith) (omega arith) ∙ grown_heap d (suc i) (omega arith) (omega arith) (rw z (omega arith)) ∙ sym (get_or-map-range_with_len own 1 n i (suc i) [] u (omega arith))))

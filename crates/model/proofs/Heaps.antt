-- The nodes of a closed lot, level by level, and the paths read from them.
use Rattle.std.proofs.Common.{◌≡◌, ℕ, zero, suc, ◌+◌, ◌-◌, ◌*◌, ◌/◌, ◌%◌, ◌^◌, ◌<◌, ◌≤◌, ◌≢◌, List, [], ◌∷◌, ◌++◌, map, get_or, sym, refl, ap, ◌∙◌, ap₂, ⊎_elim, pow-suc, div-one, arith, pow_pos, pow_mono}
use native.Mathlib.Nat.{div-div-eq-div-mul}
use Rattle.std.specs.List.{range_with_len}
use Rattle.std.proofs.lemmas.Bool.{cases_eq, eq-eqb, ne_eqb, lt-ltb, le-ltb, leb-false}
use Rattle.std.proofs.lemmas.List.FromFn.{get_or-map-range_with_len}
use Rattle.std.proofs.lemmas.List.{append-nil, append_assoc}
use Rattle.kinds.specs.Answers.{Answer, granted, denied, if_granted}
use Rattle.kinds.specs.Permuting.{bad_buffer}
use Rattle.sponge.specs.Digests.{two_to_one}
use Rattle.model.specs.Calls.{no_place}
use Rattle.model.specs.Trees.{sibling, node, tree_value, path_of}
use Rattle.model.specs.Lots.{leaf_at}
use Rattle.model.specs.Closed.{siblings_from, open_answer, heap_node, all_nodes}
use Rattle.model.specs.Laws.{ClosedLaws}
use Rattle.kinds.proofs.Causes.{none_there}

-- the nodes from 1 on
pub node_is : {X : Type 0} (f : ℕ → X) (x : X) (d i : ℕ) → 1 ≤ i → i < 2 * 2 ^ d → get_or (x ∷ map f (range_with_len 1 (2 * 2 ^ d - 1))) i x ≡ f i
node_is f x d zero some low = absurd (omega arith)
node_is f x d (suc i) some low = get_or-map-range_with_len f 1 (2 * 2 ^ d - 1) i (suc i) x (omega arith) (omega arith)

pub sibling_low : (k m : ℕ) → k < 2 * m → sibling k < 2 * m
sibling_low k m low =
    ⊎_elim (λ e. rw (eq-eqb (k % 2) 0 e) (omega arith)) (λ e. rw (ne_eqb (k % 2) 0 e) (omega arith)) (cases_eq (k % 2) 0)

pub sibling_some : (k : ℕ) → 2 ≤ k → 1 ≤ sibling k
sibling_some k some =
    ⊎_elim (λ e. rw (eq-eqb (k % 2) 0 e) (omega arith)) (λ e. rw (ne_eqb (k % 2) 0 e) (omega arith)) (cases_eq (k % 2) 0)

pub sibling_even : (k : ℕ) → k % 2 ≡ 0 → sibling k ≡ 2 * (k / 2) + 1
sibling_even k e = rw (eq-eqb (k % 2) 0 e) (omega arith)

pub sibling_odd : (k : ℕ) → k % 2 ≢ 0 → sibling k ≡ 2 * (k / 2)
sibling_odd k e = rw (ne_eqb (k % 2) 0 e) (omega arith)

sibling_past : (m k : ℕ) → sibling (2 * m + k) ≡ 2 * m + sibling k
sibling_past m k =
    ⊎_elim
    (λ e. let f : (2 * m + k) % 2 ≡ 0 = omega arith in rw (eq-eqb (k % 2) 0 e, eq-eqb ((2 * m + k) % 2) 0 f) (omega arith))
    (λ e. let f : (2 * m + k) % 2 ≢ 0 = λ q. e (omega arith) in rw (ne_eqb (k % 2) 0 e, ne_eqb ((2 * m + k) % 2) 0 f) (omega arith))
    (cases_eq (k % 2) 0)

pub half_again : (place n : ℕ) → place / 2 ^ n / 2 ≡ place / 2 ^ suc n
half_again place n = div-div-eq-div-mul place (2 ^ n) 2 ∙ ap (λ (m : ℕ). place / m) (let p = pow-suc 2 n in omega arith)

module _ (c w : ℕ) (F : List ℕ → List ℕ) (d : ℕ) (leaves : ℕ → List ℕ) where
  abbrev own : ℕ → ℕ → List ℕ
  own = heap_node c w F d leaves

  pub heap_leaf : (high i : ℕ) → 2 ^ d ≤ i → own high i ≡ leaves (i - 2 ^ d)
  heap_leaf zero i past = refl
  heap_leaf (suc high) i past = rw (le-ltb i (2 ^ d) past)

  pub heap_inner : (high i : ℕ) → i < 2 ^ d → own (suc high) i ≡ two_to_one c w F (own high (2 * i)) (own high (2 * i + 1))
  heap_inner high i low = rw (lt-ltb i (2 ^ d) low)

  heap_level : (j n k high : ℕ) → n + j ≡ d → k < 2 ^ n → j ≤ high → own high (2 ^ n + k) ≡ node c w F leaves j k
  heap_level zero n k high e low enough =
      let same : n ≡ d = omega arith in
      let z : 2 ^ d + k - 2 ^ d ≡ k = omega arith in
      rw same (heap_leaf high (2 ^ d + k) (omega arith) ∙ ap leaves z)
  heap_level (suc j) n k zero e low enough = absurd (omega arith)
  heap_level (suc j) n k (suc high) e low enough =
      let p = pow-suc 2 n in
      let m : suc n ≤ d = omega arith in
      let q : 2 ^ suc n ≤ 2 ^ d = pow_mono m in
      let a : 2 * (2 ^ n + k) ≡ 2 ^ suc n + 2 * k = omega arith in
      let b : 2 * (2 ^ n + k) + 1 ≡ 2 ^ suc n + (2 * k + 1) = omega arith in
      let left = ap (own high) a ∙ heap_level j (suc n) (2 * k) high (omega arith) (omega arith) (omega arith) in
      let right = ap (own high) b ∙ heap_level j (suc n) (2 * k + 1) high (omega arith) (omega arith) (omega arith) in
      heap_inner high (2 ^ n + k) (omega arith) ∙ ap₂ (two_to_one c w F) left right

  -- node 2 ^ n + k, n levels below the root, is node k of its level
  level_node : (j n k : ℕ) → n + j ≡ d → k < 2 ^ n → get_or (all_nodes c w F d leaves) (2 ^ n + k) [] ≡ node c w F leaves j k
  level_node j n k e low =
      let m : n ≤ d = omega arith in
      let p : 2 ^ n ≤ 2 ^ d = pow_mono m in
      let q = pow_pos n in
      node_is (own d) [] d (2 ^ n + k) (omega arith) (omega arith) ∙ heap_level j n k d e low (omega arith)

  root_node : get_or (all_nodes c w F d leaves) 1 [] ≡ tree_value c w F d leaves
  root_node = level_node d 0 0 (omega arith) (omega arith)

  -- the path of the levels below j, and the siblings from there to the root
  path_rest : (place n j : ℕ) → n + j ≡ d → place / 2 ^ j < 2 ^ n → path_of c w F j leaves place ++ siblings_from (all_nodes c w F d leaves) n (2 ^ n + place / 2 ^ j) ≡ path_of c w F d leaves place
  path_rest place zero j e low = append-nil (path_of c w F j leaves place) ∙ ap (λ (m : ℕ). path_of c w F m leaves place) (let same : j ≡ d = omega arith in same)
  path_rest place (suc n) j e low =
      let p = pow-suc 2 n in
      let k : ℕ = place / 2 ^ j in
      let ns : List (List ℕ) = all_nodes c w F d leaves in
      let double : 2 ^ suc n ≡ 2 * 2 ^ n = omega arith in
      let inside : sibling k < 2 ^ suc n = rw double (sibling_low k (2 ^ n) (omega arith)) in
      let beside : sibling (2 ^ suc n + k) ≡ 2 ^ suc n + sibling k = rw double (sibling_past (2 ^ n) k) in
      let up : (2 ^ suc n + k) / 2 ≡ 2 ^ n + place / 2 ^ suc j = let h = half_again place j in omega arith in
      let here : get_or ns (sibling (2 ^ suc n + k)) [] ≡ node c w F leaves j (sibling k) = ap (λ (i : ℕ). get_or ns i []) beside ∙ level_node j (suc n) (sibling k) e inside in
      let rest : List ℕ = siblings_from ns n (2 ^ n + place / 2 ^ suc j) in
      let split : siblings_from ns (suc n) (2 ^ suc n + k) ≡ node c w F leaves j (sibling k) ++ rest =
      ap₂ (λ (x : List ℕ) (i : ℕ). x ++ siblings_from ns n i) here up in
      ap (λ (x : List ℕ). path_of c w F j leaves place ++ x) split
      ∙ sym (append_assoc (path_of c w F j leaves place) (node c w F leaves j (sibling k)) rest)
      ∙ path_rest place n (suc j) (omega arith) (let h = half_again place j in omega arith)

  path_is : (place : ℕ) → place < 2 ^ d → siblings_from (all_nodes c w F d leaves) d (2 ^ d + place) ≡ path_of c w F d leaves place
  path_is place low =
      let whole : place / 2 ^ 0 ≡ place = div-one place in
      ap (λ (k : ℕ). siblings_from (all_nodes c w F d leaves) d (2 ^ d + k)) (sym whole) ∙ path_rest place d 0 (omega arith) (omega arith)

where_granted : {A : Type 0} (a : Answer) (x y z : A) → (a ≡ granted → x ≡ y) → if_granted a x z ≡ if_granted a y z
where_granted granted x y z same = same refl
where_granted (denied n vs) x y z same = refl

pub closed_laws : (c w : ℕ) (F : List ℕ → List ℕ) → ClosedLaws c w F
closed_laws c w F = record {
  level_nodes = λ l j k inside low. level_node c w F l.depth (leaf_at w l.leaves) j (l.depth - j) k (omega arith) low;
  root_written = λ l out. where_granted _ _ _ out (λ _. root_node c w F l.depth (leaf_at w l.leaves));
  path_written = λ l place out. where_granted (open_answer w l.depth place out) _ _ out
      (λ g. path_is c w F l.depth (leaf_at w l.leaves) place (leb-false (2 ^ l.depth) place (none_there (no_place l.depth place ∷ bad_buffer (l.depth * w) out ∷ []) g).0));
}

-- A path that is copied level by level, and what the calls of a closed lot leave where they are granted.
use Rattle.std.proofs.Common.{◌≡◌, ℕ, zero, suc, ◌+◌, ◌-◌, ◌*◌, ◌/◌, ◌^◌, ◌<◌, ◌≤◌, List, [], ◌++◌, length, get_or, take, drop, sym, refl, ap, ◌∙◌, ap₂, suc-mul, add-mul, one-mul, add-one, pow-suc, arith, pow_pos}
use borrow.Rule.Slice.PartMut.{put_mid}
use Rattle.std.proofs.lemmas.Bool.{eq-eqb, lt-leb}
use Rattle.std.proofs.lemmas.Slice.{take-put_mid}
use Rattle.std.proofs.lemmas.List.{append_assoc, get_or-take, get_or-drop}
use Rattle.kinds.specs.Answers.{Answer, granted}
use Rattle.model.specs.Trees.{sibling}
use Rattle.model.specs.Closed.{siblings_from, open_call}
use Rattle.model.proofs.Heaps.{sibling_low, sibling_some, half_again}
use Rattle.lots.specs.Nodes.{node_at, closed_in}

-- the words of the levels before level j, and those from there on
parts : (w levels j : ℕ) → j ≤ levels → j * w + (levels - j) * w ≡ levels * w
parts w levels j h = sym (add-mul j (levels - j) w) ∙ ap (λ (n : ℕ). n * w) (let e : j + (levels - j) ≡ levels = omega arith in e)

room : (at w levels j : ℕ) → at + (levels - j) * w ≡ levels * w → j < levels → (at + w ≤ levels * w) × (at + w + (levels - (j + 1)) * w ≡ levels * w)
room at w levels j e h =
    let m : ℕ = levels - (j + 1) in
    let em : levels - j ≡ suc m = omega arith in
    let f = rw (em, suc-mul) at e in
    (omega arith, omega arith)

halves : (levels j n : ℕ) → 2 ^ (levels - j) ≤ n → j < levels → 2 ^ (levels - (j + 1)) ≤ n / 2
halves levels j n h l =
    let m : ℕ = levels - (j + 1) in
    let em : levels - j ≡ suc m = omega arith in
    let f = rw (em, pow-suc) at h in
    omega arith

path_more : (w : ℕ) (ns : List (List ℕ)) (levels j node n at k : ℕ) (out new : List ℕ) (other : ℕ) → j < levels → length out ≡ levels * w → at + (levels - j) * w ≡ levels * w
    → take at out ++ siblings_from ns (levels - j) n ≡ siblings_from ns levels node → other ≡ sibling n → new ≡ node_at ns other → length new ≡ w
    → take (at + w) (put_mid at k out new) ++ siblings_from ns (levels - (j + 1)) (n / 2) ≡ siblings_from ns levels node
path_more w ns levels j node n at k out new other h lo ea ep eo en ln =
    let m : ℕ = levels - (j + 1) in
    let em : levels - j ≡ suc m = omega arith in
    let r = room at w levels j ea h in
    let one : take (at + w) (put_mid at k out new) ≡ take at out ++ new = take-put_mid at k out new (at + w) (omega arith) (omega arith) in
    let two : siblings_from ns (levels - j) n ≡ node_at ns (sibling n) ++ siblings_from ns m (n / 2) = ap (λ (t : ℕ). siblings_from ns t n) em in
    let three : new ≡ node_at ns (sibling n) = en ∙ ap (node_at ns) eo in
    ap (λ (t : List ℕ). t ++ siblings_from ns m (n / 2)) one ∙ append_assoc (take at out) new (siblings_from ns m (n / 2)) ∙ ap (λ (t : List ℕ). take at out ++ (t ++ siblings_from ns m (n / 2))) three ∙ ap (λ (t : List ℕ). take at out ++ t) (sym two) ∙ ep

-- one level more, where level j has node n / 2 ^ j and its words stand from j * w on
pub path_step : (w : ℕ) (ns : List (List ℕ)) (levels j node k : ℕ) (out new : List ℕ) (other : ℕ) → j < levels → length out ≡ levels * w
    → (2 ^ (levels - j) ≤ node / 2 ^ j) × (node / 2 ^ j < 512) × (take (j * w) out ++ siblings_from ns (levels - j) (node / 2 ^ j) ≡ siblings_from ns levels node)
    → other ≡ sibling (node / 2 ^ j) → new ≡ node_at ns other → length new ≡ w
    → (2 ^ (levels - (j + 1)) ≤ node / 2 ^ (j + 1)) × (node / 2 ^ (j + 1) < 512) × (take ((j + 1) * w) (put_mid (j * w) k out new) ++ siblings_from ns (levels - (j + 1)) (node / 2 ^ (j + 1)) ≡ siblings_from ns levels node)
path_step w ns levels j node k out new other h lo inv eo en ln =
    let n : ℕ = node / 2 ^ j in
    let again : n / 2 ≡ node / 2 ^ (j + 1) = rw add-one (half_again node j) in
    let more : j * w + w ≡ (j + 1) * w = rw (add-mul, one-mul) in
    let low = halves levels j n inv.0 h in
    let high : n / 2 < 512 = let u = inv.1 in omega arith in
    let whole = path_more w ns levels j node n (j * w) k out new other h lo (parts w levels j (omega arith)) inv.2 eo en ln in
    (rw (← again) low, rw (← again) high, rw (← again, ← more) whole)

-- the nodes that a tree of that depth has
pub node_kept : (d i : ℕ) (ns : List (List ℕ)) → 1 ≤ i → i < 2 * 2 ^ d → get_or (closed_in d ns).nodes i [] ≡ node_at ns i
node_kept d zero ns h u = absurd (omega arith)
node_kept d (suc t) ns h u =
    let low : t < 2 * 2 ^ d - 1 = omega arith in
    let e : 1 + t ≡ suc t = omega arith in
    get_or-take (2 * 2 ^ d - 1) (drop 1 ns) t [] low ∙ get_or-drop 1 ns t [] ∙ ap (node_at ns) e

-- the table's path is that of its nodes
path_nodes : (d : ℕ) (ns : List (List ℕ)) (l n : ℕ) → 2 ^ l ≤ n → n < 2 * 2 ^ d → siblings_from ns l n ≡ siblings_from (closed_in d ns).nodes l n
path_nodes d ns zero n h u = refl
path_nodes d ns (suc l) n h u =
    let p = pow-suc 2 l in
    let q = pow_pos l in
    let here : node_at ns (sibling n) ≡ get_or (closed_in d ns).nodes (sibling n) [] = sym (node_kept d (sibling n) ns (sibling_some n (omega arith)) (sibling_low n (2 ^ d) u)) in
    ap₂ (λ (s t : List ℕ). s ++ t) here (path_nodes d ns l (n / 2) (omega arith) (omega arith))

-- a path, as the program copies it, with its own numbers
pub open_granted : (w d l place q p : ℕ) (ns : List (List ℕ)) (out new : List ℕ) → l ≡ d → q ≡ place → p ≡ 2 ^ d → q < 2 ^ d → length out ≡ l * w → new ≡ siblings_from ns l (p + q)
    → ◌≡◌ {A = Answer × List ℕ} (granted, new) (open_call w (closed_in d ns) place out)
open_granted w d l place q p ns out new el eq ep hp eo e =
    let lp : place < 2 ^ d = omega arith in
    let lo : length out ≡ d * w = eo ∙ ap (λ (m : ℕ). m * w) el in
    let is : new ≡ siblings_from ns d (2 ^ d + place) = rw (el, eq, ep) at e in
    rw (lt-leb (2 ^ d) place lp, eq-eqb (length out) (d * w) lo) (ap (λ (t : List ℕ). (granted, t)) (is ∙ path_nodes d ns d (2 ^ d + place) (omega arith) (omega arith)))

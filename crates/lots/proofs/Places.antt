-- What a table says of its leaves.
use Rattle.std.proofs.Common.{◌≡◌, ℕ, ◌+◌, ◌-◌, ◌^◌, ◌<◌, ◌≤◌, List, [], length, get_or, take, drop, set, replicate, ap, ◌∙◌, arith, pow_mono}
use Rattle.std.proofs.lemmas.List.{get_or-take, get_or-drop, get_or_default, drop-set-add, take-replicate, drop-replicate}
use Rattle.std.proofs.Math.Seq.{take-set-lt}
use Rattle.lots.specs.Nodes.{node_at, leaves_in}

pub few : (d : ℕ) → d ≤ 8 → 2 ^ d ≤ 256
few d h = let p : 2 ^ d ≤ 2 ^ 8 = pow_mono h in omega arith

pub leaf_is : (d k : ℕ) (ns : List (List ℕ)) (none : List ℕ) → length ns ≡ 512 → d ≤ 8 → k < 2 ^ d → get_or (leaves_in d ns) k none ≡ node_at ns (2 ^ d + k)
leaf_is d k ns none long h hk =
    let f = few d h in
    get_or-take (2 ^ d) (drop (2 ^ d) ns) k none hk ∙ get_or-drop (2 ^ d) ns k none ∙ get_or_default ns (2 ^ d + k) none [] (omega arith)

-- a digest put at a place
pub leaves_put : (d place : ℕ) (ns : List (List ℕ)) (x : List ℕ) → place < 2 ^ d → leaves_in d (set ns (2 ^ d + place) x) ≡ set (leaves_in d ns) place x
leaves_put d place ns x h = ap (take (2 ^ d)) (drop-set-add (2 ^ d) ns place x) ∙ take-set-lt (2 ^ d) (drop (2 ^ d) ns) place x h

-- a table of zeros
pub leaves_zero : (d : ℕ) (z : List ℕ) → d ≤ 8 → leaves_in d (replicate 512 z) ≡ replicate (2 ^ d) z
leaves_zero d z h =
    let f = few d h in
    ap (take (2 ^ d)) (drop-replicate (2 ^ d) 512 z) ∙ take-replicate (2 ^ d) (512 - 2 ^ d) z (omega arith)

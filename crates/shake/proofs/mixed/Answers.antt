-- Each turn of the loop mixes in one lane more, and the lanes past the 17th stay.
use Rattle.std.proofs.Common.{◌≡◌, ℕ, zero, suc, ◌+◌, ◌*◌, ◌<◌, ◌≤◌, List, length, get_or, set, take, drop, refl, ◌∙◌, sym, add-one, arith}
use Rattle.std.proofs.lemmas.List.{get_or-take, drop-set-lt, length-take, length-take-le, take-append-drop}
use Rattle.std.proofs.Math.Seq.{take-set-lt}
use lib.Bits.{bit_xor}
use Rattle.shake.specs.Shake.{padded_lane, mixed}
use Rattle.shake.proofs.mixed.Goals as goal

front_more : (text : List ℕ) (i : ℕ) (lanes front : List ℕ) (j : ℕ) → j < 17 → front ≡ take 17 (mixed text i lanes j) →
    set front j (bit_xor (get_or front j 0) (padded_lane text (i + 8 * j))) ≡ take 17 (mixed text i lanes (j + 1))
unfolding mixed
front_more text i lanes front j h e =
    let m = mixed text i lanes j in
    let new = bit_xor (get_or m j 0) (padded_lane text (i + 8 * j)) in
    rw (add-one, e, get_or-take 17 m j 0 h) (sym (take-set-lt 17 m j new h))

back_same : (text : List ℕ) (i : ℕ) (lanes : List ℕ) (n : ℕ) → n ≤ 17 → drop 17 (mixed text i lanes n) ≡ drop 17 lanes
unfolding mixed
back_same text i lanes zero h = refl
back_same text i lanes (suc n) h = drop-set-lt 17 (mixed text i lanes n) n _ (omega arith) ∙ back_same text i lanes n (omega arith)

pub loop-j-init : goal.loop-j-init
unfolding mixed
loop-j-init c = refl

pub loop-j-preserved : goal.loop-j-preserved
loop-j-preserved c =
    let h : c.loop-j.j < 17 = omega (arith, length-take {A = ℕ}) in
    let e = front_more c.args.text.now c.args.i c.args.lanes c.loop-j.lane-items c.loop-j.j h c.loop-j.invariant in
    cc

pub returns : goal.returns
returns c =
    let t : length (take 17 c.args.lanes) ≡ 17 = length-take-le 17 c.args.lanes (omega arith) in
    let e : c.loop-j.j ≡ 17 = omega arith in
    let m = mixed c.args.text.now c.args.i c.args.lanes 17 in
    let b = back_same c.args.text.now c.args.i c.args.lanes 17 (omega arith) in
    let f : c.loop-j.lane-items ≡ take 17 m = rw e at c.loop-j.invariant in
    rw (f, ← b) (take-append-drop 17 m)

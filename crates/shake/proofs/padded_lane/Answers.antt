-- The bytes are those of the definition, in its order.
use Rattle.std.proofs.Common.{◌≡◌, ◌+◌, get_or, rules}
use Rattle.shake.specs.Shake.{padded_at, padded_lane}
use Rattle.shake.proofs.padded_lane.Goals as goal

pub returns : goal.returns
unfolding padded_lane
returns c =
    let b0 : get_or c.from_fn.result 0 0 ≡ padded_at c.args.text.now c.args.i = search rules in
    let b1 : get_or c.from_fn.result 1 0 ≡ padded_at c.args.text.now (c.args.i + 1) = search rules in
    let b2 : get_or c.from_fn.result 2 0 ≡ padded_at c.args.text.now (c.args.i + 2) = search rules in
    let b3 : get_or c.from_fn.result 3 0 ≡ padded_at c.args.text.now (c.args.i + 3) = search rules in
    let b4 : get_or c.from_fn.result 4 0 ≡ padded_at c.args.text.now (c.args.i + 4) = search rules in
    let b5 : get_or c.from_fn.result 5 0 ≡ padded_at c.args.text.now (c.args.i + 5) = search rules in
    let b6 : get_or c.from_fn.result 6 0 ≡ padded_at c.args.text.now (c.args.i + 6) = search rules in
    let b7 : get_or c.from_fn.result 7 0 ≡ padded_at c.args.text.now (c.args.i + 7) = search rules in
    cc

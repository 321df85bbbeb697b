use Rattle.std.proofs.Common.{◌≡◌, ℕ, length, replicate, sym, ap, ◌∙◌, arith}
use Rattle.std.proofs.lemmas.List.{take_at, take_all}
use Rattle.lots.proofs.table.Table.wipe.Goals as goal

pub returns : goal.returns
returns g c =
    let v = c.args.self.now.nodes in
    let now = c.loop-node.node-items in
    let n : length now ≡ v.len = c.loop-node.auto.node-items ∙ c.deref_mut-node-items.ensures.len in
    let all : c.loop-node.node-index ≡ 512 = omega (arith, n, c.args.self.now.long, c.loop-node.auto.node-index-end) in
    take_at now _ v.len n ∙ sym (take_all c.loop-node.node-index now (omega (arith, n, c.args.self.now.long))) ∙ c.loop-node.invariant ∙ ap (λ (k : ℕ). replicate k (replicate g.K.Kind.DIGEST 0)) all

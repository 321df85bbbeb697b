use Rattle.std.proofs.Common.{◌≡◌, ◌*◌, length, ap, ◌∙◌, arith}
use Rattle.lots.proofs.Paths.{path_step}
use Rattle.lots.proofs.table.Table.path.Goals as goal

pub loop-level-preserved : goal.loop-level-preserved
loop-level-preserved g c =
    let w = g.K.Kind.DIGEST in
    let new = c.copy_from_slice.new.self in
    let long : length c.loop-level.out ≡ c.args.levels * w = c.loop-level.auto.out ∙ c.requires.long in
    rw c.DIGEST.ensures
    (path_step w c.args.self.now.nodes.items c.args.levels c.loop-level.level c.args.node _ c.loop-level.out new c.beside-other.result (omega arith) long c.loop-level.invariant c.beside-other.ensures
    (c.copy_from_slice.ensures.after ∙ c.words.ensures.is ∙ c.read-digest.ensures) (ap length c.copy_from_slice.ensures.after ∙ c.words.ensures.state.long))

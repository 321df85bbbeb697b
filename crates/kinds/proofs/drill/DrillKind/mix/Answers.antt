use Rattle.std.proofs.Common.{◌≡◌}
use Rattle.kinds.specs.Kinds.{drill_t}
use Rattle.kinds.proofs.Drills.{three, t_is}
use Rattle.kinds.proofs.drill.DrillKind.mix.Goals as goal

pub returns : goal.returns
returns c =
    let s = c.args.state.now in
    let t : c.add-t.result.word ≡ drill_t s =
    t_is _ _ _ _ _ _ _ _ c.add-twice0.ensures c.add-thrice0.ensures c.add-twice2.ensures c.add-u.ensures c.add-t.ensures in
    rw (three s c.add.result.word c.add-t.result.word c.requires.long, c.add.ensures, t)

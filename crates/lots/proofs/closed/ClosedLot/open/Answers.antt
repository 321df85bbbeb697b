use Rattle.std.proofs.Common.{sym, ap, ◌∙◌}
use Rattle.model.specs.Closed.{Closed}
use Rattle.lots.proofs.Paths.{open_granted}
use Rattle.lots.proofs.closed.ClosedLot.open.Goals as goal

pub returns : goal.returns
returns g c =
    let self = c.self.inside in
    let p = c.in_ok-place.ensures.place in
    let levels = c.depth-levels.ensures.exact ∙ ap (λ (l : Closed). l.depth) (sym c.self.view_is) in
    rw (← c.self.view_is) (open_granted g.K.Kind.DIGEST self.depth.levels c.depth-levels.result c.args.place c.in_ok-place.place c.places.result self.table.nodes.items c.args.out.now _ levels p.0 c.places.ensures.exact p.1 (rw c.DIGEST.ensures at c.if-out-levels.false) c.path.ensures)

use Rattle.std.proofs.Common.{◌≡◌, ℕ, List, length, sym, ap, ◌∙◌}
use Rattle.lots.proofs.Growth.{nodes_grown}
use Rattle.lots.proofs.leaves.Leaves.close.Goals as goal

pub returns : goal.returns
returns g c =
    let d = c.self.inside.depth in
    let t = c.self.inside.table in
    let new = c.grow.new.self in
    let long : length t.nodes.items ≡ 512 = sym t.nodes.ok.0 ∙ t.long in
    let len : length new.nodes.items ≡ 512 = sym new.nodes.ok.0 ∙ new.long in
    rw (← c.self.view_is) (ap (λ (ns : List (List ℕ)). record { depth = d.levels; nodes = ns }) (nodes_grown d.levels d.shallow long len (rw c.places.ensures.exact at c.grow.ensures)))

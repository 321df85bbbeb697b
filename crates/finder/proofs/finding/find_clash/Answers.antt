use Rattle.std.proofs.lemmas.Result.{err_from_is_err_and}
use Rattle.kinds.specs.Denials.{number_of, values_of}
use Rattle.openings.specs.Sites.{claim_of}
use Rattle.finder.proofs.Admitted.{lengths_denied}
use Rattle.finder.proofs.finding.find_clash.Goals as goal

pub returns-in_err-admit : goal.returns-in_err-admit
returns-in_err-admit g c =
    let k = g.K.Kind in
    let site = c.in_ok-site.ensures.site in
    let r = c.from_residual-in_err-admit in
    let p = err_from_is_err_and r.result r.ensures.1 in
    rw (p.1, p.2)
    (lengths_denied k.CAPACITY k.DIGEST k.mapping c.args.root.now c.args.depth c.args.place (claim_of c.args.first) c.args.first.path.now (claim_of c.args.second) c.args.second.path.now c.args.out.now
    c.in_ok-site.ensures.answer (number_of c.in_err-admit.field-0.0) (values_of c.in_err-admit.field-0.0) (rw (site.0, site.1) at c.in_err-admit.ensures.answer))

use Rattle.std.proofs.Common.{◌∙◌}
use Rattle.openings.specs.Sites.{claim_of}
use Rattle.ffi.proofs.Sites.{same_finding}
use Rattle.ffi.proofs.opening_calls.find_any.Goals as goal

pub returns : goal.returns
returns g c =
    rw (c.one_byte.ensures, c.two_bytes.ensures) at c.find_clash.ensures ∙ same_finding g.K.Kind.CAPACITY g.K.Kind.DIGEST g.K.Kind.mapping c.args.root.now c.args.depth c.args.place (claim_of c.args.first) c.args.first.path.now (claim_of c.args.second) c.args.second.path.now c.args.out.now

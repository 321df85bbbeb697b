use Rattle.std.proofs.Common.{◌∙◌}
use Rattle.openings.specs.Sites.{claim_of}
use Rattle.ffi.proofs.Sites.{same_check}
use Rattle.ffi.proofs.opening_calls.check_any.Goals as goal

pub returns : goal.returns
returns g c =
    rw (c.one_byte.ensures, c.two_bytes.ensures) at c.check.ensures ∙ same_check g.K.Kind.CAPACITY g.K.Kind.DIGEST g.K.Kind.mapping c.args.root.now c.args.depth c.args.place (claim_of c.args.opening) c.args.opening.path.now

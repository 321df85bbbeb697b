use Rattle.std.proofs.Common.{◌≡◌, length}
use Rattle.rpo_kinds.specs.Constants.{constants_named, elements_named}
use Rattle.rpo_kinds.proofs.Named.{named_are}
use Rattle.rpo_kinds.proofs.constants.RoundConstants.named.Goals as goal

pub invariant_of-result : goal.invariant_of-result
invariant_of-result g c =
    let same : c.read-words.result ≡ constants_named c.args.text.now g.row.N = named_are c.args.text.now c.shake256.new.out c.read-words.result (length c.args.stream.now) g.row.N c.requires c.shake256.ensures c.read-words.ensures in
    record { elements = rw same (elements_named c.args.text.now g.row.N) }

pub returns : goal.returns
returns g c = named_are c.args.text.now c.shake256.new.out c.read-words.result (length c.args.stream.now) g.row.N c.requires c.shake256.ensures c.read-words.ensures

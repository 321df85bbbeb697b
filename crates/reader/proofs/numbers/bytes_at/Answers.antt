use Rattle.std.proofs.Common.{rules, ◌+◌, slice_index}
use Rattle.kinds.proofs.Arrays.{made}
use Rattle.reader.proofs.Bytes.{cut_is}
use Rattle.reader.proofs.numbers.bytes_at.Goals as goal

pub returns : goal.returns
returns g c =
    let items = c.from_fn.ensures.items in
    cut_is c.args.bytes.now _ c.args.at g.row.N items.long (made _ _ _ (λ k. slice_index c.args.bytes.now (c.args.at + k)) (λ i y q called. (search rules, search rules)) g.row.N items)

use Rattle.std.proofs.Common.{rules, ◌+◌, ◌*◌}
use Rattle.reader.specs.Numbers.{little}
use Rattle.kinds.proofs.Arrays.{made}
use Rattle.reader.proofs.Bytes.{words_are}
use Rattle.reader.proofs.numbers.eight_words.Goals as goal

pub returns : goal.returns
returns c =
    let items = c.from_fn.ensures.items in
    words_are c.args.bytes.now _ 1 8 items.long (made _ _ _ (λ k. little c.args.bytes.now (1 + 8 * k) 8) (λ i y q called. (search rules, search rules)) 8 items)

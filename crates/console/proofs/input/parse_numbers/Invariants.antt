use Rattle.std.specs.Str.Iter.{split_whitespace_rest}
use Rattle.console.proofs.Numbers.{Seen}
use Rattle.console.proofs.input.parse_numbers.Given as goal

abbrev pub invariant-loop-i : goal.invariant-loop-i
invariant-loop-i l = Seen l.text l.initial.words.items (split_whitespace_rest l.i-iterator.iter) l.words.items

use Rattle.std.proofs.Common.{◌≡◌, ◌+◌, ◌*◌, ◌≤◌, ◌++◌, map, length, take, decimal}
use Rattle.std.specs.List.{flat_map}
use Rattle.lines.specs.Lines.{spaced}
use Rattle.lines.proofs.writing.numbers_line.Given as goal

abbrev pub invariant-loop-n : goal.invariant-loop-n
invariant-loop-n g l = (l.line ≡ l.word ++ flat_map spaced (map decimal (take l.n-index l.numbers))) × (length l.line ≤ length l.word + 21 * l.n-index)

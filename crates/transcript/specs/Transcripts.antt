-- All lines of a script.
use Rattle.std.specs.Prelude.{ℕ, zero, suc, ◌+◌, List, [], ◌++◌, length, Some, None, Option}
use Rattle.reader.specs.Commands.{Reading}
use Rattle.script.specs.Runs.{Run, fresh, next_command, turn}

-- a line, if there is one, and the rest of them
abbrev pub with_line : Option Reading → Run → (Run → List ℕ) → List ℕ
with_line None r rest = []
with_line (Some x) r rest = (turn r x).1 ++ rest (turn r x).0

-- the lines that are left, at most n of them
abbrev pub lines_from : ℕ → Run → List ℕ
lines_from zero r = []
lines_from (suc n) r = with_line (next_command r) r (lines_from n)

-- a script has at most a line for each of its bytes, and one more where it is too long
unfoldable pub transcript : List ℕ → List ℕ
transcript script = lines_from (length script + 1) (fresh script)

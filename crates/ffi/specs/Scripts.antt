-- The lines of a whole script, in a buffer of C's.
use Rattle.std.specs.Prelude.{ℕ, cond, List, length, nat_lt}
use Rattle.lines.specs.Lines.{over}

-- the answer, how many bytes the lines have, and what the buffer then holds; refusal 10, with the buffer as it was, where it is
-- shorter than the lines
abbrev pub lines_told : List ℕ → List ℕ → ℕ × ℕ × List ℕ
lines_told lines out = cond (nat_lt (length out) (length lines)) (10, length lines, out) (0, length lines, over lines out)

-- Numbers from bytes, the least significant first; a byte past the end counts as 0.
use Rattle.std.specs.Prelude.{ℕ, zero, suc, ◌+◌, ◌*◌, List, [], ◌∷◌, slice_index}

-- the n bytes from an offset on
abbrev pub bytes_from : List ℕ → ℕ → ℕ → List ℕ
bytes_from bytes at zero = []
bytes_from bytes at (suc n) = slice_index bytes at ∷ bytes_from bytes (at + 1) n

-- the number of the n bytes from an offset on
abbrev pub little : List ℕ → ℕ → ℕ → ℕ
little bytes at zero = 0
little bytes at (suc n) = slice_index bytes at + 256 * little bytes (at + 1) n

-- the numbers of that many parts of eight bytes
abbrev pub words : List ℕ → ℕ → ℕ → List ℕ
words bytes at zero = []
words bytes at (suc n) = little bytes at 8 ∷ words bytes (at + 8) n

-- those of eight such parts
abbrev pub eight : List ℕ → ℕ → List ℕ
eight bytes at = words bytes at 8

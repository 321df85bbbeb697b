-- Nine bytes as a number.
use Rattle.std.proofs.Common.{◌≡◌, ℕ, ◌+◌, ◌*◌, List, [], ◌∷◌, length, get_or, arith}
use Rattle.rpo_kinds.specs.Constants.{little_endian}

pub nine_bytes : (b : List ℕ) → length b ≡ 9
    → little_endian b
    ≡ get_or b 0 0 + get_or b 1 0 * 256 + get_or b 2 0 * 65536 + get_or b 3 0 * 16777216 + get_or b 4 0 * 4294967296 + get_or b 5 0 * 1099511627776
    + get_or b 6 0 * 281474976710656 + get_or b 7 0 * 72057594037927936 + get_or b 8 0 * 18446744073709551616
nine_bytes (b0 ∷ b1 ∷ b2 ∷ b3 ∷ b4 ∷ b5 ∷ b6 ∷ b7 ∷ b8 ∷ []) e = omega arith
nine_bytes (b0 ∷ b1 ∷ b2 ∷ b3 ∷ b4 ∷ b5 ∷ b6 ∷ b7 ∷ b8 ∷ b9 ∷ bs) e = absurd (omega arith)
nine_bytes (b0 ∷ b1 ∷ b2 ∷ b3 ∷ b4 ∷ b5 ∷ b6 ∷ b7 ∷ []) e = absurd (omega arith)
nine_bytes (b0 ∷ b1 ∷ b2 ∷ b3 ∷ b4 ∷ b5 ∷ b6 ∷ []) e = absurd (omega arith)
nine_bytes (b0 ∷ b1 ∷ b2 ∷ b3 ∷ b4 ∷ b5 ∷ []) e = absurd (omega arith)
nine_bytes (b0 ∷ b1 ∷ b2 ∷ b3 ∷ b4 ∷ []) e = absurd (omega arith)
nine_bytes (b0 ∷ b1 ∷ b2 ∷ b3 ∷ []) e = absurd (omega arith)
nine_bytes (b0 ∷ b1 ∷ b2 ∷ []) e = absurd (omega arith)
nine_bytes (b0 ∷ b1 ∷ []) e = absurd (omega arith)
nine_bytes (b0 ∷ []) e = absurd (omega arith)
nine_bytes [] e = absurd (omega arith)

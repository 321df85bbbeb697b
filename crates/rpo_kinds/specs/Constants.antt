-- The round constants that a text names: SHAKE256 expands it, and each nine bytes are a number, taken modulo p.
use Rattle.std.specs.Prelude.{ℕ, ◌+◌, ◌*◌, ◌%◌, List, [], ◌∷◌, take, drop}
use Rattle.field.specs.Field.{p, Elements}
use Rattle.shake.specs.Shake.{shake256_bytes}
use Rattle.rpo.specs.Matrix.{made_by}
use Rattle.rpo.proofs.Inverses.{made_state}
use Rattle.rpo.proofs.Rounds.{below}

-- the number that bytes write, least significant first
abbrev pub little_endian : List ℕ → ℕ
little_endian [] = 0
little_endian (b ∷ bs) = b + 256 * little_endian bs

-- the constant i of a stream of bytes
unfoldable pub constant_at : List ℕ → ℕ → ℕ
constant_at bytes i = little_endian (take 9 (drop (9 * i) bytes)) % p

-- the n constants that a text names
unfoldable pub constants_named : List ℕ → ℕ → List ℕ
constants_named text n = made_by (constant_at (shake256_bytes text (9 * n))) n

-- each of them is an element
pub elements_named : (text : List ℕ) (n : ℕ) → Elements (constants_named text n)
unfolding constants_named constant_at
elements_named text n = (made_state (constant_at (shake256_bytes text (9 * n))) n (λ i. below _)).each

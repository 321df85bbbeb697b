-- The permutation Keccak-f[1600] of FIPS 202, step by step, over a state of 25 lanes: lane (x, y) is entry x + 5 y.
-- Assumes that the list has 25 entries, each below 2 ^ 64.
use Rattle.std.specs.Prelude.{ℕ, zero, suc, ◌+◌, ◌-◌, ◌*◌, ◌/◌, ◌%◌, ◌^◌, List, [], ◌∷◌, map, bit_and, bit_or, bit_xor, slice_index, slice_set}
use Rattle.std.specs.List.{range_with_len}

-- word rotated left by k places, within 64 bits
abbrev pub rotated : ℕ → ℕ → ℕ
rotated word k = bit_or ((word * 2 ^ (k % 64)) % 2 ^ 64) (word / 2 ^ ((64 - k % 64) % 64))

-- lane (x, y), with both coordinates taken modulo 5
abbrev pub lane : List ℕ → ℕ → ℕ → ℕ
lane a x y = slice_index a (x % 5 + 5 * (y % 5))

-- the state whose lane (x, y) is f x y
abbrev pub state_of : (ℕ → ℕ → ℕ) → List ℕ
state_of f = map (λ i. f (i % 5) (i / 5)) (range_with_len 0 25)

-- the parity of column x
unfoldable pub parity : List ℕ → ℕ → ℕ
parity a x = bit_xor (bit_xor (bit_xor (bit_xor (lane a x 0) (lane a x 1)) (lane a x 2)) (lane a x 3)) (lane a x 4)

-- what theta xors into the lanes of column x: the parities of columns x - 1 and x + 1, the latter rotated by one
unfoldable pub effect : List ℕ → ℕ → ℕ
effect a x = bit_xor (parity a (x + 4)) (rotated (parity a (x + 1)) 1)

-- theta's effects on the five columns
unfoldable pub effects : List ℕ → List ℕ
effects a = map (effect a) (range_with_len 0 5)

-- theta: each lane takes in its column's effect
unfoldable pub theta : List ℕ → List ℕ
theta a = state_of (λ x y. bit_xor (lane a x y) (slice_index (effects a) x))

-- how far rho rotates each lane
abbrev pub rotations : List ℕ
rotations = 0 ∷ 1 ∷ 62 ∷ 28 ∷ 27 ∷ 36 ∷ 44 ∷ 6 ∷ 55 ∷ 20 ∷ 3 ∷ 10 ∷ 43 ∷ 25 ∷ 39 ∷ 41 ∷ 45 ∷ 15 ∷ 21 ∷ 8 ∷ 18 ∷ 2 ∷ 61 ∷ 56 ∷ 14 ∷ []

-- rho: each lane is rotated by its own amount
unfoldable pub rho : List ℕ → List ℕ
rho a = state_of (λ x y. rotated (lane a x y) (lane rotations x y))

-- pi: the lanes change places
unfoldable pub pi : List ℕ → List ℕ
pi a = state_of (λ x y. lane a (x + 3 * y) x)

-- chi: each lane takes in the next two of its row, the first of them complemented
unfoldable pub chi : List ℕ → List ℕ
chi a = state_of (λ x y. bit_xor (lane a x y) (bit_and (2 ^ 64 - 1 - lane a (x + 1) y) (lane a (x + 2) y)))

-- iota: lane (0, 0) takes in the round's word
abbrev pub iota : List ℕ → ℕ → List ℕ
iota a word = slice_set a 0 (bit_xor (slice_index a 0) word)

-- one round
abbrev pub round : List ℕ → ℕ → List ℕ
round a word = iota (chi (pi (rho (theta a)))) word

-- the word that iota takes in at each round
abbrev pub round_words : List ℕ
round_words = 0x0000000000000001 ∷ 0x0000000000008082 ∷ 0x800000000000808a ∷ 0x8000000080008000 ∷ 0x000000000000808b ∷ 0x0000000080000001 ∷ 0x8000000080008081 ∷ 0x8000000000008009 ∷ 0x000000000000008a ∷ 0x0000000000000088 ∷ 0x0000000080008009 ∷ 0x000000008000000a ∷ 0x000000008000808b ∷ 0x800000000000008b ∷ 0x8000000000008089 ∷ 0x8000000000008003 ∷ 0x8000000000008002 ∷ 0x8000000000000080 ∷ 0x000000000000800a ∷ 0x800000008000000a ∷ 0x8000000080008081 ∷ 0x8000000000008080 ∷ 0x0000000080000001 ∷ 0x8000000080008008 ∷ []

-- the first n rounds
unfoldable pub rounds : List ℕ → ℕ → List ℕ
rounds a zero = a
rounds a (suc n) = round (rounds a n) (slice_index round_words n)

-- Keccak-f[1600]: all 24 rounds
unfoldable pub keccak_f : List ℕ → List ℕ
keccak_f a = rounds a 24

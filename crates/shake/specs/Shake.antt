-- SHAKE256 of FIPS 202 over lists of bytes: a text of any length, and as many bytes of output as are asked for.
-- Assumes that each entry of a text is below 256. A block has 136 bytes, or 17 lanes, each with its lowest byte first.
use Rattle.std.specs.Prelude.{ℕ, zero, suc, ◌+◌, ◌*◌, ◌/◌, ◌%◌, ◌^◌, cond, List, map, length, replicate, ◌==◌, bit_xor, nat_lt, slice_index, slice_set}
use Rattle.std.specs.List.{range_with_len}
use Rattle.keccak.specs.Keccak.{keccak_f}

-- byte i of the padded text: the text, then 0x1f, then zeros, with 0x80 xored into the last byte of the last block;
-- 0x1f is SHAKE's suffix of four ones and the first bit of pad10*1, and 0x80 is its last bit
abbrev pub padded_at : List ℕ → ℕ → ℕ
padded_at text i =
    bit_xor (cond (nat_lt i (length text)) (slice_index text i) (cond (i == length text) 0x1f 0))
    (cond (i == 136 * (length text / 136) + 135) 0x80 0)

-- the eight bytes of the padded text from byte i on, as a lane
unfoldable pub padded_lane : List ℕ → ℕ → ℕ
padded_lane text i =
    padded_at text i
    + padded_at text (i + 1) * 256
    + padded_at text (i + 2) * 65536
    + padded_at text (i + 3) * 16777216
    + padded_at text (i + 4) * 4294967296
    + padded_at text (i + 5) * 1099511627776
    + padded_at text (i + 6) * 281474976710656
    + padded_at text (i + 7) * 72057594037927936

-- a state with n lanes of the padded text, from byte i on, xored into its first n lanes
unfoldable pub mixed : List ℕ → ℕ → List ℕ → ℕ → List ℕ
mixed text i state zero = state
mixed text i state (suc n) =
    slice_set (mixed text i state n) n (bit_xor (slice_index (mixed text i state n) n) (padded_lane text (i + 8 * n)))

-- the state after the first k blocks of the padded text, each xored into the state and then permuted
unfoldable pub absorbed : List ℕ → ℕ → List ℕ
absorbed text zero = replicate 25 0
absorbed text (suc k) = keccak_f (mixed text (136 * k) (absorbed text k) 17)

-- the state that block k of the output is read from
unfoldable pub squeezed : List ℕ → ℕ → List ℕ
squeezed state zero = state
squeezed state (suc k) = keccak_f (squeezed state k)

-- byte i of a state
abbrev pub state_byte : List ℕ → ℕ → ℕ
state_byte state i = slice_index state (i / 8) / 2 ^ (8 * (i % 8)) % 256

-- byte i of the output that is squeezed from a state
unfoldable pub output_at : List ℕ → ℕ → ℕ
output_at state i = state_byte (squeezed state (i / 136)) (i % 136)

-- the first n bytes that are squeezed from a state
unfoldable pub output : List ℕ → ℕ → List ℕ
output state n = map (output_at state) (range_with_len 0 n)

-- the first n bytes of SHAKE256 of a text
unfoldable pub shake256_bytes : List ℕ → ℕ → List ℕ
shake256_bytes text n = output (absorbed text (length text / 136 + 1)) n

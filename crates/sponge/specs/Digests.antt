-- Digests of records and of pairs of digests, over a kind with capacity size c, digest size w and mapping F. Assumes 1 ≤ c and
-- 1 ≤ w, as the law of a kind gives.
use Rattle.std.specs.Prelude.{◌≡◌, ℕ, zero, suc, ◌+◌, ◌-◌, ◌*◌, ◌/◌, ◌%◌, cond, List, [], ◌∷◌, ◌++◌, length, take, drop, replicate, ◌==◌}
use Rattle.kinds.specs.Kinds.{State}

-- the digest in a state: elements c to c + w - 1
abbrev pub cut : ℕ → ℕ → List ℕ → List ℕ
cut c w s = take w (drop c s)

-- what fills the last block of a record of n elements up: nothing where the blocks are full, else one 1 and then zeros
abbrev pub filling : ℕ → ℕ → List ℕ
filling w n = cond (n % (2 * w) == 0) [] (1 ∷ replicate (2 * w - (n % (2 * w) + 1)) 0)

-- a record with its last block filled up
abbrev pub filled : ℕ → List ℕ → List ℕ
filled w xs = xs ++ filling w (length xs)

-- zeros, but for capacity element 0
abbrev pub first_state : ℕ → ℕ → ℕ → List ℕ
first_state c w start = start ∷ replicate (c + 2 * w - 1) 0

-- n blocks of ys: each overwrites elements c to c + 2w - 1, and then the state is mixed
abbrev pub after_blocks : ℕ → ℕ → (List ℕ → List ℕ) → ℕ → List ℕ → List ℕ → List ℕ
after_blocks c w F zero s ys = s
after_blocks c w F (suc n) s ys = after_blocks c w F n (F (take c s ++ take (2 * w) ys)) (drop (2 * w) ys)

-- the digest of a record whose capacity element 0 starts at the given value
abbrev pub record_digest : ℕ → ℕ → (List ℕ → List ℕ) → ℕ → List ℕ → List ℕ
record_digest c w F start xs = cut c w (after_blocks c w F (length (filled w xs) / (2 * w)) (first_state c w start) (filled w xs))

-- where capacity element 0 starts for a record of n elements: 0 where its blocks are full, else 1
abbrev pub start_of : ℕ → ℕ → ℕ
start_of w n = cond (n % (2 * w) == 0) 0 1

-- the digest of a record
abbrev pub digest_of : ℕ → ℕ → (List ℕ → List ℕ) → List ℕ → List ℕ
digest_of c w F xs = record_digest c w F (start_of w (length xs)) xs

-- the two-to-one hash of digests a and b
abbrev pub two_to_one : ℕ → ℕ → (List ℕ → List ℕ) → List ℕ → List ℕ → List ℕ
two_to_one c w F a b = cut c w (F (replicate c 0 ++ (a ++ b)))

-- the two-to-one hash of two digests is the digest of the record that they make together
abbrev pub PairsAreRecords : ℕ → ℕ → (List ℕ → List ℕ) → Type 0
PairsAreRecords c w F = (a b : List ℕ) → State w a → State w b → two_to_one c w F a b ≡ digest_of c w F (a ++ b)

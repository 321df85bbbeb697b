-- The permutation and its reverse undo one another.
use Rattle.std.specs.Prelude.{◌≡◌, ℕ, ◌*◌, ◌%◌, cond, List, map, length, ◌==◌}
use Rattle.std.specs.List.{range_with_len}
use Rattle.field.specs.Field.{p, Elements}
use Rattle.field.specs.Primes.{Prime}
use Rattle.kinds.specs.Kinds.{State}
use Rattle.rpo.specs.Matrix.{upto, entry}
use Rattle.rpo.specs.Rows.{row_12, inverse_12, row_16, inverse_16}
use Rattle.rpo.specs.Permutation.{permuted, reversed}

-- the entry in row i and column k of the product of two circulant matrices
abbrev pub product_at : List ℕ → List ℕ → ℕ → ℕ → ℕ
product_at b a i k = upto (λ j. entry b i j * entry a j k) (length a) % p

-- the rows of a matrix of m rows and columns
abbrev pub table : (ℕ → ℕ → ℕ) → ℕ → List (List ℕ)
table f m = map (λ i. map (f i) (range_with_len 0 m)) (range_with_len 0 m)

-- the product of two circulant matrices is the identity: a test to compute
pub record Inverse (b a : List ℕ) : Type 0 where
  pub same : length b ≡ length a
  pub identity : table (product_at b a) (length a) ≡ table (λ i k. cond (i == k) 1 0) (length a)

-- each is the inverse of the other
abbrev pub Inverses : List ℕ → List ℕ → Type 0
Inverses row inverse = Inverse inverse row × Inverse row inverse

-- the tables of both sizes are
abbrev pub InverseRows : Type 0
InverseRows = Inverses row_12 inverse_12 × Inverses row_16 inverse_16

-- F and G undo one another on every state of m elements
abbrev pub UndoBy : ℕ → (List ℕ → List ℕ) → (List ℕ → List ℕ) → Type 0
UndoBy m F G = (s : List ℕ) → State m s → (G (F s) ≡ s) × (F (G s) ≡ s)

-- if p is prime, for every two matrices that are inverses and all constants
abbrev pub Undo : Type 0
Undo =
    Prime p → (row inverse constants : List ℕ) → Inverses row inverse → Elements constants
    → UndoBy (length row) (permuted row constants) (reversed inverse constants)

-- for the two sizes, and all constants
abbrev pub UndoBoth : Type 0
UndoBoth =
    (constants : List ℕ) → Elements constants
    → UndoBy 12 (permuted row_12 constants) (reversed inverse_12 constants)
    × UndoBy 16 (permuted row_16 constants) (reversed inverse_16 constants)

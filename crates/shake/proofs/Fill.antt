-- A loop that writes f k at each place k of a list of n: its invariant, its step and its end.
use Rattle.std.proofs.Common.{◌≡◌, ℕ, ◌+◌, ◌<◌, ◌≤◌, List, map, length, get_or, set, arith, length-set}
use Rattle.std.specs.List.{range_with_len}
use Rattle.std.proofs.lemmas.List.FromFn.{fill_by_all}
use Rattle.std.proofs.lemmas.List.Edits.{fill_by_more}

-- the list has n places, and those below i hold f
abbrev pub Filled : (ℕ → ℕ) → ℕ → ℕ → List ℕ → Type 0
Filled f n i xs = (length xs ≡ n) × ((k : ℕ) → k < i → get_or xs k 0 ≡ f k)

pub filled_more : (f : ℕ → ℕ) (n i : ℕ) (xs : List ℕ) (v : ℕ) → i < n → v ≡ f i → Filled f n i xs → Filled f n (i + 1) (set xs i v)
filled_more f n i xs v h e (len, below) =
    (simp length-set len, rw e (fill_by_more f xs i 0 (omega arith) below))

pub filled_all : (f : ℕ → ℕ) (n i : ℕ) (xs : List ℕ) → n ≤ i → Filled f n i xs → xs ≡ map f (range_with_len 0 n)
filled_all f n i xs h (len, below) = fill_by_all f xs n 0 len (λ k l. below k (omega arith))

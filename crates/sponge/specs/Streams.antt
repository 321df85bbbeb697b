-- A sponge that is fed element by element, over a kind with capacity size c, digest size w and mapping F. Assumes streams that are fair.
use Rattle.std.specs.Prelude.{◌≡◌, ℕ, ◌+◌, ◌*◌, ◌%◌, ◌<◌, cond, List, take, fold, ◌==◌, slice_set}
use Rattle.field.specs.Field.{p, Elements}
use Rattle.kinds.specs.Kinds.{State}
use Rattle.sponge.specs.declared.sponge.Sponge.{Sponge}
use Rattle.sponge.specs.Digests.{cut, filling, first_state, record_digest}

-- the state, and how many elements of its block it has
abbrev pub Stream : Type 0
Stream = List ℕ × ℕ

-- one element more; the state is mixed as its block is full
abbrev pub fed : ℕ → ℕ → (List ℕ → List ℕ) → Stream → ℕ → Stream
fed c w F s x = cond (s.1 + 1 == 2 * w) (F (slice_set s.0 (c + s.1) x), 0) (slice_set s.0 (c + s.1) x, s.1 + 1)

-- elements, one by one
abbrev pub fed_all : ℕ → ℕ → (List ℕ → List ℕ) → Stream → List ℕ → Stream
fed_all c w F s xs = fold (fed c w F) s xs

-- nothing fed yet
abbrev pub begun : ℕ → ℕ → ℕ → Stream
begun c w start = (first_state c w start, 0)

-- the digest, once the last block is filled up
abbrev pub finished : ℕ → ℕ → (List ℕ → List ℕ) → Stream → List ℕ
finished c w F s = cut c w (fed_all c w F s (filling w s.1)).0

-- what the program's sponge holds under a kind; what it holds under another is not told by it
abbrev pub held : ℕ → ℕ → Sponge → Stream
held c w s = (take (c + 2 * w) s.state, s.filled % (2 * w))

-- a fair stream: a state, with room in its block
pub record Fair (c w : ℕ) (s : Stream) : Type 0 where
  pub holds : State (c + 2 * w) s.0
  pub room : s.1 < 2 * w

-- fed element by element, a record comes to its digest by blocks
abbrev pub StreamsToDigests : ℕ → ℕ → (List ℕ → List ℕ) → Type 0
StreamsToDigests c w F =
    (start : ℕ) (xs : List ℕ) → start < p → Elements xs → finished c w F (fed_all c w F (begun c w start) xs) ≡ record_digest c w F start xs

-- What a search leaves in the room of its buffer.
use Rattle.std.proofs.Common.{◌≡◌, ℕ, ◌*◌, ◌≤◌, List, ◌++◌, length, take, drop, replicate, ap, ◌∙◌, arith}
use Rattle.std.proofs.lemmas.List.{take-replicate, take_at, length-take-le}
use Rattle.kinds.specs.Answers.{Answer}
use Rattle.kinds.specs.Kinds.{Sound}
use Rattle.finder.specs.Findings.{Shown}
use Rattle.opening.specs.Replies.{found}

abbrev zeros : List ℕ
zeros = replicate {A = ℕ} 28 0

abbrev pub Call : Type 0
Call = Answer × Shown × List ℕ

-- a buffer at the front of the room is one of its own
pub in_room : {number c w : ℕ} {F : List ℕ → List ℕ} → Sound number c w F → (call : List ℕ → Call) (a : Answer) (s : Shown) (out : List ℕ)
    → length out ≡ length (take (4 * w) zeros) → ◌≡◌ {A = Call} (a, s, out) (call (take (4 * w) zeros))
    → found (a, s, take (4 * w) (out ++ drop (4 * w) zeros)) ≡ found (call (replicate (4 * w) 0))
in_room {c = c} {w = w} sound call a s out long e =
    let some = sound.c_some in
    let small = sound.m_small in
    let fits : 4 * w ≤ 28 = omega arith in
    let same : length out ≡ 4 * w = long ∙ length-take-le (4 * w) zeros fits in
    rw (take_at out (drop (4 * w) zeros) (4 * w) same, e) (ap (λ buffer. found (call buffer)) (take-replicate {X = ℕ} (4 * w) 28 0 fits))

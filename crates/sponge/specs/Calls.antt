-- The two hashes as calls: what each answers, and what the output then holds.
use Rattle.std.specs.Prelude.{ℕ, ◌||◌, List, [], ◌∷◌, ◌++◌, length, ◌==◌, nat_lt}
use Rattle.kinds.specs.Answers.{Answer, Cause, answer, if_granted}
use Rattle.kinds.specs.Words.{not_elements}
use Rattle.kinds.specs.Permuting.{bad_buffer}
use Rattle.sponge.specs.Digests.{digest_of, two_to_one}

-- refusal 4: a record has 1 to 4,096 elements
abbrev pub bad_length : ℕ → Cause
bad_length n = (n == 0 || nat_lt 4096 n, 4, [])

-- the digest of a record: refusals 4, 10, 7
abbrev pub digest_answer : ℕ → List ℕ → List ℕ → Answer
digest_answer w xs out = answer (bad_length (length xs) ∷ bad_buffer w out ∷ not_elements xs ∷ [])

-- its answer, and the output after: the digest where it is granted, else as it was
abbrev pub digest_call : ℕ → ℕ → (List ℕ → List ℕ) → List ℕ → List ℕ → Answer × List ℕ
digest_call c w F xs out = (digest_answer w xs out, if_granted (digest_answer w xs out) (digest_of c w F xs) out)

-- the two-to-one hash: refusals 10, 7; the index is counted through a, then b
abbrev pub pair_answer : ℕ → List ℕ → List ℕ → List ℕ → Answer
pair_answer w a b out = answer (bad_buffer w a ∷ bad_buffer w b ∷ bad_buffer w out ∷ not_elements (a ++ b) ∷ [])

-- its answer, and the output after: the hash where it is granted, else as it was
abbrev pub pair_call : ℕ → ℕ → (List ℕ → List ℕ) → List ℕ → List ℕ → List ℕ → Answer × List ℕ
pair_call c w F a b out = (pair_answer w a b out, if_granted (pair_answer w a b out) (two_to_one c w F a b) out)

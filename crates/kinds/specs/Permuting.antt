-- The mapping of a kind as a call: what it answers, and what the state then holds.
use Rattle.std.specs.Prelude.{ℕ, not, List, [], ◌∷◌, length, ◌==◌}
use Rattle.kinds.specs.Answers.{Answer, Cause, answer, if_granted}
use Rattle.kinds.specs.Words.{not_elements}

-- refusal 10: a buffer that has not exactly n words
abbrev pub bad_buffer : ℕ → List ℕ → Cause
bad_buffer n s = (not (length s == n), 10, [])

-- over states of m words, the mapping or its reverse: refusals 10, then 7
abbrev pub permute_answer : ℕ → List ℕ → Answer
permute_answer m s = answer (bad_buffer m s ∷ not_elements s ∷ [])

-- its answer, and the state after: F of it where it is granted, else as it was
abbrev pub permute_call : ℕ → (List ℕ → List ℕ) → List ℕ → Answer × List ℕ
permute_call m F s = (permute_answer m s, if_granted (permute_answer m s) (F s) s)

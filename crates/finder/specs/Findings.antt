-- Two openings of one place, and the clash that they show, over a kind with capacity size c, digest size w and mapping F.
use Rattle.std.specs.Prelude.{ℕ, zero, suc, ◌*◌, Bool, true, false, cond, not, ◌&&◌, List, [], ◌∷◌, ◌++◌, Some, None, Ok, Err, Option, Result}
use Rattle.kinds.specs.declared.denial.Denial.{Denial}
use Rattle.kinds.specs.Answers.{Answer, Cause, answer, if_granted}
use Rattle.kinds.specs.Words.{not_elements}
use Rattle.kinds.specs.Permuting.{bad_buffer}
use Rattle.model.specs.Calls.{too_deep, no_place}
use Rattle.model.specs.Trees.{leaf}
use Rattle.openings.specs.Opening.{same, words_of, flat, pair_at, reaches}
use Rattle.openings.specs.Checks.{bad_claim}
use Rattle.finder.specs.declared.clash.Clash.{Clash}
use Rattle.finder.specs.declared.clash.Clash.TheVariants as clash

-- what the finder shows: two pairs at a level, the two records, the one record whose digest is all zeros and whether it is
-- the second opening's, or nothing
pub data Shown : Type 0 where
  pairs : (level : ℕ) → Shown
  records : Shown
  zero_record : (second : Bool) → Shown
  nothing : Shown

-- a clash of the program
abbrev pub shown_by : Clash → Shown
shown_by (clash.Pairs level) = pairs level
shown_by clash.Records = records
shown_by (clash.ZeroRecord second) = zero_record second

-- what a result of the finder shows
abbrev pub shown : Result Clash Denial → Shown
shown (Ok x) = shown_by x
shown (Err e) = nothing

-- whether two openings have one claim and one path
abbrev pub same_claim : Option (List ℕ) → Option (List ℕ) → Bool
same_claim None None = true
same_claim None (Some ys) = false
same_claim (Some xs) None = false
same_claim (Some xs) (Some ys) = same xs ys

-- both together: refusal 13 asks it
abbrev pub alike : Option (List ℕ) → List ℕ → Option (List ℕ) → List ℕ → Bool
alike claim1 path1 claim2 path2 = same_claim claim1 claim2 && same path1 path2

-- of the levels below n, one more than the highest that fails the test; 0 if none does
abbrev pub highest : (ℕ → Bool) → ℕ → ℕ
highest test zero = 0
highest test (suc level) = cond (test level) (highest test level) (suc level)

-- the same of the level itself, where there is one
abbrev pub one_past : Option ℕ → ℕ
one_past (Some level) = suc level
one_past None = 0

-- what two claims show whose paths are alike
abbrev pub claims_show : Option (List ℕ) → Option (List ℕ) → Shown
claims_show (Some xs) (Some ys) = records
claims_show (Some xs) None = zero_record false
claims_show None claim = zero_record true

-- what is shown at n, one more than a level or 0, and what the buffer then holds
abbrev pub show_at : (ℕ → List ℕ) → (ℕ → List ℕ) → Option (List ℕ) → Option (List ℕ) → List ℕ → ℕ → (Shown × List ℕ)
show_at words1 words2 claim1 claim2 out zero = (claims_show claim1 claim2, out)
show_at words1 words2 claim1 claim2 out (suc level) = (pairs level, words1 level ++ words2 level)

-- from the root downward, the first level at which the words of the pairs differ
abbrev pub shows : (ℕ → List ℕ) → (ℕ → List ℕ) → Option (List ℕ) → Option (List ℕ) → List ℕ → ℕ → (Shown × List ℕ)
shows words1 words2 claim1 claim2 out depth = show_at words1 words2 claim1 claim2 out (highest (λ level. same (words1 level) (words2 level)) depth)

-- the refusals of what is handed over; in refusal 7 the index is counted through the root, the first record, the first
-- path, the second record and the second path
abbrev pub handed_causes : ℕ → List ℕ → ℕ → ℕ → Option (List ℕ) → List ℕ → Option (List ℕ) → List ℕ → List ℕ → List Cause
handed_causes w root depth place claim1 path1 claim2 path2 out =
    too_deep depth ∷ no_place depth place ∷ bad_claim claim1 ∷ bad_claim claim2
    ∷ bad_buffer w root ∷ bad_buffer (depth * w) path1 ∷ bad_buffer (depth * w) path2 ∷ bad_buffer (4 * w) out
    ∷ not_elements (root ++ (words_of claim1 ++ (path1 ++ (words_of claim2 ++ path2)))) ∷ []

-- refusals 11, 12, 13: by whether the first opening comes to the root, whether the second does, and whether they are alike
abbrev pub verdict_causes : Bool → Bool → Bool → List Cause
verdict_causes first second together = (not first, 11, []) ∷ (not second, 12, []) ∷ (together, 13, []) ∷ []

-- what is shown and left where an answer grants it; a denial leaves the buffer as it was
abbrev pub unless_denied : Answer → List ℕ → (Shown × List ℕ) → (Answer × Shown × List ℕ)
unless_denied a out f = (a, if_granted a f.0 nothing, if_granted a f.1 out)

module _ (c w : ℕ) (F : List ℕ → List ℕ) where
  -- the words of the pair that an opening hashes at a level
  abbrev pub words_at : ℕ → Option (List ℕ) → List ℕ → ℕ → List ℕ
  words_at place claim path level = flat (pair_at c w F place (leaf c w F claim) path level)

  -- what is shown of two openings that are both accepted and differ, and what the buffer then holds
  abbrev pub found : ℕ → ℕ → Option (List ℕ) → List ℕ → Option (List ℕ) → List ℕ → List ℕ → (Shown × List ℕ)
  found depth place claim1 path1 claim2 path2 out = shows (words_at place claim1 path1) (words_at place claim2 path2) claim1 claim2 out depth

  -- refusals 11, 12, 13 of two openings under a root
  abbrev pub verdict : List ℕ → ℕ → ℕ → Option (List ℕ) → List ℕ → Option (List ℕ) → List ℕ → List Cause
  verdict root depth place claim1 path1 claim2 path2 =
      verdict_causes (reaches c w F root depth place claim1 path1) (reaches c w F root depth place claim2 path2) (alike claim1 path1 claim2 path2)

  -- all refusals of the finder, in their order
  abbrev pub find_causes : List ℕ → ℕ → ℕ → Option (List ℕ) → List ℕ → Option (List ℕ) → List ℕ → List ℕ → List Cause
  find_causes root depth place claim1 path1 claim2 path2 out =
      handed_causes w root depth place claim1 path1 claim2 path2 out ++ verdict root depth place claim1 path1 claim2 path2

  -- granted, or the first refusal that has its cause
  abbrev pub find_answer : List ℕ → ℕ → ℕ → Option (List ℕ) → List ℕ → Option (List ℕ) → List ℕ → List ℕ → Answer
  find_answer root depth place claim1 path1 claim2 path2 out = answer (find_causes root depth place claim1 path1 claim2 path2 out)

  -- what the finder answers, what it shows, and what it leaves in the buffer
  abbrev pub find_call : List ℕ → ℕ → ℕ → Option (List ℕ) → List ℕ → Option (List ℕ) → List ℕ → List ℕ → Answer × Shown × List ℕ
  find_call root depth place claim1 path1 claim2 path2 out =
      unless_denied (find_answer root depth place claim1 path1 claim2 path2 out) out (found depth place claim1 path1 claim2 path2 out)

  -- the same for openings that are known to be well formed: only the verdict on them is open
  abbrev pub judged_call : List ℕ → ℕ → ℕ → Option (List ℕ) → List ℕ → Option (List ℕ) → List ℕ → List ℕ → Answer × Shown × List ℕ
  judged_call root depth place claim1 path1 claim2 path2 out =
      unless_denied (answer (verdict root depth place claim1 path1 claim2 path2)) out (found depth place claim1 path1 claim2 path2 out)

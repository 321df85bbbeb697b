-- What is to be said of a question, by number.
use Rattle.std.specs.Prelude.{ℕ, ◌*◌, Bool, List, Some, None, Option, replicate}
use Rattle.std.specs.Option.{option_map}
use Rattle.kinds.specs.Answers.{Answer}
use Rattle.kinds.specs.Denials.{told}
use Rattle.openings.specs.Checks.{check_call, accepted}
use Rattle.finder.specs.Findings.{Shown, shown, find_call}
use Rattle.script.specs.Stages.{capacity_size, digest_size, mixing}
use Rattle.opening.specs.declared.question.Told.{Told}
use Rattle.opening.specs.declared.question.Question.{Question}
use Rattle.opening.specs.declared.said.Said.{Said}
use Rattle.opening.specs.declared.said.Said.TheVariants as said

-- the claim of an opening as it is told
abbrev pub told_claim : Told → Option (List ℕ)
told_claim t = option_map (λ v. v.items) t.claim

-- what the check answers and whether it accepts; or what the finder answers, what it shows and what it leaves in its buffer
pub data Reply : Type 0 where
  checked : (call : Answer × Bool) → Reply
  found : (call : Answer × Shown × List ℕ) → Reply

-- what the program says, by number
abbrev pub said_by : Said → Reply
said_by (said.Checked r) = checked (told r, accepted r)
said_by (said.Found r pairs) = found (told r, shown r, pairs)

module _ (c w : ℕ) (F : List ℕ → List ℕ) where
  -- of one opening the check is asked; of two the finder, with a buffer of the size that it asks for
  abbrev pub reply_with : Question → Option Told → Reply
  reply_with q None = checked (check_call c w F q.root.items q.depth q.place (told_claim q.first) q.first.path.items)
  reply_with q (Some t) =
      found (find_call c w F q.root.items q.depth q.place (told_claim q.first) q.first.path.items (told_claim t) t.path.items (replicate (4 * w) 0))

-- at the kind that the question names
abbrev pub reply : Question → Reply
reply q = reply_with (capacity_size q.kind) (digest_size q.kind) (mixing q.kind) q q.second

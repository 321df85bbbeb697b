-- The check of an opening and the finder as C has them: claims with a flag, answers by number.
use Rattle.std.specs.Prelude.{◌≡◌, ℕ, Bool, true, cond, List, Some, None, Option}
use Rattle.kinds.specs.Answers.{Answer, granted, denied}
use Rattle.finder.specs.Findings.{Shown, pairs, records, zero_record, nothing}
use Rattle.ffi.specs.Codes.{code_of, index_after}

-- the words are the record that is claimed where the flag says so; else nothing is claimed, whatever the words
abbrev pub claim_from : Bool → List ℕ → Option (List ℕ)
claim_from has_record words = cond has_record (Some words) None

-- 0 where an opening is accepted; 200 where it is not denied and comes to another root; or the number of the refusal
abbrev pub verdict_code : Answer → Bool → ℕ
verdict_code granted accepts = cond accepts 0 200
verdict_code (denied n vs) accepts = n

-- what C is told of a call of the check, and what then stands at the place for an index
abbrev pub check_told : Answer × Bool → ℕ → ℕ × ℕ
check_told x index = (verdict_code x.0 x.1, index_after x.0 index)

-- the number 0 says that an opening is accepted, and nothing else does
pub record SaysAccepted (code : ℕ) (x : Answer × Bool) : Type 0 where
  pub only : code ≡ 0 → x.1 ≡ true
  pub always : x.1 ≡ true → code ≡ 0

-- a clash by number: 1 pairs, 2 two records, 3 a zero record that is the first opening's, 4 one that is the second's; where
-- nothing is shown, what stood there before
abbrev pub clash_after : Shown → ℕ → ℕ
clash_after (pairs level) before = 1
clash_after records before = 2
clash_after (zero_record second) before = cond second 4 3
clash_after nothing before = before

-- the level of pairs; else what stood there before
abbrev pub level_after : Shown → ℕ → ℕ
level_after (pairs level) before = level
level_after records before = before
level_after (zero_record second) before = before
level_after nothing before = before

-- what C is told of a call of the finder, and what then stands at the places for clash, level and index, and in the buffer
abbrev pub find_told : Answer × Shown × List ℕ → ℕ → ℕ → ℕ → ℕ × ℕ × ℕ × ℕ × List ℕ
find_told x clash level index = (code_of x.0, clash_after x.1 clash, level_after x.1 level, index_after x.0 index, x.2)

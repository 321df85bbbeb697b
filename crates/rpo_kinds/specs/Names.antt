-- The kinds by their numbers and by texts.
use Rattle.std.specs.Prelude.{◌≡◌, ◌⊎◌, ℕ, List, codes, cond, Some, None, Option, Result, ok_or, MatchResult, ◌==◌}
use Rattle.rpo_kinds.specs.declared.names.KindName.{KindName}
use Rattle.rpo_kinds.specs.declared.names.KindName.TheVariants as kind
use Rattle.rpo_kinds.specs.declared.names.UnknownKind.{UnknownKind}

-- the kind of that number, if there is one
abbrev pub name_of : ℕ → Option KindName
name_of byte = cond (byte == 0) (Some kind.Drill) (cond (byte == 1) (Some kind.Rpo128) (cond (byte == 2) (Some kind.Rpo160) None))

-- the same, as a result
abbrev pub kind_named : ℕ → Result KindName UnknownKind
kind_named number = ok_or (name_of number) (record {})

-- how a kind is named in input and output
abbrev pub kind_word : KindName → List ℕ
kind_word kind.Drill = codes "drill"
kind_word kind.Rpo128 = codes "rpo-128"
kind_word kind.Rpo160 = codes "rpo-160"

-- its number in one digit
abbrev pub kind_digit : KindName → List ℕ
kind_digit kind.Drill = codes "0"
kind_digit kind.Rpo128 = codes "1"
kind_digit kind.Rpo160 = codes "2"

-- a text says a kind by its word or by its digit
abbrev pub Says : List ℕ → KindName → Type 0
Says text name = (text ≡ kind_word name) ⊎ (text ≡ kind_digit name)

-- a reader answers the kind that a text says, and an error only where it says none
abbrev pub ReadsKind : List ℕ → Result KindName UnknownKind → Type 0
ReadsKind text r = MatchResult r (Says text) (λ e. (name : KindName) → ¬ Says text name)

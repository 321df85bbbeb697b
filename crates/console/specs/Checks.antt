-- Refusals in words, and the answer of a check: accepted or not, or its refusal.
use Rattle.std.specs.Prelude.{List, ℕ, Bool, true, false, Result, Ok, Err, ◌++◌, codes}
use Rattle.kinds.specs.declared.denial.Denial.{Denial}
use Rattle.kinds.specs.Denials.{denial_text}

-- a refusal
abbrev pub refused_text : Denial → List ℕ
refused_text why = codes "no " ++ denial_text why

-- the answer of a check
abbrev pub check_text : Result Bool Denial → List ℕ
check_text (Ok true) = codes "accepted"
check_text (Ok false) = codes "not accepted"
check_text (Err why) = refused_text why

use Rattle.std.proofs.Common.{append_assoc}
use Rattle.std.proofs.Output.{has_written_of_eq}
use Rattle.std.proofs.lemmas.Bool.{ne_eqb}
use Rattle.digest.proofs.explained.FillingDisplay.fmt.Goals as goal

pub returns-else-over-eq0-clause-writes : goal.returns-else-over-eq0-clause-writes
returns-else-over-eq0-clause-writes g c = λ plain ok. has_written_of_eq _ _ _ _ _ (rw (ne_eqb _ _ c.if-over-eq0.false) (simp append_assoc)) (c.write-else-over-eq0.ensures.writes plain ok)

use Rattle.std.proofs.Common.{append_assoc}
use Rattle.std.proofs.Output.{has_written_of_eq}
use Rattle.console.proofs.input.UnreadDisplay.fmt.Goals as goal

pub returns-in-NoNumber-clause-writes : goal.returns-in-NoNumber-clause-writes
returns-in-NoNumber-clause-writes g c = rw c.in-NoNumber.is (λ plain ok. has_written_of_eq _ _ _ _ _ (simp append_assoc) (c.write-in-NoNumber.ensures.writes plain ok))

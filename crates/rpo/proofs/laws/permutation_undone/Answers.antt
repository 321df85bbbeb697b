use Rattle.field.proofs.Goldilocks.{p_prime}
use Rattle.rpo.proofs.Rounds.{undo, undo_both}
use Rattle.rpo.proofs.laws.permutation_undone.Goals as goal

pub returns : goal.returns
returns c = record { any = undo; premise = undo_both; outright = undo_both p_prime }

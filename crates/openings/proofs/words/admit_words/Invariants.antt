-- The parts that are left decide, counted past those that are admitted.
use Rattle.std.proofs.Common.{◌≡◌, ◌+◌, [], ◌∷◌, length, drop}
use Rattle.kinds.specs.Answers.{answer}
use Rattle.kinds.specs.Words.{not_elements, not_elements_past}
use Rattle.openings.proofs.Parts.{joined}
use Rattle.openings.proofs.words.admit_words.Given as goal

abbrev pub invariant-loop-part : goal.invariant-loop-part
invariant-loop-part l = record {
  long : length (joined l.parts) ≡ l.before + length (joined (drop l.part-index l.parts));
  decide : answer (not_elements (joined l.parts) ∷ []) ≡ answer (not_elements_past l.before (joined (drop l.part-index l.parts)) ∷ []);
}

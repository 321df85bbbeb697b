-- The laws of a reading, from the definitions.
use Rattle.std.proofs.Common.{length, refl}
use Rattle.std.proofs.lemmas.Bool.{lt-ltb, le-ltb}
use Rattle.script.specs.Stages.{act}
use Rattle.script.specs.Runs.{turn, next_command}
use Rattle.transcript.specs.Laws.{ReadingLaws}
use Rattle.transcript.proofs.Commands.{phase_acted}

pub reading_laws : ReadingLaws
unfolding next_command turn act
reading_laws = record {
  short_keeps = λ r out h. rw (lt-ltb (length out) 1024 h);
  ended_stays = λ r out h e. rw (le-ltb (length out) 1024 h, e);
  fault_ends = λ r f. refl;
  denied_start_ends = λ kind depth at f e. rw e;
  goes_on = phase_acted;
}

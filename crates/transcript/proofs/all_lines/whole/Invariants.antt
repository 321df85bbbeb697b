use Rattle.std.proofs.Common.{◌≡◌, length, vec_items}
use Rattle.script.specs.Runs.{left}
use Rattle.transcript.specs.Transcripts.{transcript}
use Rattle.transcript.proofs.Going.{Going}
use Rattle.transcript.proofs.all_lines.whole.Given as goal

abbrev pub invariant-loop-n : goal.invariant-loop-n
invariant-loop-n l = (length l.line ≡ 1024) × Going (vec_items l.all) l.runner (transcript l.script)

abbrev pub decreases-loop-n : goal.decreases-loop-n
decreases-loop-n l = left l.runner

use Rattle.std.proofs.Common.{◌+◌, length, refl, arith, rules}
use Rattle.script.specs.Runs.{fresh}
use Rattle.transcript.specs.Transcripts.{transcript}
use Rattle.transcript.proofs.Going.{going_first, going_more, going_all}
use Rattle.transcript.proofs.all_lines.whole.Goals as goal
use Rattle.transcript.proofs.all_lines.whole.Goals.{in_default, in_default-2}

pub loop-n-init : goal.loop-n-init
unfolding transcript
loop-n-init c =
    (refl, rw (c.new-all.ensures.items, c.in_ok-runner.ensures) (going_first (fresh c.args.script.now) (length c.args.script.now + 1) (omega arith)))

pub loop-n-preserved : goal.loop-n-preserved
loop-n-preserved c =
    (search rules, going_more _ _ c.loop-n.runner c.next_line.new.self c.loop-n.line c.next_line.new.out c.in-Ok-Some.n _ c.loop-n.invariant.1 c.loop-n.invariant.0 (search rules) (search rules) (search rules))

pub returns : goal.returns
returns c =
    going_all _ c.loop-n.runner c.next_line.new.self c.loop-n.line c.next_line.new.out c.next_line.result _ c.loop-n.invariant.1 c.loop-n.invariant.0 c.next_line.ensures.exact
    (elim c.match-next_line.branch [
      | in_default w ↦ λ n e. cc
      | in_default-2 w ↦ λ n e. cc
    ])

use Rattle.std.proofs.Common.{◌<◌, sym, subst, ◌∙◌, arith}
use Rattle.reader.specs.Commands.{told}
use Rattle.script.specs.Runs.{left}
use Rattle.script.proofs.Progress.{line_falls, line_copied}
use Rattle.script.proofs.runner.Runner.next_line.Goals as goal

pub returns : goal.returns
returns c =
    let r = c.args.self.now in
    let x = told c.in-Some.next in
    let script = c.self.inside.script.now in
    let after = rw (c.self.view_is) at (c.turn.ensures.after script) in
    let line = rw (c.self.view_is) at (c.turn.ensures.line script) in
    record {
      exact = line_copied r _ c.args.out.now c.copy_from_slice.new.self c.as_bytes-bytes.result.now x (omega arith) c.in-Some.ensures after (c.as_bytes-bytes.ensures.is ∙ line) c.copy_from_slice.ensures.after;
      promised = record {
        short = c.as_bytes-bytes.ensures.short;
        falls = subst (λ s. left s < left r) (sym after) (line_falls r x c.in-Some.ensures);
      };
    }

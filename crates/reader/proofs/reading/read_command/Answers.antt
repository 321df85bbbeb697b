use Rattle.std.proofs.Common.{◌≡◌, ◌+◌, length, Ok, Err, None, Some, inl, inr, ap, ◌∙◌, rules, arith}
use Rattle.reader.specs.Commands.{read_command}
use Rattle.reader.specs.declared.fault.ScriptFault.TheVariants as fault
use Rattle.reader.specs.Verbs.{verb_in}
use Rattle.reader.proofs.Cuts.{was_none, read_whole, read_short}
use Rattle.reader.proofs.reading.read_command.Goals as goal

pub returns-in_err-verb : goal.returns-in_err-verb
unfolding read_command
returns-in_err-verb c =
    let e : c.from_residual.result ≡ Err (fault.UnknownCommand c.args.at) = search rules in
    let none : Err (record {}) ≡ verb_in c.args.first = search rules in
    rw (e, was_none _ _ _ (rw c.requires.there at none))

pub returns-in_err-operands : goal.returns-in_err-operands
returns-in_err-operands c =
    let e : c.from_residual-in_err-operands.result ≡ Err (fault.CutShort c.args.at) = search rules in
    let none : c.get.result ≡ None = search rules in
    let known : Ok c.in_ok-verb.verb ≡ verb_in c.args.first = search rules in
    let lacks = (rw none at c.get.ensures.lookup).0 in
    rw (e, read_short c.args.script.now c.args.at c.width.result c.in_ok-verb.verb c.width.ensures.exact (rw c.requires.there at known) c.requires.within (elim lacks [ inl neither ↦ absurd (omega arith) | inr few ↦ few ]))

pub returns : goal.returns
returns c =
    let some : c.get.result ≡ Some c.in_ok-operands.operands = search rules in
    let known : Ok c.in_ok-verb.verb ≡ verb_in c.args.first = search rules in
    let there = (rw some at c.get.ensures.lookup).0 in
    ap (λ read. Ok (read, c.args.at + 1 + length c.in_ok-operands.operands.now)) c.new-command.ensures
    ∙ read_whole c.args.script.now c.args.at c.width.result c.in_ok-verb.verb c.width.ensures.exact (rw c.requires.there at known) c.in_ok-operands.operands.now c.requires.within there.1 there.2

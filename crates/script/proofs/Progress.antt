-- Each line is what the definition says, and with it less of the script is left to read.
use Rattle.std.proofs.Common.{◌≡◌, ℕ, ◌+◌, ◌-◌, ◌<◌, ◌≤◌, ltb, leb, List, ◌++◌, length, drop, get_or, Some, None, Ok, Err, Option, Result, IfOk, IfSome, sym, refl, subst, arith}
use Rattle.std.proofs.lemmas.Bool.{cond_both, leb-true, le-ltb}
use Rattle.kinds.specs.declared.denial.Denial.{Denial}
use Rattle.reader.specs.declared.verbs.Verb.{Verb}
use Rattle.reader.specs.declared.phases.Phase.{Phase}
use Rattle.reader.specs.Verbs.{verb_of, width_of}
use Rattle.reader.specs.Commands.{Reading, read_as, read_command, read_at}
use Rattle.reader.specs.Phases.{in_phase}
use Rattle.script.specs.Stages.{phase_in}
use Rattle.script.specs.Runs.{Run, phased, next_in, next_command, turn, next_line, left_by, left}

-- a command that is read ends after its place and within the script
abbrev On : List ℕ → ℕ → Reading → Type 0
On s at r = IfOk r (λ x. (at < x.1) × (x.1 ≤ length s))

abbrev OnAny : List ℕ → ℕ → Option Reading → Type 0
OnAny s at o = IfSome o (On s at)

on_as : (s : List ℕ) (at : ℕ) (v : Option Verb) → On s at (read_as s at v)
on_as s at None = tt
on_as s at (Some v) =
    cond_both (leb (at + 1 + width_of v) (length s)) _ _ (On s at) (λ e. (omega arith, leb-true (at + 1 + width_of v) (length s) e)) (λ e. tt)

on_command : (s : List ℕ) (at : ℕ) → On s at (read_command s at)
unfolding read_command
on_command s at = on_as s at (verb_of (get_or s at 0))

on_read : (s : List ℕ) (at : ℕ) → OnAny s at (read_at s at)
on_read s at = cond_both (leb (length s) at) _ _ (OnAny s at) (λ e. tt) (λ e. on_command s at)

on_phased : (s : List ℕ) (p : Phase) (at : ℕ) (x : Option Reading) → OnAny s at x → OnAny s at (phased p at x)
on_phased s p at None h = tt
on_phased s p at (Some (Err f)) h = tt
on_phased s p at (Some (Ok x)) h = cond_both (in_phase p x.0.verb) _ _ (On s at) (λ e. h) (λ e. tt)

on_next : (r : Run) (p : Option Phase) → OnAny r.script r.at (next_in p r)
on_next r None = tt
on_next r (Some p) =
    cond_both (ltb 65536 (length r.script)) _ _ (OnAny r.script r.at) (λ e. tt) (λ e. on_phased r.script p r.at (read_at r.script r.at) (on_read r.script r.at))

-- the end of the reading leaves nothing
at_most : (p : Option Phase) (n : ℕ) → left_by p n ≤ n + 1
at_most None n = omega arith
at_most (Some p) n = omega arith

-- a run that is not at its end has something left
more_left : (p : Option Phase) (r : Run) (x : Reading) (n : ℕ) → Some x ≡ next_in p r → left_by p n ≡ n + 1
more_left None r x n e = absurd cc
more_left (Some p) r x n e = refl

pub line_falls : (r : Run) (x : Reading) → Some x ≡ next_command r → left (turn r x).0 < left r
unfolding next_command turn
line_falls r (Err f) e = rw (more_left (phase_in r.stage) r (Err f) (length r.script - r.at) e) (omega arith)
line_falls r (Ok x) e =
    let on : OnAny r.script r.at (Some (Ok x)) = subst (OnAny r.script r.at) (sym e) (on_next r (phase_in r.stage)) in
    let most = at_most (phase_in (turn r (Ok x)).0.stage) (length r.script - x.1) in
    rw (more_left (phase_in r.stage) r (Ok x) (length r.script - r.at) e) (omega arith)

-- a line that is copied over the start of a buffer
pub line_copied : (r s : Run) (out copied bytes : List ℕ) (x : Reading) → 1024 ≤ length out → Some x ≡ next_command r → s ≡ (turn r x).0 → bytes ≡ (turn r x).1 → copied ≡ bytes
    → ◌≡◌ {A = Run × List ℕ × Result (Option ℕ) Denial} (s, copied ++ drop (length bytes) out, Ok (Some (length bytes))) (next_line r out)
line_copied r s out copied bytes x room e after is same = rw (le-ltb (length out) 1024 room, ← e, after, same, is)

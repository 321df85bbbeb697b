-- A call that gives no line, with room for one, finds no command left.
use Rattle.std.proofs.Common.{◌≡◌, ℕ, List, length, Some, None, Ok, Option, Result, ap, ◌∙◌, refl, arith}
use Rattle.std.proofs.lemmas.Bool.{le-ltb}
use Rattle.kinds.specs.declared.denial.Denial.{Denial}
use Rattle.reader.specs.Commands.{Reading}
use Rattle.script.specs.Runs.{Run, next_command, turn, line_of, next_line}

none_stays : (r s : Run) (out ys : List ℕ) (given : Result (Option ℕ) Denial) (o : Option Reading) → next_command r ≡ o → ((n : ℕ) → given ≡ Ok (Some n) → ⊥)
    → ◌≡◌ {A = Run × List ℕ × Result (Option ℕ) Denial} (s, ys, given) (line_of r out o) → next_command s ≡ None
none_stays r s out ys given None q h e = ap next_command (ap (λ (x : Run × List ℕ × Result (Option ℕ) Denial). x.0) e) ∙ q
none_stays r s out ys given (Some x) q h e = absurd (h (length (turn r x).1) (ap (λ (x : Run × List ℕ × Result (Option ℕ) Denial). x.2) e))

pub none_left : (r s : Run) (out ys : List ℕ) (given : Result (Option ℕ) Denial) → length out ≡ 1024
    → ◌≡◌ {A = Run × List ℕ × Result (Option ℕ) Denial} (s, ys, given) (next_line r out) → ((n : ℕ) → given ≡ Ok (Some n) → ⊥) → next_command s ≡ None
none_left r s out ys given room e h = none_stays r s out ys given (next_command r) refl h (rw (le-ltb (length out) 1024 (omega arith)) at e)

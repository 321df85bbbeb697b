use Rattle.std.proofs.Common.{rules, ℕ, refl}
use Rattle.std.proofs.lemmas.List.{take-replicate}
use Rattle.turns.proofs.answers.written.Goals as goal

pub returns-in_err-write : goal.returns-in_err-write
returns-in_err-write g c =
    record { answer = c.write.result; words = c.write.new.arg2; may = record { shown = _; shows = take-replicate {X = ℕ} c.args.count 40 0 c.requires.short; left = _; met = c.write.ensures; leaves = refl }; tells = λ at. search rules }

pub returns : goal.returns
returns g c =
    record { answer = c.write.result; words = c.write.new.arg2; may = record { shown = _; shows = take-replicate {X = ℕ} c.args.count 40 0 c.requires.short; left = _; met = c.write.ensures; leaves = refl }; tells = λ at. search rules }

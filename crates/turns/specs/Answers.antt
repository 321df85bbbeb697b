-- The line of each answer.
use Rattle.std.specs.Prelude.{◌≡◌, ℕ, List, [], ◌∷◌, Ok, Err, Result, slice_index_or}
use Rattle.kinds.specs.declared.denial.Layer.{Layer}
use Rattle.kinds.specs.declared.denial.Layer.TheVariants as layer
use Rattle.kinds.specs.declared.denial.Denial.{Denial}
use Rattle.kinds.specs.Answers.{Answer, granted, denied}
use Rattle.kinds.specs.Denials.{told}
use Rattle.lines.specs.Lines.{no_line, numbers_line, heading_word}
use Rattle.lines.specs.declared.writing.Heading.{Heading}
use Rattle.reader.specs.declared.fault.ScriptFault.{ScriptFault}
use Rattle.reader.specs.declared.fault.ScriptFault.TheVariants as fault
use Rattle.reader.specs.Faults.{number_of, layer_of, values_of}

-- the layers of the refusals by their numbers; there is no 0
abbrev pub layers : List Layer
layers =
    layer.Lot ∷ layer.Lot ∷ layer.Station ∷ layer.Lot ∷ layer.Station ∷ layer.Station ∷ layer.Station ∷ layer.Word ∷ layer.Station ∷ layer.Station ∷ layer.Lot
    ∷ layer.Finder ∷ layer.Finder ∷ layer.Finder ∷ layer.Script ∷ layer.Script ∷ layer.Script ∷ layer.Script ∷ layer.Script ∷ []

-- the line of a refusal of the lot, by its number
abbrev pub denied_line : ℕ → ℕ → List ℕ
denied_line n at = no_line n (slice_index_or layers n layer.Lot) at

-- what a call says: a line where it is granted, else its refusal and the offset of the command
abbrev pub answer_line : Answer → List ℕ → ℕ → List ℕ
answer_line granted line at = line
answer_line (denied n vs) line at = denied_line n at

-- a fault of the script's own has its offset
abbrev pub offset_of : ScriptFault → ℕ → ℕ
offset_of (fault.Denied d) at = at
offset_of f at = slice_index_or (values_of f) 0 at

-- the line of a fault, with its own offset or that of the command
abbrev pub fault_line : ScriptFault → ℕ → List ℕ
fault_line f at = no_line (number_of f) (layer_of f) (offset_of f at)

-- what a command gives: its line, or that of the fault in its place
abbrev pub line_told : Result (List ℕ) ScriptFault → ℕ → List ℕ
line_told (Ok line) at = line
line_told (Err f) at = fault_line f at

-- the line that a command left, where it met no fault
abbrev pub line_left : Result (Unit {0}) ScriptFault → List ℕ → Result (List ℕ) ScriptFault
line_left (Ok done) line = Ok line
line_left (Err f) line = Err f

-- the line of a call that leaves numbers in a buffer
abbrev pub numbers_told : Heading → Answer × List ℕ → ℕ → List ℕ
numbers_told heading x at = answer_line x.0 (numbers_line (heading_word heading) x.1) at

-- such a line, by what the call may answer and leave
pub record Written (May : Result (Unit {0}) Denial → List ℕ → Type 0) (heading : Heading) (line : Result (List ℕ) ScriptFault) : Type 0 where
  pub answer : Result (Unit {0}) Denial
  pub words : List ℕ
  pub may : May answer words
  pub tells : (at : ℕ) → line_told line at ≡ numbers_told heading (told answer, words) at

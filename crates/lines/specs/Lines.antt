-- The lines of a transcript, byte for byte: parts split by single spaces, numbers in decimal, a line feed at the end.
use Rattle.std.specs.Prelude.{ℕ, List, [], ◌∷◌, ◌++◌, map, length, drop, codes, decimal}
use Rattle.std.specs.List.{flat_map}
use Rattle.kinds.specs.declared.denial.Layer.{Layer}
use Rattle.kinds.specs.Denials.{layer_word}
use Rattle.lines.specs.declared.writing.Heading.{Heading}
use Rattle.lines.specs.declared.writing.Heading.TheVariants as heading

-- the bytes with a text over their start
abbrev pub over : List ℕ → List ℕ → List ℕ
over text bytes = text ++ drop (length text) bytes

-- a part that is not the first
abbrev pub spaced : List ℕ → List ℕ
spaced part = codes " " ++ part

-- a first part, others after a space each, and a line feed
unfoldable pub line : List ℕ → List (List ℕ) → List ℕ
line first parts = first ++ flat_map spaced parts ++ codes "\n"

-- a word and numbers
abbrev pub numbers_line : List ℕ → List ℕ → List ℕ
numbers_line word ns = line word (map decimal ns)

-- the words of the lines of numbers
abbrev pub heading_word : Heading → List ℕ
heading_word heading.Root = codes "root"
heading_word heading.Path = codes "path"

-- granted, with nothing to write
abbrev pub ok_line : List ℕ
ok_line = line (codes "ok") []

-- a refusal: its number, its layer, and the offset of the command
abbrev pub no_line : ℕ → Layer → ℕ → List ℕ
no_line number layer offset = line (codes "no") (decimal number ∷ layer_word layer ∷ decimal offset ∷ [])

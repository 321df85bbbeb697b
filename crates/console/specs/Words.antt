-- Words in decimal, with a space between each two.
use Rattle.std.specs.Prelude.{ℕ, List, [], ◌∷◌, ◌++◌, codes, decimal}
use Rattle.std.specs.List.{flat_map}

-- each word after a space
abbrev pub further : List ℕ → List ℕ
further = flat_map (λ next. codes " " ++ decimal next)

-- words, the first without a space
abbrev pub words_text : List ℕ → List ℕ
words_text [] = []
words_text (word ∷ rest) = decimal word ++ further rest

-- a name, and words after it
abbrev pub named_text : List ℕ → List ℕ → List ℕ
named_text name words = name ++ further words

-- The numbers of a text: decimal numerals, a plus may stand before each, with white space around them.
use Rattle.std.specs.Prelude.{◌≡◌, ℕ, ◌<◌, ◌^◌, List, [], ◌∷◌, ◌++◌, length}
use Rattle.std.specs.Char.{is_whitespace, is_not_whitespace}
use Rattle.std.specs.Str.{NoCharPasses, EmptyOrStartsWithPassing}
use Rattle.std.specs.Str.Parse.{IsNumeral, digits_value, without_leading_plus}
use Rattle.console.specs.declared.input.Unread.{Unread}
use Rattle.console.specs.declared.input.Unread.TheVariants as unread

-- a text that begins with the number x, after which the rest stands
pub record Begins (text : List ℕ) (x : ℕ) (rest : List ℕ) : Type 0 where
  pub gap : List ℕ
  pub part : List ℕ
  pub splits : text ≡ gap ++ (part ++ rest)
  pub blank : NoCharPasses is_not_whitespace gap
  pub unbroken : NoCharPasses is_whitespace part
  pub ended : (more : List ℕ) × EmptyOrStartsWithPassing is_whitespace rest more
  pub numeral : IsNumeral 10 (without_leading_plus part)
  pub value : digits_value 10 (without_leading_plus part) ≡ x

-- a text that begins with these numbers, after which the rest stands
abbrev pub NumbersUpTo : List ℕ → List ℕ → List ℕ → Type 0
NumbersUpTo text [] rest = text ≡ rest
NumbersUpTo text (x ∷ xs) rest = (next : List ℕ) × Begins text x next × NumbersUpTo next xs rest

-- the numbers of a text, of which nothing else is left, come after those that are there
pub record Appended (text before after : List ℕ) : Type 0 where
  pub numbers : List ℕ
  pub rest : List ℕ
  pub are_in : NumbersUpTo text numbers rest
  pub no_more : NoCharPasses is_not_whitespace rest
  pub follow : after ≡ before ++ numbers

-- a text that begins with a word that is no number of 64 bits
pub record BeginsWrong (text : List ℕ) : Type 0 where
  pub gap : List ℕ
  pub part : List ℕ
  pub rest : List ℕ
  pub splits : text ≡ gap ++ (part ++ rest)
  pub blank : NoCharPasses is_not_whitespace gap
  pub some : 0 < length part
  pub unbroken : NoCharPasses is_whitespace part
  pub ended : (more : List ℕ) × EmptyOrStartsWithPassing is_whitespace rest more
  pub no_number : IsNumeral 10 (without_leading_plus part) × (digits_value 10 (without_leading_plus part) < 2 ^ 64) → ⊥

-- behind numbers of a text such a word stands
pub record Stopped (text : List ℕ) : Type 0 where
  pub numbers : List ℕ
  pub rest : List ℕ
  pub are_in : NumbersUpTo text numbers rest
  pub wrong : BeginsWrong rest

-- why the numbers of a text could not be read: one of its words is none, or there is no memory for them
abbrev pub Refusal : List ℕ → Unread → Type 0
Refusal text (unread.NoNumber line word) = Stopped text
Refusal text unread.NoMemory = Unit {0}
Refusal text why = ⊥

-- A line of three parts, one after another.
use Rattle.std.proofs.Common.{◌≡◌, ℕ, List, [], ◌∷◌, ◌++◌, codes}
use Rattle.std.proofs.lemmas.List.{append_assoc, append-nil}
use Rattle.lines.specs.Lines.{spaced, line}

joined : (first s a b c e : List ℕ) → first ++ (s ++ a) ++ s ++ b ++ (s ++ c) ++ e ≡ first ++ (s ++ a ++ (s ++ b ++ (s ++ c ++ []))) ++ e
joined first s a b c e = simp (append_assoc, append-nil)

pub three_parts : (first a b c : List ℕ) → first ++ spaced a ++ codes " " ++ b ++ spaced c ++ codes "\n" ≡ line first (a ∷ b ∷ c ∷ [])
unfolding line
three_parts first a b c = joined first (codes " ") a b c (codes "\n")

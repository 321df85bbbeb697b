-- The numbers that a reading has come past.
use Rattle.std.proofs.Common.{◌≡◌, ℕ, ◌<◌, List, [], ◌∷◌, ◌++◌, length, Ok, Err, Result, MatchResult, sym, refl, ◌∙◌, ap, subst}
use Rattle.std.proofs.lemmas.List.{append_assoc, append-nil}
use Rattle.std.specs.Char.{is_whitespace, is_not_whitespace}
use Rattle.std.specs.Result.{IsErrAnd}
use Rattle.std.specs.Str.{NoCharPasses, EmptyOrStartsWithPassing}
use Rattle.std.specs.Str.Parse.{IsNumeral, ParsesUnsigned, digits_value, without_leading_plus}
use Rattle.console.specs.Numbers.{Begins, NumbersUpTo, Appended}

pub record Seen (text before rest after : List ℕ) : Type 0 where
  pub numbers : List ℕ
  pub are_in : NumbersUpTo text numbers rest
  pub follow : after ≡ before ++ numbers

up_to_more : (text : List ℕ) (xs : List ℕ) (rest next : List ℕ) (x : ℕ) → NumbersUpTo text xs rest → Begins rest x next → NumbersUpTo text (xs ++ x ∷ []) next
up_to_more text [] rest next x e b = (next, subst (λ t. Begins t x next) (sym e) b, refl)
up_to_more text (y ∷ ys) rest next x (mid, one, h) b = (mid, one, up_to_more mid ys rest next x h b)

pub none_seen : (text before rest : List ℕ) → rest ≡ text → Seen text before rest before
none_seen text before rest e = record { numbers = []; are_in = sym e; follow = sym (append-nil before) }

pub one_more : (text before rest next after then : List ℕ) (x : ℕ) → Seen text before rest after → Begins rest x next → then ≡ after ++ x ∷ [] → Seen text before next then
one_more text before rest next after then x s b e =
    record {
      numbers = s.numbers ++ x ∷ [];
      are_in = up_to_more text s.numbers rest next x s.are_in b;
      follow = e ∙ ap (λ zs. zs ++ x ∷ []) s.follow ∙ append_assoc before s.numbers (x ∷ []);
    }

pub all_seen : (text before rest after : List ℕ) → Seen text before rest after → NoCharPasses is_not_whitespace rest → Appended text before after
all_seen text before rest after s h = record { numbers = s.numbers; rest = rest; are_in = s.are_in; no_more = h; follow = s.follow }

-- what a parse gives, whatever stands for its error
read : {E D : Type 0} (part : List ℕ) (x : ℕ) (r : Result ℕ E) (s : Result ℕ D) (Q : E → D → Type 0) → ParsesUnsigned 64 10 part r → MatchResult r (λ y. s ≡ Ok y) (λ e. IsErrAnd s (Q e)) → s ≡ Ok x
    → IsNumeral 10 (without_leading_plus part) × (digits_value 10 (without_leading_plus part) ≡ x)
read part x (Ok y) s Q p m e = (p.0.0, sym p.1 ∙ cc (m, e))
read part x (Err y) s Q p m e = absurd (rw e at m)

-- a word that is split off, and parsed
pub begun_by : {E D : Type 0} (text part rest : List ℕ) (x : ℕ) (r : Result ℕ E) (s : Result ℕ D) (Q : E → D → Type 0)
    → ((gap : List ℕ) × (text ≡ gap ++ (part ++ rest)) × (0 < length part) × NoCharPasses is_not_whitespace gap × NoCharPasses is_whitespace part × ((more : List ℕ) × EmptyOrStartsWithPassing is_whitespace rest more))
    → ParsesUnsigned 64 10 part r → MatchResult r (λ y. s ≡ Ok y) (λ e. IsErrAnd s (Q e)) → s ≡ Ok x → Begins text x rest
begun_by text part rest x r s Q h p m e =
    let n = read part x r s Q p m e in
    record { gap = h.0; part = part; splits = h.1; blank = h.3; unbroken = h.4; ended = h.5; numeral = n.0; value = n.1 }

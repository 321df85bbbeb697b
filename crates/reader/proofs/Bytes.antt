-- Bytes and words that are read one by one.
use Rattle.std.proofs.Common.{◌≡◌, ℕ, zero, suc, ◌+◌, ◌*◌, ◌<◌, List, length, get_or, refl, sym, ap, ◌∙◌, arith}
use Rattle.std.proofs.lemmas.List.{get_or_default, same_lists}
use Rattle.reader.specs.Numbers.{little, bytes_from, words}

pub length-bytes_from : (bytes : List ℕ) (at n : ℕ) → length (bytes_from bytes at n) ≡ n
length-bytes_from bytes at zero = refl
length-bytes_from bytes at (suc n) = ap suc (length-bytes_from bytes (at + 1) n)

pub get_or-bytes_from : (bytes : List ℕ) (at n k d : ℕ) → k < n → get_or (bytes_from bytes at n) k d ≡ get_or bytes (at + k) 0
get_or-bytes_from bytes at zero k d h = absurd (omega arith)
get_or-bytes_from bytes at (suc n) zero d h = ap (λ i. get_or bytes i 0) (omega arith)
get_or-bytes_from bytes at (suc n) (suc k) d h = get_or-bytes_from bytes (at + 1) n k d (omega arith) ∙ ap (λ i. get_or bytes i 0) (omega arith)

-- a list with those bytes is the part
pub cut_is : (bytes xs : List ℕ) (at n : ℕ) → length xs ≡ n → ((k : ℕ) → k < n → get_or xs k 0 ≡ get_or bytes (at + k) 0) → xs ≡ bytes_from bytes at n
cut_is bytes xs at n len each = same_lists xs (bytes_from bytes at n) (len ∙ sym (length-bytes_from bytes at n)) (λ k d h. get_or_default xs k d 0 h ∙ each k (omega arith) ∙ sym (get_or-bytes_from bytes at n k d (omega arith)))

pub length-words : (bytes : List ℕ) (at n : ℕ) → length (words bytes at n) ≡ n
length-words bytes at zero = refl
length-words bytes at (suc n) = ap suc (length-words bytes (at + 8) n)

pub get_or-words : (bytes : List ℕ) (at n k d : ℕ) → k < n → get_or (words bytes at n) k d ≡ little bytes (at + 8 * k) 8
get_or-words bytes at zero k d h = absurd (omega arith)
get_or-words bytes at (suc n) zero d h = ap (λ i. little bytes i 8) (omega arith)
get_or-words bytes at (suc n) (suc k) d h = get_or-words bytes (at + 8) n k d (omega arith) ∙ ap (λ i. little bytes i 8) (omega arith)

-- a list of those words is what they are
pub words_are : (bytes xs : List ℕ) (at n : ℕ) → length xs ≡ n → ((k : ℕ) → k < n → get_or xs k 0 ≡ little bytes (at + 8 * k) 8) → xs ≡ words bytes at n
words_are bytes xs at n len each = same_lists xs (words bytes at n) (len ∙ sym (length-words bytes at n)) (λ k d h. get_or_default xs k d 0 (omega arith) ∙ each k (omega arith) ∙ sym (get_or-words bytes at n k d (omega arith)))

-- Tests of words that come from outside.
use Rattle.std.proofs.Common.{◌≡◌, ℕ, eqb, List, refl}
use Rattle.std.proofs.lemmas.Bool.Decides.{same_from_decides, Decides-eqb}
use Rattle.std.proofs.lemmas.Slice.Eq.{slice_eq-Decides}
use lib.Pointwise.{pointwise}
use Rattle.openings.specs.Opening.{same}
use Rattle.openings.proofs.Digests.{same_decides}

-- two slices are compared word by word
pub same_words : (xs ys : List ℕ) → pointwise eqb xs ys ≡ same xs ys
same_words xs ys =
    same_from_decides (pointwise eqb xs ys) (same xs ys) (slice_eq-Decides Decides-eqb xs ys (pointwise eqb xs ys) refl) (same_decides xs ys)

-- The mappings of the two kinds, and their reverses.
use Rattle.std.specs.Prelude.{ℕ, List, codes}
use Rattle.rpo.specs.Rows.{row_12, inverse_12, row_16, inverse_16}
use Rattle.rpo.specs.Permutation.{permuted, reversed}
use Rattle.rpo.specs.Undo.{UndoBy}
use Rattle.rpo_kinds.specs.Constants.{constants_named}

-- the texts that name the round constants: p, m, c and the level of security
unfoldable pub text_128 : List ℕ
text_128 = codes "RPO(18446744069414584321,12,4,128)"

unfoldable pub text_160 : List ℕ
text_160 = codes "RPO(18446744069414584321,16,6,160)"

-- F and G of RPO-128
unfoldable pub rpo_128 : List ℕ → List ℕ
rpo_128 s = permuted row_12 (constants_named text_128 168) s

unfoldable pub rpo_128_back : List ℕ → List ℕ
rpo_128_back s = reversed inverse_12 (constants_named text_128 168) s

-- F and G of RPO-160
unfoldable pub rpo_160 : List ℕ → List ℕ
rpo_160 s = permuted row_16 (constants_named text_160 224) s

unfoldable pub rpo_160_back : List ℕ → List ℕ
rpo_160_back s = reversed inverse_16 (constants_named text_160 224) s

-- mixing and its reverse undo one another on every state of either kind
abbrev pub MixingsUndone : Type 0
MixingsUndone = UndoBy 12 rpo_128 rpo_128_back × UndoBy 16 rpo_160 rpo_160_back

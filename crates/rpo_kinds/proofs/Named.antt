-- Constants as they are named, and the kinds that they make undo themselves.
use Rattle.std.proofs.Common.{◌≡◌, ℕ, ◌*◌, List, ap, ◌∙◌}
use Rattle.field.specs.Field.{p}
use Rattle.field.specs.Primes.{Prime}
use Rattle.shake.specs.Shake.{shake256_bytes}
use Rattle.rpo.specs.Matrix.{made_by}
use Rattle.rpo.proofs.Rounds.{undo_both}
use Rattle.rpo_kinds.specs.Constants.{constant_at, constants_named, elements_named}
use Rattle.rpo_kinds.specs.Mappings.{text_128, text_160, rpo_128, rpo_128_back, rpo_160, rpo_160_back, MixingsUndone}

pub named_are : (text out words : List ℕ) (room n : ℕ) → room ≡ 9 * n → out ≡ shake256_bytes text room → words ≡ made_by (constant_at out) n → words ≡ constants_named text n
unfolding constants_named
named_are text out words room n er eo ew =
    ew ∙ ap (λ (b : List ℕ). made_by (constant_at b) n) eo ∙ ap (λ (m : ℕ). made_by (constant_at (shake256_bytes text m)) n) er

pub mixings_undone : Prime p → MixingsUndone
unfolding rpo_128 rpo_128_back rpo_160 rpo_160_back
mixings_undone pr = (
  (undo_both pr (constants_named text_128 168) (elements_named text_128 168)).0,
  (undo_both pr (constants_named text_160 224) (elements_named text_160 224)).1,
)

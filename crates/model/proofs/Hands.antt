-- What a station has in hand, and the station that keeps it.
use Rattle.std.proofs.Common.{◌≡◌, ℕ, ◌^◌, ◌<◌, ◌≤◌, List, length, Some, None, Option, sym, refl, ap, ◌∙◌, ap₂, arith}
use Rattle.std.proofs.lemmas.List.{length-append}
use Rattle.field.specs.Field.{Elements}
use Rattle.kinds.specs.Kinds.{State, Sound}
use Rattle.sponge.specs.Digests.{record_digest}
use Rattle.sponge.specs.Streams.{Stream, fed_all, begun, finished}
use Rattle.sponge.proofs.Parts.{each_append, zeros_state}
use Rattle.sponge.proofs.Feeds.{fed_append}
use Rattle.sponge.proofs.Joins.{streams_to_digests, digest_state, start_small}
use Rattle.model.specs.Histories.{Hand, nothing, holding, with_more, is_nothing, short_of}
use Rattle.model.specs.Trees.{lot_start, leaf}
use Rattle.model.specs.Lots.{busy, is_idle, lacks, fed_with}
use Rattle.model.specs.Bench.{kept}

-- a record in hand for a place of a tree
pub record FairHolding (depth place stated : ℕ) (elements : List ℕ) : Type 0 where
  pub place_low : place < 2 ^ depth
  pub stated_some : 1 ≤ stated
  pub stated_small : stated ≤ 4096
  pub fits : length elements ≤ stated
  pub each : Elements elements

abbrev pub FairHand : ℕ → Hand → Type 0
FairHand depth nothing = Unit {0}
FairHand depth (holding p n xs) = FairHolding depth p n xs

-- a whole record
pub record FairElements (elements : List ℕ) : Type 0 where
  pub some : 1 ≤ length elements
  pub small : length elements ≤ 4096
  pub each : Elements elements

abbrev pub FairRecord : Option (List ℕ) → Type 0
FairRecord None = Unit {0}
FairRecord (Some xs) = FairElements xs

pub fair_more : (depth : ℕ) (hand : Hand) (ys : List ℕ) → FairHand depth hand → Elements ys → length ys ≤ short_of hand → FairHand depth (with_more hand ys)
fair_more depth nothing ys fair each room = tt
fair_more depth (holding p n xs) ys fair each room = record {
  place_low = fair.place_low;
  stated_some = fair.stated_some;
  stated_small = fair.stated_small;
  fits = let long = length-append xs ys in let fits = fair.fits in omega arith;
  each = each_append xs ys fair.each each;
}

module _ (c w : ℕ) (F : List ℕ → List ℕ) where
  pub idle_same : (hand : Hand) → is_idle (kept c w F hand) ≡ is_nothing hand
  idle_same nothing = refl
  idle_same (holding p n xs) = refl

  pub lacks_same : (hand : Hand) → lacks (kept c w F hand) ≡ short_of hand
  lacks_same nothing = refl
  lacks_same (holding p n xs) = refl

  pub more_kept : (hand : Hand) (ys : List ℕ) → fed_with c w F (kept c w F hand) ys ≡ kept c w F (with_more hand ys)
  more_kept nothing ys = refl
  more_kept (holding p n xs) ys =
      ap₂ (λ (g : ℕ) (s : Stream). busy p n g s) (sym (length-append xs ys)) (sym (fed_append c w F (begun c w (lot_start w n)) xs ys))

module _ {n c w : ℕ} {F : List ℕ → List ℕ} (sound : Sound n c w F) where
  -- a record that has its stated length comes to its leaf
  pub leaf_finished : (m : ℕ) (xs : List ℕ) → length xs ≡ m → Elements xs → finished c w F (fed_all c w F (begun c w (lot_start w m)) xs) ≡ leaf c w F (Some xs)
  leaf_finished m xs full each =
      streams_to_digests sound (lot_start w m) xs (start_small w m) each ∙ ap (λ (k : ℕ). record_digest c w F (lot_start w k) xs) (sym full)

  pub leaf_state : (r : Option (List ℕ)) → FairRecord r → State w (leaf c w F r)
  leaf_state None fair = zeros_state w
  leaf_state (Some xs) fair = digest_state sound xs fair.each

-- What stands of a lot and its bench between calls, and the changes that keep it.
use Rattle.std.proofs.Common.{◌≡◌, ℕ, ◌^◌, ◌<◌, ◌≤◌, cond, eqb, List, length, set, replicate, Some, None, Option, refl, ◌∙◌, arith}
use Rattle.std.proofs.lemmas.List.{length-set, length-replicate}
use Rattle.kinds.specs.Kinds.{Sound}
use Rattle.model.specs.Histories.{Hand, nothing, holding, short_of, sealed_from}
use Rattle.model.specs.Trees.{leaf}
use Rattle.model.specs.Lots.{Station, idle, Lot, newly_made, station_at, leaf_at, with_station, sealed_into}
use Rattle.model.specs.Bench.{Bench, kept, Keeps}
use Rattle.model.proofs.Puts.{all_same, put_shown, put_holds}
use Rattle.model.proofs.Hands.{FairHand, FairRecord, leaf_finished}

module _ (c w : ℕ) (F : List ℕ → List ℕ) where
  -- the lot keeps the bench, past the last place too, and what is in hand and sealed is fair
  pub record Stands (b : Bench) (l : Lot) : Type 0 where
    pub depth_same : l.depth ≡ b.depth
    pub depth_small : b.depth ≤ 8
    pub leaves_long : length l.leaves ≡ 2 ^ b.depth
    pub stations_long : length l.stations ≡ 8
    pub leaf_kept : (p : ℕ) → leaf_at w l.leaves p ≡ leaf c w F (b.records p)
    pub hand_kept : (s : ℕ) → station_at l s ≡ kept c w F (b.hands s)
    pub hands_fair : (s : ℕ) → FairHand b.depth (b.hands s)
    pub records_fair : (p : ℕ) → FairRecord (b.records p)

  pub keeps : (b : Bench) (l : Lot) → Stands b l → Keeps c w F b l
  keeps b l now = record {
    depth_same = now.depth_same;
    leaves_long = now.leaves_long;
    leaf_kept = now.leaf_kept;
    hand_kept = now.hand_kept;
  }

  -- the bench of a newly made lot
  pub new_stands : (d : ℕ) → d ≤ 8 → Stands (record { depth = d; records = λ p. None; hands = λ s. nothing }) (newly_made w d)
  new_stands d small = record {
    depth_same = refl;
    depth_small = small;
    leaves_long = length-replicate (2 ^ d) (replicate w 0);
    stations_long = refl;
    leaf_kept = λ p. all_same (2 ^ d) p (replicate w 0);
    hand_kept = λ s. all_same 8 s idle;
    hands_fair = λ s. tt;
    records_fair = λ p. tt;
  }

  module _ (b : Bench) (l : Lot) (now : Stands b l) where
    -- a station is put as the hand there changes
    pub hand_put : (s : ℕ) (v : Station) (change : Hand → Hand) → s < 8 → v ≡ kept c w F (change (b.hands s)) → FairHand b.depth (change (b.hands s)) → Stands (record { depth = b.depth; records = b.records; hands = λ t. cond (eqb s t) (change (b.hands t)) (b.hands t) }) (with_station l s v)
    hand_put s v change low new fair = record {
      depth_same = now.depth_same;
      depth_small = now.depth_small;
      leaves_long = now.leaves_long;
      stations_long = length-set l.stations s v ∙ now.stations_long;
      leaf_kept = now.leaf_kept;
      hand_kept = put_shown b.hands change s (kept c w F) l.stations v idle (let long = now.stations_long in omega arith) new now.hand_kept;
      hands_fair = put_holds b.hands change s (FairHand b.depth) fair now.hands_fair;
      records_fair = now.records_fair;
    }

    pub hand_emptied : (s : ℕ) → s < 8 → Stands (record { depth = b.depth; records = b.records; hands = λ t. cond (eqb s t) nothing (b.hands t) }) (with_station l s idle)
    hand_emptied s low = hand_put s idle (λ _. nothing) low refl tt

    -- a leaf is put as the record of its place changes
    pub leaf_put : (p : ℕ) (v : List ℕ) (r : Option (List ℕ)) → p < 2 ^ b.depth → v ≡ leaf c w F r → FairRecord r → Stands (record { depth = b.depth; records = λ q. cond (eqb p q) r (b.records q); hands = b.hands }) (record { depth = l.depth; leaves = set l.leaves p v; stations = l.stations })
    leaf_put p v r low new fair =
        let change : Option (List ℕ) → Option (List ℕ) = λ _. r in
        record {
          depth_same = now.depth_same;
          depth_small = now.depth_small;
          leaves_long = length-set l.leaves p v ∙ now.leaves_long;
          stations_long = now.stations_long;
          leaf_kept = put_shown b.records change p (leaf c w F) l.leaves v (replicate w 0) (let long = now.leaves_long in omega arith) new now.leaf_kept;
          hand_kept = now.hand_kept;
          hands_fair = now.hands_fair;
          records_fair = put_holds b.records change p FairRecord fair now.records_fair;
        }

    -- a record in hand that has its stated length is sealed
    pub hand_sealed : {n : ℕ} → Sound n c w F → (hand : Hand) → FairHand b.depth hand → short_of hand ≤ 0 → Stands (record { depth = b.depth; records = λ p. sealed_from hand p (b.records p); hands = b.hands }) (record { depth = l.depth; leaves = sealed_into c w F l.leaves (kept c w F hand); stations = l.stations })
    hand_sealed sound nothing fair none = now
    hand_sealed sound (holding p m xs) fair none =
        let full : length xs ≡ m = let fits = fair.fits in omega arith in
        leaf_put p _ (Some xs) fair.place_low (leaf_finished sound m xs full fair.each)
        (record { some = let some = fair.stated_some in omega arith; small = let small = fair.stated_small in omega arith; each = fair.each })

-- The promise of order, over whole runs: what stations do, and when, reaches a root or a path by the last records alone.
use Rattle.std.specs.Prelude.{◌≡◌, ℕ, ◌^◌, ◌<◌, ◌≤◌, Bool, true, false, List}
use Rattle.std.specs.List.{AllByRecursion}
use Rattle.model.specs.Calls.{Call, making, begin, feed, feed_eight, seal, abandon, clear, root}
use Rattle.model.specs.Histories.{last_record}
use Rattle.model.specs.Lots.{Lot, step, lot_after, history_of}
use Rattle.model.specs.Closed.{closed, closed_root_call, open_call}

-- whether a call makes the lot anew
abbrev pub makes : Call → Bool
makes (making d) = true
makes (begin s p n) = false
makes (feed s x) = false
makes (feed_eight s xs) = false
makes (seal s) = false
makes (abandon s) = false
makes (clear p) = false
makes (root b) = false

-- calls of which none does
abbrev pub NoMakings : List Call → Type 0
NoMakings ks = AllByRecursion (λ k. makes k ≡ false) ks

module _ (c w : ℕ) (F : List ℕ → List ℕ) where
  -- root, and root and open once closed, answer and write the same for two lots, for any place and any buffer
  pub record Alike (l m : Lot) : Type 0 where
    pub root_answers : (out : List ℕ) → (step c w F l (root out)).1 ≡ (step c w F m (root out)).1
    pub roots_left : (out : List ℕ) → (step c w F l (root out)).2 ≡ (step c w F m (root out)).2
    pub closed_roots : (out : List ℕ) → closed_root_call w (closed c w F l) out ≡ closed_root_call w (closed c w F m) out
    pub openings : (place : ℕ) (out : List ℕ) → open_call w (closed c w F l) place out ≡ open_call w (closed c w F m) place out

  -- two lots newly made with one depth, each after its own calls, granted or denied: they are alike where each place has
  -- the same last record in both
  abbrev pub Order : Type 0
  Order = (d : ℕ) (ks js : List Call) → d ≤ 8 → NoMakings ks → NoMakings js →
      ((p : ℕ) → p < 2 ^ d → last_record (history_of c w F d ks) p ≡ last_record (history_of c w F d js) p) →
      Alike (lot_after c w F d ks) (lot_after c w F d js)

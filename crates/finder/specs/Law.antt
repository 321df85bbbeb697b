-- What the finder promises, over a kind with capacity size c, digest size w and mapping F: it shows a clash exactly where
-- two openings that differ are both accepted, and what it shows is a clash.
use Rattle.std.specs.Prelude.{◌≡◌, ℕ, ◌+◌, ◌*◌, ◌<◌, ◌≤◌, Bool, true, false, ◌≢◌, List, ◌++◌, length, replicate, Some, None, Option}
use Rattle.kinds.specs.Kinds.{State}
use Rattle.kinds.specs.Answers.{Answer, granted, denied}
use Rattle.model.specs.Trees.{leaf}
use Rattle.openings.specs.Opening.{Pair, flat, hash_of, pair_at}
use Rattle.openings.specs.Checks.{check_call}
use Rattle.finder.specs.Findings.{Shown, pairs, records, zero_record, nothing, find_call}

-- from a level up to the root the pairs are alike
abbrev pub AlikeFrom : ℕ → ℕ → (ℕ → Pair) → (ℕ → Pair) → Type 0
AlikeFrom low depth pair1 pair2 = (level : ℕ) → low ≤ level → level < depth → pair1 level ≡ pair2 level

-- two digests of w elements
abbrev pub Digests : ℕ → Pair → Type 0
Digests w p = State w p.0 × State w p.1

-- the one record of two claims: the second's or the first's
abbrev pub Lone : Bool → Option (List ℕ) → Option (List ℕ) → List ℕ → Type 0
Lone true claim1 claim2 xs = (claim1 ≡ None) × (claim2 ≡ Some xs)
Lone false claim1 claim2 xs = (claim1 ≡ Some xs) × (claim2 ≡ None)

module _ (c w : ℕ) (F : List ℕ → List ℕ) where
  -- two different pairs of digests with one hash, the pairs above them alike; both stand in the buffer
  pub record PairsClash (depth level : ℕ) (pair1 pair2 : ℕ → Pair) (written : List ℕ) : Type 0 where
    pub within : level < depth
    pub first_digests : Digests w (pair1 level)
    pub second_digests : Digests w (pair2 level)
    pub differ : pair1 level ≢ pair2 level
    pub one_hash : hash_of c w F (pair1 level) ≡ hash_of c w F (pair2 level)
    pub both_written : written ≡ flat (pair1 level) ++ flat (pair2 level)
    pub alike_above : AlikeFrom (level + 1) depth pair1 pair2

  -- two different records with one digest
  pub record RecordsClash (claim1 claim2 : Option (List ℕ)) : Type 0 where
    pub first : List ℕ
    pub second : List ℕ
    pub first_claimed : claim1 ≡ Some first
    pub second_claimed : claim2 ≡ Some second
    pub differ : first ≢ second
    pub one_digest : leaf c w F (Some first) ≡ leaf c w F (Some second)

  -- a record whose digest is all zeros
  pub record ZeroClash (second : Bool) (claim1 claim2 : Option (List ℕ)) : Type 0 where
    pub one : List ℕ
    pub claimed : Lone second claim1 claim2 one
    pub zeros : leaf c w F (Some one) ≡ replicate w 0

  -- what is shown is there, where the first opening hashes pair1 and the second pair2. Where records or a zero record are
  -- shown, all pairs are alike; unless pairs are shown, the buffer is untouched
  abbrev pub Real : ℕ → (ℕ → Pair) → (ℕ → Pair) → Option (List ℕ) → Option (List ℕ) → List ℕ → List ℕ → Shown → Type 0
  Real depth pair1 pair2 claim1 claim2 out written (pairs level) = PairsClash depth level pair1 pair2 written
  Real depth pair1 pair2 claim1 claim2 out written records = RecordsClash claim1 claim2 × AlikeFrom 0 depth pair1 pair2 × (written ≡ out)
  Real depth pair1 pair2 claim1 claim2 out written (zero_record second) = ZeroClash second claim1 claim2 × AlikeFrom 0 depth pair1 pair2 × (written ≡ out)
  Real depth pair1 pair2 claim1 claim2 out written nothing = written ≡ out

  -- the check accepts both openings, and they differ in claim or path
  pub record BothAccepted (root : List ℕ) (depth place : ℕ) (claim1 : Option (List ℕ)) (path1 : List ℕ) (claim2 : Option (List ℕ)) (path2 : List ℕ) : Type 0 where
    pub first : (check_call c w F root depth place claim1 path1).1 ≡ true
    pub second : (check_call c w F root depth place claim2 path2).1 ≡ true
    pub differ : ((claim1 ≡ claim2) × (path1 ≡ path2)) → ⊥

  -- what is promised of a call of the finder, whatever it is handed: nothing is assumed but that the buffer has its size,
  -- where a clash must be shown
  pub record Finds (root : List ℕ) (depth place : ℕ) (claim1 : Option (List ℕ)) (path1 : List ℕ) (claim2 : Option (List ℕ)) (path2 out : List ℕ) (call : Answer × Shown × List ℕ) : Type 0 where
    pub only : call.1 ≢ nothing → BothAccepted root depth place claim1 path1 claim2 path2
    pub always : BothAccepted root depth place claim1 path1 claim2 path2 → length out ≡ 4 * w → call.1 ≢ nothing
    pub real : Real depth (pair_at c w F place (leaf c w F claim1) path1) (pair_at c w F place (leaf c w F claim2) path2) claim1 claim2 out call.2 call.1
    pub when_granted : call.0 ≡ granted → call.1 ≢ nothing
    pub when_denied : (n : ℕ) (vs : List ℕ) → call.0 ≡ denied n vs → call.1 ≡ nothing

  -- so for every call of the finder
  abbrev pub ClashLaw : Type 0
  ClashLaw =
      (root : List ℕ) (depth place : ℕ) (claim1 : Option (List ℕ)) (path1 : List ℕ) (claim2 : Option (List ℕ)) (path2 out : List ℕ) →
      Finds root depth place claim1 path1 claim2 path2 out (find_call c w F root depth place claim1 path1 claim2 path2 out)

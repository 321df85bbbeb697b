-- The promises of the product, for every kind with capacity size c, digest size w and mapping F.
use Rattle.std.specs.Prelude.{◌≡◌, ℕ, ◌*◌, ◌^◌, ◌<◌, Bool, true, List, length}
use Rattle.kinds.specs.Answers.{Answer, granted}
use Rattle.model.specs.Calls.{History}
use Rattle.model.specs.Histories.{last_record}
use Rattle.model.specs.Lots.{Lot}
use Rattle.model.specs.Closed.{closed, closed_root_call, open_call}
use Rattle.model.specs.Laws.{AfterAny}
use Rattle.model.specs.Promises.{Order}
use Rattle.openings.specs.Checks.{check_call}
use Rattle.finder.specs.Law.{ClashLaw}

module _ (c w : ℕ) (F : List ℕ → List ℕ) where
  -- the lot once closed opens the place; and under the root that it writes, the check accepts the path that it writes, with
  -- the last record of the place, or nothing, as the claim
  pub record Opens (l : Lot) (h : History) (place : ℕ) (out top : List ℕ) : Type 0 where
    pub root_granted : (closed_root_call w (closed c w F l) top).0 ≡ granted
    pub open_granted : (open_call w (closed c w F l) place out).0 ≡ granted
    pub accepted : ◌≡◌ {A = Answer × Bool} (check_call c w F (closed_root_call w (closed c w F l) top).1 l.depth place (last_record h place) (open_call w (closed c w F l) place out).1) (granted, true)

  -- after any calls, makings among them, at each place and with buffers of the right lengths
  abbrev pub Opened : Type 0
  Opened = AfterAny c w F (λ d l h. (place : ℕ) (out top : List ℕ) → place < 2 ^ l.depth → length out ≡ l.depth * w → length top ≡ w → Opens l h place out top)

  pub record Promises : Type 0 where
    pub order : Order c w F
    pub clash : ClashLaw c w F
    pub opened : Opened

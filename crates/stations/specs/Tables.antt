-- Eight stations in a table, and a call at one of them.
use Rattle.std.specs.Prelude.{ℕ, List, map, slice_index_or, slice_set}
use Rattle.kinds.specs.Answers.{Answer}
use Rattle.model.specs.Lots.{Station, idle}
use Rattle.stations.specs.declared.table.Stations.{Stations}
use Rattle.stations.specs.Machine.{shown}

-- the model's stations that the program's show under a kind
abbrev pub all_shown : ℕ → ℕ → Stations → List Station
all_shown c w t = map (shown c w) t.table

-- the stations after a call at station i, and the answer
abbrev pub at_one : List Station → ℕ → (Station → Station × Answer) → List Station × Answer
at_one hs i f = (slice_set hs i (f (slice_index_or hs i idle)).0, (f (slice_index_or hs i idle)).1)

-- What the program's station shows of the model's one, and what a call at one station answers and leaves.
use Rattle.std.specs.Prelude.{◌≡◌, ℕ, not, List, [], ◌∷◌, length, nat_lt, slice_set}
use Rattle.kinds.specs.Answers.{Answer, Cause, answer, if_granted}
use Rattle.kinds.specs.Words.{not_elements}
use Rattle.sponge.specs.Calls.{bad_length}
use Rattle.model.specs.Lots.{Station, idle, is_idle, lacks, begun_for, fed_with, sealed_into}
use Rattle.stations.specs.Phases.{shown_in}
use Rattle.stations.specs.declared.station.Station as program

-- what the program's station shows under a kind
abbrev pub shown : ℕ → ℕ → program.Station → Station
shown c w s = shown_in c w s.phase

-- a station after a call with these causes of refusal, which leaves `new` where it is granted; and the answer
abbrev pub called : List Cause → Station → Station → Station × Answer
called causes new h = (if_granted (answer causes) new h, answer causes)

-- refusals 4, 5
abbrev pub begin_causes : Station → ℕ → List Cause
begin_causes h n = bad_length n ∷ (not (is_idle h), 5, []) ∷ []

-- begin for a record of n elements at place p
abbrev pub begin_step : ℕ → ℕ → (List ℕ → List ℕ) → ℕ → ℕ → Station → Station × Answer
begin_step c w F p n h = called (begin_causes h n) (begun_for c w F p n) h

-- refusals 6, 7, 8
abbrev pub feed_causes : Station → List ℕ → List Cause
feed_causes h xs = (is_idle h, 6, []) ∷ not_elements xs ∷ (nat_lt (lacks h) (length xs), 8, []) ∷ []

-- feed, of one element or eight
abbrev pub feed_step : ℕ → ℕ → (List ℕ → List ℕ) → List ℕ → Station → Station × Answer
feed_step c w F xs h = called (feed_causes h xs) (fed_with c w F h xs) h

-- refusals 6, 9
abbrev pub seal_causes : Station → List Cause
seal_causes h = (is_idle h, 6, []) ∷ (nat_lt 0 (lacks h), 9, []) ∷ []

-- seal; the record's digest goes into the leaves (`sealed_into`)
abbrev pub seal_step : Station → Station × Answer
seal_step h = called (seal_causes h) idle h

-- refusal 6
abbrev pub abandon_causes : Station → List Cause
abandon_causes h = (is_idle h, 6, []) ∷ []

-- abandon, whether filling or full
abbrev pub abandon_step : Station → Station × Answer
abandon_step h = called (abandon_causes h) idle h

-- sealing the station puts the digest d at place p
abbrev pub Sealed : ℕ → ℕ → (List ℕ → List ℕ) → Station → ℕ → List ℕ → Type 0
Sealed c w F h p d = (ls : List (List ℕ)) → sealed_into c w F ls h ≡ slice_set ls p d

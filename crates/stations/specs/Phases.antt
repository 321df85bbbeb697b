-- What a station's phase shows of the model's station.
use Rattle.std.specs.Prelude.{ℕ, Bool, true, nat_lt, nat_le}
use Rattle.sponge.specs.Streams.{held}
use Rattle.model.specs.Lots.{Station, idle, busy}
use Rattle.stations.specs.declared.phase.Phase.{Phase}
use Rattle.stations.specs.declared.phase.Phase.TheVariants as phase
use Rattle.stations.specs.declared.record.Record.{Record}

-- the model's station that has this record in hand
abbrev pub busy_with : ℕ → ℕ → Record → Station
busy_with c w r = busy r.place r.length r.got (held c w r.sponge)

-- the model's station in a phase
abbrev pub shown_in : ℕ → ℕ → Phase → Station
shown_in c w phase.Idle = idle
shown_in c w (phase.Filling r) = busy_with c w r
shown_in c w (phase.Full r) = busy_with c w r

-- a record that is filling lacks elements, and a full one lacks none
abbrev pub sound : Phase → Bool
sound phase.Idle = true
sound (phase.Filling r) = nat_lt r.got r.length
sound (phase.Full r) = nat_le r.length r.got

-- What a call at one station leaves of the eight.
use Rattle.std.proofs.Common.{◌≡◌, ℕ, ◌<◌, List, length, get_or, set, sym, ap, ◌∙◌}
use Rattle.std.proofs.lemmas.List.{map-set, get_or-map}
use Rattle.kinds.specs.Answers.{Answer}
use Rattle.model.specs.Lots.{Station, idle}
use Rattle.stations.specs.declared.station.Station as program
use Rattle.stations.specs.declared.table.Stations.{Stations}
use Rattle.stations.specs.Machine.{shown}
use Rattle.stations.specs.Tables.{all_shown, at_one}

-- the stations with s' at station i, where f of the old one shows s'
pub one_called : (c w i : ℕ) (all : Stations) (d s' : program.Station) (a : Answer) {slot : ℕ} (f : Station → Station × Answer)
    → i ≡ slot → i < length all.table → ◌≡◌ {A = Station × Answer} (shown c w s', a) (f (shown c w (get_or all.table i d)))
    → ◌≡◌ {A = List Station × Answer} (all_shown c w (record { table = set all.table i s' }), a) (at_one (all_shown c w all) slot f)
one_called c w i all d s' a f same low e =
    let hs : List Station = all_shown c w all in
    rw (← same)
    (ap (λ (x : List Station). (x, a)) (map-set (shown c w) all.table i s')
    ∙ ap (λ (q : Station × Answer). (set hs i q.0, q.1)) e
    ∙ ap (λ (h : Station). (set hs i (f h).0, (f h).1)) (sym (get_or-map (shown c w) all.table i d idle low)))

-- A script's lines are those of its commands.
use Rattle.std.proofs.Common.{◌≡◌, ℕ, zero, suc, ◌+◌, ltb, Bool, true, false, cond, List, [], ◌∷◌, ◌++◌, length, Some, None, Ok, Err, Option, Result, refl, ap, ◌∙◌, ap₂, add-one}
use Rattle.std.proofs.lemmas.Bool.{false≢true, cond_both}
use Rattle.std.specs.List.{concat}
use Rattle.kinds.specs.declared.denial.Denial.{Denial}
use Rattle.kinds.specs.declared.denial.Denial.TheVariants as denial
use Rattle.reader.specs.declared.orders.Order.{Order}
use Rattle.reader.specs.declared.orders.Order.TheVariants as order
use Rattle.reader.specs.declared.verbs.Verb.{Verb}
use Rattle.reader.specs.declared.verbs.Verb.TheVariants as verb
use Rattle.reader.specs.declared.phases.Phase.{Phase}
use Rattle.reader.specs.declared.phases.Phase.TheVariants as phase
use Rattle.reader.specs.declared.fault.ScriptFault.{ScriptFault}
use Rattle.reader.specs.declared.fault.ScriptFault.TheVariants as fault
use Rattle.reader.specs.Commands.{Read, Reading, read_at}
use Rattle.reader.specs.Numbers.{little}
use Rattle.reader.specs.Orders.{ordered, order_of}
use Rattle.reader.specs.Phases.{in_phase}
use Rattle.model.specs.Lots.{Lot, newly_made}
use Rattle.turns.specs.Answers.{fault_line}
use Rattle.rpo_kinds.specs.Names.{name_of}
use Rattle.rpo_kinds.specs.declared.names.KindName.{KindName}
use Rattle.script.specs.Stages.{digest_size, new_lot, named_lot, started_as, started, Stage, before, filling, closed, ended, phase_in, start_with, act}
use Rattle.script.specs.Runs.{fresh, phased, next_in, next_command, turn}
use Rattle.transcript.specs.Transcripts.{with_line, lines_from, transcript}
use Rattle.transcript.specs.Commands.{Asked, phase_started, phase_behind, with_command, commands_from, commands}
use Rattle.transcript.specs.Lots.{started_by, lot_line, line_behind, lines_behind, LinesOfCommands}
use Rattle.transcript.proofs.Lots.{made_stage, acted_made}

-- the stage behind commands
abbrev stage_of : Result (KindName × Lot) ScriptFault → List Asked → Stage
stage_of (Err f) done = ended
stage_of (Ok l) done = made_stage l.0 l.1.depth done

abbrev stage_behind : List Asked → Stage
stage_behind [] = before
stage_behind (first ∷ done) = stage_of (started_by first) done

-- a start leaves what the first command made
New : Result (KindName × Lot) ScriptFault → Type 0
New r = (at : ℕ) → (start_with r at).0 ≡ stage_of r []

new_named : (kind : KindName) (d : ℕ) → New (named_lot kind (new_lot (digest_size kind) d))
unfolding New
new_named kind d =
    cond_both {A = Result Lot Denial} (ltb 8 d) (Err denial.DepthTooLarge) (Ok (newly_made (digest_size kind) d)) (λ r. New (named_lot kind r))
    (λ e at. refl)
    (λ e at. refl)

new_started : (name : Option KindName) (d at : ℕ) → New (started_as name d at)
unfolding New
new_started None d at = λ n. refl
new_started (Some kind) d at = new_named kind d

-- what a command in its phase leaves, and its line
abbrev Acted : List Asked → Order → ℕ → Type 0
Acted done o at = ◌≡◌ {A = Stage × List ℕ} (act (stage_behind done) o at) (stage_behind (done ++ (Ok o, at) ∷ []), line_behind done (Ok o, at))

acted_start : (k d at : ℕ) → Acted [] (order.Start k d) at
unfolding act New
acted_start k d at = ap (λ (s : Stage). (s, (start_with (started k d at) at).1)) (new_started (name_of k) d at at)

acted_first : (v : Verb) (bytes : List ℕ) (at : ℕ) → in_phase phase.Before v ≡ true → Acted [] (ordered v bytes) at
acted_first verb.Start bytes at i = acted_start (little bytes 0 1) (little bytes 1 1) at
acted_first v bytes at i = absurd (false≢true i)

acted_more : (r : Result (KindName × Lot) ScriptFault) (done : List Asked) (p : Phase) (v : Verb) (bytes : List ℕ) (at : ℕ) → phase_in (stage_of r done) ≡ Some p → in_phase p v ≡ true
    → ◌≡◌ {A = Stage × List ℕ} (act (stage_of r done) (ordered v bytes) at) (stage_of r (done ++ (Ok (ordered v bytes), at) ∷ []), lot_line r done (Ok (ordered v bytes), at))
acted_more (Err f) done p v bytes at h i = absurd cc
acted_more (Ok l) done p v bytes at h i = acted_made l.0 l.1.depth done p v bytes at h i

acted : (done : List Asked) (p : Phase) (v : Verb) (bytes : List ℕ) (at : ℕ) → phase_in (stage_behind done) ≡ Some p → in_phase p v ≡ true → Acted done (ordered v bytes) at
acted [] p v bytes at h i =
    let is : phase.Before ≡ p = cc h in
    acted_first v bytes at (rw (← is) at i)
acted (first ∷ done) p v bytes at h i = acted_more (started_by first) done p v bytes at h i

-- the line of a fault is its own
fault_told : (r : Result (KindName × Lot) ScriptFault) (done : List Asked) (p : Phase) (f : ScriptFault) (at : ℕ) → phase_in (stage_of r done) ≡ Some p → fault_line f at ≡ lot_line r done (Err f, at)
fault_told (Err g) done p f at h = absurd cc
fault_told (Ok l) done p f at h = refl

fault_behind : (done : List Asked) (p : Phase) (f : ScriptFault) (at : ℕ) → phase_in (stage_behind done) ≡ Some p → fault_line f at ≡ line_behind done (Err f, at)
fault_behind [] p f at h = refl
fault_behind (first ∷ done) p f at h = fault_told (started_by first) done p f at h

-- the phase behind a command is that of the stage
phase_made : (r : Result (KindName × Lot) ScriptFault) (at : ℕ) → phase_in (start_with r at).0 ≡ phase_started r
phase_made (Ok l) at = refl
phase_made (Err f) at = refl

phase_first : (v : Verb) (bytes : List ℕ) (at : ℕ) → in_phase phase.Before v ≡ true → phase_in (act before (ordered v bytes) at).0 ≡ phase_behind phase.Before (ordered v bytes) at
unfolding act
phase_first verb.Start bytes at i = phase_made _ at
phase_first v bytes at i = absurd (false≢true i)

phase_filling : (l : KindName × Lot) (v : Verb) (bytes : List ℕ) (at : ℕ) → in_phase phase.Filling v ≡ true
    → phase_in (act (filling l) (ordered v bytes) at).0 ≡ phase_behind phase.Filling (ordered v bytes) at
unfolding act
phase_filling l verb.Start bytes at i = absurd (false≢true i)
phase_filling l verb.Open bytes at i = absurd (false≢true i)
phase_filling l v bytes at i = refl

-- of any command in its phase
pub phase_acted : (s : Stage) (p : Phase) (v : Verb) (bytes : List ℕ) (at : ℕ) → phase_in s ≡ Some p → in_phase p v ≡ true
    → phase_in (act s (ordered v bytes) at).0 ≡ phase_behind p (ordered v bytes) at
unfolding act
phase_acted before p v bytes at h i =
    let is : phase.Before ≡ p = cc h in
    rw (← is) (phase_first v bytes at (rw (← is) at i))
phase_acted (filling l) p v bytes at h i =
    let is : phase.Filling ≡ p = cc h in
    rw (← is) (phase_filling l v bytes at (rw (← is) at i))
phase_acted (closed l) p v bytes at h i =
    let is : phase.Closed ≡ p = cc h in
    rw (← is) (phase_closed v (rw (← is) at i))
  where
    phase_closed : (v : Verb) → in_phase phase.Closed v ≡ true → phase_in (act (closed l) (ordered v bytes) at).0 ≡ phase_behind phase.Closed (ordered v bytes) at
    phase_closed verb.Root i = refl
    phase_closed verb.Open i = refl
    phase_closed v i = absurd (false≢true i)
phase_acted ended p v bytes at h i = absurd cc

-- behind a fault there is no line
none_left : (script : List ℕ) (n at : ℕ) → lines_from n (record { script = script; at = at; stage = ended }) ≡ []
unfolding next_command
none_left script zero at = refl
none_left script (suc n) at = refl

module _ (script : List ℕ) (short : ltb 65536 (length script) ≡ false) where
  abbrev Lines : ℕ → Type 0
  Lines n = (done : List Asked) (s : Stage) (at : ℕ) → s ≡ stage_behind done
      → lines_from n (record { script = script; at = at; stage = s }) ≡ concat (lines_behind done (commands_from script n (phase_in s) at))

  after_fault : (n : ℕ) (done : List Asked) (s : Stage) (p : Phase) (at : ℕ) (f : ScriptFault) → s ≡ stage_behind done → phase_in s ≡ Some p →
      fault_line f at ++ lines_from n (record { script = script; at = at; stage = ended }) ≡ line_behind done (Err f, at) ++ []
  after_fault n done s p at f is h = ap₂ (λ (xs ys : List ℕ). xs ++ ys) (fault_behind done p f at (rw (is) at h)) (none_left script n at)

  after_read : (n : ℕ) → Lines n → (done : List Asked) (s : Stage) (p : Phase) (at : ℕ) (x : Read × ℕ) (t : Bool) → s ≡ stage_behind done → phase_in s ≡ Some p → in_phase p x.0.verb ≡ t
      → with_line (Some (cond t (Ok x) (Err (fault.OutOfPhase at)))) (record { script = script; at = at; stage = s }) (lines_from n)
      ≡ concat (lines_behind done (with_command (Some (cond t (Ok x) (Err (fault.OutOfPhase at)))) at (λ o next. commands_from script n (phase_behind p o at) next)))
  unfolding turn
  after_read n more done s p at x false is h i = after_fault n done s p at (fault.OutOfPhase at) is h
  after_read n more done s p at x true is h i =
      let o = order_of x.0 in
      let told : ◌≡◌ {A = Stage × List ℕ} (act s o at) (stage_behind (done ++ (Ok o, at) ∷ []), line_behind done (Ok o, at)) = rw is (acted done p x.0.verb x.0.operands at (rw (is) at h) i) in
      let rest = more (done ++ (Ok o, at) ∷ []) (act s o at).0 x.1 (ap (λ (y : Stage × List ℕ). y.0) told) in
      ap₂ (λ (xs ys : List ℕ). xs ++ ys) (ap (λ (y : Stage × List ℕ). y.1) told)
      (rest ∙ ap (λ q. concat (lines_behind (done ++ (Ok o, at) ∷ []) (commands_from script n q x.1))) (phase_acted s p x.0.verb x.0.operands at h i))

  after_reading : (n : ℕ) → Lines n → (done : List Asked) (s : Stage) (p : Phase) (at : ℕ) (x : Option Reading) → s ≡ stage_behind done → phase_in s ≡ Some p
      → with_line (phased p at x) (record { script = script; at = at; stage = s }) (lines_from n)
      ≡ concat (lines_behind done (with_command (phased p at x) at (λ o next. commands_from script n (phase_behind p o at) next)))
  unfolding turn
  after_reading n more done s p at None is h = refl
  after_reading n more done s p at (Some (Err f)) is h = after_fault n done s p at f is h
  after_reading n more done s p at (Some (Ok x)) is h = after_read n more done s p at x (in_phase p x.0.verb) is h refl

  in_phase_of : (n : ℕ) → Lines n → (done : List Asked) (s : Stage) (at : ℕ) (q : Option Phase) → s ≡ stage_behind done → phase_in s ≡ q
      → with_line (next_in q (record { script = script; at = at; stage = s })) (record { script = script; at = at; stage = s }) (lines_from n)
      ≡ concat (lines_behind done (commands_from script (suc n) q at))
  in_phase_of n more done s at None is h = refl
  in_phase_of n more done s at (Some p) is h = rw short (after_reading n more done s p at (read_at script at) is h)

  all_lines : (n : ℕ) → Lines n
  unfolding next_command
  all_lines zero done s at is = refl
  all_lines (suc n) done s at is = in_phase_of n (all_lines n) done s at (phase_in s) is refl

too_long : (script : List ℕ) (n : ℕ) → ltb 65536 (length script) ≡ true → lines_from (suc n) (fresh script) ≡ fault_line fault.TooLong 0 ++ []
unfolding next_command turn
too_long script n e = rw e (ap (λ xs. fault_line fault.TooLong 0 ++ xs) (none_left script n 0))

pub lines_of_commands : LinesOfCommands
unfolding transcript commands
lines_of_commands script = by_length (ltb 65536 (length script)) refl
  where
    by_length : (t : Bool) → ltb 65536 (length script) ≡ t → transcript script ≡ concat (lines_behind [] (commands script))
    by_length true e = rw (e, add-one) (too_long script (length script) e)
    by_length false e = rw e (all_lines script e (length script + 1) [] before 0 refl)

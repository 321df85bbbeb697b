-- The lot behind one command more.
use Rattle.std.proofs.Common.{◌≡◌, ℕ, Bool, true, false, cond, List, [], ◌∷◌, ◌++◌, Some, Ok, Option, sym, refl, ap, ◌∙◌, ap₂}
use Rattle.std.proofs.lemmas.Bool.{true≢false, false≢true}
use Rattle.std.proofs.lemmas.List.{append_assoc}
use Rattle.kinds.specs.Answers.{Answer, granted, denied, if_granted}
use Rattle.reader.specs.declared.orders.Order.{Order}
use Rattle.reader.specs.declared.orders.Order.TheVariants as order
use Rattle.reader.specs.declared.verbs.Verb.{Verb}
use Rattle.reader.specs.declared.verbs.Verb.TheVariants as verb
use Rattle.reader.specs.declared.phases.Phase.{Phase}
use Rattle.reader.specs.declared.phases.Phase.TheVariants as phase
use Rattle.reader.specs.Orders.{ordered}
use Rattle.reader.specs.Phases.{in_phase}
use Rattle.model.specs.Calls.{Call, History}
use Rattle.model.specs.Lots.{Lot, newly_made, step, run, lot_after}
use Rattle.turns.specs.Turns.{filled}
use Rattle.rpo_kinds.specs.declared.names.KindName.{KindName}
use Rattle.script.specs.Stages.{capacity_size, digest_size, mixing, any_closed, Stage, filling, closed, phase_in, act}
use Rattle.transcript.specs.Commands.{Asked}
use Rattle.transcript.specs.Lots.{is_close, closes, call_asked, calls_of, lot_behind, order_line}

-- a run goes on where one ends
pub run_append : (c w : ℕ) (F : List ℕ → List ℕ) (at : Lot × History) (ks js : List Call) → run c w F at (ks ++ js) ≡ run c w F (run c w F at ks) js
run_append c w F at [] js = refl
run_append c w F at (k ∷ ks) js = run_append c w F ((step c w F at.0 k).0, (k, (step c w F at.0 k).1) ∷ at.1) ks js

still_open : (t c d : Bool) → cond t true c ≡ false → (c ≡ false → d ≡ false) → cond t true d ≡ false
still_open true c d e h = absurd (true≢false e)
still_open false c d e h = h e

call_goes : (t c : Bool) (ks ys zs whole : List Call) → cond t true c ≡ false → (c ≡ false → whole ≡ ys ++ zs) → cond t [] (ks ++ whole) ≡ cond t [] (ks ++ ys) ++ zs
call_goes true c ks ys zs whole e h = absurd (true≢false e)
call_goes false c ks ys zs whole e h = ap (λ js. ks ++ js) (h e) ∙ sym (append_assoc ks ys zs)

call_stays : (t c : Bool) (ks ys whole : List Call) → cond t true c ≡ true → (c ≡ true → whole ≡ ys) → cond t [] (ks ++ whole) ≡ cond t [] (ks ++ ys)
call_stays true c ks ys whole e h = refl
call_stays false c ks ys whole e h = ap (λ js. ks ++ js) (h e)

close_goes : (t c d x : Bool) → cond t true c ≡ false → (c ≡ false → d ≡ x) → cond t true d ≡ x
close_goes true c d x e h = absurd (true≢false e)
close_goes false c d x e h = h e

close_stays : (t c d : Bool) → cond t true c ≡ true → (c ≡ true → d ≡ true) → cond t true d ≡ true
close_stays true c d e h = refl
close_stays false c d e h = h e

-- before the close, one command more adds its calls
calls_go : (w : ℕ) (xs : List Asked) (a : Asked) → closes xs ≡ false → calls_of w (xs ++ a ∷ []) ≡ calls_of w xs ++ calls_of w (a ∷ [])
calls_go w [] a e = refl
calls_go w (b ∷ xs) a e = call_goes (is_close b.0) (closes xs) (call_asked w b.0) (calls_of w xs) (calls_of w (a ∷ [])) (calls_of w (xs ++ a ∷ [])) e (calls_go w xs a)

closes_goes : (xs : List Asked) (a : Asked) → closes xs ≡ false → closes (xs ++ a ∷ []) ≡ closes (a ∷ [])
closes_goes [] a e = refl
closes_goes (b ∷ xs) a e = close_goes (is_close b.0) (closes xs) (closes (xs ++ a ∷ [])) (closes (a ∷ [])) e (closes_goes xs a)

-- behind the close, none
calls_stay : (w : ℕ) (xs : List Asked) (a : Asked) → closes xs ≡ true → calls_of w (xs ++ a ∷ []) ≡ calls_of w xs
calls_stay w [] a e = absurd (false≢true e)
calls_stay w (b ∷ xs) a e = call_stays (is_close b.0) (closes xs) (call_asked w b.0) (calls_of w xs) (calls_of w (xs ++ a ∷ [])) e (calls_stay w xs a)

closes_stays : (xs : List Asked) (a : Asked) → closes xs ≡ true → closes (xs ++ a ∷ []) ≡ true
closes_stays [] a e = absurd (false≢true e)
closes_stays (b ∷ xs) a e = close_stays (is_close b.0) (closes xs) (closes (xs ++ a ∷ [])) e (closes_stays xs a)

either_way : (a : Answer) (l : Lot) → if_granted a l l ≡ l
either_way granted l = refl
either_way (denied n vs) l = refl

-- the stage behind commands, of which the first made the lot
abbrev pub made_stage : KindName → ℕ → List Asked → Stage
made_stage kind depth xs = cond (closes xs) (closed (any_closed (kind, lot_behind kind depth xs))) (filling (kind, lot_behind kind depth xs))

module _ (kind : KindName) (depth : ℕ) (xs : List Asked) where
  lot_goes : (a : Asked) → closes xs ≡ false →
      lot_behind kind depth (xs ++ a ∷ []) ≡ (run (capacity_size kind) (digest_size kind) (mixing kind) (run (capacity_size kind) (digest_size kind) (mixing kind) (newly_made (digest_size kind) depth, []) (calls_of (digest_size kind) xs)) (calls_of (digest_size kind) (a ∷ []))).0
  lot_goes a e =
      let c = capacity_size kind in
      let w = digest_size kind in
      let F = mixing kind in
      ap (λ ks. lot_after c w F depth ks) (calls_go w xs a e) ∙ ap (λ (x : Lot × History). x.0) (run_append c w F (newly_made w depth, []) (calls_of w xs) (calls_of w (a ∷ [])))

  lot_stays : (a : Asked) → closes xs ≡ true → lot_behind kind depth (xs ++ a ∷ []) ≡ lot_behind kind depth xs
  lot_stays a e = ap (λ ks. lot_after (capacity_size kind) (digest_size kind) (mixing kind) depth ks) (calls_stay (digest_size kind) xs a e)

  lot_filled : (o : Order) (at : ℕ) → closes xs ≡ false →
      (filled (capacity_size kind) (digest_size kind) (mixing kind) (lot_behind kind depth xs) o at).0 ≡ lot_behind kind depth (xs ++ (Ok o, at) ∷ [])
  unfolding filled
  lot_filled order.Root at e = sym (lot_goes (Ok order.Root, at) e ∙ either_way _ (lot_behind kind depth xs))
  lot_filled o at e = sym (lot_goes (Ok o, at) e)

  -- what a command leaves, and its line
  abbrev Acted : Stage → Order → ℕ → Type 0
  Acted s o at = ◌≡◌ {A = Stage × List ℕ} (act s o at) (made_stage kind depth (xs ++ (Ok o, at) ∷ []), order_line kind depth xs o at)

  run_filling : (o : Order) (at : ℕ) → closes xs ≡ false → is_close (Ok o) ≡ false →
      ◌≡◌ {A = Stage} (filling (kind, (filled (capacity_size kind) (digest_size kind) (mixing kind) (lot_behind kind depth xs) o at).0)) (made_stage kind depth (xs ++ (Ok o, at) ∷ []))
  run_filling o at e n = rw (closes_goes xs (Ok o, at) e, n, lot_filled o at e) refl

  stage_closes : (at : ℕ) → closes xs ≡ false →
      ◌≡◌ {A = Stage} (closed (any_closed (kind, lot_behind kind depth xs))) (made_stage kind depth (xs ++ (Ok order.Close, at) ∷ []))
  stage_closes at e = rw (closes_goes xs (Ok order.Close, at) e, lot_goes (Ok order.Close, at) e) refl

  stage_stays : (a : Asked) → closes xs ≡ true →
      ◌≡◌ {A = Stage} (closed (any_closed (kind, lot_behind kind depth xs))) (made_stage kind depth (xs ++ a ∷ []))
  stage_stays a e = rw (closes_stays xs a e, lot_stays a e) refl

  acted_filling : (v : Verb) (bytes : List ℕ) (at : ℕ) → closes xs ≡ false → in_phase phase.Filling v ≡ true → Acted (filling (kind, lot_behind kind depth xs)) (ordered v bytes) at
  unfolding act
  acted_filling verb.Start bytes at e i = absurd (false≢true i)
  acted_filling verb.Open bytes at e i = absurd (false≢true i)
  acted_filling verb.Close bytes at e i = ap₂ (λ (s : Stage) (line : List ℕ). (s, line)) (stage_closes at e) refl
  acted_filling v bytes at e i = ap₂ (λ (s : Stage) (line : List ℕ). (s, line)) (run_filling (ordered v bytes) at e refl) (rw e refl)

  acted_closed : (v : Verb) (bytes : List ℕ) (at : ℕ) → closes xs ≡ true → in_phase phase.Closed v ≡ true → Acted (closed (any_closed (kind, lot_behind kind depth xs))) (ordered v bytes) at
  unfolding act
  acted_closed verb.Root bytes at e i = ap₂ (λ (s : Stage) (line : List ℕ). (s, line)) (stage_stays (Ok order.Root, at) e) (rw e refl)
  acted_closed verb.Open bytes at e i =
      ap₂ (λ (s : Stage) (line : List ℕ). (s, line)) (stage_stays (Ok (ordered verb.Open bytes), at) e) (rw e refl)
  acted_closed v bytes at e i = absurd (false≢true i)

  -- the phase of a lot that was made
  made_phase : Option Phase
  made_phase = phase_in (made_stage kind depth xs)

  pub acted_made : (p : Phase) (v : Verb) (bytes : List ℕ) (at : ℕ) → phase_in (made_stage kind depth xs) ≡ Some p → in_phase p v ≡ true → Acted (made_stage kind depth xs) (ordered v bytes) at
  acted_made p v bytes at h i = by_close (closes xs) refl
    where
      by_close : (t : Bool) → closes xs ≡ t → Acted (made_stage kind depth xs) (ordered v bytes) at
      by_close true e =
          let now : ◌≡◌ {A = Option Phase} (Some phase.Closed) (Some p) = rw e at h in
          let is : phase.Closed ≡ p = cc now in
          rw e (acted_closed v bytes at e (rw (← is) at i))
      by_close false e =
          let now : ◌≡◌ {A = Option Phase} (Some phase.Filling) (Some p) = rw e at h in
          let is : phase.Filling ≡ p = cc now in
          rw e (acted_filling v bytes at e (rw (← is) at i))

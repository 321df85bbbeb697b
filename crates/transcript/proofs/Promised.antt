-- The laws of lots, said of lines.
use Rattle.std.proofs.Common.{◌≡◌, ℕ, ◌*◌, ◌^◌, ◌<◌, ◌≤◌, leb, ltb, Bool, true, false, cond, List, [], ◌∷◌, ◌++◌, replicate, Some, None, Ok, Err, Option, Result, IfOk, sym, refl, subst, ap, ◌∙◌, ap₂}
use Rattle.std.proofs.lemmas.Bool.{cond_both, ltb-false}
use mathlib.Core.Path.{fun_ext}
use Rattle.std.proofs.lemmas.List.{length-replicate}
use Rattle.kinds.specs.declared.denial.Denial.{Denial}
use Rattle.kinds.specs.declared.denial.Denial.TheVariants as denial
use Rattle.kinds.specs.Answers.{Answer, granted, denied, answer, if_granted}
use Rattle.kinds.specs.Permuting.{bad_buffer}
use Rattle.kinds.proofs.Causes.{granted_by, good_buffer}
use Rattle.lines.specs.Lines.{numbers_line, heading_word}
use Rattle.lines.specs.declared.writing.Heading.{Heading}
use Rattle.lines.specs.declared.writing.Heading.TheVariants as heading
use Rattle.reader.specs.declared.orders.Order.{Order}
use Rattle.reader.specs.declared.orders.Order.TheVariants as order
use Rattle.reader.specs.declared.fault.ScriptFault.{ScriptFault}
use Rattle.model.specs.Calls.{Call, begin, feed, feed_eight, seal, abandon, clear, root, no_place}
use Rattle.model.specs.Histories.{last_record}
use Rattle.model.specs.Trees.{tree_value, path_of}
use Rattle.model.specs.Lots.{Lot, newly_made, leaf_at, step}
use Rattle.model.specs.Closed as model
use Rattle.model.specs.Closed.{closed_root_call, open_answer, open_call}
use Rattle.model.specs.Promises.{NoMakings, Alike}
use Rattle.model.specs.Laws.{LotLaws}
use Rattle.model.proofs.Heaps.{closed_laws}
use Rattle.model.proofs.Order.{run_depth}
use Rattle.openings.specs.Checks.{check_call}
use Rattle.promises.specs.Promises.{Promises}
use Rattle.rpo_kinds.specs.Names.{name_of}
use Rattle.rpo_kinds.specs.declared.names.KindName.{KindName}
use Rattle.turns.specs.Answers.{numbers_told}
use Rattle.turns.specs.Turns.{filled, asked}
use Rattle.script.specs.Stages.{capacity_size, digest_size, mixing, new_lot, named_lot, started_as}
use Rattle.transcript.specs.Commands.{Asked}
use Rattle.transcript.specs.Lots.{call_of, is_close, closes, call_asked, calls_of, lot_behind, order_line, started_by}
use Rattle.transcript.specs.Promised.{call_line, history_behind, call_told, leaves_told, root_told, path_told, LinesTold, SameRecords, LinesAlike}

-- a start that is granted has a depth of at most 8

abbrev Shallow : Result (KindName × Lot) ScriptFault → Type 0
Shallow r = IfOk r (λ l. l.1.depth ≤ 8)

named_shallow : (kind : KindName) (d : ℕ) → Shallow (named_lot kind (new_lot (digest_size kind) d))
named_shallow kind d =
    cond_both {A = Result Lot Denial} (ltb 8 d) (Err denial.DepthTooLarge) (Ok (newly_made (digest_size kind) d)) (λ r. Shallow (named_lot kind r)) (λ e. tt)
    (λ e. ltb-false 8 d e)

started_shallow : (name : Option KindName) (d at : ℕ) → Shallow (started_as name d at)
started_shallow None d at = tt
started_shallow (Some kind) d at = named_shallow kind d

first_shallow : (first : Asked) → Shallow (started_by first)
first_shallow (Ok (order.Start k d), at) = started_shallow (name_of k) d at
first_shallow (Ok o, at) = tt
first_shallow (Err f, at) = tt

pub shallow_start : (first : Asked) (l : KindName × Lot) → started_by first ≡ Ok l → l.1.depth ≤ 8
shallow_start first l e = subst Shallow e (first_shallow first)

-- no command makes a lot anew, so that its depth stays

none_append : (ks js : List Call) → NoMakings ks → NoMakings js → NoMakings (ks ++ js)
none_append [] js none none' = none'
none_append (k ∷ ks) js none none' = (none.0, none_append ks js none.1 none')

order_makes_none : (w : ℕ) (o : Order) → NoMakings (call_of w o)
order_makes_none w (order.Begin s p n) = (refl, tt)
order_makes_none w (order.Feed s x) = (refl, tt)
order_makes_none w (order.FeedEight s xs) = (refl, tt)
order_makes_none w (order.Seal s) = (refl, tt)
order_makes_none w (order.Abandon s) = (refl, tt)
order_makes_none w (order.Clear p) = (refl, tt)
order_makes_none w order.Root = (refl, tt)
order_makes_none w o = tt

asked_makes_none : (w : ℕ) (o : Result Order ScriptFault) → NoMakings (call_asked w o)
asked_makes_none w (Ok o) = order_makes_none w o
asked_makes_none w (Err f) = tt

none_made : (w : ℕ) (xs : List Asked) → NoMakings (calls_of w xs)
none_made w [] = tt
none_made w (a ∷ xs) =
    cond_both {A = List Call} (is_close a.0) [] (call_asked w a.0 ++ calls_of w xs) NoMakings (λ e. tt)
    (λ e. none_append (call_asked w a.0) (calls_of w xs) (asked_makes_none w a.0) (none_made w xs))

-- a buffer of the right length is no cause of a refusal
fits : (w : ℕ) → answer (bad_buffer w (replicate w 0) ∷ []) ≡ granted
fits w = granted_by (bad_buffer w (replicate w 0) ∷ []) (good_buffer w (replicate w 0) (length-replicate w 0), tt)

granted_words : (h : Heading) (a : Answer) (xs ys : List ℕ) (at : ℕ) → numbers_told h (a, if_granted a xs ys) at ≡ numbers_told h (a, xs) at
granted_words h granted xs ys at = refl
granted_words h (denied n vs) xs ys at = refl

-- the tree value of a lot
abbrev root_of_lot : KindName → Lot → List ℕ
root_of_lot kind l = tree_value (capacity_size kind) (digest_size kind) (mixing kind) l.depth (leaf_at (digest_size kind) l.leaves)

-- root's line, by the lot
root_by_lot : (kind : KindName) (depth : ℕ) (xs : List Asked) (at : ℕ) →
    order_line kind depth xs order.Root at ≡ numbers_line (heading_word heading.Root) (root_of_lot kind (lot_behind kind depth xs))
unfolding filled asked
root_by_lot kind depth xs at = by_close (closes xs) refl
  where
    granted_root : (ns : List ℕ) → ns ≡ if_granted (answer (bad_buffer (digest_size kind) (replicate (digest_size kind) 0) ∷ [])) (root_of_lot kind (lot_behind kind depth xs)) (replicate (digest_size kind) 0)
        → numbers_told heading.Root (answer (bad_buffer (digest_size kind) (replicate (digest_size kind) 0) ∷ []), ns) at ≡ numbers_line (heading_word heading.Root) (root_of_lot kind (lot_behind kind depth xs))
    granted_root ns e = rw (e, fits (digest_size kind)) refl

    by_close : (t : Bool) → closes xs ≡ t → order_line kind depth xs order.Root at ≡ numbers_line (heading_word heading.Root) (root_of_lot kind (lot_behind kind depth xs))
    by_close true e = rw e (granted_root _ ((closed_laws (capacity_size kind) (digest_size kind) (mixing kind)).root_written (lot_behind kind depth xs) (replicate (digest_size kind) 0)))
    by_close false e = rw e (granted_root _ refl)

-- open's answer, where its buffer fits
open_answered : (w depth place : ℕ) → open_answer w depth place (replicate (depth * w) 0) ≡ answer (no_place depth place ∷ [])
open_answered w depth place = ap (λ (a : Answer). cond (leb (2 ^ depth) place) (denied 3 []) a) (fits (depth * w))

module _ (kind : KindName) (depth : ℕ) (small : depth ≤ 8) (laws : LotLaws (capacity_size kind) (digest_size kind) (mixing kind)) (promised : Promises (capacity_size kind) (digest_size kind) (mixing kind)) (xs : List Asked) where
  deep : (lot_behind kind depth xs).depth ≡ depth
  deep = run_depth (capacity_size kind) (digest_size kind) (mixing kind) (calls_of (digest_size kind) xs) (newly_made (digest_size kind) depth, []) (none_made (digest_size kind) xs)

  leaves_kept : leaf_at (digest_size kind) (lot_behind kind depth xs).leaves ≡ leaves_told kind depth xs
  leaves_kept = fun_ext (laws.keeps_last_records depth (calls_of (digest_size kind) xs) small).leaf_kept

  root_kept : root_of_lot kind (lot_behind kind depth xs) ≡ root_told kind depth xs
  root_kept = ap₂ (λ (d : ℕ) (ls : ℕ → List ℕ). tree_value (capacity_size kind) (digest_size kind) (mixing kind) d ls) deep leaves_kept

  open_line : (place at : ℕ) → closes xs ≡ true → order_line kind depth xs (order.Open place) at ≡ numbers_told heading.Path (path_told kind depth xs place) at
  unfolding asked
  open_line place at e =
      let c = capacity_size kind in
      let w = digest_size kind in
      let F = mixing kind in
      let l = lot_behind kind depth xs in
      let room = replicate (l.depth * w) 0 in
      let a = open_answer w l.depth place room in
      let path = path_of c w F l.depth (leaf_at w l.leaves) place in
      rw e
      (ap (λ ns. numbers_told heading.Path (a, ns) at) ((closed_laws c w F).path_written l place room)
      ∙ granted_words heading.Path a path room at
      ∙ ap (λ (b : Answer). numbers_told heading.Path (b, path) at) (open_answered w l.depth place)
      ∙ ap₂ (λ (d : ℕ) (ls : ℕ → List ℕ). numbers_told heading.Path (answer (no_place d place ∷ []), path_of c w F d ls place) at) deep leaves_kept)

  accepted : (place : ℕ) → place < 2 ^ depth →
      ◌≡◌ {A = Answer × Bool} (check_call (capacity_size kind) (digest_size kind) (mixing kind) (root_told kind depth xs) depth place (last_record (history_behind kind depth xs) place) (path_told kind depth xs place).1) (granted, true)
  accepted place low =
      let c = capacity_size kind in
      let w = digest_size kind in
      let F = mixing kind in
      let l = lot_behind kind depth xs in
      let top = replicate w 0 in
      let room = replicate (l.depth * w) 0 in
      let leaves = leaf_at w l.leaves in
      let claim = last_record (history_behind kind depth xs) place in
      let opens = promised.opened depth (calls_of w xs) small place room top (rw deep low) (length-replicate (l.depth * w) 0) (length-replicate w 0) in
      let root : (closed_root_call w (model.closed c w F l) top).1 ≡ root_told kind depth xs =
      (closed_laws c w F).root_written l top ∙ ap (λ (a : Answer). if_granted a (root_of_lot kind l) top) opens.root_granted ∙ root_kept in
      let path : (open_call w (model.closed c w F l) place room).1 ≡ (path_told kind depth xs place).1 =
      (closed_laws c w F).path_written l place room
      ∙ ap (λ (a : Answer). if_granted a (path_of c w F l.depth leaves place) room) opens.open_granted
      ∙ ap₂ (λ (d : ℕ) (ls : ℕ → List ℕ). path_of c w F d ls place) deep leaves_kept in
      sym (ap (λ (d : ℕ). check_call c w F (root_told kind depth xs) d place claim (path_told kind depth xs place).1) deep)
      ∙ sym (ap₂ (λ (x y : List ℕ). check_call c w F x l.depth place claim y) root path)
      ∙ opens.accepted

  -- the answer to a call, and its words
  told_of : (k : Call) → ◌≡◌ {A = Answer × List ℕ} ((step (capacity_size kind) (digest_size kind) (mixing kind) (lot_behind kind depth xs) k).1, (step (capacity_size kind) (digest_size kind) (mixing kind) (lot_behind kind depth xs) k).2) (call_told kind depth xs k)
  told_of k =
      let told = laws.answers_told depth (calls_of (digest_size kind) xs) small k in
      ap₂ (λ (a : Answer) (ns : List ℕ). (a, ns)) told.0 told.1

  -- the line of the answer to a call that is asked for
  line_of : (o : Order) (at : ℕ) (j k : Call) → j ∷ [] ≡ k ∷ [] →
      call_line o ((step (capacity_size kind) (digest_size kind) (mixing kind) (lot_behind kind depth xs) j).1, (step (capacity_size kind) (digest_size kind) (mixing kind) (lot_behind kind depth xs) j).2) at ≡ call_line o (call_told kind depth xs k) at
  line_of o at j k e =
      let is : j ≡ k = cc e in
      ap (λ (x : Answer × List ℕ). call_line o x at) (told_of j ∙ ap (call_told kind depth xs) is)

  call_line_told : (o : Order) (k : Call) (at : ℕ) → call_of (digest_size kind) o ≡ k ∷ []
      → (filled (capacity_size kind) (digest_size kind) (mixing kind) (lot_behind kind depth xs) o at).1 ≡ call_line o (call_told kind depth xs k) at
  unfolding filled
  call_line_told (order.Begin s p n) k at e = line_of (order.Begin s p n) at (begin s p n) k e
  call_line_told (order.Feed s x) k at e = line_of (order.Feed s x) at (feed s x) k e
  call_line_told (order.FeedEight s ws) k at e = line_of (order.FeedEight s ws) at (feed_eight s ws) k e
  call_line_told (order.Seal s) k at e = line_of (order.Seal s) at (seal s) k e
  call_line_told (order.Abandon s) k at e = line_of (order.Abandon s) at (abandon s) k e
  call_line_told (order.Clear p) k at e = line_of (order.Clear p) at (clear p) k e
  call_line_told order.Root k at e = line_of order.Root at (root (replicate (digest_size kind) 0)) k e
  call_line_told o k at e = absurd cc

  call_lines : (o : Order) (k : Call) (at : ℕ) → closes xs ≡ false → call_of (digest_size kind) o ≡ k ∷ [] → order_line kind depth xs o at ≡ call_line o (call_told kind depth xs k) at
  call_lines order.Close k at e asks = absurd cc
  call_lines o k at e asks = rw e (call_line_told o k at asks)

  pub lines_told : LinesTold kind depth xs
  lines_told = record {
    call_lines = call_lines;
    root_line = λ at. root_by_lot kind depth xs at ∙ ap (λ ns. numbers_line (heading_word heading.Root) ns) root_kept;
    open_line = open_line;
    accepted = accepted;
  }

module _ (kind : KindName) (depth : ℕ) (small : depth ≤ 8) (promised : Promises (capacity_size kind) (digest_size kind) (mixing kind)) (one other : List Asked) (same : SameRecords kind depth one other) where
  both_alike : Alike (capacity_size kind) (digest_size kind) (mixing kind) (lot_behind kind depth one) (lot_behind kind depth other)
  both_alike = promised.order depth (calls_of (digest_size kind) one) (calls_of (digest_size kind) other) small (none_made (digest_size kind) one) (none_made (digest_size kind) other) same

  same_value : root_of_lot kind (lot_behind kind depth one) ≡ root_of_lot kind (lot_behind kind depth other)
  same_value =
      let l = lot_behind kind depth one in
      let m = lot_behind kind depth other in
      let room = replicate (digest_size kind) 0 in
      let left : if_granted (answer (bad_buffer (digest_size kind) room ∷ [])) (root_of_lot kind l) room ≡ if_granted (answer (bad_buffer (digest_size kind) room ∷ [])) (root_of_lot kind m) room = both_alike.roots_left room in
      rw (fits (digest_size kind)) at left

  same_path : (place at : ℕ) → closes one ≡ true → closes other ≡ true → order_line kind depth one (order.Open place) at ≡ order_line kind depth other (order.Open place) at
  unfolding asked
  same_path place at e e' =
      let w = digest_size kind in
      let F = mixing kind in
      let l = lot_behind kind depth one in
      let m = lot_behind kind depth other in
      let deep = run_depth (capacity_size kind) w F (calls_of w one) (newly_made w depth, []) (none_made w one) in
      let deep' = run_depth (capacity_size kind) w F (calls_of w other) (newly_made w depth, []) (none_made w other) in
      rw (e, e')
      (ap (λ (x : Answer × List ℕ). numbers_told heading.Path x at) (both_alike.openings place (replicate (l.depth * w) 0))
      ∙ ap (λ (d : ℕ). numbers_told heading.Path (open_call w (model.closed (capacity_size kind) w F m) place (replicate (d * w) 0)) at) (deep ∙ sym deep'))

  pub lines_alike : LinesAlike kind depth one other
  lines_alike = record {
    same_root = λ at. root_by_lot kind depth one at ∙ ap (λ ns. numbers_line (heading_word heading.Root) ns) same_value ∙ sym (root_by_lot kind depth other at);
    same_path = same_path;
  }

-- Each call is answered as the bench tells, and keeps what stands.
use Rattle.std.proofs.Common.{◌≡◌, ℕ, ◌^◌, ◌≤◌, Bool, List, [], ◌∷◌, length, replicate, None, sym, refl, ap, ◌∙◌, arith}
use mathlib.Core.Path.{fun_ext}
use Rattle.std.proofs.lemmas.Bool.{ltb-false, leb-false}
use Rattle.kinds.specs.Answers.{Answer, granted, denied, Cause, answer, if_granted}
use Rattle.kinds.specs.Kinds.{Sound}
use Rattle.sponge.proofs.Parts.{each_none}
use Rattle.model.specs.Calls.{Call, making, begin, feed, feed_eight, seal, abandon, clear, root, causes}
use Rattle.model.specs.Histories.{Hand, holding, with_more, is_nothing, short_of, hand_after, record_after, depth_after}
use Rattle.model.specs.Trees.{tree_value}
use Rattle.model.specs.Lots.{Lot, Station, station_at, is_idle, lacks, answer_to, fed_with, begun_for, effect, step}
use Rattle.model.specs.Bench.{Bench, bench_answer, bench_buffer}
use Rattle.kinds.proofs.Causes.{NoneThere, none_there, all_elements}
use Rattle.model.proofs.Causes.{one_of_eight, good_length, same_either_way}
use Rattle.model.proofs.Hands.{fair_more, idle_same, lacks_same, more_kept}
use Rattle.model.proofs.Stands.{Stands, new_stands, hand_put, hand_emptied, leaf_put, hand_sealed}

abbrev bench_causes : ℕ → Bench → Call → List Cause
bench_causes w b k = causes w b.depth (λ s. is_nothing (b.hands s)) (λ s. short_of (b.hands s)) k

-- the bench after a call with its answer
abbrev pub bench_after : Bench → Call → Answer → Bench
bench_after b k a = record {
  depth = if_granted a (depth_after k b.depth) b.depth;
  records = λ p. if_granted a (record_after k b.hands p (b.records p)) (b.records p);
  hands = λ s. if_granted a (hand_after k s (b.hands s)) (b.hands s);
}

module _ {n c w : ℕ} {F : List ℕ → List ℕ} (sound : Sound n c w F) (b : Bench) (l : Lot) (now : Stands c w F b l) where
  idles : ◌≡◌ {A = ℕ → Bool} (λ s. is_idle (station_at l s)) (λ s. is_nothing (b.hands s))
  idles = fun_ext (λ s. ap is_idle (now.hand_kept s) ∙ idle_same c w F (b.hands s))

  lacking : ◌≡◌ {A = ℕ → ℕ} (λ s. lacks (station_at l s)) (λ s. short_of (b.hands s))
  lacking = fun_ext (λ s. ap lacks (now.hand_kept s) ∙ lacks_same c w F (b.hands s))

  pub answered : (k : Call) → (step c w F l k).1 ≡ bench_answer c w F b k
  answered k = λ i. answer (causes w (now.depth_same i) (idles i) (lacking i) k)

  pub buffer_left : (k : Call) → (step c w F l k).2 ≡ bench_buffer c w F b k
  buffer_left (root out) = λ i. if_granted (answered (root out) i) (tree_value c w F (now.depth_same i) (fun_ext now.leaf_kept i)) out
  buffer_left (making d) = same_either_way (answer_to w l (making d)) []
  buffer_left (begin s p m) = same_either_way (answer_to w l (begin s p m)) []
  buffer_left (feed s x) = same_either_way (answer_to w l (feed s x)) []
  buffer_left (feed_eight s xs) = same_either_way (answer_to w l (feed_eight s xs)) []
  buffer_left (seal s) = same_either_way (answer_to w l (seal s)) []
  buffer_left (abandon s) = same_either_way (answer_to w l (abandon s)) []
  buffer_left (clear p) = same_either_way (answer_to w l (clear p)) []

  fed_stands : (s : ℕ) (xs : List ℕ) → NoneThere (bench_causes w b (feed_eight s xs)) → Stands c w F (bench_after b (feed_eight s xs) granted) (effect c w F l (feed_eight s xs))
  fed_stands s xs none =
      let change : Hand → Hand = λ hand. with_more hand xs in
      let room : length xs ≤ short_of (b.hands s) = ltb-false (short_of (b.hands s)) (length xs) none.1.1.1.0 in
      hand_put c w F b l now s (fed_with c w F (station_at l s) xs) change (one_of_eight s none.0)
      (ap (λ (st : Station). fed_with c w F st xs) (now.hand_kept s) ∙ more_kept c w F (b.hands s) xs)
      (fair_more b.depth (b.hands s) xs (now.hands_fair s) (all_elements xs none.1.1.0) room)

  granted_stands : (k : Call) → NoneThere (bench_causes w b k) → Stands c w F (bench_after b k granted) (effect c w F l k)
  granted_stands (making d) none = new_stands c w F d (ltb-false 8 d none.0)
  granted_stands (begin s p m) none =
      let long = good_length m none.1.1.0 in
      hand_put c w F b l now s (begun_for c w F p m) (λ _. holding p m []) (one_of_eight s none.0) refl
      (record { place_low = leb-false (2 ^ b.depth) p none.1.0; stated_some = long.0; stated_small = long.1; fits = omega arith; each = each_none })
  granted_stands (feed s x) none = fed_stands s (x ∷ []) none
  granted_stands (feed_eight s xs) none = fed_stands s xs none
  granted_stands (seal s) none =
      let sealed = hand_sealed c w F b l now sound (b.hands s) (now.hands_fair s) (ltb-false 0 (short_of (b.hands s)) none.1.1.0) in
      rw (now.hand_kept s) (hand_emptied c w F _ _ sealed s (one_of_eight s none.0))
  granted_stands (abandon s) none = hand_emptied c w F b l now s (one_of_eight s none.0)
  granted_stands (clear p) none = leaf_put c w F b l now p (replicate w 0) None (leb-false (2 ^ b.depth) p none.0) refl tt
  granted_stands (root out) none = now

  either_way : (k : Call) (a : Answer) → (a ≡ granted → NoneThere (bench_causes w b k)) → Stands c w F (bench_after b k a) (if_granted a (effect c w F l k) l)
  either_way k granted none = granted_stands k (none refl)
  either_way k (denied m vs) none = now

  pub stepped : (k : Call) → Stands c w F (bench_after b k (step c w F l k).1) (step c w F l k).0
  stepped k = either_way k (step c w F l k).1 (λ e. none_there (bench_causes w b k) (sym (answered k) ∙ e))

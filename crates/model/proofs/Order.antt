-- Lots with the same last records, once closed, are one.
use Rattle.std.proofs.Common.{◌≡◌, ℕ, ◌^◌, false, List, [], ◌∷◌, length, replicate, sym, refl, ap, ◌∙◌, ap₂, arith}
use Rattle.std.proofs.lemmas.Bool.{true≢false}
use Rattle.std.proofs.lemmas.List.{ext_get_or}
use Rattle.kinds.specs.Answers.{Answer, granted, denied, answer, if_granted}
use Rattle.kinds.specs.Permuting.{bad_buffer}
use Rattle.kinds.specs.Kinds.{Sound}
use Rattle.model.specs.Calls.{Call, making, begin, feed, feed_eight, seal, abandon, clear, root, History}
use Rattle.model.specs.Trees.{leaf, tree_value}
use Rattle.model.specs.Lots.{Lot, newly_made, leaf_at, answer_to, effect, step, run, lot_after}
use Rattle.model.specs.Closed.{Closed, all_nodes, closed_root_call, open_call}
use Rattle.model.specs.Promises.{makes, NoMakings, Alike, Order}
use Rattle.model.proofs.Runs.{stands_after}

module _ (c w : ℕ) (F : List ℕ → List ℕ) where
  effect_depth : (l : Lot) (k : Call) → makes k ≡ false → (effect c w F l k).depth ≡ l.depth
  effect_depth l (making d) e = absurd (true≢false e)
  effect_depth l (begin s p m) e = refl
  effect_depth l (feed s x) e = refl
  effect_depth l (feed_eight s xs) e = refl
  effect_depth l (seal s) e = refl
  effect_depth l (abandon s) e = refl
  effect_depth l (clear p) e = refl
  effect_depth l (root b) e = refl

  either_depth : (l : Lot) (k : Call) (a : Answer) → makes k ≡ false → (if_granted a (effect c w F l k) l).depth ≡ l.depth
  either_depth l k granted e = effect_depth l k e
  either_depth l k (denied n vs) e = refl

  pub run_depth : (ks : List Call) (at : Lot × History) → NoMakings ks → (run c w F at ks).0.depth ≡ at.0.depth
  run_depth [] at none = refl
  run_depth (k ∷ ks) at none =
      run_depth ks ((step c w F at.0 k).0, (k, (step c w F at.0 k).1) ∷ at.1) none.1 ∙ either_depth at.0 k (answer_to w at.0 k) none.0

  -- lots of one depth with the same leaves
  alike : (l m : Lot) → l.depth ≡ m.depth → l.leaves ≡ m.leaves → Alike c w F l m
  alike l m deep same =
      let make : ℕ → List (List ℕ) → Closed = λ d ls. record { depth = d; nodes = all_nodes c w F d (leaf_at w ls) } in
      record {
        root_answers = λ out. refl;
        roots_left = λ out. λ i. if_granted (answer (bad_buffer w out ∷ [])) (tree_value c w F (deep i) (leaf_at w (same i))) out;
        closed_roots = λ out. ap (λ (x : Closed). closed_root_call w x out) (ap₂ make deep same);
        openings = λ place out. ap (λ (x : Closed). open_call w x place out) (ap₂ make deep same);
      }

pub order : {n c w : ℕ} {F : List ℕ → List ℕ} → Sound n c w F → Order c w F
order {n} {c} {w} {F} sound d ks js small none none' agree =
    let l = lot_after c w F d ks in
    let m = lot_after c w F d js in
    let now = stands_after sound d ks small in
    let now' = stands_after sound d js small in
    let deep : l.depth ≡ d = run_depth c w F ks (newly_made w d, []) none in
    let deep' : m.depth ≡ d = run_depth c w F js (newly_made w d, []) none' in
    let long : length l.leaves ≡ 2 ^ d = now.leaves_long ∙ ap (λ (k : ℕ). 2 ^ k) (sym now.depth_same ∙ deep) in
    let long' : length m.leaves ≡ 2 ^ d = now'.leaves_long ∙ ap (λ (k : ℕ). 2 ^ k) (sym now'.depth_same ∙ deep') in
    let same : l.leaves ≡ m.leaves =
    ext_get_or (replicate w 0) l.leaves m.leaves (long ∙ sym long') (λ p low. now.leaf_kept p ∙ ap (leaf c w F) (agree p (omega arith)) ∙ sym (now'.leaf_kept p)) in
    alike c w F l m (deep ∙ sym deep') same

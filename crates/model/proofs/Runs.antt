-- What stands after any calls, and the laws of a lot.
use Rattle.std.proofs.Common.{◌≡◌, ℕ, List, [], ◌∷◌, ap, ◌∙◌}
use mathlib.Core.Path.{fun_ext}
use Rattle.kinds.specs.Answers.{if_granted}
use Rattle.kinds.specs.Kinds.{Sound}
use Rattle.model.specs.Calls.{Call, History}
use Rattle.model.specs.Trees.{leaf, tree_value, path_of}
use Rattle.model.specs.Lots.{Lot, newly_made, leaf_at, step, run, lot_after, history_of}
use Rattle.model.specs.Closed.{closed_root_answer, open_answer}
use Rattle.model.specs.Bench.{Bench, bench_of}
use Rattle.model.specs.Laws.{AfterAny, ClosedTold, LotLaws}
use Rattle.model.proofs.Heaps.{closed_laws}
use Rattle.model.proofs.Stands.{Stands, keeps, new_stands}
use Rattle.model.proofs.Steps.{answered, buffer_left, stepped}

module _ {n c w : ℕ} {F : List ℕ → List ℕ} (sound : Sound n c w F) where
  ran : (d : ℕ) (ks : List Call) (at : Lot × History) → Stands c w F (bench_of d at.1) at.0 → Stands c w F (bench_of d (run c w F at ks).1) (run c w F at ks).0
  ran d [] at now = now
  ran d (k ∷ ks) at now = ran d ks ((step c w F at.0 k).0, (k, (step c w F at.0 k).1) ∷ at.1) (stepped sound (bench_of d at.1) at.0 now k)

  pub stands_after : AfterAny c w F (λ d l h. Stands c w F (bench_of d h) l)
  stands_after d ks small = ran d ks (newly_made w d, []) (new_stands c w F d small)

  closed_told : ClosedTold c w F
  closed_told d ks small place out =
      let l : Lot = lot_after c w F d ks in
      let b : Bench = bench_of d (history_of c w F d ks) in
      let now = stands_after d ks small in
      let deep : l.depth ≡ b.depth = now.depth_same in
      let leaves : ◌≡◌ {A = ℕ → List ℕ} (leaf_at w l.leaves) (λ p. leaf c w F (b.records p)) = fun_ext now.leaf_kept in (
        ap (λ (ns : List ℕ). (closed_root_answer w out, ns)) ((closed_laws c w F).root_written l out)
            ∙ (λ i. (closed_root_answer w out, if_granted (closed_root_answer w out) (tree_value c w F (deep i) (leaves i)) out)),
        ap (λ (ns : List ℕ). (open_answer w l.depth place out, ns)) ((closed_laws c w F).path_written l place out)
            ∙ (λ i. (open_answer w (deep i) place out, if_granted (open_answer w (deep i) place out) (path_of c w F (deep i) (leaves i) place) out)),
      )

  pub lot_laws : LotLaws c w F
  lot_laws = record {
    keeps_last_records = λ d ks small. keeps c w F _ _ (stands_after d ks small);
    answers_told = λ d ks small k. (answered sound _ _ (stands_after d ks small) k, buffer_left sound _ _ (stands_after d ks small) k);
    closed_told = closed_told;
  }

-- What the finder's steps come to.
use Rattle.std.proofs.Common.{◌≡◌, ℕ, zero, suc, ◌*◌, ◌<◌, ◌≤◌, Bool, List, length, Option, sym, refl, ap, ◌∙◌, ⊎_elim, arith}
use Rattle.std.proofs.lemmas.Bool.{cases_Bool}
use Rattle.kinds.specs.Kinds.{State, Sound}
use Rattle.kinds.specs.Answers.{Answer, granted, answer}
use Rattle.model.specs.Trees.{leaf}
use Rattle.openings.specs.Opening.{same, part_at, flat, pair_at, pairs_below, reaches, Climbable}
use Rattle.openings.proofs.Digests.{leaf_state, pair_digests, flat_state}
use Rattle.model.proofs.Rows.{row_piece}
use Rattle.finder.specs.Findings.{Shown, highest, show_at, shows, alike, verdict_causes, words_at, found, judged_call}

pub highest_le : (test : ℕ → Bool) (n : ℕ) → highest test n ≤ n
highest_le test zero = omega arith
highest_le test (suc n) =
    ⊎_elim (λ t. rw t (let h = highest_le test n in omega arith)) (λ t. rw t (omega arith)) (cases_Bool (test n))

highest_agree : (test other : ℕ → Bool) (n : ℕ) → ((k : ℕ) → k < n → test k ≡ other k) → highest test n ≡ highest other n
highest_agree test other zero e = refl
highest_agree test other (suc n) e = rw (e n (omega arith), highest_agree test other n (λ k h. e k (omega arith)))

show_agree : (q1 q2 p1 p2 : ℕ → List ℕ) (claim1 claim2 : Option (List ℕ)) (out : List ℕ) (depth n : ℕ) → n ≤ depth → ((k : ℕ) → k < depth → q1 k ≡ p1 k) → ((k : ℕ) → k < depth → q2 k ≡ p2 k) → show_at q1 q2 claim1 claim2 out n ≡ show_at p1 p2 claim1 claim2 out n
show_agree q1 q2 p1 p2 claim1 claim2 out depth zero h e f = refl
show_agree q1 q2 p1 p2 claim1 claim2 out depth (suc n) h e f = rw (e n (omega arith), f n (omega arith))

shows_agree : (q1 q2 p1 p2 : ℕ → List ℕ) (claim1 claim2 : Option (List ℕ)) (out : List ℕ) (depth : ℕ) → ((k : ℕ) → k < depth → q1 k ≡ p1 k) → ((k : ℕ) → k < depth → q2 k ≡ p2 k) → shows q1 q2 claim1 claim2 out depth ≡ shows p1 p2 claim1 claim2 out depth
shows_agree q1 q2 p1 p2 claim1 claim2 out depth e f =
    let n : highest (λ level. same (q1 level) (q2 level)) depth ≡ highest (λ level. same (p1 level) (p2 level)) depth = highest_agree (λ level. same (q1 level) (q2 level)) (λ level. same (p1 level) (p2 level)) depth (λ k h. rw (e k h, f k h)) in
    ap (show_at q1 q2 claim1 claim2 out) n ∙ show_agree q1 q2 p1 p2 claim1 claim2 out depth _ (highest_le (λ level. same (p1 level) (p2 level)) depth) e f

-- each pair in its place
module _ {n c w : ℕ} {F : List ℕ → List ℕ} (s : Sound n c w F) (place depth : ℕ) (bottom path : List ℕ) (low : State w bottom) (fits : State (depth * w) path) where
  pair_long : (level : ℕ) → level < depth → length (flat (pair_at c w F place bottom path level)) ≡ 2 * w
  pair_long level h = (flat_state w _ (pair_digests s place depth bottom path low fits level h)).long

  pub pair_in : (level : ℕ) → level < depth → part_at (2 * w) level (pairs_below c w F place bottom path depth) ≡ flat (pair_at c w F place bottom path level)
  pair_in level h =
      row_piece (2 * w) depth (pairs_below c w F place bottom path) (λ m. flat (pair_at c w F place bottom path m)) refl (λ m. refl) pair_long depth level (omega arith) h

-- what is shown from the pairs that two climbs left is what the openings show
pub compared : {n c w : ℕ} {F : List ℕ → List ℕ} → Sound n c w F → (root : List ℕ) (depth place : ℕ) (claim1 : Option (List ℕ)) (path1 : List ℕ) (claim2 : Option (List ℕ)) (path2 out : List ℕ) →
    Climbable w depth claim1 path1 → Climbable w depth claim2 path2 → (one two together : Bool) (first second left : List ℕ) (x : Shown) (k : ℕ) →
    one ≡ reaches c w F root depth place claim1 path1 → two ≡ reaches c w F root depth place claim2 path2 → together ≡ alike claim1 path1 claim2 path2 →
    first ≡ pairs_below c w F place (leaf c w F claim1) path1 depth → second ≡ pairs_below c w F place (leaf c w F claim2) path2 depth → k ≡ 2 * w → granted ≡ answer (verdict_causes one two together) →
    ◌≡◌ {A = Shown × List ℕ} (x, left) (shows (λ level. part_at k level first) (λ level. part_at k level second) claim1 claim2 out depth) →
    ◌≡◌ {A = Answer × Shown × List ℕ} (granted, x, left) (judged_call c w F root depth place claim1 path1 claim2 path2 out)
compared {n} {c} {w} {F} s root depth place claim1 path1 claim2 path2 out o1 o2 one two together first second left x k e1 e2 ea f1 f2 ek j f =
    let agreed : answer (verdict_causes (reaches c w F root depth place claim1 path1) (reaches c w F root depth place claim2 path2) (alike claim1 path1 claim2 path2)) ≡ granted = sym (rw (e1, e2, ea) at j) in
    let g1 : (level : ℕ) → level < depth → part_at k level first ≡ words_at c w F place claim1 path1 level = λ level h. rw (f1, ek) (pair_in s place depth (leaf c w F claim1) path1 (leaf_state s claim1 o1.each) o1.path_fits level h) in
    let g2 : (level : ℕ) → level < depth → part_at k level second ≡ words_at c w F place claim2 path2 level = λ level h. rw (f2, ek) (pair_in s place depth (leaf c w F claim2) path2 (leaf_state s claim2 o2.each) o2.path_fits level h) in
    let all : ◌≡◌ {A = Shown × List ℕ} (x, left) (found c w F depth place claim1 path1 claim2 path2 out) =
    f ∙ shows_agree (λ level. part_at k level first) (λ level. part_at k level second) (words_at c w F place claim1 path1) (words_at c w F place claim2 path2) claim1 claim2 out depth g1 g2 in
    rw (agreed, ← all)

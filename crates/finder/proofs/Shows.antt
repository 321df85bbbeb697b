-- The finder shows a clash exactly where there is one.
use Rattle.std.proofs.Common.{◌≡◌, ℕ, zero, suc, ◌*◌, ◌<◌, ◌≤◌, Bool, true, false, ◌≢◌, List, ◌++◌, length, Some, None, Option, sym, refl, ap, ◌∙◌, ⊎_elim, arith}
use Rattle.std.proofs.lemmas.Bool.{cases_Bool, cases_eq, both_ways, and_from, and_parts, not-false}
use Rattle.kinds.specs.Kinds.{Sound}
use Rattle.kinds.specs.Answers.{Answer, granted, denied, if_granted}
use Rattle.kinds.specs.Permuting.{bad_buffer}
use Rattle.sponge.proofs.Parts.{each_append}
use Rattle.model.specs.Trees.{leaf}
use Rattle.kinds.proofs.Causes.{NoneThere, none_there, granted_by, good_elements, good_buffer}
use Rattle.openings.specs.Opening.{same, words_of, is_right, part_at, Pair, flat, own_at, pair_at, reaches}
use Rattle.openings.specs.Checks.{check_causes, check_answer}
use Rattle.openings.proofs.Digests.{same_decides, leaf_state, pair_digests, from_flat, paired_parts}
use Rattle.openings.proofs.Admitted.{Fine, admitted_fine, fine_granted}
use Rattle.finder.specs.Findings.{Shown, nothing, same_claim, alike, highest, claims_show, show_at, handed_causes, words_at, found, verdict, find_answer, find_call}
use Rattle.finder.specs.Law.{AlikeFrom, Real, BothAccepted, Finds, ClashLaw}
use Rattle.finder.proofs.Levels.{highest_none, highest_some, paths_alike}
use Rattle.finder.proofs.Admitted.{both_fine, none_front, none_back}
use Rattle.openings.proofs.Causes.{answer_past}

-- claims and paths that are alike
claims_alike : (a b : Option (List ℕ)) → (same_claim a b ≡ true → a ≡ b) × (a ≡ b → same_claim a b ≡ true)
claims_alike None None = (λ _. refl, λ _. refl)
claims_alike None (Some ys) = (λ e. cc, λ e. cc)
claims_alike (Some xs) None = (λ e. cc, λ e. cc)
claims_alike (Some xs) (Some ys) = (λ e. ap Some ((same_decides xs ys).0 e), λ e. let q : xs ≡ ys = cc in (same_decides xs ys).1 q)

alike_true : (claim1 : Option (List ℕ)) (path1 : List ℕ) (claim2 : Option (List ℕ)) (path2 : List ℕ) → claim1 ≡ claim2 → path1 ≡ path2 → alike claim1 path1 claim2 path2 ≡ true
alike_true claim1 path1 claim2 path2 e f = and_from (same_claim claim1 claim2) (same path1 path2) ((claims_alike claim1 claim2).1 e) ((same_decides path1 path2).1 f)

alike_false : (claim1 : Option (List ℕ)) (path1 : List ℕ) (claim2 : Option (List ℕ)) (path2 : List ℕ) → (((claim1 ≡ claim2) × (path1 ≡ path2)) → ⊥) → alike claim1 path1 claim2 path2 ≡ false
alike_false claim1 path1 claim2 path2 ne =
    ⊎_elim
    (λ t. let p = and_parts (same_claim claim1 claim2) (same path1 path2) t in absurd (ne ((claims_alike claim1 claim2).0 p.0, (same_decides path1 path2).0 p.1)))
    (λ t. t)
    (cases_Bool (alike claim1 path1 claim2 path2))

-- two openings that come to one top
module _ {n c w : ℕ} {F : List ℕ → List ℕ} (s : Sound n c w F) (root : List ℕ) (depth place : ℕ) (claim1 : Option (List ℕ)) (path1 : List ℕ) (claim2 : Option (List ℕ)) (path2 : List ℕ)
    (o1 : Fine w root depth claim1 path1) (o2 : Fine w root depth claim2 path2) (tops : own_at c w F place (leaf c w F claim1) path1 depth ≡ own_at c w F place (leaf c w F claim2) path2 depth) where
  -- pairs are alike where their words are
  pair_from : (level : ℕ) → level < depth → words_at c w F place claim1 path1 level ≡ words_at c w F place claim2 path2 level → pair_at c w F place (leaf c w F claim1) path1 level ≡ pair_at c w F place (leaf c w F claim2) path2 level
  pair_from level h e =
      from_flat w _ _ (pair_digests s place depth (leaf c w F claim1) path1 (leaf_state s claim1 o1.climbs.each) o1.climbs.path_fits level h)
      (pair_digests s place depth (leaf c w F claim2) path2 (leaf_state s claim2 o2.climbs.each) o2.climbs.path_fits level h) e

  halved : (level : ℕ) → pair_at c w F place (leaf c w F claim1) path1 level ≡ pair_at c w F place (leaf c w F claim2) path2 level →
      (own_at c w F place (leaf c w F claim1) path1 level ≡ own_at c w F place (leaf c w F claim2) path2 level) × (part_at w level path1 ≡ part_at w level path2)
  halved level e = paired_parts (is_right place level) _ _ _ _ e

  -- under pairs that are alike the digests are alike
  own_alike : (low : ℕ) → low ≤ depth → AlikeFrom low depth (pair_at c w F place (leaf c w F claim1) path1) (pair_at c w F place (leaf c w F claim2) path2) →
      own_at c w F place (leaf c w F claim1) path1 low ≡ own_at c w F place (leaf c w F claim2) path2 low
  own_alike low h a = ⊎_elim (λ e. rw e tops) (λ ne. (halved low (a low (omega arith) (omega arith))).0) (cases_eq low depth)

  parts_alike : AlikeFrom 0 depth (pair_at c w F place (leaf c w F claim1) path1) (pair_at c w F place (leaf c w F claim2) path2) → path1 ≡ path2
  parts_alike a = paths_alike w depth path1 path2 o1.climbs.path_fits.long o2.climbs.path_fits.long (λ k h. (halved k (a k (omega arith) h)).1)

real_claims : (c w : ℕ) (F : List ℕ → List ℕ) (depth : ℕ) (pair1 pair2 : ℕ → Pair) (claim1 claim2 : Option (List ℕ)) (out : List ℕ) → AlikeFrom 0 depth pair1 pair2 → leaf c w F claim1 ≡ leaf c w F claim2 → (claim1 ≡ claim2 → ⊥) → Real c w F depth pair1 pair2 claim1 claim2 out out (claims_show claim1 claim2)
real_claims c w F depth pair1 pair2 (Some xs) (Some ys) out a e ne =
    (record { first = xs; second = ys; first_claimed = refl; second_claimed = refl; differ = λ q. ne (ap Some q); one_digest = e }, a, refl)
real_claims c w F depth pair1 pair2 (Some xs) None out a e ne = (record { one = xs; claimed = (refl, refl); zeros = e }, a, refl)
real_claims c w F depth pair1 pair2 None (Some ys) out a e ne = (record { one = ys; claimed = (refl, refl); zeros = sym e }, a, refl)
real_claims c w F depth pair1 pair2 None None out a e ne = absurd (ne refl)

real_at : {n c w : ℕ} {F : List ℕ → List ℕ} → Sound n c w F → (root : List ℕ) (depth place : ℕ) (claim1 : Option (List ℕ)) (path1 : List ℕ) (claim2 : Option (List ℕ)) (path2 out : List ℕ) → Fine w root depth claim1 path1 → Fine w root depth claim2 path2 →
    own_at c w F place (leaf c w F claim1) path1 depth ≡ own_at c w F place (leaf c w F claim2) path2 depth → (((claim1 ≡ claim2) × (path1 ≡ path2)) → ⊥) → (m : ℕ) →
    highest (λ level. same (words_at c w F place claim1 path1 level) (words_at c w F place claim2 path2 level)) depth ≡ m →
    Real c w F depth (pair_at c w F place (leaf c w F claim1) path1) (pair_at c w F place (leaf c w F claim2) path2) claim1 claim2 out
    (show_at (words_at c w F place claim1 path1) (words_at c w F place claim2 path2) claim1 claim2 out m).1
    (show_at (words_at c w F place claim1 path1) (words_at c w F place claim2 path2) claim1 claim2 out m).0
real_at {n} {c} {w} {F} s root depth place claim1 path1 claim2 path2 out o1 o2 tops ne zero e =
    let words1 = words_at c w F place claim1 path1 in
    let words2 = words_at c w F place claim2 path2 in
    let a : AlikeFrom 0 depth (pair_at c w F place (leaf c w F claim1) path1) (pair_at c w F place (leaf c w F claim2) path2) =
    λ k l h. pair_from s root depth place claim1 path1 claim2 path2 o1 o2 tops k h ((same_decides (words1 k) (words2 k)).0 (highest_none (λ level. same (words1 level) (words2 level)) depth e k h)) in
    real_claims c w F depth _ _ claim1 claim2 out a
    (own_alike s root depth place claim1 path1 claim2 path2 o1 o2 tops 0 (omega arith) a)
    (λ q. ne (q, parts_alike s root depth place claim1 path1 claim2 path2 o1 o2 tops a))
real_at {n} {c} {w} {F} s root depth place claim1 path1 claim2 path2 out o1 o2 tops ne (suc level) e =
    let words1 = words_at c w F place claim1 path1 in
    let words2 = words_at c w F place claim2 path2 in
    let top = highest_some (λ level. same (words1 level) (words2 level)) depth level e in
    let d1 = pair_digests s place depth (leaf c w F claim1) path1 (leaf_state s claim1 o1.climbs.each) o1.climbs.path_fits level top.within in
    let d2 = pair_digests s place depth (leaf c w F claim2) path2 (leaf_state s claim2 o2.climbs.each) o2.climbs.path_fits level top.within in
    let a : AlikeFrom (suc level) depth (pair_at c w F place (leaf c w F claim1) path1) (pair_at c w F place (leaf c w F claim2) path2) =
    λ k l h. pair_from s root depth place claim1 path1 claim2 path2 o1 o2 tops k h ((same_decides (words1 k) (words2 k)).0 (top.above k (omega arith) h)) in
    record {
      within = top.within;
      first_digests = (d1.left, d1.right);
      second_digests = (d2.left, d2.right);
      differ = λ q. both_ways (same (words1 level) (words2 level)) top.fails ((same_decides (words1 level) (words2 level)).1 (ap flat q));
      one_hash = own_alike s root depth place claim1 path1 claim2 path2 o1 o2 tops (suc level) (let h = top.within in omega arith) a;
      both_written = refl;
      alike_above = λ k l h. a k (omega arith) h;
    }

-- a granted search shows something
claims_some : (claim1 claim2 : Option (List ℕ)) → claims_show claim1 claim2 ≢ nothing
claims_some (Some xs) (Some ys) e = cc
claims_some (Some xs) None e = cc
claims_some None claim2 e = cc

show_some : (words1 words2 : ℕ → List ℕ) (claim1 claim2 : Option (List ℕ)) (out : List ℕ) (m : ℕ) → (show_at words1 words2 claim1 claim2 out m).0 ≢ nothing
show_some words1 words2 claim1 claim2 out zero e = claims_some claim1 claim2 e
show_some words1 words2 claim1 claim2 out (suc level) e = cc

shown_granted : (a : Answer) (x : Shown) → if_granted a x nothing ≢ nothing → a ≡ granted
shown_granted granted x h = refl
shown_granted (denied m vs) x h = absurd (h refl)

real_either : (a : Answer) (out : List ℕ) (f : Shown × List ℕ) (P : List ℕ → Shown → Type 0) → (a ≡ granted → P f.1 f.0) → P out nothing → P (if_granted a f.1 out) (if_granted a f.0 nothing)
real_either granted out f P g d = g refl
real_either (denied m vs) out f P g d = d

accepted_parts : (a : Answer) (b : Bool) → if_granted a b false ≡ true → (a ≡ granted) × (b ≡ true)
accepted_parts granted b e = (refl, e)
accepted_parts (denied m vs) b e = cc

module _ {n c w : ℕ} {F : List ℕ → List ℕ} (s : Sound n c w F) (root : List ℕ) (depth place : ℕ) (claim1 : Option (List ℕ)) (path1 : List ℕ) (claim2 : Option (List ℕ)) (path2 out : List ℕ) where
  -- what a granted search says of its openings
  record Agreed : Type 0 where
    fine : Fine w root depth claim1 path1 × Fine w root depth claim2 path2
    both : BothAccepted c w F root depth place claim1 path1 claim2 path2
    first : reaches c w F root depth place claim1 path1 ≡ true
    second : reaches c w F root depth place claim2 path2 ≡ true

  agreed : find_answer c w F root depth place claim1 path1 claim2 path2 out ≡ granted → Agreed
  agreed e =
      let handed = handed_causes w root depth place claim1 path1 claim2 path2 out in
      let judging = verdict c w F root depth place claim1 path1 claim2 path2 in
      let none = none_there (handed ++ judging) e in
      let given = none_front handed judging none in
      let judged = none_back handed judging none in
      let fine = both_fine w root depth place claim1 path1 claim2 path2 out given in
      let one = fine_granted w root depth place claim1 path1 given.0 given.1.0 given.1.1.0 fine.0 in
      let two = fine_granted w root depth place claim2 path2 given.0 given.1.0 given.1.1.1.0 fine.1 in
      let r1 = not-false (reaches c w F root depth place claim1 path1) judged.0 in
      let r2 = not-false (reaches c w F root depth place claim2 path2) judged.1.0 in
      record {
        fine = fine;
        both = record {
          first = rw one r1;
          second = rw two r2;
          differ = λ q. both_ways (alike claim1 path1 claim2 path2) judged.1.1.0 (alike_true claim1 path1 claim2 path2 q.0 q.1);
        };
        first = r1;
        second = r2;
      }

  granted_for : BothAccepted c w F root depth place claim1 path1 claim2 path2 → length out ≡ 4 * w → find_answer c w F root depth place claim1 path1 claim2 path2 out ≡ granted
  granted_for both ol =
      let a1 = accepted_parts (check_answer w root depth place claim1 path1) _ both.first in
      let a2 = accepted_parts (check_answer w root depth place claim2 path2) _ both.second in
      let n1 = none_there (check_causes w root depth place claim1 path1) a1.0 in
      let n2 = none_there (check_causes w root depth place claim2 path2) a2.0 in
      let o1 = admitted_fine w root depth place claim1 path1 a1.0 in
      let o2 = admitted_fine w root depth place claim2 path2 a2.0 in
      let roomy : (bad_buffer (4 * w) out).0 ≡ false = good_buffer (4 * w) out ol in
      let words = good_elements (root ++ (words_of claim1 ++ (path1 ++ (words_of claim2 ++ path2)))) (each_append root _ o1.root_fits.each (each_append (words_of claim1) _ o1.climbs.each (each_append path1 _ o1.climbs.path_fits.each (each_append (words_of claim2) path2 o2.climbs.each o2.climbs.path_fits.each)))) in
      let handed = handed_causes w root depth place claim1 path1 claim2 path2 out in
      let judging = verdict c w F root depth place claim1 path1 claim2 path2 in
      let given : NoneThere handed = (n1.0, (n1.1.0, (n1.1.1.0, (n2.1.1.0, (n1.1.1.1.0, (n1.1.1.1.1.0, (n2.1.1.1.1.0, (roomy, (words, tt))))))))) in
      answer_past handed judging (granted_by handed given) ∙ rw (a1.1, a2.1, alike_false claim1 path1 claim2 path2 both.differ)

  finds : Finds c w F root depth place claim1 path1 claim2 path2 out (find_call c w F root depth place claim1 path1 claim2 path2 out)
  finds =
      let a = find_answer c w F root depth place claim1 path1 claim2 path2 out in
      let f = found c w F depth place claim1 path1 claim2 path2 out in
      let words1 = words_at c w F place claim1 path1 in
      let words2 = words_at c w F place claim2 path2 in
      let top = highest (λ level. same (words1 level) (words2 level)) depth in
      let some : a ≡ granted → if_granted a f.0 nothing ≢ nothing = λ e q. show_some words1 words2 claim1 claim2 out top (sym (ap (λ (b : Answer). if_granted b f.0 nothing) e) ∙ q) in
      record {
        only = λ h. (agreed (shown_granted a f.0 h)).both;
        always = λ both ol. some (granted_for both ol);
        real = real_either a out f (λ written x. Real c w F depth (pair_at c w F place (leaf c w F claim1) path1) (pair_at c w F place (leaf c w F claim2) path2) claim1 claim2 out written x)
            (λ e.
            let g = agreed e in
            let tops = (same_decides _ root).0 g.first ∙ sym ((same_decides _ root).0 g.second) in
            real_at s root depth place claim1 path1 claim2 path2 out g.fine.0 g.fine.1 tops g.both.differ top refl)
            refl;
        when_granted = some;
        when_denied = λ m vs e. ap (λ (b : Answer). if_granted b f.0 nothing) e;
      }

pub clash_law : {n c w : ℕ} {F : List ℕ → List ℕ} → Sound n c w F → ClashLaw c w F
clash_law s = λ root depth place claim1 path1 claim2 path2 out. finds s root depth place claim1 path1 claim2 path2 out

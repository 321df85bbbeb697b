-- What an opening that is admitted has.
use Rattle.std.proofs.Common.{◌≡◌, ℕ, ◌*◌, ◌≤◌, false, List, [], ◌∷◌, ◌++◌, length, take, replicate, Option, Bor, ⊎_elim, sym, ap, ◌∙◌, mul-le-mul, arith}
use Rattle.field.specs.Field.{Elements}
use Rattle.kinds.specs.Kinds.{State, Sound}
use Rattle.kinds.specs.Answers.{granted, answer}
use Rattle.kinds.specs.Words.{not_elements}
use Rattle.std.specs.List.{flat_map, list_any, AllByRecursion}
use Rattle.std.proofs.lemmas.Bool.{cases_Bool}
use Rattle.std.proofs.lemmas.List.{length-take-le}
use Rattle.kinds.specs.Permuting.{bad_buffer}
use Rattle.sponge.proofs.Parts.{each_append, each_left, each_right}
use Rattle.model.specs.Calls.{too_deep, no_place}
use Rattle.kinds.proofs.Causes.{none_there, granted_by, all_elements, good_elements, right_buffer, good_buffer}
use Rattle.openings.specs.Opening.{words_of, Climbable}
use Rattle.openings.specs.declared.opening.Opening.{Opening}
use Rattle.openings.specs.Checks.{bad_claim, check_causes, check_answer}

pub record Fine (w : ℕ) (root : List ℕ) (depth : ℕ) (claim : Option (List ℕ)) (path : List ℕ) : Type 0 where
  pub root_fits : State w root
  pub climbs : Climbable w depth claim path

pub admitted_fine : (w : ℕ) (root : List ℕ) (depth place : ℕ) (claim : Option (List ℕ)) (path : List ℕ) → check_answer w root depth place claim path ≡ granted → Fine w root depth claim path
admitted_fine w root depth place claim path e =
    let none = none_there (check_causes w root depth place claim path) e in
    let all = all_elements (root ++ (words_of claim ++ path)) none.1.1.1.1.1.0 in
    let rest = each_right root (words_of claim ++ path) all in
    record {
      root_fits = record { long = right_buffer w root none.1.1.1.0; each = each_left root (words_of claim ++ path) all };
      climbs = record {
        each = each_left (words_of claim) path rest;
        path_fits = record { long = right_buffer (depth * w) path none.1.1.1.1.0; each = each_right (words_of claim) path rest };
      };
    }

pub fine_granted : (w : ℕ) (root : List ℕ) (depth place : ℕ) (claim : Option (List ℕ)) (path : List ℕ) → (too_deep depth).0 ≡ false → (no_place depth place).0 ≡ false → (bad_claim claim).0 ≡ false → Fine w root depth claim path →
    check_answer w root depth place claim path ≡ granted
fine_granted w root depth place claim path deep far long fine =
    let top = fine.root_fits in
    let fits = fine.climbs.path_fits in
    let words = each_append root (words_of claim ++ path) top.each (each_append (words_of claim) path fine.climbs.each fits.each) in
    granted_by (check_causes w root depth place claim path)
    (deep, (far, (long, (good_buffer w root top.long, (good_buffer (depth * w) path fits.long, (good_elements (root ++ (words_of claim ++ path)) words, tt))))))

-- words that are admitted in parts, and paths of one length
each_part : (parts : List (Bor (List ℕ))) → Elements (flat_map (λ x. x.now) parts) → AllByRecursion (λ x. Elements x.now) parts
each_part [] each = tt
each_part (x ∷ xs) each =
    let rest : List ℕ = flat_map (λ x. x.now) xs in
    (each_left x.now rest each, each_part xs (each_right x.now rest each))

pub parts_each : (parts : List (Bor (List ℕ))) → granted ≡ answer (not_elements (flat_map (λ x. x.now) parts) ∷ []) → AllByRecursion (λ x. Elements x.now) parts
parts_each parts e =
    let none = none_there (not_elements (flat_map (λ x. x.now) parts) ∷ []) (sym e) in
    each_part parts (all_elements (flat_map (λ x. x.now) parts) none.0)

pub paths_right : (long : ℕ) (xs : List Opening) → list_any (λ x. (bad_buffer long x.path.now).0) xs ≡ false → AllByRecursion (λ x. length x.path.now ≡ long) xs
paths_right long [] none = tt
paths_right long (x ∷ xs) none =
    ⊎_elim (λ b. let never = rw b at none in cc) (λ b. (right_buffer long x.path.now b, paths_right long xs (rw b at none))) (cases_Bool (bad_buffer long x.path.now).0)

-- the pairs of a shallow path fit into 128 words; the rate is as the code has it
pub pairs_fit : {n c w : ℕ} {F : List ℕ → List ℕ} → Sound n c w F → (depth rate : ℕ) → depth ≤ 8 → rate ≡ 2 * w → depth * rate ≤ 128
pairs_fit {n} {c} {w} sound depth rate d e =
    let h : rate ≤ 16 = let m = sound.m_small in omega arith in
    let m : depth * rate ≤ 8 * 16 = mul-le-mul d h in
    omega arith

-- the front of 128 words that is all pairs'
pub pairs_front : {n c w : ℕ} {F : List ℕ → List ℕ} → Sound n c w F → (depth rate : ℕ) → depth ≤ 8 → rate ≡ 2 * w → length (take (depth * rate) (replicate {A = ℕ} 128 0)) ≡ depth * (2 * w)
pairs_front sound depth rate d e =
    length-take-le (depth * rate) (replicate 128 0) (pairs_fit sound depth rate d e) ∙ ap (λ (k : ℕ). depth * k) e

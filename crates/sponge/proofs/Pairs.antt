-- The state that a pair of digests is hashed from, and the refusals of a pair.
use Rattle.std.proofs.Common.{◌≡◌, ℕ, ◌+◌, ◌-◌, ◌*◌, ◌≤◌, List, ◌++◌, length, take, replicate, sym, ap, ◌∙◌, arith}
use borrow.Rule.Slice.PartMut.{put_mid, same_len_mid}
use Rattle.std.proofs.lemmas.List.{length-append, length-replicate, length-drop, length-take, take-replicate, append_assoc}
use Rattle.std.proofs.lemmas.Slice.{take-put_mid}
use Rattle.kinds.specs.Kinds.{State, Sound}
use Rattle.sponge.specs.Digests.{two_to_one}
use Rattle.sponge.proofs.Parts.{each_append, each_zeros, cut_state}

pub joined_state : (c w : ℕ) (a b : List ℕ) → State w a → State w b → State (c + 2 * w) (replicate c 0 ++ (a ++ b))
joined_state c w a b sa sb =
    record {
      long = simp (length-append, length-replicate) (omega (arith, sa.long, sb.long));
      each = each_append (replicate c 0) (a ++ b) (each_zeros c) (each_append a b sa.each sb.each);
    }

-- a and b, written behind c of sixteen zeros with sizes that code has
pub laid_pair : (c w cs ws : ℕ) (a b x y : List ℕ) → c + 2 * w ≤ 16 → cs ≡ c → ws ≡ w → length a ≡ w → length b ≡ w → x ≡ a → y ≡ b
    → take (c + 2 * w) (put_mid (cs + ws) (cs + 2 * ws - (cs + ws)) (put_mid cs (cs + ws - cs) (replicate 16 0) x) y) ≡ replicate c 0 ++ (a ++ b)
laid_pair c w cs ws a b x y small ec ew la lb ex ey =
    let zeros : List ℕ = replicate 16 0 in
    let long : length zeros ≡ 16 = length-replicate {A = ℕ} 16 0 in
    let k : c + w - c ≡ w = omega arith in
    let one : List ℕ = put_mid c (c + w - c) zeros a in
    let one_long : length one ≡ 16 = same_len_mid c (c + w - c) zeros a (la ∙ sym (simp (length-take, length-drop) (omega (arith, long)))) ∙ long in
    let front : take c zeros ≡ replicate c 0 = take-replicate {X = ℕ} c 16 0 (omega arith) in
    let half : take (c + w) one ≡ replicate c 0 ++ a = take-put_mid c (c + w - c) zeros a (c + w) (omega (arith, la)) (omega (arith, long)) ∙ ap (λ l. l ++ a) front in
    rw (ec, ew, ex, ey) (take-put_mid (c + w) _ one b (c + 2 * w) (omega (arith, lb)) (omega (arith, one_long)) ∙ ap (λ l. l ++ b) half ∙ append_assoc (replicate c 0) a b)

pub pair_state : {n c w : ℕ} {F : List ℕ → List ℕ} → Sound n c w F → (a b : List ℕ) → State w a → State w b → State w (two_to_one c w F a b)
pair_state {n} {c} {w} {F} sound a b sa sb = cut_state c w (F (replicate c 0 ++ (a ++ b))) (sound.keeps _ (joined_state c w a b sa sb)) (omega arith)

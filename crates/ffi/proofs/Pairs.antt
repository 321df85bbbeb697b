-- A chain of pairs, turn by turn.
use Rattle.std.proofs.Common.{◌≡◌, ℕ, zero, suc, ◌+◌, ◌<◌, true, List, [], ◌∷◌, ◌++◌, length, eqb, refl, sym, ap, ◌∙◌, arith}
use Rattle.std.proofs.lemmas.Bool.{eq-eqb, ne_eqb}
use Rattle.kinds.specs.Answers.{Answer, granted, denied}
use Rattle.kinds.specs.Kinds.{State, Sound}
use Rattle.kinds.specs.Words.{not_elements}
use Rattle.kinds.specs.Permuting.{bad_buffer}
use Rattle.kinds.proofs.Causes.{none_there, granted_by, all_elements, good_elements, right_buffer, good_buffer}
use Rattle.sponge.specs.Digests.{two_to_one}
use Rattle.sponge.specs.Calls.{pair_answer, pair_call}
use Rattle.sponge.proofs.Parts.{each_append, each_left, each_right}
use Rattle.sponge.proofs.Pairs.{pair_state}
use Rattle.ffi.specs.Chains.{chained, chain_call}

module _ (w : ℕ) (a b out : List ℕ) where
  -- a pair that is granted is one of digests
  pair_fits : pair_answer w a b out ≡ granted → (State w a) × (State w b)
  pair_fits e =
      let none = none_there (bad_buffer w a ∷ bad_buffer w b ∷ bad_buffer w out ∷ not_elements (a ++ b) ∷ []) e in
      let each = all_elements (a ++ b) none.1.1.1.0 in
      (record { long = right_buffer w a none.0; each = each_left a b each }, record { long = right_buffer w b none.1.0; each = each_right a b each })

  -- and digests with room for one are granted
  pair_granted : State w a → State w b → length out ≡ w → pair_answer w a b out ≡ granted
  pair_granted sa sb so =
      granted_by (bad_buffer w a ∷ bad_buffer w b ∷ bad_buffer w out ∷ not_elements (a ++ b) ∷ [])
      (good_buffer w a sa.long, (good_buffer w b sb.long, (good_buffer w out so, (good_elements (a ++ b) (each_append a b sa.each sb.each), tt))))

-- before the turn i of a chain over start, b and room: what a and out hold
module _ (c w : ℕ) (F : List ℕ → List ℕ) (b start room : List ℕ) where
  abbrev pub Before : ℕ → List ℕ → List ℕ → Type 0
  Before zero a out = (a ≡ start) × (out ≡ room)
  Before (suc i) a out = (pair_answer w start b room ≡ granted) × (a ≡ chained c w F b (suc i) start) × (out ≡ a)

module _ {number c w : ℕ} {F : List ℕ → List ℕ} (sound : Sound number c w F) (b start room : List ℕ) where
  -- after one hash or more what stands there is a digest, so that the next pair is granted
  chained_state : (i : ℕ) → State w start → State w b → State w (chained c w F b i start)
  chained_state zero s sb = s
  chained_state (suc i) s sb = pair_state sound (chained c w F b i start) b (chained_state i s sb) sb

  again : (i : ℕ) → pair_answer w start b room ≡ granted → pair_answer w (chained c w F b i start) b (chained c w F b i start) ≡ granted
  again i e =
      let s = pair_fits w start b room e in
      let t = chained_state i s.0 s.1 in
      pair_granted w (chained c w F b i start) b (chained c w F b i start) t s.1 t.long

  turn : (i : ℕ) (a out new : List ℕ) → Before c w F b start room i a out → granted ≡ pair_answer w a b out → new ≡ two_to_one c w F a b → Before c w F b start room (suc i) new new
  turn zero a out new h e f =
      (sym (rw (h.0, h.1) at e), f ∙ ap (λ x. two_to_one c w F x b) h.0, refl)
  turn (suc i) a out new h e f = (h.0, f ∙ ap (λ x. two_to_one c w F x b) h.1, refl)

  pub next : (i : ℕ) (a out new copy : List ℕ) → Before c w F b start room i a out → (granted, new) ≡ pair_call c w F a b out → copy ≡ new → Before c w F b start room (i + 1) copy new
  next i a out new copy h e q =
      let e0 : granted ≡ pair_answer w a b out = ap (λ (x : Answer × List ℕ). x.0) e in
      let e1 : new ≡ two_to_one c w F a b = rw (← e0) at (ap (λ (x : Answer × List ℕ). x.1) e) in
      let n : i + 1 ≡ suc i = omega arith in
      rw (n, q) (turn i a out new h e0 e1)

  module _ (same : length start ≡ length room) where
    lengths : eqb (length start) (length room) ≡ true
    lengths = eq-eqb (length start) (length room) same

    halt : (i n : ℕ) (a out : List ℕ) (k : ℕ) (vs : List ℕ) → i < n → Before c w F b start room i a out → denied k vs ≡ pair_answer w a b out
        → ◌≡◌ {A = Answer × (List ℕ × List ℕ)} (denied k vs, (a, out)) (chain_call c w F n start b room)
    halt i zero a out k vs l h e = absurd (omega arith)
    halt zero (suc n) a out k vs l h e =
        let first : pair_answer w start b room ≡ denied k vs = sym (rw (h.0, h.1) at e) in
        rw (h.0, h.1, lengths, ne_eqb (suc n) 0 (λ e. omega arith), first) refl
    halt (suc i) (suc n) a out k vs l h e =
        let more : pair_answer w a b out ≡ granted = rw (h.2, h.1) (again (suc i) h.0) in
        let never : denied k vs ≡ granted = e ∙ more in
        cc

    pub stopped : (i n : ℕ) (a out new : List ℕ) (k : ℕ) (vs : List ℕ) → i < n → Before c w F b start room i a out → (denied k vs, new) ≡ pair_call c w F a b out
        → ◌≡◌ {A = Answer × (List ℕ × List ℕ)} (denied k vs, (a, new)) (chain_call c w F n start b room)
    stopped i n a out new k vs l h e =
        let e0 : denied k vs ≡ pair_answer w a b out = ap (λ (x : Answer × List ℕ). x.0) e in
        let e1 : new ≡ out = rw (← e0) at (ap (λ (x : Answer × List ℕ). x.1) e) in
        rw e1 (halt i n a out k vs l h e0)

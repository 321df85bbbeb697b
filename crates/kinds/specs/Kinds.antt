-- What a hash kind is: three numbers, and a mapping from states to states. Nothing more is asked of one.
use Rattle.std.specs.Prelude.{◌≡◌, ℕ, ◌+◌, ◌*◌, ◌%◌, ◌<◌, ◌≤◌, List, [], ◌∷◌, length, slice_index}
use Rattle.field.specs.Field.{p, Elements}

-- m elements
pub record State (m : ℕ) (s : List ℕ) : Type 0 where
  pub long : length s ≡ m
  pub each : Elements s

-- the law of a kind with capacity size c, digest size w and mapping F: its rate is 2w and its states have c + 2w elements
pub record Sound (number c w : ℕ) (F : List ℕ → List ℕ) : Type 0 where
  pub number_small : number < 256
  pub c_some : 1 ≤ c
  pub w_some : 1 ≤ w
  pub m_small : c + 2 * w ≤ 16
  pub keeps : (s : List ℕ) → State (c + 2 * w) s → State (c + 2 * w) (F s)

-- the drill kind: with t = s1 + 2 s2 + 3 s0, (s0, s1, s2) becomes (s0 + t, t, s2)
abbrev pub drill_t : List ℕ → ℕ
drill_t s = (slice_index s 1 + 2 * slice_index s 2 + 3 * slice_index s 0) % p

abbrev pub drill : List ℕ → List ℕ
drill s = (slice_index s 0 + drill_t s) % p ∷ drill_t s ∷ slice_index s 2 ∷ []

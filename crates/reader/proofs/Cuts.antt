-- A part that is long enough is what the definition reads.
use Rattle.std.proofs.Common.{◌≡◌, ℕ, ◌+◌, ◌-◌, ◌<◌, ◌≤◌, true, leb, List, length, get_or, take, drop, Some, None, Ok, Err, Option, ok_or, arith, le-leb, length-drop, length-take-le, slice_range}
use Rattle.std.proofs.lemmas.List.{take_all}
use Rattle.std.proofs.lemmas.Bool.{lt-leb}
use Rattle.reader.specs.declared.verbs.Verb.{Verb}
use Rattle.reader.specs.declared.verbs.UnknownByte.{UnknownByte}
use Rattle.reader.specs.declared.fault.ScriptFault.TheVariants as fault
use Rattle.reader.specs.Verbs.{verb_of, verb_in, width_of}
use Rattle.reader.specs.Commands.{Reading, read_command}

abbrev rest : List ℕ → ℕ → List ℕ
rest xs k = take (length xs - k) (drop k xs)

rest_is : (xs : List ℕ) (k : ℕ) → rest xs k ≡ drop k xs
rest_is xs k = take_all (length xs - k) (drop k xs) (omega (arith, length-drop k xs))

was_some : (o : Option Verb) (x : UnknownByte) (v : Verb) → Ok v ≡ ok_or o x → o ≡ Some v
was_some o x v e = grind arith

pub was_none : (o : Option Verb) (x y : UnknownByte) → Err y ≡ ok_or o x → o ≡ None
was_none o x y e = grind arith

module _ (script : List ℕ) (at n : ℕ) (v : Verb) (width : n ≡ width_of v) (known : Ok v ≡ verb_in (get_or script at 0)) where
  pub read_whole : (os : List ℕ) → at < length script → n ≤ length (rest script (at + 1)) → os ≡ slice_range (rest script (at + 1)) 0 n
      → (◌≡◌ {A = Reading} (Ok (record { verb = v; operands = os; from = at }, at + 1 + length os)) (read_command script at))
  unfolding read_command
  read_whole os here h e =
      let len = rest_is script (at + 1) in
      let same : os ≡ take n (drop (at + 1) script) = let k : n - 0 ≡ n = omega arith in rw (e, len, k) in
      let long : length os ≡ n = rw (same, length-take-le n (drop (at + 1) script) (rw (← len) h)) in
      let room : at + 1 + n ≤ length script = let z = rw len at h in omega (arith, length-drop (at + 1) script) in
      let fits : leb (at + 1 + n) (length script) ≡ true = le-leb _ _ room in
      rw (was_some (verb_of (get_or script at 0)) (record {}) v known, ← width, fits, long, same)

  pub read_short : at < length script → length (rest script (at + 1)) < n → (◌≡◌ {A = Reading} (Err (fault.CutShort at)) (read_command script at))
  unfolding read_command
  read_short here h =
      let z = rw (rest_is script (at + 1)) at h in
      let room : length script < at + 1 + n = omega (arith, length-drop (at + 1) script) in
      rw (was_some (verb_of (get_or script at 0)) (record {}) v known, ← width, lt-leb (at + 1 + n) (length script) room)

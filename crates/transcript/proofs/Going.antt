-- What each line leaves of a transcript.
use Rattle.std.proofs.Common.{◌≡◌, ℕ, zero, suc, ◌<◌, ◌≤◌, List, [], ◌++◌, length, take, drop, Some, None, Ok, Option, Result, sym, refl, ap, ◌∙◌, arith}
use Rattle.std.proofs.lemmas.List.{take_at, append_assoc, append-nil}
use Rattle.std.proofs.lemmas.Bool.{le-ltb}
use Rattle.kinds.specs.declared.denial.Denial.{Denial}
use Rattle.reader.specs.Commands.{Reading}
use Rattle.script.specs.Runs.{Run, next_command, turn, line_of, next_line, left}
use Rattle.transcript.specs.Transcripts.{with_line, lines_from}

abbrev Given : Type 0
Given = Result (Option ℕ) Denial

-- what a call leaves: the run, the buffer, and the answer
abbrev pub Out : Type 0
Out = Run × List ℕ × Given

-- whether a call answers with a line
abbrev pub NoLine : Given → Type 0
NoLine x = (n : ℕ) → x ≡ Ok (Some n) → ⊥

line_first : (r s : Run) (out ys : List ℕ) (len : ℕ) (o : Option Reading) (rest : Run → List ℕ) → ◌≡◌ {A = Out} (s, ys, Ok (Some len)) (line_of r out o)
    → with_line o r rest ≡ take len ys ++ rest s
line_first r s out ys len None rest e = let none : ◌≡◌ {A = Given} (Ok (Some len)) (Ok None) = ap (λ (x : Out). x.2) e in absurd cc
line_first r s out ys len (Some x) rest e =
    let line : List ℕ = (turn r x).1 in
    let given : ◌≡◌ {A = Given} (Ok (Some len)) (Ok (Some (length line))) = ap (λ (x : Out). x.2) e in
    let n : len ≡ length line = cc given in
    rw (ap (λ (x : Out). x.0) e, ap (λ (x : Out). x.1) e, n, take_at line (drop (length line) out) (length line) refl)

none_left : (r s : Run) (out ys : List ℕ) (given : Given) (o : Option Reading) (rest : Run → List ℕ) → NoLine given → ◌≡◌ {A = Out} (s, ys, given) (line_of r out o)
    → with_line o r rest ≡ []
none_left r s out ys given None rest h e = refl
none_left r s out ys given (Some x) rest h e = absurd (h (length (turn r x).1) (ap (λ (x : Out). x.2) e))

-- some lines are written, and those that are left make up the whole
unfoldable pub Going : List ℕ → Run → List ℕ → Type 0
Going xs r whole = (n : ℕ) × ((left r ≤ n) × (xs ++ lines_from n r ≡ whole))

pub going_first : (r : Run) (n : ℕ) → left r ≤ n → Going [] r (lines_from n r)
unfolding Going
going_first r n h = (n, (h, refl))

pub going_more : (xs zs : List ℕ) (r s : Run) (out ys : List ℕ) (len : ℕ) (whole : List ℕ) → Going xs r whole → length out ≡ 1024 → ◌≡◌ {A = Out} (s, ys, Ok (Some len)) (next_line r out)
    → left s < left r → zs ≡ xs ++ take len ys → Going zs s whole
unfolding Going
going_more xs zs r s out ys len whole (zero, (h, w)) room e f z = absurd (omega arith)
going_more xs zs r s out ys len whole (suc n, (h, w)) room e f z =
    let told : ◌≡◌ {A = Out} (s, ys, Ok (Some len)) (line_of r out (next_command r)) = rw (le-ltb (length out) 1024 (omega arith)) at e in
    (n, (omega arith, rw (z, append_assoc) (ap (λ bs. xs ++ bs) (sym (line_first r s out ys len (next_command r) (lines_from n) told)) ∙ w)))

pub going_all : (xs : List ℕ) (r s : Run) (out ys : List ℕ) (given : Given) (whole : List ℕ) → Going xs r whole → length out ≡ 1024 → ◌≡◌ {A = Out} (s, ys, given) (next_line r out)
    → NoLine given → xs ≡ whole
unfolding Going
going_all xs r s out ys given whole (zero, (h, w)) room e none = sym (append-nil xs) ∙ w
going_all xs r s out ys given whole (suc n, (h, w)) room e none =
    let told : ◌≡◌ {A = Out} (s, ys, given) (line_of r out (next_command r)) = rw (le-ltb (length out) 1024 (omega arith)) at e in
    sym (append-nil xs) ∙ ap (λ bs. xs ++ bs) (sym (none_left r s out ys given (next_command r) (lines_from n) none told)) ∙ w

-- What the program says, in words.
use Rattle.std.specs.Prelude.{ℕ, cond, List, ◌++◌, Ok, Err, codes, decimal}
use Rattle.finder.specs.declared.clash.Clash.{Clash}
use Rattle.finder.specs.declared.clash.Clash.TheVariants as clash
use Rattle.console.specs.Checks.{check_text, refused_text}
use Rattle.console.specs.Words.{words_text}
use Rattle.opening.specs.declared.said.Said.{Said}
use Rattle.opening.specs.declared.said.Said.TheVariants as said

-- a clash; the words are those of its pairs, where it is of pairs
abbrev pub clash_text : Clash → List ℕ → List ℕ
clash_text (clash.Pairs level) words = codes "clash: pairs of level " ++ decimal level ++ codes ": " ++ words_text words
clash_text clash.Records words = codes "clash: two records"
clash_text (clash.ZeroRecord second) words = codes "clash: the digest of the " ++ cond second (codes "second") (codes "first") ++ codes " record is all zeros"

-- the line of an answer
abbrev pub said_text : Said → List ℕ
said_text (said.Checked r) = check_text r
said_text (said.Found (Ok x) pairs) = clash_text x pairs
said_text (said.Found (Err why) pairs) = refused_text why

-- Why an input could not be read, in words.
use Rattle.std.specs.Prelude.{ℕ, List, codes, decimal, ◌++◌}
use Rattle.console.specs.declared.input.Unread.{Unread}
use Rattle.console.specs.declared.input.Unread.TheVariants as unread

abbrev pub unread_text : Unread → List ℕ
unread_text unread.Broken = codes "standard input broke off"
unread_text unread.NoMemory = codes "there is not enough memory"
unread_text unread.TooLong = codes "the input has more than " ++ decimal 1048576 ++ codes " bytes"
unread_text unread.NoText = codes "the input is no text"
unread_text unread.NoKind = codes "no kind is named: drill, rpo-128, rpo-160, or 0, 1, 2"
unread_text (unread.NoNumber line word) = codes "line " ++ decimal line ++ codes ", word " ++ decimal word ++ codes " is no decimal number of 64 bits"
unread_text (unread.NoCommand line) = codes "line " ++ decimal line ++ codes " is no command"

-- What stands at an offset of a script.
use Rattle.std.specs.Prelude.{ℕ, ◌+◌, cond, List, length, take, drop, Some, None, Ok, Err, Option, Result, nat_le, slice_index}
use Rattle.reader.specs.declared.verbs.Verb.{Verb}
use Rattle.reader.specs.declared.verbs.Verb.TheVariants as verb
use Rattle.reader.specs.declared.commands.Command.{Command}
use Rattle.reader.specs.declared.commands.Command.TheVariants as command
use Rattle.reader.specs.declared.commands.Part.{Part}
use Rattle.reader.specs.declared.fault.ScriptFault.{ScriptFault}
use Rattle.reader.specs.declared.fault.ScriptFault.TheVariants as fault
use Rattle.reader.specs.Verbs.{verb_of, width_of}

-- a command: its verb, its operand bytes, and the offset of its first byte
pub record Read : Type 0 where
  pub verb : Verb
  pub operands : List ℕ
  pub from : ℕ

-- a command and the offset after it, or a fault
abbrev pub Reading : Type 0
Reading = Result (Read × ℕ) ScriptFault

-- refusal 15: operands cut short
abbrev pub cut_out : List ℕ → ℕ → Verb → Reading
cut_out script at v =
    cond (nat_le (at + 1 + width_of v) (length script)) (Ok (record { verb = v; operands = take (width_of v) (drop (at + 1) script); from = at }, at + 1 + width_of v))
    (Err (fault.CutShort at))

-- refusal 14: unknown command byte
abbrev pub read_as : List ℕ → ℕ → Option Verb → Reading
read_as script at None = Err (fault.UnknownCommand at)
read_as script at (Some v) = cut_out script at v

-- the command at an offset where the script has a byte
unfoldable pub read_command : List ℕ → ℕ → Reading
read_command script at = read_as script at (verb_of (slice_index script at))

-- none where the script has no byte
abbrev pub read_at : List ℕ → ℕ → Option Reading
read_at script at = cond (nat_le (length script) at) None (Some (read_command script at))

-- what the program has of a command, with the borrowed bytes read out
abbrev pub read_part : Verb → Part → Read
read_part v part = record { verb = v; operands = part.operands.now; from = part.at }

-- a command of the program
abbrev pub said : Command → Read
said (command.Start part) = read_part verb.Start part
said (command.Begin part) = read_part verb.Begin part
said (command.Feed part) = read_part verb.Feed part
said (command.FeedEight part) = read_part verb.FeedEight part
said (command.Seal part) = read_part verb.Seal part
said (command.Abandon part) = read_part verb.Abandon part
said (command.Clear part) = read_part verb.Clear part
said (command.Root part) = read_part verb.Root part
said (command.Open part) = read_part verb.Open part
said (command.Close part) = read_part verb.Close part

-- a command that was read, or the fault in its place
abbrev pub told : Result (Command × ℕ) ScriptFault → Reading
told (Ok p) = Ok (said p.0, p.1)
told (Err e) = Err e

-- the same, where there may be none
abbrev pub all_told : Option (Result (Command × ℕ) ScriptFault) → Option Reading
all_told None = None
all_told (Some r) = Some (told r)

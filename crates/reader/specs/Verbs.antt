-- The command bytes, and how many operand bytes follow each.
use Rattle.std.specs.Prelude.{ℕ, cond, Some, None, Option, Result, ok_or, ◌==◌}
use Rattle.reader.specs.declared.verbs.Verb.{Verb}
use Rattle.reader.specs.declared.verbs.Verb.TheVariants as verb
use Rattle.reader.specs.declared.verbs.UnknownByte.{UnknownByte}

-- the command of a byte, if it is one
abbrev pub verb_of : ℕ → Option Verb
verb_of byte =
    cond (byte == 0x01) (Some verb.Start)
    (cond (byte == 0x10) (Some verb.Begin)
    (cond (byte == 0x11) (Some verb.Feed)
    (cond (byte == 0x12) (Some verb.Seal)
    (cond (byte == 0x13) (Some verb.Abandon)
    (cond (byte == 0x14) (Some verb.Clear)
    (cond (byte == 0x15) (Some verb.Root)
    (cond (byte == 0x16) (Some verb.Open)
    (cond (byte == 0x17) (Some verb.Close)
    (cond (byte == 0x18) (Some verb.FeedEight) None)))))))))

-- the command of a byte, as a result
abbrev pub verb_in : ℕ → Result Verb UnknownByte
verb_in byte = ok_or (verb_of byte) (record {})

-- how many operand bytes follow it
abbrev pub width_of : Verb → ℕ
width_of verb.Start = 2
width_of verb.Begin = 5
width_of verb.Feed = 9
width_of verb.FeedEight = 65
width_of verb.Seal = 1
width_of verb.Abandon = 1
width_of verb.Clear = 2
width_of verb.Root = 0
width_of verb.Open = 2
width_of verb.Close = 0

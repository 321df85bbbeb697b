-- The sizes of a kind, and what is done to a record of n words at a rate, in words.
use Rattle.std.specs.Prelude.{ℕ, List, ◌+◌, ◌-◌, ◌/◌, ◌%◌, ◌==◌, ◌++◌, cond, codes, decimal}

abbrev pub sizes_text : ℕ → ℕ → ℕ → ℕ → ℕ → List ℕ
sizes_text number c w rate state = codes "number " ++ decimal number ++ codes ", capacity " ++ decimal c ++ codes ", digest " ++ decimal w ++ codes ", rate " ++ decimal rate ++ codes ", state " ++ decimal state

-- the blocks of a record
abbrev pub blocks_text : ℕ → ℕ → List ℕ
blocks_text n rate = codes "record: " ++ decimal n ++ codes " words, " ++ decimal (n / rate) ++ codes " full blocks of " ++ decimal rate ++ codes ", " ++ decimal (n % rate) ++ codes " over"

-- a record of full blocks is not filled
abbrev pub unfilled_text : ℕ → List ℕ
unfilled_text full = codes "filling: none; capacity element 0 starts at 0\nmixings: " ++ decimal full

-- any other is filled by a one and zeros to one block more
abbrev pub filled_text : ℕ → ℕ → List ℕ
filled_text full zeros = codes "filling: one 1 and " ++ decimal zeros ++ codes " zeros; capacity element 0 starts at 1\nmixings: " ++ decimal (full + 1)

abbrev pub filling_text : ℕ → ℕ → List ℕ
filling_text n rate = cond (n % rate == 0) (unfilled_text (n / rate)) (filled_text (n / rate) (rate - n % rate - 1))

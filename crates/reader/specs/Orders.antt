-- The operands of a command as numbers.
use Rattle.std.specs.Prelude.{ℕ, List}
use Rattle.reader.specs.declared.verbs.Verb.{Verb}
use Rattle.reader.specs.declared.verbs.Verb.TheVariants as verb
use Rattle.reader.specs.declared.orders.Order.{Order}
use Rattle.reader.specs.declared.orders.Order.TheVariants as order
use Rattle.reader.specs.Numbers.{little, eight}
use Rattle.reader.specs.Commands.{Read}

-- what a command asks for, by its verb and its operand bytes
abbrev pub ordered : Verb → List ℕ → Order
ordered verb.Start bytes = order.Start (little bytes 0 1) (little bytes 1 1)
ordered verb.Begin bytes = order.Begin (little bytes 0 1) (little bytes 1 2) (little bytes 3 2)
ordered verb.Feed bytes = order.Feed (little bytes 0 1) (little bytes 1 8)
ordered verb.FeedEight bytes = order.FeedEight (little bytes 0 1) (eight bytes 1)
ordered verb.Seal bytes = order.Seal (little bytes 0 1)
ordered verb.Abandon bytes = order.Abandon (little bytes 0 1)
ordered verb.Clear bytes = order.Clear (little bytes 0 2)
ordered verb.Root bytes = order.Root
ordered verb.Open bytes = order.Open (little bytes 0 2)
ordered verb.Close bytes = order.Close

-- the same of a command that was read
abbrev pub order_of : Read → Order
order_of r = ordered r.verb r.operands

-- What one command does to a lot, and the line that it gives.
use Rattle.std.specs.Prelude.{ℕ, ◌*◌, List, replicate}
use Rattle.lines.specs.Lines.{ok_line}
use Rattle.lines.specs.declared.writing.Heading.TheVariants as heading
use Rattle.reader.specs.declared.orders.Order.{Order}
use Rattle.reader.specs.declared.orders.Order.TheVariants as order
use Rattle.reader.specs.declared.fault.ScriptFault.TheVariants as fault
use Rattle.model.specs.Calls.{Call, begin, feed, feed_eight, seal, abandon, clear, root}
use Rattle.model.specs.Lots.{Lot, step}
use Rattle.model.specs.Closed.{Closed, closed_root_call, open_call}
use Rattle.turns.specs.Answers.{answer_line, fault_line, numbers_told}

module _ (c w : ℕ) (F : List ℕ → List ℕ) where
  -- a call that writes nothing
  abbrev pub called : Lot → Call → ℕ → Lot × List ℕ
  called l k at = ((step c w F l k).0, answer_line (step c w F l k).1 ok_line at)

  -- a command to a lot that is filled: the lot after, and the line; commands out of their phase do not come here
  unfoldable pub filled : Lot → Order → ℕ → Lot × List ℕ
  filled l (order.Begin s p n) at = called l (begin s p n) at
  filled l (order.Feed s x) at = called l (feed s x) at
  filled l (order.FeedEight s xs) at = called l (feed_eight s xs) at
  filled l (order.Seal s) at = called l (seal s) at
  filled l (order.Abandon s) at = called l (abandon s) at
  filled l (order.Clear p) at = called l (clear p) at
  filled l order.Root at = let x = step c w F l (root (replicate w 0)) in (l, numbers_told heading.Root (x.1, x.2) at)
  filled l o at = (l, fault_line (fault.OutOfPhase at) at)

module _ (w : ℕ) where
  -- a command to a closed lot: the line
  unfoldable pub asked : Closed → Order → ℕ → List ℕ
  asked l order.Root at = numbers_told heading.Root (closed_root_call w l (replicate w 0)) at
  asked l (order.Open p) at = numbers_told heading.Path (open_call w l p (replicate (l.depth * w) 0)) at
  asked l o at = fault_line (fault.OutOfPhase at) at

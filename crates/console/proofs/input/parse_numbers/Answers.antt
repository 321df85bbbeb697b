use Rattle.std.proofs.Common.{ap, ◌∙◌}
use Rattle.std.specs.Str.Iter.{split_whitespace_rest}
use Rattle.console.proofs.Numbers.{none_seen, one_more, all_seen, begun_by}
use Rattle.console.proofs.input.parse_numbers.Goals as goal

pub loop-i-init : goal.loop-i-init
loop-i-init c = none_seen _ _ _ (ap (λ s. split_whitespace_rest s.iter) c.into_iter-i-iterator.ensures.into_iter_gives ∙ ap split_whitespace_rest c.enumerate-i-items.ensures.source ∙ c.split_whitespace.ensures.rest)

pub loop-i-preserved : goal.loop-i-preserved
loop-i-preserved c = one_more _ _ _ _ _ _ c.in_ok-x.x c.loop-i.invariant (begun_by _ _ _ _ _ _ _ c.in-Some.ensures.steps.0 c.parse.ensures.value.0 c.map_err.ensures.cases c.in_ok-x.was) c.in_ok-push.ensures.items

pub returns : goal.returns
returns c = record { read = all_seen _ _ _ _ c.loop-i.invariant c.in-None.ensures.steps.0.1; refused = tt }

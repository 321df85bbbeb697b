use mathlib.Core.List.{is_set}
use Rattle.std.proofs.Common.{ap}
use Rattle.std.proofs.Math.Nat.{ℕ_set}
use Rattle.rpo_kinds.proofs.mixing.RpoClone.clone.Goals as goal

pub returns : goal.returns
returns g c =
    let it = c.args.self.now in
    record { cases = ap (λ d. record it { derived = d }) (is_set ℕ_set _ _ _ it.derived) }

use Rattle.std.proofs.Common.{rules}
use Rattle.stations.proofs.One.{one_called}
use Rattle.stations.proofs.table.Stations.seal.Goals as goal

pub returns-clause-step : goal.returns-clause-step
returns-clause-step g c = search (rules, one_called)

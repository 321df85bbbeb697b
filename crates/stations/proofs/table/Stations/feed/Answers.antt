use Rattle.std.proofs.Common.{rules}
use Rattle.stations.proofs.One.{one_called}
use Rattle.stations.proofs.table.Stations.feed.Goals as goal

pub returns : goal.returns
returns g c = search (rules, one_called)

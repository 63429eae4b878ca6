use Rattle.rx_client.proofs.Tiled.{run-tiles}
use Rattle.rx_client.proofs.laws.each_item_is_told_once.Goals as goal

pub returns : goal.returns
returns c = run-tiles

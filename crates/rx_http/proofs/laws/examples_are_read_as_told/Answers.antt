-- By computation.
use Rattle.std.proofs.Common.{refl}
use Rattle.rx_http.proofs.laws.examples_are_read_as_told.Goals as goal

pub returns : goal.returns
returns c = record { three_lines = refl; not_finished = refl; no_value = refl; one_space = refl; ends_of_lines = refl }

-- An empty lane that owes nothing stands for no signal yet.
use Rattle.std.proofs.Common.{◌≡◌, [], false, Result, Ok, Err, IfOk, rules}
use Rattle.rx_note.specs.Choices.{Choice}
use Rattle.rx_note.specs.Signals.{Start}
use Rattle.rx_lane.specs.Lanes.{LaneView, StandsFor}
use Rattle.rx_lane.proofs.Followed.{stands_alike}
use Rattle.rx_lane.proofs.lane.Lane.new.Goals as goal

begun : {E : Type 0} (policy : Choice) (made : Result LaneView E) → IfOk made (λ lane. lane.state.policy ≡ policy)
    → IfOk made (λ lane. (lane.state.items ≡ []) × (lane.state.last ≡ []) × (lane.state.ended ≡ false) × (lane.state.owing ≡ 0))
    → IfOk made (λ lane. StandsFor lane.state (Start policy))
begun policy (Ok lane) is rest =
    let first : StandsFor (record { policy = policy; items = []; last = []; ended = false; owing = 0 }) (Start policy) = search rules in
    stands_alike is rest.0 rest.1 rest.2 rest.3 first
begun policy (Err error) is rest = is

pub returns : goal.returns
returns c = begun c.args.policy c.owing.result c.owing.ensures.policy c.owing.ensures.rest

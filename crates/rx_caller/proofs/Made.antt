-- The desks of a server stay those that it made.
use Rattle.std.proofs.Common.{◌≡◌, [], Option, None, Some, MatchOption, sym, ap}
use Rattle.rx_pump.specs.Desks.{DeskView}
use Rattle.rx_server.specs.Servers.{ServerView, with_desk}

module _ {S Rest : Type 0} where
  pub made-same : (r : Option (DeskView S)) (old new : ServerView S Rest) → MatchOption r ((old.desks ≡ []) × (new ≡ old)) (λ desk. old ≡ with_desk desk new) → new.made ≡ old.made
  made-same None old new is = ap (λ (s : ServerView S Rest). s.made) is.1
  made-same (Some desk) old new is = sym (ap (λ (s : ServerView S Rest). s.made) is)

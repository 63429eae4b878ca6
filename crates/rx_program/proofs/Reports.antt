-- What the close of a server of a configuration answered.
use Rattle.std.proofs.Common.{◌≡◌, List, refl, subst, sym, Result, Ok, Err, MatchResult}
use Rattle.rx_config.specs.declared.config.Config.{Config}
use Rattle.rx_pump.specs.declared.call_desk.ended_desk.EndedDesk.{EndedDesk}
use Rattle.rx_server.specs.declared.close.close_fault.CloseFault.{CloseFault}
use Rattle.rx_server.specs.declared.close.report.Report.{Report}
use Rattle.rx_server.specs.Servers.{Closes, Fails, ServerView}
use Rattle.rx_sink.specs.Acts.{Acts}
use Rattle.rx_program.specs.Reporting.{Closed, ClosesWith}

module _ {S Rest : Type 0} (acts : Acts S Rest) where
  -- what the close of a server of a configuration answered
  pub closed-so : (config : Config) (server : ServerView S Rest) (ended : List (EndedDesk S)) (r : Result (Report S Rest) CloseFault) (closed : Closed) → server.config ≡ config
      → MatchResult r (Closes acts server ended) (Fails acts server ended) → MatchResult r (λ report. closed ≡ Ok report.subjects.items) (λ fault. closed ≡ Err fault) → ClosesWith acts config closed
  closed-so config server ended (Ok report) closed same closes is = subst (λ (c : Closed). ClosesWith acts config c) (sym is) (server, ended, report, same, closes, refl)
  closed-so config server ended (Err fault) closed same fails is = subst (λ (c : Closed). ClosesWith acts config c) (sym is) (server, ended, same, fails)

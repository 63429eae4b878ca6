-- What the program has of a server that was closed (this project's own).
use Rattle.std.specs.Prelude.{◌≡◌, ℕ, List, map, Result, Ok, Err, Vec}
use Rattle.rx_config.specs.Configurations.{Settings}
use Rattle.rx_config.specs.declared.config.Config.{Config}
use Rattle.rx_pump.specs.declared.call_desk.ended_desk.EndedDesk.{EndedDesk}
use Rattle.rx_server.specs.declared.close.close_fault.CloseFault.{CloseFault}
use Rattle.rx_server.specs.declared.close.report.Report.{Report}
use Rattle.rx_server.specs.declared.close.report.SubjectReport.{SubjectReport}
use Rattle.rx_server.specs.Servers.{Closes, Fails, ServerView}
use Rattle.rx_sink.specs.Acts.{Acts}

-- the names of the subjects that a configuration says
abbrev pub names_of : Settings → List (List ℕ)
names_of settings = map (λ subject. subject.name) settings.subjects

-- THE SERVER

-- what the close of a server answered: what it reports of each subject, or why there is no report
abbrev pub Closed : Type 0
Closed = Result (List SubjectReport) CloseFault

-- the same, read out of a list in memory
abbrev pub closed_as : {H : Type 0} → Result (Vec SubjectReport H) CloseFault → Closed
closed_as (Ok subjects) = Ok subjects.items
closed_as (Err fault) = Err fault

module _ {S Rest : Type 0} (acts : Acts S Rest) where
  -- a server of this configuration was closed, and answered so
  abbrev pub ClosesWith : Config → Closed → Type 0
  ClosesWith config (Ok subjects) =
      (server : ServerView S Rest) × (ended : List (EndedDesk S)) × (report : Report S Rest) × (server.config ≡ config) × Closes acts server ended report × (subjects ≡ report.subjects.items)
  ClosesWith config (Err fault) =
      (server : ServerView S Rest) × (ended : List (EndedDesk S)) × (server.config ≡ config) × Fails acts server ended fault

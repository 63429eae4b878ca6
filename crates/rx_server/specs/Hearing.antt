-- The server's sentence: what each sink of a closed server took, by the definitions (this project's own rule).
--
-- What the sinks of a closed server took: Of each sink that a drainer had, served to its end or had it put away: what it took
-- is a front of what the definitions give its observer for the history of the letters that its subject's box received, less
-- those refused for want of memory; and all of it where the sink had no fault, and nothing that the subject sent its drainer
-- came behind the word to leave. All is of one choice of marks for each subject, that of closing.
use Rattle.std.specs.Prelude.{◌≡◌, ◌<◌, ◌⊎◌, ℕ, Bool, true, false, List, [], ◌∷◌, ◌++◌, length, Some, slice_get}
use Rattle.std.specs.List.{AllByRecursion}
use Rattle.rx_note.specs.declared.note.Note.{Note}
use Rattle.rx_note.specs.declared.rules.Rules.{Rules}
use Rattle.rx_history.specs.Histories.{given_to}
use Rattle.rx_mailbox.specs.declared.letter.Letter.{Letter}
use Rattle.rx_mailbox.specs.declared.letter.Post.TheVariants.{Bye}
use Rattle.rx_mailbox.specs.Boxes.{Outgoing}
use Rattle.rx_mailbox.specs.Letters.{letter, share}
use Rattle.rx_mailbox.specs.Passes.{SettledView}
use Rattle.rx_pump.specs.declared.call_desk.ended_desk.EndedDesk.{EndedDesk}
use Rattle.rx_pump.specs.declared.out.Out.{Out}
use Rattle.rx_pump.specs.declared.pump.pump_end.PumpEnd.{PumpEnd}
use Rattle.rx_pump.specs.Marks.{Marked, history_of}
use Rattle.rx_pump.specs.Pumps.{PumpView}
use Rattle.rx_sink.specs.Acts.{Acts}
use Rattle.rx_sink.specs.Attachments.{Why, TookLast, Detached, Closed, FailedAtStart, FailedAt, FailedAtFlush}
use Rattle.rx_drain.specs.declared.drainer.drain_end.DrainEnd.{DrainEnd}
use Rattle.rx_drain.specs.Drainers.{DrainerView}
use Rattle.rx_drain.specs.Logs.{Log, letters, gone_in}
use Rattle.rx_drain.specs.Serving.{DrainerServes}
use Rattle.rx_server.specs.declared.close.report.Report.{Report}
use Rattle.rx_server.specs.Servers.{Closes, ServerView}

-- these are the first of those
abbrev pub IsFrontOf : List Note → List Note → Type 0
IsFrontOf notes all = (rest : List Note) × (notes ++ rest ≡ all)

module _ {S : Type 0} where
  -- each sink that a drainer had for an observer of the subject of this port took a front of what the history of that subject's
  -- letters gives that observer
  abbrev pub HearEach : Rules → Marked S → ℕ → ℕ → Log S → Type 0
  HearEach rules B port leave log =
      AllByRecursion (λ end. end.0.subject ≡ port → IsFrontOf end.0.taken (given_to rules (history_of B) end.0.who)) (gone_in leave log)

-- whether a sink was put away without a fault: after a terminal, since its observer left, or as the drainer was told to leave
abbrev pub is_faultless : Why → Bool
is_faultless TookLast = true
is_faultless Detached = true
is_faultless Closed = true
is_faultless FailedAtStart = false
is_faultless (FailedAt note) = false
is_faultless FailedAtFlush = false

module _ {S : Type 0} where
  -- each of those that had no fault took all of it
  abbrev pub HearAll : Rules → Marked S → ℕ → ℕ → Log S → Type 0
  HearAll rules B port leave log =
      AllByRecursion (λ end. end.0.subject ≡ port → is_faultless end.1 ≡ true → end.0.taken ≡ given_to rules (history_of B) end.0.who) (gone_in leave log)

  -- behind the Bye of the leave port came nothing of this port but its Bye: the drainer was told to leave once all had come
  abbrev pub LeavesBehind : ℕ → ℕ → List (Letter (Out S)) → Type 0
  LeavesBehind port leave came =
      (before behind : List (Letter (Out S))) → came ≡ before ++ letter leave Bye ∷ behind → (share port behind ≡ []) ⊎ (share port behind ≡ letter port Bye ∷ [])

  pub record Hears (rules : Rules) (B : Marked S) (port leave : ℕ) (log : Log S) : Type 0 where
    pub front : HearEach rules B port leave log
    pub all : port < leave → LeavesBehind port leave (letters log) → HearAll rules B port leave log

module _ {S Rest : Type 0} (acts : Acts S Rest) where
  -- of a server that was closed, for each subject and each drainer: by the choice of marks of the subject's letters, and by any
  -- choice of marks of the drainer's
  abbrev pub EachSinkHears : Type 0
  EachSinkHears =
      (server : ServerView S Rest) (ended : List (EndedDesk S)) (report : Report S Rest) (closes : Closes acts server ended report)
      → (i : ℕ) (pump : PumpView S) (end : PumpEnd S) (B : Marked S)
      → slice_get server.pumps i ≡ Some pump → slice_get closes.pump_ends i ≡ Some end → slice_get closes.marks i ≡ Some B
      → (d : ℕ) (port : Outgoing (Out S)) (drainer : DrainerView S Rest) (last : DrainEnd S Rest) (box : SettledView (Out S)) (log : Log S)
      → slice_get end.drainers.items d ≡ Some port → slice_get closes.drain_ends d ≡ Some last → slice_get report.boxes.drainers.items d ≡ Some box
      → DrainerServes acts drainer last log → Hears pump.hub.state.rules B port.number (length last.ports.items) log

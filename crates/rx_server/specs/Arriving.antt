-- What arrived of a server's letters once it is closed (this project's own rule).
use Rattle.std.specs.Prelude.{◌≡◌, ◌≤◌, ℕ, List, [], ◌∷◌, ◌++◌, length, Some, slice_get}
use Rattle.std.specs.List.{Contains}
use Rattle.rx_drain.specs.declared.drainer.drain_end.DrainEnd.{DrainEnd}
use Rattle.rx_mailbox.specs.declared.letter.Letter.{Letter}
use Rattle.rx_mailbox.specs.declared.letter.Post.TheVariants.{Bye}
use Rattle.rx_mailbox.specs.Boxes.{Outgoing}
use Rattle.rx_mailbox.specs.Letters.{letter, share, posts}
use Rattle.rx_mailbox.specs.Passes.{SettledView}
use Rattle.rx_pump.specs.declared.call.Call.{Call}
use Rattle.rx_pump.specs.declared.call_desk.ended_desk.EndedDesk.{EndedDesk}
use Rattle.rx_pump.specs.declared.out.Out.{Out}
use Rattle.rx_pump.specs.declared.pump.pump_end.PumpEnd.{PumpEnd}
use Rattle.rx_pump.specs.declared.reply.Reply.{Reply}
use Rattle.rx_pump.specs.Marks.{Marked, letters_of, replies, route}
use Rattle.rx_pump.specs.Opened.{opened, opened_port}
use Rattle.rx_pump.specs.Pumps.{PumpView}
use Rattle.rx_sink.specs.Acts.{Acts}
use Rattle.rx_server.specs.declared.close.report.Report.{Report}
use Rattle.rx_server.specs.Servers.{Closes, ServerView}

module _ {S : Type 0} where
  -- what the letters of a subject stand for are the marked ones; what the box of each drainer received of its pump is the drainer's route and a
  -- Bye; and what the box of the replies to each desk received of it are the replies to the desk and a Bye
  pub record HasArrived (pump : PumpView S) (end : PumpEnd S) (B : Marked S) (box : SettledView (Call S)) (drainers : List (SettledView (Out S))) (desks : List (SettledView (Reply S))) : Type 0 where
    pub letters : letters_of B ≡ opened (length end.replies.items) box.received
    pub routes :
        (d : ℕ) (port : Outgoing (Out S)) (outs : SettledView (Out S)) → slice_get end.drainers.items d ≡ Some port → slice_get drainers d ≡ Some outs
        → share port.number outs.received ≡ posts port.number (route pump.hub.state.rules (length pump.drainers) d B) ++ letter port.number Bye ∷ []
    pub replied :
        (w : ℕ) (port : Outgoing (Reply S)) (answers : SettledView (Reply S)) → slice_get end.replies.items w ≡ Some port → slice_get desks w ≡ Some answers
        → share port.number answers.received ≡ posts port.number (replies pump.hub.state.rules w B) ++ letter port.number Bye ∷ []

module _ {S Rest : Type 0} (acts : Acts S Rest) where
  -- of a server that was closed the letters of each subject arrived, by its choice of marks
  abbrev pub EachLetterArrives : Type 0
  EachLetterArrives =
      (server : ServerView S Rest) (ended : List (EndedDesk S)) (report : Report S Rest) (closes : Closes acts server ended report)
      → (i : ℕ) (pump : PumpView S) (end : PumpEnd S) (B : Marked S) (box : SettledView (Call S))
      → slice_get server.pumps i ≡ Some pump → slice_get closes.pump_ends i ≡ Some end → slice_get closes.marks i ≡ Some B → slice_get report.boxes.subjects.items i ≡ Some box
      → HasArrived pump end B box report.boxes.drainers.items report.boxes.replies.items

module _ {S : Type 0} where
  -- a desk and a subject met by the desk's port and the pump's port back: what the subject received of the desk is all that the desk
  -- put, and what the desk received of the subject is the first of the replies to its port, and of the Bye behind them
  pub record IsAnswered (pump : PumpView S) (B : Marked S) (port : Outgoing (Call S)) (back : Outgoing (Reply S)) (desk : EndedDesk S) : Type 0 where
    pub calls : share port.number (letters_of B) ≡ port.own
    pub more : List (Letter (Reply S))
    pub came : share back.number desk.inbox.received ++ more ≡ posts back.number (replies pump.hub.state.rules port.number B) ++ letter back.number Bye ∷ []

module _ {S Rest : Type 0} (acts : Acts S Rest) where
  -- of a server that was closed each desk and each subject met so
  abbrev pub EachDeskIsAnswered : Type 0
  EachDeskIsAnswered =
      (server : ServerView S Rest) (ended : List (EndedDesk S)) (report : Report S Rest) (closes : Closes acts server ended report)
      → (i : ℕ) (pump : PumpView S) (end : PumpEnd S) (B : Marked S) (box : SettledView (Call S))
      → slice_get server.pumps i ≡ Some pump → slice_get closes.pump_ends i ≡ Some end → slice_get closes.marks i ≡ Some B → slice_get report.boxes.subjects.items i ≡ Some box
      → (desk : EndedDesk S) (port : Outgoing (Call S)) (back : Outgoing (Reply S)) → Contains (ended ++ (server.kept ++ closes.finished)) desk
      → slice_get desk.ports.items i ≡ Some port → slice_get end.replies.items port.number ≡ Some back → IsAnswered pump B port back desk

  -- and what each subject received of a drainer is all that the drainer put, each letter as those for which it stands: to a port
  -- that is told no replies, as a drainer's, whatever others are told
  abbrev pub EachRequestArrives : Type 0
  EachRequestArrives =
      (server : ServerView S Rest) (ended : List (EndedDesk S)) (report : Report S Rest) (closes : Closes acts server ended report)
      → (i : ℕ) (pump : PumpView S) (end : PumpEnd S) (B : Marked S) (box : SettledView (Call S))
      → slice_get server.pumps i ≡ Some pump → slice_get closes.pump_ends i ≡ Some end → slice_get closes.marks i ≡ Some B → slice_get report.boxes.subjects.items i ≡ Some box
      → (drainer : DrainEnd S Rest) (port : Outgoing (Call S)) → Contains closes.drain_ends drainer → slice_get drainer.ports.items i ≡ Some port
      → (share port.number (letters_of B) ≡ opened (length end.replies.items) port.own)
      × (length end.replies.items ≤ port.number → share port.number (letters_of B) ≡ (opened_port port).own)

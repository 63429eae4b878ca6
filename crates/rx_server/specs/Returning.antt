-- What comes back of the boxes of a server, as its parts end (this project's own rule).
--
-- Closing: Handed in are desks of this server, each ended. Where a report is answered, each pump and each drainer has served
-- as its own promise says, and each box that the server made has settled and is empty: the box of a subject is the one that
-- its pump received from, the box of a drainer that which the drainer received from, and the box of the replies to a desk
-- received beside what the desk had received only what was still on its way. Each port came back just once, and of each its
-- box received all that it put, in its order: to the subjects sent the desks, whether they were handed in, were those of the
-- workers or were not handed out, and the drainers; to the drainers the pumps and the port that tells them to leave; to the
-- desks the pumps. So with the marks of the pumps, of which there is one choice for all of this, what a drainer was sent is
-- the route of its subjects, what a subject received of a drainer is what that sent, and what a desk was answered is the
-- first of the replies to its calls. The report counts what pumps and drainers counted: of each subject its calls, those
-- refused and its joins; the notes taken; and what was put away, drainer by drainer, kept where the drainer kept it, so that
-- the report of a server that `start` made has all of it. A fault `Ended` names the first pump that stopped at a fault of its
-- own, or where all pumps served the first such drainer; all threads are over then. `Unsettled` says that all threads served
-- to their end, and that not each desk of the server came back just once, by hand, of its workers or ended by the close: where
-- each did, a report is answered; and where one is answered, each desk came back once. No port is refused for want of room.
use Rattle.std.specs.Prelude.{◌≡◌, ◌==◌, ◌<◌, ◌+◌, ◌++◌, ◌⊎◌, ℕ, List, [], ◌∷◌, length, map}
use Rattle.std.specs.List.{All, AllZip, FoldsTo, count_by}
use Rattle.rx_drain.specs.declared.drainer.drain_end.DrainEnd.{DrainEnd}
use Rattle.rx_mailbox.specs.Boxes.{Outgoing}
use Rattle.rx_mailbox.specs.Passes.{SettledView}
use Rattle.rx_pump.specs.declared.call.Call.{Call}
use Rattle.rx_pump.specs.declared.call_desk.ended_desk.EndedDesk.{EndedDesk}
use Rattle.rx_pump.specs.declared.out.Out.{Out}
use Rattle.rx_pump.specs.declared.pump.pump_end.PumpEnd.{PumpEnd}
use Rattle.rx_pump.specs.declared.reply.Reply.{Reply}
use Rattle.rx_server.specs.declared.close.close_fault.CloseCause.TheVariants.{Unsettled}
use Rattle.rx_server.specs.declared.close.close_fault.CloseFault.{CloseFault}
use Rattle.rx_server.specs.declared.close.returned.Returned.{Returned}
use Rattle.rx_server.specs.declared.wired.start_fault.Role.{Role}
use Rattle.rx_server.specs.declared.wired.start_fault.Role.TheVariants.{Drainer, Pump, Worker}
use Rattle.rx_mailbox.specs.Parts.{FirstUnsettled, IsEmpty, LacksInbox, PartsView, Settles, dealt, dealt_each, with_inboxes, placed}

module _ {S : Type 0} where
  -- nothing came back yet of so many boxes, and there is room for each port that was made of them
  pub record AreEmpty (subjects drainers desks : ℕ) (parts : Returned S) : Type 0 where
    pub subject_count : length parts.subjects.items ≡ subjects
    pub drainer_count : length parts.drainers.items ≡ drainers
    pub reply_count : length parts.replies.items ≡ desks
    pub subjects_empty : All (IsEmpty (desks + drainers)) parts.subjects.items
    pub drainers_empty : All (IsEmpty (subjects + 1)) parts.drainers.items
    pub replies_empty : All (IsEmpty subjects) parts.replies.items

  -- the number of a desk among those that were made: its ports have it
  abbrev pub number_of : List (Outgoing (Call S)) → ℕ
  number_of [] = 0
  number_of (port ∷ ports) = port.number

  -- the inbox of a desk came back, which had not
  abbrev pub ReturnsInbox : List (PartsView (Reply S)) → EndedDesk S → List (PartsView (Reply S)) → Type 0
  ReturnsInbox before desk after =
      LacksInbox (number_of desk.ports.items) before × (after ≡ placed (number_of desk.ports.items) desk.inbox before)

  -- desks came back, one after another: their ports to the boxes of the subjects, and their inboxes
  pub record HaveReturned (desks : List (EndedDesk S)) (calls calls_after : List (PartsView (Call S))) (answers answers_after : List (PartsView (Reply S))) : Type 0 where
    pub ports : calls_after ≡ dealt_each (map (λ desk. desk.ports.items) desks) calls
    pub inboxes : FoldsTo ReturnsInbox answers desks answers_after

  -- one of these desks came back, and its inbox had before: as the boxes were, and by the desks in front of it
  pub record ComesAgain (before : List (PartsView (Reply S))) (desks : List (EndedDesk S)) : Type 0 where
    pub first : List (EndedDesk S)
    pub desk : EndedDesk S
    pub rest : List (EndedDesk S)
    pub parts : first ++ desk ∷ rest ≡ desks
    pub came : List (PartsView (Reply S))
    pub inboxes : FoldsTo ReturnsInbox before first came
    pub there : ¬ LacksInbox (number_of desk.ports.items) came

  -- two of these desks have one number
  pub record CameTwice (desks : List (EndedDesk S)) : Type 0 where
    pub first : List (EndedDesk S)
    pub one : EndedDesk S
    pub between : List (EndedDesk S)
    pub other : EndedDesk S
    pub rest : List (EndedDesk S)
    pub parts : first ++ one ∷ (between ++ other ∷ rest) ≡ desks
    pub same : number_of one.ports.items ≡ number_of other.ports.items

  -- of so many desks each came back once
  abbrev pub EachDeskOnce : ℕ → List (EndedDesk S) → Type 0
  EachDeskOnce made desks = (number : ℕ) → number < made → count_by (λ desk. number_of desk.ports.items == number) desks ≡ 1

  -- the box that counts as this thread is the first that cannot settle, pumps before drainers before workers: those before it did
  abbrev pub IsUnsettledAt : Role → ℕ → List (PartsView (Call S)) → List (PartsView (Out S)) → List (PartsView (Reply S)) → Type 0
  IsUnsettledAt Pump place calls outs answers = (settled : List (SettledView (Call S))) × FirstUnsettled calls settled place
  IsUnsettledAt Drainer place calls outs answers =
      ((settled : List (SettledView (Call S))) × AllZip Settles calls settled)
      × ((settled : List (SettledView (Out S))) × FirstUnsettled outs settled place)
  IsUnsettledAt Worker place calls outs answers =
      ((settled : List (SettledView (Call S))) × AllZip Settles calls settled)
      × ((settled : List (SettledView (Out S))) × AllZip Settles outs settled)
      × ((settled : List (SettledView (Reply S))) × FirstUnsettled answers settled place)

module _ {S Rest : Type 0} where
  -- all came back to boxes to which nothing had: to those of the subjects the inboxes of the pumps, and the ports of the drainers
  -- and the desks; to those of the drainers their inboxes, and the ports of the pumps and those that tell them to leave; to those
  -- of the replies the ports of the pumps, and the inboxes of the desks
  pub record HaveComeBack (start : Returned S) (leaves : List (Outgoing (Out S))) (desks : List (EndedDesk S)) (pumps : List (PumpEnd S)) (drainers : List (DrainEnd S Rest))
      (calls : List (PartsView (Call S))) (outs : List (PartsView (Out S))) (answers : List (PartsView (Reply S))) : Type 0 where
    pub subjects_are : calls ≡ dealt_each (map (λ desk. desk.ports.items) desks) (dealt_each (map (λ end. end.ports.items) drainers) (with_inboxes (map (λ end. end.inbox) pumps) start.subjects.items))
    pub drainers_are : outs ≡ dealt leaves (with_inboxes (map (λ end. end.inbox) drainers) (dealt_each (map (λ end. end.drainers.items) pumps) start.drainers.items))
    pub replies_are : FoldsTo ReturnsInbox (dealt_each (map (λ end. end.replies.items) pumps) start.replies.items) desks answers

  -- with what came back to new boxes, as many as there are pumps, drainers and workers, the one that counts as this thread is
  -- the first that cannot settle
  pub record IsFirstUnsettled (workers : ℕ) (leaves : List (Outgoing (Out S))) (desks : List (EndedDesk S)) (pumps : List (PumpEnd S)) (drainers : List (DrainEnd S Rest)) (role : Role) (place : ℕ) : Type 0 where
    pub start : Returned S
    pub nothing_came : AreEmpty (length pumps) (length drainers) workers start
    pub calls : List (PartsView (Call S))
    pub outs : List (PartsView (Out S))
    pub answers : List (PartsView (Reply S))
    pub came : HaveComeBack start leaves desks pumps drainers calls outs answers
    pub stops : IsUnsettledAt role place calls outs answers

  -- a box of a server of so many workers did not settle: a desk came back twice, and with it a port of each subject's box, of which
  -- the first is named; or the one that is named is the first that cannot settle
  abbrev pub Unsettles : ℕ → List (Outgoing (Out S)) → List (EndedDesk S) → List (PumpEnd S) → List (DrainEnd S Rest) → CloseFault → Type 0
  Unsettles workers leaves desks pumps drainers fault =
      (fault.cause ≡ Unsettled)
      × ((CameTwice desks × (fault.thread ≡ Pump) × (fault.index ≡ 0)) ⊎ IsFirstUnsettled workers leaves desks pumps drainers fault.thread fault.index)

  -- with what came back so, these are the boxes of the subjects that settled
  pub record HaveSettledSo (workers : ℕ) (leaves : List (Outgoing (Out S))) (desks : List (EndedDesk S)) (pumps : List (PumpEnd S)) (drainers : List (DrainEnd S Rest)) (settled : List (SettledView (Call S))) : Type 0 where
    pub start : Returned S
    pub nothing_came : AreEmpty (length pumps) (length drainers) workers start
    pub calls : List (PartsView (Call S))
    pub outs : List (PartsView (Out S))
    pub answers : List (PartsView (Reply S))
    pub came : HaveComeBack start leaves desks pumps drainers calls outs answers
    pub settle : AllZip Settles calls settled

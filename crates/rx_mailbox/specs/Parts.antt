-- What came back of boxes that end, and when they settle (this project's own rule).
use Rattle.std.specs.Prelude.{◌≡◌, ◌+◌, ◌≤◌, ℕ, zero, suc, List, [], ◌∷◌, ◌++◌, length, take, Option, None, Some, slice_get}
use Rattle.std.specs.List.{All, AllZip}
use Rattle.rx_mailbox.specs.Boxes.{AreOf, HasEachBye, Incoming, Outgoing}
use Rattle.rx_mailbox.specs.Passes.{IsEmptied, SettledView, inbox_in}
use Rattle.rx_mailbox.specs.Rests.{ReceivesMore}
use Rattle.rx_mailbox.specs.Settling.{GotAll, IsEachOnce}

-- of a box: its inbox, where that came back, the ended ports that came back, and for how many there is room
pub record PartsView (B : Type 0) : Type 0 where
  pub inbox : Option (Incoming B)
  pub ports : List (Outgoing B)
  pub room : ℕ

-- how many are missing of one that may have come
abbrev pub lacking : {X : Type 0} → Option X → ℕ
lacking None = 1
lacking (Some x) = 0

module _ {B : Type 0} where
  -- nothing came back yet, and there is room for so many ports
  pub record IsEmpty (senders : ℕ) (parts : PartsView B) : Type 0 where
    pub no_inbox : parts.inbox ≡ None
    pub no_ports : parts.ports ≡ []
    pub fits : senders ≤ parts.room

  -- there is room for so many ports more
  abbrev pub HasRoom : ℕ → PartsView B → Type 0
  HasRoom more parts = length parts.ports + more ≤ parts.room

  -- there is room for none
  abbrev pub IsFull : PartsView B → Type 0
  IsFull parts = length parts.ports ≡ parts.room

  -- that is so of the box at this place
  abbrev pub IsFullAt : ℕ → List (PartsView B) → Type 0
  IsFullAt place boxes = (parts : PartsView B) × (slice_get boxes place ≡ Some parts) × IsFull parts

  -- its inbox came back
  abbrev pub with_inbox : Incoming B → PartsView B → PartsView B
  with_inbox inbox parts = record { inbox = Some inbox; ports = parts.ports; room = parts.room }

  -- one port more came back
  abbrev pub with_port : Outgoing B → PartsView B → PartsView B
  with_port port parts = record { inbox = parts.inbox; ports = parts.ports ++ port ∷ []; room = parts.room }

  -- a row of ports came back, one of each box
  abbrev pub dealt : List (Outgoing B) → List (PartsView B) → List (PartsView B)
  dealt [] boxes = boxes
  dealt (port ∷ ports) [] = []
  dealt (port ∷ ports) (parts ∷ boxes) = with_port port parts ∷ dealt ports boxes

  -- rows of ports came back, one after another
  abbrev pub dealt_each : List (List (Outgoing B)) → List (PartsView B) → List (PartsView B)
  dealt_each [] boxes = boxes
  dealt_each (ports ∷ rows) boxes = dealt_each rows (dealt ports boxes)

  -- the inboxes of the first boxes came back
  abbrev pub with_inboxes : List (Incoming B) → List (PartsView B) → List (PartsView B)
  with_inboxes [] boxes = boxes
  with_inboxes (inbox ∷ inboxes) [] = []
  with_inboxes (inbox ∷ inboxes) (parts ∷ boxes) = with_inbox inbox parts ∷ with_inboxes inboxes boxes

  -- the inbox of the box at this place came back
  abbrev pub placed : ℕ → Incoming B → List (PartsView B) → List (PartsView B)
  placed place inbox [] = []
  placed zero inbox (parts ∷ boxes) = with_inbox inbox parts ∷ boxes
  placed (suc place) inbox (parts ∷ boxes) = parts ∷ placed place inbox boxes

  -- the inbox of the box at this place had not come back
  abbrev pub LacksInbox : ℕ → List (PartsView B) → Type 0
  LacksInbox place boxes = (parts : PartsView B) → slice_get boxes place ≡ Some parts → parts.inbox ≡ None

  -- how many inboxes have not come back
  abbrev pub missing : List (PartsView B) → ℕ
  missing [] = 0
  missing (parts ∷ boxes) = lacking parts.inbox + missing boxes

  -- SETTLING

  -- its inbox and ports belong to one box
  abbrev pub AreOfOneBox : PartsView B → Type 0
  AreOfOneBox parts = (inbox : Incoming B) → parts.inbox ≡ Some inbox → AreOf inbox parts.ports

  -- it settled: each port came back once, each Bye was received, and so all that the ports put; it is empty
  pub record Settles (parts : PartsView B) (settled : SettledView B) : Type 0 where
    pub inbox : Incoming B
    pub came : parts.inbox ≡ Some inbox
    pub received : ReceivesMore inbox (inbox_in settled)
    pub each_once : IsEachOnce settled.ports parts.ports
    pub each_bye : HasEachBye (inbox_in settled)
    pub got : All (GotAll (inbox_in settled)) parts.ports
    pub emptied : IsEmptied settled

  -- its inbox did not come back, or not each port came back once
  abbrev pub CannotSettle : PartsView B → Type 0
  CannotSettle parts = (inbox : Incoming B) → parts.inbox ≡ Some inbox → ¬ IsEachOnce inbox.ports parts.ports

  -- the one at this place is the first that cannot settle
  pub record FirstUnsettled (boxes : List (PartsView B)) (settled : List (SettledView B)) (place : ℕ) : Type 0 where
    pub before : AllZip Settles (take place boxes) settled
    pub parts : PartsView B
    pub stood : slice_get boxes place ≡ Some parts
    pub cannot : CannotSettle parts

-- What contracts see of the state of a subject and its observers.
use Rattle.std.specs.Prelude.{[]}
use Rattle.rx_note.specs.declared.rules.Rules.{Rules}
use Rattle.rx_subject.specs.Subjects.{subject_at_first}
use Rattle.rx_hub.specs.declared.multicast.Multicast.{Multicast}
use Rattle.rx_hub.specs.Hubs.{HubState}
use Rattle.rx_hub.specs.States.{state_by}

-- the subject over the items of the tape, and its observers
abbrev pub state_of : Multicast → HubState
state_of multicast = state_by multicast.limits multicast.subject multicast.joins multicast.audience

-- the state with no event yet
abbrev pub state_at_first : Rules → HubState
state_at_first rules = record { rules = rules; subject = subject_at_first rules.kind; joined = 0; observers = [] }

-- What is known of what a line asks by the name of its subject, and by the event that was made of it.
use Rattle.std.proofs.Common.{◌≡◌, ℕ, Bool, true, false, ◌||◌, List, Some, Ok, Err, refl, ap}
use Rattle.rx_heap.specs.declared.refused.Memory.{Memory}
use Rattle.rx_note.specs.declared.event.Event.{Event}
use Rattle.rx_script.specs.declared.asked.Asked.{Asked}
use Rattle.rx_script.specs.declared.asked.Asked.TheVariants as asked
use Rattle.rx_script.specs.Asking.{MakesEvent, name_asked}
use Rattle.rx_script.specs.Transcripts.{Subject, has_text, takes_it_with_memory, wants_memory_for}

-- some event is asked for
pub record AsksEvent (a : Asked) (name : List ℕ) : Type 0 where
  pub event : Event
  pub is : a ≡ asked.Event name event

pub some_asked : (a : Asked) (name : List ℕ) → name_asked a ≡ Some name → AsksEvent a name
some_asked (asked.Event other event) name same = record { event = event; is = cc }
some_asked (asked.At moment) name same = cc
some_asked (asked.Hello number) name same = cc
some_asked asked.Quit name same = cc

-- the event that was made is asked for
pub event_asked : (a : Asked) (name : List ℕ) (event : Event) → name_asked a ≡ Some name → MakesEvent (Ok event) a → a ≡ asked.Event name event
event_asked (asked.Event other wanted) name event same made = cc
event_asked (asked.At moment) name event same made = absurd made
event_asked (asked.Hello number) name event same made = absurd made
event_asked asked.Quit name event same made = absurd made

-- an event with a text is asked for
pub record AsksText (a : Asked) (name : List ℕ) : Type 0 where
  pub event : Event
  pub is : a ≡ asked.Event name event
  pub text : has_text event ≡ true

pub text_asked : (a : Asked) (name : List ℕ) (memory : Memory) → name_asked a ≡ Some name → MakesEvent (Err memory) a → AsksText a name
text_asked (asked.Event other event) name memory same text = record { event = event; is = cc; text = text }
text_asked (asked.At moment) name memory same text = absurd text
text_asked (asked.Hello number) name memory same text = absurd text
text_asked asked.Quit name memory same text = absurd text

either : (a b : Bool) → b ≡ true → (a || b) ≡ true
either true b is = refl
either false b is = is

-- memory is taken for an event with a text
pub wants-text : (event : Event) (subject : Subject) → has_text event ≡ true → wants_memory_for event subject ≡ true
wants-text event subject text = ap (λ b. b || takes_it_with_memory event subject) text

-- memory is taken for an event that the subject accepts with memory
pub wants-event : (event : Event) (subject : Subject) → takes_it_with_memory event subject ≡ true → wants_memory_for event subject ≡ true
wants-event event subject takes = either (has_text event) (takes_it_with_memory event subject) takes

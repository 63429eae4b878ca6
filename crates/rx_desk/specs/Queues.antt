-- Notes that a session's desk began to emit, and whose responses are still to come: a moment was told for each as it was begun, and
-- its call was posted, or waits (this project's own rule).
use Rattle.std.specs.Prelude.{◌≡◌, ◌≢◌, ◌-◌, ◌^◌, ◌<◌, ℕ, List, [], ◌∷◌, ◌++◌, length, map, None, Some}
use Rattle.rx_note.specs.declared.event.Event.TheVariants.{Emit}
use Rattle.rx_pump.specs.Desks.{DeskView, IsSent, KeepsDesk}
use Rattle.rx_session.specs.Begun.{Asked}
use Rattle.rx_config.specs.declared.subject_config.SubjectConfig.{SubjectConfig}
use Rattle.rx_desk.specs.declared.begun_call.BegunCall.{BegunCall}
use Rattle.rx_desk.specs.declared.client_sink.ClientSink.{ClientSink}
use Rattle.rx_desk.specs.SessionDesks.{SessionView, place_of}

-- a note may be begun behind so many: these are just what is begun, no call of theirs waits, and there is room for one more
pub record GoesBehind {M S : Type 0} (now : SessionView M S) (behind : ℕ) : Type 0 where
  pub none_waits : now.queue.waiting ≡ []
  pub count : length now.queue.posted ≡ behind
  pub room : length now.queue.posted < 32

-- one call more waits
abbrev pub with_waiting : {M S : Type 0} → BegunCall → SessionView M S → SessionView M S
with_waiting call now = record {
  subjects = now.subjects;
  window = now.window;
  moments = now.moments;
  calls = now.calls;
  joined = now.joined;
  queue = record { posted = now.queue.posted; waiting = now.queue.waiting ++ call ∷ [] };
}

-- a moment was told for each of these notes, and these are their calls, each to the first subject of its name
abbrev pub TellsEach : {M : Type 0} → (M → ℕ → M → Type 0) → List SubjectConfig → M → List Asked → List BegunCall → M → Type 0
TellsEach tells subjects before [] [] after = after ≡ before
TellsEach tells subjects before [] (call ∷ calls) after = ⊥
TellsEach tells subjects before (asked ∷ begun) [] after = ⊥
TellsEach {M = M} tells subjects before (asked ∷ begun) (call ∷ calls) after =
    (at : ℕ) × (then : M) × tells before at then × (call.event ≡ Emit asked.note at) × (place_of asked.name subjects ≡ Some call.place)
    × TellsEach tells subjects then begun calls after

-- a desk posted its next call. Whether it is over now is not said: an answer that came since may have made it so
pub record PostsOne {S : Type 0} (before after : DeskView S) (call : BegunCall) : Type 0 where
  pub goes : before.tickets ≢ 2 ^ 64 - 1
  pub sent : IsSent before after call.place call.event None
  pub kept : KeepsDesk before after
  pub inbox : after.inbox ≡ before.inbox
  pub is_over : after.is_over ≡ before.is_over

-- these calls were posted, one after another
abbrev pub PostsEach : {S : Type 0} → DeskView S → List BegunCall → DeskView S → Type 0
PostsEach before [] after = after ≡ before
PostsEach {S = S} before (call ∷ calls) after = (then : DeskView S) × PostsOne before then call × PostsEach then calls after

-- a desk in whose queue nothing was came to have begun these notes: their moments were told, the calls of the first were posted, and
-- those of the others wait
pub record Waits {M W : Type 0} (tells : M → ℕ → M → Type 0) (base : SessionView M (ClientSink W)) (begun : List Asked) (now : SessionView M (ClientSink W)) : Type 0 where
  pub none_waits : base.queue.waiting ≡ []
  pub none_posted : base.queue.posted ≡ []
  pub posted : List BegunCall
  pub told : TellsEach tells base.subjects base.moments begun (posted ++ now.queue.waiting) now.moments
  pub calls : PostsEach base.calls posted now.calls
  pub places : now.queue.posted ≡ map (λ call. call.place) posted
  pub subjects : now.subjects ≡ base.subjects
  pub window : now.window ≡ base.window
  pub joined : now.joined ≡ base.joined

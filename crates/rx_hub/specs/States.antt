-- What contracts see of a subject and its observers by their parts, and that some history led there.
use Rattle.std.specs.Prelude.{ℕ}
use Rattle.rx_note.specs.declared.limits.Limits.{Limits}
use Rattle.rx_history.specs.Histories.{History}
use Rattle.rx_subject.specs.TapeSubjects.{TapeSubjectState, subject_on}
use Rattle.rx_hub.specs.Audiences.{AudienceState}
use Rattle.rx_hub.specs.Hubs.{HubState, StandsFor}

-- the subject over the items of the tape, and its observers
abbrev pub state_by : Limits → TapeSubjectState → ℕ → AudienceState → HubState
state_by limits subject joins audience = record {
  rules = record { kind = subject.kind; limits = limits };
  subject = subject_on audience.items subject;
  joined = joins;
  observers = audience.observers;
}

-- there is a history that it stands for
abbrev pub IsOfHistory : HubState → Type 0
IsOfHistory hub = ∥ ((H : History) × StandsFor hub H) ∥₁

-- A hub stands for some history, whatever was done to it; so nobody has ended before the subject but by an overflow.
use Rattle.std.proofs.Common.{◌≡◌, ℕ, zero, suc, ◌==◌, ◌<◌, Bool, true, false, List, [], ◌∷◌, length, get_or, Option, None, Some, Result, MatchBool, is_some, inl, inr, refl, sym, ap, subst, ◌∙◌, arith}
use mathlib.Core.Logic.{∥∥₁_map}
use Rattle.std.specs.List.{list_any}
use Rattle.std.proofs.lemmas.Bool.{cases_Bool, false≢true}
use Rattle.std.proofs.lemmas.Grind.{merely, not_there}
use Rattle.std.proofs.lemmas.List.{length-map, get_or-map}
use Rattle.rx_note.specs.declared.given.Given.{Given}
use Rattle.rx_note.specs.declared.item.Item.{Item}
use Rattle.rx_note.specs.declared.answer.Answer.{Answer}
use Rattle.rx_note.specs.declared.refusal.Refusal.{Refusal}
use Rattle.rx_note.specs.Choices.{Choice}
use Rattle.rx_note.specs.Signals.{Signals, may_overflow, policy_of, terminal_of}
use Rattle.rx_history.specs.Histories.{Entry, History, NoEvents, ◌▹◌, end_of, held, signals}
use Rattle.rx_history.proofs.Endings.{ends_as_subject}
use Rattle.rx_lane.specs.Lanes.{MayBeSent}
use Rattle.rx_note.specs.declared.limits.Limits.{Limits}
use Rattle.rx_note.specs.declared.rules.Rules.{Rules}
use Rattle.rx_subject.specs.Subjects as subjects
use Rattle.rx_subject.specs.TapeSubjects.{TapeSubjectState, subject_on}
use Rattle.rx_subject.proofs.Standing.{not_ended}
use Rattle.rx_hub.specs.declared.seat.Seat.{Seat}
use Rattle.rx_hub.specs.declared.seat.Seat.TheVariants.{Shared, Own}
use Rattle.rx_hub.specs.Seats.{TakesMore}
use Rattle.rx_hub.specs.Subscriptions.{Observer, numbers, AllStand}
use Rattle.rx_hub.specs.Audiences.{AudienceState, audience_at_first, Place, observer_on, observers_on, AllOpen, AllTakeMore}
use Rattle.rx_hub.specs.Hubs.{HubState, StandsFor, Misses, Steps, Takes, is_miss}
use Rattle.rx_hub.specs.States.{state_by, IsOfHistory}
use Rattle.rx_hub.proofs.Tables.{AllAmong, AllAmong-self}

-- IT STANDS FOR SOME HISTORY

either : (b : Bool) (P Q R : Type 0) → MatchBool b P Q → (P → R) → (Q → R) → R
either true P Q R m one other = one m
either false P Q R m one other = other m

-- what takes an entry leaves it so
pub of_history : (old new : HubState) (before after : List Given) (result : Result Answer Refusal) (entry : Entry) → Takes old new before after result entry → IsOfHistory old → IsOfHistory new
of_history old new before after result entry takes is_of =
    either (is_miss result) (Misses old new before after entry) ((H : History) → StandsFor old H → Steps old new before after result H entry) (IsOfHistory new) takes.took
    (λ missed. subst (λ (hub : HubState). IsOfHistory hub) (sym missed.hub) is_of)
    (λ steps. ∥∥₁_map is_of (λ found. (found.0 ▹ entry, (steps found.0 found.1).goes_on)))

-- and so does what leaves a subject and its observers
pub same_history : {subject later : TapeSubjectState} {audience after : AudienceState} (limits : Limits) (joins : ℕ) → later ≡ subject → after ≡ audience
    → IsOfHistory (state_by limits subject joins audience) → IsOfHistory (state_by limits later joins after)
same_history {subject = subject} {later = later} {audience = audience} limits joins same same_audience is_of =
    subst (λ (a : AudienceState). IsOfHistory (state_by limits later joins a)) (sym same_audience)
    (subst (λ (s : TapeSubjectState). IsOfHistory (state_by limits s joins audience)) (sym same) is_of)

-- NOBODY HAS ENDED BEFORE THE SUBJECT

open_at : (table : ℕ → Option Signals) (all : List ℕ) (observers : List Observer) → AllAmong all (numbers observers) → AllStand table observers
    → ((o : ℕ) → list_any (λ j. j == o) all ≡ true → (s : Signals) → table o ≡ Some s → may_overflow (policy_of s).strategy ≡ false → terminal_of s ≡ None)
    → (k : ℕ) (d : Observer) → k < length observers → MayBeSent (get_or observers k d).lane.policy (get_or observers k d).lane.ended
open_at table all [] among stand ends k d lt = absurd (omega (arith, lt))
open_at table all (observer ∷ observers) among stand ends zero d lt = λ other.
    let st = stand.0.stand in
    st.ended ∙ ap is_some (ends observer.who among.0 stand.0.these stand.0.are (ap (λ (c : Choice). may_overflow c.strategy) (sym st.policy) ∙ other))
open_at table all (observer ∷ observers) among stand ends (suc k) d lt = open_at table all observers among.1 stand.1 ends k d (omega (arith, lt))

open_by : (hub : HubState) (H : History) → StandsFor hub H → is_some hub.subject.terminal ≡ false → (k : ℕ) (d : Observer) → k < length hub.observers
    → MayBeSent (get_or hub.observers k d).lane.policy (get_or hub.observers k d).lane.ended
open_by hub H stands open_now k d lt =
    let none : end_of H ≡ None = not_ended hub.subject hub.rules H open_now stands.subject_stands in
    let among : AllAmong (held hub.rules H) (numbers hub.observers) =
    subst (λ (ks : List ℕ). AllAmong (held hub.rules H) ks) (sym stands.held_are) (AllAmong-self (held hub.rules H)) in
    open_at (signals hub.rules H) (held hub.rules H) hub.observers among stands.lanes_stand
    (λ o is_among s is other. ends_as_subject hub.rules H o s is is_among other ∙ none) k d lt

pub all_open : (hub : HubState) → IsOfHistory hub → is_some hub.subject.terminal ≡ false → AllOpen hub.observers
all_open hub is_of open_now = λ k d lt other.
    elim (cases_Bool (get_or hub.observers k d).lane.ended) [
      | inl is_true ↦ absurd (not_there is_of (λ found. false≢true (sym (open_by hub found.0 found.1 open_now k d lt other) ∙ is_true)))
      | inr is_false ↦ is_false
    ]

-- SEATS

take_more : (items : List Item) (place : Place) → MayBeSent (observer_on items place).lane.policy (observer_on items place).lane.ended → TakesMore place.seat
take_more items place may = by_seat place.seat may
  where
    by_seat : (seat : Seat) → MayBeSent (observer_on items (record { who = place.who; seat = seat })).lane.policy (observer_on items (record { who = place.who; seat = seat })).lane.ended → TakesMore seat
    by_seat (Shared lane) may = may
    by_seat (Own lane) may = tt

-- so the subject may send to every seat
pub all_take_more : (items : List Item) (places : List Place) → AllOpen (observers_on items places) → AllTakeMore places
all_take_more items places open_now = λ k d lt.
    let long = length-map places (observer_on items) in
    let here = open_now k (observer_on items d) (omega (arith, lt, long)) in
    let at = get_or-map (observer_on items) places k d (observer_on items d) lt in
    take_more items (get_or places k d) (subst (λ (o : Observer). MayBeSent o.lane.policy o.lane.ended) at here)

-- told by what contracts see of the audience
pub seats_take_more : (audience : AudienceState) (items : List Item) (olds news : List Place) → ◌≡◌ {A = AudienceState} (record { items = items; observers = observers_on items olds }) audience
    → news ≡ olds → AllOpen audience.observers → AllTakeMore news
seats_take_more audience items olds news is same open_now =
    let seen : AllOpen (observers_on items olds) = subst (λ (v : AudienceState). AllOpen v.observers) (sym is) open_now in
    subst (λ (places : List Place). AllTakeMore places) (sym same) (all_take_more items olds seen)

-- A NEW ONE

-- a subject with no event stands for the history with none
pub at_first : (limits : Limits) (subject : TapeSubjectState) (audience : AudienceState) → audience ≡ audience_at_first
    → ((items : List Item) (rules : Rules) → rules.kind ≡ subject.kind → subjects.StandsFor (subject_on items subject) rules NoEvents) → IsOfHistory (state_by limits subject 0 audience)
at_first limits subject audience none stands =
    let rules : Rules = record { kind = subject.kind; limits = limits } in
    let new : StandsFor (state_by limits subject 0 audience_at_first) NoEvents = record {
      subject_stands = stands [] rules refl;
      joins_are = refl;
      held_are = refl;
      lanes_stand = tt;
    } in
    subst (λ (a : AudienceState). IsOfHistory (state_by limits subject 0 a)) (sym none) (merely (NoEvents, new))

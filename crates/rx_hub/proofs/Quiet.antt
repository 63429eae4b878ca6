-- A step that is refused: the hub and what was given stay.
use Rattle.std.proofs.Common.{◌≡◌, ℕ, Bool, true, false, cond, ◌&&◌, ◌==◌, not, is_some, nat_lt, List, [], ◌++◌, length, Option, None, Some, Result, Ok, Err, refl, sym, ap, ◌∙◌, append-nil}
use Rattle.std.proofs.lemmas.List.{length-map}
use Rattle.std.specs.Option.{option_map}
use Rattle.std.specs.List.{flat_map}
use Rattle.rx_note.specs.declared.given.Given.{Given}
use Rattle.rx_note.specs.declared.note.Note.{Note}
use Rattle.rx_note.specs.declared.policy.Policy.{Policy}
use Rattle.rx_note.specs.declared.rules.Rules.{Rules}
use Rattle.rx_note.specs.declared.event.Event.TheVariants.{Emit, Join, Request}
use Rattle.rx_note.specs.declared.answer.Answer.{Answer}
use Rattle.rx_note.specs.declared.answer.Answer.TheVariants.{Admitted, Joined}
use Rattle.rx_note.specs.declared.refusal.Refusal.{Refusal}
use Rattle.rx_note.specs.declared.refusal.Refusal.TheVariants as refused
use Rattle.rx_note.specs.Signals.{Signals, ◌▸◌, Requested}
use Rattle.rx_history.specs.Histories.{History, ◌▹◌, Entry, Roster, is_ended, has_room, item_count, accepts, joins, held, is_held, may_join, with_one_more, roster_of, opened, may_request, signals, answer, outs}
use Rattle.rx_history.proofs.Accepting.{refused-ended, refused-full}
use Rattle.rx_history.proofs.Entries.{signals-refused}
use Rattle.rx_subject.specs.Subjects.{SubjectState}
use Rattle.rx_subject.specs.Subjects as subjects
use Rattle.rx_subject.proofs.Standing.{stands_request, stands_not_joined, stands_refused}
use Rattle.rx_hub.specs.Subscriptions.{Observer}
use Rattle.rx_hub.specs.Hubs.{HubState, StandsFor, Steps}
use Rattle.rx_hub.proofs.Tables.{gains, AllStand-all, all_gains-same}

-- the entry changes nothing of the history's subject, observers and signals
pub record IsQuiet (rules : Rules) (H : History) (entry : Entry) : Type 0 where
  pub subject : (subject : SubjectState) → subjects.StandsFor subject rules H → subjects.StandsFor subject rules (H ▹ entry)
  pub roster : roster_of rules.limits (H ▹ entry) ≡ roster_of rules.limits H
  pub same : (o : ℕ) → signals rules (H ▹ entry) o ≡ signals rules H o

-- then the hub stands for the longer history as it is, and nothing is given
pub quiet : (hub : HubState) (outs_so_far : List Given) (result : Result Answer Refusal) (H : History) (entry : Entry)
    → StandsFor hub H → result ≡ answer hub.rules H entry.1 → IsQuiet hub.rules H entry → Steps hub hub outs_so_far outs_so_far result H entry
quiet hub outs_so_far result H entry stands answers q =
    let none : outs hub.rules H entry ≡ [] =
    ap (λ (r : Roster). flat_map (gains (signals hub.rules H) (signals hub.rules (H ▹ entry))) r.held) q.roster
    ∙ all_gains-same (signals hub.rules H) (signals hub.rules (H ▹ entry)) (held hub.rules H) q.same in
    record {
      answers = answers;
      gives = sym (ap (λ os. outs_so_far ++ os) none ∙ append-nil outs_so_far);
      goes_on = record {
        subject_stands = q.subject hub.subject stands.subject_stands;
        joins_are = stands.joins_are ∙ sym (ap (λ (r : Roster). r.joins) q.roster);
        held_are = stands.held_are ∙ sym (ap (λ (r : Roster). r.held) q.roster);
        lanes_stand = AllStand-all (signals hub.rules H) (signals hub.rules (H ▹ entry)) hub.observers q.same stands.lanes_stand;
      };
    }

-- AN EMIT THAT IS REFUSED

not_emitted : (rules : Rules) (H : History) (port : ℕ) (note : Note) (at : ℕ) → accepts rules H note ≡ false → IsQuiet rules H (port, Emit note at)
not_emitted rules H port note at refused_now = record {
  subject = λ subject stands. stands_refused subject rules H port note at refused_now stands;
  roster = refl;
  same = λ o. signals-refused rules H port note at o refused_now;
}

-- how an emission is answered
abbrev emit_answer : Bool → Bool → Result Answer Refusal
emit_answer ended room = cond ended (Err refused.Ended) (cond room (Ok Admitted) (Err refused.Spent))

-- on an ended subject
pub emit_ended : (hub : HubState) (outs_so_far : List Given) (H : History) (port : ℕ) (note : Note) (at : ℕ)
    → is_some hub.subject.terminal ≡ true → StandsFor hub H → Steps hub hub outs_so_far outs_so_far (Err refused.Ended) H (port, Emit note at)
emit_ended hub outs_so_far H port note at ended stands =
    let is : is_ended H ≡ true = ap is_some (sym stands.subject_stands.end_is) ∙ ended in
    quiet hub outs_so_far (Err refused.Ended) H (port, Emit note at) stands
    (sym (ap (λ b. emit_answer b (has_room hub.rules.limits (item_count hub.rules H) note)) is))
    (not_emitted hub.rules H port note at (refused-ended hub.rules H note is))

-- of an item too many
pub emit_spent : (hub : HubState) (outs_so_far : List Given) (H : History) (port : ℕ) (note : Note) (at : ℕ)
    → is_some hub.subject.terminal ≡ false → has_room hub.rules.limits hub.subject.count note ≡ false → StandsFor hub H
    → Steps hub hub outs_so_far outs_so_far (Err refused.Spent) H (port, Emit note at)
emit_spent hub outs_so_far H port note at unended full stands =
    let open_now : is_ended H ≡ false = ap is_some (sym stands.subject_stands.end_is) ∙ unended in
    let is : has_room hub.rules.limits (item_count hub.rules H) note ≡ false = ap (λ n. has_room hub.rules.limits n note) (sym stands.subject_stands.count_is) ∙ full in
    quiet hub outs_so_far (Err refused.Spent) H (port, Emit note at) stands
    (sym (ap (λ b. emit_answer b (has_room hub.rules.limits (item_count hub.rules H) note)) open_now ∙ ap (emit_answer false) is))
    (not_emitted hub.rules H port note at (refused-full hub.rules H note is))

-- A JOIN TOO MANY

refused_and : (b : Bool) (x y : Option Signals) → cond (b && false) x y ≡ y
refused_and true x y = refl
refused_and false x y = refl

not_joined : (rules : Rules) (H : History) (port : ℕ) (policy : Policy) (first at : ℕ) → may_join rules H ≡ false → IsQuiet rules H (port, Join policy first at)
not_joined rules H port policy first at refused_now = record {
  subject = λ subject stands. stands_not_joined subject rules H port policy first at refused_now stands;
  roster = ap (λ b. cond b (with_one_more (roster_of rules.limits H)) (roster_of rules.limits H)) refused_now;
  same = λ o.
      ap (λ b. cond ((joins rules H == o) && b) (Some (opened rules H policy first at)) (signals rules H o)) refused_now
      ∙ refused_and (joins rules H == o) (Some (opened rules H policy first at)) (signals rules H o);
}

pub and_false : (b : Bool) → (b && false) ≡ false
and_false true = refl
and_false false = refl

pub join_full : (hub : HubState) (outs_so_far : List Given) (H : History) (port : ℕ) (policy : Policy) (first at : ℕ)
    → nat_lt (length hub.observers) hub.rules.limits.observers ≡ false → StandsFor hub H
    → Steps hub hub outs_so_far outs_so_far (Err refused.Full) H (port, Join policy first at)
join_full hub outs_so_far H port policy first at full stands =
    let count : length (held hub.rules H) ≡ length hub.observers = sym (ap length stands.held_are) ∙ length-map hub.observers (λ (o : Observer). o.who) in
    let is : nat_lt (length (held hub.rules H)) hub.rules.limits.observers ≡ false = ap (λ n. nat_lt n hub.rules.limits.observers) count ∙ full in
    quiet hub outs_so_far (Err refused.Full) H (port, Join policy first at) stands
    (sym (ap (λ b. cond (not b) (Err refused.Full)
    (cond (nat_lt (joins hub.rules H) hub.rules.limits.joins) (Ok (Joined (joins hub.rules H))) (Err refused.Spent))) is))
    (not_joined hub.rules H port policy first at (ap (λ b. b && nat_lt (joins hub.rules H) hub.rules.limits.joins) is))

pub join_spent : (hub : HubState) (outs_so_far : List Given) (H : History) (port : ℕ) (policy : Policy) (first at : ℕ)
    → nat_lt (length hub.observers) hub.rules.limits.observers ≡ true → nat_lt hub.joined hub.rules.limits.joins ≡ false → StandsFor hub H
    → Steps hub hub outs_so_far outs_so_far (Err refused.Spent) H (port, Join policy first at)
join_spent hub outs_so_far H port policy first at free spent stands =
    let count : length (held hub.rules H) ≡ length hub.observers = sym (ap length stands.held_are) ∙ length-map hub.observers (λ (o : Observer). o.who) in
    let has : nat_lt (length (held hub.rules H)) hub.rules.limits.observers ≡ true = ap (λ n. nat_lt n hub.rules.limits.observers) count ∙ free in
    let is : nat_lt (joins hub.rules H) hub.rules.limits.joins ≡ false = ap (λ n. nat_lt n hub.rules.limits.joins) (sym stands.joins_are) ∙ spent in
    quiet hub outs_so_far (Err refused.Spent) H (port, Join policy first at) stands
    (sym (ap (λ b. cond (not b) (Err refused.Full)
    (cond (nat_lt (joins hub.rules H) hub.rules.limits.joins) (Ok (Joined (joins hub.rules H))) (Err refused.Spent))) has
    ∙ ap (λ b. cond b (Ok (Joined (joins hub.rules H))) (Err refused.Spent)) is))
    (not_joined hub.rules H port policy first at
    (ap (λ b. nat_lt (length (held hub.rules H)) hub.rules.limits.observers && b) is ∙ and_false (nat_lt (length (held hub.rules H)) hub.rules.limits.observers)))

-- A REQUEST THAT IS REFUSED

-- the signals that a request leaves to an observer
abbrev pub requested : ℕ → Bool → Bool → Option Signals → Option Signals
requested n is_the_one is_held_now before =
    cond (is_the_one && is_held_now) (option_map (λ s. cond (may_request n s) (s ▸ Requested n) s) before) before

not_requested : (n : ℕ) (one h : Bool) (before : Option Signals)
    → ((s : Signals) → one ≡ true → h ≡ true → before ≡ Some s → may_request n s ≡ false) → requested n one h before ≡ before
not_requested n false h before none = refl
not_requested n true false before none = refl
not_requested n true true None none = refl
not_requested n true true (Some s) none = ap (λ b. Some (cond b (s ▸ Requested n) s)) (none s refl refl refl)

pub request_quiet : (rules : Rules) (H : History) (port who n : ℕ)
    → ((o : ℕ) (s : Signals) → (who == o) ≡ true → is_held rules H o ≡ true → signals rules H o ≡ Some s → may_request n s ≡ false)
    → IsQuiet rules H (port, Request who n)
request_quiet rules H port who n none = record {
  subject = λ subject stands. stands_request subject rules H port who n stands;
  roster = refl;
  same = λ o. not_requested n (who == o) (is_held rules H o) (signals rules H o) (none o);
}

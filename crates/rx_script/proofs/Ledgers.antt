-- Ledgers: the one that an event is added to, and the observers of each.
use Rattle.std.proofs.Common.{◌≡◌, ℕ, zero, suc, ◌+◌, ◌<◌, ◌≤◌, Bool, true, false, cond, ◌&&◌, nat_lt, ltb, List, [], ◌∷◌, ◌++◌, length, get_or, set, Option, None, Some, is_some, position, inl, inr, ◌⊎◌, refl, sym, ap, subst, ◌∙◌, append_assoc, append-nil, arith}
use Rattle.std.proofs.Math.Numerals.{add-one}
use Rattle.std.proofs.lemmas.Bool.Decides.{nat_tests}
use Rattle.std.proofs.lemmas.List.{map-append}
use Rattle.std.proofs.lemmas.List.Quantifiers.{position-Some}
use Rattle.rx_hub.proofs.Positions.{position-None}
use Rattle.rx_note.specs.declared.event.Event.{Event}
use Rattle.rx_note.specs.declared.event.Event.TheVariants.{Emit, Join, Request, Dispose}
use Rattle.rx_note.specs.declared.limits.Limits.{Limits}
use Rattle.rx_note.specs.declared.note.Note.{Note}
use Rattle.rx_note.specs.declared.rules.Rules.{Rules}
use Rattle.rx_history.specs.Histories.{History, NoEvents, ◌▹◌, Entry, Roster, admits, with_one_more, roster_of, joins, signals, given_to, waiting_for}
use Rattle.rx_history.specs.Stored.{history_of}
use Rattle.rx_history.proofs.Entries.{is_some-signals}
use Rattle.rx_history.proofs.Extending.{extended-push}
use Rattle.rx_script.specs.declared.ledger.Ledger.{Ledger}
use Rattle.rx_script.specs.Audits.{subject_in, subjects_in, observer_written, observers_written, observed_lines, subject_written}
use Rattle.rx_script.specs.Scripts.{new_subject, new_subjects}
use Rattle.rx_config.specs.declared.subject_config.SubjectConfig.{SubjectConfig}
use Rattle.rx_lines.specs.Bytes.{Loses}
use Rattle.rx_proto.specs.Reading.{same_word}
use Rattle.rx_script.specs.Transcripts.{Subject, taking, all_taking}
use Rattle.rx_lines.proofs.Written.{Loses-more}

-- A LEDGER MORE

-- the ledgers of some subjects and one more
pub subjects_in-push : (ledgers pushed : List Ledger) (ledger : Ledger) (configs : List SubjectConfig) (config : SubjectConfig)
    → subjects_in ledgers ≡ new_subjects configs → subject_in ledger ≡ new_subject config → pushed ≡ ledgers ++ ledger ∷ []
    → subjects_in pushed ≡ new_subjects (configs ++ config ∷ [])
subjects_in-push ledgers pushed ledger configs config are one is =
    ap subjects_in is ∙ map-append subject_in ledgers (ledger ∷ []) ∙ ap (λ ss. ss ++ subject_in ledger ∷ []) are
    ∙ ap (λ s. new_subjects configs ++ s ∷ []) one ∙ sym (map-append new_subject configs (config ∷ []))

-- THE EVENT

-- the subject of a ledger with an event more
pub subject_in-added : (ledger : Ledger) (history : List Entry) (event : Event) → history ≡ ledger.history ++ (0, event) ∷ []
    → subject_in (record ledger { history = history }) ≡ taking (subject_in ledger) event
subject_in-added ledger history event is =
    ap (λ (H : History). record { name = ledger.subject.name; rules = ledger.subject.rules; history = H }) (ap history_of is ∙ extended-push NoEvents ledger.history (0, event))

entered_at : (ledgers : List Ledger) (name : List ℕ) (place : ℕ) (d after : Ledger) (event : Event) → place < length ledgers
    → same_word (get_or ledgers place d).subject.name name ≡ true → ((k : ℕ) → k < place → same_word (get_or ledgers k d).subject.name name ≡ false)
    → subject_in after ≡ taking (subject_in (get_or ledgers place d)) event
    → subjects_in (set ledgers place after) ≡ all_taking (subjects_in ledgers) name event
entered_at [] name place d after event lt here before is = absurd (omega arith)
entered_at (l ∷ ledgers) name zero d after event lt here before is =
    ap (λ s. s ∷ subjects_in ledgers) is
    ∙ sym (ap (λ b. cond b (taking (subject_in l) event ∷ subjects_in ledgers) (subject_in l ∷ all_taking (subjects_in ledgers) name event)) here)
entered_at (l ∷ ledgers) name (suc place) d after event lt here before is =
    ap (λ ss. subject_in l ∷ ss) (entered_at ledgers name place d after event (omega arith) here (λ k k_lt. before (suc k) (omega arith)) is)
    ∙ sym (ap (λ b. cond b (taking (subject_in l) event ∷ subjects_in ledgers) (subject_in l ∷ all_taking (subjects_in ledgers) name event)) (before 0 (omega arith)))

-- the first ledger of the name has the event
pub entered : (ledgers : List Ledger) (name : List ℕ) (place : ℕ) (d after : Ledger) (event : Event)
    → position (λ (ledger : Ledger). same_word ledger.subject.name name) ledgers ≡ Some place
    → subject_in after ≡ taking (subject_in (get_or ledgers place d)) event
    → subjects_in (set ledgers place after) ≡ all_taking (subjects_in ledgers) name event
entered ledgers name place d after event found is =
    let at = position-Some (λ (ledger : Ledger). same_word ledger.subject.name name) ledgers place d found in
    entered_at ledgers name place d after event at.0 at.1 at.2 is

unnamed : (ledgers : List Ledger) (name : List ℕ) (event : Event)
    → ((k : ℕ) (d : Ledger) → k < length ledgers → same_word (get_or ledgers k d).subject.name name ≡ false)
    → subjects_in ledgers ≡ all_taking (subjects_in ledgers) name event
unnamed [] name event none = refl
unnamed (l ∷ ledgers) name event none =
    ap (λ ss. subject_in l ∷ ss) (unnamed ledgers name event (λ k d lt. none (suc k) d (omega arith)))
    ∙ sym (ap (λ b. cond b (taking (subject_in l) event ∷ subjects_in ledgers) (subject_in l ∷ all_taking (subjects_in ledgers) name event)) (none 0 l (omega arith)))

-- no ledger has the name
pub not_entered : (ledgers : List Ledger) (name : List ℕ) (event : Event)
    → position (λ (ledger : Ledger). same_word ledger.subject.name name) ledgers ≡ None
    → subjects_in ledgers ≡ all_taking (subjects_in ledgers) name event
not_entered ledgers name event none =
    unnamed ledgers name event (λ k d lt. position-None (λ (ledger : Ledger). same_word ledger.subject.name name) ledgers none k d lt)

-- THE OBSERVERS

below : (a b : Bool) (n m : ℕ) → nat_lt n m ≡ b → (a && b) ≡ true → n + 1 ≤ m
below true true n m lt both = grind (arith, nat_tests)
below true false n m lt both = cc
below false b n m lt both = cc

one_more : (b : Bool) (limits : Limits) (roster : Roster) → admits limits roster ≡ b → roster.joins ≤ limits.joins
    → (cond b (with_one_more roster) roster).joins ≤ limits.joins
one_more true limits roster is within =
    below (nat_lt (length roster.held) limits.observers) (nat_lt roster.joins limits.joins) roster.joins limits.joins refl is
one_more false limits roster is within = within

-- no more Joins are accepted than may be
pub joins_within : (limits : Limits) (H : History) → (roster_of limits H).joins ≤ limits.joins
joins_within limits NoEvents = omega arith
joins_within limits (H ▹ (port, Emit note at)) = joins_within limits H
joins_within limits (H ▹ (port, Join policy first at)) =
    one_more (admits limits (roster_of limits H)) limits (roster_of limits H) refl (joins_within limits H)
joins_within limits (H ▹ (port, Request who n)) = joins_within limits H
joins_within limits (H ▹ (port, Dispose who)) = joins_within limits H

-- an observer that has signals was made by an accepted Join
pub made : (rules : Rules) (H : History) (o : ℕ) → is_some (signals rules H o) ≡ true → o < joins rules H
made rules H o is = let lt : ltb o (joins rules H) ≡ true = sym (is_some-signals rules H o) ∙ is in grind (arith, nat_tests)

last_or_before : (n m : ℕ) → n ≤ m → (n ≡ m) ⊎ (suc n ≤ m)
last_or_before zero zero le = inl refl
last_or_before zero (suc m) le = inr (omega arith)
last_or_before (suc n) zero le = absurd (omega arith)
last_or_before (suc n) (suc m) le = elim (last_or_before n m (omega arith)) [ inl same ↦ inl (ap suc same) | inr lt ↦ inr (omega arith) ]

-- the lines of the first observers are a front of those of more
pub observers_front : (subject : Subject) (n m : ℕ) → n ≤ m → (more : List ℕ) × (observers_written subject n ++ more ≡ observers_written subject m)
observers_front subject zero m le = (observers_written subject m, refl)
observers_front subject (suc n) zero le = absurd (omega arith)
observers_front subject (suc n) (suc m) le =
    elim (last_or_before n m (omega arith)) [
      | inl same ↦ ([], append-nil (observers_written subject (suc n)) ∙ ap (λ k. observers_written subject (suc k)) same)
      | inr lt ↦
          let rest = observers_front subject (suc n) m lt in (
            rest.0 ++ observer_written subject m,
            sym (append_assoc (observers_written subject (suc n)) rest.0 (observer_written subject m)) ∙ ap (λ bytes. bytes ++ observer_written subject m) rest.1,
          )
    ]

-- the lines of one observer more
pub observers-next : (subject : Subject) (who : ℕ) (given waiting : List Note)
    → given ≡ given_to subject.rules subject.history who → waiting ≡ waiting_for subject.rules subject.history who
    → observers_written subject (who + 1) ≡ observers_written subject who ++ observed_lines subject.name who given waiting
observers-next subject who given waiting given_is waiting_is =
    ap (observers_written subject) (add-one who)
    ∙ ap (λ notes. observers_written subject who ++ observed_lines subject.name who notes (waiting_for subject.rules subject.history who)) (sym given_is)
    ∙ ap (λ notes. observers_written subject who ++ observed_lines subject.name who given notes) (sym waiting_is)

-- those of all, where there is none more
pub observers-all : (subject : Subject) (who : ℕ) → who ≤ joins subject.rules subject.history → joins subject.rules subject.history ≤ who
    → observers_written subject who ≡ subject_written subject
observers-all subject who low high = let same : who ≡ joins subject.rules subject.history = omega arith in ap (observers_written subject) same

-- the fault of the writer at an observer's lines
pub observers-lost : (old new : Option (List ℕ)) (held after : List ℕ) (subject : Subject) (who : ℕ) → who < joins subject.rules subject.history
    → Loses held after old new (observers_written subject (who + 1)) → Loses held after old new (subject_written subject)
observers-lost old new held after subject who lt loses =
    let rest = observers_front subject (who + 1) (joins subject.rules subject.history) (omega arith) in
    subst (λ (bytes : List ℕ). Loses held after old new bytes) rest.1 (Loses-more old new held after (observers_written subject (who + 1)) rest.0 loses)

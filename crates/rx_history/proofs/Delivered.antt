-- The laws of delivery, each from what the signals of an observer say.
use Rattle.std.specs.Prelude.{codes}
use Rattle.rx_note.specs.declared.errors.Errors.{Errors}
use Rattle.std.proofs.Common.{◌≡◌, ℕ, ◌+◌, ◌<◌, ◌≤◌, ◌==◌, Bool, true, false, cond, ◌&&◌, ◌||◌, not, leb, List, [], ◌∷◌, ◌++◌, length, map, take, Option, None, Some, is_some, option_to_list, ◌⊎◌, inl, inr, refl, sym, ap, ◌∙◌, arith}
use Rattle.std.specs.Option.{option_map, option_map_or}
use Rattle.std.specs.List.{items_where_true, list_any, filter}
use Rattle.std.proofs.lemmas.Bool.{cases_Bool, false≢true}
use Rattle.std.proofs.lemmas.Bool.Decides.{nat_tests}
use Rattle.std.proofs.lemmas.List.{append_assoc, append-nil, length-take}
use Rattle.rx_note.specs.declared.item.Item.{Item}
use Rattle.rx_note.specs.declared.note.Note.{Note}
use Rattle.rx_note.specs.declared.note.Note.TheVariants.{Next, Failed}
use Rattle.rx_note.specs.declared.text.Text.{Text}
use Rattle.rx_note.specs.declared.kind.Kind.{Kind}
use Rattle.rx_note.specs.declared.kind.Kind.TheVariants.{Publish, Behavior, Async, Replay}
use Rattle.rx_note.specs.declared.event.Event.TheVariants.{Emit, Join, Request, Dispose}
use Rattle.rx_note.specs.declared.rules.Rules.{Rules}
use Rattle.rx_note.specs.declared.strategy.Strategy.{Strategy}
use Rattle.rx_note.specs.declared.strategy.Strategy.TheVariants.{Buffer, Drop, Latest, Bounded}
use Rattle.rx_note.specs.declared.errors.Errors.TheVariants.{Ahead, Delay}
use Rattle.rx_note.specs.Choices.{Choice}
use Rattle.rx_note.specs.Signals.{Signal, Requested, Offered, Ended, Signals, ◌▸◌, policy_of, demand, terminal_of, overflow, overflows, goes_ahead, line_items, ending, line, given, waiting_items, waiting_end, waiting, owed}
use Rattle.rx_note.proofs.Kept.{LosesNothing, kept-all}
use Rattle.rx_note.proofs.Laws.{given-grows, owed-waiting, line_items-behind, without-none}
use Rattle.rx_note.proofs.Lines.{line_items-ended, given-waiting}
use Rattle.rx_note.proofs.Sending.{sent-end}
use Rattle.rx_note.proofs.Steps.{end_ahead}
use Rattle.rx_note.proofs.Order.{line_items-in_order}
use Rattle.rx_history.specs.Histories.{Entry, History, ◌▹◌, terminal_in, end_of, joins, held, is_held, may_join, item_count, accepts, followed_by, ended_by, last_item, offers_by, signalled, may_request, signals, given_to, line_of, waiting_for}
use Rattle.rx_history.specs.Delivery.{items_among, IsTerminal, offered, offered_to, end_for, loses_nothing, ends_ahead, offers_at_once, EndsAsTheSubjectOrOverflows, EndStays, OverflowEndsIt, OverflowStaysBehind, OverflowGoesAhead, KeepsAll, KeptIsAll, IsSubsequence, LineIsInOrder, OffersAreInOrder, EachPortIsInOrder, GivenThenWaiting, GivenOnlyGrows, TerminalIsLast, LineEndsAsTheSubject, NothingFollowsATerminal, NothingFollowsTheEnd, ErrorGoesAhead, DisposeDiscards, NothingFollowsADispose, GivenAndOwed, GivenWithinRequests, NothingWaitsWhileOwed, WaitsWithinRoom}
use Rattle.rx_history.proofs.Accepting.{accepted}
use Rattle.rx_history.proofs.Endings.{EndsBy, signals-ends, unended, ends_as_subject, ends_with_subject}
use Rattle.rx_history.proofs.Feeding.{followed-behind, followed-overflow, followed-grows}
use Rattle.rx_history.proofs.Numbers.{signals_unmade}
use Rattle.rx_history.proofs.Offers.{bounded_of, offers_in_order, now_offered}
use Rattle.rx_history.proofs.Rooms.{waits_within}
use Rattle.rx_history.proofs.Subsequences.{picked, take_of, none_of, along, some_of_some, filtered}
use Rattle.rx_history.proofs.Staying.{ends_in_a_terminal, items_among-ending, are_in_room}
use Rattle.rx_history.proofs.Terminals.{items_among-items, items_among-append, not_empty, last_only}
use Rattle.rx_history.proofs.Entries.{and_false, held_made, held_before, is_held-joined, is_held-not_joined, line_of-held, line_of-left, waiting_for-held, waiting_for-left, signals-emitted, signals-passed_by, signals-refused, signals-not_joined, signals-not_requested, signals-requested}

-- an observer that is held has signals
not_made : (s : Option Signals) → s ≡ None → is_some s ≡ true → ⊥
not_made None e made = cc
not_made (Some s) e made = cc

items_among-parts : (xs : List Item) (last : List Note) → items_among last ≡ [] → items_among (map Next xs ++ last) ≡ xs
items_among-parts xs last none =
    items_among-append (map Next xs) last
    ∙ ap (λ ys. ys ++ items_among last) (items_among-items xs)
    ∙ ap (λ ys. xs ++ ys) none
    ∙ append-nil xs

items_among-line : (rules : Rules) (H : History) (o : ℕ) (s : Signals) → signals rules H o ≡ Some s → is_held rules H o ≡ true → items_among (line_of rules H o) ≡ line_items s
items_among-line rules H o s is held = ap items_among (line_of-held rules H o s is held) ∙ items_among-parts (line_items s) (ending s) (items_among-ending rules H o s is)

cut_end : (b : Bool) (last : List Note) → items_among last ≡ [] → items_among (cond b last []) ≡ []
cut_end true last e = e
cut_end false last e = refl

items_among-given : (s : Signals) → items_among (ending s) ≡ [] → items_among (given s) ≡ take (demand s) (line_items s)
items_among-given s none =
    items_among-parts (take (demand s) (line_items s)) (cond (leb (length (line_items s)) (demand s)) (ending s) [])
    (cut_end (leb (length (line_items s)) (demand s)) (ending s) none)

-- EACH ITEM ONCE AND IN ORDER

items_in_order : (s : Signals) → IsSubsequence (line_items s) (offered s)
items_in_order s =
    let order = line_items-in_order s in
    along (items_where_true order.0 (offered s)) (offered s) (line_items s) (offered s) order.1 refl (picked order.0 (offered s))

line_in_order_by : (rules : Rules) (H : History) (o : ℕ) (before : Option Signals) (held : Bool) → signals rules H o ≡ before → is_held rules H o ≡ held
    → IsSubsequence (items_among (line_of rules H o)) (option_map_or offered before [])
line_in_order_by rules H o None true none held = absurd (not_made (signals rules H o) none (held_made rules H o held))
line_in_order_by rules H o None false none left =
    along [] [] _ _ (ap items_among (line_of-left rules H o left ∙ ap (λ s. option_map_or given s []) none)) refl (none_of [])
line_in_order_by rules H o (Some s) true is held =
    along (line_items s) (offered s) _ _ (items_among-line rules H o s is held) refl (items_in_order s)
line_in_order_by rules H o (Some s) false is left =
    along (take (demand s) (line_items s)) (offered s) _ _
    (ap items_among (line_of-left rules H o left ∙ ap (λ t. option_map_or given t []) is) ∙ items_among-given s (items_among-ending rules H o s is)) refl
    (some_of_some _ _ _ (take_of (demand s) (line_items s)) (items_in_order s))

pub line_in_order : LineIsInOrder
line_in_order rules H o = line_in_order_by rules H o (signals rules H o) (is_held rules H o) refl refl

pub offers_are_in_order : OffersAreInOrder
offers_are_in_order rules H o = offers_in_order rules H o

pub each_port_in_order : EachPortIsInOrder
each_port_in_order rules H o port =
    filtered (λ item. item.from == port) _ _ (some_of_some _ _ _ (line_in_order rules H o) (offers_in_order rules H o))

-- GIVEN AND WAITING

parted : (b : Bool) (s : Option Signals) → option_map_or given s [] ++ cond b (option_map_or waiting s []) [] ≡ cond b (option_map_or line s []) (option_map_or given s [])
parted true None = refl
parted true (Some s) = given-waiting s
parted false s = append-nil (option_map_or given s [])

pub given_then_waiting : GivenThenWaiting
given_then_waiting rules H o = parted (is_held rules H o) (signals rules H o)

-- what was given where the signals are these
abbrev given_of : Option Signals → List Note
given_of s = option_map_or given s []

-- notes behind those that were given
abbrev Grows : List Note → List Note → Type 0
Grows before after = (notes : List Note) × (after ≡ before ++ notes)

grows_same : (before after : List Note) → after ≡ before → Grows before after
grows_same before after e = ([], e ∙ sym (append-nil before))

emit_grows : (before : Option Signals) (more : List Signal) → Grows (given_of before) (given_of (option_map (λ s. followed_by s more) before))
emit_grows None more = ([], refl)
emit_grows (Some s) more = followed-grows s more

request_grows : (b : Bool) (s : Signals) (n : ℕ) → Grows (given s) (given (cond b (s ▸ Requested n) s))
request_grows true s n = given-grows s (Requested n) tt
request_grows false s n = grows_same (given s) (given s) refl

requests_grow : (before : Option Signals) (n : ℕ) → Grows (given_of before) (given_of (option_map (λ s. cond (may_request n s) (s ▸ Requested n) s) before))
requests_grow None n = ([], refl)
requests_grow (Some s) n = request_grows (may_request n s) s n

grows_along : (before after after' : List Note) → after' ≡ after → Grows before after → Grows before after'
grows_along before after after' e grown = (grown.0, e ∙ grown.1)

accepted_grows : (rules : Rules) (H : History) (o port : ℕ) (note : Note) (at : ℕ) (held : Bool) → is_held rules H o ≡ held → accepts rules H note ≡ true
    → Grows (given_to rules H o) (given_to rules (H ▹ (port, Emit note at)) o)
accepted_grows rules H o port note at true held accepted =
    grows_along (given_to rules H o) _ _ (ap given_of (signals-emitted rules H port note at o accepted held))
    (emit_grows (signals rules H o) (signalled rules H port note))
accepted_grows rules H o port note at false left accepted =
    grows_same (given_to rules H o) _ (ap given_of (signals-passed_by rules H port note at o left))

emitted_grows : (rules : Rules) (H : History) (o port : ℕ) (note : Note) (at : ℕ) (b : Bool) → accepts rules H note ≡ b
    → Grows (given_to rules H o) (given_to rules (H ▹ (port, Emit note at)) o)
emitted_grows rules H o port note at true accepted = accepted_grows rules H o port note at (is_held rules H o) refl accepted
emitted_grows rules H o port note at false refused =
    grows_same (given_to rules H o) _ (ap given_of (signals-refused rules H port note at o refused))

same_number : (a b : ℕ) (admitted : Bool) → ((a == b) && admitted) ≡ true → a ≤ b
same_number a b true it = grind (arith, nat_tests)
same_number a b false it = grind (arith, nat_tests)

joined_unmade : (rules : Rules) (H : History) (o : ℕ) → ((joins rules H == o) && may_join rules H) ≡ true → signals rules H o ≡ None
joined_unmade rules H o it = signals_unmade rules H o (same_number (joins rules H) o (may_join rules H) it)

joined_grows : (rules : Rules) (H : History) (o port : ℕ) (policy : Choice) (first at : ℕ) (b : Bool) → ((joins rules H == o) && may_join rules H) ≡ b
    → Grows (given_to rules H o) (given_to rules (H ▹ (port, Join policy first at)) o)
joined_grows rules H o port policy first at true it =
    let nothing : given_to rules H o ≡ [] = ap given_of (joined_unmade rules H o it) in
    (given_to rules (H ▹ (port, Join policy first at)) o, ap (λ notes. notes ++ given_to rules (H ▹ (port, Join policy first at)) o) (sym nothing))
joined_grows rules H o port policy first at false not_it =
    grows_same (given_to rules H o) _ (ap given_of (signals-not_joined rules H port policy first at o not_it))

requested_grows : (rules : Rules) (H : History) (o port who n : ℕ) (b : Bool) → ((who == o) && is_held rules H o) ≡ b
    → Grows (given_to rules H o) (given_to rules (H ▹ (port, Request who n)) o)
requested_grows rules H o port who n true own =
    grows_along (given_to rules H o) _ _ (ap given_of (signals-requested rules H port who n o own)) (requests_grow (signals rules H o) n)
requested_grows rules H o port who n false other =
    grows_same (given_to rules H o) _ (ap given_of (signals-not_requested rules H port who n o other))

pub given_only_grows : GivenOnlyGrows
given_only_grows rules H o (port, Emit note at) = emitted_grows rules H o port note at (accepts rules H note) refl
given_only_grows rules H o (port, Join policy first at) =
    joined_grows rules H o port policy first at ((joins rules H == o) && may_join rules H) refl
given_only_grows rules H o (port, Request who n) = requested_grows rules H o port who n ((who == o) && is_held rules H o) refl
given_only_grows rules H o (port, Dispose who) = grows_same (given_to rules H o) _ refl

-- NOTHING FOLLOWS A TERMINAL

given_ends_last : (s : Signals) (b : Bool) (xs : List Item) (front : List Note) (note : Note) (back : List Note) → IsTerminal note
    → map Next xs ++ cond b (ending s) [] ≡ front ++ note ∷ back → back ≡ []
given_ends_last s true xs front note back is same = last_only xs (terminal_of s) front note back is same
given_ends_last s false xs front note back is same = last_only xs None front note back is same

terminal_is_last_by : (rules : Rules) (H : History) (o : ℕ) (front : List Note) (note : Note) (back : List Note) (before : Option Signals) (held : Bool)
    → signals rules H o ≡ before → is_held rules H o ≡ held → IsTerminal note → line_of rules H o ≡ front ++ note ∷ back → back ≡ []
terminal_is_last_by rules H o front note back None true none held is same = absurd (not_made (signals rules H o) none (held_made rules H o held))
terminal_is_last_by rules H o front note back None false none left is same =
    absurd (not_empty front note back (sym (line_of-left rules H o left ∙ ap (λ s. option_map_or given s []) none) ∙ same))
terminal_is_last_by rules H o front note back (Some s) true has held is same =
    last_only (line_items s) (terminal_of s) front note back is (sym (line_of-held rules H o s has held) ∙ same)
terminal_is_last_by rules H o front note back (Some s) false has left is same =
    given_ends_last s (leb (length (line_items s)) (demand s)) (take (demand s) (line_items s)) front note back is
    (sym (line_of-left rules H o left ∙ ap (λ t. option_map_or given t []) has) ∙ same)

pub terminal_is_last : TerminalIsLast
terminal_is_last rules H o front note back is same =
    terminal_is_last_by rules H o front note back (signals rules H o) (is_held rules H o) refl refl is same

-- its end, where its signals are these
end_of_these : (rules : Rules) (H : History) (o : ℕ) (s : Signals) → signals rules H o ≡ Some s → end_for rules H o ≡ terminal_of s
end_of_these rules H o s is = ap (λ t. option_map_or terminal_of t None) is

-- the line of one that is held is its items and its end
line_of-parts : (rules : Rules) (H : History) (o : ℕ) (s : Signals) → signals rules H o ≡ Some s → is_held rules H o ≡ true
    → line_of rules H o ≡ map Next (items_among (line_of rules H o)) ++ option_to_list (terminal_of s)
line_of-parts rules H o s is held =
    line_of-held rules H o s is held ∙ ap (λ xs. map Next xs ++ ending s) (sym (items_among-line rules H o s is held))

either_end : (end : Option Note) (s : Signals) → EndsBy end s → (terminal_of s ≡ end) ⊎ (terminal_of s ≡ Some overflow)
either_end end s (inl same) = inl same
either_end end s (inr over) = inr over.0

own_end_by : (rules : Rules) (H : History) (o : ℕ) (before : Option Signals) → signals rules H o ≡ before → is_held rules H o ≡ true
    → (line_of rules H o ≡ map Next (items_among (line_of rules H o)) ++ option_to_list (end_for rules H o))
    × ((end_for rules H o ≡ end_of H) ⊎ (end_for rules H o ≡ Some overflow))
own_end_by rules H o None none held = absurd (not_made (signals rules H o) none (held_made rules H o held))
own_end_by rules H o (Some s) is held =
    let same = end_of_these rules H o s is in (
      line_of-parts rules H o s is held ∙ ap (λ end. map Next (items_among (line_of rules H o)) ++ option_to_list end) (sym same),
      elim (either_end (end_of H) s (signals-ends rules H o s is held)) [ inl as_subject ↦ inl (same ∙ as_subject) | inr over ↦ inr (same ∙ over) ],
    )

pub ends_as_the_subject_or_overflows : EndsAsTheSubjectOrOverflows
ends_as_the_subject_or_overflows rules H o held = own_end_by rules H o (signals rules H o) refl held

line_ends_by : (rules : Rules) (H : History) (o : ℕ) (before : Option Signals) → signals rules H o ≡ before → is_held rules H o ≡ true → bounded_of before ≡ false
    → line_of rules H o ≡ map Next (items_among (line_of rules H o)) ++ option_to_list (end_of H)
line_ends_by rules H o None none held other = absurd (not_made (signals rules H o) none (held_made rules H o held))
line_ends_by rules H o (Some s) is held other =
    line_of-parts rules H o s is held
    ∙ ap (λ end. map Next (items_among (line_of rules H o)) ++ option_to_list end) (ends_as_subject rules H o s is held other)

pub line_ends_as_the_subject : LineEndsAsTheSubject
line_ends_as_the_subject rules H o held other = line_ends_by rules H o (signals rules H o) refl held other

pub first_empty : (notes more : List Note) → notes ++ more ≡ [] → notes ≡ []
first_empty [] more e = refl
first_empty (note ∷ notes) more e = cc

pub nothing_follows_a_terminal : NothingFollowsATerminal
nothing_follows_a_terminal rules H o front note entry is gave =
    let grown = given_only_grows rules H o entry in
    let waits = waiting_for rules (H ▹ entry) o in
    let whole : line_of rules (H ▹ entry) o ≡ front ++ note ∷ (grown.0 ++ waits) =
    sym (given_then_waiting rules (H ▹ entry) o)
    ∙ ap (λ notes. notes ++ waits) (grown.1 ∙ ap (λ notes. notes ++ grown.0) gave)
    ∙ append_assoc (front ++ note ∷ []) grown.0 waits
    ∙ append_assoc front (note ∷ []) (grown.0 ++ waits) in
    let none = first_empty grown.0 waits (terminal_is_last rules (H ▹ entry) o front note (grown.0 ++ waits) is whole) in
    grown.1 ∙ ap (λ notes. given_to rules H o ++ notes) none ∙ append-nil (given_to rules H o)

ended_by_some : (end : Option Note) → is_some end ≡ true → (note : Note) × (end ≡ Some note)
ended_by_some None e = cc
ended_by_some (Some note) e = (note, refl)

follows_by : (rules : Rules) (H : History) (o : ℕ) (entry : Entry) (before : Option Signals) → signals rules H o ≡ before → is_held rules H o ≡ true → is_some (end_of H) ≡ true
    → waiting_for rules H o ≡ [] → given_to rules (H ▹ entry) o ≡ given_to rules H o
follows_by rules H o entry None no_signals held ended none = absurd (not_made (signals rules H o) no_signals (held_made rules H o held))
follows_by rules H o entry (Some s) is held ended none =
    let end = ended_by_some (terminal_of s) (ends_with_subject rules H o s is held ended) in
    let gave : given_to rules H o ≡ map Next (items_among (line_of rules H o)) ++ end.0 ∷ [] =
    sym (append-nil (given_to rules H o))
    ∙ ap (λ notes. given_to rules H o ++ notes) (sym none)
    ∙ given_then_waiting rules H o
    ∙ line_of-parts rules H o s is held
    ∙ ap (λ last. map Next (items_among (line_of rules H o)) ++ option_to_list last) end.1 in
    nothing_follows_a_terminal rules H o (map Next (items_among (line_of rules H o))) end.0 entry (ends_in_a_terminal rules H o s end.0 is end.1) gave

pub nothing_follows_the_end : NothingFollowsTheEnd
nothing_follows_the_end rules H o entry held ended none = follows_by rules H o entry (signals rules H o) refl held ended none

-- an error offers no item, by any kind
error_offers_nothing : (kind : Kind) (last : List Item) (port place : ℕ) (text : Text) → offers_by kind last port place (Failed text) ≡ []
error_offers_nothing Publish last port place text = refl
error_offers_nothing (Behavior seed) last port place text = refl
error_offers_nothing Async last port place text = refl
error_offers_nothing (Replay count age) last port place text = refl

-- an end by Ahead, as the last signal
given_ahead : (rules : Rules) (H later : History) (o : ℕ) (s : Signals) (terminal : Note) → goes_ahead (policy_of s).errors terminal ≡ true → terminal_of s ≡ None
    → signals rules H o ≡ Some s → signals rules later o ≡ Some (s ▸ Ended terminal) → is_held rules later o ≡ true
    → (given_to rules later o ≡ given_to rules H o ++ terminal ∷ []) × (waiting_for rules later o ≡ [])
given_ahead rules H later o s terminal ahead open_now is now held =
    let became = end_ahead s terminal ahead open_now in (
      ap given_of now ∙ became.gives ∙ ap (λ notes. notes ++ terminal ∷ []) (sym (ap given_of is)),
      waiting_for-held rules later o (s ▸ Ended terminal) now held
          ∙ ap (λ xs. map Next xs ++ waiting_end (s ▸ Ended terminal)) became.leaves
          ∙ became.holds,
    )

-- the error mode where the signals are these
abbrev errors_of : Option Signals → Option Errors
errors_of s = option_map (λ (policy : Choice). policy.errors) (option_map policy_of s)

by_ahead : (s : Signals) (text : Text) → errors_of (Some s) ≡ Some Ahead → goes_ahead (policy_of s).errors (Failed text) ≡ true
by_ahead s text chose = let errors : (policy_of s).errors ≡ Ahead = cc in ap (λ e. goes_ahead e (Failed text)) errors

by_delay : (s : Signals) (terminal : Note) → errors_of (Some s) ≡ Some Delay → goes_ahead (policy_of s).errors terminal ≡ false
by_delay s terminal chose = let errors : (policy_of s).errors ≡ Delay = cc in ap (λ e. goes_ahead e terminal) errors

error_ahead_by : (rules : Rules) (H : History) (o port : ℕ) (text : Text) (at : ℕ) (before : Option Signals) → signals rules H o ≡ before → is_held rules H o ≡ true
    → errors_of before ≡ Some Ahead → option_map_or terminal_of before None ≡ None
    → (given_to rules (H ▹ (port, Emit (Failed text) at)) o ≡ given_to rules H o ++ Failed text ∷ []) × (waiting_for rules (H ▹ (port, Emit (Failed text) at)) o ≡ [])
error_ahead_by rules H o port text at None none held chose open_now = cc
error_ahead_by rules H o port text at (Some s) is held chose open_now =
    let later = H ▹ (port, Emit (Failed text) at) in
    let now : signals rules later o ≡ Some (s ▸ Ended (Failed text)) =
    signals-emitted rules H port (Failed text) at o (accepted rules H (Failed text) (unended rules H o s is held open_now) refl) held
    ∙ ap (option_map (λ t. followed_by t (map Offered (offers_by rules.kind (last_item rules H) port (item_count rules H) (Failed text)) ++ Ended (Failed text) ∷ []))) is
    ∙ ap (λ xs. Some (followed_by s (map Offered xs ++ Ended (Failed text) ∷ []))) (error_offers_nothing rules.kind (last_item rules H) port (item_count rules H) text)
    ∙ ap (λ t. Some t) (sent-end s (Failed text) open_now) in
    given_ahead rules H later o s (Failed text) (by_ahead s text chose) open_now is now held

pub error_goes_ahead : ErrorGoesAhead
error_goes_ahead rules H o port text at held chose open_now = error_ahead_by rules H o port text at (signals rules H o) refl held chose open_now

-- AN OVERFLOW

-- the signals that it leaves
overflowed : (rules : Rules) (H : History) (o port : ℕ) (item : Item) (at : ℕ) (s : Signals) → offers_at_once rules.kind ≡ true → is_held rules H o ≡ true
    → accepts rules H (Next item) ≡ true → signals rules H o ≡ Some s → terminal_of s ≡ None → overflows s ≡ true
    → signals rules (H ▹ (port, Emit (Next item) at)) o ≡ Some (s ▸ Ended overflow)
overflowed rules H o port item at s once held accepted is open_now over =
    signals-emitted rules H port (Next item) at o accepted held
    ∙ ap (option_map (λ t. followed_by t (map Offered (offers_by rules.kind (last_item rules H) port (item_count rules H) (Next item)) ++ []))) is
    ∙ ap (λ xs. Some (followed_by s (map Offered xs ++ []))) (now_offered rules.kind (last_item rules H) port (item_count rules H) (Next item) once)
    ∙ ap (λ t. Some t) (followed-overflow s (record item { from = port; place = item_count rules H }) [] None open_now over)

overflow_ends_by : (rules : Rules) (H : History) (o port : ℕ) (item : Item) (at : ℕ) (before : Option Signals) → signals rules H o ≡ before → offers_at_once rules.kind ≡ true → is_held rules H o ≡ true
    → accepts rules H (Next item) ≡ true → option_map_or terminal_of before None ≡ None → option_map_or overflows before false ≡ true
    → (end_for rules (H ▹ (port, Emit (Next item) at)) o ≡ Some overflow) × (offered_to rules (H ▹ (port, Emit (Next item) at)) o ≡ offered_to rules H o)
overflow_ends_by rules H o port item at None none once held accepted open_now over = cc
overflow_ends_by rules H o port item at (Some s) is once held accepted open_now over =
    let now = overflowed rules H o port item at s once held accepted is open_now over in (
      ap (λ t. option_map_or terminal_of t None) now,
      ap (λ t. option_map_or offered t []) now ∙ ap (λ t. option_map_or offered t []) (sym is),
    )

pub overflow_ends_it : OverflowEndsIt
overflow_ends_it rules H o port item at once holds accepted open_now over = overflow_ends_by rules H o port item at (signals rules H o) refl once holds accepted open_now over

overflow_behind_by : (rules : Rules) (H : History) (o port : ℕ) (item : Item) (at : ℕ) (before : Option Signals) → signals rules H o ≡ before → offers_at_once rules.kind ≡ true → is_held rules H o ≡ true
    → accepts rules H (Next item) ≡ true → errors_of before ≡ Some Delay → option_map_or terminal_of before None ≡ None → option_map_or overflows before false ≡ true
    → line_of rules (H ▹ (port, Emit (Next item) at)) o ≡ line_of rules H o ++ overflow ∷ []
overflow_behind_by rules H o port item at None none once held accepted chose open_now over = cc
overflow_behind_by rules H o port item at (Some s) is once held accepted chose open_now over =
    let later = H ▹ (port, Emit (Next item) at) in
    let now = overflowed rules H o port item at s once held accepted is open_now over in
    let before : line_of rules H o ≡ map Next (line_items s) =
    line_of-held rules H o s is held ∙ ap (λ end. map Next (line_items s) ++ option_to_list end) open_now ∙ append-nil (map Next (line_items s)) in
    line_of-held rules later o (s ▸ Ended overflow) now held
    ∙ ap (λ xs. map Next xs ++ overflow ∷ []) (line_items-ended s overflow (by_delay s overflow chose) open_now)
    ∙ ap (λ notes. notes ++ overflow ∷ []) (sym before)

pub overflow_stays_behind : OverflowStaysBehind
overflow_stays_behind rules H o port item at once holds accepted chose open_now over =
    overflow_behind_by rules H o port item at (signals rules H o) refl once holds accepted chose open_now over

overflow_ahead_by : (rules : Rules) (H : History) (o port : ℕ) (item : Item) (at : ℕ) (before : Option Signals) → signals rules H o ≡ before → offers_at_once rules.kind ≡ true → is_held rules H o ≡ true
    → accepts rules H (Next item) ≡ true → errors_of before ≡ Some Ahead → option_map_or terminal_of before None ≡ None → option_map_or overflows before false ≡ true
    → (given_to rules (H ▹ (port, Emit (Next item) at)) o ≡ given_to rules H o ++ overflow ∷ []) × (waiting_for rules (H ▹ (port, Emit (Next item) at)) o ≡ [])
overflow_ahead_by rules H o port item at None none once held accepted chose open_now over = cc
overflow_ahead_by rules H o port item at (Some s) is once held accepted chose open_now over =
    given_ahead rules H (H ▹ (port, Emit (Next item) at)) o s overflow (by_ahead s (codes "OVERFLOW") chose) open_now is (overflowed rules H o port item at s once held accepted is open_now over) held

pub overflow_goes_ahead : OverflowGoesAhead
overflow_goes_ahead rules H o port item at once holds accepted chose open_now over =
    overflow_ahead_by rules H o port item at (signals rules H o) refl once holds accepted chose open_now over

-- AN END STAYS

-- signals that have an end have the same end and the same offers
abbrev SameEnd : Option Signals → Option Signals → Type 0
SameEnd before after = (option_map_or terminal_of after None ≡ option_map_or terminal_of before None) × (option_map_or offered after [] ≡ option_map_or offered before [])

same_signals : (before after : Option Signals) → after ≡ before → SameEnd before after
same_signals before after e = (ap (λ t. option_map_or terminal_of t None) e, ap (λ t. option_map_or offered t []) e)

fed_stays : (before : Option Signals) (offers : List Item) (last : Option Note) (end : Note) → option_map_or terminal_of before None ≡ Some end
    → SameEnd before (option_map (λ s. followed_by s (map Offered offers ++ ended_by last)) before)
fed_stays None offers last end ended = cc
fed_stays (Some s) offers last end ended = same_signals (Some s) _ (ap (λ t. Some t) (followed-behind s end offers last ended))

asked_stays_by : (b : Bool) (s : Signals) (n : ℕ) → SameEnd (Some s) (Some (cond b (s ▸ Requested n) s))
asked_stays_by true s n = (refl, refl)
asked_stays_by false s n = (refl, refl)

asked_stays : (before : Option Signals) (n : ℕ) → SameEnd before (option_map (λ s. cond (may_request n s) (s ▸ Requested n) s) before)
asked_stays None n = (refl, refl)
asked_stays (Some s) n = asked_stays_by (may_request n s) s n

same_along : (before after after' : Option Signals) → after' ≡ after → SameEnd before after → SameEnd before after'
same_along before after after' e same = (ap (λ t. option_map_or terminal_of t None) e ∙ same.0, ap (λ t. option_map_or offered t []) e ∙ same.1)

no_end : (end : Note) → None ≡ Some end → ⊥
no_end end e = cc

emitted_stays : (rules : Rules) (H : History) (o port : ℕ) (note : Note) (at : ℕ) (end : Note) (fed : Bool) → (is_held rules H o && accepts rules H note) ≡ fed → end_for rules H o ≡ Some end
    → SameEnd (signals rules H o) (signals rules (H ▹ (port, Emit note at)) o)
emitted_stays rules H o port note at end true fed ended =
    same_along (signals rules H o) (option_map (λ s. followed_by s (signalled rules H port note)) (signals rules H o)) _
    (ap (λ b. cond b (option_map (λ s. followed_by s (signalled rules H port note)) (signals rules H o)) (signals rules H o)) fed)
    (fed_stays (signals rules H o) (offers_by rules.kind (last_item rules H) port (item_count rules H) note) (terminal_in note) end ended)
emitted_stays rules H o port note at end false passed ended =
    same_signals (signals rules H o) _ (ap (λ b. cond b (option_map (λ s. followed_by s (signalled rules H port note)) (signals rules H o)) (signals rules H o)) passed)

joined_stays : (rules : Rules) (H : History) (o port : ℕ) (policy : Choice) (first at : ℕ) (end : Note) (b : Bool) → ((joins rules H == o) && may_join rules H) ≡ b → end_for rules H o ≡ Some end
    → SameEnd (signals rules H o) (signals rules (H ▹ (port, Join policy first at)) o)
joined_stays rules H o port policy first at end true it ended =
    absurd (no_end end (sym (ap (λ t. option_map_or terminal_of t None) (joined_unmade rules H o it)) ∙ ended))
joined_stays rules H o port policy first at end false not_it ended = same_signals (signals rules H o) _ (signals-not_joined rules H port policy first at o not_it)

requested_stays : (rules : Rules) (H : History) (o port who n : ℕ) (b : Bool) → ((who == o) && is_held rules H o) ≡ b → SameEnd (signals rules H o) (signals rules (H ▹ (port, Request who n)) o)
requested_stays rules H o port who n true own =
    same_along (signals rules H o) _ _ (signals-requested rules H port who n o own) (asked_stays (signals rules H o) n)
requested_stays rules H o port who n false other = same_signals (signals rules H o) _ (signals-not_requested rules H port who n o other)

stays_so : (rules : Rules) (H : History) (o : ℕ) (entry : Entry) (end : Note) → end_for rules H o ≡ Some end → SameEnd (signals rules H o) (signals rules (H ▹ entry) o)
stays_so rules H o (port, Emit note at) end ended = emitted_stays rules H o port note at end (is_held rules H o && accepts rules H note) refl ended
stays_so rules H o (port, Join policy first at) end ended = joined_stays rules H o port policy first at end ((joins rules H == o) && may_join rules H) refl ended
stays_so rules H o (port, Request who n) end ended = requested_stays rules H o port who n ((who == o) && is_held rules H o) refl
stays_so rules H o (port, Dispose who) end ended = same_signals (signals rules H o) _ refl

pub end_stays : EndStays
end_stays rules H o entry end ended = let same = stays_so rules H o entry end ended in (same.0 ∙ ended, same.1)

-- THE DISPOSED

none_left : (o : ℕ) (b : Bool) (k : ℕ) (ks : List ℕ) → (k == o) ≡ b → list_any (λ n. n == o) ks ≡ false → list_any (λ n. n == o) (cond (not b) (k ∷ ks) ks) ≡ false
none_left o true k ks is none = none
none_left o false k ks is none = ap (λ c. c || list_any (λ n. n == o) ks) is ∙ none

gone : (o : ℕ) (ks : List ℕ) → list_any (λ k. k == o) (filter (λ k. not (k == o)) ks) ≡ false
gone o [] = refl
gone o (k ∷ ks) = none_left o (k == o) k (filter (λ n. not (n == o)) ks) refl (gone o ks)

-- who has left is not held
left_now : (rules : Rules) (H : History) (port o : ℕ) → is_held rules (H ▹ (port, Dispose o)) o ≡ false
left_now rules H port o = gone o (held rules H)

pub dispose_discards : DisposeDiscards
dispose_discards rules H o port = (
  refl,
  waiting_for-left rules (H ▹ (port, Dispose o)) o (left_now rules H port o),
  line_of-left rules (H ▹ (port, Dispose o)) o (left_now rules H port o),
)

-- one that is not held is given nothing more
pub given_to-left : (rules : Rules) (H : History) (o : ℕ) (entry : Entry) → is_held rules (H ▹ entry) o ≡ false → given_to rules (H ▹ entry) o ≡ given_to rules H o
given_to-left rules H o (port, Emit note at) left = ap given_of (signals-passed_by rules H port note at o left)
given_to-left rules H o (port, Join policy first at) left =
    let not_it : ((joins rules H == o) && may_join rules H) ≡ false =
    elim (cases_Bool ((joins rules H == o) && may_join rules H)) [
      | inl it ↦ absurd (false≢true (sym left ∙ is_held-joined rules H port policy first at o it))
      | inr not_it ↦ not_it
    ] in
    ap given_of (signals-not_joined rules H port policy first at o not_it)
given_to-left rules H o (port, Request who n) left =
    ap given_of (signals-not_requested rules H port who n o (ap (λ b. (who == o) && b) left ∙ and_false (who == o)))
given_to-left rules H o (port, Dispose who) left = refl

still_left : (rules : Rules) (H : History) (o : ℕ) (entry : Entry) → o < joins rules H → is_held rules H o ≡ false → is_held rules (H ▹ entry) o ≡ false
still_left rules H o (port, Emit note at) made left = left
still_left rules H o (port, Join policy first at) made left =
    let other : (joins rules H == o) ≡ false = grind (arith, nat_tests) in
    is_held-not_joined rules H port policy first at o (ap (λ b. b && may_join rules H) other) ∙ left
still_left rules H o (port, Request who n) made left = left
still_left rules H o (port, Dispose who) made left =
    elim (cases_Bool (is_held rules (H ▹ (port, Dispose who)) o)) [
      | inl held ↦ absurd (false≢true (sym left ∙ held_before rules H port who o held))
      | inr gone ↦ gone
    ]

pub nothing_follows_a_dispose : NothingFollowsADispose
nothing_follows_a_dispose rules H o entry made left =
    let later = still_left rules H o entry made left in
    (given_to-left rules H o entry later, later)

-- BOUNDED WAITING

items_given : (s : Signals) → items_among (ending s) ≡ [] → length (items_among (given s)) + owed s ≡ demand s
items_given s none = omega (arith, ap length (items_among-given s none), length-take (demand s) (line_items s))

given_and_owed_by : (rules : Rules) (H : History) (o : ℕ) (before : Option Signals) → signals rules H o ≡ before
    → length (items_among (option_map_or given before [])) + option_map_or owed before 0 ≡ option_map_or demand before 0
given_and_owed_by rules H o None none = omega arith
given_and_owed_by rules H o (Some s) is =
    items_given s (items_among-ending rules H o s is)

pub given_and_owed : GivenAndOwed
given_and_owed rules H o = given_and_owed_by rules H o (signals rules H o) refl

pub given_within_requests : GivenWithinRequests
given_within_requests rules H o = omega (arith, given_and_owed rules H o)

none_waits : (b : Bool) (s : Option Signals) → 0 < option_map_or owed s 0 → cond b (option_map_or waiting s []) [] ≡ []
none_waits true None owes = refl
none_waits true (Some s) owes = owed-waiting s owes
none_waits false s owes = refl

pub nothing_waits_while_owed : NothingWaitsWhileOwed
nothing_waits_while_owed rules H o owes = none_waits (is_held rules H o) (signals rules H o) owes

no_item_behind : (b : Bool) (last : List Note) → items_among last ≡ [] → items_among (cond b [] last) ≡ []
no_item_behind true last e = refl
no_item_behind false last e = e

-- the items among what waits
items_waiting : (s : Signals) → items_among (ending s) ≡ [] → items_among (waiting s) ≡ waiting_items s
items_waiting s none =
    items_among-append (map Next (waiting_items s)) (waiting_end s)
    ∙ ap (λ xs. xs ++ items_among (waiting_end s)) (items_among-items (waiting_items s))
    ∙ ap (λ xs. waiting_items s ++ xs) (no_item_behind (leb (length (line_items s)) (demand s)) (ending s) none)
    ∙ append-nil (waiting_items s)

-- the strategy where the signals are these
abbrev strategy_of : Option Signals → Option Strategy
strategy_of s = option_map (λ (policy : Choice). policy.strategy) (option_map policy_of s)

chosen_one : (s : Signals) (room : ℕ) → (strategy_of (Some s) ≡ Some (Drop room)) ⊎ (strategy_of (Some s) ≡ Some (Latest room)) ⊎ (strategy_of (Some s) ≡ Some (Bounded room))
    → ((policy_of s).strategy ≡ Drop room) ⊎ ((policy_of s).strategy ≡ Latest room) ⊎ ((policy_of s).strategy ≡ Bounded room)
chosen_one s room (inl drops) = inl cc
chosen_one s room (inr (inl latest)) = inr (inl cc)
chosen_one s room (inr (inr bounded)) = inr (inr cc)

waits_within_by : (rules : Rules) (H : History) (o room : ℕ) (before : Option Signals) → signals rules H o ≡ before
    → (strategy_of before ≡ Some (Drop room)) ⊎ (strategy_of before ≡ Some (Latest room)) ⊎ (strategy_of before ≡ Some (Bounded room))
    → length (items_among (option_map_or waiting before [])) ≤ room
waits_within_by rules H o room None none chose = omega arith
waits_within_by rules H o room (Some s) is chose =
    let strategy : ((policy_of s).strategy ≡ Drop room) ⊎ ((policy_of s).strategy ≡ Latest room) ⊎ ((policy_of s).strategy ≡ Bounded room) =
    chosen_one s room chose in
    omega (arith, waits_within room s (are_in_room rules H o s is) strategy, ap length (items_waiting s (items_among-ending rules H o s is)))

waits_held : (b : Bool) (s : Option Signals) (room : ℕ) → length (items_among (option_map_or waiting s [])) ≤ room
    → length (items_among (cond b (option_map_or waiting s []) [])) ≤ room
waits_held true s room within = within
waits_held false s room within = omega arith

pub waits_within_room : WaitsWithinRoom
waits_within_room rules H o room chose =
    waits_held (is_held rules H o) (signals rules H o) room (waits_within_by rules H o room (signals rules H o) refl chose)

loses_none : (g : Strategy) → loses_nothing g ≡ true → LosesNothing g
loses_none Buffer keeps = λ ahead. refl
loses_none (Drop room) keeps = absurd (false≢true keeps)
loses_none (Latest room) keeps = absurd (false≢true keeps)
loses_none (Bounded room) keeps = λ ahead. refl

pub kept_is_all : KeptIsAll
kept_is_all s keeps = kept-all (policy_of s).strategy s refl (loses_none (policy_of s).strategy keeps) ∙ without-none s

keeps_all_by : (rules : Rules) (H : History) (o : ℕ) (before : Option Signals) → signals rules H o ≡ before → is_held rules H o ≡ true
    → option_map loses_nothing (strategy_of before) ≡ Some true → option_map_or ends_ahead before false ≡ false → items_among (line_of rules H o) ≡ option_map_or offered before []
keeps_all_by rules H o None none held chose behind = cc
keeps_all_by rules H o (Some s) is held chose behind =
    let keeps : loses_nothing (policy_of s).strategy ≡ true = cc in
    items_among-line rules H o s is held
    ∙ line_items-behind s behind
    ∙ kept_is_all s keeps

pub keeps_all : KeepsAll
keeps_all rules H o holds chose behind = keeps_all_by rules H o (signals rules H o) refl holds chose behind

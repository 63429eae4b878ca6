-- A trace keeps up with the signals: what each of them makes of it.
use Rattle.std.proofs.Common.{◌≡◌, ℕ, zero, suc, ◌+◌, ◌-◌, ◌<◌, ◌≤◌, Bool, true, false, List, [], ◌∷◌, ◌++◌, length, cond, map, take, drop, Option, None, Some, is_some, option_to_list, inl, inr, refl, sym, ap, subst, ◌∙◌, arith}
use Rattle.std.proofs.lemmas.Bool.{cases_lt, lt-ltb, le-ltb}
use Rattle.std.proofs.lemmas.List.{map-append, length-take, length-append, take_all, drop_at}
use Rattle.rx_note.specs.declared.item.Item.{Item}
use Rattle.rx_note.specs.declared.note.Note.{Note}
use Rattle.rx_note.specs.declared.note.Note.TheVariants.{Next}
use Rattle.rx_note.specs.Choices.{Choice}
use Rattle.rx_note.specs.declared.strategy.Strategy.{Strategy}
use Rattle.rx_note.specs.declared.strategy.Strategy.TheVariants.{Buffer, Drop, Latest, Bounded}
use Rattle.rx_note.proofs.Sending.{sent-behind, sent-second, sent-end, sent-fits, sent-overflow, sent-owed, overflows-by, overflows-full, overflows-free}
use Rattle.rx_history.specs.Histories.{followed_by, ended_by}
use Rattle.rx_note.specs.Signals.{Start, Requested, Offered, Ended, Signals, ◌▸◌, policy_of, demand, beyond_room, terminal_of, overflow, are_too_many, overflows, sent, goes_ahead, line_items, line, given, waiting_items, waiting, owed}
use Rattle.rx_note.specs.Queues.{queued}
use Rattle.rx_note.proofs.Lines.{line_items-owed, line_items-queued, line_items-ended, line_items-ahead, owed-rest, given-waiting}
use Rattle.rx_history.proofs.Cases.{absent}
use Rattle.rx_history.proofs.Feeding.{followed_by-append}
use Rattle.rx_history.proofs.Rooms.{waits_in_room}
use Rattle.rx_history.specs.declared.trace.Trace.{Trace}
use Rattle.rx_history.specs.Traces.{Traces}

-- as many of the first items as there are of the first n are the first n
take_length : (n : ℕ) (xs : List Item) → take (length (take n xs)) xs ≡ take n xs
take_length zero xs = refl
take_length (suc n) [] = refl
take_length (suc n) (x ∷ xs) = ap (λ ys. x ∷ ys) (take_length n xs)

take-nil : (n : ℕ) → take {A = Item} n [] ≡ []
take-nil zero = refl
take-nil (suc n) = refl

-- an item that is owed is given at once, and all the items are then given
pub offer_given : (old new : Trace) (item : Item) (s : Signals) → Traces old s → terminal_of s ≡ None → 0 < old.owed
    → new.strategy ≡ old.strategy → new.errors ≡ old.errors → new.items.items ≡ old.items.items ++ item ∷ [] → new.given ≡ length new.items.items → new.owed ≡ old.owed - 1 → new.end ≡ old.end
    → Traces new (s ▸ Offered item)
offer_given old new item s was open_now owes is_strategy is_errors is_items is_given is_owed is_end =
    let short : length (line_items s) < demand s = omega (arith, owed-rest s, was.has_owed) in
    let behind : line_items (s ▸ Offered item) ≡ line_items s ++ item ∷ [] = line_items-owed s item open_now short in
    let longer = ap length behind ∙ length-append (line_items s) (item ∷ []) in
    let has_items = is_items ∙ ap (λ xs. xs ++ item ∷ []) was.has_items ∙ sym behind in
    let all = ap length has_items in
    let cut = length-take (demand s) (line_items (s ▸ Offered item)) in
    record {
      has_strategy = is_strategy ∙ was.has_strategy;
      has_errors = is_errors ∙ was.has_errors;
      has_items = has_items;
      has_given = omega (arith, longer, all, cut, owed-rest s, was.has_owed);
      has_owed = omega (arith, longer, cut, owed-rest s, was.has_owed);
      has_end = is_end ∙ was.has_end;
    }

-- an item that is not owed is queued by the strategy behind those given
pub offer_waits : (old new : Trace) (item : Item) (s : Signals) → Traces old s → terminal_of s ≡ None → old.owed ≡ 0
    → new.strategy ≡ old.strategy → new.errors ≡ old.errors
    → (beyond_room old.strategy (length (drop old.given old.items.items)) ≡ 0
    → new.items.items ≡ take old.given old.items.items ++ queued old.strategy (drop old.given old.items.items) item)
    → new.given ≡ old.given → new.owed ≡ old.owed → new.end ≡ old.end
    → Traces new (s ▸ Offered item)
offer_waits old new item s was open_now owes is_strategy is_errors queues is_given is_owed is_end =
    let g = (policy_of s).strategy in
    let front = take (demand s) (line_items s) in
    let back = queued g (waiting_items s) item in
    let long : demand s ≤ length (line_items s) = omega (arith, owed-rest s, was.has_owed) in
    let place : old.given ≡ demand s = omega (arith, was.has_given, length-take (demand s) (line_items s)) in
    let waits : drop old.given old.items.items ≡ waiting_items s =
    ap (λ n. drop n old.items.items) place ∙ ap (drop (demand s)) was.has_items in
    let in_room : beyond_room old.strategy (length (drop old.given old.items.items)) ≡ 0 =
    ap (λ h. beyond_room h (length (drop old.given old.items.items))) was.has_strategy
    ∙ ap (λ xs. beyond_room g (length xs)) waits
    ∙ waits_in_room g s refl in
    let is_items : new.items.items ≡ front ++ back =
    queues in_room
    ∙ ap (λ xs. xs ++ queued old.strategy (drop old.given old.items.items) item)
    (ap (λ n. take n old.items.items) place ∙ ap (take (demand s)) was.has_items)
    ∙ ap (λ h. front ++ queued h (drop old.given old.items.items) item) was.has_strategy
    ∙ ap (λ xs. front ++ queued g xs item) waits in
    let parts : line_items (s ▸ Offered item) ≡ front ++ back = line_items-queued g s item refl open_now long in
    let longer = ap length parts ∙ length-append front back in
    let before = length-take (demand s) (line_items s) in
    let cut = length-take (demand s) (line_items (s ▸ Offered item)) in
    record {
      has_strategy = is_strategy ∙ was.has_strategy;
      has_errors = is_errors ∙ was.has_errors;
      has_items = is_items ∙ sym parts;
      has_given = omega (arith, longer, before, cut, place);
      has_owed = omega (arith, longer, before, cut, owed-rest s, was.has_owed);
      has_end = is_end ∙ was.has_end;
    }

-- the end leaves the items, but that an error that goes ahead leaves of them those that were given
kept_by : (b : Bool) (g : ℕ) (xs : List Item) (n : ℕ) → g ≡ length (take n xs) → take (cond b g (length xs)) xs ≡ cond b (take n xs) xs
kept_by true g xs n given = ap (λ k. take k xs) given ∙ take_length n xs
kept_by false g xs n given = take_all (length xs) xs (omega arith)

cut_twice : (b : Bool) (n : ℕ) (xs : List Item) → take n (cond b (take n xs) xs) ≡ take n xs
cut_twice true n xs = take_all n (take n xs) (omega (arith, length-take n xs))
cut_twice false n xs = refl

line_items-end : (b : Bool) (s : Signals) (terminal : Note) → goes_ahead (policy_of s).errors terminal ≡ b → terminal_of s ≡ None
    → line_items (s ▸ Ended terminal) ≡ cond b (take (demand s) (line_items s)) (line_items s)
line_items-end true s terminal ahead open_now = line_items-ahead s terminal ahead open_now
line_items-end false s terminal behind open_now = line_items-ended s terminal behind open_now

pub ends : (old new : Trace) (terminal : Note) (s : Signals) → Traces old s → terminal_of s ≡ None
    → new.strategy ≡ old.strategy → new.errors ≡ old.errors
    → new.items.items ≡ take (cond (goes_ahead old.errors terminal) old.given (length old.items.items)) old.items.items
    → new.given ≡ old.given → new.owed ≡ old.owed → new.end ≡ Some terminal
    → Traces new (s ▸ Ended terminal)
ends old new terminal s was open_now is_strategy is_errors is_items is_given is_owed is_end =
    let b = goes_ahead old.errors terminal in
    let xs = line_items s in
    let left : line_items (s ▸ Ended terminal) ≡ cond b (take (demand s) xs) xs =
    line_items-end b s terminal (ap (λ e. goes_ahead e terminal) (sym was.has_errors)) open_now in
    let cut : take (demand s) (line_items (s ▸ Ended terminal)) ≡ take (demand s) xs = ap (take (demand s)) left ∙ cut_twice b (demand s) xs in
    record {
      has_strategy = is_strategy ∙ was.has_strategy;
      has_errors = is_errors ∙ was.has_errors;
      has_items =
          is_items
          ∙ ap (λ ys. take (cond b old.given (length ys)) ys) was.has_items
          ∙ kept_by b old.given xs (demand s) was.has_given
          ∙ sym left;
      has_given = is_given ∙ was.has_given ∙ ap length (sym cut);
      has_owed = is_owed ∙ was.has_owed ∙ ap (λ ys. demand s - length ys) (sym cut);
      has_end = is_end;
    }

-- an observer that joins has requested its first items
pub opens : (new : Trace) (policy : Choice) (first : ℕ) → new.strategy ≡ policy.strategy → new.errors ≡ policy.errors → new.items.items ≡ [] → new.given ≡ 0 → new.owed ≡ first → new.end ≡ None
    → Traces new (Start policy ▸ Requested first)
opens new policy first is_strategy is_errors is_items is_given is_owed is_end = record {
  has_strategy = is_strategy;
  has_errors = is_errors;
  has_items = is_items;
  has_given = is_given ∙ sym (ap length (take-nil (0 + first)));
  has_owed = omega (arith, ap length (take-nil (0 + first)));
  has_end = is_end;
}

-- SIGNALS THAT ARE SENT

some_end : (end : Option Note) → is_some end ≡ true → (terminal : Note) × (end ≡ Some terminal)
some_end None ended = cc
some_end (Some terminal) ended = (terminal, refl)

-- once the observer has an end nothing follows
pub offer_behind : (trace : Trace) (item : Item) (s : Signals) → Traces trace s → is_some trace.end ≡ true → Traces trace (sent s (Offered item))
offer_behind trace item s was ended =
    let end = some_end trace.end ended in
    subst (λ (t : Signals). Traces trace t) (sym (sent-behind s end.0 item (sym was.has_end ∙ end.1))) was

pub end_behind : (trace : Trace) (terminal : Note) (s : Signals) → Traces trace s → is_some trace.end ≡ true → Traces trace (sent s (Ended terminal))
end_behind trace terminal s was ended =
    let end = some_end trace.end ended in
    subst (λ (t : Signals). Traces trace t) (sym (sent-second s end.0 terminal (sym was.has_end ∙ end.1))) was

-- before it has one, its signals have none
pub unended : (trace : Trace) (s : Signals) → Traces trace s → is_some trace.end ≡ false → terminal_of s ≡ None
unended trace s was open_now = sym was.has_end ∙ absent trace.end open_now

pub end_sent : (new : Trace) (terminal : Note) (s : Signals) → terminal_of s ≡ None → Traces new (s ▸ Ended terminal) → Traces new (sent s (Ended terminal))
end_sent new terminal s open_now ended = subst (λ (t : Signals). Traces new t) (sym (sent-end s terminal open_now)) ended

-- an item that is owed is sent and given at once
pub given_sent : (old new : Trace) (item : Item) (s : Signals) → Traces old s → is_some old.end ≡ false → 0 < old.owed
    → new.strategy ≡ old.strategy → new.errors ≡ old.errors → new.items.items ≡ old.items.items ++ item ∷ [] → new.given ≡ length new.items.items → new.owed ≡ old.owed - 1 → new.end ≡ old.end
    → Traces new (sent s (Offered item))
given_sent old new item s was none owes is_strategy is_errors is_items is_given is_owed is_end =
    let open_now = unended old s was none in
    subst (λ (t : Signals). Traces new t) (sym (sent-owed s item open_now (omega (arith, was.has_owed, owes))))
    (offer_given old new item s was open_now owes is_strategy is_errors is_items is_given is_owed is_end)

-- an item that is not owed overflows where one more than wait is too many
too_many : (g : Strategy) (s : Signals) → (policy_of s).strategy ≡ g → terminal_of s ≡ None → owed s ≡ 0 → overflows s ≡ are_too_many g (length (waiting_items s) + 1)
too_many Buffer s e open_now owes = overflows-by Buffer s e
too_many (Drop room) s e open_now owes = overflows-by (Drop room) s e
too_many (Latest room) s e open_now owes = overflows-by (Latest room) s e
too_many (Bounded room) s e open_now owes =
    elim (cases_lt (length (waiting_items s)) room) [
      | inl free ↦ overflows-free room s e open_now (inr free) ∙ sym (le-ltb room (length (waiting_items s) + 1) (omega (arith, free)))
      | inr full ↦ overflows-full room s e open_now owes full ∙ sym (lt-ltb room (length (waiting_items s) + 1) (omega (arith, full)))
    ]

told_so : (trace : Trace) (s : Signals) → Traces trace s → terminal_of s ≡ None → trace.owed ≡ 0 → overflows s ≡ are_too_many trace.strategy (length (drop trace.given trace.items.items) + 1)
told_so trace s was open_now owes =
    let place : trace.given ≡ demand s = omega (arith, was.has_given, was.has_owed, owed-rest s, length-take (demand s) (line_items s)) in
    let waits : drop trace.given trace.items.items ≡ waiting_items s = ap (λ n. drop n trace.items.items) place ∙ ap (drop (demand s)) was.has_items in
    too_many (policy_of s).strategy s refl open_now (omega (arith, was.has_owed))
    ∙ ap (λ g. are_too_many g (length (waiting_items s) + 1)) (sym was.has_strategy)
    ∙ ap (λ (xs : List Item). are_too_many trace.strategy (length xs + 1)) (sym waits)

pub waits_sent : (old new : Trace) (item : Item) (s : Signals) → Traces old s → is_some old.end ≡ false → old.owed ≡ 0 → are_too_many old.strategy (length (drop old.given old.items.items) + 1) ≡ false
    → new.strategy ≡ old.strategy → new.errors ≡ old.errors
    → (beyond_room old.strategy (length (drop old.given old.items.items)) ≡ 0
    → new.items.items ≡ take old.given old.items.items ++ queued old.strategy (drop old.given old.items.items) item)
    → new.given ≡ old.given → new.owed ≡ old.owed → new.end ≡ old.end
    → Traces new (sent s (Offered item))
waits_sent old new item s was none owes fits is_strategy is_errors queues is_given is_owed is_end =
    let open_now = unended old s was none in
    subst (λ (t : Signals). Traces new t) (sym (sent-fits s item open_now (told_so old s was open_now owes ∙ fits)))
    (offer_waits old new item s was open_now owes is_strategy is_errors queues is_given is_owed is_end)

pub overflow_sent : (old new : Trace) (item : Item) (terminal : Note) (s : Signals) → Traces old s → is_some old.end ≡ false → old.owed ≡ 0 → are_too_many old.strategy (length (drop old.given old.items.items) + 1) ≡ true
    → terminal ≡ overflow → Traces new (sent s (Ended terminal)) → Traces new (sent s (Offered item))
overflow_sent old new item terminal s was none owes over is ended =
    let open_now = unended old s was none in
    let same : sent s (Offered item) ≡ sent s (Ended terminal) =
    sent-overflow s item open_now (told_so old s was open_now owes ∙ over) ∙ sym (sent-end s overflow open_now) ∙ ap (λ (t : Note). sent s (Ended t)) (sym is) in
    subst (λ (t : Signals). Traces new t) (sym same) ended

-- one item more is offered
pub follows_item : (old new : Trace) (s : Signals) (items : List Item) (item : Item)
    → Traces old (followed_by s (map Offered items)) → ((t : Signals) → Traces old t → Traces new (sent t (Offered item)))
    → Traces new (followed_by s (map Offered (items ++ item ∷ [])))
follows_item old new s items item was offers =
    let P : Signals → Type 0 = λ t. Traces new t in
    subst P
    (sym (ap (followed_by s) (map-append Offered items (item ∷ [])) ∙ followed_by-append s (map Offered items) (Offered item ∷ [])))
    (offers (followed_by s (map Offered items)) was)

-- the end follows the items
pub follows_end : (old new : Trace) (s : Signals) (items all : List Item) (end : Option Note) (terminal : Note) → items ≡ all → end ≡ Some terminal
    → Traces old (followed_by s (map Offered items)) → ((t : Signals) → Traces old t → Traces new (sent t (Ended terminal)))
    → Traces new (followed_by s (map Offered all ++ ended_by end))
follows_end old new s items all end terminal same is was ends =
    let P : Signals → Type 0 = λ t. Traces new t in
    subst P
    (sym (ap (λ e. followed_by s (map Offered all ++ ended_by e)) is
    ∙ ap (λ xs. followed_by s (map Offered xs ++ ended_by (Some terminal))) (sym same)
    ∙ followed_by-append s (map Offered items) (ended_by (Some terminal))))
    (ends (followed_by s (map Offered items)) was)

-- the notes of the items and of the end are the line
pub line_is : (trace : Trace) (s : Signals) → Traces trace s → map Next trace.items.items ++ option_to_list trace.end ≡ line s
line_is trace s is =
    ap (λ xs. map Next xs ++ option_to_list trace.end) is.has_items
    ∙ ap (λ end. map Next (line_items s) ++ option_to_list end) is.has_end

-- what follows the notes given is what waits
pub waits_behind : (s : Signals) → drop (length (given s)) (line s) ≡ waiting s
waits_behind s =
    ap (drop (length (given s))) (sym (given-waiting s)) ∙ drop_at (given s) (waiting s) (length (given s)) refl

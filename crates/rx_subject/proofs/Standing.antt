-- What a subject that stands for a history offers, what it opens with, and what it stands for after each event.
use Rattle.std.proofs.Common.{◌≡◌, ℕ, ◌+◌, ◌-◌, ◌≤◌, max, Bool, true, false, cond, List, [], ◌∷◌, ◌++◌, length, map, take, Option, None, Some, is_some, refl, sym, ap, subst, ◌∙◌, arith, append-nil}
use Rattle.std.proofs.Math.Nat.{le-max_left}
use Rattle.std.specs.Option.{option_or}
use Rattle.std.proofs.lemmas.List.{length-drop, drop_all, take_all}
use Rattle.rx_note.specs.declared.item.Item.{Item}
use Rattle.rx_note.specs.declared.limits.Limits.{Limits}
use Rattle.rx_note.specs.declared.note.Note.{Note}
use Rattle.rx_note.specs.declared.note.Note.TheVariants.{Next, Completed, Failed}
use Rattle.rx_note.specs.declared.event.Event.TheVariants.{Emit, Join, Request, Dispose}
use Rattle.rx_note.specs.declared.kind.Kind.{Kind}
use Rattle.rx_note.specs.declared.kind.Kind.TheVariants.{Publish, Behavior, Async, Replay}
use Rattle.rx_note.specs.declared.rules.Rules.{Rules}
use Rattle.rx_note.specs.Choices.{Choice}
use Rattle.rx_note.specs.Signals.{Offered}
use Rattle.rx_history.specs.Histories.{Entry, History, NoEvents, ◌▹◌, Stamped, unstamped, newest, last_item, or_else, seed_item, terminal_in, end_of, is_ended, has_room, count_with, item_count, accepts, is_completion, up_to_end, may_join, stamp, item_in, items, young, at_most, age_moment, opening_by, offers_by, ended_by, signalled}
use Rattle.rx_history.proofs.Accepting.{accepted, end_of-refused, item_count-accepted, item_count-refused}
use Rattle.rx_history.proofs.Cases.{absent}
use Rattle.rx_history.proofs.Offers.{items-accepted, items-refused}
use Rattle.rx_subject.specs.Windows.{count_kept, age_kept, kept_by, window_of, from_young}
use Rattle.rx_subject.specs.Subjects.{SubjectState, StandsFor, signals_by, items_by, subject_at_first, window_with, after_item, after_end, after_join}
use Rattle.rx_subject.proofs.Rising.{RisesTo, items_rise}
use Rattle.rx_subject.proofs.Keeping.{young-none, from_young-none, kept-later, kept-pushed}

-- WHAT IS OFFERED

-- one item kept is the last one
one_kept : (now : ℕ) (xs : List Stamped) → at_most (Some 1) (young None now xs) ≡ newest 1 xs
one_kept now xs = ap (newest 1) (young-none now xs)

first_of_last : (xs : List Stamped) → take 1 (newest 1 xs) ≡ newest 1 xs
first_of_last xs = take_all 1 (newest 1 xs) (omega (arith, length-drop (length xs - 1) xs))

first_kept : (now : ℕ) (xs : List Stamped) → take 1 (at_most (Some 1) (young None now xs)) ≡ newest 1 xs
first_kept now xs = ap (take 1) (one_kept now xs) ∙ first_of_last xs

-- so that the item kept is the one that an end may offer
offers_known : (kind : Kind) (rules : Rules) (H : History) (now port place : ℕ) (note : Note)
    → offers_by kind (unstamped (take 1 (kept_by kind now (items rules H)))) port place note ≡ offers_by kind (last_item rules H) port place note
offers_known Publish rules H now port place note = refl
offers_known (Behavior seed) rules H now port place note = refl
offers_known Async rules H now port place note =
    ap (λ xs. cond (is_completion (terminal_in note)) (unstamped xs) []) (first_kept now (items rules H))
offers_known (Replay count age) rules H now port place note = refl

-- a note offers what the definitions say
pub signals-signalled : (s : SubjectState) (rules : Rules) (H : History) (port : ℕ) (note : Note) → StandsFor s rules H
    → signals_by s port note ≡ signalled rules H port note
signals-signalled s rules H port note stands =
    ap (λ k. map Offered (offers_by k (unstamped (take 1 s.window)) port s.count note) ++ ended_by (terminal_in note)) stands.kind_is
    ∙ ap (λ w. map Offered (offers_by rules.kind (unstamped (take 1 w)) port s.count note) ++ ended_by (terminal_in note)) stands.window_is
    ∙ ap (λ n. map Offered (offers_by rules.kind (unstamped (take 1 (window_of rules H))) port n note) ++ ended_by (terminal_in note)) stands.count_is
    ∙ ap (λ xs. map Offered xs ++ ended_by (terminal_in note)) (offers_known rules.kind rules H (age_moment rules H (stamp rules H)) port (item_count rules H) note)

-- an item is offered with the port that it came by and at its place, whatever port and place it names
offers-written : (kind : Kind) (last : List Item) (port place from stood : ℕ) (item : Item)
    → offers_by kind last port place (Next (record { from = from; place = stood; text = item.text })) ≡ offers_by kind last port place (Next item)
offers-written Publish last port place from stood item = refl
offers-written (Behavior seed) last port place from stood item = refl
offers-written Async last port place from stood item = refl
offers-written (Replay count age) last port place from stood item = refl

pub signals-written : (s : SubjectState) (port from place : ℕ) (item : Item)
    → signals_by s port (Next (record { from = from; place = place; text = item.text })) ≡ signals_by s port (Next item)
signals-written s port from place item = ap (λ xs. map Offered xs ++ []) (offers-written s.kind (unstamped (take 1 s.window)) port s.count from place item)

-- WHAT A JOINER BEGINS WITH

replay_opens : (ended : Bool) (end now z : ℕ) (count age : Option ℕ) (xs : List Stamped) → RisesTo 0 xs now → now ≤ z
    → cond ended (unstamped (at_most count (young age (cond ended end now) xs))) (unstamped (from_young age z (at_most count (young age (cond ended end now) xs))))
    ≡ unstamped (at_most count (young age (cond ended end z) xs))
replay_opens true end now z count age xs rises le = refl
replay_opens false end now z count age xs rises le = ap unstamped (kept-later count age now z xs now rises le)

opens_known : (kind : Kind) (rules : Rules) (H : History) (z : ℕ) → stamp rules H ≤ z
    → items_by kind (end_of H) (kept_by kind (age_moment rules H (stamp rules H)) (items rules H)) z ≡ opening_by kind rules H z
opens_known Publish rules H z le = refl
opens_known (Behavior seed) rules H z le =
    ap (λ xs. cond (is_ended H) [] (or_else (unstamped xs) (seed_item seed))) (first_kept (age_moment rules H (stamp rules H)) (items rules H))
opens_known Async rules H z le =
    ap (λ xs. cond (is_completion (end_of H)) (unstamped xs) []) (first_kept (age_moment rules H (stamp rules H)) (items rules H))
opens_known (Replay count age) rules H z le =
    replay_opens (is_ended H) (stamp rules (up_to_end H)) (stamp rules H) z count age (items rules H) (items_rise rules H) le

-- a joiner is offered what the definitions say
pub items-opening : (s : SubjectState) (rules : Rules) (H : History) (at : ℕ) → StandsFor s rules H
    → items_by s.kind s.terminal s.window (max s.clock at) ≡ opening_by rules.kind rules H (max (stamp rules H) at)
items-opening s rules H at stands =
    ap (λ k. items_by k s.terminal s.window (max s.clock at)) stands.kind_is
    ∙ ap (λ end. items_by rules.kind end s.window (max s.clock at)) stands.end_is
    ∙ ap (λ w. items_by rules.kind (end_of H) w (max s.clock at)) stands.window_is
    ∙ ap (λ n. items_by rules.kind (end_of H) (window_of rules H) (max n at)) stands.stamp_is
    ∙ opens_known rules.kind rules H (max (stamp rules H) at) (le-max_left (stamp rules H) at)

-- THE MOMENT OF AGES

-- an event that ends nothing leaves the moment of an ended subject
moment_after : (rules : Rules) (H : History) (entry : Entry) (z : ℕ) (ended : Bool) → is_ended H ≡ ended → is_ended (H ▹ entry) ≡ ended
    → age_moment rules (H ▹ entry) z ≡ cond ended (stamp rules (up_to_end H)) z
moment_after rules H entry z true was is =
    ap (λ b. cond b (stamp rules (up_to_end (H ▹ entry))) z) is ∙ ap (λ b. stamp rules (cond b (up_to_end H) (H ▹ entry))) was
moment_after rules H entry z false was is = ap (λ b. cond b (stamp rules (up_to_end (H ▹ entry))) z) is

-- at its end it is the stamp
moment_ended : (rules : Rules) (H : History) (entry : Entry) (z : ℕ) → is_ended H ≡ false → is_ended (H ▹ entry) ≡ true
    → age_moment rules (H ▹ entry) z ≡ stamp rules (H ▹ entry)
moment_ended rules H entry z was is =
    ap (λ b. cond b (stamp rules (up_to_end (H ▹ entry))) z) is ∙ ap (λ b. stamp rules (cond b (up_to_end H) (H ▹ entry))) was

moment_open : (rules : Rules) (H : History) (z : ℕ) → is_ended H ≡ false → age_moment rules H z ≡ z
moment_open rules H z open_now = ap (λ b. cond b (stamp rules (up_to_end H)) z) open_now

-- THE FIRST

none_kept : (kind : Kind) (now : ℕ) → kept_by kind now [] ≡ []
none_kept Publish now = refl
none_kept (Behavior seed) now = refl
none_kept Async now = refl
none_kept (Replay None age) now = refl
none_kept (Replay (Some count) age) now = drop_all (0 - count) [] (omega arith)

-- a new subject stands for no event
pub stands_first : (kind : Kind) (rules : Rules) → rules.kind ≡ kind → StandsFor (subject_at_first kind) rules NoEvents
stands_first kind rules is = record { kind_is = sym is; end_is = refl; stamp_is = refl; count_is = refl; window_is = sym (none_kept rules.kind 0) }

-- AN ITEM

no_item : (xs : List Stamped) → newest 0 xs ≡ []
no_item xs = drop_all (length xs - 0) xs (omega arith)

last_more : (now later : ℕ) (xs : List Stamped) (item : Item) → RisesTo 0 xs now → now ≤ later
    → at_most (Some 1) (at_most (Some 1) (young None now xs) ++ (item, later) ∷ []) ≡ at_most (Some 1) (young None later (xs ++ (item, later) ∷ []))
last_more now later xs item rises le =
    sym (from_young-none later (at_most (Some 1) (at_most (Some 1) (young None now xs) ++ (item, later) ∷ [])))
    ∙ kept-pushed (Some 1) None now later xs now item rises le le

window_more : (kind : Kind) (now later : ℕ) (xs : List Stamped) (item : Item) → RisesTo 0 xs now → now ≤ later
    → window_with kind (kept_by kind now xs) item later ≡ kept_by kind later (xs ++ (item, later) ∷ [])
window_more Publish now later xs item rises le = no_item (young None now xs) ∙ sym (no_item (young None later (xs ++ (item, later) ∷ [])))
window_more (Behavior seed) now later xs item rises le = last_more now later xs item rises le
window_more Async now later xs item rises le = last_more now later xs item rises le
window_more (Replay count age) now later xs item rises le = kept-pushed count age now later xs now item rises le le

-- an accepted note raises the stamp
stamp-accepted : (rules : Rules) (H : History) (port : ℕ) (note : Note) (at : ℕ) → accepts rules H note ≡ true → stamp rules (H ▹ (port, Emit note at)) ≡ max (stamp rules H) at
stamp-accepted rules H port note at accepted = ap (λ b. cond b (max (stamp rules H) at) (stamp rules H)) accepted

pub stands_item : (s : SubjectState) (rules : Rules) (H : History) (port : ℕ) (item : Item) (at : ℕ) → end_of H ≡ None → has_room rules.limits (item_count rules H) (Next item) ≡ true
    → StandsFor s rules H → StandsFor (after_item s (record item { from = port; place = s.count }) at) rules (H ▹ (port, Emit (Next item) at))
stands_item s rules H port item at unended room stands =
    let later = max (stamp rules H) at in
    let H' = H ▹ (port, Emit (Next item) at) in
    let placed : ℕ → Item = λ place. record item { from = port; place = place } in
    let this = placed (item_count rules H) in
    let open_now : is_ended H ≡ false = ap is_some unended in
    let taken : accepts rules H (Next item) ≡ true = accepted rules H (Next item) unended room in
    let end : end_of H' ≡ None = ap (λ e. option_or e None) unended in
    let stamped : stamp rules H' ≡ later = stamp-accepted rules H port (Next item) at taken in
    let all : items rules H' ≡ items rules H ++ (this, later) ∷ [] = items-accepted rules H port (Next item) at taken in
    record {
      kind_is = stands.kind_is;
      end_is = stands.end_is ∙ unended ∙ sym end;
      stamp_is = ap (λ n. max n at) stands.stamp_is ∙ sym stamped;
      count_is = ap (λ n. n + 1) stands.count_is ∙ sym (item_count-accepted rules H port (Next item) at taken);
      window_is =
          ap (λ n. window_with s.kind s.window (placed n) (max s.clock at)) stands.count_is
          ∙ ap (λ n. window_with s.kind s.window this (max n at)) stands.stamp_is
          ∙ ap (λ k. window_with k s.window this later) stands.kind_is
          ∙ ap (λ w. window_with rules.kind w this later) stands.window_is
          ∙ ap (λ n. window_with rules.kind (kept_by rules.kind n (items rules H)) this later) (moment_open rules H (stamp rules H) open_now)
          ∙ window_more rules.kind (stamp rules H) later (items rules H) this (items_rise rules H) (le-max_left (stamp rules H) at)
          ∙ ap (kept_by rules.kind later) (sym all)
          ∙ ap (λ n. kept_by rules.kind n (items rules H')) (sym (moment_open rules H' (stamp rules H') (ap is_some end) ∙ stamped));
    }

-- the same of an item that names its port and has its place, whatever its producer wrote
pub stands_placed : (s : SubjectState) (rules : Rules) (H : History) (item : Item) (from place at : ℕ) → end_of H ≡ None → has_room rules.limits (item_count rules H) (Next item) ≡ true
    → item.place ≡ s.count → StandsFor s rules H
    → StandsFor (after_item s item at) rules (H ▹ (item.from, Emit (Next (record { from = from; place = place; text = item.text })) at))
stands_placed s rules H item from place at unended room next stands =
    let written : Item = record { from = from; place = place; text = item.text } in
    subst (λ (n : ℕ). StandsFor (after_item s (record item { place = n }) at) rules (H ▹ (item.from, Emit (Next written) at))) (sym next)
    (stands_item s rules H item.from written at unended room stands)

-- THE END

-- what is no item is a terminal
pub is_terminal : (note : Note) → ((item : Item) → note ≡ Next item → ⊥) → terminal_in note ≡ Some note
is_terminal (Next item) no_item = absurd (no_item item refl)
is_terminal Completed no_item = refl
is_terminal (Failed text) no_item = refl

-- a subject that has no terminal has no end
pub not_ended : (s : SubjectState) (rules : Rules) (H : History) → is_some s.terminal ≡ false → StandsFor s rules H → end_of H ≡ None
not_ended s rules H none stands = sym stands.end_is ∙ absent s.terminal none

-- a terminal is no item
no_item_in : (port place : ℕ) (note end : Note) → terminal_in note ≡ Some end → item_in port place note ≡ []
no_item_in port place (Next item) end is = cc
no_item_in port place Completed end is = refl
no_item_in port place (Failed text) end is = refl

-- so it isn't limited
end-has_room : (limits : Limits) (count : ℕ) (note end : Note) → terminal_in note ≡ Some end → has_room limits count note ≡ true
end-has_room limits count (Next item) end is = cc
end-has_room limits count Completed end is = refl
end-has_room limits count (Failed text) end is = refl

-- and isn't counted
pub end-counts : (count : ℕ) (note end : Note) → terminal_in note ≡ Some end → count_with count note ≡ count
end-counts count (Next item) end is = cc
end-counts count Completed end is = refl
end-counts count (Failed text) end is = refl

pub stands_end : (s : SubjectState) (rules : Rules) (H : History) (port : ℕ) (note : Note) (at : ℕ) → end_of H ≡ None → terminal_in note ≡ Some note → StandsFor s rules H
    → StandsFor (after_end s note at) rules (H ▹ (port, Emit note at))
stands_end s rules H port note at unended terminal stands =
    let later = max (stamp rules H) at in
    let H' = H ▹ (port, Emit note at) in
    let open_now : is_ended H ≡ false = ap is_some unended in
    let taken : accepts rules H note ≡ true = accepted rules H note unended (end-has_room rules.limits (item_count rules H) note note terminal) in
    let end : end_of H' ≡ Some note = ap (λ e. option_or e (terminal_in note)) unended ∙ terminal in
    let stamped : stamp rules H' ≡ later = stamp-accepted rules H port note at taken in
    let all : items rules H' ≡ items rules H =
    items-accepted rules H port note at taken
    ∙ ap (λ more. items rules H ++ map (λ item. (item, later)) more) (no_item_in port (item_count rules H) note note terminal)
    ∙ append-nil (items rules H) in
    record {
      kind_is = stands.kind_is;
      end_is = sym end;
      stamp_is = ap (λ n. max n at) stands.stamp_is ∙ sym stamped;
      count_is = stands.count_is ∙ sym (item_count-accepted rules H port note at taken ∙ end-counts (item_count rules H) note note terminal);
      window_is =
          ap (λ n. from_young (age_kept s.kind) (max n at) s.window) stands.stamp_is
          ∙ ap (λ k. from_young (age_kept k) later s.window) stands.kind_is
          ∙ ap (from_young (age_kept rules.kind) later) stands.window_is
          ∙ ap (λ n. from_young (age_kept rules.kind) later (kept_by rules.kind n (items rules H))) (moment_open rules H (stamp rules H) open_now)
          ∙ kept-later (count_kept rules.kind) (age_kept rules.kind) (stamp rules H) later (items rules H) (stamp rules H) (items_rise rules H) (le-max_left (stamp rules H) at)
          ∙ ap (kept_by rules.kind later) (sym all)
          ∙ ap (λ n. kept_by rules.kind n (items rules H')) (sym (moment_ended rules H (port, Emit note at) (stamp rules H') open_now (ap is_some end) ∙ stamped));
    }

-- A JOIN

join_keeps : (ended : Bool) (end now later : ℕ) (count age : Option ℕ) (xs : List Stamped) → RisesTo 0 xs now → now ≤ later
    → cond ended (at_most count (young age (cond ended end now) xs)) (from_young age later (at_most count (young age (cond ended end now) xs)))
    ≡ at_most count (young age (cond ended end later) xs)
join_keeps true end now later count age xs rises le = refl
join_keeps false end now later count age xs rises le = kept-later count age now later xs now rises le

pub stands_join : (s : SubjectState) (rules : Rules) (H : History) (port : ℕ) (policy : Choice) (first at : ℕ) → may_join rules H ≡ true → StandsFor s rules H
    → StandsFor (after_join s at) rules (H ▹ (port, Join policy first at))
stands_join s rules H port policy first at joins stands =
    let later = max (stamp rules H) at in
    let entry : Entry = (port, Join policy first at) in
    let stamped : stamp rules (H ▹ entry) ≡ later = ap (λ b. cond b later (stamp rules H)) joins in
    record {
      kind_is = stands.kind_is;
      end_is = stands.end_is;
      stamp_is = ap (λ n. max n at) stands.stamp_is ∙ sym stamped;
      count_is = stands.count_is;
      window_is =
          ap (λ n. cond (is_some s.terminal) s.window (from_young (age_kept s.kind) (max n at) s.window)) stands.stamp_is
          ∙ ap (λ k. cond (is_some s.terminal) s.window (from_young (age_kept k) later s.window)) stands.kind_is
          ∙ ap (λ end. cond (is_some end) s.window (from_young (age_kept rules.kind) later s.window)) stands.end_is
          ∙ ap (λ w. cond (is_ended H) w (from_young (age_kept rules.kind) later w)) stands.window_is
          ∙ join_keeps (is_ended H) (stamp rules (up_to_end H)) (stamp rules H) later (count_kept rules.kind) (age_kept rules.kind) (items rules H) (items_rise rules H) (le-max_left (stamp rules H) at)
          ∙ ap (λ n. kept_by rules.kind n (items rules H))
          (sym (moment_after rules H entry (stamp rules (H ▹ entry)) (is_ended H) refl refl ∙ ap (cond (is_ended H) (stamp rules (up_to_end H))) stamped));
    }

-- WHAT CHANGES NOTHING

-- an event that leaves the end, the stamp and the items
still : (s : SubjectState) (rules : Rules) (H : History) (entry : Entry) → end_of (H ▹ entry) ≡ end_of H → stamp rules (H ▹ entry) ≡ stamp rules H
    → item_count rules (H ▹ entry) ≡ item_count rules H → items rules (H ▹ entry) ≡ items rules H → StandsFor s rules H → StandsFor s rules (H ▹ entry)
still s rules H entry end stamped counted all stands = record {
  kind_is = stands.kind_is;
  end_is = stands.end_is ∙ sym end;
  stamp_is = stands.stamp_is ∙ sym stamped;
  count_is = stands.count_is ∙ sym counted;
  window_is =
      stands.window_is
      ∙ ap (kept_by rules.kind (age_moment rules H (stamp rules H))) (sym all)
      ∙ ap (λ n. kept_by rules.kind n (items rules (H ▹ entry)))
      (sym (moment_after rules H entry (stamp rules (H ▹ entry)) (is_ended H) refl (ap is_some end) ∙ ap (cond (is_ended H) (stamp rules (up_to_end H))) stamped));
}

pub stands_request : (s : SubjectState) (rules : Rules) (H : History) (port who n : ℕ) → StandsFor s rules H → StandsFor s rules (H ▹ (port, Request who n))
stands_request s rules H port who n stands = still s rules H (port, Request who n) refl refl refl refl stands

pub stands_dispose : (s : SubjectState) (rules : Rules) (H : History) (port who : ℕ) → StandsFor s rules H → StandsFor s rules (H ▹ (port, Dispose who))
stands_dispose s rules H port who stands = still s rules H (port, Dispose who) refl refl refl refl stands

pub stands_not_joined : (s : SubjectState) (rules : Rules) (H : History) (port : ℕ) (policy : Choice) (first at : ℕ) → may_join rules H ≡ false → StandsFor s rules H
    → StandsFor s rules (H ▹ (port, Join policy first at))
stands_not_joined s rules H port policy first at denied stands =
    still s rules H (port, Join policy first at) refl (ap (λ b. cond b (max (stamp rules H) at) (stamp rules H)) denied) refl refl stands

pub stands_refused : (s : SubjectState) (rules : Rules) (H : History) (port : ℕ) (note : Note) (at : ℕ) → accepts rules H note ≡ false → StandsFor s rules H
    → StandsFor s rules (H ▹ (port, Emit note at))
stands_refused s rules H port note at refused stands =
    still s rules H (port, Emit note at) (end_of-refused rules H port note at refused)
    (ap (λ b. cond b (max (stamp rules H) at) (stamp rules H)) refused) (item_count-refused rules H port note at refused) (items-refused rules H port note at refused) stands

-- The items offered to an observer, event by event.
use Rattle.std.proofs.Common.{◌≡◌, ℕ, zero, suc, ◌-◌, ◌==◌, max, Bool, true, false, cond, ◌&&◌, List, [], ◌∷◌, ◌++◌, length, map, take, Option, None, Some, is_some, refl, sym, ap, ◌∙◌}
use Rattle.std.specs.Option.{option_map, option_map_or, option_or}
use Rattle.std.proofs.lemmas.List.{append-nil, append_assoc, map-append}
use Rattle.rx_note.specs.declared.item.Item.{Item}
use Rattle.rx_note.specs.declared.note.Note.{Note}
use Rattle.rx_note.specs.declared.note.Note.TheVariants.{Next, Completed, Failed}
use Rattle.rx_note.specs.declared.event.Event.TheVariants.{Emit, Join, Request, Dispose}
use Rattle.rx_note.specs.declared.kind.Kind.{Kind}
use Rattle.rx_note.specs.declared.kind.Kind.TheVariants.{Publish, Behavior, Async, Replay}
use Rattle.rx_note.specs.declared.rules.Rules.{Rules}
use Rattle.rx_note.specs.Choices.{Choice}
use Rattle.rx_note.specs.Signals.{Signal, Requested, Offered, Ended, Signals, Start, ◌▸◌, policy_of, terminal_of, may_overflow, overflows, sent}
use Rattle.rx_note.proofs.Sending.{sent-fits}
use Rattle.rx_history.specs.Histories.{History, NoEvents, ◌▹◌, terminal_in, end_of, is_ended, item_count, accepts, is_completion, joins, is_held, may_join, stamp, Stamped, item_in, items, unstamped, newest, last_item, or_else, seed_item, is_young, young, at_most, age_moment, opening_by, offers_by, followed_by, ended_by, signalled, may_request, signals}
use Rattle.rx_history.specs.Delivery.{offered, offered_to, emitted, seed_of, all_items, offers_at_once, is_bounded, IsSubsequence, EachItemIsOffered, AsyncOffersTheLast}
use Rattle.rx_history.proofs.Subsequences.{along, none_of, all_of, take_of, both_of, some_of_some, filter_of, drop_of}
use Rattle.rx_history.proofs.Accepting.{accepts-open, end_of-refused}
use Rattle.rx_history.proofs.Cases.{neither}
use Rattle.rx_history.proofs.Endings.{overflows-never, ends_as_subject}
use Rattle.rx_history.proofs.Feeding.{followed-behind, followed-overflow, followed-fits, policy_of-followed}
use Rattle.rx_history.proofs.Entries.{held_made, held_before, is_held-not_joined, signals-emitted, signals-passed_by, signals-refused, signals-not_joined, signals-joined, signals-not_requested, signals-requested}

-- WHAT SIGNALS OFFER

-- an end offers nothing
offered-end_by : (b : Bool) (s : Signals) (terminal : Note) → offered (cond b s (s ▸ Ended terminal)) ≡ offered s
offered-end_by true s terminal = refl
offered-end_by false s terminal = refl

offered-end : (s : Signals) (terminal : Note) → offered (sent s (Ended terminal)) ≡ offered s
offered-end s terminal = offered-end_by (is_some (terminal_of s)) s terminal

-- of the items that are sent the first come last, up to an overflow
abbrev OffersFirst : Signals → Signals → List Item → Type 0
OffersFirst s later offers = (n : ℕ) × (offered later ≡ offered s ++ take n offers)

no_more : (s later : Signals) (offers : List Item) → offered later ≡ offered s → OffersFirst s later offers
no_more s later offers same = (0, same ∙ sym (append-nil (offered s)))

first_by : (s : Signals) (item : Item) (offers : List Item) (end before : Option Note) (b : Bool) → terminal_of s ≡ before → overflows s ≡ b
    → OffersFirst (s ▸ Offered item) (followed_by (s ▸ Offered item) (map Offered offers ++ ended_by end)) offers
    → OffersFirst s (followed_by s (map Offered (item ∷ offers) ++ ended_by end)) (item ∷ offers)
first_by s item offers end (Some terminal) b ended is rest =
    no_more s (followed_by s (map Offered (item ∷ offers) ++ ended_by end)) (item ∷ offers) (ap offered (followed-behind s terminal (item ∷ offers) end ended))
first_by s item offers end None true open_now over rest =
    no_more s (followed_by s (map Offered (item ∷ offers) ++ ended_by end)) (item ∷ offers) (ap offered (followed-overflow s item offers end open_now over))
first_by s item offers end None false open_now fits rest = (
  suc rest.0,
  ap offered (followed-fits s item offers end open_now fits) ∙ rest.1 ∙ append_assoc (offered s) (item ∷ []) (take rest.0 offers),
)

offered-first : (s : Signals) (offers : List Item) (end : Option Note) → OffersFirst s (followed_by s (map Offered offers ++ ended_by end)) offers
offered-first s [] None = no_more s s [] refl
offered-first s [] (Some terminal) = no_more s (sent s (Ended terminal)) [] (offered-end s terminal)
offered-first s (item ∷ offers) end =
    first_by s item offers end (terminal_of s) (overflows s) refl refl (offered-first (s ▸ Offered item) offers end)

-- but by Bounded all of them do, before the end
offered-whole : (s : Signals) (offers : List Item) (end : Option Note) → terminal_of s ≡ None → may_overflow (policy_of s).strategy ≡ false
    → offered (followed_by s (map Offered offers ++ ended_by end)) ≡ offered s ++ offers
offered-whole s [] None open_now other = sym (append-nil (offered s))
offered-whole s [] (Some terminal) open_now other = offered-end s terminal ∙ sym (append-nil (offered s))
offered-whole s (item ∷ offers) end open_now other =
    ap offered (followed-fits s item offers end open_now (overflows-never s other))
    ∙ offered-whole (s ▸ Offered item) offers end open_now other
    ∙ append_assoc (offered s) (item ∷ []) offers

-- a note whose item fits, or that has none
offered-note : (s : Signals) (port place : ℕ) (note : Note) → terminal_of s ≡ None → overflows s ≡ false
    → offered (followed_by s (map Offered (item_in port place note) ++ ended_by (terminal_in note))) ≡ offered s ++ item_in port place note
offered-note s port place (Next item) open_now fits = ap offered (sent-fits s (record item { from = port; place = place }) open_now fits)
offered-note s port place Completed open_now fits = offered-end s Completed ∙ sym (append-nil (offered s))
offered-note s port place (Failed text) open_now fits = offered-end s (Failed text) ∙ sym (append-nil (offered s))

offered-request : (b : Bool) (s : Signals) (n : ℕ) → offered (cond b (s ▸ Requested n) s) ≡ offered s
offered-request true s n = refl
offered-request false s n = refl

-- the items offered where the signals are these
abbrev offered_of : Option Signals → List Item
offered_of s = option_map_or offered s []

-- whether an overflow may end an observer of these signals
abbrev pub bounded_of : Option Signals → Bool
bounded_of s = option_map_or may_overflow (option_map (λ (policy : Choice). policy.strategy) (option_map policy_of s)) false

pub unmade : (s : Option Signals) → s ≡ None → is_some s ≡ true → ⊥
unmade None none made = cc
unmade (Some s) none made = cc

-- WHAT EACH ENTRY OFFERS

emitted_first_by : (rules : Rules) (H : History) (o port : ℕ) (note : Note) (at : ℕ) (before : Option Signals) → signals rules H o ≡ before → accepts rules H note ≡ true → is_held rules H o ≡ true
    → (n : ℕ) × (offered_to rules (H ▹ (port, Emit note at)) o ≡ offered_to rules H o ++ take n (offers_by rules.kind (last_item rules H) port (item_count rules H) note))
emitted_first_by rules H o port note at None none accepted held = absurd (unmade (signals rules H o) none (held_made rules H o held))
emitted_first_by rules H o port note at (Some s) is accepted held =
    let offers = offers_by rules.kind (last_item rules H) port (item_count rules H) note in
    let first = offered-first s offers (terminal_in note) in (
      first.0,
      ap offered_of (signals-emitted rules H port note at o accepted held)
          ∙ ap (λ b. offered_of (option_map (λ t. followed_by t (map Offered offers ++ ended_by (terminal_in note))) b)) is
          ∙ first.1
          ∙ ap (λ b. offered_of b ++ take first.0 offers) (sym is),
    )

-- an accepted note offers the first of what its kind says, to an observer that is held
offered_to-emitted : (rules : Rules) (H : History) (o port : ℕ) (note : Note) (at : ℕ) → accepts rules H note ≡ true → is_held rules H o ≡ true
    → (n : ℕ) × (offered_to rules (H ▹ (port, Emit note at)) o ≡ offered_to rules H o ++ take n (offers_by rules.kind (last_item rules H) port (item_count rules H) note))
offered_to-emitted rules H o port note at accepted held = emitted_first_by rules H o port note at (signals rules H o) refl accepted held

whole_by : (rules : Rules) (H : History) (o port : ℕ) (note : Note) (at : ℕ) (before : Option Signals) → signals rules H o ≡ before → accepts rules H note ≡ true → is_held rules H o ≡ true
    → bounded_of before ≡ false
    → offered_to rules (H ▹ (port, Emit note at)) o ≡ offered_to rules H o ++ offers_by rules.kind (last_item rules H) port (item_count rules H) note
whole_by rules H o port note at None none accepted held other = absurd (unmade (signals rules H o) none (held_made rules H o held))
whole_by rules H o port note at (Some s) is accepted held other =
    let unended = accepts-open rules H note accepted in
    let offers = offers_by rules.kind (last_item rules H) port (item_count rules H) note in
    ap offered_of (signals-emitted rules H port note at o accepted held)
    ∙ ap (λ b. offered_of (option_map (λ t. followed_by t (map Offered offers ++ ended_by (terminal_in note))) b)) is
    ∙ offered-whole s offers (terminal_in note) (ends_as_subject rules H o s is held other ∙ unended) other
    ∙ ap (λ b. offered_of b ++ offers) (sym is)

-- a Join offers the first of the opening to the observer that it makes
offered_to-joined : (rules : Rules) (H : History) (o port : ℕ) (policy : Choice) (first at : ℕ) → ((joins rules H == o) && may_join rules H) ≡ true
    → (n : ℕ) × (offered_to rules (H ▹ (port, Join policy first at)) o ≡ take n (opening_by rules.kind rules H (max (stamp rules H) at)))
offered_to-joined rules H o port policy first at it =
    let some = offered-first (Start policy ▸ Requested first) (opening_by rules.kind rules H (max (stamp rules H) at)) (end_of H) in
    (some.0, ap offered_of (signals-joined rules H port policy first at o it) ∙ some.1)

-- but by Bounded all of it
joined_whole : (rules : Rules) (H : History) (o port : ℕ) (policy : Choice) (first at : ℕ) → ((joins rules H == o) && may_join rules H) ≡ true → may_overflow policy.strategy ≡ false
    → offered_to rules (H ▹ (port, Join policy first at)) o ≡ opening_by rules.kind rules H (max (stamp rules H) at)
joined_whole rules H o port policy first at it other =
    ap offered_of (signals-joined rules H port policy first at o it)
    ∙ offered-whole (Start policy ▸ Requested first) (opening_by rules.kind rules H (max (stamp rules H) at)) (end_of H) refl other

asked_same : (before : Option Signals) (n : ℕ) → offered_of (option_map (λ s. cond (may_request n s) (s ▸ Requested n) s) before) ≡ offered_of before
asked_same None n = refl
asked_same (Some s) n = offered-request (may_request n s) s n

-- a request offers nothing
offered_to-request : (rules : Rules) (H : History) (port who n o : ℕ) (b : Bool) → ((who == o) && is_held rules H o) ≡ b → offered_to rules (H ▹ (port, Request who n)) o ≡ offered_to rules H o
offered_to-request rules H port who n o true own = ap offered_of (signals-requested rules H port who n o own) ∙ asked_same (signals rules H o) n
offered_to-request rules H port who n o false other = ap offered_of (signals-not_requested rules H port who n o other)

pub now_offered : (kind : Kind) (last : List Item) (port place : ℕ) (note : Note) → offers_at_once kind ≡ true → offers_by kind last port place note ≡ item_in port place note
now_offered Publish last port place note once = refl
now_offered (Behavior seed) last port place note once = refl
now_offered Async last port place note once = cc
now_offered (Replay count age) last port place note once = refl

note_by : (rules : Rules) (H : History) (o port : ℕ) (note : Note) (at : ℕ) (before : Option Signals) → signals rules H o ≡ before → offers_at_once rules.kind ≡ true → is_held rules H o ≡ true
    → accepts rules H note ≡ true → option_map_or terminal_of before None ≡ None → option_map_or overflows before false ≡ false
    → offered_to rules (H ▹ (port, Emit note at)) o ≡ offered_to rules H o ++ item_in port (item_count rules H) note
note_by rules H o port note at None none once held accepted open_now fits = absurd (unmade (signals rules H o) none (held_made rules H o held))
note_by rules H o port note at (Some s) is once held accepted open_now fits =
    let offers = offers_by rules.kind (last_item rules H) port (item_count rules H) note in
    ap offered_of (signals-emitted rules H port note at o accepted held)
    ∙ ap (λ b. offered_of (option_map (λ t. followed_by t (map Offered offers ++ ended_by (terminal_in note))) b)) is
    ∙ ap (λ xs. offered (followed_by s (map Offered xs ++ ended_by (terminal_in note)))) (now_offered rules.kind (last_item rules H) port (item_count rules H) note once)
    ∙ offered-note s port (item_count rules H) note open_now fits
    ∙ ap (λ b. offered_of b ++ item_in port (item_count rules H) note) (sym is)

-- but for Async, an accepted item is offered to each observer that is held and has no end, unless it overflows
pub each_item_is_offered : EachItemIsOffered
each_item_is_offered rules H o port note at once holds accepted open_now fits = note_by rules H o port note at (signals rules H o) refl once holds accepted open_now fits

-- THE ITEMS OF A HISTORY

firsts : (xs : List Item) (z : ℕ) → unstamped (map (λ item. (item, z)) xs) ≡ xs
firsts [] z = refl
firsts (x ∷ xs) z = ap (λ ys. x ∷ ys) (firsts xs z)

-- the items of an accepted note come last
pub items-accepted : (rules : Rules) (H : History) (port : ℕ) (note : Note) (at : ℕ) → accepts rules H note ≡ true
    → items rules (H ▹ (port, Emit note at)) ≡ items rules H ++ map (λ item. (item, max (stamp rules H) at)) (item_in port (item_count rules H) note)
items-accepted rules H port note at accepted =
    ap (λ b. cond b (items rules H ++ map (λ item. (item, max (stamp rules H) at)) (item_in port (item_count rules H) note)) (items rules H)) accepted

pub items-refused : (rules : Rules) (H : History) (port : ℕ) (note : Note) (at : ℕ) → accepts rules H note ≡ false → items rules (H ▹ (port, Emit note at)) ≡ items rules H
items-refused rules H port note at refused =
    ap (λ b. cond b (items rules H ++ map (λ item. (item, max (stamp rules H) at)) (item_in port (item_count rules H) note)) (items rules H)) refused

pub emitted-accepted : (rules : Rules) (H : History) (port : ℕ) (note : Note) (at : ℕ) → accepts rules H note ≡ true
    → emitted rules (H ▹ (port, Emit note at)) ≡ emitted rules H ++ item_in port (item_count rules H) note
emitted-accepted rules H port note at accepted =
    let z = max (stamp rules H) at in
    ap unstamped (items-accepted rules H port note at accepted)
    ∙ map-append (λ (stamped : Stamped). stamped.0) (items rules H) (map (λ item. (item, z)) (item_in port (item_count rules H) note))
    ∙ ap (λ xs. emitted rules H ++ xs) (firsts (item_in port (item_count rules H) note) z)

pub emitted-refused : (rules : Rules) (H : History) (port : ℕ) (note : Note) (at : ℕ) → accepts rules H note ≡ false
    → emitted rules (H ▹ (port, Emit note at)) ≡ emitted rules H
emitted-refused rules H port note at refused = ap unstamped (items-refused rules H port note at refused)

-- ASYNC

-- the last item where the subject completed
abbrev last_alone : Rules → History → List Item
last_alone rules H = cond (is_completion (end_of H)) (last_item rules H) []

-- before the end it is none
nothing_yet : (rules : Rules) (H : History) → end_of H ≡ None → last_alone rules H ≡ []
nothing_yet rules H unended = ap (λ end. cond (is_completion end) (last_item rules H) []) unended

-- a completion brings no item of its own
async_note : (rules : Rules) (H : History) (port : ℕ) (note : Note) (at : ℕ) → accepts rules H note ≡ true
    → cond (is_completion (terminal_in note)) (last_item rules H) [] ≡ cond (is_completion (terminal_in note)) (last_item rules (H ▹ (port, Emit note at))) []
async_note rules H port (Next item) at accepted = refl
async_note rules H port Completed at accepted =
    ap (λ xs. unstamped (newest 1 xs)) (sym (items-accepted rules H port Completed at accepted ∙ append-nil (items rules H)))
async_note rules H port (Failed text) at accepted = refl

async-emitted : (rules : Rules) (H : History) (o port : ℕ) (note : Note) (at : ℕ) (b : Bool) → rules.kind ≡ Async → is_held rules H o ≡ true → accepts rules H note ≡ b
    → is_bounded rules H o ≡ false → offered_to rules H o ≡ last_alone rules H
    → offered_to rules (H ▹ (port, Emit note at)) o ≡ last_alone rules (H ▹ (port, Emit note at))
async-emitted rules H o port note at true kind held accepted other was =
    let later = H ▹ (port, Emit note at) in
    let unended = accepts-open rules H note accepted in
    let end : end_of later ≡ terminal_in note = ap (λ e. option_or e (terminal_in note)) unended in
    whole_by rules H o port note at (signals rules H o) refl accepted held other
    ∙ ap (λ xs. xs ++ offers_by rules.kind (last_item rules H) port (item_count rules H) note) (was ∙ nothing_yet rules H unended)
    ∙ ap (λ k. offers_by k (last_item rules H) port (item_count rules H) note) kind
    ∙ async_note rules H port note at accepted
    ∙ ap (λ e. cond (is_completion e) (last_item rules later) []) (sym end)
async-emitted rules H o port note at false kind held refused other was =
    let later = H ▹ (port, Emit note at) in
    let same : end_of later ≡ end_of H = end_of-refused rules H port note at refused in
    ap offered_of (signals-refused rules H port note at o refused)
    ∙ was
    ∙ ap (λ e. cond (is_completion e) (last_item rules H) []) (sym same)
    ∙ ap (λ xs. cond (is_completion (end_of later)) (unstamped (newest 1 xs)) [])
    (sym (items-refused rules H port note at refused))

async-joined : (rules : Rules) (H : History) (o port : ℕ) (policy : Choice) (first at : ℕ) (b : Bool) → rules.kind ≡ Async → ((joins rules H == o) && may_join rules H) ≡ b
    → (b ≡ true → may_overflow policy.strategy ≡ false) → (b ≡ false → offered_to rules H o ≡ last_alone rules H)
    → offered_to rules (H ▹ (port, Join policy first at)) o ≡ last_alone rules H
async-joined rules H o port policy first at true kind it other was =
    joined_whole rules H o port policy first at it (other refl)
    ∙ ap (λ k. opening_by k rules H (max (stamp rules H) at)) kind
async-joined rules H o port policy first at false kind not_it other was =
    ap offered_of (signals-not_joined rules H port policy first at o not_it) ∙ was refl

-- the policy of an observer stays
bounded-followed : (before : Option Signals) (more : List Signal) → bounded_of (option_map (λ s. followed_by s more) before) ≡ bounded_of before
bounded-followed None more = refl
bounded-followed (Some s) more = ap (λ (policy : Choice). may_overflow policy.strategy) (policy_of-followed s more)

bounded-asked_by : (b : Bool) (s : Signals) (n : ℕ) → may_overflow (policy_of (cond b (s ▸ Requested n) s)).strategy ≡ may_overflow (policy_of s).strategy
bounded-asked_by true s n = refl
bounded-asked_by false s n = refl

bounded-asked : (before : Option Signals) (n : ℕ) → bounded_of (option_map (λ s. cond (may_request n s) (s ▸ Requested n) s) before) ≡ bounded_of before
bounded-asked None n = refl
bounded-asked (Some s) n = bounded-asked_by (may_request n s) s n

bounded-emitted : (rules : Rules) (H : History) (o port : ℕ) (note : Note) (at : ℕ) (b : Bool) → (is_held rules H o && accepts rules H note) ≡ b → is_bounded rules (H ▹ (port, Emit note at)) o ≡ is_bounded rules H o
bounded-emitted rules H o port note at true fed =
    ap (λ c. bounded_of (cond c (option_map (λ s. followed_by s (signalled rules H port note)) (signals rules H o)) (signals rules H o))) fed
    ∙ bounded-followed (signals rules H o) (signalled rules H port note)
bounded-emitted rules H o port note at false passed =
    ap (λ c. bounded_of (cond c (option_map (λ s. followed_by s (signalled rules H port note)) (signals rules H o)) (signals rules H o))) passed

bounded-requested : (rules : Rules) (H : History) (o port who n : ℕ) (b : Bool) → ((who == o) && is_held rules H o) ≡ b → is_bounded rules (H ▹ (port, Request who n)) o ≡ is_bounded rules H o
bounded-requested rules H o port who n true own = ap bounded_of (signals-requested rules H port who n o own) ∙ bounded-asked (signals rules H o) n
bounded-requested rules H o port who n false other = ap bounded_of (signals-not_requested rules H port who n o other)

bounded-joined : (rules : Rules) (H : History) (o port : ℕ) (policy : Choice) (first at : ℕ) → ((joins rules H == o) && may_join rules H) ≡ true
    → is_bounded rules (H ▹ (port, Join policy first at)) o ≡ may_overflow policy.strategy
bounded-joined rules H o port policy first at it =
    ap bounded_of (signals-joined rules H port policy first at o it)
    ∙ ap (λ (chosen : Choice). may_overflow chosen.strategy)
    (policy_of-followed (Start policy ▸ Requested first) (map Offered (opening_by rules.kind rules H (max (stamp rules H) at)) ++ ended_by (end_of H)))

-- of an Async subject an observer that is held, but by Bounded, is offered the last item alone, once the subject completed
pub async_offers_the_last : AsyncOffersTheLast
async_offers_the_last rules NoEvents o kind held other = refl
async_offers_the_last rules (H ▹ (port, Emit note at)) o kind held other =
    let still = sym (bounded-emitted rules H o port note at (is_held rules H o && accepts rules H note) refl) ∙ other in
    async-emitted rules H o port note at (accepts rules H note) kind held refl still (async_offers_the_last rules H o kind held still)
async_offers_the_last rules (H ▹ (port, Join policy first at)) o kind held other =
    async-joined rules H o port policy first at ((joins rules H == o) && may_join rules H) kind refl
    (λ it. sym (bounded-joined rules H o port policy first at it) ∙ other)
    (λ not_it. async_offers_the_last rules H o kind (sym (is_held-not_joined rules H port policy first at o not_it) ∙ held)
    (sym (ap bounded_of (signals-not_joined rules H port policy first at o not_it)) ∙ other))
async_offers_the_last rules (H ▹ (port, Request who n)) o kind held other =
    let own = (who == o) && is_held rules H o in
    offered_to-request rules H port who n o own refl
    ∙ async_offers_the_last rules H o kind held (sym (bounded-requested rules H o port who n own refl) ∙ other)
async_offers_the_last rules (H ▹ (port, Dispose who)) o kind held other = async_offers_the_last rules H o kind (held_before rules H port who o held) other

-- before its end an Async subject offers nothing, by any strategy
take_none : (n : ℕ) → take {A = Item} n [] ≡ []
take_none zero = refl
take_none (suc n) = refl

no_item : (note : Note) → terminal_in note ≡ None → is_completion (terminal_in note) ≡ false
no_item note none = ap is_completion none

nothing_fed : (rules : Rules) (H : History) (o port : ℕ) (note : Note) (at : ℕ) (b : Bool) → rules.kind ≡ Async → accepts rules H note ≡ b → terminal_in note ≡ None → is_held rules H o ≡ true
    → offered_to rules H o ≡ [] → offered_to rules (H ▹ (port, Emit note at)) o ≡ []
nothing_fed rules H o port note at true kind accepted none held was =
    let first = offered_to-emitted rules H o port note at accepted held in
    let offers : offers_by rules.kind (last_item rules H) port (item_count rules H) note ≡ [] =
    ap (λ k. offers_by k (last_item rules H) port (item_count rules H) note) kind ∙ ap (λ b. cond b (last_item rules H) []) (no_item note none) in
    first.1 ∙ ap (λ xs. xs ++ take first.0 (offers_by rules.kind (last_item rules H) port (item_count rules H) note)) was ∙ ap (take first.0) offers ∙ take_none first.0
nothing_fed rules H o port note at false kind refused none held was = ap offered_of (signals-refused rules H port note at o refused) ∙ was

nothing_emitted : (rules : Rules) (H : History) (o port : ℕ) (note : Note) (at : ℕ) (held : Bool) → rules.kind ≡ Async → terminal_in note ≡ None → is_held rules H o ≡ held
    → offered_to rules H o ≡ [] → offered_to rules (H ▹ (port, Emit note at)) o ≡ []
nothing_emitted rules H o port note at true kind none held was = nothing_fed rules H o port note at (accepts rules H note) kind refl none held was
nothing_emitted rules H o port note at false kind none left was = ap offered_of (signals-passed_by rules H port note at o left) ∙ was

nothing_joined : (rules : Rules) (H : History) (o port : ℕ) (policy : Choice) (first at : ℕ) (b : Bool) → rules.kind ≡ Async → end_of H ≡ None → ((joins rules H == o) && may_join rules H) ≡ b
    → offered_to rules H o ≡ [] → offered_to rules (H ▹ (port, Join policy first at)) o ≡ []
nothing_joined rules H o port policy first at true kind unended it was =
    let some = offered_to-joined rules H o port policy first at it in
    let z = max (stamp rules H) at in
    let opening : opening_by rules.kind rules H z ≡ [] = ap (λ k. opening_by k rules H z) kind ∙ nothing_yet rules H unended in
    some.1 ∙ ap (take some.0) opening ∙ take_none some.0
nothing_joined rules H o port policy first at false kind unended not_it was = ap offered_of (signals-not_joined rules H port policy first at o not_it) ∙ was

nothing_before : (rules : Rules) (H : History) (o : ℕ) → rules.kind ≡ Async → end_of H ≡ None → offered_to rules H o ≡ []
nothing_before rules NoEvents o kind unended = refl
nothing_before rules (H ▹ (port, Emit note at)) o kind unended =
    let both = neither (end_of H) (terminal_in note) unended in
    nothing_emitted rules H o port note at (is_held rules H o) kind both.1 refl (nothing_before rules H o kind both.0)
nothing_before rules (H ▹ (port, Join policy first at)) o kind unended =
    nothing_joined rules H o port policy first at ((joins rules H == o) && may_join rules H) kind unended refl (nothing_before rules H o kind unended)
nothing_before rules (H ▹ (port, Request who n)) o kind unended =
    offered_to-request rules H port who n o ((who == o) && is_held rules H o) refl ∙ nothing_before rules H o kind unended
nothing_before rules (H ▹ (port, Dispose who)) o kind unended = nothing_before rules H o kind unended

-- IN ORDER

newest_in_order : (xs : List Stamped) (n : ℕ) → IsSubsequence (unstamped (newest n xs)) (unstamped xs)
newest_in_order xs n = drop_of (length xs - n) xs

kept_in_order : (count : Option ℕ) (xs : List Stamped) → IsSubsequence (unstamped (at_most count xs)) (unstamped xs)
kept_in_order None xs = all_of (unstamped xs)
kept_in_order (Some count) xs = newest_in_order xs count

seed_or_last : (last seed all : List Item) → IsSubsequence last all → IsSubsequence (or_else last seed) (seed ++ all)
seed_or_last [] seed all of =
    along (seed ++ []) (seed ++ all) seed (seed ++ all) (sym (append-nil seed)) refl (both_of seed seed [] all (all_of seed) (none_of all))
seed_or_last (item ∷ rest) seed all of = both_of [] seed (item ∷ rest) all (none_of seed) of

chosen_in_order : (b : Bool) (some other all : List Item) → IsSubsequence some all → IsSubsequence other all → IsSubsequence (cond b some other) all
chosen_in_order true some other all one two = one
chosen_in_order false some other all one two = two

-- what a joiner begins with are the seed and items of the accepted Emits
opening_in_order : (kind : Kind) (rules : Rules) (H : History) (z : ℕ) → IsSubsequence (opening_by kind rules H z) (seed_of kind ++ emitted rules H)
opening_in_order Publish rules H z = none_of (emitted rules H)
opening_in_order (Behavior seed) rules H z =
    chosen_in_order (is_ended H) [] (or_else (last_item rules H) (seed_item seed)) (seed_item seed ++ emitted rules H)
    (none_of (seed_item seed ++ emitted rules H)) (seed_or_last (last_item rules H) (seed_item seed) (emitted rules H) (newest_in_order (items rules H) 1))
opening_in_order Async rules H z =
    chosen_in_order (is_completion (end_of H)) (last_item rules H) [] (emitted rules H) (newest_in_order (items rules H) 1) (none_of (emitted rules H))
opening_in_order (Replay count age) rules H z =
    let in_time = young age (age_moment rules H z) (items rules H) in
    some_of_some (unstamped (at_most count in_time)) (unstamped in_time) (emitted rules H)
    (kept_in_order count in_time) (filter_of (λ each. is_young age (age_moment rules H z - each.1)) (items rules H))

-- what an accepted note offers to an observer that is held comes behind what it was offered
kind_in_order : (rules : Rules) (H : History) (o port : ℕ) (note : Note) (kind : Kind) → rules.kind ≡ kind → is_held rules H o ≡ true → end_of H ≡ None
    → IsSubsequence (offered_to rules H o) (all_items rules H)
    → IsSubsequence (offered_to rules H o ++ offers_by kind (last_item rules H) port (item_count rules H) note) (all_items rules H ++ item_in port (item_count rules H) note)
kind_in_order rules H o port note Publish is held unended of = both_of _ _ _ _ of (all_of (item_in port (item_count rules H) note))
kind_in_order rules H o port note (Behavior seed) is held unended of = both_of _ _ _ _ of (all_of (item_in port (item_count rules H) note))
kind_in_order rules H o port note (Replay count age) is held unended of = both_of _ _ _ _ of (all_of (item_in port (item_count rules H) note))
kind_in_order rules H o port note Async is held unended of =
    let last = cond (is_completion (terminal_in note)) (last_item rules H) [] in
    let none : offered_to rules H o ≡ [] = nothing_before rules H o is unended in
    let all : all_items rules H ≡ emitted rules H = ap (λ k. seed_of k ++ emitted rules H) is in
    along (last ++ []) (emitted rules H ++ item_in port (item_count rules H) note) _ _
    (ap (λ xs. xs ++ last) none ∙ sym (append-nil last))
    (ap (λ xs. xs ++ item_in port (item_count rules H) note) all)
    (both_of last (emitted rules H) [] (item_in port (item_count rules H) note)
    (chosen_in_order (is_completion (terminal_in note)) (last_item rules H) [] (emitted rules H) (newest_in_order (items rules H) 1) (none_of (emitted rules H)))
    (none_of (item_in port (item_count rules H) note)))

all_items-accepted : (rules : Rules) (H : History) (port : ℕ) (note : Note) (at : ℕ) → accepts rules H note ≡ true
    → all_items rules (H ▹ (port, Emit note at)) ≡ all_items rules H ++ item_in port (item_count rules H) note
all_items-accepted rules H port note at accepted =
    ap (λ xs. seed_of rules.kind ++ xs) (emitted-accepted rules H port note at accepted)
    ∙ sym (append_assoc (seed_of rules.kind) (emitted rules H) (item_in port (item_count rules H) note))

accepted_in_order : (rules : Rules) (H : History) (o port : ℕ) (note : Note) (at : ℕ) (held : Bool) → is_held rules H o ≡ held → accepts rules H note ≡ true
    → IsSubsequence (offered_to rules H o) (all_items rules H)
    → IsSubsequence (offered_to rules (H ▹ (port, Emit note at)) o) (all_items rules (H ▹ (port, Emit note at)))
accepted_in_order rules H o port note at true held accepted of =
    let unended = accepts-open rules H note accepted in
    let offers = offers_by rules.kind (last_item rules H) port (item_count rules H) note in
    let first = offered_to-emitted rules H o port note at accepted held in
    along (offered_to rules H o ++ take first.0 offers) (all_items rules H ++ item_in port (item_count rules H) note) _ _ first.1 (all_items-accepted rules H port note at accepted)
    (some_of_some (offered_to rules H o ++ take first.0 offers) (offered_to rules H o ++ offers) (all_items rules H ++ item_in port (item_count rules H) note)
    (both_of (offered_to rules H o) (offered_to rules H o) (take first.0 offers) offers (all_of (offered_to rules H o)) (take_of first.0 offers))
    (kind_in_order rules H o port note rules.kind refl held unended of))
accepted_in_order rules H o port note at false left accepted of =
    along (offered_to rules H o ++ []) (all_items rules H ++ item_in port (item_count rules H) note) _ _
    (ap offered_of (signals-passed_by rules H port note at o left) ∙ sym (append-nil (offered_to rules H o)))
    (all_items-accepted rules H port note at accepted)
    (both_of (offered_to rules H o) (all_items rules H) [] (item_in port (item_count rules H) note) of (none_of (item_in port (item_count rules H) note)))

emitted_in_order : (rules : Rules) (H : History) (o port : ℕ) (note : Note) (at : ℕ) (b : Bool) → accepts rules H note ≡ b
    → IsSubsequence (offered_to rules H o) (all_items rules H)
    → IsSubsequence (offered_to rules (H ▹ (port, Emit note at)) o) (all_items rules (H ▹ (port, Emit note at)))
emitted_in_order rules H o port note at true accepted of = accepted_in_order rules H o port note at (is_held rules H o) refl accepted of
emitted_in_order rules H o port note at false refused of =
    along (offered_to rules H o) (all_items rules H) _ _
    (ap offered_of (signals-refused rules H port note at o refused))
    (ap (λ xs. seed_of rules.kind ++ xs) (emitted-refused rules H port note at refused)) of

joined_in_order : (rules : Rules) (H : History) (o port : ℕ) (policy : Choice) (first at : ℕ) (b : Bool) → ((joins rules H == o) && may_join rules H) ≡ b
    → IsSubsequence (offered_to rules H o) (all_items rules H) → IsSubsequence (offered_to rules (H ▹ (port, Join policy first at)) o) (all_items rules H)
joined_in_order rules H o port policy first at true it of =
    let opening = opening_by rules.kind rules H (max (stamp rules H) at) in
    let some = offered_to-joined rules H o port policy first at it in
    along (take some.0 opening) (all_items rules H) _ _ some.1 refl
    (some_of_some (take some.0 opening) opening (all_items rules H) (take_of some.0 opening) (opening_in_order rules.kind rules H (max (stamp rules H) at)))
joined_in_order rules H o port policy first at false not_it of =
    along (offered_to rules H o) (all_items rules H) _ _
    (ap offered_of (signals-not_joined rules H port policy first at o not_it)) refl of

-- the items offered are the seed and items of the accepted Emits, in their order
pub offers_in_order : (rules : Rules) (H : History) (o : ℕ) → IsSubsequence (offered_to rules H o) (all_items rules H)
offers_in_order rules NoEvents o = none_of (all_items rules NoEvents)
offers_in_order rules (H ▹ (port, Emit note at)) o = emitted_in_order rules H o port note at (accepts rules H note) refl (offers_in_order rules H o)
offers_in_order rules (H ▹ (port, Join policy first at)) o =
    joined_in_order rules H o port policy first at ((joins rules H == o) && may_join rules H) refl (offers_in_order rules H o)
offers_in_order rules (H ▹ (port, Request who n)) o =
    along (offered_to rules H o) (all_items rules H) _ _
    (offered_to-request rules H port who n o ((who == o) && is_held rules H o) refl) refl (offers_in_order rules H o)
offers_in_order rules (H ▹ (port, Dispose who)) o = offers_in_order rules H o

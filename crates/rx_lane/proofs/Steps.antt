-- What a lane gives and what it is then, by each way that its code takes.
use Rattle.std.proofs.Common.{◌≡◌, ℕ, ◌+◌, ◌-◌, ◌<◌, ◌≤◌, Bool, true, false, cond, leb, ◌&&◌, nat_lt, nat_le, List, [], ◌∷◌, ◌++◌, length, map, take, drop, Option, None, Some, is_some, option_to_list, inl, inr, refl, sym, subst, ap, ◌∙◌, arith}
use Rattle.std.proofs.lemmas.Bool.Decides.{nat_tests}
use Rattle.std.proofs.lemmas.Bool.{cases_Bool, cases_lt, cond-true, cond-false, le-leb, lt-leb}
use Rattle.std.proofs.lemmas.List.{take_all, drop_all}
use Rattle.rx_note.specs.declared.item.Item.{Item}
use Rattle.rx_note.specs.declared.note.Note.{Note}
use Rattle.rx_note.specs.declared.note.Note.TheVariants.{Next}
use Rattle.rx_note.specs.Signals.{Signal, Requested, Offered, Ended, Signals, ◌▸◌, policy_of, terminal_of, overflow, overflows, sent, goes_ahead, released, given, waiting_items, owed}
use Rattle.rx_note.specs.Choices.{Choice}
use Rattle.rx_note.specs.Queues.{queued}
use Rattle.rx_note.proofs.Released.{released_all, released_part}
use Rattle.rx_note.proofs.Sending.{sent-end, sent-fits, sent-overflow, sent-owed, overflows-by, overflows-full, overflows-free}
use Rattle.rx_note.proofs.Steps.{Becomes, waiting_end-open, offer_given, offer_waits, end_given, end_waits, end_ahead, ask_releases}
use Rattle.rx_note.specs.declared.strategy.Strategy.{Strategy}
use Rattle.rx_note.specs.declared.strategy.Strategy.TheVariants.{Buffer, Drop, Latest, Bounded}
use Rattle.rx_lane.specs.Queues.{is_full, overfills}
use Rattle.rx_lane.specs.Lanes.{LaneState, LaneView, StandsFor, KeepsOverflow, loses_next}

-- by this signal these notes are given, and the queue is then this one
pub record Goes (s : Signals) (signal : Signal) (notes : List Note) (new : LaneState) : Type 0 where
  pub gives : given (sent s signal) ≡ given s ++ notes
  pub stands : StandsFor new (sent s signal)

-- the same, by the signals that there are then
goes_by : (s t : Signals) (signal : Signal) (notes : List Note) (new : LaneState) → sent s signal ≡ t → given t ≡ given s ++ notes → StandsFor new t → Goes s signal notes new
goes_by s t signal notes new e gives stands = record {
  gives = ap given e ∙ gives;
  stands = subst (λ (u : Signals). StandsFor new u) (sym e) stands;
}

-- a lane without an end stands for signals without one
none_ended : (end : Option Note) → is_some end ≡ false → end ≡ None
none_ended None e = refl
none_ended (Some end) e = cc

pub is_open : (lane : LaneState) (s : Signals) → lane.ended ≡ false → StandsFor lane s → terminal_of s ≡ None
is_open lane s open_now st = none_ended (terminal_of s) (sym st.ended ∙ open_now)

-- views that are equal stand for the same signals
pub stands_as : {a b : LaneView} {s : Signals} → a ≡ b → StandsFor b.state s → StandsFor a.state s
stands_as {s = s} e st = subst (λ (v : LaneView). StandsFor v.state s) (sym e) st

-- an item that is owed is given
pub offer_now : (lane : LaneState) (item : Item) → 0 < lane.owing → (s : Signals) → StandsFor lane s → terminal_of s ≡ None → Goes s (Offered item) (Next item ∷ []) (record lane { owing = lane.owing - 1 })
offer_now lane item h s st open_now =
    let b = offer_given s item open_now (omega (arith, st.owing)) in
    goes_by s (s ▸ Offered item) (Offered item) (Next item ∷ []) (record lane { owing = lane.owing - 1 })
    (sent-owed s item open_now (omega (arith, st.owing)))
    b.gives
    (record {
      policy = st.policy;
      items = st.items ∙ sym b.leaves;
      last = st.last ∙ sym b.holds;
      ended = st.ended;
      owing = ap (λ k. k - 1) st.owing ∙ sym b.owes;
    })

-- where nothing is owed an item overflows if the queue's room is full
full_or_free : (g : Strategy) (s : Signals) → (policy_of s).strategy ≡ g → terminal_of s ≡ None → owed s ≡ 0 → overflows s ≡ overfills g (length (waiting_items s))
full_or_free Buffer s e open_now owes = overflows-by Buffer s e
full_or_free (Drop room) s e open_now owes = overflows-by (Drop room) s e
full_or_free (Latest room) s e open_now owes = overflows-by (Latest room) s e
full_or_free (Bounded room) s e open_now owes =
    elim (cases_lt (length (waiting_items s)) room) [
      | inl free ↦ overflows-free room s e open_now (inr free) ∙ sym (lt-leb room (length (waiting_items s)) free)
      | inr full ↦ overflows-full room s e open_now owes full ∙ sym (le-leb room (length (waiting_items s)) full)
    ]

pub overflows_as : (lane : LaneState) (s : Signals) → StandsFor lane s → terminal_of s ≡ None → lane.owing ≡ 0 → overflows s ≡ overfills lane.policy.strategy (length lane.items)
overflows_as lane s st open_now none =
    full_or_free lane.policy.strategy s (sym (ap (λ (c : Choice). c.strategy) st.policy)) open_now (omega (arith, st.owing))
    ∙ ap (λ (items : List Item). overfills lane.policy.strategy (length items)) (sym st.items)

-- an item that is not owed is queued by the strategy
pub offer_later : (lane : LaneState) (item : Item) → lane.owing ≡ 0 → overfills lane.policy.strategy (length lane.items) ≡ false → (s : Signals) → StandsFor lane s → terminal_of s ≡ None
    → Goes s (Offered item) [] (record lane { items = queued lane.policy.strategy lane.items item })
offer_later lane item h fits s st open_now =
    let b = offer_waits lane.policy.strategy s item (sym (ap (λ (c : Choice). c.strategy) st.policy)) open_now (omega (arith, st.owing)) in
    goes_by s (s ▸ Offered item) (Offered item) [] (record lane { items = queued lane.policy.strategy lane.items item })
    (sent-fits s item open_now (overflows_as lane s st open_now h ∙ fits))
    b.gives
    (record {
      policy = st.policy;
      items = ap (λ items. queued lane.policy.strategy items item) st.items ∙ sym b.leaves;
      last = st.last ∙ sym b.holds;
      ended = st.ended;
      owing = st.owing ∙ sym b.owes;
    })

-- a full queue that ends by what comes has kept the error for it
pub kept_where_full : (g : Strategy) (count : ℕ) (kept : Option Note) → overfills g count ≡ true → KeepsOverflow g kept → kept ≡ Some overflow
kept_where_full Buffer count kept full keeps = absurd cc
kept_where_full (Drop room) count kept full keeps = absurd cc
kept_where_full (Latest room) count kept full keeps = absurd cc
kept_where_full (Bounded room) count kept full keeps = keeps

-- an item that overflows is sent as the end that it is
pub sent_overflow : (lane : LaneState) (item : Item) → lane.owing ≡ 0 → overfills lane.policy.strategy (length lane.items) ≡ true → (s : Signals) → StandsFor lane s → terminal_of s ≡ None
    → sent s (Offered item) ≡ sent s (Ended overflow)
sent_overflow lane item h full s st open_now =
    sent-overflow s item open_now (overflows_as lane s st open_now h ∙ full) ∙ sym (sent-end s overflow open_now)

-- a full queue that loses what comes stays as it is
kept_full : (g : Strategy) (items : List Item) (item : Item) → is_full g (length items) ≡ true → queued g items item ≡ items
kept_full Buffer items item full = absurd cc
kept_full (Drop room) items item full =
    let more : nat_lt (length items) room ≡ false = grind (arith, nat_tests) in ap (λ b. cond b (items ++ item ∷ []) items) more
kept_full (Latest room) items item full = absurd cc
kept_full (Bounded room) items item full = absurd cc

-- one that is no Bounded doesn't overflow
loses_no_end : (g : Strategy) (count : ℕ) → is_full g count ≡ true → overfills g count ≡ false
loses_no_end Buffer count full = refl
loses_no_end (Drop room) count full = refl
loses_no_end (Latest room) count full = refl
loses_no_end (Bounded room) count full = absurd cc

both : (b c : Bool) → (b && c) ≡ true → (b ≡ true) × (c ≡ true)
both true true is = (refl, refl)
both true false is = absurd cc
both false c is = absurd cc

-- an item that is lost leaves the lane as it was
pub offer_lost : (lane : LaneState) (item : Item) → loses_next lane ≡ true → (s : Signals) → StandsFor lane s → terminal_of s ≡ None → Goes s (Offered item) [] lane
offer_lost lane item lost s st open_now =
    let is = both (nat_le lane.owing 0) (is_full lane.policy.strategy (length lane.items)) lost in
    let none : lane.owing ≡ 0 = grind (arith, nat_tests, is.0) in
    let later = offer_later lane item none (loses_no_end lane.policy.strategy (length lane.items) is.1) s st open_now in
    let same = kept_full lane.policy.strategy lane.items item is.1 in
    record {
      gives = later.gives;
      stands = subst (λ (items : List Item). StandsFor (record lane { items = items }) (sent s (Offered item))) same later.stands;
    }

-- whether a terminal goes ahead is told by the lane's policy
by_policy : {b : Bool} (lane : LaneState) (terminal : Note) (s : Signals) → StandsFor lane s → goes_ahead lane.policy.errors terminal ≡ b → goes_ahead (policy_of s).errors terminal ≡ b
by_policy lane terminal s st h = ap (λ (c : Choice). goes_ahead c.errors terminal) (sym st.policy) ∙ h

-- an error ahead is given at once, and what waits is discarded
pub end_first : (lane : LaneState) (terminal : Note) → goes_ahead lane.policy.errors terminal ≡ true → (s : Signals) → StandsFor lane s → terminal_of s ≡ None → Goes s (Ended terminal) (terminal ∷ []) (record lane { items = []; ended = true })
end_first lane terminal ahead s st open_now =
    let b = end_ahead s terminal (by_policy lane terminal s st ahead) open_now in
    goes_by s (s ▸ Ended terminal) (Ended terminal) (terminal ∷ []) (record lane { items = []; ended = true }) (sent-end s terminal open_now) b.gives
    (record {
      policy = st.policy;
      items = sym b.leaves;
      last = st.last ∙ waiting_end-open s open_now ∙ sym b.holds;
      ended = refl;
      owing = st.owing ∙ sym b.owes;
    })

-- a terminal is given where nothing waits
pub end_now : (lane : LaneState) (terminal : Note) → goes_ahead lane.policy.errors terminal ≡ false → length lane.items ≡ 0 → (s : Signals) → StandsFor lane s → terminal_of s ≡ None → Goes s (Ended terminal) (terminal ∷ []) (record lane { ended = true })
end_now lane terminal behind h s st open_now =
    let b = end_given s terminal (by_policy lane terminal s st behind) open_now (omega (arith, ap length st.items)) in
    goes_by s (s ▸ Ended terminal) (Ended terminal) (terminal ∷ []) (record lane { ended = true }) (sent-end s terminal open_now) b.gives
    (record {
      policy = st.policy;
      items = st.items ∙ sym b.leaves;
      last = st.last ∙ sym b.holds;
      ended = refl;
      owing = st.owing ∙ sym b.owes;
    })

-- a terminal behind items waits
pub end_later : (lane : LaneState) (terminal : Note) → goes_ahead lane.policy.errors terminal ≡ false → 0 < length lane.items → (s : Signals) → StandsFor lane s → terminal_of s ≡ None → Goes s (Ended terminal) [] (record lane { last = terminal ∷ []; ended = true })
end_later lane terminal behind h s st open_now =
    let b = end_waits s terminal (by_policy lane terminal s st behind) open_now (omega (arith, ap length st.items)) in
    goes_by s (s ▸ Ended terminal) (Ended terminal) [] (record lane { last = terminal ∷ []; ended = true }) (sent-end s terminal open_now) b.gives
    (record {
      policy = st.policy;
      items = st.items ∙ sym b.leaves;
      last = sym b.holds;
      ended = refl;
      owing = st.owing ∙ sym b.owes;
    })

-- so a terminal is put as its queue says
pub end_all : (lane : LaneState) (terminal : Note) (items : List Item) (old last came : Option Note) → lane.last ≡ option_to_list old
    → (goes_ahead lane.policy.errors terminal ≡ true → (came ≡ Some terminal) × (items ≡ []) × (last ≡ old))
    → (goes_ahead lane.policy.errors terminal ≡ false → length lane.items ≡ 0 → (came ≡ Some terminal) × (items ≡ lane.items) × (last ≡ old))
    → (goes_ahead lane.policy.errors terminal ≡ false → 0 < length lane.items → (came ≡ None) × (items ≡ lane.items) × (last ≡ Some terminal))
    → (s : Signals) → StandsFor lane s → terminal_of s ≡ None
    → Goes s (Ended terminal) (option_to_list came) (record lane { items = items; last = option_to_list last; ended = true })
end_all lane terminal items old last came waited first at_once behind s st open_now =
    elim (cases_Bool (goes_ahead lane.policy.errors terminal)) [
      | inl ahead ↦
          let is = first ahead in
          rw (is.0, is.1, is.2, sym waited) (end_first lane terminal ahead s st open_now)
      | inr follows ↦
          elim (cases_lt 0 (length lane.items)) [
            | inl some ↦
                let is = behind follows some in
                rw (is.0, is.1, is.2) (end_later lane terminal follows some s st open_now)
            | inr none ↦
                let is = at_once follows (omega (arith, none)) in
                rw (is.0, is.1, is.2, sym waited) (end_now lane terminal follows (omega (arith, none)) s st open_now)
          ]
    ]

-- and so is the end that an item is which overflows
pub overflow_all : (lane : LaneState) (item : Item) (terminal : Note) (items : List Item) (old last came : Option Note) → terminal ≡ overflow
    → lane.owing ≡ 0 → overfills lane.policy.strategy (length lane.items) ≡ true → lane.last ≡ option_to_list old
    → (goes_ahead lane.policy.errors terminal ≡ true → (came ≡ Some terminal) × (items ≡ []) × (last ≡ old))
    → (goes_ahead lane.policy.errors terminal ≡ false → length lane.items ≡ 0 → (came ≡ Some terminal) × (items ≡ lane.items) × (last ≡ old))
    → (goes_ahead lane.policy.errors terminal ≡ false → 0 < length lane.items → (came ≡ None) × (items ≡ lane.items) × (last ≡ Some terminal))
    → (s : Signals) → StandsFor lane s → terminal_of s ≡ None
    → Goes s (Offered item) (option_to_list came) (record lane { items = items; last = option_to_list last; ended = true })
overflow_all lane item terminal items old last came is none full waited first at_once behind s st open_now =
    let as_end : sent s (Offered item) ≡ sent s (Ended terminal) = sent_overflow lane item none full s st open_now ∙ ap (λ (t : Note). sent s (Ended t)) (sym is) in
    let end = end_all lane terminal items old last came waited first at_once behind s st open_now in
    goes_by s (sent s (Ended terminal)) (Offered item) (option_to_list came) (record lane { items = items; last = option_to_list last; ended = true }) as_end end.gives end.stands

ask_lane : (lane : LaneState) (n : ℕ) (s : Signals) → StandsFor lane s → Becomes s (Requested n) (released (lane.owing + n) lane.items lane.last) (drop (lane.owing + n) lane.items) (cond (leb (length lane.items) (lane.owing + n)) [] lane.last) (lane.owing + n - length lane.items)
ask_lane lane n s st = rw (st.owing, st.items, st.last) (ask_releases s n)

-- a request for all that waits gives it, with the terminal
pub ask_all : (lane : LaneState) (n count : ℕ) → count ≡ length lane.items → count ≤ lane.owing + n → (s : Signals) → StandsFor lane s → Goes s (Requested n) (map Next (take count lane.items) ++ lane.last) (record lane { items = drop count lane.items; last = []; owing = lane.owing + n - count })
ask_all lane n count e h s st =
    let b = ask_lane lane n s st in
    let within : length lane.items ≤ lane.owing + n = omega arith in
    record {
      gives =
          b.gives
          ∙ ap (λ notes. given s ++ notes) (released_all (lane.owing + n) lane.items lane.last within)
          ∙ ap (λ front. given s ++ (map Next front ++ lane.last)) (sym (take_all count lane.items (omega arith)));
      stands = record {
        policy = st.policy;
        items = drop_all count lane.items (omega arith) ∙ sym (drop_all (lane.owing + n) lane.items within) ∙ sym b.leaves;
        last = sym (cond-true (leb (length lane.items) (lane.owing + n)) [] lane.last (le-leb (length lane.items) (lane.owing + n) within)) ∙ sym b.holds;
        ended = st.ended;
        owing = ap (λ m. lane.owing + n - m) e ∙ sym b.owes;
      };
    }

-- a request for less gives as many items as are then owed
pub ask_part : (lane : LaneState) (n count : ℕ) → count ≡ lane.owing + n → count < length lane.items → (s : Signals) → StandsFor lane s → Goes s (Requested n) (map Next (take count lane.items)) (record lane { items = drop count lane.items; owing = lane.owing + n - count })
ask_part lane n count e h s st =
    let b = ask_lane lane n s st in
    let beyond : lane.owing + n < length lane.items = omega arith in
    record {
      gives =
          b.gives
          ∙ ap (λ notes. given s ++ notes) (released_part (lane.owing + n) lane.items lane.last beyond)
          ∙ ap (λ m. given s ++ map Next (take m lane.items)) (sym e);
      stands = record {
        policy = st.policy;
        items = ap (λ m. drop m lane.items) e ∙ sym b.leaves;
        last = sym (cond-false (leb (length lane.items) (lane.owing + n)) [] lane.last (lt-leb (length lane.items) (lane.owing + n) beyond)) ∙ sym b.holds;
        ended = st.ended;
        owing = omega (arith, b.owes);
      };
    }

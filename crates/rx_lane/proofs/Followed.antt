-- A lane on a tape follows the signals that the queue of its items follows.
use Rattle.std.proofs.Common.{rules, ◌≡◌, ℕ, zero, suc, ◌+◌, ◌-◌, ◌<◌, min, nat_lt, cond, true, false, List, [], ◌∷◌, ◌++◌, length, map, take, drop, None, Some, inl, inr, refl, sym, subst, ap, ◌∙◌, append_assoc, arith}
use Rattle.std.proofs.lemmas.Bool.{cases_lt}
use Rattle.std.proofs.lemmas.Bool.Decides.{nat_tests}
use Rattle.std.proofs.lemmas.List.{append-nil, length-append, length-drop, drop-drop, drop-append-le, drop_all, take_all}
use Rattle.rx_note.specs.declared.item.Item.{Item}
use Rattle.rx_note.specs.declared.note.Note.TheVariants.{Next}
use Rattle.rx_note.specs.declared.strategy.Strategy.{Strategy}
use Rattle.rx_note.specs.declared.strategy.Strategy.TheVariants.{Buffer, Drop, Latest, Bounded}
use Rattle.rx_note.specs.Choices.{Choice}
use Rattle.rx_note.specs.Signals.{Requested, Offered, Signals, Start, ◌▸◌, may_overflow, sent, demand, line_items, given, waiting_items, owed}
use Rattle.rx_note.specs.Queues.{queued}
use Rattle.rx_note.proofs.Lines.{owed-rest}
use Rattle.rx_lane.specs.Lanes.{LaneState, StandsFor, MayBeSent}
use Rattle.rx_lane.specs.Queues.{overfills}
use Rattle.rx_lane.specs.TapeLanes.{TapeLaneState, lane_on, within_room, IsShared, copy_for, offered_all, Begins}
use Rattle.rx_lane.proofs.Steps.{is_open, offer_now, offer_later}

-- views that are equal stand for the same signals
pub stands_on : {a b : TapeLaneState} {s : Signals} (items : List Item) → a ≡ b → StandsFor (lane_on items b) s → StandsFor (lane_on items a) s
stands_on {s = s} items e st = subst (λ (v : TapeLaneState). StandsFor (lane_on items v) s) (sym e) st

-- so do lanes with five equal parts
pub stands_alike : {a b : LaneState} {s : Signals} → b.policy ≡ a.policy → b.items ≡ a.items → b.last ≡ a.last → b.ended ≡ a.ended → b.owing ≡ a.owing → StandsFor a s → StandsFor b s
stands_alike policy items last ended owing st = record {
  policy = policy ∙ st.policy;
  items = items ∙ st.items;
  last = last ∙ st.last;
  ended = ended ∙ st.ended;
  owing = owing ∙ st.owing;
}

-- nothing waits while an item is owed
pub none_waits : (s : Signals) → 0 < owed s → waiting_items s ≡ []
none_waits s h = drop_all (demand s) (line_items s) (omega (arith, owed-rest s, h))

-- what is queued is what there is room for
pub queued_within : (g : Strategy) (items : List Item) (item : Item) → IsShared g → queued g items item ≡ within_room g (items ++ item ∷ [])
queued_within Buffer items item shared = refl
queued_within (Drop room) items item shared = elim shared [ ]
queued_within (Bounded room) items item shared = elim shared [ ]
queued_within (Latest room) items item shared =
    let same : length items + 1 - room ≡ length (items ++ item ∷ []) - room = omega (arith, length-append items (item ∷ [])) in
    ap (λ n. drop n (items ++ item ∷ [])) same

-- the first item that waits has room
pub queued_first : (g : Strategy) (item : Item) → IsShared g → queued g [] item ≡ item ∷ []
queued_first Buffer item shared = refl
queued_first (Drop room) item shared = elim shared [ ]
queued_first (Bounded room) item shared = elim shared [ ]
queued_first (Latest room) item shared = let none : length {A = Item} [] + 1 - room ≡ 0 = omega (arith, shared) in ap (λ n. drop n (item ∷ [])) none

-- a shared queue never overflows
pub shared_fits : (g : Strategy) (count : ℕ) → IsShared g → overfills g count ≡ false
shared_fits Buffer count shared = refl
shared_fits (Drop room) count shared = elim shared [ ]
shared_fits (Latest room) count shared = refl
shared_fits (Bounded room) count shared = elim shared [ ]

-- and never ended by one
never : (g : Strategy) → IsShared g → may_overflow g ≡ false
never Buffer shared = refl
never (Drop room) shared = elim shared [ ]
never (Latest room) shared = refl
never (Bounded room) shared = elim shared [ ]

-- so a lane on a tape to which more may be sent has no end
pub shared_open : (lane : TapeLaneState) (policy : Choice) → MayBeSent lane.policy lane.ended → policy ≡ lane.policy → IsShared policy.strategy → lane.ended ≡ false
shared_open lane policy may same shared = may (ap (λ (c : Choice). may_overflow c.strategy) (sym same) ∙ never policy.strategy shared)

-- the copy of an item that is owed
pub copy_owed : (owing : ℕ) (item : Item) → 0 < owing → copy_for owing item ≡ Some item
copy_owed owing item h =
    let yes : nat_lt 0 owing ≡ true = grind (arith, nat_tests) in
    ap (λ b. cond b (Some item) None) yes

-- of one that is not
pub copy_unowed : (owing : ℕ) (item : Item) → owing ≡ 0 → copy_for owing item ≡ None
copy_unowed owing item h = ap (λ n. copy_for n item) h

-- SEVERAL ITEMS

-- what there is room for of items, of which some were lost before
within_twice : (g : Strategy) (xs ys : List Item) → within_room g (within_room g xs ++ ys) ≡ within_room g (xs ++ ys)
within_twice Buffer xs ys = refl
within_twice (Drop room) xs ys = refl
within_twice (Bounded room) xs ys = refl
within_twice (Latest room) xs ys =
    let m = length xs - room in
    let left : length (drop m xs) ≡ length xs - m = length-drop m xs in
    let n = length (drop m xs ++ ys) - room in
    let same : m + n ≡ length (xs ++ ys) - room = omega (arith, left, length-append (drop m xs) ys, length-append xs ys) in
    ap (drop n) (sym (drop-append-le m xs ys (omega arith)))
    ∙ drop-drop n m (xs ++ ys)
    ∙ ap (λ k. drop k (xs ++ ys)) same

take_one : (n : ℕ) (x : Item) (xs : List Item) → 0 < n → take n (x ∷ xs) ≡ x ∷ take (n - 1) xs
take_one zero x xs h = absurd (omega (arith, h))
take_one (suc n) x xs h = let same : suc n - 1 ≡ n = omega arith in ap (λ k. x ∷ take k xs) (sym same)

drop_one : (n : ℕ) (x : Item) (xs : List Item) → 0 < n → drop n (x ∷ xs) ≡ drop (n - 1) xs
drop_one zero x xs h = absurd (omega (arith, h))
drop_one (suc n) x xs h = let same : suc n - 1 ≡ n = omega arith in ap (λ k. drop k xs) (sym same)

within_again : (g : Strategy) (xs : List Item) → within_room g (within_room g xs) ≡ within_room g xs
within_again g xs =
    ap (within_room g) (sym (append-nil (within_room g xs)))
    ∙ within_twice g xs []
    ∙ ap (within_room g) (append-nil xs)

-- several items offered to a lane: as many are given as are owed, and of the others those wait that there is room for
pub record GoesAll (s : Signals) (lane : LaneState) (g : Strategy) (xs : List Item) : Type 0 where
  pub gives : given (offered_all s xs) ≡ given s ++ map Next (take lane.owing xs)
  pub stands : StandsFor (record lane { items = within_room g (lane.items ++ drop lane.owing xs); owing = lane.owing - length xs }) (offered_all s xs)

offer_none : (g : Strategy) (lane : LaneState) (s : Signals) → StandsFor lane s → within_room g lane.items ≡ lane.items → GoesAll s lane g []
offer_none g lane s st fits = record {
  gives = sym (append-nil (given s)) ∙ ap (λ items. given s ++ map Next items) (sym (take_all lane.owing [] (omega arith)));
  stands = stands_alike refl
      (ap (λ rest. within_room g (lane.items ++ rest)) (drop_all lane.owing [] (omega arith)) ∙ ap (within_room g) (append-nil lane.items) ∙ fits)
      refl refl (omega arith) st;
}

pub offer_all : (g : Strategy) (xs : List Item) (lane : LaneState) (s : Signals) → IsShared g → lane.policy.strategy ≡ g → StandsFor lane s → lane.ended ≡ false → (0 < lane.owing → lane.items ≡ []) → within_room g lane.items ≡ lane.items → GoesAll s lane g xs
offer_all g [] lane s shared is st open_now none fits = offer_none g lane s st fits
offer_all g (x ∷ xs) lane s shared is st open_now none fits =
    elim (cases_lt 0 lane.owing) [
      | inl lt ↦
          let now = offer_now lane x lt s st (is_open lane s open_now st) in
          let rest = offer_all g xs (record lane { owing = lane.owing - 1 }) (sent s (Offered x)) shared is now.stands open_now (λ more. none lt) fits in
          record {
            gives =
                rest.gives
                ∙ ap (λ notes. notes ++ map Next (take (lane.owing - 1) xs)) now.gives
                ∙ append_assoc (given s) (Next x ∷ []) (map Next (take (lane.owing - 1) xs))
                ∙ ap (λ items. given s ++ map Next items) (sym (take_one lane.owing x xs lt));
            stands = stands_alike refl (ap (λ rest. within_room g (lane.items ++ rest)) (drop_one lane.owing x xs lt)) refl refl (omega arith) rest.stands;
          }
      | inr le ↦
          let zero_owed : lane.owing ≡ 0 = omega (arith, le) in
          let never : overfills lane.policy.strategy (length lane.items) ≡ false = ap (λ k. overfills k (length lane.items)) is ∙ shared_fits g (length lane.items) shared in
          let wait = offer_later lane x zero_owed never s st (is_open lane s open_now st) in
          let room : queued lane.policy.strategy lane.items x ≡ within_room g (lane.items ++ x ∷ []) = ap (λ k. queued k lane.items x) is ∙ queued_within g lane.items x shared in
          let next = stands_alike {b = record lane { items = within_room g (lane.items ++ x ∷ []) }} refl (sym room) refl refl refl wait.stands in
          let rest = offer_all g xs (record lane { items = within_room g (lane.items ++ x ∷ []) }) (sent s (Offered x)) shared is next open_now (λ more. absurd (omega (arith, more, zero_owed))) (within_again g (lane.items ++ x ∷ [])) in
          record {
            gives =
                rest.gives
                ∙ ap (λ n. given (sent s (Offered x)) ++ map Next (take n xs)) zero_owed
                ∙ append-nil (given (sent s (Offered x)))
                ∙ wait.gives
                ∙ ap (λ n. given s ++ map Next (take n (x ∷ xs))) (sym zero_owed);
            stands = stands_alike refl
                (ap (λ n. within_room g (lane.items ++ drop n (x ∷ xs))) zero_owed
                ∙ ap (within_room g) (sym (append_assoc lane.items (x ∷ []) xs))
                ∙ sym (within_twice g (lane.items ++ x ∷ []) xs)
                ∙ ap (λ n. within_room g (within_room g (lane.items ++ x ∷ []) ++ drop n xs)) (sym zero_owed))
                refl refl (omega (arith, zero_owed)) rest.stands;
          }
    ]

-- A LANE THAT JOINS

take_least : (n count : ℕ) (xs : List Item) → count ≡ min (length xs) n → take count xs ≡ take n xs
take_least n count xs is =
    elim (cases_lt (length xs) n) [
      | inl lt ↦ take_all count xs (omega (arith, is, lt)) ∙ sym (take_all n xs (omega (arith, lt)))
      | inr le ↦ let same : count ≡ n = omega (arith, is, le) in ap (λ k. take k xs) same
    ]

drop_least : (n count : ℕ) (xs : List Item) → count ≡ min (length xs) n → drop count xs ≡ drop n xs
drop_least n count xs is =
    elim (cases_lt (length xs) n) [
      | inl lt ↦ drop_all count xs (omega (arith, is, lt)) ∙ sym (drop_all n xs (omega (arith, lt)))
      | inr le ↦ let same : count ≡ n = omega (arith, is, le) in ap (λ k. drop k xs) same
    ]

within_none : (g : Strategy) → within_room g [] ≡ []
within_none Buffer = refl
within_none (Drop room) = refl
within_none (Bounded room) = refl
within_none (Latest room) = drop_all (length {A = Item} [] - room) [] (omega arith)

-- of the items that a joiner is offered the first ones are given, as many as it requested, and of the others those wait that
-- there is room for
pub begins : (policy : Choice) (first count : ℕ) (xs : List Item) → IsShared policy.strategy → count ≡ min (length xs) first
    → Begins (record { policy = policy; items = within_room policy.strategy (drop count xs); last = []; ended = false; owing = first - count }) policy first xs (map Next (take count xs))
begins policy first count xs shared count_is =
    let s : Signals = Start policy ▸ Requested first in
    let none : given s ≡ [] = search rules in
    let open_lane : StandsFor (record { policy = policy; items = []; last = []; ended = false; owing = first }) s = search rules in
    let all = offer_all policy.strategy xs (record { policy = policy; items = []; last = []; ended = false; owing = first }) s shared refl open_lane refl (λ more. refl) (within_none policy.strategy) in
    record {
      gives = all.gives ∙ ap (λ notes. notes ++ map Next (take first xs)) none ∙ ap (map Next) (sym (take_least first count xs count_is));
      stands = stands_alike refl (ap (within_room policy.strategy) (drop_least first count xs count_is)) refl refl (omega (arith, count_is)) all.stands;
    }

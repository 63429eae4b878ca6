-- What a strategy keeps of the items offered: only an offer changes it. What it does not keep is lost.
use Rattle.std.proofs.Common.{◌≡◌, ℕ, ◌+◌, ◌-◌, ◌<◌, ◌≤◌, ◌==◌, ◌||◌, Bool, true, false, cond, List, [], ◌∷◌, ◌++◌, length, take, drop, inl, inr, refl, sym, ap, ◌∙◌, arith, append_assoc, append-nil, length-append}
use Rattle.std.proofs.lemmas.Bool.{cases_lt, lt-ltb, le-ltb}
use Rattle.std.proofs.lemmas.Bool.Decides.{nat_tests}
use Rattle.std.proofs.lemmas.List.{drop-append-le, take-append-drop, take_at, drop_at, length-drop, length-take}
use Rattle.std.proofs.lemmas.List.Folds.{list_any-append}
use Rattle.rx_note.specs.declared.item.Item.{Item}
use Rattle.rx_note.specs.declared.note.Note.{Note}
use Rattle.rx_note.specs.declared.strategy.Strategy.{Strategy}
use Rattle.rx_note.specs.declared.strategy.Strategy.TheVariants.{Buffer, Drop, Latest, Bounded}
use Rattle.rx_note.specs.Signals.{Signal, Requested, Offered, Ended, Signals, Start, ◌▸◌, policy_of, demand, offered_count, beyond_room, excess, losses, place_lost, lost_places, is_lost, without, kept}
use Rattle.rx_note.specs.Queues.{queued}

-- WHERE THE LOSSES RISE

-- who is ahead by more is beyond the room by no less
beyond_room-rises : (g : Strategy) (a b : ℕ) → a ≤ b → beyond_room g a ≤ beyond_room g b
beyond_room-rises Buffer a b h = omega arith
beyond_room-rises (Drop room) a b h = omega arith
beyond_room-rises (Latest room) a b h = omega arith
beyond_room-rises (Bounded room) a b h = omega arith

-- by no more than who is ahead
beyond_room-within : (g : Strategy) (a : ℕ) → beyond_room g a ≤ a
beyond_room-within Buffer a = omega arith
beyond_room-within (Drop room) a = omega arith
beyond_room-within (Latest room) a = omega arith
beyond_room-within (Bounded room) a = omega arith

-- one more ahead is beyond the room by at most one more
beyond_room-next : (g : Strategy) (a b : ℕ) → b ≤ a + 1 → beyond_room g b ≤ beyond_room g a + 1
beyond_room-next Buffer a b h = omega arith
beyond_room-next (Drop room) a b h = omega arith
beyond_room-next (Latest room) a b h = omega arith
beyond_room-next (Bounded room) a b h = omega arith

excess-losses : (s : Signals) → excess s ≤ losses s
excess-losses (Start policy) = beyond_room-within policy.strategy 0
excess-losses (s ▸ signal) = omega arith

losses-requested : (s : Signals) (n : ℕ) → losses (s ▸ Requested n) ≡ losses s
losses-requested s n =
    let less = beyond_room-rises (policy_of s).strategy (offered_count s - (demand s + n)) (offered_count s - demand s) (omega arith) in
    omega (arith, less, excess-losses s)

losses-ended : (s : Signals) (terminal : Note) → losses (s ▸ Ended terminal) ≡ losses s
losses-ended s terminal = omega (arith, excess-losses s)

-- an offer raises the losses by at most one
losses-offered : (s : Signals) (item : Item) → losses (s ▸ Offered item) ≤ losses s + 1
losses-offered s item =
    let more = beyond_room-next (policy_of s).strategy (offered_count s - demand s) (offered_count s + 1 - demand s) (omega arith) in
    omega (arith, more, excess-losses s)

-- where the losses stay, no place is lost
lost_places-same : (s : Signals) (signal : Signal) → losses (s ▸ signal) ≡ losses s → lost_places (s ▸ signal) ≡ lost_places s
lost_places-same s signal same =
    ap (λ b. cond b (lost_places s ++ place_lost (policy_of s).strategy (s ▸ signal) ∷ []) (lost_places s))
    (le-ltb (losses s) (losses (s ▸ signal)) (omega arith))

-- where they rise, one place more is
lost_places-more : (g : Strategy) (s : Signals) (signal : Signal) → (policy_of s).strategy ≡ g → losses s < losses (s ▸ signal) → lost_places (s ▸ signal) ≡ lost_places s ++ place_lost g (s ▸ signal) ∷ []
lost_places-more g s signal e more =
    ap (λ b. cond b (lost_places s ++ place_lost (policy_of s).strategy (s ▸ signal) ∷ []) (lost_places s))
    (lt-ltb (losses s) (losses (s ▸ signal)) more)
    ∙ ap (λ g'. lost_places s ++ place_lost g' (s ▸ signal) ∷ []) e

-- a request changes nothing of what is kept
pub kept-requested : (s : Signals) (n : ℕ) → kept (s ▸ Requested n) ≡ kept s
kept-requested s n = ap (λ lost. without lost s) (lost_places-same s (Requested n) (losses-requested s n))

-- the end changes nothing of what is kept
pub kept-ended : (s : Signals) (terminal : Note) → kept (s ▸ Ended terminal) ≡ kept s
kept-ended s terminal = ap (λ lost. without lost s) (lost_places-same s (Ended terminal) (losses-ended s terminal))

-- THE PLACES LOST

-- no place from n on is lost
abbrev pub NoneFrom : ℕ → List ℕ → Type 0
NoneFrom n lost = (p : ℕ) → n ≤ p → is_lost lost p ≡ false

or_false : (b : Bool) → (b || false) ≡ b
or_false true = refl
or_false false = refl

or_true : (b : Bool) → (b || true) ≡ true
or_true true = refl
or_true false = refl

is_lost-more : (lost : List ℕ) (q p : ℕ) → is_lost (lost ++ q ∷ []) p ≡ (is_lost lost p || (q == p))
is_lost-more lost q p = list_any-append (λ r. r == p) lost (q ∷ []) ∙ ap (λ b. is_lost lost p || b) (or_false (q == p))

-- the place lost last
is_lost-this : (lost : List ℕ) (q p : ℕ) → q ≡ p → is_lost (lost ++ q ∷ []) p ≡ true
is_lost-this lost q p e =
    let same : (q == p) ≡ true = grind (arith, nat_tests) in
    is_lost-more lost q p ∙ ap (λ b. is_lost lost p || b) same ∙ or_true (is_lost lost p)

-- another place
is_lost-other : (lost : List ℕ) (q p : ℕ) → (q ≡ p → ⊥) → is_lost (lost ++ q ∷ []) p ≡ is_lost lost p
is_lost-other lost q p ne =
    let differ : (q == p) ≡ false = grind (arith, nat_tests) in
    is_lost-more lost q p ∙ ap (λ b. is_lost lost p || b) differ ∙ or_false (is_lost lost p)

NoneFrom-more : (lost : List ℕ) (q m n : ℕ) → NoneFrom m lost → m ≤ n → q < n → NoneFrom n (lost ++ q ∷ [])
NoneFrom-more lost q m n none within less p h = is_lost-other lost q p (λ e. omega arith) ∙ none p (omega arith)

-- losing a place that no item has yet takes no item
without-later : (lost : List ℕ) (q : ℕ) (s : Signals) → offered_count s ≤ q → without (lost ++ q ∷ []) s ≡ without lost s
without-later lost q (Start policy) h = refl
without-later lost q (s ▸ Requested n) h = without-later lost q s h
without-later lost q (s ▸ Offered item) h =
    ap (λ b. cond b (without (lost ++ q ∷ []) s) (without (lost ++ q ∷ []) s ++ item ∷ []))
    (is_lost-other lost q (offered_count s) (λ e. omega arith))
    ∙ ap (λ items. cond (is_lost lost (offered_count s)) items (items ++ item ∷ [])) (without-later lost q s (omega arith))
without-later lost q (s ▸ Ended terminal) h = without-later lost q s h

-- an item whose place is not lost stands behind the others
without-kept : (lost : List ℕ) (s : Signals) (item : Item) → is_lost lost (offered_count s) ≡ false → without lost (s ▸ Offered item) ≡ without lost s ++ item ∷ []
without-kept lost s item e = ap (λ b. cond b (without lost s) (without lost s ++ item ∷ [])) e

-- one whose place is lost does not
without-lost : (lost : List ℕ) (s : Signals) (item : Item) → is_lost lost (offered_count s) ≡ true → without lost (s ▸ Offered item) ≡ without lost s
without-lost lost s item e = ap (λ b. cond b (without lost s) (without lost s ++ item ∷ [])) e

-- the items part at a place before which all the lost ones are, and losing that place takes the first behind it
record Parts (lost : List ℕ) (q : ℕ) (s : Signals) : Type 0 where
  front : List Item
  back : List Item
  whole : without lost s ≡ front ++ back
  less : without (lost ++ q ∷ []) s ≡ front ++ drop 1 back
  long : q + length back ≡ offered_count s

parts-more : (lost : List ℕ) (q : ℕ) (s : Signals) (item : Item) → NoneFrom q lost → q < offered_count s → Parts lost q s → Parts lost q (s ▸ Offered item)
parts-more lost q s item none h p = record {
  front = p.front;
  back = p.back ++ item ∷ [];
  whole =
      without-kept lost s item (none (offered_count s) (omega arith))
      ∙ ap (λ items. items ++ item ∷ []) p.whole
      ∙ append_assoc p.front p.back (item ∷ []);
  less =
      without-kept (lost ++ q ∷ []) s item (is_lost-other lost q (offered_count s) (λ e. omega arith) ∙ none (offered_count s) (omega arith))
      ∙ ap (λ items. items ++ item ∷ []) p.less
      ∙ append_assoc p.front (drop 1 p.back) (item ∷ [])
      ∙ ap (λ items. p.front ++ items) (sym (drop-append-le 1 p.back (item ∷ []) (omega (arith, p.long))));
  long = omega (arith, p.long, length-append p.back (item ∷ []));
}

parts-here : (lost : List ℕ) (q : ℕ) (s : Signals) (item : Item) → NoneFrom q lost → q ≡ offered_count s → Parts lost q (s ▸ Offered item)
parts-here lost q s item none e = record {
  front = without lost s;
  back = item ∷ [];
  whole = without-kept lost s item (none (offered_count s) (omega arith));
  less =
      without-lost (lost ++ q ∷ []) s item (is_lost-this lost q (offered_count s) e)
      ∙ without-later lost q s (omega arith)
      ∙ sym (append-nil (without lost s));
  long = omega arith;
}

parts : (lost : List ℕ) (q : ℕ) (s : Signals) → NoneFrom q lost → q < offered_count s → Parts lost q s
parts lost q (Start policy) none h = absurd (omega arith)
parts lost q (s ▸ Requested n) none h =
    let p = parts lost q s none h in
    record { front = p.front; back = p.back; whole = p.whole; less = p.less; long = p.long }
parts lost q (s ▸ Offered item) none h =
    elim (cases_lt q (offered_count s)) [
      | inl before ↦ parts-more lost q s item none before (parts lost q s none before)
      | inr here ↦ parts-here lost q s item none (omega arith)
    ]
parts lost q (s ▸ Ended terminal) none h =
    let p = parts lost q s none h in
    record { front = p.front; back = p.back; whole = p.whole; less = p.less; long = p.long }

-- HOW MANY ARE KEPT

-- what is kept and what is lost is all that was offered; Latest loses places only before those that wait
pub record Counted (s : Signals) : Type 0 where
  pub count : length (kept s) + losses s ≡ offered_count s
  pub below : NoneFrom (offered_count s) (lost_places s)
  pub behind : (room : ℕ) → (policy_of s).strategy ≡ Latest room → NoneFrom (demand s + losses s) (lost_places s)

-- where the losses stay, the item offered is kept behind the others
kept-fits : (s : Signals) (item : Item) → Counted s → losses (s ▸ Offered item) ≡ losses s → kept (s ▸ Offered item) ≡ kept s ++ item ∷ []
kept-fits s item c same =
    ap (λ lost. without lost (s ▸ Offered item)) (lost_places-same s (Offered item) same)
    ∙ without-kept (lost_places s) s item (c.below (offered_count s) (omega arith))

-- where they rise, Drop loses it
kept-dropped : (room : ℕ) (s : Signals) (item : Item) → (policy_of s).strategy ≡ Drop room → losses s < losses (s ▸ Offered item) → kept (s ▸ Offered item) ≡ kept s
kept-dropped room s item e more =
    let q : ℕ = offered_count s + 1 - 1 in
    ap (λ lost. without lost (s ▸ Offered item)) (lost_places-more (Drop room) s (Offered item) e more)
    ∙ without-lost (lost_places s ++ q ∷ []) s item (is_lost-this (lost_places s) q (offered_count s) (omega arith))
    ∙ without-later (lost_places s) q s (omega arith)

-- and Latest loses the oldest that waits
record Replaced (s : Signals) (item : Item) : Type 0 where
  front : List Item
  back : List Item
  whole : kept s ++ item ∷ [] ≡ front ++ back
  less : kept (s ▸ Offered item) ≡ front ++ drop 1 back
  long : demand s + losses s + length back ≡ offered_count s + 1

kept-replaced : (room : ℕ) (s : Signals) (item : Item) → Counted s → (policy_of s).strategy ≡ Latest room → losses (s ▸ Offered item) ≡ losses s + 1 → demand s + losses s ≤ offered_count s → Replaced s item
kept-replaced room s item c e more within =
    let q : ℕ = demand s + losses (s ▸ Offered item) - 1 in
    let at : q ≡ demand s + losses s = omega arith in
    let none : NoneFrom q (lost_places s) = λ p h. c.behind room e p (omega arith) in
    let p = parts (lost_places s) q (s ▸ Offered item) none (omega arith) in
    record {
      front = p.front;
      back = p.back;
      whole = sym (without-kept (lost_places s) s item (c.below (offered_count s) (omega arith))) ∙ p.whole;
      less =
          ap (λ lost. without lost (s ▸ Offered item)) (lost_places-more (Latest room) s (Offered item) e (omega arith))
          ∙ p.less;
      long = omega (arith, p.long);
    }

-- by how much the offers are ahead where an item of a full room is lost
ahead : (g : Strategy) (room : ℕ) (s : Signals) (item : Item) → (policy_of s).strategy ≡ g → beyond_room g (offered_count s + 1 - demand s) ≡ offered_count s + 1 - demand s - room → losses s < losses (s ▸ Offered item) → losses (s ▸ Offered item) ≡ offered_count s + 1 - demand s - room
ahead g room s item e is more =
    let this : excess (s ▸ Offered item) ≡ offered_count s + 1 - demand s - room = ap (λ g'. beyond_room g' (offered_count s + 1 - demand s)) e ∙ is in
    omega arith

counted-fits : (s : Signals) (item : Item) → Counted s → losses (s ▸ Offered item) ≡ losses s → Counted (s ▸ Offered item)
counted-fits s item c same =
    let places = lost_places-same s (Offered item) same in
    record {
      count = omega (arith, c.count, ap length (kept-fits s item c same), length-append (kept s) (item ∷ []));
      below = λ p h. ap (λ lost. is_lost lost p) places ∙ c.below p (omega arith);
      behind = λ room e p h. ap (λ lost. is_lost lost p) places ∙ c.behind room e p (omega arith);
    }

counted-full : (g : Strategy) (s : Signals) (item : Item) → (policy_of s).strategy ≡ g → Counted s → losses s < losses (s ▸ Offered item) → Counted (s ▸ Offered item)
counted-full Buffer s item e c more =
    absurd (omega (arith, ap (λ g. beyond_room g (offered_count s + 1 - demand s)) e))
counted-full (Bounded room) s item e c more =
    absurd (omega (arith, ap (λ g. beyond_room g (offered_count s + 1 - demand s)) e))
counted-full (Drop room) s item e c more =
    let places = lost_places-more (Drop room) s (Offered item) e more in
    record {
      count = omega (arith, c.count, losses-offered s item, ap length (kept-dropped room s item e more));
      below = λ p h. ap (λ lost. is_lost lost p) places ∙ NoneFrom-more (lost_places s) _ _ _ c.below (omega arith) (omega arith) p h;
      behind = λ room' e' p h. absurd cc;
    }
counted-full (Latest room) s item e c more =
    let places = lost_places-more (Latest room) s (Offered item) e more in
    let is = ahead (Latest room) room s item e refl more in
    let up = losses-offered s item in
    let r = kept-replaced room s item c e (omega arith) (omega arith) in
    record {
      count = omega (arith, c.count, ap length r.whole, ap length r.less, r.long, length-append (kept s) (item ∷ []), length-append r.front r.back, length-append r.front (drop 1 r.back), length-drop 1 r.back);
      below = λ p h. ap (λ lost. is_lost lost p) places ∙ NoneFrom-more (lost_places s) _ _ _ c.below (omega arith) (omega arith) p h;
      behind = λ room' e' p h. ap (λ lost. is_lost lost p) places ∙ NoneFrom-more (lost_places s) _ _ _ (c.behind room e) (omega arith) (omega arith) p h;
    }

pub counted : (s : Signals) → Counted s
counted (Start policy) = record {
  count = refl;
  below = λ p h. refl;
  behind = λ room e p h. refl;
}
counted (s ▸ Requested n) =
    let c = counted s in
    let places = lost_places-same s (Requested n) (losses-requested s n) in
    record {
      count = omega (arith, c.count, losses-requested s n, ap length (kept-requested s n));
      below = λ p h. ap (λ lost. is_lost lost p) places ∙ c.below p h;
      behind = λ room e p h. ap (λ lost. is_lost lost p) places ∙ c.behind room e p (omega (arith, losses-requested s n));
    }
counted (s ▸ Offered item) =
    elim (cases_lt (losses s) (losses (s ▸ Offered item))) [
      | inl more ↦ counted-full (policy_of s).strategy s item refl (counted s) more
      | inr same ↦ counted-fits s item (counted s) (omega arith)
    ]
counted (s ▸ Ended terminal) =
    let c = counted s in
    let places = lost_places-same s (Ended terminal) (losses-ended s terminal) in
    record {
      count = omega (arith, c.count, losses-ended s terminal, ap length (kept-ended s terminal));
      below = λ p h. ap (λ lost. is_lost lost p) places ∙ c.below p h;
      behind = λ room e p h. ap (λ lost. is_lost lost p) places ∙ c.behind room e p (omega (arith, losses-ended s terminal));
    }

-- AN OFFER

-- an item that was requested already is kept, by any strategy
pub kept-owed : (s : Signals) (item : Item) → length (kept s) < demand s → kept (s ▸ Offered item) ≡ kept s ++ item ∷ []
kept-owed s item owes =
    let c = counted s in
    let within = beyond_room-within (policy_of s).strategy (offered_count s + 1 - demand s) in
    kept-fits s item c (omega (arith, c.count))

-- as many are kept ahead of the demand as there is room for
within_room : (g : Strategy) (room : ℕ) (s : Signals) → (policy_of s).strategy ≡ g → beyond_room g (offered_count s - demand s) ≡ offered_count s - demand s - room → length (kept s) ≤ demand s + room
within_room g room s e is =
    let c = counted s in
    let this : excess s ≡ offered_count s - demand s - room = ap (λ g'. beyond_room g' (offered_count s - demand s)) e ∙ is in
    omega (arith, c.count, excess-losses s)

-- at most as many items wait under Drop as there is room for
pub within_drop : (room : ℕ) (s : Signals) → (policy_of s).strategy ≡ Drop room → length (kept s) ≤ demand s + room
within_drop room s e = within_room (Drop room) room s e refl

-- and under Latest
pub within_latest : (room : ℕ) (s : Signals) → (policy_of s).strategy ≡ Latest room → length (kept s) ≤ demand s + room
within_latest room s e = within_room (Latest room) room s e refl

-- a strategy loses nothing, however many items are ahead of the demand
abbrev pub LosesNothing : Strategy → Type 0
LosesNothing g = (ahead : ℕ) → beyond_room g ahead ≡ 0

-- so there are no losses
pub losses-none : (g : Strategy) (s : Signals) → (policy_of s).strategy ≡ g → LosesNothing g → losses s ≡ 0
losses-none g (Start policy) e none = refl
losses-none g (s ▸ signal) e none =
    let ahead : ℕ = offered_count (s ▸ signal) - demand (s ▸ signal) in
    omega (arith, losses-none g s e none, ap (λ g'. beyond_room g' ahead) e, none ahead)

lost_places-none : (g : Strategy) (s : Signals) → (policy_of s).strategy ≡ g → LosesNothing g → lost_places s ≡ []
lost_places-none g (Start policy) e none = refl
lost_places-none g (s ▸ signal) e none =
    lost_places-same s signal (losses-none g (s ▸ signal) e none ∙ sym (losses-none g s e none)) ∙ lost_places-none g s e none

-- and every item is kept
pub kept-all : (g : Strategy) (s : Signals) → (policy_of s).strategy ≡ g → LosesNothing g → kept s ≡ without [] s
kept-all g s e none = ap (λ lost. without lost s) (lost_places-none g s e none)

-- the first n, the rest and one more
parted : (n : ℕ) (items : List Item) (item : Item) → items ++ item ∷ [] ≡ take n items ++ (drop n items ++ item ∷ [])
parted n items item =
    ap (λ xs. xs ++ item ∷ []) (sym (take-append-drop n items)) ∙ append_assoc (take n items) (drop n items) (item ∷ [])

-- where nothing is lost, an item waits behind the others
queued_all : (g : Strategy) (s : Signals) (item : Item) → (policy_of s).strategy ≡ g → LosesNothing g
    → kept (s ▸ Offered item) ≡ take (demand s) (kept s) ++ (drop (demand s) (kept s) ++ item ∷ [])
queued_all g s item e none =
    kept-fits s item (counted s) (losses-none g (s ▸ Offered item) e none ∙ sym (losses-none g s e none)) ∙ parted (demand s) (kept s) item

-- where there is room, nothing is lost
fits : (g : Strategy) (room : ℕ) (s : Signals) (item : Item) → (policy_of s).strategy ≡ g → beyond_room g (offered_count s + 1 - demand s) ≡ offered_count s + 1 - demand s - room → length (kept s) < demand s + room → losses (s ▸ Offered item) ≡ losses s
fits g room s item e is free =
    let c = counted s in
    let this : excess (s ▸ Offered item) ≡ offered_count s + 1 - demand s - room = ap (λ g'. beyond_room g' (offered_count s + 1 - demand s)) e ∙ is in
    omega (arith, c.count)

-- where there is none, an item is
full : (g : Strategy) (room : ℕ) (s : Signals) (item : Item) → (policy_of s).strategy ≡ g → beyond_room g (offered_count s + 1 - demand s) ≡ offered_count s + 1 - demand s - room → demand s + room ≤ length (kept s) → losses s < losses (s ▸ Offered item)
full g room s item e is none =
    let c = counted s in
    let this : excess (s ▸ Offered item) ≡ offered_count s + 1 - demand s - room = ap (λ g'. beyond_room g' (offered_count s + 1 - demand s)) e ∙ is in
    omega (arith, c.count)

-- with Drop an item waits where the room is not full
dropping : (room : ℕ) (s : Signals) (item : Item) → (policy_of s).strategy ≡ Drop room → demand s ≤ length (kept s) → kept (s ▸ Offered item) ≡ take (demand s) (kept s) ++ queued (Drop room) (drop (demand s) (kept s)) item
dropping room s item e h =
    let n : ℕ = length (drop (demand s) (kept s)) in
    let rest = length-drop (demand s) (kept s) in
    elim (cases_lt n room) [
      | inl free ↦
          kept-fits s item (counted s) (fits (Drop room) room s item e refl (omega arith))
          ∙ parted (demand s) (kept s) item
          ∙ ap (λ b. take (demand s) (kept s) ++ cond b (drop (demand s) (kept s) ++ item ∷ []) (drop (demand s) (kept s))) (sym (lt-ltb n room free))
      | inr none ↦
          kept-dropped room s item e (full (Drop room) room s item e refl (omega arith))
          ∙ sym (take-append-drop (demand s) (kept s))
          ∙ ap (λ b. take (demand s) (kept s) ++ cond b (drop (demand s) (kept s) ++ item ∷ []) (drop (demand s) (kept s))) (sym (le-ltb n room none))
    ]

-- two ways to part the same items at the same place are one
same_parts : (a b c d : List Item) → a ++ b ≡ c ++ d → length a ≡ length c → (a ≡ c) × (b ≡ d)
same_parts a b c d e same = (
  sym (take_at a b (length a) refl) ∙ ap (take (length a)) e ∙ take_at c d (length a) (sym same),
  sym (drop_at a b (length a) refl) ∙ ap (drop (length a)) e ∙ drop_at c d (length a) (sym same),
)

-- with Latest an item waits, and where the room is full the oldest that waits does not
replacing : (room : ℕ) (s : Signals) (item : Item) → (policy_of s).strategy ≡ Latest room → demand s ≤ length (kept s) → kept (s ▸ Offered item) ≡ take (demand s) (kept s) ++ queued (Latest room) (drop (demand s) (kept s)) item
replacing room s item e h =
    let c = counted s in
    let n : ℕ = length (drop (demand s) (kept s)) in
    let rest = length-drop (demand s) (kept s) in
    elim (cases_lt n room) [
      | inl free ↦
          let none_lost : n + 1 - room ≡ 0 = omega arith in
          kept-fits s item c (fits (Latest room) room s item e refl (omega arith))
          ∙ parted (demand s) (kept s) item
          ∙ ap (λ k. take (demand s) (kept s) ++ drop k (drop (demand s) (kept s) ++ item ∷ [])) (sym none_lost)
      | inr none ↦
          let more = full (Latest room) room s item e refl (omega arith) in
          let r = kept-replaced room s item c e (omega (arith, losses-offered s item)) (omega (arith, c.count)) in
          let one_lost : n + 1 - room ≡ 1 = omega (arith, within_latest room s e) in
          let place : length r.front ≡ length (take (demand s) (kept s)) =
          omega (arith, ap length r.whole, r.long, c.count, length-append (kept s) (item ∷ []), length-append r.front r.back, length-take (demand s) (kept s)) in
          let same = same_parts r.front r.back (take (demand s) (kept s)) (drop (demand s) (kept s) ++ item ∷ []) (sym r.whole ∙ parted (demand s) (kept s) item) place in
          r.less
          ∙ ap (λ items. items ++ drop 1 r.back) same.0
          ∙ ap (λ items. take (demand s) (kept s) ++ drop 1 items) same.1
          ∙ ap (λ k. take (demand s) (kept s) ++ drop k (drop (demand s) (kept s) ++ item ∷ [])) (sym one_lost)
    ]

-- an item that was not requested yet is queued behind those that were
pub kept-queued : (g : Strategy) (s : Signals) (item : Item) → (policy_of s).strategy ≡ g → demand s ≤ length (kept s) → kept (s ▸ Offered item) ≡ take (demand s) (kept s) ++ queued g (drop (demand s) (kept s)) item
kept-queued Buffer s item e h = queued_all Buffer s item e (λ ahead. refl)
kept-queued (Drop room) s item e h = dropping room s item e h
kept-queued (Latest room) s item e h = replacing room s item e h
kept-queued (Bounded room) s item e h = queued_all (Bounded room) s item e (λ ahead. refl)

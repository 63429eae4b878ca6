-- What an observer can rely on, over its signals alone.
use Rattle.std.proofs.Common.{◌≡◌, ℕ, ◌+◌, ◌<◌, ◌≤◌, Bool, true, false, cond, leb, List, [], ◌∷◌, ◌++◌, length, map, take, None, Some, inl, inr, refl, sym, ap, ◌∙◌, arith}
use Rattle.std.specs.List.{count_by}
use Rattle.std.specs.Option.{option_map_or}
use Rattle.std.proofs.lemmas.Bool.{cases_Bool, cases_lt, cond-true, le-leb}
use Rattle.std.proofs.lemmas.List.{append-nil, length-append, length-map, length-take, length-drop, drop_all}
use Rattle.std.proofs.lemmas.List.Sums.{sum_by-append, sum_by-cons}
use Rattle.rx_note.specs.declared.item.Item.{Item}
use Rattle.rx_note.specs.declared.note.Note.{Note}
use Rattle.rx_note.specs.declared.note.Note.TheVariants.{Next, Completed, Failed}
use Rattle.rx_note.specs.declared.strategy.Strategy.TheVariants.{Buffer}
use Rattle.rx_note.specs.declared.errors.Errors.TheVariants.{Delay}
use Rattle.rx_note.specs.Signals.{Signal, Requested, Offered, Ended, Signals, Start, ◌▸◌, policy_of, demand, terminal_of, without, kept, goes_ahead, line_items, ending, line, given, waiting_items, waiting_end, waiting, owed}
use Rattle.rx_note.proofs.Kept.{kept-requested, kept-ended, kept-all}
use Rattle.rx_note.proofs.Lines.{owed-rest}
use Rattle.rx_note.proofs.Released.{released_all}
use Rattle.rx_note.proofs.Steps.{offer_given, offer_waits, end_given, end_waits, end_ahead, ask_releases}

-- whether a signal may come next: after the end only requests do
abbrev pub ComesNext : Signals → Signal → Type 0
ComesNext s (Requested n) = Unit {0}
ComesNext s (Offered item) = terminal_of s ≡ None
ComesNext s (Ended terminal) = terminal_of s ≡ None

-- what was given is never taken back: a signal adds notes behind it
pub given-grows : (s : Signals) (signal : Signal) → ComesNext s signal → (notes : List Note) × (given (s ▸ signal) ≡ given s ++ notes)
given-grows s (Requested n) next = (_, (ask_releases s n).gives)
given-grows s (Offered item) next =
    elim (cases_lt 0 (owed s)) [
      | inl h ↦ (_, (offer_given s item next h).gives)
      | inr h ↦ (_, (offer_waits (policy_of s).strategy s item refl next (omega arith)).gives)
    ]
given-grows s (Ended terminal) next =
    elim (cases_Bool (goes_ahead (policy_of s).errors terminal)) [
      | inl ahead ↦ (_, (end_ahead s terminal ahead next).gives)
      | inr behind ↦
          elim (cases_lt 0 (length (waiting_items s))) [
            | inl h ↦ (_, (end_waits s terminal behind next h).gives)
            | inr h ↦ (_, (end_given s terminal behind next (omega arith)).gives)
          ]
    ]

-- nothing waits while an item is owed
pub owed-waiting : (s : Signals) → 0 < owed s → waiting s ≡ []
owed-waiting s h =
    let short : length (line_items s) ≤ demand s = omega (arith, owed-rest s) in
    ap (λ items. map Next items ++ waiting_end s) (drop_all (demand s) (line_items s) short)
    ∙ cond-true (leb (length (line_items s)) (demand s)) [] (ending s) (le-leb (length (line_items s)) (demand s) short)

-- no terminal waits where no item does
pub waiting_end-behind_items : (s : Signals) → length (waiting_items s) ≡ 0 → waiting_end s ≡ []
waiting_end-behind_items s h =
    cond-true (leb (length (line_items s)) (demand s)) [] (ending s)
    (le-leb (length (line_items s)) (demand s) (omega (arith, length-drop (demand s) (line_items s))))

-- whether a note is an item and no terminal
abbrev pub is_item : Note → Bool
is_item (Next item) = true
is_item Completed = false
is_item (Failed text) = false

count-items : (items : List Item) → count_by is_item (map Next items) ≡ length items
count-items [] = refl
count-items (item ∷ items) =
    omega (arith, count-items items, sum_by-cons (λ note. cond (is_item note) 1 0) (Next item) (map Next items))

count-ending : (b : Bool) (last : List Note) → count_by is_item last ≡ 0 → count_by is_item (cond b last []) ≡ 0
count-ending true last h = h
count-ending false last h = refl

-- as many items were given as were requested, less those that are owed: never more than were requested
pub given-owed : (s : Signals) → count_by is_item (ending s) ≡ 0 → count_by is_item (given s) + owed s ≡ demand s
given-owed s h =
    let items = count-items (take (demand s) (line_items s)) in
    let last = count-ending (leb (length (line_items s)) (demand s)) (ending s) h in
    let both = sum_by-append (λ note. cond (is_item note) 1 0) (map Next (take (demand s) (line_items s))) (cond (leb (length (line_items s)) (demand s)) (ending s) []) in
    omega (arith, items, last, both, length-take (demand s) (line_items s))

-- once the terminal was given, nothing follows
pub given-ended : (s : Signals) (signal : Signal) (terminal : Note) → terminal_of s ≡ Some terminal → waiting s ≡ [] → ComesNext s signal → given (s ▸ signal) ≡ given s
given-ended s (Requested n) terminal e none next =
    let lengths = ap length none in
    let none_waits : length (waiting_items s) ≡ 0 = omega (arith, lengths, length-append (map Next (waiting_items s)) (waiting_end s), length-map (waiting_items s) Next) in
    (ask_releases s n).gives
    ∙ ap (λ notes. given s ++ notes) (released_all (owed s + n) (waiting_items s) (waiting_end s) (omega arith) ∙ none)
    ∙ append-nil (given s)
given-ended s (Offered item) terminal e none next = absurd cc
given-ended s (Ended other) terminal e none next = absurd cc

-- the items that were offered
abbrev pub offered : Signals → List Item
offered (Start policy) = []
offered (s ▸ Requested n) = offered s
offered (s ▸ Offered item) = offered s ++ item ∷ []
offered (s ▸ Ended terminal) = offered s

pub without-none : (s : Signals) → without [] s ≡ offered s
without-none (Start policy) = refl
without-none (s ▸ Requested n) = without-none s
without-none (s ▸ Offered item) = ap (λ items. items ++ item ∷ []) (without-none s)
without-none (s ▸ Ended terminal) = without-none s

-- where no terminal goes ahead, the line has every item kept
pub line_items-kept : (s : Signals) → ((terminal : Note) → goes_ahead (policy_of s).errors terminal ≡ false) → line_items s ≡ kept s
line_items-kept (Start policy) behind = refl
line_items-kept (s ▸ Requested n) behind = line_items-kept s behind ∙ sym (kept-requested s n)
line_items-kept (s ▸ Offered item) behind = refl
line_items-kept (s ▸ Ended terminal) behind =
    ap (λ b. cond b (take (demand s) (kept s)) (kept s)) (behind terminal) ∙ sym (kept-ended s terminal)

-- the same, where the end that there is doesn't go ahead
pub line_items-behind : (s : Signals) → option_map_or (goes_ahead (policy_of s).errors) (terminal_of s) false ≡ false → line_items s ≡ kept s
line_items-behind (Start policy) behind = refl
line_items-behind (s ▸ Requested n) behind = line_items-behind s behind ∙ sym (kept-requested s n)
line_items-behind (s ▸ Offered item) behind = refl
line_items-behind (s ▸ Ended terminal) behind =
    ap (λ b. cond b (take (demand s) (kept s)) (kept s)) behind ∙ sym (kept-ended s terminal)

shortened : (b : Bool) (n : ℕ) (items : List Item) → length (cond b (take n items) items) ≤ length items
shortened true n items = omega (arith, length-take n items)
shortened false n items = omega arith

-- by any error mode it has no item but those kept
pub line_items-within : (s : Signals) → length (line_items s) ≤ length (kept s)
line_items-within (Start policy) = omega arith
line_items-within (s ▸ Requested n) = omega (arith, line_items-within s, ap length (kept-requested s n))
line_items-within (s ▸ Offered item) = omega arith
line_items-within (s ▸ Ended terminal) =
    omega (arith, shortened (goes_ahead (policy_of s).errors terminal) (demand s) (kept s), ap length (kept-ended s terminal))

-- under Buffer and Delay the line is all that was offered, and then the terminal
pub line-whole : (s : Signals) → (policy_of s).strategy ≡ Buffer → (policy_of s).errors ≡ Delay → line s ≡ map Next (offered s) ++ ending s
line-whole s e delay =
    ap (λ items. map Next items ++ ending s)
    (line_items-kept s (λ terminal. ap (λ errors. goes_ahead errors terminal) delay) ∙ kept-all Buffer s e (λ ahead. refl) ∙ without-none s)

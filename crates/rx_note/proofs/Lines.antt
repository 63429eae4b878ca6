-- The line of an observer: what each signal makes of it, and how it parts into what was given and what waits.
use Rattle.std.proofs.Common.{◌≡◌, ◌-◌, ◌<◌, ◌≤◌, true, false, cond, [], ◌∷◌, ◌++◌, length, take, drop, None, refl, sym, ap, ◌∙◌, arith}
use Rattle.std.proofs.lemmas.List.{length-take, take_at}
use Rattle.rx_note.specs.declared.item.Item.{Item}
use Rattle.rx_note.specs.declared.note.Note.{Note}
use Rattle.rx_note.specs.declared.strategy.Strategy.{Strategy}
use Rattle.rx_note.specs.Signals.{Requested, Offered, Ended, Signals, Start, ◌▸◌, policy_of, demand, terminal_of, kept, goes_ahead, line_items, ending, line, given, waiting_items, waiting, owed}
use Rattle.rx_note.specs.Queues.{queued}
use Rattle.rx_note.proofs.Kept.{kept-requested, kept-owed, kept-queued}
use Rattle.rx_note.proofs.Released.{released-rest}

-- before the end the line has the items kept
pub line_items-open : (s : Signals) → terminal_of s ≡ None → line_items s ≡ kept s
line_items-open (Start policy) open_now = refl
line_items-open (s ▸ Requested n) open_now = line_items-open s open_now ∙ sym (kept-requested s n)
line_items-open (s ▸ Offered item) open_now = refl
line_items-open (s ▸ Ended terminal) open_now = absurd cc

-- an item that was requested already comes behind the line, by any strategy
pub line_items-owed : (s : Signals) (item : Item) → terminal_of s ≡ None → length (line_items s) < demand s → line_items (s ▸ Offered item) ≡ line_items s ++ item ∷ []
line_items-owed s item open_now h =
    let same = line_items-open s open_now in
    kept-owed s item (omega (arith, ap length same)) ∙ ap (λ items. items ++ item ∷ []) (sym same)

-- one that was not is queued behind those that were
pub line_items-queued : (g : Strategy) (s : Signals) (item : Item) → (policy_of s).strategy ≡ g → terminal_of s ≡ None → demand s ≤ length (line_items s) → line_items (s ▸ Offered item) ≡ take (demand s) (line_items s) ++ queued g (waiting_items s) item
line_items-queued g s item e open_now h =
    let same = line_items-open s open_now in
    kept-queued g s item e (omega (arith, ap length same))
    ∙ ap (λ items. take (demand s) items ++ queued g (drop (demand s) items) item) (sym same)

-- a terminal that stays behind leaves the items
pub line_items-ended : (s : Signals) (terminal : Note) → goes_ahead (policy_of s).errors terminal ≡ false → terminal_of s ≡ None → line_items (s ▸ Ended terminal) ≡ line_items s
line_items-ended s terminal behind open_now =
    ap (λ b. cond b (take (demand s) (kept s)) (kept s)) behind ∙ sym (line_items-open s open_now)

-- one that goes ahead leaves of them those that were given
pub line_items-ahead : (s : Signals) (terminal : Note) → goes_ahead (policy_of s).errors terminal ≡ true → terminal_of s ≡ None → line_items (s ▸ Ended terminal) ≡ take (demand s) (line_items s)
line_items-ahead s terminal ahead open_now =
    ap (λ b. cond b (take (demand s) (kept s)) (kept s)) ahead ∙ ap (take (demand s)) (sym (line_items-open s open_now))

-- what is owed is what was demanded beyond the line
pub owed-rest : (s : Signals) → owed s ≡ demand s - length (line_items s)
owed-rest s = omega (arith, length-take (demand s) (line_items s))

-- what was given and what waits is the line, nothing twice and nothing missing
pub given-waiting : (s : Signals) → given s ++ waiting s ≡ line s
given-waiting s = released-rest (demand s) (line_items s) (ending s)

-- what was given is the first part of the line
pub given-first : (s : Signals) → take (length (given s)) (line s) ≡ given s
given-first s =
    ap (take (length (given s))) (sym (given-waiting s)) ∙ take_at (given s) (waiting s) (length (given s)) refl

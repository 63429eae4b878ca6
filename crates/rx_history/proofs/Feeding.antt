-- What the signals that a subject sends make of those of an observer.
use Rattle.std.proofs.Common.{◌≡◌, Bool, true, false, List, [], ◌∷◌, ◌++◌, map, Option, None, Some, refl, sym, ap, subst, ◌∙◌, append_assoc, append-nil}
use Rattle.rx_note.specs.declared.item.Item.{Item}
use Rattle.rx_note.specs.declared.note.Note.{Note}
use Rattle.rx_note.specs.Signals.{Signal, Offered, Ended, Signals, ◌▸◌, policy_of, terminal_of, overflow, overflows, sent, given}
use Rattle.rx_note.proofs.Sending.{Grows, sent-behind, sent-second, sent-end, sent-fits, sent-overflow, sent-grows, policy_of-sent}
use Rattle.rx_history.specs.Histories.{followed_by, ended_by}

-- ONE SIGNAL

item_sent_by : (P : Signals → Type 0) (s : Signals) (item : Item) (end : Option Note) (b : Bool) → terminal_of s ≡ end → overflows s ≡ b → P s
    → (terminal_of s ≡ None → overflows s ≡ true → P (s ▸ Ended overflow)) → (terminal_of s ≡ None → overflows s ≡ false → P (s ▸ Offered item))
    → P (sent s (Offered item))
item_sent_by P s item (Some end) b ended is behind over fits = subst P (sym (sent-behind s end item ended)) behind
item_sent_by P s item None true open_now is behind over fits = subst P (sym (sent-overflow s item open_now is)) (over open_now is)
item_sent_by P s item None false open_now is behind over fits = subst P (sym (sent-fits s item open_now is)) (fits open_now is)

-- an item that is sent is behind an end, overflows, or is offered
pub item_sent : (P : Signals → Type 0) (s : Signals) (item : Item) → P s
    → (terminal_of s ≡ None → overflows s ≡ true → P (s ▸ Ended overflow)) → (terminal_of s ≡ None → overflows s ≡ false → P (s ▸ Offered item))
    → P (sent s (Offered item))
item_sent P s item behind over fits = item_sent_by P s item (terminal_of s) (overflows s) refl refl behind over fits

end_sent_by : (P : Signals → Type 0) (s : Signals) (terminal : Note) (end : Option Note) → terminal_of s ≡ end → P s
    → (terminal_of s ≡ None → P (s ▸ Ended terminal)) → P (sent s (Ended terminal))
end_sent_by P s terminal (Some end) ended behind ends = subst P (sym (sent-second s end terminal ended)) behind
end_sent_by P s terminal None open_now behind ends = subst P (sym (sent-end s terminal open_now)) (ends open_now)

-- an end that is sent is behind another one, or it is the end
pub end_sent : (P : Signals → Type 0) (s : Signals) (terminal : Note) → P s → (terminal_of s ≡ None → P (s ▸ Ended terminal)) → P (sent s (Ended terminal))
end_sent P s terminal behind ends = end_sent_by P s terminal (terminal_of s) refl behind ends

-- SEVERAL

-- signals that follow in two parts
pub followed_by-append : (s : Signals) (front back : List Signal) → followed_by s (front ++ back) ≡ followed_by (followed_by s front) back
followed_by-append s [] back = refl
followed_by-append s (signal ∷ front) back = followed_by-append (sent s signal) front back

-- behind an end nothing follows
pub followed-behind : (s : Signals) (end : Note) (items : List Item) (last : Option Note) → terminal_of s ≡ Some end
    → followed_by s (map Offered items ++ ended_by last) ≡ s
followed-behind s end [] None ended = refl
followed-behind s end [] (Some terminal) ended = sent-second s end terminal ended
followed-behind s end (item ∷ items) last ended =
    ap (λ t. followed_by t (map Offered items ++ ended_by last)) (sent-behind s end item ended) ∙ followed-behind s end items last ended

-- nor behind an item that overflows
pub followed-overflow : (s : Signals) (item : Item) (items : List Item) (last : Option Note) → terminal_of s ≡ None → overflows s ≡ true
    → followed_by s (map Offered (item ∷ items) ++ ended_by last) ≡ s ▸ Ended overflow
followed-overflow s item items last open_now over =
    ap (λ t. followed_by t (map Offered items ++ ended_by last)) (sent-overflow s item open_now over)
    ∙ followed-behind (s ▸ Ended overflow) overflow items last refl

-- one that fits is offered, and the others follow it
pub followed-fits : (s : Signals) (item : Item) (items : List Item) (last : Option Note) → terminal_of s ≡ None → overflows s ≡ false
    → followed_by s (map Offered (item ∷ items) ++ ended_by last) ≡ followed_by (s ▸ Offered item) (map Offered items ++ ended_by last)
followed-fits s item items last open_now fits =
    ap (λ t. followed_by t (map Offered items ++ ended_by last)) (sent-fits s item open_now fits)

-- the policy stays
pub policy_of-followed : (s : Signals) (signals : List Signal) → policy_of (followed_by s signals) ≡ policy_of s
policy_of-followed s [] = refl
policy_of-followed s (signal ∷ signals) = policy_of-followed (sent s signal) signals ∙ policy_of-sent s signal

-- and what was given is never taken back
pub followed-grows : (s : Signals) (signals : List Signal) → Grows s (followed_by s signals)
followed-grows s [] = ([], sym (append-nil (given s)))
followed-grows s (signal ∷ signals) =
    let one = sent-grows s signal in
    let more = followed-grows (sent s signal) signals in
    (one.0 ++ more.0, more.1 ∙ ap (λ notes. notes ++ more.0) one.1 ∙ append_assoc (given s) one.0 more.0)

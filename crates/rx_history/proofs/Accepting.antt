-- When an Emit is accepted, and what one that is refused leaves.
use Rattle.std.proofs.Common.{◌≡◌, ℕ, ◌≤◌, ◌<◌, max, Bool, true, false, cond, ◌&&◌, not, ltb, List, [], ◌∷◌, ◌++◌, length, map, Option, None, Some, is_some, refl, sym, ap, ◌∙◌, arith, inl, inr}
use Rattle.std.specs.Option.{option_or}
use Rattle.std.proofs.lemmas.Bool.{cases_Bool}
use Rattle.std.proofs.lemmas.Bool.Decides.{nat_tests}
use Rattle.std.proofs.lemmas.List.{length-append, append-nil}
use Rattle.rx_note.specs.declared.item.Item.{Item}
use Rattle.rx_note.specs.declared.limits.Limits.{Limits}
use Rattle.rx_note.specs.declared.note.Note.{Note}
use Rattle.rx_note.specs.declared.note.Note.TheVariants.{Next, Completed, Failed}
use Rattle.rx_note.specs.declared.event.Event.TheVariants.{Emit, Join, Request, Dispose}
use Rattle.rx_note.specs.declared.rules.Rules.{Rules}
use Rattle.rx_history.specs.Histories.{History, NoEvents, ◌▹◌, terminal_in, end_of, is_ended, has_room, count_with, item_count, accepts, stamp, Stamped, item_in, items}

open_by : (end : Option Note) (room : Bool) → (not (is_some end) && room) ≡ true → end ≡ None
open_by None room e = refl
open_by (Some terminal) room e = cc

-- one that is accepted comes before the end
pub accepts-open : (rules : Rules) (H : History) (note : Note) → accepts rules H note ≡ true → end_of H ≡ None
accepts-open rules H note accepted = open_by (end_of H) (has_room rules.limits (item_count rules H) note) accepted

room_by : (unended room : Bool) → (unended && room) ≡ true → room ≡ true
room_by true room e = e
room_by false room e = cc

-- and finds room
pub accepts-room : (rules : Rules) (H : History) (note : Note) → accepts rules H note ≡ true → has_room rules.limits (item_count rules H) note ≡ true
accepts-room rules H note accepted = room_by (not (is_ended H)) (has_room rules.limits (item_count rules H) note) accepted

-- these two suffice
pub accepted : (rules : Rules) (H : History) (note : Note) → end_of H ≡ None → has_room rules.limits (item_count rules H) note ≡ true → accepts rules H note ≡ true
accepted rules H note unended room =
    ap (λ end. not (is_some end) && has_room rules.limits (item_count rules H) note) unended ∙ room

-- after the end none is accepted
pub refused-ended : (rules : Rules) (H : History) (note : Note) → is_ended H ≡ true → accepts rules H note ≡ false
refused-ended rules H note ended = ap (λ b. not b && has_room rules.limits (item_count rules H) note) ended

full_by : (unended room : Bool) → room ≡ false → (unended && room) ≡ false
full_by true room e = e
full_by false room e = refl

-- nor without room
pub refused-full : (rules : Rules) (H : History) (note : Note) → has_room rules.limits (item_count rules H) note ≡ false → accepts rules H note ≡ false
refused-full rules H note full = full_by (not (is_ended H)) (has_room rules.limits (item_count rules H) note) full

end_left : (end : Option Note) (limits : Limits) (count : ℕ) (note : Note) → (not (is_some end) && has_room limits count note) ≡ false → option_or end (terminal_in note) ≡ end
end_left (Some terminal) limits count note e = refl
end_left None limits count (Next item) e = refl
end_left None limits count Completed e = cc
end_left None limits count (Failed text) e = cc

-- one that is refused ends nothing
pub end_of-refused : (rules : Rules) (H : History) (port : ℕ) (note : Note) (at : ℕ) → accepts rules H note ≡ false → end_of (H ▹ (port, Emit note at)) ≡ end_of H
end_of-refused rules H port note at refused = end_left (end_of H) rules.limits (item_count rules H) note refused

-- HOW MANY ITEMS THERE ARE

pub item_count-accepted : (rules : Rules) (H : History) (port : ℕ) (note : Note) (at : ℕ) → accepts rules H note ≡ true
    → item_count rules (H ▹ (port, Emit note at)) ≡ count_with (item_count rules H) note
item_count-accepted rules H port note at accepted = ap (λ b. cond b (count_with (item_count rules H) note) (item_count rules H)) accepted

pub item_count-refused : (rules : Rules) (H : History) (port : ℕ) (note : Note) (at : ℕ) → accepts rules H note ≡ false
    → item_count rules (H ▹ (port, Emit note at)) ≡ item_count rules H
item_count-refused rules H port note at refused = ap (λ b. cond b (count_with (item_count rules H) note) (item_count rules H)) refused

counted_by : (b : Bool) (count z port : ℕ) (note : Note) (xs : List Stamped) → count ≡ length xs
    → cond b (count_with count note) count ≡ length (cond b (xs ++ map (λ (item : Item). (item, z)) (item_in port count note)) xs)
counted_by true count z port (Next item) xs same = omega (arith, same, length-append xs ((record item { from = port; place = count }, z) ∷ []))
counted_by true count z port Completed xs same = same ∙ ap length (sym (append-nil xs))
counted_by true count z port (Failed text) xs same = same ∙ ap length (sym (append-nil xs))
counted_by false count z port note xs same = same

-- as many were accepted as there are
pub item_count-length : (rules : Rules) (H : History) → item_count rules H ≡ length (items rules H)
item_count-length rules NoEvents = refl
item_count-length rules (H ▹ (port, Emit note at)) =
    counted_by (accepts rules H note) (item_count rules H) (max (stamp rules H) at) port note (items rules H) (item_count-length rules H)
item_count-length rules (H ▹ (port, Join policy first at)) = item_count-length rules H
item_count-length rules (H ▹ (port, Request who n)) = item_count-length rules H
item_count-length rules (H ▹ (port, Dispose who)) = item_count-length rules H

within_by : (limits : Limits) (count : ℕ) (note : Note) (unended : Bool) → count ≤ limits.items
    → cond (unended && has_room limits count note) (count_with count note) count ≤ limits.items
within_by limits count (Next item) true le =
    elim (cases_Bool (ltb count limits.items)) [
      | inl room ↦ let below : count < limits.items = grind (arith, nat_tests) in rw room (omega arith)
      | inr full ↦ rw full le
    ]
within_by limits count Completed true le = le
within_by limits count (Failed text) true le = le
within_by limits count note false le = le

-- and no more than the limit
pub item_count-within : (rules : Rules) (H : History) → item_count rules H ≤ rules.limits.items
item_count-within rules NoEvents = omega arith
item_count-within rules (H ▹ (port, Emit note at)) = within_by rules.limits (item_count rules H) note (not (is_ended H)) (item_count-within rules H)
item_count-within rules (H ▹ (port, Join policy first at)) = item_count-within rules H
item_count-within rules (H ▹ (port, Request who n)) = item_count-within rules H
item_count-within rules (H ▹ (port, Dispose who)) = item_count-within rules H

-- What an entry makes of the past of a subject, and of the moment at which ages are told.
use Rattle.std.proofs.Common.{◌≡◌, ℕ, ◌+◌, ◌-◌, ◌<◌, ◌≤◌, max, min, Bool, true, false, cond, ◌&&◌, not, Option, None, is_some, List, [], ◌∷◌, ◌++◌, length, get_or, map, take, drop, refl, ap, sym, subst, ◌∙◌, arith}
use Rattle.std.proofs.lemmas.Grind.{common_steps}
use Rattle.std.specs.List.{filter}
use Rattle.std.specs.Option.{option_or}
use Rattle.std.proofs.lemmas.List.{length-map, map-append, append-nil, drop-map}
use Rattle.std.proofs.lemmas.List.Elements.{filter_more}
use Rattle.rx_note.specs.declared.item.Item.{Item}
use Rattle.rx_note.specs.declared.limits.Limits.{Limits}
use Rattle.rx_note.specs.declared.note.Note.{Note}
use Rattle.rx_note.specs.declared.event.Event.TheVariants.{Emit, Join, Request, Dispose}
use Rattle.rx_note.specs.declared.rules.Rules.{Rules}
use Rattle.rx_note.specs.Choices.{Choice}
use Rattle.rx_history.specs.Histories.{History, ◌▹◌, terminal_in, end_of, is_ended, up_to_end, has_room, item_count, accepts, may_join, stamp, Stamped, item_in, items, unstamped, newest, is_young, young, age_moment}
use Rattle.rx_history.specs.Pasts.{Remembers}
use Rattle.rx_history.specs.declared.past.Past.{Past}
use Rattle.rx_history.proofs.Accepting.{accepts-open, refused-ended, end_of-refused, item_count-length, item_count-within}
use Rattle.rx_history.proofs.Offers.{items-accepted, items-refused}

-- the last items without their stamps are the last of the items without their stamps
pub newest-unstamped : (n : ℕ) (stamped : List Stamped) → drop (length (unstamped stamped) - n) (unstamped stamped) ≡ unstamped (newest n stamped)
newest-unstamped n stamped =
    ap (λ k. drop (k - n) (unstamped stamped)) (length-map stamped (λ (each : Stamped). each.0))
    ∙ drop-map (λ (each : Stamped). each.0) (length stamped - n) stamped

-- among the items up to one that is young those that are young are the earlier ones, and this one
pub young_joins : (bound : Option ℕ) (now : ℕ) (stamped : List Stamped) (i : ℕ) (each : Stamped) → i < length stamped → each ≡ get_or stamped i each → is_young bound (now - each.1) ≡ true
    → unstamped (young bound now (take (i + 1) stamped)) ≡ unstamped (young bound now (take i stamped)) ++ each.0 ∷ []
young_joins bound now stamped i each within here is_kept =
    let keeps = λ (one : Stamped). is_young bound (now - one.1) in
    let kept = filter keeps (take i stamped) in
    ap unstamped (filter_more keeps stamped i each within
    ∙ ap (λ one. kept ++ cond (keeps one) (one ∷ []) []) (sym here) ∙ ap (λ b. kept ++ cond b (each ∷ []) []) is_kept)
    ∙ map-append (λ (one : Stamped). one.0) kept (each ∷ [])

-- up to one that is not they are the earlier ones
pub young_passes : (bound : Option ℕ) (now : ℕ) (stamped : List Stamped) (i : ℕ) (each : Stamped) → i < length stamped → each ≡ get_or stamped i each → is_young bound (now - each.1) ≡ false
    → unstamped (young bound now (take (i + 1) stamped)) ≡ unstamped (young bound now (take i stamped))
young_passes bound now stamped i each within here left_out =
    let keeps = λ (one : Stamped). is_young bound (now - one.1) in
    let kept = filter keeps (take i stamped) in
    ap unstamped (filter_more keeps stamped i each within
    ∙ ap (λ one. kept ++ cond (keeps one) (one ∷ []) []) (sym here) ∙ ap (λ b. kept ++ cond b (each ∷ []) []) left_out ∙ append-nil kept)

-- an Emit that is refused leaves the past
pub remembers_refused : (rules : Rules) (past : Past) (H : History) (port : ℕ) (note : Note) (at : ℕ) → accepts rules H note ≡ false
    → Remembers rules past H → Remembers rules past (H ▹ (port, Emit note at))
remembers_refused rules past H port note at refused was =
    let same = end_of-refused rules H port note at refused in
    record {
      has_end = was.has_end ∙ sym same;
      has_moment = grind (arith, common_steps);
      has_items = was.has_items ∙ sym (items-refused rules H port note at refused);
    }

-- a Join that is refused leaves the past
pub remembers_not_joined : (rules : Rules) (past : Past) (H : History) (port : ℕ) (policy : Choice) (first at : ℕ) → may_join rules H ≡ false
    → Remembers rules past H → Remembers rules past (H ▹ (port, Join policy first at))
remembers_not_joined rules past H port policy first at refused was = record {
  has_end = was.has_end;
  has_moment = grind (arith, common_steps);
  has_items = was.has_items;
}

-- so does a request
pub remembers_requested : (rules : Rules) (past : Past) (H : History) (port who n : ℕ) → Remembers rules past H → Remembers rules past (H ▹ (port, Request who n))
remembers_requested rules past H port who n was = record {
  has_end = was.has_end;
  has_moment = grind (arith, common_steps);
  has_items = was.has_items;
}

-- and an observer that leaves
pub remembers_left : (rules : Rules) (past : Past) (H : History) (port who : ℕ) → Remembers rules past H → Remembers rules past (H ▹ (port, Dispose who))
remembers_left rules past H port who was = record {
  has_end = was.has_end;
  has_moment = grind (arith, common_steps);
  has_items = was.has_items;
}

-- after an accepted Join ages are told at the moment at which its opening is
pub age_moment-joined : (rules : Rules) (H : History) (port : ℕ) (policy : Choice) (first at : ℕ) → may_join rules H ≡ true
    → age_moment rules (H ▹ (port, Join policy first at)) (stamp rules (H ▹ (port, Join policy first at))) ≡ age_moment rules H (max (stamp rules H) at)
age_moment-joined rules H port policy first at admitted = grind (arith, common_steps)

-- before its end a past takes a note where there is room for it
pub open_accepts : (rules : Rules) (past : Past) (H : History) (limits : Limits) (note : Note) → rules.limits ≡ limits → Remembers rules past H → is_some past.end ≡ false
    → accepts rules H note ≡ has_room limits (length past.items.items) note
open_accepts rules past H limits note same was open_now =
    let count : item_count rules H ≡ length past.items.items = item_count-length rules H ∙ ap length (sym was.has_items) in
    ap (λ end. not (is_some end) && has_room rules.limits (item_count rules H) note) (sym was.has_end)
    ∙ ap (λ b. not b && has_room rules.limits (item_count rules H) note) open_now
    ∙ ap (λ n. has_room rules.limits n note) count
    ∙ ap (λ l. has_room l (length past.items.items) note) same

-- behind it none
pub ended_refuses : (rules : Rules) (past : Past) (H : History) (note : Note) → Remembers rules past H → is_some past.end ≡ true → accepts rules H note ≡ false
ended_refuses rules past H note was ended = refused-ended rules H note (ap is_some (sym was.has_end) ∙ ended)

same_either : (b : Bool) (x : ℕ) → cond b x x ≡ x
same_either true x = refl
same_either false x = refl

-- after an accepted note ages are told at its stamp, whether it ended the subject or not
age_moment-emitted : (rules : Rules) (H : History) (port : ℕ) (note : Note) (at : ℕ) → end_of H ≡ None
    → age_moment rules (H ▹ (port, Emit note at)) (stamp rules (H ▹ (port, Emit note at))) ≡ stamp rules (H ▹ (port, Emit note at))
age_moment-emitted rules H port note at unended =
    let later = H ▹ (port, Emit note at) in
    ap (λ end. cond (is_ended later) (stamp rules (cond (is_some end) (up_to_end H) later)) (stamp rules later)) unended
    ∙ same_either (is_ended later) (stamp rules later)

-- how many items there are, within the limit, is how many were accepted
pub remembers_count : (rules : Rules) (past : Past) (H : History) (limits : Limits) → rules.limits ≡ limits → Remembers rules past H
    → min (length past.items.items) limits.items ≡ item_count rules H
remembers_count rules past H limits same was =
    let count : item_count rules H ≡ length past.items.items = item_count-length rules H ∙ ap length (sym was.has_items) in
    let within : item_count rules H ≤ limits.items = subst (λ (l : Limits). item_count rules H ≤ l.items) same (item_count-within rules H) in
    grind (arith, common_steps)

-- what it takes comes last
pub remembers_accepted : (rules : Rules) (old new : Past) (H : History) (port place moment : ℕ) (note : Note) (at : ℕ) → accepts rules H note ≡ true → place ≡ item_count rules H
    → new.end ≡ terminal_in note → new.moment ≡ moment → moment ≡ max old.moment at
    → new.items.items ≡ old.items.items ++ map (λ (item : Item). (item, moment)) (item_in port place note)
    → Remembers rules old H → Remembers rules new (H ▹ (port, Emit note at))
remembers_accepted rules old new H port place moment note at accepted count ends keeps rises puts was =
    let unended = accepts-open rules H note accepted in
    let later = H ▹ (port, Emit note at) in
    let stamped : stamp rules later ≡ max (stamp rules H) at = ap (λ b. cond b (max (stamp rules H) at) (stamp rules H)) accepted in
    let before : old.moment ≡ stamp rules H = was.has_moment ∙ ap (λ (end : Option Note). cond (is_some end) (stamp rules (up_to_end H)) (stamp rules H)) unended in
    let now : moment ≡ max (stamp rules H) at = rises ∙ ap (λ m. max m at) before in
    record {
      has_end = ends ∙ ap (λ end. option_or end (terminal_in note)) (sym unended);
      has_moment = keeps ∙ now ∙ sym stamped ∙ sym (age_moment-emitted rules H port note at unended);
      has_items =
          puts
          ∙ ap (λ xs. xs ++ map (λ (item : Item). (item, moment)) (item_in port place note)) was.has_items
          ∙ ap (λ n. items rules H ++ map (λ (item : Item). (item, moment)) (item_in port n note)) count
          ∙ ap (λ m. items rules H ++ map (λ (item : Item). (item, m)) (item_in port (item_count rules H) note)) now
          ∙ sym (items-accepted rules H port note at accepted);
    }

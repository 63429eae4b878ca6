-- The end of an observer that is held is as its subject's, or an overflow.
use Rattle.std.proofs.Common.{◌≡◌, ℕ, ◌==◌, max, Bool, true, false, cond, ◌&&◌, List, [], ◌∷◌, ◌++◌, map, Option, None, Some, is_some, ◌⊎◌, inl, inr, refl, sym, ap, subst, ◌∙◌}
use Rattle.std.specs.Option.{option_map, option_or}
use Rattle.std.proofs.lemmas.Bool.{cases_Bool, false≢true}
use Rattle.rx_note.specs.declared.item.Item.{Item}
use Rattle.rx_note.specs.declared.note.Note.{Note}
use Rattle.rx_note.specs.declared.event.Event.TheVariants.{Emit, Join, Request, Dispose}
use Rattle.rx_note.specs.declared.rules.Rules.{Rules}
use Rattle.rx_note.specs.declared.strategy.Strategy.{Strategy}
use Rattle.rx_note.specs.declared.strategy.Strategy.TheVariants.{Buffer, Drop, Latest, Bounded}
use Rattle.rx_note.specs.Signals.{Requested, Offered, Signals, Start, ◌▸◌, policy_of, terminal_of, may_overflow, overflow, are_too_many, overflows}
use Rattle.rx_note.proofs.Sending.{sent-end}
use Rattle.rx_history.specs.Histories.{History, NoEvents, ◌▹◌, terminal_in, end_of, item_count, accepts, joins, is_held, may_join, stamp, opening_by, followed_by, ended_by, opened, last_item, offers_by, signalled, may_request, signals}
use Rattle.rx_history.proofs.Accepting.{accepts-open, end_of-refused}
use Rattle.rx_history.proofs.Cases.{chosen, mapped}
use Rattle.rx_history.proofs.Entries.{is_held-not_joined, held_before, signals-emitted, signals-refused}
use Rattle.rx_history.proofs.Feeding.{followed-behind, followed-overflow, followed-fits}

-- WHAT OVERFLOWS

-- only Bounded does
bounded_alone : (g : Strategy) (ahead : ℕ) → are_too_many g ahead ≡ true → may_overflow g ≡ true
bounded_alone Buffer ahead over = over
bounded_alone (Drop room) ahead over = over
bounded_alone (Latest room) ahead over = over
bounded_alone (Bounded room) ahead over = refl

pub overflows-bounded : (s : Signals) → overflows s ≡ true → may_overflow (policy_of s).strategy ≡ true
overflows-bounded s over = bounded_alone (policy_of s).strategy _ over

no_other : (g : Strategy) (ahead : ℕ) → may_overflow g ≡ false → are_too_many g ahead ≡ false
no_other Buffer ahead other = refl
no_other (Drop room) ahead other = refl
no_other (Latest room) ahead other = refl
no_other (Bounded room) ahead other = absurd (false≢true (sym other))

pub overflows-never : (s : Signals) → may_overflow (policy_of s).strategy ≡ false → overflows s ≡ false
overflows-never s other = no_other (policy_of s).strategy _ other

-- THE END OF SIGNALS

-- signals end by this end, or by an overflow, which only Bounded has
abbrev pub EndsBy : Option Note → Signals → Type 0
EndsBy end s = (terminal_of s ≡ end) ⊎ ((terminal_of s ≡ Some overflow) × (may_overflow (policy_of s).strategy ≡ true))

-- items that are offered, and an end behind them
open-ends : (s : Signals) (items : List Item) (end : Option Note) → terminal_of s ≡ None → EndsBy end (followed_by s (map Offered items ++ ended_by end))
open-ends s [] None open_now = inl open_now
open-ends s [] (Some terminal) open_now = inl (ap terminal_of (sent-end s terminal open_now))
open-ends s (item ∷ items) end open_now =
    elim (cases_Bool (overflows s)) [
      | inl over ↦ subst (EndsBy end) (sym (followed-overflow s item items end open_now over)) (inr (refl, overflows-bounded s over))
      | inr fits ↦ subst (EndsBy end) (sym (followed-fits s item items end open_now fits)) (open-ends (s ▸ Offered item) items end open_now)
    ]

followed-ends : (s : Signals) (items : List Item) (end : Option Note) → EndsBy None s → EndsBy end (followed_by s (map Offered items ++ ended_by end))
followed-ends s items end (inl open_now) = open-ends s items end open_now
followed-ends s items end (inr over) = subst (EndsBy end) (sym (followed-behind s overflow items end over.0)) (inr over)

requested-ends : (b : Bool) (s : Signals) (n : ℕ) (end : Option Note) → EndsBy end s → EndsBy end (cond b (s ▸ Requested n) s)
requested-ends true s n end was = was
requested-ends false s n end was = was

-- OF AN OBSERVER THAT IS HELD

emitted-ends : (rules : Rules) (H : History) (port : ℕ) (note : Note) (at o : ℕ) (s : Signals) (b : Bool) → accepts rules H note ≡ b → is_held rules H o ≡ true
    → ((t : Signals) → signals rules H o ≡ Some t → EndsBy (end_of H) t)
    → signals rules (H ▹ (port, Emit note at)) o ≡ Some s → EndsBy (end_of (H ▹ (port, Emit note at))) s
emitted-ends rules H port note at o s true accepted held before is =
    let unended = accepts-open rules H note accepted in
    let found = mapped (λ (t : Signals). followed_by t (signalled rules H port note)) (signals rules H o) s (sym (signals-emitted rules H port note at o accepted held) ∙ is) in
    let was : EndsBy None found.0 = subst (λ end. EndsBy end found.0) unended (before found.0 found.1) in
    let now : EndsBy (terminal_in note) s =
    subst (EndsBy (terminal_in note)) found.2 (followed-ends found.0 (offers_by rules.kind (last_item rules H) port (item_count rules H) note) (terminal_in note) was) in
    subst (λ end. EndsBy (option_or end (terminal_in note)) s) (sym unended) now
emitted-ends rules H port note at o s false refused held before is =
    subst (λ end. EndsBy end s) (sym (end_of-refused rules H port note at refused)) (before s (sym (signals-refused rules H port note at o refused) ∙ is))

-- its signals end as the subject does, or by an overflow
pub signals-ends : (rules : Rules) (H : History) (o : ℕ) (s : Signals) → signals rules H o ≡ Some s → is_held rules H o ≡ true → EndsBy (end_of H) s
signals-ends rules NoEvents o s is held = cc
signals-ends rules (H ▹ (port, Emit note at)) o s is held =
    emitted-ends rules H port note at o s (accepts rules H note) refl held (λ t was. signals-ends rules H o t was held) is
signals-ends rules (H ▹ (port, Join policy first at)) o s is held =
    elim (chosen ((joins rules H == o) && may_join rules H) (Some (opened rules H policy first at)) (signals rules H o) (Some s) is) [
      | inl joined ↦
          let same : opened rules H policy first at ≡ s = let e = joined.1 in cc in
          subst (EndsBy (end_of H)) same
          (open-ends (Start policy ▸ Requested first) (opening_by rules.kind rules H (max (stamp rules H) at)) (end_of H) refl)
      | inr same ↦ signals-ends rules H o s same.1 (sym (is_held-not_joined rules H port policy first at o same.0) ∙ held)
    ]
signals-ends rules (H ▹ (port, Request who n)) o s is held =
    elim (chosen ((who == o) && is_held rules H o) (option_map (λ t. cond (may_request n t) (t ▸ Requested n) t) (signals rules H o)) (signals rules H o) (Some s) is) [
      | inl asked ↦
          let found = mapped (λ (t : Signals). cond (may_request n t) (t ▸ Requested n) t) (signals rules H o) s asked.1 in
          subst (EndsBy (end_of H)) found.2 (requested-ends (may_request n found.0) found.0 n (end_of H) (signals-ends rules H o found.0 found.1 held))
      | inr same ↦ signals-ends rules H o s same.1 held
    ]
signals-ends rules (H ▹ (port, Dispose who)) o s is held = signals-ends rules H o s is (held_before rules H port who o held)

-- WHAT FOLLOWS

not_both : (terminal : Note) → None ≡ Some terminal → ⊥
not_both terminal e = cc

subject_open : (end : Option Note) (s : Signals) → EndsBy end s → terminal_of s ≡ None → end ≡ None
subject_open end s (inl same) open_now = sym same ∙ open_now
subject_open end s (inr over) open_now = absurd (not_both overflow (sym open_now ∙ over.0))

-- where it has no end yet, the subject has none
pub unended : (rules : Rules) (H : History) (o : ℕ) (s : Signals) → signals rules H o ≡ Some s → is_held rules H o ≡ true → terminal_of s ≡ None → end_of H ≡ None
unended rules H o s is held open_now = subject_open (end_of H) s (signals-ends rules H o s is held) open_now

same_end : (end : Option Note) (s : Signals) → EndsBy end s → may_overflow (policy_of s).strategy ≡ false → terminal_of s ≡ end
same_end end s (inl same) other = same
same_end end s (inr over) other = absurd (false≢true (sym other ∙ over.1))

-- but by Bounded it ends as the subject
pub ends_as_subject : (rules : Rules) (H : History) (o : ℕ) (s : Signals) → signals rules H o ≡ Some s → is_held rules H o ≡ true
    → may_overflow (policy_of s).strategy ≡ false → terminal_of s ≡ end_of H
ends_as_subject rules H o s is held other = same_end (end_of H) s (signals-ends rules H o s is held) other

has_end : (end : Option Note) (s : Signals) → EndsBy end s → is_some end ≡ true → is_some (terminal_of s) ≡ true
has_end end s (inl same) ended = ap is_some same ∙ ended
has_end end s (inr over) ended = ap is_some over.0

-- and once the subject has ended, it has an end
pub ends_with_subject : (rules : Rules) (H : History) (o : ℕ) (s : Signals) → signals rules H o ≡ Some s → is_held rules H o ≡ true
    → is_some (end_of H) ≡ true → is_some (terminal_of s) ≡ true
ends_with_subject rules H o s is held ended = has_end (end_of H) s (signals-ends rules H o s is held) ended

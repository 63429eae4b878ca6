-- Where a walk agrees with a history, it does with one entry more.
use Rattle.std.proofs.Common.{◌≡◌, ℕ, ◌==◌, max, Bool, true, false, cond, ◌&&◌, List, ◌++◌, map, Option, Some, Result, Ok, Err, OnOk, refl, sym, ap, subst, ◌∙◌, arith}
use Rattle.std.specs.Option.{option_map}
use Rattle.std.specs.List.{list_any}
use Rattle.std.proofs.lemmas.Bool.Decides.{nat_tests}
use Rattle.rx_note.specs.declared.note.Note.{Note}
use Rattle.rx_note.specs.declared.item.Item.{Item}
use Rattle.rx_note.specs.declared.event.Event.TheVariants.{Emit, Join, Request, Dispose}
use Rattle.rx_note.specs.declared.rules.Rules.{Rules}
use Rattle.rx_note.specs.Choices.{Choice}
use Rattle.rx_note.specs.Signals.{Requested, Offered, Signals, Start, ◌▸◌}
use Rattle.rx_history.specs.Histories.{History, ◌▹◌, Roster, with_one_more, without_one, admits, roster_of, joins, is_held, end_of, item_count, accepts, may_join, stamp, items, last_item, age_moment, opening_by, offers_by, terminal_in, followed_by, ended_by, may_request, signals}
use Rattle.rx_history.specs.Pasts.{Remembers}
use Rattle.rx_history.specs.Traces.{Traces, MayTrace}
use Rattle.rx_history.specs.Walks.{Passes}
use Rattle.rx_history.specs.declared.past.Past.{Past}
use Rattle.rx_history.specs.declared.trace.Trace.{Trace}
use Rattle.rx_history.specs.declared.walk.Walk.{Walk}
use Rattle.rx_history.proofs.Remembering.{remembers_refused, remembers_not_joined, remembers_requested, remembers_left, age_moment-joined}
use Rattle.rx_history.proofs.Entries.{and_false, signals-emitted, signals-passed_by, signals-refused, signals-not_joined, signals-joined, signals-not_requested, signals-requested}

-- a trace of some signals is one of the same signals
traces_same : (trace : Option Trace) (a b : Option Signals) → b ≡ a → MayTrace trace a → MayTrace trace b
traces_same trace a b e traces = let P : Option Signals → Type 0 = λ x. MayTrace trace x in subst P (sym e) traces

-- whether a past takes a note is as its history says
abbrev pub AcceptsAs : Rules → Past → Note → Bool → Type 0
AcceptsAs rules past note b = (H : History) → Remembers rules past H → accepts rules H note ≡ b

-- an accepted note, to an observer that is held
pub passes_emitted : (rules : Rules) (old new : Walk) (port : ℕ) (note : Note) (at : ℕ) (offers : List Item) → AcceptsAs rules old.past note true
    → list_any (λ k. k == old.who) old.roster.held ≡ true → new.who ≡ old.who → new.roster ≡ old.roster
    → ((H : History) → accepts rules H note ≡ true → Remembers rules old.past H → Remembers rules new.past (H ▹ (port, Emit note at)))
    → ((H : History) → Remembers rules old.past H → offers ≡ offers_by rules.kind (last_item rules H) port (item_count rules H) note)
    → ((s : Option Signals) → MayTrace old.trace s → MayTrace new.trace (option_map (λ t. followed_by t (map Offered offers ++ ended_by (terminal_in note))) s))
    → Passes rules old new (port, Emit note at)
passes_emitted rules old new port note at offers accepting holds who roster remembers offered follows H was =
    let accepted = accepting H was.has_past in
    let held : is_held rules H old.who ≡ true = ap (λ (r : Roster). list_any (λ k. k == old.who) r.held) (sym was.has_roster) ∙ holds in
    let follow : List Item → Option Signals = λ xs. option_map (λ t. followed_by t (map Offered xs ++ ended_by (terminal_in note))) (signals rules H old.who) in
    record {
      has_roster = roster ∙ was.has_roster;
      has_past = remembers H accepted was.has_past;
      has_trace =
          traces_same new.trace (follow offers) (signals rules (H ▹ (port, Emit note at)) new.who)
          (ap (signals rules (H ▹ (port, Emit note at))) who
          ∙ signals-emitted rules H port note at old.who accepted held
          ∙ ap follow (sym (offered H was.has_past)))
          (follows (signals rules H old.who) was.has_trace);
    }

-- and to one that is not
pub passes_passed_by : (rules : Rules) (old new : Walk) (port : ℕ) (note : Note) (at : ℕ) → AcceptsAs rules old.past note true
    → list_any (λ k. k == old.who) old.roster.held ≡ false → new.who ≡ old.who → new.roster ≡ old.roster → new.trace ≡ old.trace
    → ((H : History) → accepts rules H note ≡ true → Remembers rules old.past H → Remembers rules new.past (H ▹ (port, Emit note at)))
    → Passes rules old new (port, Emit note at)
passes_passed_by rules old new port note at accepting holds who roster trace remembers H was =
    let accepted = accepting H was.has_past in
    let left : is_held rules H old.who ≡ false = ap (λ (r : Roster). list_any (λ k. k == old.who) r.held) (sym was.has_roster) ∙ holds in
    let P : Option Trace → Type 0 = λ t. MayTrace t (signals rules (H ▹ (port, Emit note at)) new.who) in
    record {
      has_roster = roster ∙ was.has_roster;
      has_past = remembers H accepted was.has_past;
      has_trace =
          subst P (sym trace)
          (traces_same old.trace (signals rules H old.who) (signals rules (H ▹ (port, Emit note at)) new.who)
          (ap (signals rules (H ▹ (port, Emit note at))) who ∙ signals-passed_by rules H port note at old.who left)
          was.has_trace);
    }

-- one that is refused
pub passes_refused : (rules : Rules) (walk : Walk) (port : ℕ) (note : Note) (at : ℕ) → AcceptsAs rules walk.past note false → Passes rules walk walk (port, Emit note at)
passes_refused rules walk port note at refusing H was =
    let refused = refusing H was.has_past in
    record {
      has_roster = was.has_roster;
      has_past = remembers_refused rules walk.past H port note at refused was.has_past;
      has_trace =
          traces_same walk.trace (signals rules H walk.who) (signals rules (H ▹ (port, Emit note at)) walk.who)
          (signals-refused rules H port note at walk.who refused) was.has_trace;
    }

-- what a Join makes of the observers
pub roster_joined : (rules : Rules) (H : History) (port : ℕ) (policy : Choice) (first at : ℕ) → may_join rules H ≡ true
    → roster_of rules.limits (H ▹ (port, Join policy first at)) ≡ with_one_more (roster_of rules.limits H)
roster_joined rules H port policy first at admitted = ap (λ b. cond b (with_one_more (roster_of rules.limits H)) (roster_of rules.limits H)) admitted

pub roster_not_joined : (rules : Rules) (H : History) (port : ℕ) (policy : Choice) (first at : ℕ) → may_join rules H ≡ false
    → roster_of rules.limits (H ▹ (port, Join policy first at)) ≡ roster_of rules.limits H
roster_not_joined rules H port policy first at refused = ap (λ b. cond b (with_one_more (roster_of rules.limits H)) (roster_of rules.limits H)) refused

-- whether the next Join is accepted is told by the observers that are held
admits-may_join : (rules : Rules) (walk : Walk) (H : History) (b : Bool) → walk.roster ≡ roster_of rules.limits H → admits rules.limits walk.roster ≡ b → may_join rules H ≡ b
admits-may_join rules walk H b e is = ap (admits rules.limits) (sym e) ∙ is

-- a Join that is not accepted
pub passes_not_joined : (rules : Rules) (walk : Walk) (port : ℕ) (policy : Choice) (first at : ℕ) → admits rules.limits walk.roster ≡ false → Passes rules walk walk (port, Join policy first at)
passes_not_joined rules walk port policy first at denied H was =
    let refused : may_join rules H ≡ false = admits-may_join rules walk H false was.has_roster denied in
    record {
      has_roster = was.has_roster ∙ sym (roster_not_joined rules H port policy first at refused);
      has_past = remembers_not_joined rules walk.past H port policy first at refused was.has_past;
      has_trace =
          traces_same walk.trace (signals rules H walk.who) (signals rules (H ▹ (port, Join policy first at)) walk.who)
          (signals-not_joined rules H port policy first at walk.who (ap (λ b. (joins rules H == walk.who) && b) refused ∙ and_false (joins rules H == walk.who)))
          was.has_trace;
    }

-- what an accepted Join makes of the past
abbrev RemembersJoin : Rules → Past → Past → ℕ → ℕ → Choice → ℕ → Type 0
RemembersJoin rules old new port at policy first = (H : History) → may_join rules H ≡ true → Remembers rules old H → Remembers rules new (H ▹ (port, Join policy first at))

-- the accepted Join of another
pub passes_other_joined : (rules : Rules) (old new : Walk) (port : ℕ) (policy : Choice) (first at : ℕ) → admits rules.limits old.roster ≡ true → (old.roster.joins == old.who) ≡ false
    → new.who ≡ old.who → new.roster ≡ with_one_more old.roster → new.trace ≡ old.trace → RemembersJoin rules old.past new.past port at policy first
    → Passes rules old new (port, Join policy first at)
passes_other_joined rules old new port policy first at accepted other who joined trace remembers H was =
    let admitted : may_join rules H ≡ true = admits-may_join rules old H true was.has_roster accepted in
    let not_it : (joins rules H == old.who) ≡ false = ap (λ (r : Roster). r.joins == old.who) (sym was.has_roster) ∙ other in
    let P : Option Trace → Type 0 = λ t. MayTrace t (signals rules (H ▹ (port, Join policy first at)) new.who) in
    record {
      has_roster = joined ∙ ap with_one_more was.has_roster ∙ sym (roster_joined rules H port policy first at admitted);
      has_past = remembers H admitted was.has_past;
      has_trace =
          subst P (sym trace)
          (traces_same old.trace (signals rules H old.who) (signals rules (H ▹ (port, Join policy first at)) new.who)
          (ap (signals rules (H ▹ (port, Join policy first at))) who
          ∙ signals-not_joined rules H port policy first at old.who (ap (λ b. b && may_join rules H) not_it))
          was.has_trace);
    }

-- its own accepted Join
pub passes_joined : (rules : Rules) (old new : Walk) (trace : Trace) (port : ℕ) (policy : Choice) (first at : ℕ) (offers : List Item) (end : Option Note)
    → admits rules.limits old.roster ≡ true → (old.roster.joins == old.who) ≡ true
    → new.who ≡ old.who → new.roster ≡ with_one_more old.roster → new.trace ≡ Some trace → RemembersJoin rules old.past new.past port at policy first
    → ((H : History) (z : ℕ) → new.past.end ≡ end_of H → new.past.items.items ≡ items rules H → new.past.moment ≡ age_moment rules H z → offers ≡ opening_by rules.kind rules H z)
    → end ≡ new.past.end → Traces trace (followed_by (Start policy ▸ Requested first) (map Offered offers ++ ended_by end))
    → Passes rules old new (port, Join policy first at)
passes_joined rules old new trace port policy first at offers end accepted own who joined made remembers opens ends traces H was =
    let admitted : may_join rules H ≡ true = admits-may_join rules old H true was.has_roster accepted in
    let it : (joins rules H == old.who) ≡ true = ap (λ (r : Roster). r.joins == old.who) (sym was.has_roster) ∙ own in
    let both : ((joins rules H == old.who) && may_join rules H) ≡ true = ap (λ b. b && may_join rules H) it ∙ admitted in
    let past = remembers H admitted was.has_past in
    let opening : offers ≡ opening_by rules.kind rules H (max (stamp rules H) at) =
    opens H (max (stamp rules H) at) past.has_end past.has_items (past.has_moment ∙ age_moment-joined rules H port policy first at admitted) in
    let start : List Item → Option Note → Option Signals = λ xs e. Some (followed_by (Start policy ▸ Requested first) (map Offered xs ++ ended_by e)) in
    let P : Option Trace → Type 0 = λ t. MayTrace t (signals rules (H ▹ (port, Join policy first at)) new.who) in
    record {
      has_roster = joined ∙ ap with_one_more was.has_roster ∙ sym (roster_joined rules H port policy first at admitted);
      has_past = past;
      has_trace =
          subst P (sym made)
          (traces_same (Some trace) (start offers end) (signals rules (H ▹ (port, Join policy first at)) new.who)
          (ap (signals rules (H ▹ (port, Join policy first at))) who
          ∙ signals-joined rules H port policy first at old.who both
          ∙ ap (λ xs. start xs (end_of H)) (sym opening)
          ∙ ap (start offers) (sym (ends ∙ past.has_end)))
          traces);
    }

same_observer : (b : Bool) (who o : ℕ) (held : List ℕ) → (who == o) ≡ b → (b && list_any (λ k. k == who) held) ≡ (b && list_any (λ k. k == o) held)
same_observer true who o held is = let same : who ≡ o = grind (arith, nat_tests) in ap (λ n. list_any (λ k. k == n) held) same
same_observer false who o held is = refl

-- its own request, where it is held
pub passes_requested : (rules : Rules) (old new : Walk) (port who n : ℕ) → (who == old.who) ≡ true → list_any (λ k. k == who) old.roster.held ≡ true
    → new.who ≡ old.who → new.roster ≡ old.roster → new.past ≡ old.past
    → ((s : Option Signals) → MayTrace old.trace s → MayTrace new.trace (option_map (λ t. cond (may_request n t) (t ▸ Requested n) t) s))
    → Passes rules old new (port, Request who n)
passes_requested rules old new port who n own holds same_who roster past asks H was =
    let P : Past → Type 0 = λ p. Remembers rules p (H ▹ (port, Request who n)) in
    let same : who ≡ old.who = grind (arith, nat_tests) in
    let held : is_held rules H old.who ≡ true =
    ap (λ (r : Roster). list_any (λ k. k == old.who) r.held) (sym was.has_roster) ∙ ap (λ o. list_any (λ k. k == o) old.roster.held) (sym same) ∙ holds in
    record {
      has_roster = roster ∙ was.has_roster;
      has_past = subst P (sym past) (remembers_requested rules old.past H port who n was.has_past);
      has_trace =
          traces_same new.trace (option_map (λ t. cond (may_request n t) (t ▸ Requested n) t) (signals rules H old.who)) (signals rules (H ▹ (port, Request who n)) new.who)
          (ap (signals rules (H ▹ (port, Request who n))) same_who
          ∙ signals-requested rules H port who n old.who (ap (λ b. b && is_held rules H old.who) own ∙ held))
          (asks (signals rules H old.who) was.has_trace);
    }

-- the request of another, or where it is not held
pub passes_not_requested : (rules : Rules) (walk : Walk) (port who n : ℕ) → ((who == walk.who) && list_any (λ k. k == who) walk.roster.held) ≡ false
    → Passes rules walk walk (port, Request who n)
passes_not_requested rules walk port who n not_it H was =
    let other : ((who == walk.who) && is_held rules H walk.who) ≡ false =
    ap (λ (r : Roster). (who == walk.who) && list_any (λ k. k == walk.who) r.held) (sym was.has_roster)
    ∙ sym (same_observer (who == walk.who) who walk.who walk.roster.held refl)
    ∙ not_it in
    record {
      has_roster = was.has_roster;
      has_past = remembers_requested rules walk.past H port who n was.has_past;
      has_trace =
          traces_same walk.trace (signals rules H walk.who) (signals rules (H ▹ (port, Request who n)) walk.who)
          (signals-not_requested rules H port who n walk.who other) was.has_trace;
    }

-- an observer leaves
pub passes_left : (rules : Rules) (old new : Walk) (port who : ℕ) → new.who ≡ old.who → new.roster ≡ without_one who old.roster → new.past ≡ old.past → new.trace ≡ old.trace
    → Passes rules old new (port, Dispose who)
passes_left rules old new port who same_who roster past trace H was =
    let P : Past → Type 0 = λ p. Remembers rules p (H ▹ (port, Dispose who)) in
    let Q : Option Trace → Type 0 = λ t. MayTrace t (signals rules (H ▹ (port, Dispose who)) new.who) in
    record {
      has_roster = roster ∙ ap (without_one who) was.has_roster;
      has_past = subst P (sym past) (remembers_left rules old.past H port who was.has_past);
      has_trace =
          subst Q (sym trace) (traces_same old.trace (signals rules H old.who) (signals rules (H ▹ (port, Dispose who)) new.who) (ap (signals rules H) same_who) was.has_trace);
    }

-- what holds on success, as far as more follows from it
pub on_ok : {T E : Type 0} {A B : Type 0} (r : Result T E) → (A → B) → OnOk r A → OnOk r B
on_ok (Ok x) f a = f a
on_ok (Err e) f a = tt

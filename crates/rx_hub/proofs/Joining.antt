-- A step that accepts an observer.
use Rattle.std.proofs.Common.{◌≡◌, ℕ, ◌+◌, Bool, true, false, cond, ◌&&◌, ◌==◌, not, nat_lt, List, [], ◌∷◌, ◌++◌, length, drop, Option, None, Some, Ok, Err, refl, sym, ap, subst, ◌∙◌, arith, append-nil}
use Rattle.std.proofs.lemmas.List.{length-map, map-append}
use Rattle.std.proofs.lemmas.Grind.{flat_map-append}
use Rattle.std.proofs.lemmas.Bool.Decides.{nat_tests}
use Rattle.std.specs.Option.{option_map_or}
use Rattle.std.specs.List.{flat_map}
use Rattle.rx_note.specs.declared.given.Given.{Given}
use Rattle.rx_note.specs.declared.note.Note.{Note}
use Rattle.rx_note.specs.declared.policy.Policy.{Policy}
use Rattle.rx_note.specs.declared.rules.Rules.{Rules}
use Rattle.rx_note.specs.declared.event.Event.TheVariants.{Join}
use Rattle.rx_note.specs.declared.answer.Answer.TheVariants.{Joined}
use Rattle.rx_note.specs.declared.refusal.Refusal.TheVariants as refused
use Rattle.rx_note.specs.Signals.{Signal, Requested, Signals, Start, ◌▸◌, given}
use Rattle.rx_history.specs.Histories.{History, ◌▹◌, Roster, joins, held, may_join, with_one_more, roster_of, followed_by, opened, signals, addressed}
use Rattle.rx_history.proofs.Numbers.{AllDiffer, held_rises, differ_above, signals_unmade}
use Rattle.rx_lane.specs.Lanes.{LaneState}
use Rattle.rx_lane.specs.Lanes as lanes
use Rattle.rx_subject.specs.Subjects.{SubjectState}
use Rattle.rx_subject.specs.Subjects as subjects
use Rattle.rx_hub.specs.Subscriptions.{Observer, AllStand, StandsAt, Begins, OpensBy}
use Rattle.rx_hub.specs.Hubs.{HubState, StandsFor, Steps, Takes}
use Rattle.rx_hub.proofs.Tables.{gains, given_by, AllStand-same, AllStand-push, all_gains-differ}

-- what the table has of the joiner, and of the others
joined_is : (one admitted : Bool) (made before : Option Signals) → one ≡ true → admitted ≡ true → cond (one && admitted) made before ≡ made
joined_is true true made before e f = refl
joined_is true false made before e f = cc
joined_is false true made before e f = cc
joined_is false false made before e f = cc

other_is : (one admitted : Bool) (made before : Option Signals) → one ≡ false → cond (one && admitted) made before ≡ before
other_is true admitted made before e = cc
other_is false admitted made before e = refl

pub turned : (o who : ℕ) → (o == who) ≡ false → (who == o) ≡ false
turned o who differ = grind (arith, nat_tests)

pub both_true : (b c : Bool) → b ≡ true → c ≡ true → (b && c) ≡ true
both_true true true e f = refl
both_true true false e f = cc
both_true false c e f = cc

-- the subject goes on from every history by a Join that is accepted
abbrev pub TakesJoin : SubjectState → SubjectState → ℕ → Policy → ℕ → ℕ → Type 0
TakesJoin old new port policy first at =
    (rules : Rules) (H : History) → may_join rules H ≡ true → subjects.StandsFor old rules H → subjects.StandsFor new rules (H ▹ (port, Join policy first at))

-- an observer is accepted
pub join_accepted : (hub : HubState) (subject : SubjectState) (lane : LaneState) (opening : List Signal) (notes : List Note) (before : List Given) (H : History) (port : ℕ) (policy : Policy) (first at : ℕ)
    → nat_lt (length hub.observers) hub.rules.limits.observers ≡ true → nat_lt hub.joined hub.rules.limits.joins ≡ true
    → TakesJoin hub.subject subject port policy first at → OpensBy hub.subject at opening → Begins lane policy first opening notes → StandsFor hub H
    → Steps hub
    (record hub { subject = subject; joined = hub.joined + 1; observers = hub.observers ++ record { who = hub.joined; lane = lane } ∷ [] })
    before (before ++ addressed hub.joined notes) (Ok (Joined hub.joined)) H (port, Join policy first at)
join_accepted hub subject lane opening notes before H port policy first at free left takes opens begins stands =
    let rules = hub.rules in
    let who = joins rules H in
    let table : ℕ → Option Signals = signals rules H in
    let later : ℕ → Option Signals = signals rules (H ▹ (port, Join policy first at)) in
    let made : Signals = opened rules H policy first at in
    let count : length (held rules H) ≡ length hub.observers = sym (ap length stands.held_are) ∙ length-map hub.observers (λ (o : Observer). o.who) in
    let has_place : nat_lt (length (held rules H)) rules.limits.observers ≡ true = ap (λ n. nat_lt n rules.limits.observers) count ∙ free in
    let has_left : nat_lt who rules.limits.joins ≡ true = ap (λ n. nat_lt n rules.limits.joins) (sym stands.joins_are) ∙ left in
    let may : may_join rules H ≡ true = both_true _ _ has_place has_left in
    let roster : roster_of rules.limits (H ▹ (port, Join policy first at)) ≡ with_one_more (roster_of rules.limits H) =
    ap (λ b. cond b (with_one_more (roster_of rules.limits H)) (roster_of rules.limits H)) may in
    let same : (o : ℕ) → (o == who) ≡ false → later o ≡ table o = λ o differ. other_is (who == o) (may_join rules H) (Some made) (table o) (turned o who differ) in
    let self : (who == who) ≡ true = grind (arith, nat_tests) in
    let mine : later who ≡ Some made = joined_is (who == who) (may_join rules H) (Some made) (table who) self may in
    let differ : AllDiffer who (held rules H) = differ_above 0 (held rules H) who who (held_rises rules.limits H) (omega arith) in
    let start : Signals = Start policy ▸ Requested first in
    let is_made : made ≡ followed_by start opening = ap (followed_by start) (sym (opens rules H stands.subject_stands)) in
    let gave : given made ≡ notes = ap given is_made ∙ begins.gives in
    let nobody : table who ≡ None = signals_unmade rules H who (omega arith) in
    let gained : gains table later who ≡ addressed who notes =
    ap (λ ns. addressed who (drop (length ns) (given_by later who))) (ap (λ t. option_map_or given t []) nobody)
    ∙ ap (addressed who) (ap (λ t. option_map_or given t []) mine ∙ gave) in
    let all_gained : flat_map (gains table later) (held rules H ++ who ∷ []) ≡ addressed who notes =
    flat_map-append (gains table later) (held rules H) (who ∷ [])
    ∙ ap (λ os. os ++ (gains table later who ++ [])) (all_gains-differ table later who (held rules H) differ same)
    ∙ append-nil (gains table later who) ∙ gained in
    let the_others : AllStand later hub.observers =
    AllStand-same table later who hub.observers (subst (λ (ks : List ℕ). AllDiffer who ks) (sym stands.held_are) differ) same stands.lanes_stand in
    let the_joiner : StandsAt lane (later hub.joined) = record {
      these = made;
      are = ap later stands.joins_are ∙ mine;
      stand = subst (λ (s : Signals). lanes.StandsFor lane s) (sym is_made) begins.stands;
    } in
    record {
      answers =
          ap (λ n. Ok (Joined n)) stands.joins_are
          ∙ sym (ap (λ b. cond (not b) (Err refused.Full) (cond (nat_lt who rules.limits.joins) (Ok (Joined who)) (Err refused.Spent))) has_place
          ∙ ap (λ b. cond b (Ok (Joined who)) (Err refused.Spent)) has_left);
      gives =
          ap (λ os. before ++ os)
          (ap (λ n. addressed n notes) stands.joins_are ∙ sym all_gained
          ∙ ap (λ (r : Roster). flat_map (gains table later) r.held) (sym roster));
      goes_on = record {
        subject_stands = takes rules H may stands.subject_stands;
        joins_are = ap (λ n. n + 1) stands.joins_are ∙ sym (ap (λ (r : Roster). r.joins) roster);
        held_are =
            map-append (λ (o : Observer). o.who) hub.observers (record { who = hub.joined; lane = lane } ∷ [])
            ∙ ap (λ ks. ks ++ hub.joined ∷ []) stands.held_are ∙ ap (λ n. held rules H ++ n ∷ []) stands.joins_are
            ∙ sym (ap (λ (r : Roster). r.held) roster);
        lanes_stand = AllStand-push later hub.observers (record { who = hub.joined; lane = lane }) the_others the_joiner;
      };
    }

-- the same, as the code has it
pub join_done : (hub : HubState) (subject : SubjectState) (rules : Rules) (news : List Observer) (lane : LaneState) (opening : List Signal) (notes : List Note) (before middle after : List Given) (port : ℕ) (policy : Policy) (first at : ℕ)
    → nat_lt (length hub.observers) hub.rules.limits.observers ≡ true → nat_lt hub.joined hub.rules.limits.joins ≡ true
    → rules ≡ hub.rules → TakesJoin hub.subject subject port policy first at → OpensBy hub.subject at opening → Begins lane policy first opening notes
    → news ≡ hub.observers ++ record { who = hub.joined; lane = lane } ∷ [] → middle ≡ before → after ≡ middle ++ addressed hub.joined notes
    → Takes hub (record hub { rules = rules; subject = subject; joined = hub.joined + 1; observers = news }) before after (Ok (Joined hub.joined)) (port, Join policy first at)
join_done hub subject rules news lane opening notes before middle after port policy first at free left same_rules takes opens begins more same_outs gave = record {
  rules = same_rules;
  took = λ H stands.
      let Done : Rules → List Observer → List Given → Type 0 =
      λ r os gs. Steps hub (record hub { rules = r; subject = subject; joined = hub.joined + 1; observers = os }) before gs (Ok (Joined hub.joined)) H (port, Join policy first at) in
      let done = join_accepted hub subject lane opening notes before H port policy first at free left takes opens begins stands in
      let ruled = subst (λ (r : Rules). Done r (hub.observers ++ record { who = hub.joined; lane = lane } ∷ []) (before ++ addressed hub.joined notes)) (sym same_rules) done in
      let placed = subst (λ (os : List Observer). Done rules os (before ++ addressed hub.joined notes)) (sym more) ruled in
      subst (λ (gs : List Given). Done rules news gs) (sym (gave ∙ ap (λ os. os ++ addressed hub.joined notes) same_outs)) placed;
}

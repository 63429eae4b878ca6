use Rattle.std.proofs.Common.{◌≡◌, false, None, Some, Option, OnOk, MatchResult, Result, Ok, Err, sym, refl, ap, subst, ◌∙◌}
use Rattle.rx_mailbox.specs.Boxes.{Incoming}
use Rattle.rx_pump.specs.Pumps.{AreSame}
use Rattle.rx_drain.specs.declared.drainer.drain_fault.DrainFault.{DrainFault}
use Rattle.rx_drain.specs.declared.drainer.drain_fault.DrainFault.TheVariants.{InboxGone, SubjectGone}
use Rattle.rx_drain.specs.declared.drainer.drainer_left.DrainerLeft.{DrainerLeft}
use Rattle.rx_drain.specs.Drainers.{DrainerView, Fits, HasGoneOn, IsDrained, IsOfSubject, KeepsDrainer, TakesMore, TakesSome, any_may_wait, view_of}
use Rattle.rx_drain.proofs.Ending.{drained_gone, drained_turn, goes_further, takes_both, takes_one_and}
use Rattle.rx_drain.proofs.drainer.Drainer.turn_by.Given as given
use Rattle.rx_drain.proofs.drainer.Drainer.turn_by.Goals as goal

-- the letters of this turn were handled, and the sinks flushed
drained : (g : given.Over) (c : goal.After-outcome g)
    → IsDrained g.S.Sink.acts (view_of c.handle_rest-rest.new.hands c.handle_rest-rest.result.left c.handle_rest-rest.result.fault)
drained g c =
    let inside = c.self.inside in
    let before = view_of inside.hands inside.left inside.fault in
    let one = view_of c.handle_first.new.hands c.in-Ok.first.left c.in-Ok.first.fault in
    let more = view_of c.handle_more-more.new.hands c.handle_more-more.result.left c.handle_more-more.result.fault in
    let rest = view_of c.handle_rest-rest.new.hands c.handle_rest-rest.result.left c.handle_rest-rest.result.fault in
    let goes = subst (λ (fault : Option DrainFault). HasGoneOn g.S.Sink.acts (view_of inside.hands inside.left fault) one) (sym c.in_default.is) c.in-Ok.ensures.goes in
    drained_turn g.S.Sink.acts before more rest
    (goes_further g.S.Sink.acts before one more goes c.handle_more-more.ensures.goes) c.handle_rest-rest.ensures.pays c.self.invariant.0

pub returns-clause-drained : goal.returns-clause-drained
returns-clause-drained g c = drained g c

on_ok_known : {A E P : Type 0} (result : Result A E) → P → OnOk result P
on_ok_known (Ok value) known = known
on_ok_known (Err error) known = tt

pub returns-in-Some-clause-drained : goal.returns-in-Some-clause-drained
returns-in-Some-clause-drained g c = subst (λ (v : DrainerView _ _). IsDrained g.S.Sink.acts v) c.self.view_is c.self.invariant.0

pub returns-in-Some-clause-kept : goal.returns-in-Some-clause-kept
returns-in-Some-clause-kept g c = record { box = refl; count = refl; ports = refl; keeps = refl }

pub invariant_of-self : goal.invariant_of-self
invariant_of-self g c =
    let inside = c.self.inside in
    let before = view_of inside.hands inside.left inside.fault in
    let same = c.in_default-handle_first.ensures.gone in
    let fits = c.self.invariant.1 in (
      drained_gone g.S.Sink.acts before _ c.in_default.is (ap (λ (hands : DrainerLeft _ _). view_of hands inside.left (Some InboxGone)) same) c.self.invariant.0,
      subst (λ (hands : DrainerLeft _ _). Fits inside.leave inside.left (Some InboxGone) hands) (sym same) (record {
        leave_is = fits.leave_is;
        away_room = fits.away_room;
        ended_room = fits.ended_room;
        open_ports = fits.open_ports;
        ended_ports = λ left fine. cc;
      }),
      ap (λ (hands : DrainerLeft _ _). hands.parts.inbox.ports) same ∙ c.self.invariant.2,
    )

pub returns-in_default-handle_first-clause-drained : goal.returns-in_default-handle_first-clause-drained
returns-in_default-handle_first-clause-drained g c =
    let inside = c.self.inside in
    let before = view_of inside.hands inside.left inside.fault in
    drained_gone g.S.Sink.acts before _ c.in_default.is
    (ap (λ (hands : DrainerLeft _ _). view_of hands inside.left (Some InboxGone)) c.in_default-handle_first.ensures.gone) c.self.invariant.0

pub returns-in_default-handle_first-clause-kept : goal.returns-in_default-handle_first-clause-kept
returns-in_default-handle_first-clause-kept g c =
    let inside = c.self.inside in
    let before = view_of inside.hands inside.left inside.fault in
    let same = c.in_default-handle_first.ensures.gone in
    subst (λ (v : DrainerView _ _). KeepsDrainer v (view_of c.handle_first.new.hands inside.left (Some InboxGone))) c.self.view_is
    (subst (λ (hands : DrainerLeft _ _). KeepsDrainer before (view_of hands inside.left (Some InboxGone))) (sym same) (record { box = refl; count = refl; ports = refl; keeps = refl }))

pub handle_first-requires : goal.handle_first-requires
handle_first-requires g c =
    let fits = c.self.invariant.1 in
    record {
      leave_is = fits.leave_is;
      away_room = fits.away_room;
      ended_room = fits.ended_room;
      open_ports = fits.open_ports;
      ended_ports = λ left fine. fits.ended_ports left c.in_default.is;
    }

-- the letters that this turn took
took : (g : given.Over) (c : goal.After-outcome g) → TakesMore c.self.inside.hands.parts.inbox c.handle_rest-rest.new.hands.parts.inbox
took g c =
    let before = c.self.inside.hands.parts.inbox in
    subst (λ (i : Incoming _). TakesMore before i) (sym c.handle_rest-rest.ensures.inbox)
    (takes_both g.S.Sink.acts before c.handle_first.new.hands.parts.inbox c.handle_more-more.new.hands.parts.inbox c.in-Ok.ensures.inbox c.handle_more-more.ensures.inbox)

pub invariant_of-self-2 : goal.invariant_of-self-2
invariant_of-self-2 g c = (
  drained g c,
  c.handle_rest-rest.ensures.fits,
  ap (λ (i : Incoming _). i.ports) (took g c).1 ∙ c.self.invariant.2,
)

pub returns-clause-fault : goal.returns-clause-fault
returns-clause-fault g c = c.outcome.ensures

pub returns-clause-took : goal.returns-clause-took
returns-clause-took g c =
    let after = c.handle_rest-rest.new.hands.parts.inbox in
    on_ok_known c.outcome.result (subst (λ (v : DrainerView _ _). TakesMore v.inbox after) c.self.view_is (took g c))

-- at least one, where nothing waits
took_one : (g : given.Over) (c : goal.After-outcome g) → c.args.looks ≡ false → any_may_wait c.self.inside.hands.kept.items ≡ false → TakesSome c.self.inside.hands.parts.inbox c.handle_rest-rest.new.hands.parts.inbox
took_one g c patient none =
    let before = c.self.inside.hands.parts.inbox in
    subst (λ (i : Incoming _). TakesSome before i) (sym c.handle_rest-rest.ensures.inbox)
    (takes_one_and g.S.Sink.acts before c.handle_first.new.hands.parts.inbox c.handle_more-more.new.hands.parts.inbox (c.in-Ok.ensures.takes_one patient none) c.handle_more-more.ensures.inbox)

pub returns-clause-takes_one : goal.returns-clause-takes_one
returns-clause-takes_one g c =
    let after = c.handle_rest-rest.new.hands.parts.inbox in
    on_ok_known c.outcome.result (λ patient. subst (λ (v : DrainerView _ _). any_may_wait v.kept ≡ false → TakesSome v.inbox after) c.self.view_is (took_one g c patient))

-- more letters in the inbox keep the places
keeps : {S Rest : Type 0} (before after : DrainerView S Rest) → TakesMore before.inbox after.inbox → AreSame before.ports after.ports → after.keeps ≡ before.keeps → KeepsDrainer before after
keeps before after more same kept = record {
  box = ap (λ (i : Incoming _). i.box) more.1;
  count = ap (λ (i : Incoming _). i.ports) more.1;
  ports = same;
  keeps = kept;
}

pub returns-clause-kept : goal.returns-clause-kept
returns-clause-kept g c =
    let inside = c.self.inside in
    let before = view_of inside.hands inside.left inside.fault in
    let after = view_of c.handle_rest-rest.new.hands c.handle_rest-rest.result.left c.handle_rest-rest.result.fault in
    subst (λ (v : DrainerView _ _). KeepsDrainer v after) c.self.view_is
    (keeps before after (took g c) (c.handle_rest-rest.ensures.ports ∙ c.handle_more-more.ensures.ports ∙ c.in-Ok.ensures.ports) (c.handle_rest-rest.ensures.keeps ∙ c.handle_more-more.ensures.keeps ∙ c.in-Ok.ensures.keeps))

-- a fault of a subject is not that of the inbox
not_gone : (result : Result (Unit {0}) DrainFault) (fault : Option DrainFault) → MatchResult result (λ _. fault ≡ None) (λ met. fault ≡ Some met) → IsOfSubject fault
    → result ≡ Err InboxGone → ⊥
not_gone (Ok _) fault is of is_gone = cc
not_gone (Err met) None is of is_gone = cc
not_gone (Err met) (Some InboxGone) is of is_gone = absurd of
not_gone (Err met) (Some (SubjectGone place)) is of is_gone = cc

pub returns-clause-gone : goal.returns-clause-gone
returns-clause-gone g c = λ is_gone. absurd (not_gone c.outcome.result c.handle_rest-rest.result.fault c.outcome.ensures c.handle_rest-rest.ensures.of_subject is_gone)

pub returns-in_default-handle_first-clause-gone : goal.returns-in_default-handle_first-clause-gone
returns-in_default-handle_first-clause-gone g c = λ is_gone.
    ap (λ (hands : DrainerLeft _ _). hands.parts.inbox) c.in_default-handle_first.ensures.gone ∙ ap (λ (v : DrainerView _ _). v.inbox) c.self.view_is

use Rattle.std.proofs.Common.{◌≡◌, ◌∙◌, sym, refl, ap, subst, ℕ, ◌-◌, false, suc, Option, Some, None, is_some, arith}
use Rattle.std.proofs.lemmas.Option.{slice_get-get_or}
use Rattle.rx_drain.specs.declared.drainer.drain_fault.DrainFault.{DrainFault}
use Rattle.rx_drain.specs.Drainers.{Fits, view_of}
use Rattle.rx_drain.proofs.Clearing.{Flushing, Flushing-none, Flushing-past, Flushing-more, Flushing-whole, Flushing-all, Flushing-fault}
use Rattle.rx_drain.proofs.drainer.flushes.flush_each.Goals as goal

-- there is no fault
none_of : (fault : Option DrainFault) → is_some fault ≡ false → fault ≡ None
none_of None none = refl
none_of (Some fault) none = cc

pub loop-place-init : goal.loop-place-init
loop-place-init g c = record {
  fits = c.requires;
  inbox = refl;
  same = refl;
  keeps = refl;
  within = omega (arith, c.len-place.ensures);
  flushing = Flushing-none g.S.Sink.acts c.len-place.result (view_of c.args.hands.now false None) (omega (arith, c.len-place.ensures, c.args.hands.now.kept.ok.0));
}

pub loop-place-preserved : goal.loop-place-preserved
loop-place-preserved g c =
    let inv = c.loop-place.invariant in
    let hands = c.loop-place.hands in
    let next = c.loop-place.place - 1 in
    let one = c.index.result.now in
    let place_is : c.loop-place.place ≡ suc next = omega (arith, c.loop-place-test.true) in
    record {
      fits = inv.fits;
      inbox = inv.inbox;
      same = inv.same;
      keeps = inv.keeps;
      within = omega (arith, inv.within);
      flushing = Flushing-past g.S.Sink.acts c.loop-place.place next (view_of c.args.hands.now false None) (view_of hands false None) one place_is
          (slice_get-get_or hands.kept.items next one (omega (arith, inv.within, c.loop-place-test.true, hands.kept.ok.0)) ∙ ap Some (sym c.index.ensures)) c.if-index.false inv.flushing;
    }

pub loop-place-preserved-in-loop-place : goal.loop-place-preserved-in-loop-place
loop-place-preserved-in-loop-place g c =
    let inv = c.loop-place.invariant in
    let hands = c.loop-place.hands in
    let after = c.flush_at-fault.new.hands in
    let fault = c.flush_at-fault.result in
    let next = c.loop-place.place - 1 in
    let place_is : c.loop-place.place ≡ suc next = omega (arith, c.loop-place-test.true) in
    let whole : is_some fault ≡ false = sym c.is_some.ensures ∙ c.if-is_some.false in
    record {
      fits = subst (λ (f : Option DrainFault). Fits c.args.leave false f after) (none_of fault whole) c.flush_at-fault.ensures.fits;
      inbox = c.flush_at-fault.ensures.inbox ∙ inv.inbox;
      same = c.flush_at-fault.ensures.ports ∙ inv.same;
      keeps = c.flush_at-fault.ensures.keeps ∙ inv.keeps;
      within = omega (arith, inv.within, c.flush_at-fault.ensures.len);
      flushing = Flushing-whole g.S.Sink.acts next (view_of c.args.hands.now false None) (λ f. view_of after false f) fault whole
          (Flushing-more g.S.Sink.acts c.loop-place.place next (view_of c.args.hands.now false None) (view_of hands false None) (view_of after false fault) place_is inv.same c.flush_at-fault.ensures.flushes inv.flushing);
    }

pub returns-then-is_some-clause-inbox : goal.returns-then-is_some-clause-inbox
returns-then-is_some-clause-inbox g c = c.flush_at-fault.ensures.inbox ∙ c.loop-place.invariant.inbox

pub returns-then-is_some-clause-ports : goal.returns-then-is_some-clause-ports
returns-then-is_some-clause-ports g c = c.flush_at-fault.ensures.ports ∙ c.loop-place.invariant.same

pub returns-then-is_some-clause-flushes : goal.returns-then-is_some-clause-flushes
returns-then-is_some-clause-flushes g c =
    let inv = c.loop-place.invariant in
    let next = c.loop-place.place - 1 in
    let place_is : c.loop-place.place ≡ suc next = omega (arith, c.loop-place-test.true) in
    Flushing-fault g.S.Sink.acts c.loop-place.place next (view_of c.args.hands.now false None) (view_of c.loop-place.hands false None) (view_of c.flush_at-fault.new.hands false c.flush_at-fault.result)
    place_is inv.same c.flush_at-fault.ensures.flushes (sym c.is_some.ensures ∙ c.if-is_some.true) inv.flushing

pub returns-clause-flushes : goal.returns-clause-flushes
returns-clause-flushes g c =
    let none : c.loop-place.place ≡ 0 = omega (arith, c.loop-place-test.false) in
    Flushing-all g.S.Sink.acts (view_of c.args.hands.now false None) (view_of c.loop-place.hands false None) refl
    (subst (λ (n : ℕ). Flushing g.S.Sink.acts n (view_of c.args.hands.now false None) (view_of c.loop-place.hands false None)) none c.loop-place.invariant.flushing)

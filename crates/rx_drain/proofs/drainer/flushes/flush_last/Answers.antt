use Rattle.std.proofs.Common.{◌≡◌, ◌∙◌, sym, refl, subst, false, Option, Some, None, is_some}
use Rattle.rx_drain.specs.declared.drainer.drain_fault.DrainFault.{DrainFault}
use Rattle.rx_drain.specs.Drainers.{Fits, view_of}
use Rattle.rx_drain.proofs.Clearing.{comes_again, comes_by, comes_nowhere, flushes_again}
use Rattle.rx_drain.proofs.drainer.flushes.flush_last.Goals as goal

-- there is no fault
none_of : (fault : Option DrainFault) → is_some fault ≡ false → fault ≡ None
none_of None none = refl
none_of (Some fault) none = cc

pub loop-init : goal.loop-init
loop-init g c = record {
  fits = c.requires;
  inbox = refl;
  same = refl;
  keeps = refl;
  comes = comes_nowhere g.S.Sink.acts (view_of c.args.hands.now false None);
}

pub loop-preserved : goal.loop-preserved
loop-preserved g c =
    let inv = c.loop.invariant in
    let fault = c.flush_all-fault.result in
    let after = c.flush_all-fault.new.hands in
    let whole : is_some fault ≡ false = sym c.is_some.ensures ∙ c.if-is_some.false in
    record {
      fits = subst (λ (f : Option DrainFault). Fits c.args.leave false f after) (none_of fault whole) c.flush_all-fault.ensures.fits;
      inbox = c.flush_all-fault.ensures.inbox ∙ inv.inbox;
      same = c.flush_all-fault.ensures.ports ∙ inv.same;
      keeps = c.flush_all-fault.ensures.keeps ∙ inv.keeps;
      comes = comes_by g.S.Sink.acts (view_of c.args.hands.now false None) (view_of after false None)
          (comes_again g.S.Sink.acts (view_of c.args.hands.now false None) (view_of c.loop.hands false None) (λ f. view_of after false f) fault whole inv.same inv.comes c.flush_all-fault.ensures.flushes);
    }

pub returns-then-is_some-clause-inbox : goal.returns-then-is_some-clause-inbox
returns-then-is_some-clause-inbox g c = c.flush_all-fault.ensures.inbox ∙ c.loop.invariant.inbox

pub returns-then-is_some-clause-ports : goal.returns-then-is_some-clause-ports
returns-then-is_some-clause-ports g c = c.flush_all-fault.ensures.ports ∙ c.loop.invariant.same

pub returns-then-is_some-clause-flushes : goal.returns-then-is_some-clause-flushes
returns-then-is_some-clause-flushes g c =
    flushes_again g.S.Sink.acts (view_of c.args.hands.now false None) (view_of c.loop.hands false None) (view_of c.flush_all-fault.new.hands false c.flush_all-fault.result)
    c.loop.invariant.same c.loop.invariant.comes c.flush_all-fault.ensures.flushes

pub returns-then-not-may_wait-clause-fits : goal.returns-then-not-may_wait-clause-fits
returns-then-not-may_wait-clause-fits g c =
    subst (λ (f : Option DrainFault). Fits c.args.leave false f c.flush_all-fault.new.hands) (none_of c.flush_all-fault.result (sym c.is_some.ensures ∙ c.if-is_some.false)) c.flush_all-fault.ensures.fits

pub returns-then-not-may_wait-clause-inbox : goal.returns-then-not-may_wait-clause-inbox
returns-then-not-may_wait-clause-inbox g c = c.flush_all-fault.ensures.inbox ∙ c.loop.invariant.inbox

pub returns-then-not-may_wait-clause-ports : goal.returns-then-not-may_wait-clause-ports
returns-then-not-may_wait-clause-ports g c = c.flush_all-fault.ensures.ports ∙ c.loop.invariant.same

pub returns-then-not-may_wait-clause-flushes : goal.returns-then-not-may_wait-clause-flushes
returns-then-not-may_wait-clause-flushes g c =
    let after = c.flush_all-fault.new.hands in
    comes_again g.S.Sink.acts (view_of c.args.hands.now false None) (view_of c.loop.hands false None) (λ f. view_of after false f) c.flush_all-fault.result (sym c.is_some.ensures ∙ c.if-is_some.false)
    c.loop.invariant.same c.loop.invariant.comes c.flush_all-fault.ensures.flushes

pub returns-clause-inbox : goal.returns-clause-inbox
returns-clause-inbox g c = c.flush_all.ensures.inbox ∙ c.loop.invariant.inbox

pub returns-clause-ports : goal.returns-clause-ports
returns-clause-ports g c = c.flush_all.ensures.ports ∙ c.loop.invariant.same

pub returns-clause-flushes : goal.returns-clause-flushes
returns-clause-flushes g c =
    flushes_again g.S.Sink.acts (view_of c.args.hands.now false None) (view_of c.loop.hands false None) (view_of c.flush_all.new.hands false c.flush_all.result)
    c.loop.invariant.same c.loop.invariant.comes c.flush_all.ensures.flushes

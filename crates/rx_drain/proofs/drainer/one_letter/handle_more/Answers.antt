use Rattle.std.proofs.Common.{◌≡◌, ◌∙◌, ◌++◌, ap, sym, refl, subst, false, Bool, ℕ, Option, Some, None, is_some, arith}
use Rattle.rx_mailbox.specs.declared.letter.Letter.{Letter}
use Rattle.rx_mailbox.specs.declared.letter.Post.TheVariants.{Body}
use Rattle.rx_mailbox.specs.Boxes.{Incoming, all_told, with_letter}
use Rattle.rx_mailbox.specs.Letters.{letter}
use Rattle.rx_pump.specs.declared.out.Out.{Out}
use Rattle.rx_pump.specs.Opened.{all_opened, opened_ports}
use Rattle.rx_pump.specs.Pumps.{AreSame}
use Rattle.rx_drain.specs.declared.drainer.drain_fault.DrainFault.{DrainFault}
use Rattle.rx_drain.specs.declared.drainer.drainer_left.DrainerLeft.{DrainerLeft}
use Rattle.rx_drain.specs.declared.drainer.drainer_parts.DrainerParts.{DrainerParts}
use Rattle.rx_sink.specs.Acts.{Acts}
use Rattle.rx_drain.specs.Drainers.{DrainerView, Fits, HandlesLetter, HasGoneOn, TakesMore, view_of}
use Rattle.rx_mailbox.proofs.Told.{told-count, told-nil}
use Rattle.rx_drain.proofs.Ending.{goes_further, goes_letter, goes_nowhere, takes_none, takes_then}
use Rattle.rx_drain.proofs.Standing.{handles_next}
use Rattle.rx_drain.proofs.drainer.one_letter.handle_more.Goals.{in-Some, in-None+in-Ok}
use Rattle.rx_drain.proofs.drainer.one_letter.handle_more.Goals as goal

-- there is no fault
none_of : (fault : Option DrainFault) → is_some fault ≡ false → fault ≡ None
none_of None none = refl
none_of (Some fault) none = cc

module _ {S Rest : Type 0} where
  -- what a port holds back, and whether its inbox was woken, is nothing that it is asked for
  fits_with : (leave : ℕ) (left : Bool) (fault : Option DrainFault) (hands : DrainerLeft S Rest) (parts : DrainerParts S) → all_told parts.subjects.items ≡ all_told hands.parts.subjects.items
      → Fits leave left fault hands → Fits leave left fault (record hands { parts = parts })
  fits_with leave left fault hands parts same fits = record {
    leave_is = omega (arith, fits.leave_is, told-count hands.parts.subjects.items parts.subjects.items same);
    away_room = fits.away_room;
    ended_room = omega (arith, fits.ended_room, told-count hands.parts.subjects.items parts.subjects.items same);
    open_ports = fits.open_ports;
    ended_ports = λ is fine. told-nil parts.subjects.items (same ∙ ap all_told (fits.ended_ports is fine));
  }

  -- what came more was handled, behind what had gone on
  goes_on : (acts : Acts S Rest) (first : DrainerView S Rest) (before after : DrainerLeft S Rest) (left left_after : Bool) (fault fault_after : Option DrainFault) (parts : DrainerParts S) (x : Letter (Out S))
      → fault ≡ None → all_told parts.subjects.items ≡ all_told before.parts.subjects.items → parts.inbox ≡ with_letter before.parts.inbox x → after.parts.inbox ≡ parts.inbox
      → AreSame (view_of (record before { parts = parts }) left None).ports (view_of after left_after fault_after).ports
      → HandlesLetter acts x (view_of (record before { parts = parts }) left None) (view_of after left_after fault_after)
      → HasGoneOn acts first (view_of before left fault) → HasGoneOn acts first (view_of after left_after fault_after)
  goes_on acts first before after left left_after fault fault_after parts x whole same received kept ports handles goes =
      let second = record (view_of before left fault) { ports = opened_ports before.ended.items ++ all_opened parts.subjects.items } in
      let there = subst (λ l. HasGoneOn acts first (record (view_of before left fault) { ports = opened_ports before.ended.items ++ opened_ports l })) (sym same) goes in
      goes_further acts first second (view_of after left_after fault_after) there (goes_letter acts second _ (view_of after left_after fault_after) x whole refl received kept ports handles)

pub loop-count-init : goal.loop-count-init
loop-count-init g c = record {
  fits = c.requires.fits;
  of_subject = c.requires.of_subject;
  inbox = takes_none g.S.Sink.acts c.args.hands.now.parts.inbox;
  same = refl;
  keeps = refl;
  goes = goes_nowhere g.S.Sink.acts (view_of c.args.hands.now c.args.handled.left c.args.handled.fault);
}

pub returns-in-Err-clause-fits : goal.returns-in-Err-clause-fits
returns-in-Err-clause-fits g c =
    fits_with c.args.leave c.loop-count.now.left c.loop-count.now.fault c.loop-count.hands c.receive_more.new.parts (c.receive_more.ensures.subjects ∙ c.pass_on.ensures) c.loop-count.invariant.fits

pub returns-in-Err-clause-inbox : goal.returns-in-Err-clause-inbox
returns-in-Err-clause-inbox g c =
    subst (λ (i : Incoming _). TakesMore c.args.hands.now.parts.inbox i) (sym (c.in-Err.ensures.received ∙ c.in-None.ensures.received)) c.loop-count.invariant.inbox

pub returns-in-Err-clause-ports : goal.returns-in-Err-clause-ports
returns-in-Err-clause-ports g c =
    subst (λ l. AreSame (view_of c.args.hands.now c.args.handled.left c.args.handled.fault).ports (opened_ports c.loop-count.hands.ended.items ++ opened_ports l))
    (sym (c.receive_more.ensures.subjects ∙ c.pass_on.ensures)) c.loop-count.invariant.same

pub returns-in-Err-clause-goes : goal.returns-in-Err-clause-goes
returns-in-Err-clause-goes g c =
    let hands = c.loop-count.hands in
    let view = view_of hands c.loop-count.now.left c.loop-count.now.fault in
    let first = view_of c.args.hands.now c.args.handled.left c.args.handled.fault in
    let there = subst (λ l. HasGoneOn g.S.Sink.acts first (record view { ports = opened_ports hands.ended.items ++ opened_ports l })) (sym (c.receive_more.ensures.subjects ∙ c.pass_on.ensures)) c.loop-count.invariant.goes in
    subst (λ (i : Incoming _). HasGoneOn g.S.Sink.acts first (record view { inbox = i; ports = opened_ports hands.ended.items ++ all_opened c.receive_more.new.parts.subjects.items }))
    (sym (c.in-Err.ensures.received ∙ c.in-None.ensures.received)) there

pub handle_out-now-requires : goal.handle_out-now-requires
handle_out-now-requires g c =
    let whole = none_of c.loop-count.now.fault (sym c.is_some.ensures ∙ c.if-is_some.false) in
    let fits = c.loop-count.invariant.fits in
    let parts : DrainerParts _ = record { inbox = c.next_in_hand.new.self; subjects = c.pass_on.new.subjects } in
    fits_with c.args.leave c.loop-count.now.left None c.loop-count.hands parts c.pass_on.ensures
    (record { leave_is = fits.leave_is; away_room = fits.away_room; ended_room = fits.ended_room; open_ports = fits.open_ports; ended_ports = λ left fine. fits.ended_ports left whole })

pub handle-requires : goal.handle-requires
handle-requires g c =
    let whole = none_of c.loop-count.now.fault (sym c.is_some.ensures ∙ c.if-is_some.false) in
    let fits = c.loop-count.invariant.fits in
    fits_with c.args.leave c.loop-count.now.left None c.loop-count.hands c.receive_more.new.parts (c.receive_more.ensures.subjects ∙ c.pass_on.ensures)
    (record { leave_is = fits.leave_is; away_room = fits.away_room; ended_room = fits.ended_room; open_ports = fits.open_ports; ended_ports = λ left fine. fits.ended_ports left whole })

pub loop-count-preserved : goal.loop-count-preserved
loop-count-preserved g c =
    let inv = c.loop-count.invariant in
    let hands = c.loop-count.hands in
    let now = c.loop-count.now in
    let first = view_of c.args.hands.now c.args.handled.left c.args.handled.fault in
    let whole = none_of now.fault (sym c.is_some.ensures ∙ c.if-is_some.false) in
    elim c.match-next_in_hand.branch [
      | in-Some w ↦ rw (w.hands-is, w.now-is) (
          let parts : DrainerParts _ = record { inbox = c.next_in_hand.new.self; subjects = c.pass_on.new.subjects } in
          let x = letter w.in-Some.from (Body w.in-Some.out) in
          let did = w.handle_out-now in
          record {
            fits = did.ensures.fits;
            of_subject = did.ensures.handles.0;
            inbox = takes_then g.S.Sink.acts c.args.hands.now.parts.inbox hands.parts.inbox parts.inbox did.new.hands.parts.inbox x inv.inbox w.in-Some.ensures.received did.ensures.inbox;
            same = did.ensures.ports ∙ subst (λ l. AreSame first.ports (opened_ports hands.ended.items ++ opened_ports l)) (sym c.pass_on.ensures) inv.same;
            keeps = did.ensures.keeps ∙ inv.keeps;
            goes = goes_on g.S.Sink.acts first hands did.new.hands now.left did.result.left now.fault did.result.fault parts x whole c.pass_on.ensures w.in-Some.ensures.received did.ensures.inbox did.ensures.ports
                (handles_next g.S.Sink.acts x _ _ did.ensures.handles) inv.goes;
          })
      | in-None+in-Ok w ↦ rw (w.hands-is, w.now-is) (
          let parts = w.receive_more.new.parts in
          let x = w.in-Ok.letter in
          let did = w.handle in
          let subjects = w.receive_more.ensures.subjects ∙ c.pass_on.ensures in
          let received = w.in-Ok.ensures.received ∙ ap (λ (i : Incoming _). with_letter i x) w.in-None.ensures.received in
          record {
            fits = did.ensures.fits;
            of_subject = did.ensures.handles.0;
            inbox = takes_then g.S.Sink.acts c.args.hands.now.parts.inbox hands.parts.inbox parts.inbox did.new.hands.parts.inbox x inv.inbox received did.ensures.inbox;
            same = did.ensures.ports ∙ subst (λ l. AreSame first.ports (opened_ports hands.ended.items ++ opened_ports l)) (sym subjects) inv.same;
            keeps = did.ensures.keeps ∙ inv.keeps;
            goes = goes_on g.S.Sink.acts first hands did.new.hands now.left did.result.left now.fault did.result.fault parts x whole subjects received did.ensures.inbox did.ensures.ports did.ensures.handles inv.goes;
          })
    ]

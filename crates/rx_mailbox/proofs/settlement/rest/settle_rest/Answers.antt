use Rattle.std.proofs.Common.{◌≡◌, ◌∙◌, sym, ap, refl, subst}
use Rattle.std.specs.List.{All}
use Rattle.std.proofs.lemmas.List.Elements.{All-weaker}
use Rattle.crossbeam_channel.specs.Claims.{view}
use Rattle.rx_mailbox.specs.Boxes.{Incoming, Outgoing}
use Rattle.rx_mailbox.specs.Passes.{inbox_of, settled_of, taken_of, IsEmptied, IsNoted}
use Rattle.rx_mailbox.specs.Rests.{ReceivesMore}
use Rattle.rx_mailbox.specs.Settling.{GotAll, IsEachOnce}
use Rattle.rx_mailbox.proofs.Joins.{leaves_empty, noted_came}
use Rattle.rx_mailbox.proofs.Rests.{byes_all, noted_all, received-both}
use Rattle.rx_mailbox.proofs.settlement.rest.settle_rest.Given as given
use Rattle.rx_mailbox.proofs.settlement.rest.settle_rest.Goals as goal

pub note_all-requires-clause-from_box : goal.note_all-requires-clause-from_box
note_all-requires-clause-from_box g c =
    let same = ap (λ (i : Incoming _). i.box) c.into_ends-receiver.ensures.received.received in
    All-weaker (λ (port : Outgoing _). port.box ≡ c.args.inbox.box) (λ (port : Outgoing _). port.box ≡ (inbox_of c.into_ends-receiver.result.1).box) (λ port is. is ∙ sym same) c.args.ports.items c.requires

-- all that was received
received : (g : given.Over) (c : goal.After-take_rest-letters g) → ReceivesMore c.args.inbox (inbox_of c.take_rest-letters.new.pass)
received g c =
    received-both _ _ _ c.into_ends-receiver.ensures.received (subst (λ (i : Incoming _). ReceivesMore i (inbox_of c.take_rest-letters.new.pass)) c.note_all.ensures.same c.take_rest-letters.ensures.received)

pub returns-clause-received : goal.returns-clause-received
returns-clause-received g c = received g c.before

-- each port is noted
each_noted : (g : given.Over) (c : goal.After-take_rest-letters g) → All (IsNoted (view c.take_rest-letters.new.pass)) c.args.ports.items
each_noted g c = noted_all _ _ c.args.ports.items c.take_rest-letters.ensures.reader c.take_rest-letters.ensures.notes c.take_rest-letters.ensures.none c.note_all.ensures.joined

pub returns-clause-complete : goal.returns-clause-complete
returns-clause-complete g c =
    let once = c.is_each_once.ensures.0 c.if-not-is_each_once.false in
    let made = ap (λ (i : Incoming _). i.ports) (received g c.before).received in (
      once,
      byes_all _ _ (inbox_of c.take_rest-letters.new.pass) c.args.ports.items c.take_rest-letters.ensures.reader c.take_rest-letters.ensures.notes c.take_rest-letters.ensures.none c.note_all.ensures.joined refl
          (subst (λ n. IsEachOnce n c.args.ports.items) (sym made) once),
    )

-- by what the pass knows the box is empty
is_emptied : (g : given.Over) (c : goal.After-take_rest-letters g) → IsEmptied (settled_of c.take_rest-letters.new.pass)
is_emptied g c =
    let pass = c.take_rest-letters.new.pass in
    let once = c.is_each_once.ensures.0 c.if-not-is_each_once.false in
    let made = ap (λ (i : Incoming _). i.ports) (received g c).received in
    record {
      taken = taken_of (view pass);
      knows_both = c.take_rest-letters.ensures.reader.view_is;
      received = refl;
      queue = leaves_empty (view pass) c.args.inbox.ports c.args.ports.items c.take_rest-letters.ensures.reader made (each_noted g c) once;
    }

pub returns-clause-shares : goal.returns-clause-shares
returns-clause-shares g c =
    let pass = c.take_rest-letters.new.pass in
    All-weaker (IsNoted (view pass)) (GotAll (inbox_of pass)) (λ port is. noted_came (view pass) (inbox_of pass) port refl is) c.args.ports.items (each_noted g c.before)

pub returns-clause-joined : goal.returns-clause-joined
returns-clause-joined g c = each_noted g c.before

pub returns-clause-empty : goal.returns-clause-empty
returns-clause-empty g c = is_emptied g c.before

pub invariant_of-result : goal.invariant_of-result
invariant_of-result g c = (is_emptied g c, c.take_rest-letters.ensures.letters)

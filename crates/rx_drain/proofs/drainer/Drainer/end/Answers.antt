use Rattle.std.proofs.Common.{◌≡◌, ◌+◌, ◌∙◌, sym, refl, ap, subst, true, length, length-append, arith}
use Rattle.rx_drain.specs.declared.drainer.drain_end.DrainEnd.{DrainEnd}
use Rattle.rx_mailbox.specs.Boxes.{HasEachBye}
use Rattle.std.proofs.lemmas.List.{length-map}
use Rattle.rx_pump.specs.Opened.{all_opened, opened_port, opened_ports}
use Rattle.rx_drain.specs.Drainers.{DrainerView, view_of}
use Rattle.rx_drain.specs.Serving.{HasDrained}
use Rattle.rx_pump.proofs.Asking.{opened-length}
use Rattle.rx_drain.proofs.Ending.{told_to_leave, served_end}
use Rattle.rx_drain.proofs.drainer.Drainer.end.Goals as goal

pub returns : goal.returns
returns g c =
    let hands = c.self.inside.hands in
    let view = view_of hands c.self.inside.left c.self.inside.fault in
    let end : DrainEnd _ _ = record { inbox = hands.parts.inbox; ports = hands.ended; put_away = hands.put_away; places = hands.places; taken = hands.taken } in
    let whole = ap (λ (v : DrainerView _ _). v.fault) c.self.view_is ∙ c.requires.whole in
    let each = subst (λ (v : DrainerView _ _). HasEachBye v.inbox) (sym c.self.view_is) c.requires.each_bye in
    let senders : view.inbox.ports ≡ length view.ports + 1 =
    omega (arith, c.self.invariant.2, c.self.invariant.1.leave_is, length-append (opened_ports hands.ended.items) (all_opened hands.parts.subjects.items), length-map hands.ended.items opened_port, opened-length hands.parts.subjects.items) in
    let told : c.self.inside.left ≡ true = told_to_leave g.S.Sink.acts view senders each c.self.invariant.0 in
    subst (λ (v : DrainerView _ _). HasDrained g.S.Sink.acts v end) c.self.view_is
    (served_end g.S.Sink.acts view (all_opened hands.parts.subjects.items) end refl refl (ap all_opened (c.self.invariant.1.ended_ports told whole)) refl refl refl refl told whole each c.self.invariant.0)

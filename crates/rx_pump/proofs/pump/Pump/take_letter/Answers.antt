use Rattle.std.proofs.Common.{◌≡◌, length, ◌∙◌, sym, ap, subst, refl, None, Some, Result, MatchResult, arith}
use Rattle.rx_mailbox.specs.Boxes.{all_told, with_letter}
use Rattle.rx_mailbox.specs.Letters.{letter}
use Rattle.rx_mailbox.specs.declared.letter.Letter.{Letter}
use Rattle.rx_mailbox.specs.declared.letter.Post.TheVariants.{Body}
use Rattle.rx_pump.specs.declared.call.Call.{Call}
use Rattle.rx_pump.specs.declared.pump.pump_fault.PumpFault.{PumpFault}
use Rattle.rx_pump.specs.declared.pump.pump_fault.PumpFault.TheVariants.{InboxGone}
use Rattle.rx_pump.specs.Pumps.{PumpView, pump_with, IsPumped, KeepsPump, Makes}
use Rattle.rx_pump.proofs.Pumping.{AreSame-length}
use Rattle.rx_mailbox.proofs.Told.{told-count, told-length}
use Rattle.rx_pump.proofs.Turning.{IsPumped-gone, IsPumped-bye, IsPumped-letter}
use Rattle.rx_pump.proofs.pump.Pump.take_letter.Given as given
use Rattle.rx_pump.proofs.pump.Pump.take_letter.Goals as goal

pub returns-in-Some-clause-pumped : goal.returns-in-Some-clause-pumped
returns-in-Some-clause-pumped g c = subst (λ (p : PumpView _). IsPumped p) c.self.view_is c.self.invariant.0

pub invariant_of-self : goal.invariant_of-self
invariant_of-self g c =
    let before = pump_with c.self.inside.parts c.self.inside.tally.calls c.self.inside.tally.refused c.self.inside.misses_before c.self.inside.fault in
    let drainers = all_told c.receive-received.new.drainers.items in
    let replies = all_told c.receive-received.new.replies.items in
    let same = c.in_default-received.ensures.drainers in
    let same_replies = c.in_default-received.ensures.replies in
    let count = told-count c.self.inside.parts.drainers.items c.receive-received.new.drainers.items same in
    let count_replies = told-count c.self.inside.parts.replies.items c.receive-received.new.replies.items same_replies in (
      IsPumped-gone before _ c.in_default.is
          (ap (λ inbox. record before { inbox = inbox; drainers = drainers; replies = replies; fault = Some InboxGone }) c.in_default-received.ensures.received
          ∙ ap (λ ports. record before { drainers = ports; replies = replies; fault = Some InboxGone }) same
          ∙ ap (λ ports. record before { replies = ports; fault = Some InboxGone }) same_replies) c.self.invariant.0,
      omega (arith, c.self.invariant.1, count),
      c.self.invariant.2,
      omega (arith, c.self.invariant.3, count),
      c.self.invariant.4,
      omega (arith, c.self.invariant.5, count_replies),
    )

pub returns-in_default-received-clause-pumped : goal.returns-in_default-received-clause-pumped
returns-in_default-received-clause-pumped g c = (invariant_of-self g c).0

pub invariant_of-self-in-Bye-post : goal.invariant_of-self-in-Bye-post
invariant_of-self-in-Bye-post g c =
    let before = pump_with c.self.inside.parts c.self.inside.tally.calls c.self.inside.tally.refused c.self.inside.misses_before c.self.inside.fault in
    let drainers = all_told c.receive-received.new.drainers.items in
    let replies = all_told c.receive-received.new.replies.items in
    let same = c.in-Ok.ensures.drainers in
    let same_replies = c.in-Ok.ensures.replies in
    let count = told-count c.self.inside.parts.drainers.items c.receive-received.new.drainers.items same in
    let count_replies = told-count c.self.inside.parts.replies.items c.receive-received.new.replies.items same_replies in (
      IsPumped-bye before _ c.in-Ok.letter c.in_default.is c.in-Bye-post.is
          (ap (λ inbox. record before { inbox = inbox; drainers = drainers; replies = replies }) c.in-Ok.ensures.received
          ∙ ap (λ ports. record before { inbox = with_letter before.inbox c.in-Ok.letter; drainers = ports; replies = replies }) same
          ∙ ap (λ ports. record before { inbox = with_letter before.inbox c.in-Ok.letter; replies = ports }) same_replies) c.self.invariant.0,
      omega (arith, c.self.invariant.1, count),
      c.self.invariant.2,
      omega (arith, c.self.invariant.3, count),
      c.self.invariant.4,
      omega (arith, c.self.invariant.5, count_replies),
    )

pub returns-in-Bye-post-clause-pumped : goal.returns-in-Bye-post-clause-pumped
returns-in-Bye-post-clause-pumped g c = (invariant_of-self-in-Bye-post g c).0

-- the letter that this turn took
took : (g : given.Over) (c : goal.After-outcome g)
    → IsPumped (pump_with c.handle-fault.new.parts c.handle-fault.new.tally.calls c.handle-fault.new.tally.refused c.self.inside.misses_before c.handle-fault.result)
    × KeepsPump (pump_with c.self.inside.parts c.self.inside.tally.calls c.self.inside.tally.refused c.self.inside.misses_before c.self.inside.fault)
    (pump_with c.handle-fault.new.parts c.handle-fault.new.tally.calls c.handle-fault.new.tally.refused c.self.inside.misses_before c.handle-fault.result)
took g c =
    let inside = c.self.inside in
    let before = pump_with inside.parts inside.tally.calls inside.tally.refused inside.misses_before inside.fault in
    let after = pump_with c.handle-fault.new.parts c.handle-fault.new.tally.calls c.handle-fault.new.tally.refused inside.misses_before c.handle-fault.result in
    let drainers = all_told c.receive-received.new.drainers.items in
    let replies = all_told c.receive-received.new.replies.items in
    let mid = record before { inbox = c.receive-received.new.inbox; drainers = drainers; replies = replies; fault = None } in
    let x = c.in-Ok.letter in
    let x_is : letter x.from (Body c.in-Body.call) ≡ x = ap (λ post. letter x.from post) (sym c.in-Body.is) in
    let mid_is : mid ≡ record before { inbox = with_letter before.inbox x } =
    ap (λ inbox. record before { inbox = inbox; drainers = drainers; replies = replies; fault = None }) c.in-Ok.ensures.received
    ∙ ap (λ ports. record before { inbox = with_letter before.inbox x; drainers = ports; replies = replies; fault = None }) c.in-Ok.ensures.drainers
    ∙ ap (λ ports. record before { inbox = with_letter before.inbox x; replies = ports; fault = None }) c.in-Ok.ensures.replies
    ∙ ap (λ fault. record before { inbox = with_letter before.inbox x; fault = fault }) (sym c.in_default.is) in
    IsPumped-letter before mid after x c.in_default.is mid_is
    (subst (λ (y : Letter (Call _)). Makes mid y after) x_is (c.handle-fault.ensures.makes inside.misses_before)) c.self.invariant.0

pub invariant_of-self-2 : goal.invariant_of-self-2
invariant_of-self-2 g c =
    let kept = (took g c).1 in
    let drainers : length (all_told c.handle-fault.new.parts.drainers.items) ≡ length (all_told c.self.inside.parts.drainers.items) = AreSame-length _ _ kept.drainers in
    let long = told-length c.handle-fault.new.parts.drainers.items in
    let long_before = told-length c.self.inside.parts.drainers.items in
    let callers : length (all_told c.handle-fault.new.parts.replies.items) ≡ length (all_told c.self.inside.parts.replies.items) = AreSame-length _ _ kept.callers in
    let long_replies = told-length c.handle-fault.new.parts.replies.items in
    let long_replies_before = told-length c.self.inside.parts.replies.items in (
      (took g c).0,
      omega (arith, c.self.invariant.1, drainers, long, long_before),
      c.self.invariant.2,
      omega (arith, c.self.invariant.3, drainers, long, long_before),
      c.self.invariant.4,
      omega (arith, c.self.invariant.5, callers, long_replies, long_replies_before),
    )

pub returns-clause-pumped : goal.returns-clause-pumped
returns-clause-pumped g c = (took g c).0

pub returns-clause-kept : goal.returns-clause-kept
returns-clause-kept g c =
    let after = pump_with c.handle-fault.new.parts c.handle-fault.new.tally.calls c.handle-fault.new.tally.refused c.self.inside.misses_before c.handle-fault.result in
    subst (λ (before : PumpView _). KeepsPump before after) c.self.view_is (took g c).1

pub returns-clause-gone : goal.returns-clause-gone
returns-clause-gone g c = λ gone.
    let fault = c.handle-fault.result in
    absurd (c.handle-fault.ensures.of_port (subst (λ (r : Result (Unit {0}) PumpFault). MatchResult r (λ _. fault ≡ None) (λ met. fault ≡ Some met)) gone c.outcome.ensures))

use Rattle.std.proofs.Common.{◌≡◌, ◌∙◌, sym, subst, ℕ, ◌+◌, ◌-◌, if◌then◌else◌, Bool, List, [], ◌∷◌, ◌++◌, replicate, None, arith}
use Rattle.rx_note.specs.declared.event.Event.{Event}
use Rattle.rx_note.specs.declared.event.Event.TheVariants.{Request, Dispose}
use Rattle.rx_pump.specs.Opened.{all_opened}
use Rattle.rx_drain.specs.Calls.{SendsEvents}
use Rattle.rx_drain.proofs.Events.{to, requested_first, requested_then, requested_all, sent_none, requested, SendsEvents-none}
use Rattle.rx_drain.proofs.drainer.asks.send_some.Goals as goal

pub returns-then-is_some : goal.returns-then-is_some
returns-then-is_some g c =
    let asks = c.args.asks in
    let first = c.min-together.result in
    let last : List Event = if asks.leaves then Dispose asks.who ∷ [] else [] in
    let many : first + (asks.items - first) ≡ asks.items = omega (arith, c.min-together.ensures) in
    subst (λ (n : ℕ). SendsEvents c.send_requests-fault.result (to c.args.subject (replicate n (Request asks.who 1) ++ last)) (all_opened c.args.subjects.now.items) (all_opened c.send_requests-fault.new.subjects.items)) many
    (requested_first c.send_requests-fault.result c.args.subject asks.who first (asks.items - first) last (all_opened c.args.subjects.now.items) (all_opened c.send_requests-fault.new.subjects.items)
    (sym c.is_some.ensures ∙ c.if-is_some.true) c.send_requests-fault.ensures)

pub returns-then-is_some-2 : goal.returns-then-is_some-2
returns-then-is_some-2 g c =
    let asks = c.args.asks in
    let first = c.min-together.result in
    let rest = asks.items - c.from.result in
    let a = all_opened c.args.subjects.now.items in
    let b = all_opened c.send_requests-fault.new.subjects.items in
    let d = all_opened c.send_singly-fault.new.subjects.items in
    let last : List Event = if asks.leaves then Dispose asks.who ∷ [] else [] in
    let many : (first + rest) + 0 ≡ asks.items = omega (arith, c.min-together.ensures, c.from.ensures) in
    let put = sent_none c.send_requests-fault.result (requested c.args.subject asks.who first) a b (sym c.is_some.ensures ∙ c.if-is_some.false) c.send_requests-fault.ensures in
    subst (λ (n : ℕ). SendsEvents c.send_singly-fault.result (to c.args.subject (replicate n (Request asks.who 1) ++ last)) a d) many
    (requested_first c.send_singly-fault.result c.args.subject asks.who (first + rest) 0 last a d (sym c.is_some-2.ensures ∙ c.if-is_some-2.true)
    (requested_then c.send_singly-fault.result c.args.subject asks.who first rest a b d put c.send_singly-fault.ensures))

pub returns-then-asks : goal.returns-then-asks
returns-then-asks g c =
    let asks = c.args.asks in
    let first = c.min-together.result in
    let rest = asks.items - c.from.result in
    let a = all_opened c.args.subjects.now.items in
    let b = all_opened c.send_requests-fault.new.subjects.items in
    let d = all_opened c.send_singly-fault.new.subjects.items in
    let e = all_opened c.send_disposal.new.subjects.items in
    let many : first + rest ≡ asks.items = omega (arith, c.min-together.ensures, c.from.ensures) in
    let put = sent_none c.send_requests-fault.result (requested c.args.subject asks.who first) a b (sym c.is_some.ensures ∙ c.if-is_some.false) c.send_requests-fault.ensures in
    let all = requested_then None c.args.subject asks.who first rest a b d put
    (sent_none c.send_singly-fault.result (requested c.args.subject asks.who rest) b d (sym c.is_some-2.ensures ∙ c.if-is_some-2.false) c.send_singly-fault.ensures) in
    subst (λ (leaves : Bool). SendsEvents c.send_disposal.result (to c.args.subject (replicate asks.items (Request asks.who 1) ++ (if leaves then Dispose asks.who ∷ [] else []))) a e) (sym c.if-asks.true)
    (subst (λ (n : ℕ). SendsEvents c.send_disposal.result (to c.args.subject (replicate n (Request asks.who 1) ++ Dispose asks.who ∷ [])) a e) many
    (requested_all c.send_disposal.result c.args.subject asks.who (first + rest) (Dispose asks.who ∷ []) a d e all c.send_disposal.ensures))

pub returns : goal.returns
returns g c =
    let asks = c.args.asks in
    let first = c.min-together.result in
    let rest = asks.items - c.from.result in
    let a = all_opened c.args.subjects.now.items in
    let b = all_opened c.send_requests-fault.new.subjects.items in
    let d = all_opened c.send_singly-fault.new.subjects.items in
    let many : first + rest ≡ asks.items = omega (arith, c.min-together.ensures, c.from.ensures) in
    let put = sent_none c.send_requests-fault.result (requested c.args.subject asks.who first) a b (sym c.is_some.ensures ∙ c.if-is_some.false) c.send_requests-fault.ensures in
    let all = requested_then None c.args.subject asks.who first rest a b d put
    (sent_none c.send_singly-fault.result (requested c.args.subject asks.who rest) b d (sym c.is_some-2.ensures ∙ c.if-is_some-2.false) c.send_singly-fault.ensures) in
    subst (λ (leaves : Bool). SendsEvents None (to c.args.subject (replicate asks.items (Request asks.who 1) ++ (if leaves then Dispose asks.who ∷ [] else []))) a d) (sym c.if-asks.false)
    (subst (λ (n : ℕ). SendsEvents None (to c.args.subject (replicate n (Request asks.who 1) ++ [])) a d) many
    (requested_all None c.args.subject asks.who (first + rest) [] a d d all (SendsEvents-none d)))

use Rattle.std.proofs.Common.{◌≡◌, ◌∙◌, sym, ap, subst, ℕ, suc, ◌-◌, None, ◌∷◌, map, replicate, arith}
use Rattle.rx_note.specs.declared.event.Event.TheVariants.{Request}
use Rattle.rx_pump.specs.Opened.{all_opened, ask}
use Rattle.rx_drain.specs.Calls.{SendsEvents, call}
use Rattle.rx_drain.proofs.Events.{SendsEvents-none, requests_in, to}
use Rattle.rx_drain.proofs.drainer.asks.send_requests.Goals as goal

pub returns-then-n-eq0 : goal.returns-then-n-eq0
returns-then-n-eq0 g c =
    subst (λ (n : ℕ). SendsEvents None (to c.args.subject (replicate n (Request c.args.who 1))) (all_opened c.args.subjects.now.items) (all_opened c.args.subjects.now.items)) (sym c.if-n-eq0.true)
    (SendsEvents-none (all_opened c.args.subjects.now.items))

pub returns : goal.returns
returns g c =
    let one = Request c.args.who 1 in
    let n_is : c.args.n ≡ suc (c.args.n - 1) = omega (arith, c.if-n-eq0.false) in
    let stands_for : replicate c.args.n (ask 0 c.args.who) ≡ map (call {S = _}) (one ∷ replicate (c.args.n - 1) one) =
    requests_in c.args.who c.args.n ∙ ap (λ (n : ℕ). map call (replicate n one)) n_is in
    subst (λ (n : ℕ). SendsEvents c.send.result (to c.args.subject (replicate n one)) (all_opened c.args.subjects.now.items) (all_opened c.send.new.subjects.items)) (sym n_is)
    (c.send.ensures one (replicate (c.args.n - 1) one) stands_for)

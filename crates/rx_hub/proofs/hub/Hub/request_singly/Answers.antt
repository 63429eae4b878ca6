use Rattle.std.proofs.Common.{◌≡◌, ◌≤◌, ◌+◌, ◌∙◌, Bool, true, false, if◌then◌else◌, ap, refl, arith}
use Rattle.rx_hub.specs.Hubs.{HubView, is_miss}
use Rattle.rx_hub.proofs.Running.{RequestsEach-none, RequestsEach-push, missed_in-few, misses_by}
use Rattle.rx_hub.proofs.hub.Hub.request_singly.Goals as goal

pub loop-init : goal.loop-init
loop-init c = record {
  took = RequestsEach-none c.args.self.now c.args.port c.args.who c.args.outs.now.items;
  rules = refl;
}

one_at_most : (b : Bool) → (if b then 1 else 0) ≤ 1
one_at_most true = omega arith
one_at_most false = omega arith

pub overflow_add-missed : goal.overflow_add-missed
overflow_add-missed c =
    let took = c.loop.invariant.took in
    omega (arith, took.missed_are, took.count, missed_in-few took.results, c.loop-test.true, c.miss-missed.ensures, one_at_most (is_miss c.step-result.result))

pub loop-preserved : goal.loop-preserved
loop-preserved c =
    let before = c.loop.invariant in
    let result = c.step-result.result in
    let step = c.step-result.ensures in
    record {
      took =
          RequestsEach-push c.args.self.now c.loop.self c.step-result.new.self c.args.port c.args.who c.loop.counter result c.args.outs.now.items c.loop.outs.items c.step-result.new.outs.items
          c.loop.missed (c.loop.missed + c.miss-missed.result) before.took before.rules step.step
          (λ missed. (ap (λ (h : HubView). h.state) (step.missed missed).0, (step.missed missed).1)) step.accepted
          (misses_by c.loop.self.misses c.step-result.new.self.misses result (is_miss result) refl step.kept (λ missed. ap (λ (h : HubView). h.misses) (step.missed missed).0))
          (ap (λ n. c.loop.missed + n) c.miss-missed.ensures);
      rules = step.rules ∙ before.rules;
    }

use Rattle.std.proofs.Common.{◌≡◌, ◌++◌, [], ◌∷◌, List, length, ap, subst, sym, ◌∙◌, refl, arith, map-id}
use Rattle.std.proofs.lemmas.Iterator.Consumers.{YieldsList-end}
use Rattle.std.proofs.lemmas.Iterator.Adapters.{YieldsList-from_vec}
use Rattle.std.proofs.lemmas.List.{map-append, length_push}
use Rattle.rx_history.specs.Histories.{Entry}
use Rattle.rx_hub.specs.declared.step.Step.{Step}
use Rattle.rx_hub.specs.Hubs.{HubView, is_miss}
use Rattle.rx_hub.specs.Runs.{Ran, misses_with, misses_after, results_of}
use Rattle.rx_hub.proofs.Running.{Ran-push, misses_by, misses_after-push}
use Rattle.rx_hub.proofs.Sharing.{gives_each}
use Rattle.rx_hub.proofs.hub.Hub.run.Goals as goal

pub loop-port-preserved : goal.loop-port-preserved
loop-port-preserved c =
    let before = c.loop-port.invariant in
    let result = c.step-result.result in
    let step = c.step-result.ensures in
    let outs_to : c.len-in-loop-port.result ≡ length c.step-result.new.outs.items = omega arith in
    let more : c.push_reserved.new.self.items ≡ c.loop-port.steps.items ++ record { result = result; outs_to = length c.step-result.new.outs.items } ∷ [] =
    c.push_reserved.ensures.items ∙ ap (λ n. c.loop-port.steps.items ++ record { result = result; outs_to = n } ∷ []) outs_to in
    let last : Step = record { result = result; outs_to = length c.step-result.new.outs.items } in
    record {
      ran = λ H stands.
          let RanAs : List Step → Type 0 =
          λ steps. Ran c.args.self.now.state.rules c.step-result.new.self.state H (c.loop-port.yielded ++ (c.in-Some.port, c.in-Some.event) ∷ []) steps c.step-result.new.outs.items in
          subst RanAs (sym more)
          (Ran-push c.args.self.now.state.rules c.loop-port.self.state c.step-result.new.self.state H c.loop-port.yielded (c.in-Some.port, c.in-Some.event)
          c.loop-port.steps.items result c.loop-port.outs.items c.step-result.new.outs.items before.rules (before.ran H stands) step.step
          (λ missed. (ap (λ (h : HubView). h.state) (step.missed missed).0, (step.missed missed).1)) step.accepted);
      misses =
          misses_by c.loop-port.self.misses c.step-result.new.self.misses result (is_miss result) refl step.kept
          (λ missed. ap (λ (h : HubView). h.misses) (step.missed missed).0)
          ∙ ap (λ n. misses_with n result) before.misses
          ∙ sym (misses_after-push c.args.self.now.misses (results_of c.loop-port.steps.items) result)
          ∙ sym (ap (misses_after c.args.self.now.misses) (ap results_of more ∙ map-append (λ (s : Step). s.result) c.loop-port.steps.items (last ∷ [])));
      rules = step.rules ∙ before.rules;
      count = omega (arith, c.push_reserved.ensures.len, before.count, length_push c.loop-port.yielded (c.in-Some.port, c.in-Some.event));
      room = omega (arith, c.push_reserved.ensures.capacity, before.room);
    }

pub returns-clause-ran : goal.returns-clause-ran
returns-clause-ran c H stands =
    let items = c.args.events.items in
    let given = c.into_iter-port-iterator.ensures.into_iter_gives in
    let ended = YieldsList-end (YieldsList-from_vec items given.0 (given.1 ∙ c.args.events.ok.0)) c.loop-port.yielded _ c.loop-port.yielded_by c.next.result c.next.new.self c.in-None.is c.next.ensures.steps in
    let all : c.loop-port.yielded ≡ items = sym (map-id c.loop-port.yielded) ∙ ended.0 in
    let RanOf : List Entry → Type 0 =
    λ entries. Ran c.args.self.now.state.rules c.loop-port.self.state H entries c.loop-port.steps.items c.loop-port.outs.items in
    subst RanOf all (c.loop-port.invariant.ran H stands)

pub returns-clause-given : goal.returns-clause-given
returns-clause-given c H stands =
    gives_each c.args.self.now.state.rules c.loop-port.self.state H c.args.events.items c.loop-port.steps.items c.loop-port.outs.items (returns-clause-ran c H stands)

use Rattle.std.proofs.Common.{◌≡◌, ◌∙◌, true, sym, ap, refl, subst, rules}
use Rattle.std.specs.List.{All}
use Rattle.std.proofs.lemmas.List.Elements.{All-weaker}
use Rattle.crossbeam_channel.specs.Claims.{view}
use Rattle.rx_mailbox.specs.Boxes.{Outgoing, Incoming, HasBye}
use Rattle.rx_mailbox.specs.Passes.{settled_of, taken_of, IsEmptied, IsNoted}
use Rattle.rx_mailbox.specs.Settling.{GotAll}
use Rattle.rx_mailbox.proofs.Joins.{byes_of_all, leaves_empty, noted_came}
use Rattle.rx_mailbox.proofs.settlement.settle.Given as given
use Rattle.rx_mailbox.proofs.settlement.settle.Goals as goal

pub returns-then-not-has_each_bye-clause-cause : goal.returns-then-not-has_each_bye-clause-cause
returns-then-not-has_each_bye-clause-cause g c = (
  c.is_each_once.ensures.0 c.if-not-is_each_once.false,
  λ byes. let yes : c.has_each_bye.result ≡ true = c.has_each_bye.ensures.1 byes in cc,
)

pub join_all-requires-clause-byes : goal.join_all-requires-clause-byes
join_all-requires-clause-byes g c =
    let ports = c.args.ports.items in
    let byes = byes_of_all c.args.inbox ports (c.is_each_once.ensures.0 c.if-not-is_each_once.false) (c.has_each_bye.ensures.0 c.if-not-has_each_bye.false) in
    subst (λ (inbox : Incoming _). All (λ (port : Outgoing _). HasBye inbox port.number) ports) (sym c.into_pass-pass.ensures.pass) byes

pub returns-clause-complete : goal.returns-clause-complete
returns-clause-complete g c =
    (c.is_each_once.ensures.0 c.if-not-is_each_once.false, c.has_each_bye.ensures.0 c.if-not-has_each_bye.false)

-- by what the pass knows the box is empty
is_emptied : (g : given.Over) (c : goal.After-join_all g) → IsEmptied (settled_of c.join_all.new.pass)
is_emptied g c =
    let pass = c.join_all.new.pass in
    let once = c.is_each_once.ensures.0 c.if-not-is_each_once.false in
    let made = ap (λ (i : Incoming _). i.ports) (c.join_all.ensures.same ∙ c.into_pass-pass.ensures.pass) in
    record {
      taken = taken_of (view pass);
      knows_both = c.join_all.ensures.reader.view_is;
      received = refl;
      queue = leaves_empty (view pass) c.args.inbox.ports c.args.ports.items c.join_all.ensures.reader made c.join_all.ensures.noted once;
    }

pub returns-clause-shares : goal.returns-clause-shares
returns-clause-shares g c =
    let pass = c.join_all.new.pass in
    let received = ap (λ (i : Incoming _). i.received) (c.join_all.ensures.same ∙ c.into_pass-pass.ensures.pass) in
    All-weaker (IsNoted (view pass)) (GotAll c.args.inbox) (λ port is. noted_came (view pass) c.args.inbox port received is) c.args.ports.items c.join_all.ensures.noted

pub returns-clause-empty : goal.returns-clause-empty
returns-clause-empty g c = is_emptied g c

pub invariant_of-result : goal.invariant_of-result
invariant_of-result g c = (is_emptied g c, search rules)

-- A box settles with its one port where its Bye has come, and then all has come that the port put.
use Rattle.std.proofs.Common.{◌≡◌, ◌∙◌, ◌<◌, ◌==◌, ℕ, zero, suc, Bool, true, false, List, [], ◌∷◌, ◌++◌, Result, Ok, Err, refl, sym, ap, subst, eq-eqb, eqb-true, true≢false, arith}
use Rattle.std.specs.Prelude.{◌↔◌, IfOk, IfErr, IsTrue}
use Rattle.std.specs.List.{All, count_by}
use Rattle.std.specs.Result.{is_ok}
use Rattle.std.proofs.lemmas.List.Elements.{All-cons, All-head, All-nil}
use Rattle.rx_mailbox.specs.Boxes.{Incoming, Outgoing, HasBye, HasEachBye}
use Rattle.rx_mailbox.specs.Settling.{GotAll, IsCause, IsEachOnce}
use Rattle.rx_mailbox.specs.declared.settlement.settle_cause.SettleCause.{SettleCause}
use Rattle.rx_mailbox.specs.declared.settlement.settle_cause.SettleCause.TheVariants.{Stranger, MissingBye}
use Rattle.rx_mailbox.specs.declared.settlement.unsettled.Unsettled.{Unsettled}
use Rattle.rx_workers.specs.Crews.{SettlesWith}
use Rattle.rx_workers.proofs.crew.hired.has_settled.Goals as goal

-- what is ensured where all is well, of nothing that is answered
of_ok : {A E : Type 0} (r : Result A E) (P : Type 0) → is_ok r ≡ true → IfOk r (λ _. P) → P
of_ok (Ok x) P well holds = holds
of_ok (Err e) P well holds = absurd (true≢false (sym well))

-- a number above 0 and not above 1
one_alone : (made : ℕ) → 0 < made → ¬ (1 < made) → made ≡ 1
one_alone zero some few = absurd (omega (arith, some))
one_alone (suc zero) some few = refl
one_alone (suc (suc more)) some few = absurd (few (omega arith))

module _ {B : Type 0} where
  -- a number that one port has is its number
  counted_one : (is : Bool) (port : Outgoing B) (number : ℕ) → (port.number == number) ≡ is → count_by (λ (p : Outgoing B). p.number == number) (port ∷ []) ≡ 1 → port.number ≡ number
  counted_one true port number is one = eqb-true port.number number is
  counted_one false port number is one = absurd (let none : 0 ≡ 1 = rw is at one in omega (arith, none))

  -- one port is each of a box where the box has one, and this is its first
  only_port : (made : ℕ) (port : Outgoing B) → IsEachOnce made (port ∷ []) → (made ≡ 1) × (port.number ≡ 0)
  only_port made port each =
      let below : port.number < made = All-head (λ (p : Outgoing B). p.number < made) port [] each.0 in
      let first : port.number ≡ 0 = counted_one (port.number == 0) port 0 refl (each.1 0 (omega (arith, below))) in
      let few : ¬ (1 < made) = λ more. (let second : port.number ≡ 1 = counted_one (port.number == 1) port 1 refl (each.1 1 more) in omega (arith, first, second)) in
      (one_alone made (omega (arith, below)) few, first)

  port_once : (made : ℕ) (port : Outgoing B) → made ≡ 1 → port.number ≡ 0 → IsEachOnce made (port ∷ [])
  port_once made port one first =
      let below : port.number < made = omega (arith, one, first) in (
        All-cons (λ (p : Outgoing B). p.number < made) port [] below (All-nil (λ (p : Outgoing B). p.number < made)),
        λ number within.
            let same : port.number ≡ number = omega (arith, one, first, within) in
            let is : (port.number == number) ≡ true = eq-eqb port.number number same in
            rw is refl,
      )

  each_bye : (inbox : Incoming B) → inbox.ports ≡ 1 → HasBye inbox 0 → HasEachBye inbox
  each_bye inbox one bye = λ number within.
      let first : 0 ≡ number = omega (arith, one, within) in
      subst (HasBye inbox) first bye

  -- nothing is missing then
  no_cause : (cause : SettleCause) (inbox : Incoming B) (port : Outgoing B) → SettlesWith inbox port → ¬ IsCause inbox (port ∷ []) cause
  no_cause Stranger inbox port with_it cause = cause (port_once inbox.ports port with_it.0 with_it.1)
  no_cause MissingBye inbox port with_it cause = cause.1 (each_bye inbox with_it.0 with_it.2)

  settles_with : {A E : Type 0} (cause : E → SettleCause) (r : Result A E) (inbox : Incoming B) (ports : List (Outgoing B)) (port : Outgoing B) → ports ≡ port ∷ []
      → IfOk r (λ _. IsEachOnce inbox.ports ports × HasEachBye inbox) → IfErr r (λ back. IsCause inbox ports (cause back)) → IsTrue (is_ok r) ↔ SettlesWith inbox port
  settles_with cause (Ok x) inbox ports port are done failed =
      let only = only_port inbox.ports port (subst (IsEachOnce inbox.ports) are done.0) in
      let first : 0 < inbox.ports = omega (arith, only.0) in
      (λ _. (only.0, only.1, done.1 0 first), λ _. refl)
  settles_with cause (Err back) inbox ports port are done failed = (
    λ refused. absurd (true≢false (sym refused)),
    λ with_it. absurd (no_cause (cause back) inbox port with_it (subst (λ (l : List (Outgoing B)). IsCause inbox l (cause back)) are failed)),
  )

pub returns-clause-settles : goal.returns-clause-settles
returns-clause-settles g c =
    let items = c.push_reserved.ensures.items ∙ ap (λ (l : List _). l ++ c.args.port ∷ []) c.requires.none in
    rw c.is_ok.ensures.value
    (settles_with (λ (back : Unsettled _). back.cause) c.settle.result c.args.inbox c.push_reserved.new.self.items c.args.port items c.settle.ensures.complete c.settle.ensures.cause)

pub returns-clause-came : goal.returns-clause-came
returns-clause-came g c = λ yes.
    let items = c.push_reserved.ensures.items ∙ ap (λ (l : List _). l ++ c.args.port ∷ []) c.requires.none in
    let all = of_ok c.settle.result (All (GotAll c.args.inbox) c.push_reserved.new.self.items) (sym c.is_ok.ensures.value ∙ yes) c.settle.ensures.shares in
    subst (All (GotAll c.args.inbox)) items all 0 c.args.port (omega arith)

-- A strategy whose room is out of its limits is of no policy.
use Rattle.std.proofs.Common.{◌≡◌, ◌∙◌, sym, ap, true, Err}
use Rattle.rx_note.specs.Choices.{is_in_limits, policy_made}
use Rattle.rx_note.specs.declared.errors.Errors.{Errors}
use Rattle.rx_note.specs.declared.policy.BadRoom.{BadRoom}
use Rattle.rx_note.specs.declared.strategy.Strategy.{Strategy}
use Rattle.rx_http.proofs.Spelled.{limits-room, strategy-one}
use Rattle.rx_http.proofs.request.policy_words.policy_of.Goals as goal

never : (strategy : Strategy) (errors : Errors) (fault : BadRoom) → is_in_limits strategy ≡ true → Err fault ≡ policy_made strategy errors → ⊥
never strategy errors fault limits same = let made = rw limits at same in cc made

pub returns-in-Err : goal.returns-in-Err
returns-in-Err c = λ policy has.
    let read = rw c.in_ok-strategy.was at c.strategy_in.ensures in
    let one : c.in_ok-strategy.strategy ≡ policy.strategy =
    strategy-one c.in_ok-strategy.strategy policy.strategy read.0 (limits-room policy.strategy has.room) (sym read.1 ∙ has.strategy) in
    let limits : is_in_limits c.in_ok-strategy.strategy ≡ true = ap is_in_limits one ∙ has.room in
    never c.in_ok-strategy.strategy c.in_ok-errors.errors _ limits c.in-Err.ensures

-- The reply to the first call that was posted answers the first note.
use Rattle.std.proofs.Common.{◌≡◌, ◌<◌, ◌+◌, ◌-◌, ◌^◌, ◌∙◌, ◌∷◌, ℕ, min, length, vec_len, ap, refl, subst, sym, arith}
use Rattle.std.specs.List.{All}
use Rattle.rx_desk.proofs.Queues.{KeepsDesk-count, Waits-answered, first-removed, others-stay}
use Rattle.rx_desk.proofs.session_desk.SessionDesk.next_answer.Goals as goal

pub returns : goal.returns
returns g c =
    let posted = c.self.inside.posted.items in
    let place = c.remove-place.result in
    let some = rw (← c.self.view_is) at c.requires in
    let parts = first-removed posted place some c.remove-place.ensures.value ∙ ap (λ l. place ∷ l) (sym c.remove-place.ensures.items) in
    let tickets : c.tickets.result ≡ c.self.inside.calls.tickets = c.tickets.ensures in
    let count : c.len.result ≡ length posted = c.len.ensures.value in
    let before : c.saturating_sub-before.result ≡ c.tickets.result - c.len.result = c.saturating_sub-before.ensures in
    let ticket : c.saturating_add-ticket.result ≡ min (c.saturating_sub-before.result + 1) (2 ^ 64 - 1) = c.saturating_add-ticket.ensures in
    rw (← c.self.view_is)
    (λ base first rest w.
    Waits-answered g.M.Moments.tells base _ _ first rest place c.saturating_add-ticket.result c.answer-answered.result c.response_of.result
    (record { subjects = refl; window = refl; moments = refl; joined = refl }) refl parts (omega arith)
    c.answer-answered.ensures.awaits c.answer-answered.ensures.kept c.response_of.ensures w)

pub invariant_of-self : goal.invariant_of-self
invariant_of-self g c =
    let within = λ (place : ℕ). place < vec_len c.self.inside.config.now.subjects in (
      omega (arith, KeepsDesk-count c.self.inside.calls c.answer-answered.new.self c.answer-answered.ensures.kept, c.self.invariant.0),
      subst (All within) (sym c.remove-place.ensures.items) (others-stay within c.self.inside.posted.items c.self.invariant.1),
      c.self.invariant.2,
    )

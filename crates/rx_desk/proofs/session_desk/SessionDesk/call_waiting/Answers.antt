-- The call that waited answers the first note.
use Rattle.std.proofs.Common.{◌≡◌, ◌∙◌, ◌∷◌, [], Option, ap, refl, sym}
use Rattle.std.specs.Prelude.{option_to_list}
use Rattle.rx_desk.specs.declared.begun_call.BegunCall.{BegunCall}
use Rattle.rx_desk.proofs.Queues.{Waits-called, Waits-none}
use Rattle.rx_desk.proofs.session_desk.SessionDesk.call_waiting.Goals as goal

pub returns-in_default : goal.returns-in_default
returns-in_default g c =
    let none : option_to_list c.self.inside.waiting ≡ [] = ap (λ (o : Option BegunCall). option_to_list o) (sym c.in_default.ensures.value) in
    rw (← c.self.view_is)
    (λ base first rest w. absurd (Waits-none g.M.Moments.tells base _ first rest none (rw (← c.self.view_is) at c.requires) w))

pub returns : goal.returns
returns g c =
    let call : BegunCall = c.in-Some.call in
    let waited : option_to_list c.self.inside.waiting ≡ call ∷ option_to_list c.take.new.self =
    ap (λ (o : Option BegunCall). option_to_list o) (sym c.in-Some.ensures.value) ∙ ap (λ (o : Option BegunCall). call ∷ option_to_list o) (sym c.in-Some.ensures.after) in
    rw (← c.self.view_is)
    (λ base first rest w.
    Waits-called g.M.Moments.tells base _ _ first rest call c.call-answered.result c.response_of.result
    (record { subjects = refl; window = refl; moments = refl; joined = refl }) waited
    (rw (← c.self.view_is) at c.requires) refl c.call-answered.ensures.called c.call-answered.ensures.kept
    (λ over. (c.call-answered.ensures.over over).0) c.response_of.ensures w)

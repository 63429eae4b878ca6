-- The call was posted, or it waits.
use Rattle.std.proofs.Common.{◌++◌, ◌∷◌, ◌∙◌, List, [], Option, ap, refl, sym}
use Rattle.std.specs.Prelude.{option_to_list}
use Rattle.rx_desk.specs.declared.begun_call.BegunCall.{BegunCall}
use Rattle.rx_desk.specs.Queues.{with_waiting}
use Rattle.rx_desk.proofs.Queues.{PostsOne-posted, Waits-posted, Waits-waiting}
use Rattle.rx_desk.proofs.session_desk.SessionDesk.post.Goals as goal

pub returns-in-Ok : goal.returns-in-Ok
returns-in-Ok g c =
    let none = rw (← c.self.view_is) at c.requires.none in
    rw (← c.self.view_is)
    (λ base begun w.
    Waits-posted g.M.Moments.tells base (with_waiting c.args.call _) _ begun c.args.call
    (record { subjects = refl; window = refl; moments = refl; joined = refl })
    (ap (λ (cs : List BegunCall). cs ++ c.args.call ∷ []) none ∙ ap (λ (cs : List BegunCall). c.args.call ∷ cs) (sym none))
    (PostsOne-posted c.self.inside.calls c.post.new.self c.args.call c.in-Ok.ensures.posted c.in-Ok.ensures.kept) c.push.ensures.items w)

pub returns-in-Err : goal.returns-in-Err
returns-in-Err g c =
    let none = rw (← c.self.view_is) at c.requires.none in
    let posted = c.in-Err.ensures.posted in
    rw (← c.self.view_is)
    (λ base begun w.
    Waits-waiting g.M.Moments.tells base _ _ begun c.args.call (record { subjects = refl; window = refl; moments = refl; joined = refl }) posted.1
    (ap (λ (o : Option BegunCall). option_to_list o) c.replace.ensures.after ∙ ap (λ e. record { place = c.args.call.place; event = e } ∷ []) posted.0
    ∙ ap (λ (cs : List BegunCall). cs ++ c.args.call ∷ []) (sym none)) refl w)

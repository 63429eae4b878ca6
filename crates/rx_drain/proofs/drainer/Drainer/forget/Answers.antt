use Rattle.std.proofs.Common.{◌≡◌, ◌∙◌, sym, ap, subst, Bool, true, false, List}
use Rattle.rx_sink.specs.declared.put_away.PutAway.{PutAway}
use Rattle.rx_drain.specs.Drainers.{IsDrained, forgetful, view_of}
use Rattle.rx_drain.proofs.Ending.{drained_forgetful}
use Rattle.rx_drain.proofs.drainer.Drainer.forget.Goals as goal

pub invariant_of-self : goal.invariant_of-self
invariant_of-self g c =
    let inside = c.self.inside in
    let before = view_of inside.hands inside.left inside.fault in
    let after = c.forget.new.self in
    let fits = c.self.invariant.1 in (
      subst (λ (keeps : Bool). IsDrained g.S.Sink.acts (record before { away = after.items; keeps = keeps })) (sym c.forget.ensures.keeps)
          (subst (λ (away : List (PutAway _)). IsDrained g.S.Sink.acts (record before { away = away; keeps = false })) (sym c.forget.ensures.items) (drained_forgetful g.S.Sink.acts before c.self.invariant.0)),
      record {
        leave_is = fits.leave_is;
        away_room = λ is. let none : true ≡ false = sym is ∙ c.forget.ensures.keeps in cc;
        ended_room = fits.ended_room;
        open_ports = fits.open_ports;
        ended_ports = fits.ended_ports;
      },
      c.self.invariant.2,
    )

pub returns : goal.returns
returns g c =
    let inside = c.self.inside in
    let before = view_of inside.hands inside.left inside.fault in
    let after = c.forget.new.self in
    ap (λ (away : List (PutAway _)). record before { away = away; keeps = after.keeps }) c.forget.ensures.items
    ∙ ap (λ (keeps : Bool). record before { keeps = keeps }) c.forget.ensures.keeps
    ∙ ap forgetful c.self.view_is

use Rattle.std.proofs.Common.{◌++◌, map, ap, ◌∙◌}
use Rattle.rx_hub.specs.Audiences.{AudienceState, places_of, observers_on}
use Rattle.rx_hub.specs.Looks.{row_at}
use Rattle.rx_hub.proofs.audience.Audience.show.Goals as goal

pub returns-clause-shown : goal.returns-clause-shown
returns-clause-shown c =
    let a = c.self.inside in
    let observers = observers_on a.tape.items (places_of a.subscriptions.items) in
    c.put_rows.ensures a.tape c.self.invariant.0
    ∙ ap (λ rows. rows ++ map row_at observers) (c.reserve.ensures.items ∙ c.clear.ensures.items)
    ∙ ap (λ (v : AudienceState). map row_at v.observers) c.self.view_is

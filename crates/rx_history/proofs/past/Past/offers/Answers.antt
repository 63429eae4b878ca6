use Rattle.std.proofs.Common.{◌≡◌, refl, rules as all_rules}
use Rattle.rx_history.specs.Histories.{History, item_count}
use Rattle.rx_history.specs.Pasts.{Remembers}
use Rattle.rx_history.proofs.past.Past.offers.Goals as goal

pub returns-in-Publish : goal.returns-in-Publish
returns-in-Publish c =
    let rules = c.args.rules.now in
    let place : (H : History) → Remembers rules c.args.self.now H → c.place.result ≡ item_count rules H = λ H was. c.place.ensures rules H refl was in
    search all_rules

use Rattle.std.proofs.Common.{refl}
use Rattle.rx_hub.specs.Multicasts.{state_of}
use Rattle.rx_hub.proofs.Asking.{nobody}
use Rattle.rx_hub.proofs.Waiting.{count_absent, count_at}
use Rattle.rx_hub.proofs.multicast.Multicast.waiting_of.Goals as goal

pub returns-in_default : goal.returns-in_default
returns-in_default c H stands = count_absent (state_of c.args.self.now) H c.args.who (c.in_default.ensures.none refl) stands

pub returns : goal.returns
returns c H stands =
    let observers = c.args.self.now.audience.observers in
    let is = c.in-Some.ensures.found in
    count_at (state_of c.args.self.now) H c.args.who c.in-Some.place c.waiting_notes.result nobody is.within (is.number nobody) (c.waiting_notes.ensures nobody) stands

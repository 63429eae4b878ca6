-- What was begun is the item of the line.
use Rattle.std.proofs.Common.{rules, [], ◌∷◌, refl}
use Rattle.rx_note.specs.declared.note.Note.TheVariants.{Next}
use Rattle.rx_session.specs.Begun.{asked}
use Rattle.rx_session.specs.Gathering.{Asks}
use Rattle.rx_session.specs.Turns.{asked_by}
use Rattle.rx_session.proofs.Gathering.{IsBehind-more}
use Rattle.rx_session.proofs.open_session.begins.Goals as goal

pub returns : goal.returns
returns g c base notes count behind =
    let note = asked c.of-name.result (Next c.new.result) in
    let asks : Asks (asked_by c.args.read.now) note = (c.in-Ok-Pub.text.now, search rules, search rules) in
    (note ∷ [], (note, refl, asks), IsBehind-more g.D.Desk.waits base notes note c.begin.new.self (c.in-Ok-begin.ensures base notes count behind))

-- A copied item has the text of the copy, and the port and the place of its source.
use Rattle.std.proofs.Common.{ap}
use Rattle.rx_note.specs.declared.item.Item.{Item}
use Rattle.rx_note.specs.declared.text.Text.{Text}
use Rattle.rx_note.proofs.item.Item.copy.Goals as goal

pub returns : goal.returns
returns c =
    let with_text : Text → Item = λ text. record { from = c.args.self.now.from; place = c.args.self.now.place; text = text } in
    ap with_text c.in_ok-text.ensures

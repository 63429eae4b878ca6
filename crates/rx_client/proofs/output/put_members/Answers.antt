use Rattle.std.proofs.Common.{◌≡◌, ◌++◌, ℕ, List, OnOk, subst, sym}
use Rattle.rx_client.specs.Printed.{HasMembers}
use Rattle.rx_client.specs.declared.told.Told.{Told}
use Rattle.rx_client.proofs.output.put_members.Goals as goal

pub returns-in-Item : goal.returns-in-Item
returns-in-Item c =
    subst (λ (told : Told). OnOk c.put_item.result ((members : List ℕ) × HasMembers told members × (c.put_item.new.block.items ≡ c.args.block.now.items ++ members))) (sym c.in-Item.is)
    c.put_item.ensures

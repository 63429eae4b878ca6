-- What is still in a box whose ports have ended, and what the joining of such a port tells (this project's own rule).
use Rattle.std.specs.Prelude.{◌≡◌, true, List, [], ◌++◌}
use Rattle.std.specs.List.{Contains}
use Rattle.rx_mailbox.specs.declared.letter.batch.Batch.{Batch}
use Rattle.rx_mailbox.specs.declared.letter.Letter.{Letter}
use Rattle.rx_mailbox.specs.declared.channel.rule.View.{View}
use Rattle.rx_mailbox.specs.Letters.{has_bye}
use Rattle.rx_mailbox.specs.Batches.{unpacked}
use Rattle.rx_mailbox.specs.Boxes.{HasEachBye, Incoming, Outgoing, incoming}
use Rattle.rx_mailbox.specs.Passes.{notes_of}

module _ {B : Type 0} where
  -- letters more were received, but none where the Bye of each port had been
  pub record ReceivesMore (before after : Incoming B) : Type 0 where
    pub more : List (Letter B)
    pub received : after ≡ incoming before.box before.ports (before.received ++ more)
    pub only_missing : HasEachBye before → more ≡ []

  -- the port was joined, whether its Bye was received or is on its way: the inbox's view has a note of all that it put
  pub record IsJoined (v : View (Batch B)) (port : Outgoing B) : Type 0 where
    pub own : List (Letter (Batch B))
    pub noted : Contains (notes_of v) (port.number, own)
    pub ended : has_bye own ≡ true
    pub unpacks : unpacked own ≡ port.own

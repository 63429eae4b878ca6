-- Replies that came early for a desk (this project's own rule).
--
-- A desk that posted calls to several subjects waits for one reply after another, and the reply to a later call may come meanwhile. It is
-- held aside, and counts as received once its own answer is asked for. So what a desk tells that it received is what its calls took, in
-- their order: of each subject this is what came of it, in the order in which it came, but for what is still held aside. A letter for which
-- no call waits is taken at once, and the desk makes no call any more.
use Rattle.std.specs.Prelude.{◌≡◌, ◌+◌, ℕ, Bool, false, List, [], ◌++◌, length, Option, None, option_to_list}
use Rattle.std.specs.List.{All}
use Rattle.rx_mailbox.specs.declared.letter.Letter.{Letter}
use Rattle.rx_mailbox.specs.declared.letter.Post.TheVariants.{Body}
use Rattle.rx_mailbox.specs.Letters.{share}
use Rattle.rx_mailbox.specs.Boxes.{Incoming, with_letters}
use Rattle.rx_pump.specs.declared.reply.Reply.{Reply}

-- what came for a desk: what its calls took, whether it makes no call any more, what is held aside, and how many calls that were
-- posted have no reply yet
pub record RepliesView (S : Type 0) : Type 0 where
  pub inbox : Incoming (Reply S)
  pub is_over : Bool
  pub early : List (Letter (Reply S))
  pub awaited : ℕ

-- how many calls were replied to or are awaited
abbrev pub call_count : {S : Type 0} → RepliesView S → ℕ
call_count replies = length replies.inbox.received + length replies.early + replies.awaited

module _ {S : Type 0} where
  -- a reply that brings no sink
  abbrev pub IsBare : Letter (Reply S) → Type 0
  IsBare x = (reply : Reply S) × (x.post ≡ Body reply) × (reply.sink ≡ None)

  -- of what an inbox received the calls of a desk took what it tells, and these are held aside
  pub record HoldsAside (told : Incoming (Reply S)) (is_over : Bool) (inbox : Incoming (Reply S)) (early : List (Letter (Reply S))) : Type 0 where
    pub box : inbox.box ≡ told.box
    pub ports : inbox.ports ≡ told.ports
    -- the last that was told may be strange, where the desk makes no call any more: it came behind those that are held aside
    pub taken : List (Letter (Reply S))
    pub strange : Option (Letter (Reply S))
    pub parts : told.received ≡ taken ++ option_to_list strange
    pub goes : is_over ≡ false → strange ≡ None
    pub each : (port : ℕ) → share port inbox.received ≡ share port taken ++ share port (early ++ option_to_list strange)
    pub bare : All IsBare early

  -- letters came: some that were held aside, none of this subject, and then these
  pub record Comes (before after : Incoming (Reply S)) (early_before early_after : List (Letter (Reply S))) (subject : ℕ) (last : List (Letter (Reply S))) : Type 0 where
    pub aside : List (Letter (Reply S))
    pub received : after ≡ with_letters before (aside ++ last)
    pub early : early_after ≡ early_before ++ aside
    pub bare : All IsBare aside
    pub apart : share subject aside ≡ []

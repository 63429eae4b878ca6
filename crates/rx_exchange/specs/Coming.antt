-- What one read makes of the first bytes of a connection.
use Rattle.std.specs.Prelude.{◌≡◌, ◌+◌, ◌<◌, ◌≤◌, ◌⊎◌, ℕ, List, [], ◌++◌, drop, length, take, Option, Result, Ok, Err}
use Rattle.std.specs.Io.KnownBytes.{Consumes, IsAtEnd, Keeps}
use Rattle.rx_http.specs.Asking.{IsReadOfHead}
use Rattle.rx_http.specs.Heads.{HasNoHead, IsHeadAt}
use Rattle.rx_http.specs.declared.request.asked.Asked.{Asked}
use Rattle.rx_http.specs.declared.request.asked.Asked.TheVariants.{Emission, Events, Health, Look, Request, Stop, Texts}
use Rattle.rx_http.specs.declared.answer.refusal.Refusal.{Refusal}
use Rattle.rx_http.specs.declared.answer.refusal.Refusal.TheVariants.{Long, LongHead}
use Rattle.rx_session.specs.declared.session_end.SessionEnd.{SessionEnd}
use Rattle.rx_session.specs.declared.session_end.SessionEnd.TheVariants as ends
use Rattle.rx_exchange.specs.declared.came.Came.{Came}
use Rattle.rx_exchange.specs.declared.came.Came.TheVariants.{Asks, Partly, Nothing, End}

-- how many bytes the text of a request has whose head was read so: its body is the text of an emission, or has
-- the lines of several
abbrev pub size_of : Result Asked Refusal → ℕ
size_of (Ok (Emission subject kind size key)) = size
size_of (Ok (Texts subject size)) = size
size_of (Ok (Events subject policy credit known)) = 0
size_of (Ok (Request subject observer items)) = 0
size_of (Ok Health) = 0
size_of (Ok (Look form)) = 0
size_of (Ok (Stop within)) = 0
size_of (Err cause) = 0

-- the head of the bytes has so many of them, and was read so
pub record IsHeadOf (bytes : List ℕ) (len : ℕ) (read : Result Asked Refusal) : Type 0 where
  pub at : IsHeadAt len bytes
  pub is_read : IsReadOfHead (take len bytes) read

-- the text of a request stands behind its head
pub record HasText (bytes : List ℕ) (len : ℕ) (asked : Result Asked Refusal) (text : List ℕ) : Type 0 where
  pub head : IsHeadOf bytes len asked
  pub fits : len + size_of asked ≤ 8192
  pub whole : size_of asked ≤ length (drop len bytes)
  pub text_is : text ≡ take (size_of asked) (drop len bytes)

-- the head is whole, and the text behind it isn't yet
pub record LacksText (bytes : List ℕ) (len : ℕ) (asked : Result Asked Refusal) : Type 0 where
  pub head : IsHeadOf bytes len asked
  pub fits : len + size_of asked ≤ 8192
  pub lacks : length (drop len bytes) < size_of asked

-- the head with its text is longer than a request may be
pub record IsLong (bytes : List ℕ) (len : ℕ) (read : Result Asked Refusal) : Type 0 where
  pub head : IsHeadOf bytes len read
  pub long : 8192 < len + size_of read

-- the first bytes of a connection, of which no whole request is: no head, or a head whose text isn't whole yet
abbrev pub IsPartly : List ℕ → Type 0
IsPartly bytes = HasNoHead bytes ⊎ ((len : ℕ) × (asked : Result Asked Refusal) × LacksText bytes len asked)

-- what the first bytes of a connection ask for, and with which text: what their head does; or they are refused, where that is longer than
-- a head may be, or the request is longer than one may be
abbrev pub AsksFor : List ℕ → Result Asked Refusal → List ℕ → Type 0
AsksFor bytes asked text =
    ((len : ℕ) × HasText bytes len asked text)
    ⊎ (((len : ℕ) × (read : Result Asked Refusal) × IsLong bytes len read) × (asked ≡ Err Long) × (text ≡ []))
    ⊎ (HasNoHead bytes × (length bytes ≡ 8192) × (asked ≡ Err LongHead) × (text ≡ []))

-- a read gave some bytes, which stand behind those that came before; of all of them something is said
pub record Brings (old new : Option (List ℕ)) (before after : List ℕ) (says : Type 0) : Type 0 where
  pub read : List ℕ
  pub consumed : Consumes old new read
  pub after_is : after ≡ before ++ read
  pub said : says

-- how reading can end
abbrev pub IsEnd : SessionEnd → Option (List ℕ) → Type 0
IsEnd ends.EndOfInput left = IsAtEnd left
IsEnd ends.ReadFault left = Unit {0}
IsEnd ends.Quit left = ⊥
IsEnd ends.HandedOver left = ⊥
IsEnd ends.WriteFault left = ⊥
IsEnd ends.TooManyReads left = ⊥

-- what the bytes are that came
abbrev pub Finds : Came → List ℕ → Type 0
Finds (Asks asked from size) bytes = (from + size ≤ length bytes) × AsksFor bytes asked (take size (drop from bytes))
Finds Partly bytes = IsPartly bytes × (length bytes < 8192)
Finds Nothing bytes = ⊥
Finds (End end) bytes = ⊥

-- where no whole request was among the bytes, none is; and there is room for more
abbrev pub StaysPartly : List ℕ → List ℕ → Type 0
StaysPartly before after = (IsPartly before → IsPartly after) × (length after < 8192)

-- what one read came to, behind some bytes
abbrev pub Comes : Came → Option (List ℕ) → Option (List ℕ) → List ℕ → List ℕ → Type 0
Comes (Asks asked from size) old new before after = Brings old new before after (Finds (Asks asked from size) after)
Comes Partly old new before after = Brings old new before after (StaysPartly before after)
Comes Nothing old new before after = Keeps old new × (after ≡ before)
Comes (End end) old new before after = Brings old new before after (StaysPartly before after × IsEnd end new)

-- What each event of a stream says. The rules are this project's own.
use Rattle.std.specs.Prelude.{◌≡◌, ◌≤◌, ◌&&◌, ℕ, Bool, List, [], ◌++◌, ◌==◌, length, nat_lt, not, true, false, if◌then◌else◌, Option, None, Some, codes, decimal}
use Rattle.std.specs.Str.{is_utf8}
use Rattle.base64.specs.Engines.{standard}
use Rattle.base64.specs.GeneralPurpose.{encode_of}
use Rattle.rx_note.specs.declared.item.Item.{Item}
use Rattle.rx_http.specs.Ids.{id_bytes, id_of}
use Rattle.rx_http.specs.Pieces.{Saying, saying_bytes, text_lines}
use Rattle.rx_http.specs.declared.stream_event.StreamEvent.{StreamEvent}
use Rattle.rx_http.specs.declared.stream_event.StreamEvent.TheVariants.{Joined, Next, Missed, Restarted, Completed, Failed, Overflowed}

-- the kind of an event with a text: where that is no UTF-8, a kind of its own
abbrev pub kind_by : List ℕ → List ℕ → List ℕ
kind_by kind text = if is_utf8 text then kind else kind ++ codes "64"

-- a text as it is told: where it is no UTF-8, in base64
abbrev pub text_by : List ℕ → List ℕ
text_by text = if is_utf8 text then text else encode_of standard text

-- a byte of ASCII that ends no line of a text
abbrev pub is_plain_byte : ℕ → Bool
is_plain_byte byte = nat_lt byte 128 && not (byte == 13)

-- a text that is told as itself on one line
pub record IsLine (text : List ℕ) : Type 0 where
  pub told : is_utf8 text ≡ true
  pub line : text_lines text ≡ text

-- an item whose event goes by one write
pub record IsShort (item : Item) : Type 0 where
  pub few : length item.text ≤ 120
  pub own : (item.place == 4294967295) ≡ false
  pub line : IsLine item.text

-- the id of an item: its place; none of a seed, which has the last place of all
abbrev pub item_id : List ℕ → ℕ → Option (List ℕ)
item_id epoch place = if place == 4294967295 then None else Some (id_bytes epoch (Some place) false)

-- what an item says in an epoch
abbrev pub item_saying : List ℕ → Item → Saying
item_saying epoch item = record { id = item_id epoch item.place; kind = kind_by (codes "next") item.text; text = text_by item.text }

-- the bytes of the event of an item
abbrev pub item_bytes : List ℕ → Item → List ℕ
item_bytes epoch item = saying_bytes (item_saying epoch item)

-- what an event says in an epoch
abbrev pub saying_of : List ℕ → StreamEvent → Saying
saying_of epoch (Joined who known) = record { id = Some (id_bytes epoch known false); kind = codes "joined"; text = id_bytes epoch (Some who) false }
saying_of epoch (Next item) = item_saying epoch item.now
saying_of epoch (Missed count last) = record { id = Some (id_bytes epoch (Some last) false); kind = codes "missed"; text = decimal count }
saying_of epoch (Restarted sent) = record { id = Some (id_bytes epoch None false); kind = codes "restarted"; text = id_of sent.now }
saying_of epoch (Completed known) = record { id = Some (id_bytes epoch known true); kind = codes "done"; text = [] }
saying_of epoch (Failed text known) = record { id = Some (id_bytes epoch known true); kind = kind_by (codes "failed") text.now; text = text_by text.now }
saying_of epoch Overflowed = record { id = None; kind = codes "overflow"; text = [] }

-- the bytes of an event
abbrev pub event_bytes : List ℕ → StreamEvent → List ℕ
event_bytes epoch event = saying_bytes (saying_of epoch event)

-- Each event can be told.
use Rattle.std.proofs.Common.{◌≡◌, ℕ, ◌^◌, ◌<◌, ◌==◌, Bool, true, false, cond, List, ◌++◌, codes, decimal, Option, None, Some, refl, arith}
use Rattle.std.specs.Str.{is_utf8}
use Rattle.base64.specs.Engines.{standard}
use Rattle.base64.specs.GeneralPurpose.{encode_of}
use Rattle.rx_proto.specs.LineFeeds.{HasNoLf}
use Rattle.rx_http.specs.Epochs.{IsEpoch}
use Rattle.rx_http.specs.Events.{item_id, kind_by, saying_of, text_by}
use Rattle.rx_http.specs.Ids.{id_bytes}
use Rattle.rx_http.specs.Laws.{IsEvent, IsPlace}
use Rattle.rx_http.specs.Reading.{kind_of}
use Rattle.rx_http.specs.declared.stream_event.StreamEvent.{StreamEvent}
use Rattle.rx_http.specs.declared.stream_event.StreamEvent.TheVariants.{Joined, Next, Missed, Restarted, Completed, Failed, Overflowed}
use Rattle.rx_http.proofs.Back.{CanBeTold, IsPlainId}
use Rattle.rx_http.proofs.Plain.{IsPlain, IsOneLine, coded-plain, decimal-seen, id-seen, no_lf-one_line, plain-one_line, plain-test, seen-no_nul, seen-plain}

id-plain : (epoch : List ℕ) (place : Option ℕ) (over : Bool) → IsEpoch epoch → IsPlace place → IsPlainId (Some (id_bytes epoch place over))
id-plain epoch place over is fits =
    let id = id_bytes epoch place over in
    let seen = id-seen epoch place over is fits in
    (seen-plain id seen, seen-no_nul id seen)

id-one_line : (epoch : List ℕ) (place : Option ℕ) (over : Bool) → IsEpoch epoch → IsPlace place → IsOneLine (id_bytes epoch place over)
id-one_line epoch place over is fits = plain-one_line (id_bytes epoch place over) (id-plain epoch place over is fits).0

item_id-plain : (epoch : List ℕ) (place : ℕ) → IsEpoch epoch → place < 2 ^ 32 → IsPlainId (item_id epoch place)
item_id-plain epoch place is fits = elim (place == 4294967295) as (λ seed. IsPlainId (cond seed None (Some (id_bytes epoch (Some place) false)))) [
  | true ↦ tt
  | false ↦ id-plain epoch (Some place) false is fits
]

-- a kind that can be told
abbrev IsKind : List ℕ → Type 0
IsKind kind = IsPlain kind × (kind_of kind ≡ kind)

kind_by-is : (kind text : List ℕ) → IsKind kind → IsKind (kind ++ codes "64") → IsKind (kind_by kind text)
kind_by-is kind text itself coded = elim (is_utf8 text) as (λ is. IsKind (cond is kind (kind ++ codes "64"))) [ true ↦ itself | false ↦ coded ]

text_by-one_line : (text : List ℕ) → HasNoLf text → IsOneLine (text_by text)
text_by-one_line text none = elim (is_utf8 text) as (λ is. IsOneLine (cond is text (encode_of standard text))) [
  | true ↦ no_lf-one_line text none
  | false ↦ plain-one_line (encode_of standard text) (coded-plain text)
]

next-kind : (text : List ℕ) → IsKind (kind_by (codes "next") text)
next-kind text = kind_by-is (codes "next") text (plain-test (codes "next") refl, refl) (plain-test (codes "next64") refl, refl)

failed-kind : (text : List ℕ) → IsKind (kind_by (codes "failed") text)
failed-kind text = kind_by-is (codes "failed") text (plain-test (codes "failed") refl, refl) (plain-test (codes "failed64") refl, refl)

pub event-told : (epoch : List ℕ) (event : StreamEvent) → IsEpoch epoch → IsEvent event → CanBeTold (saying_of epoch event)
event-told epoch (Joined who known) is fits = record {
  id = id-plain epoch known false is fits.1;
  kind = plain-test (codes "joined") refl;
  named = refl;
  text = id-one_line epoch (Some who) false is fits.0;
}
event-told epoch (Next item) is fits = record {
  id = item_id-plain epoch item.now.place is fits.0;
  kind = (next-kind item.now.text).0;
  named = (next-kind item.now.text).1;
  text = text_by-one_line item.now.text fits.1;
}
event-told epoch (Missed count last) is fits = record {
  id = id-plain epoch (Some last) false is fits.1;
  kind = plain-test (codes "missed") refl;
  named = refl;
  text = plain-one_line (decimal count) (seen-plain (decimal count) (decimal-seen count (let few = fits.0 in omega arith)));
}
event-told epoch (Restarted sent) is fits = record {
  id = id-plain epoch None false is tt;
  kind = plain-test (codes "restarted") refl;
  named = refl;
  text = id-one_line sent.now.epoch sent.now.place sent.now.over fits.0 fits.1;
}
event-told epoch (Completed known) is fits = record {
  id = id-plain epoch known true is fits;
  kind = plain-test (codes "done") refl;
  named = refl;
  text = tt;
}
event-told epoch (Failed text known) is fits = record {
  id = id-plain epoch known true is fits.1;
  kind = (failed-kind text.now).0;
  named = (failed-kind text.now).1;
  text = text_by-one_line text.now fits.0;
}
event-told epoch Overflowed is fits = record { id = tt; kind = plain-test (codes "overflow") refl; named = refl; text = tt }

-- What is written is UTF-8.
use Rattle.std.proofs.Common.{◌≡◌, ℕ, ◌+◌, ◌<◌, ◌^◌, ◌==◌, Bool, true, false, cond, ◌&&◌, nat_lt, List, [], ◌∷◌, ◌++◌, length, take, drop, get_or, codes, decimal, Option, None, Some, inl, inr, refl, sym, ap, subst, ◌∙◌, append_assoc, arith}
use Rattle.std.proofs.lemmas.Bool.{eqb-true, ltb-true}
use Rattle.std.proofs.lemmas.Fmt.{IsAscii-decimal}
use Rattle.std.proofs.lemmas.List.{drop_at, get_or_at, length-append, take_at}
use Rattle.std.proofs.lemmas.Str.{IsAscii-append, IsCharBoundary-after_ascii, IsCharBoundary-before_ascii, IsUtf8-append, IsUtf8-drop, IsUtf8-from_ascii, IsUtf8-from_is_utf8, IsUtf8-nil, IsUtf8-take}
use Rattle.std.proofs.lemmas.Str.Ascii.{IsAscii-cons, IsAscii-nil}
use Rattle.std.specs.List.{AllByRecursion, list_all}
use Rattle.std.specs.Str.{IsAscii, IsUtf8, is_utf8}
use Rattle.base64.proofs.EngineFacts.{IsAscii-encode_of}
use Rattle.base64.specs.Engines.{standard}
use Rattle.base64.specs.GeneralPurpose.{encode_of}
use Rattle.rx_http.specs.Epochs.{IsEpoch, IsEpochByte}
use Rattle.rx_http.specs.Events.{event_bytes, item_id, kind_by, saying_of, text_by}
use Rattle.rx_http.specs.Ids.{id_bytes, over_word, place_digits}
use Rattle.rx_http.specs.Laws.{Event, Retry, Heartbeat, IsEvent, IsPlace, StreamIsUtf8, stream_of}
use Rattle.rx_http.specs.Pieces.{Saying, heartbeat_line, id_line, kind_line, retry_line, saying_bytes, text_lines}
use Rattle.rx_http.specs.declared.stream_event.StreamEvent.{StreamEvent}
use Rattle.rx_http.specs.declared.stream_event.StreamEvent.TheVariants.{Joined, Next, Missed, Restarted, Completed, Failed, Overflowed}

-- WORDS

word-more : (test : Bool) (byte : ℕ) (bytes : List ℕ) → nat_lt byte 128 ≡ test → (test && list_all (λ b. nat_lt b 128) bytes) ≡ true → (list_all (λ b. nat_lt b 128) bytes ≡ true → IsAscii bytes) → IsAscii (byte ∷ bytes)
word-more true byte bytes low each rest = IsAscii-cons byte bytes (ltb-true byte 128 low) (rest each)
word-more false byte bytes high each rest = cc

word-ascii : (bytes : List ℕ) → list_all (λ b. nat_lt b 128) bytes ≡ true → IsAscii bytes
word-ascii [] each = IsAscii-nil
word-ascii (byte ∷ bytes) each = word-more (nat_lt byte 128) byte bytes refl each (word-ascii bytes)

-- a word of ASCII, by computation
pub word : (bytes : List ℕ) → list_all (λ b. nat_lt b 128) bytes ≡ true → IsUtf8 bytes
word bytes each = IsUtf8-from_ascii bytes (word-ascii bytes each)

-- A TEXT

-- what stands before a CR, and behind it
around : (xs ys : List ℕ) → IsUtf8 (xs ++ 13 ∷ ys) → IsUtf8 xs × IsUtf8 ys
around xs ys whole =
    let bytes = xs ++ 13 ∷ ys in
    let i = length xs in
    let below : i < length bytes = omega (arith, length-append xs (13 ∷ ys)) in
    let cr : get_or bytes i 0 ≡ 13 = get_or_at xs 13 ys 0 i refl in
    let ascii : get_or bytes i 0 < 128 = omega arith in
    let more : length (xs ++ 13 ∷ []) ≡ i + 1 = omega (arith, length-append xs (13 ∷ [])) in
    let front : take i bytes ≡ xs = take_at xs (13 ∷ ys) i refl in
    let back : drop (i + 1) bytes ≡ ys = ap (drop (i + 1)) (sym (append_assoc xs (13 ∷ []) ys)) ∙ drop_at (xs ++ 13 ∷ []) ys (i + 1) more in (
      subst IsUtf8 front (IsUtf8-take bytes i whole (IsCharBoundary-before_ascii bytes i below ascii)),
      subst IsUtf8 back (IsUtf8-drop bytes (i + 1) whole (IsCharBoundary-after_ascii bytes i whole below ascii)),
    )

lines-by : (cr : Bool) (byte : ℕ) (done text : List ℕ) → (byte == 13) ≡ cr → ((before : List ℕ) → IsUtf8 (before ++ text) → IsUtf8 (before ++ text_lines text)) → IsUtf8 (done ++ byte ∷ text)
    → IsUtf8 (done ++ (cond cr (codes "\ndata: ") (byte ∷ []) ++ text_lines text))
lines-by true byte done text is_cr rest whole =
    let cr : byte ≡ 13 = eqb-true byte 13 is_cr in
    let parts = around done text (subst (λ b. IsUtf8 (done ++ b ∷ text)) cr whole) in
    IsUtf8-append done (codes "\ndata: " ++ text_lines text) parts.0 (IsUtf8-append (codes "\ndata: ") (text_lines text) (word (codes "\ndata: ") refl) (rest [] parts.1))
lines-by false byte done text no_cr rest whole =
    subst IsUtf8 (append_assoc done (byte ∷ []) (text_lines text)) (rest (done ++ byte ∷ []) (subst IsUtf8 (sym (append_assoc done (byte ∷ []) text)) whole))

lines-utf8 : (text done : List ℕ) → IsUtf8 (done ++ text) → IsUtf8 (done ++ text_lines text)
lines-utf8 [] done whole = whole
lines-utf8 (byte ∷ text) done whole = lines-by (byte == 13) byte done text refl (lines-utf8 text) whole

text_by-choice : (text : List ℕ) (is : Bool) → is_utf8 text ≡ is → IsUtf8 (cond is text (encode_of standard text))
text_by-choice text true is = IsUtf8-from_is_utf8 text is
text_by-choice text false is = IsUtf8-from_ascii (encode_of standard text) (IsAscii-encode_of standard text)

text_by-utf8 : (text : List ℕ) → IsUtf8 (text_by text)
text_by-utf8 text = text_by-choice text (is_utf8 text) refl

-- IDS AND NUMBERS

epoch_byte-ascii : (byte : ℕ) → IsEpochByte byte → byte < 128
epoch_byte-ascii byte (inl digit) = let high = digit.1 in omega arith
epoch_byte-ascii byte (inr letter) = let high = letter.1 in omega arith

epoch-ascii : (bytes : List ℕ) → AllByRecursion IsEpochByte bytes → IsAscii bytes
epoch-ascii [] each = IsAscii-nil
epoch-ascii (byte ∷ bytes) each = IsAscii-cons byte bytes (epoch_byte-ascii byte each.0) (epoch-ascii bytes each.1)

place-ascii : (place : Option ℕ) → IsPlace place → IsAscii (place_digits place)
place-ascii None fits = IsAscii-nil
place-ascii (Some place) fits = IsAscii-decimal place (omega arith)

over-ascii : (over : Bool) → IsAscii (over_word over)
over-ascii true = word-ascii (codes "-over") refl
over-ascii false = IsAscii-nil

id-utf8 : (epoch : List ℕ) (place : Option ℕ) (over : Bool) → IsEpoch epoch → IsPlace place → IsUtf8 (id_bytes epoch place over)
id-utf8 epoch place over is fits =
    let behind = place_digits place ++ over_word over in
    IsUtf8-from_ascii (id_bytes epoch place over)
    (IsAscii-append epoch (45 ∷ behind) (epoch-ascii epoch is.each)
    (IsAscii-cons 45 behind (omega arith) (IsAscii-append (place_digits place) (over_word over) (place-ascii place fits) (over-ascii over))))

decimal-utf8 : (n : ℕ) → n < 2 ^ 32 → IsUtf8 (decimal n)
decimal-utf8 n fits = IsUtf8-from_ascii (decimal n) (IsAscii-decimal n (omega arith))

-- WHAT EACH EVENT SAYS

-- what a message says is UTF-8
pub record SaysUtf8 (saying : Saying) : Type 0 where
  pub id : IsUtf8 (id_line saying.id)
  pub kind : IsUtf8 saying.kind
  pub text : IsUtf8 saying.text

id_line-utf8 : (epoch : List ℕ) (place : Option ℕ) (over : Bool) → IsEpoch epoch → IsPlace place → IsUtf8 (id_line (Some (id_bytes epoch place over)))
id_line-utf8 epoch place over is fits =
    let id = id_bytes epoch place over in
    IsUtf8-append (codes "id: ") (id ++ codes "\n") (word (codes "id: ") refl) (IsUtf8-append id (codes "\n") (id-utf8 epoch place over is fits) (word (codes "\n") refl))

item_id-utf8 : (epoch : List ℕ) (place : ℕ) → IsEpoch epoch → place < 2 ^ 32 → IsUtf8 (id_line (item_id epoch place))
item_id-utf8 epoch place is fits = elim (place == 4294967295) as (λ seed. IsUtf8 (id_line (cond seed None (Some (id_bytes epoch (Some place) false))))) [
  | true ↦ IsUtf8-nil
  | false ↦ id_line-utf8 epoch (Some place) false is fits
]

kind_by-utf8 : (kind text : List ℕ) → IsUtf8 kind → IsUtf8 (kind ++ codes "64") → IsUtf8 (kind_by kind text)
kind_by-utf8 kind text itself coded = elim (is_utf8 text) as (λ is. IsUtf8 (cond is kind (kind ++ codes "64"))) [ true ↦ itself | false ↦ coded ]

says-utf8 : (epoch : List ℕ) (event : StreamEvent) → IsEpoch epoch → IsEvent event → SaysUtf8 (saying_of epoch event)
says-utf8 epoch (Joined who known) is fits = record {
  id = id_line-utf8 epoch known false is fits.1;
  kind = word (codes "joined") refl;
  text = id-utf8 epoch (Some who) false is fits.0;
}
says-utf8 epoch (Next item) is fits = record {
  id = item_id-utf8 epoch item.now.place is fits.0;
  kind = kind_by-utf8 (codes "next") item.now.text (word (codes "next") refl) (word (codes "next64") refl);
  text = text_by-utf8 item.now.text;
}
says-utf8 epoch (Missed count last) is fits = record {
  id = id_line-utf8 epoch (Some last) false is fits.1;
  kind = word (codes "missed") refl;
  text = decimal-utf8 count fits.0;
}
says-utf8 epoch (Restarted sent) is fits = record {
  id = id_line-utf8 epoch None false is tt;
  kind = word (codes "restarted") refl;
  text = id-utf8 sent.now.epoch sent.now.place sent.now.over fits.0 fits.1;
}
says-utf8 epoch (Completed known) is fits = record {
  id = id_line-utf8 epoch known true is fits;
  kind = word (codes "done") refl;
  text = IsUtf8-nil;
}
says-utf8 epoch (Failed text known) is fits = record {
  id = id_line-utf8 epoch known true is fits.1;
  kind = kind_by-utf8 (codes "failed") text.now (word (codes "failed") refl) (word (codes "failed64") refl);
  text = text_by-utf8 text.now;
}
says-utf8 epoch Overflowed is fits = record { id = IsUtf8-nil; kind = word (codes "overflow") refl; text = IsUtf8-nil }

-- THE STREAM

saying-utf8 : (saying : Saying) → SaysUtf8 saying → IsUtf8 (saying_bytes saying)
saying-utf8 saying says =
    let behind = text_lines saying.text ++ codes "\n\n" in
    IsUtf8-append (id_line saying.id) (kind_line saying.kind ++ behind) says.id
    (IsUtf8-append (kind_line saying.kind) behind
    (IsUtf8-append (codes "event: ") (saying.kind ++ codes "\ndata: ") (word (codes "event: ") refl)
    (IsUtf8-append saying.kind (codes "\ndata: ") says.kind (word (codes "\ndata: ") refl)))
    (IsUtf8-append (text_lines saying.text) (codes "\n\n") (lines-utf8 saying.text [] says.text) (word (codes "\n\n") refl)))

retry-utf8 : (ms : ℕ) → ms < 2 ^ 32 → IsUtf8 (retry_line ms)
retry-utf8 ms fits =
    IsUtf8-append (codes "retry: ") (decimal ms ++ codes "\n") (word (codes "retry: ") refl)
    (IsUtf8-append (decimal ms) (codes "\n") (decimal-utf8 ms fits) (word (codes "\n") refl))

pub stream_is_utf8 : StreamIsUtf8
stream_is_utf8 epoch [] is are = IsUtf8-nil
stream_is_utf8 epoch (Event event ∷ pieces) is are =
    IsUtf8-append (event_bytes epoch event) (stream_of epoch pieces) (saying-utf8 (saying_of epoch event) (says-utf8 epoch event is are.0)) (stream_is_utf8 epoch pieces is are.1)
stream_is_utf8 epoch (Retry ms ∷ pieces) is are = IsUtf8-append (retry_line ms) (stream_of epoch pieces) (retry-utf8 ms are.0) (stream_is_utf8 epoch pieces is are.1)
stream_is_utf8 epoch (Heartbeat ∷ pieces) is are = IsUtf8-append heartbeat_line (stream_of epoch pieces) (word heartbeat_line refl) (stream_is_utf8 epoch pieces is are)

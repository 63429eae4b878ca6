-- Each answer is one of the grammar: its parts are tested, and its bytes are those that the grammar prints.
use Rattle.std.proofs.Common.{◌≡◌, ◌≤◌, ◌<◌, ◌+◌, ◌*◌, ◌%◌, ◌^◌, ◌==◌, ℕ, Bool, true, false, not, ◌&&◌, ◌||◌, List, [], ◌∷◌, ◌++◌, codes, decimal, length, length-append, map, nat_eq, Option, None, Some, refl, sym, ap, ◌∙◌, append_assoc, arith}
use Rattle.std.proofs.lemmas.Bool.{eqb-true, le-leb, leb-true, ltb-true, ne_eqb}
use Rattle.std.proofs.lemmas.Fmt.{decimal_by_steps, length-decimal-le}
use Rattle.std.proofs.lemmas.List.Elements.{All-cons, All-nil}
use Rattle.std.proofs.lemmas.List.Sums.{AllPass-from_list_all}
use Rattle.std.specs.Char.{is_ascii_digit}
use Rattle.std.specs.Fmt.{digits}
use Rattle.std.specs.List.{All, AllByRecursion, join_with_byte, list_all}
use Rattle.std.specs.Prelude.{nat_le}
use Rattle.httparse.proofs.OnLiterals.{httparse_on_literals}
use Rattle.httparse.specs.Grammar.{Field, IsField, IsResponseHead, ReadsResponse, ResponseHead, is_token, is_value_byte, reason_phrase}
use Rattle.rx_http.specs.Answers.{accepted_body, advice_of, again_member, answer_bytes, cut_body, error_of, fields_of, place_member, placed_body, places_member, refusal_body, sized, status_of}
use Rattle.rx_http.specs.Epochs.{IsEpoch}
use Rattle.rx_http.specs.Laws.{IsPlace}
use Rattle.rx_http.specs.Responses.{AnswersAreRead, ArePlaces, body_of, head_of, refusal_head}
use Rattle.rx_http.specs.declared.answer.Answer.TheVariants.{Events, Over, Well, Unwell, Accepted, Placed, Cut, Requested, Shown, Stops, Refused}
use Rattle.rx_http.specs.declared.request.look_form.LookForm.TheVariants.{Stats, Metrics, Lines, Page}
use Rattle.rx_http.specs.declared.answer.refusal.Refusal.{Refusal}
use Rattle.rx_http.specs.declared.answer.refusal.Refusal.TheVariants.{Head, Word, LastEventId, LinesWord, Lf, Key, Items, Within, Origin, NoStop, ReadOnly, Subject, Path, Observer, Method, OnlyGet, OnlyPost, Length, Long, Ended, Spent, LongHead, Gone, Full, Stopping, Memory}

both : {P : Type 0} (a b : Bool) → (a && b) ≡ true → (a ≡ true → b ≡ true → P) → P
both true true is then = then refl refl
both true false is then = cc
both false b is then = cc

-- whether a field is one
abbrev is_field : Field → Bool
is_field field = is_token field.name && list_all is_value_byte field.raw

field-is : (field : Field) → is_field field ≡ true → IsField field
field-is field is = both (is_token field.name) (list_all is_value_byte field.raw) is (λ name raw. record {
  name = both _ _ name (λ some each. (ltb-true 0 (length field.name) some, AllPass-from_list_all _ field.name each));
  raw = AllPass-from_list_all is_value_byte field.raw raw;
})

fields-are : (fields : List Field) → list_all is_field fields ≡ true → All IsField fields
fields-are [] is = All-nil IsField
fields-are (field ∷ fields) is =
    both (is_field field) (list_all is_field fields) is (λ this more. All-cons IsField field fields (field-is field this) (fields-are fields more))

-- whether a head is one
abbrev is_head : ResponseHead → Bool
is_head h = nat_le h.minor 1 && (nat_eq (length h.digits) 3 && (list_all is_ascii_digit h.digits && (list_all is_value_byte (reason_phrase h.reason) && list_all is_field h.fields)))

head-is : (h : ResponseHead) → is_head h ≡ true → IsResponseHead h
head-is h is =
    both _ _ is (λ minor rest. both _ _ rest (λ three rest. both _ _ rest (λ digits rest. both _ _ rest (λ reason fields. record {
      minor = leb-true h.minor 1 minor;
      digits = (eqb-true (length h.digits) 3 three, AllPass-from_list_all is_ascii_digit h.digits digits);
      reason = AllPass-from_list_all is_value_byte (reason_phrase h.reason) reason;
      fields = fields-are h.fields fields;
    }))))

-- a number is a value
value-byte : (byte : ℕ) → 33 ≤ byte → byte < 127 → is_value_byte byte ≡ true
value-byte byte low high =
    ap (λ b. b || (nat_le 32 byte && not (byte == 127))) (ne_eqb byte 9 (λ same. omega arith))
    ∙ ap (λ b. b && not (byte == 127)) (le-leb 32 byte (omega arith))
    ∙ ap (λ b. not b) (ne_eqb byte 127 (λ same. omega arith))

values-append : (xs ys : List ℕ) → list_all is_value_byte xs ≡ true → list_all is_value_byte ys ≡ true → list_all is_value_byte (xs ++ ys) ≡ true
values-append [] ys p q = q
values-append (x ∷ xs) ys p q =
    both (is_value_byte x) (list_all is_value_byte xs) p (λ this more. ap (λ b. b && list_all is_value_byte (xs ++ ys)) this ∙ values-append xs ys more q)

digit-value : (n : ℕ) → n < 10 → list_all is_value_byte ((48 + n) ∷ []) ≡ true
digit-value n one = ap (λ b. b && true) (value-byte (48 + n) (omega arith) (omega arith))

decimal-values : (n : ℕ) → n < 2 ^ 64 → list_all is_value_byte (decimal n) ≡ true
decimal-values n fits =
    decimal_by_steps (λ n digits. list_all is_value_byte digits ≡ true) digit-value
    (λ n digits more before. values-append digits ((48 + n % 10) ∷ []) before (digit-value (n % 10) (omega arith)))
    n fits

-- the answer to an emission: its length is a number

place-few : (place : Option ℕ) → IsPlace place → length (place_member place) ≤ 20
place-few None fits = omega arith
place-few (Some place) fits = omega (arith, length-decimal-le 10 place (omega arith) (omega arith) (omega arith))

again-few : (again : Bool) → length (again_member again) ≤ 20
again-few true = omega arith
again-few false = omega arith

accepted-few : (epoch : List ℕ) (place : Option ℕ) (again : Bool) → IsEpoch epoch → IsPlace place → length (accepted_body epoch place again) < 2 ^ 64
accepted-few epoch place again is fits =
    let few = is.few in
    let end = again_member again ++ codes "}\n" in
    omega (
      arith,
      length-append epoch (codes "\"" ++ (place_member place ++ end)),
      length-append (place_member place) end,
      length-append (again_member again) (codes "}\n"),
      place-few place fits,
      again-few again,
    )

-- what stands behind a length
behind : (digits end others last : List ℕ) → ((digits ++ end) ++ others) ++ last ≡ digits ++ (end ++ (others ++ last))
behind digits end others last = append_assoc (digits ++ end) others last ∙ append_assoc digits end (others ++ last)

-- an answer in JSON with this length and body
abbrev with_length : List ℕ → List ℕ → List ℕ
with_length rest body = (codes "HTTP/1.1 200 OK\r\nContent-Type: application/json\r\nContent-Length: " ++ rest) ++ body

-- one in numbers, one in words and one for a browser
abbrev in_numbers : List ℕ → List ℕ → List ℕ
in_numbers rest body = (codes "HTTP/1.1 200 OK\r\nContent-Type: text/plain; version=0.0.4\r\nContent-Length: " ++ rest) ++ body

abbrev in_words : List ℕ → List ℕ → List ℕ
in_words rest body = (codes "HTTP/1.1 200 OK\r\nContent-Type: text/plain; charset=utf-8\r\nContent-Length: " ++ rest) ++ body

abbrev as_page : List ℕ → List ℕ → List ℕ
as_page rest body = (codes "HTTP/1.1 200 OK\r\nContent-Type: text/html; charset=utf-8\r\nContent-Length: " ++ rest) ++ body

abbrev framed : List ℕ
framed = codes "Content-Security-Policy: frame-ancestors 'none'\r\n"

abbrev others : List ℕ
others = codes "Cache-Control: no-store\r\nX-Content-Type-Options: nosniff\r\nConnection: close\r\n"

stats_are_read : (body : List ℕ) → length body < 2 ^ 32 → ReadsResponse (answer_bytes (Shown Stats body)) (head_of (Shown Stats body)) body
unfolding httparse_on_literals
stats_are_read body few =
    (head-is _ (ap (λ b. b && true) (decimal-values (length body) (omega arith))), ap (λ l. with_length l body) (sym (behind (decimal (length body)) (codes "\r\n") others (codes "\r\n"))))

metrics_are_read : (body : List ℕ) → length body < 2 ^ 32 → ReadsResponse (answer_bytes (Shown Metrics body)) (head_of (Shown Metrics body)) body
unfolding httparse_on_literals
metrics_are_read body few =
    (head-is _ (ap (λ b. b && true) (decimal-values (length body) (omega arith))), ap (λ l. in_numbers l body) (sym (behind (decimal (length body)) (codes "\r\n") others (codes "\r\n"))))

lines_are_read : (body : List ℕ) → length body < 2 ^ 32 → ReadsResponse (answer_bytes (Shown Lines body)) (head_of (Shown Lines body)) body
unfolding httparse_on_literals
lines_are_read body few =
    (head-is _ (ap (λ b. b && true) (decimal-values (length body) (omega arith))), ap (λ l. in_words l body) (sym (behind (decimal (length body)) (codes "\r\n") others (codes "\r\n"))))

page_is_read : (body : List ℕ) → length body < 2 ^ 32 → ReadsResponse (answer_bytes (Shown Page body)) (head_of (Shown Page body)) body
unfolding httparse_on_literals
page_is_read body few =
    (head-is _ (ap (λ b. b && true) (decimal-values (length body) (omega arith))), ap (λ l. as_page l body) (sym (behind (decimal (length body)) (codes "\r\n") (others ++ framed) (codes "\r\n"))))

accepted_are_read : (epoch : List ℕ) (place : Option ℕ) (again : Bool) → IsEpoch epoch → IsPlace place
    → ReadsResponse (answer_bytes (Accepted epoch place again)) (head_of (Accepted epoch place again)) (body_of (Accepted epoch place again))
unfolding httparse_on_literals
accepted_are_read epoch place again is fits =
    let body = accepted_body epoch place again in
    let few = accepted-few epoch place again is fits in
    (head-is _ (ap (λ b. b && true) (decimal-values (length body) few)), ap (λ l. with_length l body) (sym (behind (decimal (length body)) (codes "\r\n") others (codes "\r\n"))))

-- the words of a refusal are few
words-few : (refusal : Refusal) → length (error_of refusal) + length (advice_of refusal) ≤ 300
words-few Head = omega arith
words-few Word = omega arith
words-few LastEventId = omega arith
words-few LinesWord = omega arith
words-few Lf = omega arith
words-few Key = omega arith
words-few Items = omega arith
words-few Within = omega arith
words-few Origin = omega arith
words-few NoStop = omega arith
words-few ReadOnly = omega arith
words-few Subject = omega arith
words-few Path = omega arith
words-few Observer = omega arith
words-few Method = omega arith
words-few OnlyGet = omega arith
words-few OnlyPost = omega arith
words-few Length = omega arith
words-few Long = omega arith
words-few Spent = omega arith
words-few LongHead = omega arith
words-few Ended = omega arith
words-few Gone = omega arith
words-few Full = omega arith
words-few Stopping = omega arith
words-few Memory = omega arith

refusal-few : (refusal : Refusal) → length (refusal_body refusal) < 2 ^ 64
refusal-few refusal =
    let end = advice_of refusal ++ codes "\"}\n" in
    omega (
      arith,
      length-append (error_of refusal) (codes "\",\"text\":\"" ++ end),
      length-append (advice_of refusal) (codes "\"}\n"),
      words-few refusal,
    )

-- the answer to lines: its length is a number

joined-few : (places : List ℕ) → AllByRecursion (λ place. place < 2 ^ 32) places → length (join_with_byte 44 (map decimal places)) ≤ 11 * length places
joined-few [] each = omega arith
joined-few (place ∷ []) each = omega (arith, length-decimal-le 10 place (omega arith) (omega (arith, each.0)) (omega arith))
joined-few (place ∷ next ∷ places) each =
    omega (
      arith,
      length-append (decimal place) (44 ∷ join_with_byte 44 (map decimal (next ∷ places))),
      length-decimal-le 10 place (omega arith) (omega (arith, each.0)) (omega arith),
      joined-few (next ∷ places) each.1,
    )

places-few : (places : List ℕ) → ArePlaces places → length (places_member places) ≤ 3000
places-few places are =
    omega (arith, length-append (join_with_byte 44 (map decimal places)) (codes "]}\n"), joined-few places are.1, are.0)

placed-few : (epoch places : List ℕ) → IsEpoch epoch → ArePlaces places → length (placed_body epoch places) < 2 ^ 64
placed-few epoch places is are =
    let few = is.few in
    omega (arith, length-append epoch (codes "\"" ++ places_member places), places-few places are)

cut-few : (epoch places : List ℕ) (refusal : Refusal) → IsEpoch epoch → ArePlaces places → length (cut_body epoch places refusal) < 2 ^ 64
cut-few epoch places refusal is are =
    let few = is.few in
    let end = epoch ++ (codes "\"" ++ places_member places) in
    let told = codes "\",\"epoch\":\"" ++ end in
    omega (
      arith,
      length-append (error_of refusal) (codes "\",\"text\":\"" ++ (advice_of refusal ++ told)),
      length-append (advice_of refusal) told,
      length-append epoch (codes "\"" ++ places_member places),
      places-few places are,
      words-few refusal,
    )

placed_are_read : (epoch places : List ℕ) → IsEpoch epoch → ArePlaces places
    → ReadsResponse (answer_bytes (Placed epoch places)) (head_of (Placed epoch places)) (body_of (Placed epoch places))
unfolding httparse_on_literals
placed_are_read epoch places is are =
    let body = placed_body epoch places in
    let few = placed-few epoch places is are in
    (head-is _ (ap (λ b. b && true) (decimal-values (length body) few)), ap (λ l. with_length l body) (sym (behind (decimal (length body)) (codes "\r\n") others (codes "\r\n"))))

-- one with this status
abbrev refused_with : List ℕ → List ℕ → List ℕ → List ℕ
refused_with status rest body = (codes "HTTP/1.1 " ++ (status ++ (codes "\r\nContent-Type: application/json\r\nContent-Length: " ++ rest))) ++ body

-- a length is a value, and this stands behind it
values : (body : List ℕ) → length body < 2 ^ 64 → (list_all is_value_byte (decimal (length body)) && true) ≡ true
values body few = ap (λ b. b && true) (decimal-values (length body) few)

behind_length : (status fields body : List ℕ)
    → refused_with status (decimal (length body) ++ (codes "\r\n" ++ (fields ++ codes "\r\n"))) body ≡ refused_with status (((decimal (length body) ++ codes "\r\n") ++ fields) ++ codes "\r\n") body
behind_length status fields body = ap (λ l. refused_with status l body) (sym (behind (decimal (length body)) (codes "\r\n") fields (codes "\r\n")))

-- a refusal with this body is read
abbrev refused_as : Refusal → List ℕ → Type 0
refused_as refusal body = ReadsResponse (sized (status_of refusal) (codes "application/json") (fields_of refusal) body) (refusal_head refusal body) body

with_body_is_read : (refusal : Refusal) (body : List ℕ) → length body < 2 ^ 64 → refused_as refusal body
unfolding httparse_on_literals
with_body_is_read Head body few = (head-is _ (values body few), behind_length (codes "400 Bad Request") others body)
with_body_is_read Word body few = (head-is _ (values body few), behind_length (codes "400 Bad Request") others body)
with_body_is_read LastEventId body few = (head-is _ (values body few), behind_length (codes "400 Bad Request") others body)
with_body_is_read LinesWord body few = (head-is _ (values body few), behind_length (codes "400 Bad Request") others body)
with_body_is_read Lf body few = (head-is _ (values body few), behind_length (codes "400 Bad Request") others body)
with_body_is_read Key body few = (head-is _ (values body few), behind_length (codes "400 Bad Request") others body)
with_body_is_read Items body few = (head-is _ (values body few), behind_length (codes "400 Bad Request") others body)
with_body_is_read Within body few = (head-is _ (values body few), behind_length (codes "400 Bad Request") others body)
with_body_is_read Origin body few = (head-is _ (values body few), behind_length (codes "403 Forbidden") others body)
with_body_is_read NoStop body few = (head-is _ (values body few), behind_length (codes "403 Forbidden") others body)
with_body_is_read ReadOnly body few = (head-is _ (values body few), behind_length (codes "403 Forbidden") others body)
with_body_is_read Subject body few = (head-is _ (values body few), behind_length (codes "404 Not Found") others body)
with_body_is_read Path body few = (head-is _ (values body few), behind_length (codes "404 Not Found") others body)
with_body_is_read Observer body few = (head-is _ (values body few), behind_length (codes "404 Not Found") others body)
with_body_is_read Method body few = (head-is _ (values body few), behind_length (codes "405 Method Not Allowed") (others ++ codes "Allow: GET, POST\r\n") body)
with_body_is_read OnlyGet body few = (head-is _ (values body few), behind_length (codes "405 Method Not Allowed") (others ++ codes "Allow: GET\r\n") body)
with_body_is_read OnlyPost body few = (head-is _ (values body few), behind_length (codes "405 Method Not Allowed") (others ++ codes "Allow: POST\r\n") body)
with_body_is_read Length body few = (head-is _ (values body few), behind_length (codes "411 Length Required") others body)
with_body_is_read Long body few = (head-is _ (values body few), behind_length (codes "413 Content Too Large") others body)
with_body_is_read Spent body few = (head-is _ (values body few), behind_length (codes "409 Conflict") others body)
with_body_is_read LongHead body few = (head-is _ (values body few), behind_length (codes "431 Request Header Fields Too Large") others body)
with_body_is_read Ended body few = (head-is _ (values body few), behind_length (codes "409 Conflict") others body)
with_body_is_read Gone body few = (head-is _ (values body few), behind_length (codes "500 Internal Server Error") others body)
with_body_is_read Full body few = (head-is _ (values body few), behind_length (codes "503 Service Unavailable") (others ++ codes "Retry-After: 5\r\n") body)
with_body_is_read Stopping body few = (head-is _ (values body few), behind_length (codes "503 Service Unavailable") (others ++ codes "Retry-After: 2\r\n") body)
with_body_is_read Memory body few = (head-is _ (values body few), behind_length (codes "507 Insufficient Storage") others body)

pub answers_are_read : AnswersAreRead
unfolding httparse_on_literals digits
answers_are_read Events is = (head-is _ refl, refl)
answers_are_read Over is = (head-is _ refl, refl)
answers_are_read Well is = (head-is _ refl, refl)
answers_are_read Unwell is = (head-is _ refl, refl)
answers_are_read (Accepted epoch place again) is = accepted_are_read epoch place again is.0 is.1
answers_are_read (Placed epoch places) is = placed_are_read epoch places is.0 is.1
answers_are_read (Cut epoch places refusal) is = with_body_is_read refusal (cut_body epoch places refusal) (cut-few epoch places refusal is.0 is.1)
answers_are_read Requested is = (head-is _ refl, refl)
answers_are_read (Shown Stats body) is = stats_are_read body is
answers_are_read (Shown Metrics body) is = metrics_are_read body is
answers_are_read (Shown Lines body) is = lines_are_read body is
answers_are_read (Shown Page body) is = page_is_read body is
answers_are_read Stops is = (head-is _ refl, refl)
answers_are_read (Refused refusal) is = with_body_is_read refusal (refusal_body refusal) (refusal-few refusal)

-- What answers are by the grammar of heads (RFC 9112, as httparse has it): a status, fields and a body.
--
-- Answers are read: by the grammar of heads each answer is a head with just its status and its fields, behind which stands
-- its body; an answer with a body tells its length.
use Rattle.std.specs.Prelude.{◌^◌, ◌<◌, ◌≤◌, ℕ, List, [], ◌∷◌, length, Some, codes, decimal}
use Rattle.std.specs.List.{AllByRecursion}
use Rattle.httparse.specs.Grammar.{Field, ResponseHead, ReadsResponse, crlf}
use Rattle.rx_http.specs.Epochs.{IsEpoch}
use Rattle.rx_http.specs.Laws.{IsPlace}
use Rattle.rx_http.specs.Answers.{accepted_body, answer_bytes, cut_body, look_kind, placed_body, plain_kind, refusal_body}
use Rattle.rx_http.specs.declared.answer.Answer.{Answer}
use Rattle.rx_http.specs.declared.answer.Answer.TheVariants.{Events, Over, Well, Unwell, Accepted, Placed, Cut, Requested, Shown, Stops, Refused}
use Rattle.rx_http.specs.declared.request.look_form.LookForm.{LookForm}
use Rattle.rx_http.specs.declared.request.look_form.LookForm.TheVariants.{Stats, Metrics, Lines, Page}
use Rattle.rx_http.specs.declared.answer.refusal.Refusal.{Refusal}
use Rattle.rx_http.specs.declared.answer.refusal.Refusal.TheVariants.{Head, Word, LastEventId, LinesWord, Lf, Key, Items, Within, Origin, NoStop, ReadOnly, Subject, Path, Observer, Method, OnlyGet, OnlyPost, Length, Long, Ended, Spent, LongHead, Gone, Full, Stopping, Memory}

-- a field of an answer
abbrev pub field : List ℕ → List ℕ → Field
field name value = record { name = name; raw = 32 ∷ value; end = crlf }

-- the head of an answer
abbrev pub head : List ℕ → List ℕ → List Field → ResponseHead
head code reason fields = record { blank = []; minor = 1; digits = code; reason = Some reason; line_end = crlf; fields = fields; last = crlf }

-- the fields of an answer that isn't kept by who stands between, and is the last of its connection
abbrev pub kept_nowhere : List Field → List Field
kept_nowhere more = field (codes "Cache-Control") (codes "no-store") ∷ field (codes "X-Content-Type-Options") (codes "nosniff") ∷ field (codes "Connection") (codes "close") ∷ more

-- the head of an answer with a body, which has its length
abbrev pub head_with : List ℕ → List ℕ → List ℕ → List Field → List ℕ → ResponseHead
head_with code reason kind more body =
    head code reason (field (codes "Content-Type") kind ∷ field (codes "Content-Length") (decimal (length body)) ∷ kept_nowhere more)

-- the head of a refusal with this body, and these fields besides
abbrev pub refused : List ℕ → List ℕ → List Field → List ℕ → ResponseHead
refused code reason more body = head_with code reason (codes "application/json") more body

-- the head of a refusal with this body
abbrev pub refusal_head : Refusal → List ℕ → ResponseHead
refusal_head Head body = refused (codes "400") (codes "Bad Request") [] body
refusal_head Word body = refused (codes "400") (codes "Bad Request") [] body
refusal_head LastEventId body = refused (codes "400") (codes "Bad Request") [] body
refusal_head LinesWord body = refused (codes "400") (codes "Bad Request") [] body
refusal_head Lf body = refused (codes "400") (codes "Bad Request") [] body
refusal_head Key body = refused (codes "400") (codes "Bad Request") [] body
refusal_head Items body = refused (codes "400") (codes "Bad Request") [] body
refusal_head Within body = refused (codes "400") (codes "Bad Request") [] body
refusal_head Origin body = refused (codes "403") (codes "Forbidden") [] body
refusal_head NoStop body = refused (codes "403") (codes "Forbidden") [] body
refusal_head ReadOnly body = refused (codes "403") (codes "Forbidden") [] body
refusal_head Subject body = refused (codes "404") (codes "Not Found") [] body
refusal_head Path body = refused (codes "404") (codes "Not Found") [] body
refusal_head Observer body = refused (codes "404") (codes "Not Found") [] body
refusal_head Method body = refused (codes "405") (codes "Method Not Allowed") (field (codes "Allow") (codes "GET, POST") ∷ []) body
refusal_head OnlyGet body = refused (codes "405") (codes "Method Not Allowed") (field (codes "Allow") (codes "GET") ∷ []) body
refusal_head OnlyPost body = refused (codes "405") (codes "Method Not Allowed") (field (codes "Allow") (codes "POST") ∷ []) body
refusal_head Length body = refused (codes "411") (codes "Length Required") [] body
refusal_head Long body = refused (codes "413") (codes "Content Too Large") [] body
refusal_head LongHead body = refused (codes "431") (codes "Request Header Fields Too Large") [] body
refusal_head Ended body = refused (codes "409") (codes "Conflict") [] body
refusal_head Spent body = refused (codes "409") (codes "Conflict") [] body
refusal_head Gone body = refused (codes "500") (codes "Internal Server Error") [] body
refusal_head Full body = refused (codes "503") (codes "Service Unavailable") (field (codes "Retry-After") (codes "5") ∷ []) body
refusal_head Stopping body = refused (codes "503") (codes "Service Unavailable") (field (codes "Retry-After") (codes "2") ∷ []) body
refusal_head Memory body = refused (codes "507") (codes "Insufficient Storage") [] body

-- the fields that the answer to who looks has besides
abbrev pub shown_fields : LookForm → List Field
shown_fields Stats = []
shown_fields Metrics = []
shown_fields Lines = []
shown_fields Page = field (codes "Content-Security-Policy") (codes "frame-ancestors 'none'") ∷ []

-- the fields before a stream of events
abbrev pub events_fields : List Field
events_fields =
    field (codes "Content-Type") (codes "text/event-stream") ∷ field (codes "Cache-Control") (codes "no-store, no-transform")
    ∷ field (codes "X-Accel-Buffering") (codes "no") ∷ field (codes "Content-Encoding") (codes "identity") ∷ field (codes "Vary") (codes "Accept, Origin")
    ∷ field (codes "Connection") (codes "close") ∷ []

-- the head of an answer
abbrev pub head_of : Answer → ResponseHead
head_of Events = head (codes "200") (codes "OK") events_fields
head_of Over = head (codes "204") (codes "No Content") (kept_nowhere [])
head_of Well = head_with (codes "200") (codes "OK") plain_kind [] (codes "ok\n")
head_of Unwell = head_with (codes "503") (codes "Service Unavailable") plain_kind [] (codes "unwell\n")
head_of (Accepted epoch place again) = head_with (codes "200") (codes "OK") (codes "application/json") [] (accepted_body epoch place again)
head_of (Placed epoch places) = head_with (codes "200") (codes "OK") (codes "application/json") [] (placed_body epoch places)
head_of (Cut epoch places refusal) = refusal_head refusal (cut_body epoch places refusal)
head_of Requested = head (codes "204") (codes "No Content") (kept_nowhere [])
head_of (Shown form body) = head_with (codes "200") (codes "OK") (look_kind form) (shown_fields form) body
head_of Stops = head_with (codes "202") (codes "Accepted") plain_kind [] (codes "stopping\n")
head_of (Refused refusal) = refusal_head refusal (refusal_body refusal)

-- its body, where that does not go on to the end of the connection
abbrev pub body_of : Answer → List ℕ
body_of Events = []
body_of Over = []
body_of Well = codes "ok\n"
body_of Unwell = codes "unwell\n"
body_of (Accepted epoch place again) = accepted_body epoch place again
body_of (Placed epoch places) = placed_body epoch places
body_of (Cut epoch places refusal) = cut_body epoch places refusal
body_of Requested = []
body_of (Shown form body) = body
body_of Stops = codes "stopping\n"
body_of (Refused refusal) = refusal_body refusal

-- places of the items of one body: at most 256, and each has 32 bits
abbrev pub ArePlaces : List ℕ → Type 0
ArePlaces places = (length places ≤ 256) × AllByRecursion (λ place. place < 2 ^ 32) places

-- an answer that there is: its epoch is one, its places are some, and its body has less than 4 GiB
abbrev pub IsAnswer : Answer → Type 0
IsAnswer Events = Unit {0}
IsAnswer Over = Unit {0}
IsAnswer Well = Unit {0}
IsAnswer Unwell = Unit {0}
IsAnswer (Accepted epoch place again) = IsEpoch epoch × IsPlace place
IsAnswer (Placed epoch places) = IsEpoch epoch × ArePlaces places
IsAnswer (Cut epoch places refusal) = IsEpoch epoch × ArePlaces places
IsAnswer Requested = Unit {0}
IsAnswer (Shown form body) = length body < 2 ^ 32
IsAnswer Stops = Unit {0}
IsAnswer (Refused refusal) = Unit {0}

-- THE LAW: by the grammar each answer is read as this head, and behind it stands this body
abbrev pub AnswersAreRead : Type 0
AnswersAreRead = (answer : Answer) → IsAnswer answer → ReadsResponse (answer_bytes answer) (head_of answer) (body_of answer)

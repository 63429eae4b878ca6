-- What requests are answered, byte by byte. The answers are this project's own.
--
-- The exact answers: each answer is written as exactly its bytes, or a prefix of them after a fault; each says that it is the
-- last of its connection. No memory is taken.
use Rattle.std.specs.Prelude.{ℕ, Bool, true, false, List, [], ◌++◌, length, map, Option, None, Some, codes, decimal}
use Rattle.std.specs.List.{join_with_byte}
use Rattle.rx_http.specs.declared.answer.Answer.{Answer}
use Rattle.rx_http.specs.declared.answer.Answer.TheVariants.{Events, Over, Well, Unwell, Accepted, Placed, Cut, Requested, Shown, Stops, Refused}
use Rattle.rx_http.specs.declared.request.look_form.LookForm.{LookForm}
use Rattle.rx_http.specs.declared.request.look_form.LookForm.TheVariants.{Stats, Metrics, Lines, Page}
use Rattle.rx_http.specs.declared.answer.refusal.Refusal.{Refusal}
use Rattle.rx_http.specs.declared.answer.refusal.Refusal.TheVariants.{Head, Word, LastEventId, LinesWord, Lf, Key, Items, Within, Origin, NoStop, ReadOnly, Subject, Path, Observer, Method, OnlyGet, OnlyPost, Length, Long, Ended, Spent, LongHead, Gone, Full, Stopping, Memory}

-- the status of a refusal
abbrev pub status_of : Refusal → List ℕ
status_of Head = codes "400 Bad Request"
status_of Word = codes "400 Bad Request"
status_of LastEventId = codes "400 Bad Request"
status_of LinesWord = codes "400 Bad Request"
status_of Lf = codes "400 Bad Request"
status_of Key = codes "400 Bad Request"
status_of Items = codes "400 Bad Request"
status_of Within = codes "400 Bad Request"
status_of Origin = codes "403 Forbidden"
status_of NoStop = codes "403 Forbidden"
status_of ReadOnly = codes "403 Forbidden"
status_of Subject = codes "404 Not Found"
status_of Path = codes "404 Not Found"
status_of Observer = codes "404 Not Found"
status_of Method = codes "405 Method Not Allowed"
status_of OnlyGet = codes "405 Method Not Allowed"
status_of OnlyPost = codes "405 Method Not Allowed"
status_of Length = codes "411 Length Required"
status_of Long = codes "413 Content Too Large"
status_of Spent = codes "409 Conflict"
status_of LongHead = codes "431 Request Header Fields Too Large"
status_of Ended = codes "409 Conflict"
status_of Gone = codes "500 Internal Server Error"
status_of Full = codes "503 Service Unavailable"
status_of Stopping = codes "503 Service Unavailable"
status_of Memory = codes "507 Insufficient Storage"

-- its name
abbrev pub error_of : Refusal → List ℕ
error_of Head = codes "head"
error_of Word = codes "strategy"
error_of LastEventId = codes "last-event-id"
error_of LinesWord = codes "lines"
error_of Lf = codes "lf"
error_of Key = codes "idempotency-key"
error_of Items = codes "request"
error_of Within = codes "within"
error_of Origin = codes "origin"
error_of NoStop = codes "stop"
error_of ReadOnly = codes "emit"
error_of Subject = codes "subject"
error_of Path = codes "path"
error_of Observer = codes "observer"
error_of Method = codes "method"
error_of OnlyGet = codes "method"
error_of OnlyPost = codes "method"
error_of Length = codes "length"
error_of Long = codes "long"
error_of Spent = codes "spent"
error_of LongHead = codes "head"
error_of Ended = codes "ended"
error_of Gone = codes "gone"
error_of Full = codes "full"
error_of Stopping = codes "stopping"
error_of Memory = codes "memory"

-- what to do about it
abbrev pub advice_of : Refusal → List ℕ
advice_of Head = codes "the head is not one of HTTP/1.1"
advice_of Word = codes "strategy is BUFFER, DROP:n, LATEST:n or BOUNDED:n, errors AHEAD or DELAY, window 1 to 16, credit asked or socket"
advice_of LastEventId = codes "it is none that a server tells"
advice_of LinesWord = codes "lines is 1, where each line of the body is a text"
advice_of Lf = codes "a text is one line"
advice_of Key = codes "a key is 1 to 64 visible characters, and names one text"
advice_of Items = codes "request is how many items more, at least 1"
advice_of Within = codes "within is how many seconds, 0 to 3,600"
advice_of Origin = codes "a page of another site sends it"
advice_of NoStop = codes "the configuration has no stop"
advice_of ReadOnly = codes "readers alone are served"
advice_of Subject = codes "the configuration has no such subject"
advice_of Path = codes "try /, /subjects/NAME, /stats, /metrics or /healthz"
advice_of Observer = codes "there is none of that name that asks for its items itself"
advice_of Method = codes "try GET or POST"
advice_of OnlyGet = codes "try GET"
advice_of OnlyPost = codes "try POST"
advice_of Length = codes "say Content-Length"
advice_of Long = codes "a text has at most 1,024 bytes, and a request 8,192 and 256 lines"
advice_of Spent = codes "the subject accepted as many joins or items as it may"
advice_of LongHead = codes "a head has at most 8,192 bytes and 32 fields"
advice_of Ended = codes "the subject has ended"
advice_of Gone = codes "the thread of the subject ended by a fault"
advice_of Full = codes "as many observers are held as may be"
advice_of Stopping = codes "the server stops"
advice_of Memory = codes "the budget of the subject is used up"

-- the fields that it has besides: which methods there are, and when to come again
abbrev pub fields_of : Refusal → List ℕ
fields_of Method = codes "Allow: GET, POST\r\n"
fields_of OnlyGet = codes "Allow: GET\r\n"
fields_of OnlyPost = codes "Allow: POST\r\n"
fields_of Full = codes "Retry-After: 5\r\n"
fields_of Stopping = codes "Retry-After: 2\r\n"
fields_of other = []

-- its body, in JSON
abbrev pub refusal_body : Refusal → List ℕ
refusal_body refusal = codes "{\"error\":\"" ++ (error_of refusal ++ (codes "\",\"text\":\"" ++ (advice_of refusal ++ codes "\"}\n")))

-- the head of an answer whose body has so many bytes. It is the last of its connection: what stands behind the head of a request, as a
-- body, is never taken for another
abbrev pub sized_head : List ℕ → List ℕ → List ℕ → ℕ → List ℕ
sized_head status kind fields size =
    codes "HTTP/1.1 " ++ (status ++ (codes "\r\nContent-Type: " ++ (kind ++ (codes "\r\nContent-Length: " ++ (decimal size
    ++ (codes "\r\nCache-Control: no-store\r\nX-Content-Type-Options: nosniff\r\nConnection: close\r\n" ++ (fields ++ codes "\r\n")))))))

-- an answer with its body
abbrev pub sized : List ℕ → List ℕ → List ℕ → List ℕ → List ℕ
sized status kind fields body = sized_head status kind fields (length body) ++ body

-- how a text is told
abbrev pub plain_kind : List ℕ
plain_kind = codes "text/plain; charset=utf-8"

-- the head before a stream of events, which goes to the end of the connection; no proxy is to keep, pack or hold back any of it
abbrev pub events_head : List ℕ
events_head = codes "HTTP/1.1 200 OK\r\nContent-Type: text/event-stream\r\nCache-Control: no-store, no-transform\r\nX-Accel-Buffering: no\r\nContent-Encoding: identity\r\nVary: Accept, Origin\r\nConnection: close\r\n\r\n"

-- the answer without a body: to a reader that knows that the subject is over, for no EventSource comes again behind it, and to who asked
-- for items
abbrev pub empty_head : List ℕ
empty_head = codes "HTTP/1.1 204 No Content\r\nCache-Control: no-store\r\nX-Content-Type-Options: nosniff\r\nConnection: close\r\n\r\n"

-- where an item stands that was accepted, as a member of an object
abbrev pub place_member : Option ℕ → List ℕ
place_member None = []
place_member (Some place) = codes ",\"place\":" ++ decimal place

-- that it was accepted before, when it came by the same key
abbrev pub again_member : Bool → List ℕ
again_member false = []
again_member true = codes ",\"again\":true"

-- the body of the answer to an emission that was accepted, in JSON: the epoch of the server, where the item stands, and whether it was
-- accepted before
abbrev pub accepted_body : List ℕ → Option ℕ → Bool → List ℕ
accepted_body epoch place again = codes "{\"epoch\":\"" ++ (epoch ++ (codes "\"" ++ (place_member place ++ (again_member again ++ codes "}\n"))))

-- where items stand
abbrev pub places_member : List ℕ → List ℕ
places_member places = codes ",\"places\":[" ++ (join_with_byte 44 (map decimal places) ++ codes "]}\n")

-- the body of the answer to lines that were accepted, in JSON: the epoch of the server, and where the item of each stands
abbrev pub placed_body : List ℕ → List ℕ → List ℕ
placed_body epoch places = codes "{\"epoch\":\"" ++ (epoch ++ (codes "\"" ++ places_member places))

-- the body of the answer to lines of which the first were accepted, and the one behind them refused: that of the refusal, and the same of
-- those before
abbrev pub cut_body : List ℕ → List ℕ → Refusal → List ℕ
cut_body epoch places refusal =
    codes "{\"error\":\"" ++ (error_of refusal ++ (codes "\",\"text\":\"" ++ (advice_of refusal ++ (codes "\",\"epoch\":\"" ++ (epoch ++ (codes "\"" ++ places_member places))))))

-- how what is seen of a server is told
abbrev pub look_kind : LookForm → List ℕ
look_kind Stats = codes "application/json"
look_kind Metrics = codes "text/plain; version=0.0.4"
look_kind Lines = plain_kind
look_kind Page = codes "text/html; charset=utf-8"

-- the fields that it has besides: no page shows this one within itself
abbrev pub look_fields : LookForm → List ℕ
look_fields Stats = []
look_fields Metrics = []
look_fields Lines = []
look_fields Page = codes "Content-Security-Policy: frame-ancestors 'none'\r\n"

-- the bytes of an answer
abbrev pub answer_bytes : Answer → List ℕ
answer_bytes Events = events_head
answer_bytes Over = empty_head
answer_bytes Well = sized (codes "200 OK") plain_kind [] (codes "ok\n")
answer_bytes Unwell = sized (codes "503 Service Unavailable") plain_kind [] (codes "unwell\n")
answer_bytes (Accepted epoch place again) = sized (codes "200 OK") (codes "application/json") [] (accepted_body epoch place again)
answer_bytes (Placed epoch places) = sized (codes "200 OK") (codes "application/json") [] (placed_body epoch places)
answer_bytes (Cut epoch places refusal) = sized (status_of refusal) (codes "application/json") (fields_of refusal) (cut_body epoch places refusal)
answer_bytes Requested = empty_head
answer_bytes (Shown form body) = sized (codes "200 OK") (look_kind form) (look_fields form) body
answer_bytes Stops = sized (codes "202 Accepted") plain_kind [] (codes "stopping\n")
answer_bytes (Refused refusal) = sized (status_of refusal) (codes "application/json") (fields_of refusal) (refusal_body refusal)

-- What a request asks for, by its head, and for which cause it is refused. The rules are this project's own; what a head is says
-- httparse (RFC 9112).
--
-- The exact requests: a head of at most 8,192 bytes and 32 fields that is one of the grammar of HTTP/1.0 and HTTP/1.1 asks
-- for the events of a subject, by GET of `/subjects/NAME`, for the emission of a note there, by POST of it or of `end` or
-- `fail` behind it, for that of a text for each line of its body, by POST of it with `lines=1` as its query, for items for an observer, by POST of it with `observers/` and its word behind it, for whether all is well, by GET of `/healthz`, or for what is seen of the server, by GET of `/`, `/stats`,
-- `/stats.txt` or `/metrics`, or for a stop, by POST of `/stop`; or it is refused for the first of these causes: its path,
-- its method; of events a word of its query, what its reader says to know, the name of the subject; of an emission that a page
-- of another site sends it, what it says of its lines, that the size of its body isn't told, or is above 1,024 bytes where it is one text,
-- its key, which several texts don't have, the name; of items that a page of
-- another site asks for them, the word of the observer, how many they are, the name; of a stop that a page of another site asks for it,
-- how long it waits. Other bytes are refused as
-- too long, where they are more or begin with more fields, or as no head. It asks for one thing, or is refused for one cause.
-- No memory is taken.
use Rattle.std.specs.Prelude.{◌≡◌, ◌<◌, ◌≤◌, ◌⊎◌, ℕ, Bool, true, false, List, [], ◌∷◌, length, map, if◌then◌else◌, Option, None, Some, Result, Ok, Err, MatchBool, MatchOption, codes, decimal}
use Rattle.std.specs.Option.{unwrap_or}
use Rattle.std.specs.Str.{str_to_ascii_lowercase}
use Rattle.httparse.specs.Grammar.{RequestHead, ReadsRequest}
use Rattle.httparse.specs.Spans.{RequestExceeds, name_and_value}
use Rattle.rx_note.specs.Choices.{Choice}
use Rattle.rx_proto.specs.Names.{IsName}
use Rattle.rx_proto.specs.Reading.{begins_with, rest_behind, same_word}
use Rattle.rx_http.specs.Bodies.{HasSize, is_foreign}
use Rattle.rx_http.specs.Keys.{SaysKey}
use Rattle.rx_http.specs.Queries.{cut_at, path_of, query_of, word_in}
use Rattle.rx_http.specs.Words.{HasCredit, HasPolicy, HasWithin, IsNumber, IsObserver, SaysKnown, SaysLines, items_word, observer_word}
use Rattle.rx_http.specs.declared.request.asked.Asked.{Asked}
use Rattle.rx_http.specs.declared.request.asked.Asked.TheVariants.{Emission, Events, Health, Look, Request, Stop, Texts}
use Rattle.rx_http.specs.declared.request.credit.Credit.{Credit}
use Rattle.rx_http.specs.declared.request.look_form.LookForm.{LookForm}
use Rattle.rx_http.specs.declared.request.look_form.LookForm.TheVariants.{Stats, Metrics, Lines, Page}
use Rattle.rx_http.specs.declared.request.note_kind.NoteKind.{NoteKind}
use Rattle.rx_http.specs.declared.request.note_kind.NoteKind.TheVariants.{Next, Completed, Failed}
use Rattle.rx_http.specs.declared.request.observer_id.ObserverId.{ObserverId}
use Rattle.rx_http.specs.declared.answer.refusal.Refusal.{Refusal}
use Rattle.rx_http.specs.declared.answer.refusal.Refusal.TheVariants as causes
use Rattle.rx_http.specs.declared.id.Id.{Id}

-- the value of the first field of this name, which is told in small letters: in a head they may be large too
abbrev pub field_in : List ℕ → List (List ℕ × List ℕ) → Option (List ℕ)
field_in name [] = None
field_in name (field ∷ fields) = if same_word (str_to_ascii_lowercase field.0) name then Some field.1 else field_in name fields

-- where a reader says what it knows: in the field of that name, or else in the query, where a page opens its stream anew
abbrev pub known_word : Option (List ℕ) → List ℕ → List ℕ
known_word field query = unwrap_or field (word_in (codes "last-event-id=") [] query)

-- each word of the query is one that is read
abbrev pub HasWords : List ℕ → Type 0
HasWords query = ((policy : Choice) × HasPolicy query policy) × ((credit : Credit) × HasCredit query credit)

-- a reader says what it knows, as it is told
abbrev pub SaysSome : List ℕ → Type 0
SaysSome word = (known : Option Id) × SaysKnown word known

-- what a query and a field ask for of the events of the subject of this name, or the first cause for which they are refused: a word
-- of the query, what the reader says to know, the name
abbrev pub AsksForEvents : List ℕ → List ℕ → Option (List ℕ) → Result Asked Refusal → Type 0
AsksForEvents name query field (Ok (Events subject policy credit known)) =
    HasPolicy query policy × HasCredit query credit × SaysKnown (known_word field query) known × IsName name × (subject ≡ name)
AsksForEvents name query field (Err causes.Word) = (policy : Choice) (credit : Credit) → HasPolicy query policy → HasCredit query credit → ⊥
AsksForEvents name query field (Err causes.LastEventId) = HasWords query × (SaysSome (known_word field query) → ⊥)
AsksForEvents name query field (Err causes.Subject) = HasWords query × SaysSome (known_word field query) × (IsName name → ⊥)
AsksForEvents name query field other = ⊥

-- a field says a key, or there is none
abbrev pub SaysSomeKey : Option (List ℕ) → Type 0
SaysSomeKey field = (key : Option (List ℕ)) × SaysKey field key

-- what is asked for by an emission with a body of that size, by its key and the name of its subject
abbrev pub NamesSubject : List ℕ → NoteKind → ℕ → Option (List ℕ) → Result Asked Refusal → Type 0
NamesSubject name kind size field (Ok (Emission subject said bytes key)) =
    SaysKey field key × IsName name × (subject ≡ name) × (said ≡ kind) × (bytes ≡ size)
NamesSubject name kind size field (Err causes.Key) = SaysSomeKey field → ⊥
NamesSubject name kind size field (Err causes.Subject) = SaysSomeKey field × (IsName name → ⊥)
NamesSubject name kind size field other = ⊥

-- what is asked for by an emission, or the first cause for which it is refused: a page of another site sends it, its size isn't told, its
-- text is too long, its key is none, the name
abbrev pub AsksForEmission : List ℕ → NoteKind → Bool → Option ℕ → Option (List ℕ) → Result Asked Refusal → Type 0
AsksForEmission name kind foreign size key result =
    MatchBool foreign (result ≡ Err causes.Origin)
    (MatchOption size (result ≡ Err causes.Length) (λ n. ((1024 < n) × (result ≡ Err causes.Long)) ⊎ ((n ≤ 1024) × NamesSubject name kind n key result)))

-- what is asked for by several texts with a body of that size, by the name of their subject; a key names one text alone
abbrev pub NamesTexts : List ℕ → ℕ → Option (List ℕ) → Result Asked Refusal → Type 0
NamesTexts name size None result = (IsName name × (result ≡ Ok (Texts name size))) ⊎ ((IsName name → ⊥) × (result ≡ Err causes.Subject))
NamesTexts name size (Some key) result = result ≡ Err causes.Key

-- what is asked for by several texts, or the first cause for which they are refused: a page of another site sends them, their size isn't
-- told, they have a key, the name
abbrev pub AsksForTexts : List ℕ → Bool → Option ℕ → Option (List ℕ) → Result Asked Refusal → Type 0
AsksForTexts name foreign size key result =
    MatchBool foreign (result ≡ Err causes.Origin) (MatchOption size (result ≡ Err causes.Length) (λ n. NamesTexts name n key result))

-- a query says of lines what none does
abbrev pub SaysNoLines : List ℕ → Type 0
SaysNoLines query = (several : Bool) → SaysLines query several → ⊥

-- what is asked for by one text, or by several, as the query says; or it is refused, where that says of lines what none does
abbrev pub AsksForItem : List ℕ → List ℕ → Bool → Option ℕ → Option (List ℕ) → Result Asked Refusal → Type 0
AsksForItem name query foreign size key result =
    (SaysLines query false × AsksForEmission name Next foreign size key result)
    ⊎ (SaysLines query true × AsksForTexts name foreign size key result)
    ⊎ (SaysNoLines query × MatchBool foreign (result ≡ Err causes.Origin) (result ≡ Err causes.LinesWord))

-- a word says this observer
abbrev pub SaysObserver : List ℕ → ObserverId → Type 0
SaysObserver word observer = IsObserver observer × (word ≡ observer_word observer)

-- a query says so many items
abbrev pub SaysItems : List ℕ → ℕ → Type 0
SaysItems query items = IsNumber items × (items_word query ≡ decimal items)

-- what is asked for of the observer of this word at the subject of this name, or the first cause for which it is refused: the word of the
-- observer, how many items, the name
abbrev pub SaysRequest : List ℕ → List ℕ → List ℕ → Result Asked Refusal → Type 0
SaysRequest name word query (Ok (Request subject observer items)) = SaysObserver word observer × SaysItems query items × IsName name × (subject ≡ name)
SaysRequest name word query (Err causes.Observer) = (observer : ObserverId) → SaysObserver word observer → ⊥
SaysRequest name word query (Err causes.Items) = ((observer : ObserverId) × SaysObserver word observer) × ((items : ℕ) → SaysItems query items → ⊥)
SaysRequest name word query (Err causes.Subject) =
    ((observer : ObserverId) × SaysObserver word observer) × ((items : ℕ) × SaysItems query items) × (IsName name → ⊥)
SaysRequest name word query other = ⊥

-- the same, where it may be that a page of another site asks for it
abbrev pub AsksForRequest : List ℕ → List ℕ → List ℕ → Bool → Result Asked Refusal → Type 0
AsksForRequest name word query foreign result = MatchBool foreign (result ≡ Err causes.Origin) (SaysRequest name word query result)

-- what is asked for of a server that is to stop, or the first cause for which it is refused: how long it waits is no such number
abbrev pub SaysStop : List ℕ → Result Asked Refusal → Type 0
SaysStop query (Ok (Stop within)) = HasWithin query within
SaysStop query (Err causes.Within) = (within : ℕ) → HasWithin query within → ⊥
SaysStop query other = ⊥

-- the same, where it may be that a page of another site asks for it
abbrev pub AsksForStop : List ℕ → Bool → Result Asked Refusal → Type 0
AsksForStop query foreign result = MatchBool foreign (result ≡ Err causes.Origin) (SaysStop query result)

-- where a method and a path lead: to the events of the subject of a name, to the emission of an item or of several there, to that of
-- another note, to items for the observer of a word there, to whether all is well, to what is seen of the server, to its stop, or nowhere
pub data Route : Type 0 where
  ToEvents : (name : List ℕ) → Route
  ToItem : (name : List ℕ) → Route
  ToEmission : (name : List ℕ) (kind : NoteKind) → Route
  ToRequest : (name word : List ℕ) → Route
  ToHealth : Route
  ToLook : (form : LookForm) → Route
  ToStop : Route
  Nowhere : (cause : Refusal) → Route

-- the route of a POST, by what stands behind the path of the subjects: the subject's name, and what is said to it, or an observer
abbrev pub post_route : List ℕ → Route
post_route rest =
    if same_word (cut_at 47 rest).1 (codes "end") then ToEmission (cut_at 47 rest).0 Completed
    else if same_word (cut_at 47 rest).1 (codes "fail") then ToEmission (cut_at 47 rest).0 Failed
    else if begins_with (cut_at 47 rest).1 (codes "observers/") then ToRequest (cut_at 47 rest).0 (rest_behind (cut_at 47 rest).1 (codes "observers/"))
    else ToItem rest

-- the route to a subject, by its methods
abbrev pub subject_route : List ℕ → List ℕ → Route
subject_route method rest =
    if same_word method (codes "GET") then ToEvents rest else if same_word method (codes "POST") then post_route rest else Nowhere causes.Method

-- a route that GET alone takes
abbrev pub by_get : List ℕ → Route → Route
by_get method route = if same_word method (codes "GET") then route else Nowhere causes.OnlyGet

-- the route to the stop, by its methods
abbrev pub stop_route : List ℕ → Route
stop_route method = if same_word method (codes "POST") then ToStop else Nowhere causes.OnlyPost

-- how who looks by this path is told what is seen; nobody looks by another
abbrev pub form_of : List ℕ → Option LookForm
form_of path =
    if same_word path (codes "/stats") then Some Stats
    else if same_word path (codes "/metrics") then Some Metrics
    else if same_word path (codes "/stats.txt") then Some Lines
    else if same_word path (codes "/") then Some Page
    else None

-- the route of who looks, or another one
abbrev pub look_route : List ℕ → Option LookForm → Route → Route
look_route method None other = other
look_route method (Some form) other = by_get method (ToLook form)

-- the route of a method and a path; a path leads nowhere before a method does
abbrev pub route_of : List ℕ → List ℕ → Route
route_of method path =
    if same_word path (codes "/healthz") then by_get method ToHealth
    else look_route method (form_of path)
    (if same_word path (codes "/stop") then stop_route method
    else if begins_with path (codes "/subjects/") then subject_route method (rest_behind path (codes "/subjects/"))
    else Nowhere causes.Path)

-- what is asked for at the end of a route, or the cause for which it is refused
abbrev pub AsksAt : Route → List ℕ → Option (List ℕ) → Bool → Option ℕ → Option (List ℕ) → Result Asked Refusal → Type 0
AsksAt (ToEvents name) query field foreign size key result = AsksForEvents name query field result
AsksAt (ToItem name) query field foreign size key result = AsksForItem name query foreign size key result
AsksAt (ToEmission name kind) query field foreign size key result = AsksForEmission name kind foreign size key result
AsksAt (ToRequest name word) query field foreign size key result = AsksForRequest name word query foreign result
AsksAt ToHealth query field foreign size key result = result ≡ Ok Health
AsksAt (ToLook form) query field foreign size key result = result ≡ Ok (Look form)
AsksAt ToStop query field foreign size key result = AsksForStop query foreign result
AsksAt (Nowhere cause) query field foreign size key result = result ≡ Err cause

-- what a method, a target and a field ask for, by whether a page of another site sent them, by the size of their body, and by what they
-- are named
abbrev pub AsksFor : List ℕ → List ℕ → Option (List ℕ) → Bool → Option ℕ → Option (List ℕ) → Result Asked Refusal → Type 0
AsksFor method target field foreign size key result = AsksAt (route_of method (path_of target)) (query_of target) field foreign size key result

-- the value of the first field of this name, in a head
abbrev pub said_in : RequestHead → List ℕ → Option (List ℕ)
said_in head name = field_in name (map name_and_value head.fields)

-- what a head asks for
abbrev pub HeadAsksFor : RequestHead → Result Asked Refusal → Type 0
HeadAsksFor head result =
    (size : Option ℕ) × HasSize (said_in head (codes "transfer-encoding")) (said_in head (codes "content-length")) size
    × AsksFor head.method head.target (said_in head (codes "last-event-id")) (is_foreign (said_in head (codes "origin")) (said_in head (codes "host"))) size
    (said_in head (codes "idempotency-key")) result

-- a head that is too long: it has more than 8,192 bytes, or more than 32 fields
abbrev pub IsLongHead : List ℕ → Type 0
IsLongHead bytes = (8192 < length bytes) ⊎ RequestExceeds 32 bytes

-- bytes that are just this head
abbrev pub IsHead : List ℕ → RequestHead → Type 0
IsHead bytes head = (length bytes ≤ 8192) × ReadsRequest bytes head [] × (length head.fields ≤ 32)

-- WHAT WAS READ OF A HEAD: what it asks for, or the cause for which it is refused there; or that it is too long, or no head
abbrev pub IsReadOfHead : List ℕ → Result Asked Refusal → Type 0
IsReadOfHead bytes result =
    ((head : RequestHead) × IsHead bytes head × HeadAsksFor head result)
    ⊎ (IsLongHead bytes × (result ≡ Err causes.LongHead))
    ⊎ (((head : RequestHead) → ReadsRequest bytes head [] → ⊥) × (result ≡ Err causes.Head))

-- A HEAD ASKS FOR ONE THING, or is refused for one cause
abbrev pub HeadAsksForOne : Type 0
HeadAsksForOne = (head : RequestHead) (one other : Result Asked Refusal) → HeadAsksFor head one → HeadAsksFor head other → one ≡ other

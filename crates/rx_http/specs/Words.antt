-- The words of a query, each as it is written. The rules are this project's own.
use Rattle.std.specs.Prelude.{◌≡◌, ◌<◌, ◌≤◌, ◌^◌, ℕ, List, [], ◌++◌, Bool, true, false, Option, None, Some, option_map, codes, decimal}
use Rattle.percent_encoding.specs.Percent.{percent_decode}
use Rattle.rx_note.specs.Choices.{Choice, is_in_limits}
use Rattle.rx_note.specs.declared.strategy.Strategy.{Strategy}
use Rattle.rx_note.specs.declared.strategy.Strategy.TheVariants.{Buffer, Drop, Latest, Bounded}
use Rattle.rx_note.specs.declared.errors.Errors.{Errors}
use Rattle.rx_note.specs.declared.errors.Errors.TheVariants.{Ahead, Delay}
use Rattle.rx_http.specs.Epochs.{IsEpoch}
use Rattle.rx_http.specs.Ids.{id_of}
use Rattle.rx_http.specs.Laws.{IsPlace}
use Rattle.rx_http.specs.Queries.{value_in, word_in}
use Rattle.rx_http.specs.declared.id.Id.{Id}
use Rattle.rx_http.specs.declared.request.credit.Credit.{Credit}
use Rattle.rx_http.specs.declared.request.observer_id.ObserverId.{ObserverId}

-- what was read of some bytes: the one that is written so, or that none is
abbrev pub IsReadOf : {T : Type 0} → (T → Type 0) → (T → List ℕ) → List ℕ → Option T → Type 0
IsReadOf IsOne written bytes None = (x : _) → IsOne x → bytes ≡ written x → ⊥
IsReadOf IsOne written bytes (Some x) = IsOne x × (bytes ≡ written x)

-- a number of 32 bits; it is written in decimal digits, without leading zeros
abbrev pub IsNumber : ℕ → Type 0
IsNumber n = n < 2 ^ 32

-- a room of 16 bits
abbrev pub IsRoom : ℕ → Type 0
IsRoom n = n < 2 ^ 16

-- a strategy with such a room
abbrev pub HasShortRoom : Strategy → Type 0
HasShortRoom Buffer = Unit {0}
HasShortRoom (Drop room) = IsRoom room
HasShortRoom (Latest room) = IsRoom room
HasShortRoom (Bounded room) = IsRoom room

-- a strategy: its name, directly followed by its room
abbrev pub strategy_word : Strategy → List ℕ
strategy_word Buffer = codes "BUFFER"
strategy_word (Drop room) = codes "DROP:" ++ decimal room
strategy_word (Latest room) = codes "LATEST:" ++ decimal room
strategy_word (Bounded room) = codes "BOUNDED:" ++ decimal room

-- an error mode
abbrev pub errors_word : Errors → List ℕ
errors_word Ahead = codes "AHEAD"
errors_word Delay = codes "DELAY"

-- any error mode
abbrev pub IsAnyErrors : Errors → Type 0
IsAnyErrors errors = Unit {0}

-- how many items may be on their way at a time: 1 to 16
abbrev pub IsWindow : ℕ → Type 0
IsWindow n = (1 ≤ n) × (n ≤ 16)

-- a policy that the words of a query say: BUFFER and DELAY where it has none
pub record HasPolicy (query : List ℕ) (policy : Choice) : Type 0 where
  pub strategy : word_in (codes "strategy=") (codes "BUFFER") query ≡ strategy_word policy.strategy
  pub room : is_in_limits policy.strategy ≡ true
  pub errors : word_in (codes "errors=") (codes "DELAY") query ≡ errors_word policy.errors

-- a window that the words of a query say: 16 where it has none
pub record HasWindow (query : List ℕ) (window : ℕ) : Type 0 where
  pub limits : IsWindow window
  pub word : word_in (codes "window=") (codes "16") query ≡ decimal window

-- how many milliseconds may be between two items of a reader: up to 60,000, and 0 where they are told as they come
abbrev pub IsPace : ℕ → Type 0
IsPace n = n ≤ 60000

-- a pace that the words of a query say: none where it has none
pub record HasPace (query : List ℕ) (pace : ℕ) : Type 0 where
  pub limits : IsPace pace
  pub word : word_in (codes "pace=") (codes "0") query ≡ decimal pace

-- how many seconds a server that stops may wait for who has something waiting: up to 3,600
abbrev pub IsWithin : ℕ → Type 0
IsWithin n = n ≤ 3600

-- how many of them the words of a query say: 10 where it has none
pub record HasWithin (query : List ℕ) (within : ℕ) : Type 0 where
  pub limits : IsWithin within
  pub word : word_in (codes "within=") (codes "10") query ≡ decimal within

-- who asks for the items of a reader: it does itself, or its socket does as it takes them
abbrev pub credit_word : Bool → List ℕ
credit_word true = codes "asked"
credit_word false = codes "socket"

-- any of the two
abbrev pub IsAsking : Bool → Type 0
IsAsking asked = Unit {0}

-- a credit that the words of a query say: by the socket, as they come, where it has none
pub record HasCredit (query : List ℕ) (credit : Credit) : Type 0 where
  pub window : HasWindow query credit.window
  pub asked : word_in (codes "credit=") (codes "socket") query ≡ credit_word credit.asked
  pub pace : HasPace query credit.pace

-- how many items a query asks for: one where it says nothing
abbrev pub items_word : List ℕ → List ℕ
items_word query = word_in (codes "request=") (codes "1") query

-- whether a query says that each line of the body is a text: by `lines=1`, and it doesn't where it has no such key
abbrev pub SaysLines : List ℕ → Bool → Type 0
SaysLines query true = option_map percent_decode (value_in (codes "lines=") query) ≡ Some (codes "1")
SaysLines query false = value_in (codes "lines=") query ≡ None

-- what was found: one of these, or that there is none
abbrev pub IsFound : {T : Type 0} → (T → Type 0) → Option T → Type 0
IsFound Is None = (x : _) → Is x → ⊥
IsFound Is (Some x) = Is x

-- an id that a server tells: its epoch is one, and its place has 32 bits
abbrev pub IsId : Id → Type 0
IsId id = IsEpoch id.epoch × IsPlace id.place

-- an observer, by its epoch and its number: it is written as the id is whose place is that number
abbrev pub observer_id : ObserverId → Id
observer_id observer = record { epoch = observer.epoch; place = Some observer.who; over = false }

abbrev pub IsObserver : ObserverId → Type 0
IsObserver observer = IsId (observer_id observer)

abbrev pub observer_word : ObserverId → List ℕ
observer_word observer = id_of (observer_id observer)

-- what a reader says that it knows: nothing, where its word is empty, or by an id
abbrev pub SaysKnown : List ℕ → Option Id → Type 0
SaysKnown word None = word ≡ []
SaysKnown word (Some id) = IsId id × (word ≡ id_of id)

-- What a configuration says: the settings that stand in the table of a TOML text, or the first cause for which it is
-- refused. The keys, the ranges and the order are this project's own.
--
-- The configuration: where `toml` reads a table of the bytes, what is answered is exactly what that table says, or the first
-- cause that holds in it, or `Memory`; `Syntax` is answered only where the bytes are no UTF-8 or `toml` states no table for
-- them, and no configuration comes of such bytes; the kind of each subject is one that `Kind::check` passes, and its limits
-- are those that `Hub::new` takes.
use Rattle.std.specs.Prelude.{◌≤◌, ◌≡◌, ◌⊎◌, ℕ, ℤ, suc, pos, negsuc, Bool, true, false, ◌&&◌, ◌||◌, not, nat_le, nat_eq, List, [], ◌∷◌, ◌++◌, map, length, codes, Option, None, Some, Result, Ok, Err, if◌then◌else◌, option_and_then, option_map}
use Rattle.std.specs.List.{list_all, list_any}
use Rattle.std.specs.Str.{IsUtf8}
use Rattle.rx_note.specs.declared.kind.Kind.{Kind}
use Rattle.rx_note.specs.declared.kind.Kind.TheVariants.{Publish, Behavior, Async, Replay}
use Rattle.rx_note.specs.declared.limits.Limits.{Limits}
use Rattle.rx_note.specs.declared.rules.Rules.{Rules}
use Rattle.rx_proto.specs.Reading.{is_name_byte, same_word}
use Rattle.rx_config.specs.declared.config.Config.{Config}
use Rattle.rx_config.specs.declared.config_error.ConfigError.{ConfigError}
use Rattle.rx_config.specs.declared.config_error.ConfigError.TheVariants.{Syntax, UnknownKey, BadPool, BadHttp, NoSubject, TooManySubjects, BadSubject, DuplicateName, Memory}
use Rattle.rx_config.specs.declared.http.Http.{Http}
use Rattle.rx_config.specs.declared.reader.crew.Crew.{Crew}
use Rattle.rx_config.specs.declared.reader.fault.Fault.{Fault}
use Rattle.rx_config.specs.declared.reader.fault.Fault.TheVariants as faults
use Rattle.rx_config.specs.declared.reader.pool.Pool.{Pool}
use Rattle.rx_config.specs.declared.subject_config.SubjectConfig.{SubjectConfig}
use Rattle.toml.specs.Parse.{parse_document}
use Rattle.toml.specs.Data.{Data, Items, no_items, item, Members, no_members, member, get_member, as_str, as_integer, as_bool, as_array, as_table}

-- WHAT IS READ

-- a subject of a configuration: its name, its rules, and how many bytes its memory has, where there is a bound
pub record Subject : Type 0 where
  pub name : List ℕ
  pub rules : Rules
  pub budget : Option ℕ

-- what is served over HTTP: the path of the socket, how long a reader hears nothing before a beat, how many readers, whether notes may
-- be emitted, and whether the server may be stopped
pub record Events : Type 0 where
  pub socket : List ℕ
  pub heartbeat : ℕ
  pub readers : ℕ
  pub emit : Bool
  pub stop : Bool

-- what a configuration says
pub record Settings : Type 0 where
  pub subjects : List Subject
  pub pool : Pool
  pub http : Option Events

abbrev pub subject_of_config : SubjectConfig → Subject
subject_of_config config = record { name = config.name; rules = config.rules; budget = config.budget }

abbrev pub events_of_config : Http → Events
events_of_config http = record { socket = http.socket; heartbeat = http.heartbeat; readers = http.readers; emit = http.emit; stop = http.stop }

abbrev pub settings_of : Config → Settings
settings_of config = record { subjects = map subject_of_config config.subjects.items; pool = record { crew = record { drainers = config.drainers; workers = config.workers; window = config.window }; connections = config.connections; stall = config.stall; waiting = config.waiting; idle = config.idle; takeover = config.takeover }; http = option_map events_of_config config.http }

abbrev pub standard_pool : Pool
standard_pool = record { crew = record { drainers = 1; workers = 4; window = 16 }; connections = 4294967295; stall = 60; waiting = 33554432; idle = None; takeover = false }

-- one Publish subject `s`, with the greatest limits
abbrev pub standard_settings : Settings
standard_settings = record { subjects = record { name = codes "s"; rules = record { kind = Publish; limits = record { observers = 64; joins = 4294967295; items = 4294967295 } }; budget = None } ∷ []; pool = standard_pool; http = None }

-- KEYS

-- whether a key is one of these
abbrev pub is_among : List ℕ → List (List ℕ) → Bool
is_among key [] = false
is_among key (this ∷ known) = same_word key this || is_among key known

-- whether all keys are among these
abbrev pub has_only : List (List ℕ) → Members → Bool
has_only known no_members = true
has_only known (member key value members) = is_among key known && has_only known members

-- NUMBERS

-- a number that is not negative
abbrev pub natural_of : ℤ → Option ℕ
natural_of (pos n) = Some n
natural_of (negsuc n) = None

-- a number of 1 to `most`
abbrev pub in_range : ℕ → ℕ → Option ℕ
in_range most n = if nat_le 1 n && nat_le n most then Some n else None

abbrev pub number_of : ℕ → Data → Option ℕ
number_of most value = option_and_then (in_range most) (option_and_then natural_of (as_integer value))

-- the number that a key may have, else another one
abbrev pub number_or : ℕ → ℕ → Option Data → Option ℕ
number_or most missing None = Some missing
number_or most missing (Some value) = number_of most value

abbrev pub number_at : List ℕ → ℕ → ℕ → Members → Option ℕ
number_at key most missing members = number_or most missing (get_member key members)

-- a number of 0 to `most`
abbrev pub natural_in_range : ℕ → ℕ → Option ℕ
natural_in_range most n = if nat_le n most then Some n else None

-- the number from 0 on that a key may have, else another one
abbrev pub natural_or : ℕ → ℕ → Option Data → Option ℕ
natural_or most missing None = Some missing
natural_or most missing (Some value) = option_and_then (natural_in_range most) (option_and_then natural_of (as_integer value))

abbrev pub natural_at : List ℕ → ℕ → ℕ → Members → Option ℕ
natural_at key most missing members = natural_or most missing (get_member key members)

-- the bound that a key may have
abbrev pub bound_or : ℕ → Option Data → Option (Option ℕ)
bound_or most None = Some None
bound_or most (Some value) = option_map Some (number_of most value)

abbrev pub bound_at : List ℕ → ℕ → Members → Option (Option ℕ)
bound_at key most members = bound_or most (get_member key members)

-- FLAGS

-- the flag that a key may have, else the standard one
abbrev pub flag_or : Bool → Option Data → Option Bool
flag_or standard None = Some standard
flag_or standard (Some value) = as_bool value

abbrev pub flag_at : List ℕ → Bool → Members → Option Bool
flag_at key standard members = flag_or standard (get_member key members)

-- THE POOL

-- the numbers are in their ranges
pub record IsInRange (pool : Pool) : Type 0 where
  pub drainers : (1 ≤ pool.crew.drainers) × (pool.crew.drainers ≤ 8)
  pub workers : (1 ≤ pool.crew.workers) × (pool.crew.workers ≤ 32)
  pub window : (1 ≤ pool.crew.window) × (pool.crew.window ≤ 16)
  pub connections : 1 ≤ pool.connections
  pub stall : (1 ≤ pool.stall) × (pool.stall ≤ 3600)

-- how many threads there are, and how far a sink is ahead
abbrev pub crew_with : Option ℕ → Option ℕ → Option ℕ → Option Crew
crew_with (Some drainers) (Some workers) (Some window) = Some (record { drainers = drainers; workers = workers; window = window })
crew_with _ _ _ = None

abbrev pub crew_in : Members → Option Crew
crew_in members = crew_with (number_at (codes "drainers") 8 1 members) (number_at (codes "workers") 32 4 members) (number_at (codes "window") 16 16 members)

-- the pool of a crew: what it takes on
abbrev pub pool_with : Crew → Option ℕ → Option ℕ → Option ℕ → Option (Option ℕ) → Option Bool → Option Pool
pool_with crew (Some connections) (Some stall) (Some waiting) (Some idle) (Some takeover) =
    Some (record { crew = crew; connections = connections; stall = stall; waiting = waiting; idle = idle; takeover = takeover })
pool_with crew _ _ _ _ _ = None

abbrev pub pool_of_crew : Members → Crew → Option Pool
pool_of_crew members crew =
    pool_with crew (number_at (codes "connections") 4294967295 4294967295 members) (number_at (codes "stall") 3600 60 members)
    (natural_at (codes "waiting") 4294967295 33554432 members) (bound_at (codes "idle") 86400 members) (flag_at (codes "takeover") false members)

abbrev pub pool_keys : List (List ℕ)
pool_keys = codes "drainers" ∷ codes "workers" ∷ codes "window" ∷ codes "connections" ∷ codes "stall" ∷ codes "waiting" ∷ codes "idle" ∷ codes "takeover" ∷ []

abbrev pub pool_in : Members → Option Pool
pool_in members = if has_only pool_keys members then option_and_then (pool_of_crew members) (crew_in members) else None

-- the pool, which may be missing
abbrev pub pool_of : Option Data → Option Pool
pool_of None = Some standard_pool
pool_of (Some value) = option_and_then pool_in (as_table value)

abbrev pub pool_at : Members → Option Pool
pool_at members = pool_of (get_member (codes "pool") members)

-- TEXTS

-- the text at a key
abbrev pub text_at : List ℕ → Members → Option (List ℕ)
text_at key members = option_and_then as_str (get_member key members)

-- a text: at most 1,024 bytes, none of them LF
abbrev pub line_in : List ℕ → Option (List ℕ)
line_in bytes = if nat_le (length bytes) 1024 && not (list_any (λ b. nat_eq b 10) bytes) then Some bytes else None

-- EVENTS OVER HTTP

-- the path of a socket: a text of 1 to 107 bytes
abbrev pub path_in : List ℕ → Option (List ℕ)
path_in bytes = if nat_le 1 (length bytes) && nat_le (length bytes) 107 then line_in bytes else None

abbrev pub socket_in : Members → Option (List ℕ)
socket_in members = option_and_then path_in (text_at (codes "socket") members)

abbrev pub events_with : Option (List ℕ) → Option ℕ → Option ℕ → Option Bool → Option Bool → Option Events
events_with (Some socket) (Some heartbeat) (Some readers) (Some emit) (Some stop) =
    Some (record { socket = socket; heartbeat = heartbeat; readers = readers; emit = emit; stop = stop })
events_with _ _ _ _ _ = None

abbrev pub http_keys : List (List ℕ)
http_keys = codes "socket" ∷ codes "heartbeat" ∷ codes "readers" ∷ codes "emit" ∷ codes "stop" ∷ []

abbrev pub http_in : Members → Option Events
http_in members =
    if has_only http_keys members
    then events_with (socket_in members) (number_at (codes "heartbeat") 3600 15 members) (number_at (codes "readers") 4096 256 members) (flag_at (codes "emit") true members)
    (flag_at (codes "stop") false members)
    else None

-- the section, which may be missing
abbrev pub http_of : Option Data → Option (Option Events)
http_of None = Some None
http_of (Some value) = option_map Some (option_and_then http_in (as_table value))

abbrev pub http_at : Members → Option (Option Events)
http_at members = http_of (get_member (codes "http") members)

-- A SUBJECT

-- a name: 1 to 32 bytes of a to z, 0 to 9 and -
abbrev pub name_in : List ℕ → Option (List ℕ)
name_in bytes = if nat_le 1 (length bytes) && nat_le (length bytes) 32 && list_all is_name_byte bytes then Some bytes else None

-- the seed, which may be missing
abbrev pub seed_of : Option Data → Option (Option (List ℕ))
seed_of None = Some None
seed_of (Some value) = option_map Some (option_and_then line_in (as_str value))

abbrev pub seed_in : Members → Option (Option (List ℕ))
seed_in members = seed_of (get_member (codes "seed") members)

abbrev pub plain_keys : List (List ℕ)
plain_keys = codes "name" ∷ codes "kind" ∷ codes "observers" ∷ codes "joins" ∷ codes "items" ∷ codes "budget" ∷ []

abbrev pub behavior_keys : List (List ℕ)
behavior_keys = codes "name" ∷ codes "kind" ∷ codes "observers" ∷ codes "joins" ∷ codes "items" ∷ codes "budget" ∷ codes "seed" ∷ []

abbrev pub replay_keys : List (List ℕ)
replay_keys = codes "name" ∷ codes "kind" ∷ codes "observers" ∷ codes "joins" ∷ codes "items" ∷ codes "budget" ∷ codes "count" ∷ codes "age" ∷ []

abbrev pub plain_in : Kind → Members → Option Kind
plain_in kind members = if has_only plain_keys members then Some kind else None

abbrev pub behavior_in : Members → Option Kind
behavior_in members = if has_only behavior_keys members then option_map Behavior (seed_in members) else None

-- the count of a Replay, which may be missing
abbrev pub count_at : Members → Option (Option ℕ)
count_at members = bound_at (codes "count") 4096 members

abbrev pub replay_with : Option (Option ℕ) → Option (Option ℕ) → Option Kind
replay_with (Some count) (Some age) = Some (Replay count age)
replay_with _ _ = None

abbrev pub replay_in : Members → Option Kind
replay_in members = if has_only replay_keys members then replay_with (count_at members) (bound_at (codes "age") 9223372036854775807 members) else None

-- the kind of this name, with the keys of that kind alone
abbrev pub kind_named : Members → List ℕ → Option Kind
kind_named members word =
    if same_word word (codes "publish") then plain_in Publish members
    else (if same_word word (codes "behavior") then behavior_in members
    else (if same_word word (codes "async") then plain_in Async members
    else (if same_word word (codes "replay") then replay_in members else None)))

abbrev pub kind_in : Members → Option Kind
kind_in members = option_and_then (kind_named members) (text_at (codes "kind") members)

abbrev pub limits_with : Option ℕ → Option ℕ → Option ℕ → Option Limits
limits_with (Some observers) (Some joins) (Some items) = Some (record { observers = observers; joins = joins; items = items })
limits_with _ _ _ = None

abbrev pub limits_in : Members → Option Limits
limits_in members =
    limits_with (number_at (codes "observers") 64 64 members) (number_at (codes "joins") 4294967295 4294967295 members)
    (number_at (codes "items") 4294967295 4294967295 members)

-- the bytes of the budget, which may be missing
abbrev pub budget_at : Members → Option (Option ℕ)
budget_at members = bound_at (codes "budget") 281474976710656 members

abbrev pub subject_with : Option (List ℕ) → Option Limits → Option (Option ℕ) → Option Kind → Option Subject
subject_with (Some name) (Some limits) (Some budget) (Some kind) = Some (record { name = name; rules = record { kind = kind; limits = limits }; budget = budget })
subject_with _ _ _ _ = None

abbrev pub subject_in : Members → Option Subject
subject_in members = subject_with (option_and_then name_in (text_at (codes "name") members)) (limits_in members) (budget_at members) (kind_in members)

-- a subject, as an entry says it
abbrev pub subject_of : Data → Option Subject
subject_of value = option_and_then subject_in (as_table value)

-- THE SUBJECTS

-- what was read goes on to the next reading; a cause stays
abbrev pub and_then : {A B : Type 0} → (A → Result B ConfigError) → Result A ConfigError → Result B ConfigError
and_then next (Ok x) = next x
and_then next (Err cause) = Err cause

abbrev pub or_cause : {A : Type 0} → ConfigError → Option A → Result A ConfigError
or_cause cause None = Err cause
or_cause cause (Some x) = Ok x

-- whether a name stands among those of the subjects
abbrev pub has_name : List ℕ → List Subject → Bool
has_name name [] = false
has_name name (subject ∷ subjects) = same_word subject.name name || has_name name subjects

-- a subject behind these, whose name has to be another
abbrev pub named_anew : List Subject → Subject → Result Subject ConfigError
named_anew before subject = if has_name subject.name before then Err (DuplicateName (length before)) else Ok subject

-- what the next entry says, behind these subjects
abbrev pub next_subject : List Subject → Data → Result Subject ConfigError
next_subject before value = and_then (named_anew before) (or_cause (BadSubject (length before)) (subject_of value))

-- these subjects and those of all entries, or the first cause
abbrev pub subjects_from : List Subject → Items → Result (List Subject) ConfigError
subjects_from before no_items = Ok before
subjects_from before (item value items) = and_then (λ subject. subjects_from (before ++ subject ∷ []) items) (next_subject before value)

abbrev pub count_of : Items → ℕ
count_of no_items = 0
count_of (item value items) = suc (count_of items)

-- the subjects of 1 to 16 entries
abbrev pub entries_read : Items → Result (List Subject) ConfigError
entries_read no_items = Err NoSubject
entries_read (item value items) = if nat_le (count_of items) 15 then subjects_from [] (item value items) else Err TooManySubjects

abbrev pub subjects_of : Option Data → Result (List Subject) ConfigError
subjects_of value = and_then entries_read (or_cause NoSubject (option_and_then as_array value))

abbrev pub subjects_at : Members → Result (List Subject) ConfigError
subjects_at members = subjects_of (get_member (codes "subject") members)

-- THE CONFIGURATION: what a table says, or the first cause that holds

abbrev pub top_keys : List (List ℕ)
top_keys = codes "subject" ∷ codes "pool" ∷ codes "http" ∷ []

abbrev pub with_subjects : Pool → Option Events → List Subject → Result Settings ConfigError
with_subjects pool http subjects = Ok (record { subjects = subjects; pool = pool; http = http })

-- what stands behind the pool: where events are told over HTTP, and the subjects
abbrev pub behind_pool : Members → Pool → Result Settings ConfigError
behind_pool members pool = and_then (λ http. and_then (with_subjects pool http) (subjects_at members)) (or_cause BadHttp (http_at members))

abbrev pub settings_in : Members → Result Settings ConfigError
settings_in members =
    if has_only top_keys members
    then and_then (behind_pool members) (or_cause BadPool (pool_at members))
    else Err UnknownKey

-- what the table of a TOML text says: settings, or the cause for which it is refused
abbrev pub Says : List ℕ → Result Settings ConfigError → Type 0
Says bytes said = (t : Members) × IsUtf8 bytes × (parse_document bytes ≡ Some t) × (settings_in t ≡ said)

-- a text is refused: it is no TOML, or its table is refused for this cause; or there was no memory
abbrev pub IsRefused : List ℕ → ConfigError → Type 0
IsRefused bytes cause =
    (cause ≡ Memory) ⊎ ((cause ≡ Syntax) × (IsUtf8 bytes → parse_document bytes ≡ None)) ⊎ Says bytes (Err cause)

-- A READING

-- a part was read as it is defined, unless there was no memory for it
abbrev pub Reads : {A : Type 0} → Option A → Result A Fault → Type 0
Reads defined (Ok x) = defined ≡ Some x
Reads defined (Err faults.Refused) = defined ≡ None
Reads defined (Err faults.Memory) = Unit {0}

-- the same of a part that is seen otherwise than it is read
abbrev pub ReadsAs : {A B : Type 0} → (B → A) → Option A → Result B Fault → Type 0
ReadsAs seen defined (Ok x) = defined ≡ Some (seen x)
ReadsAs seen defined (Err faults.Refused) = defined ≡ None
ReadsAs seen defined (Err faults.Memory) = Unit {0}

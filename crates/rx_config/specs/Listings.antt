-- What is printed for a configuration that was accepted: a line for each subject, one for the pool, and one for the events over
-- HTTP, where they are told. The words are this project's own, mostly the keys of the configuration.
--
-- The lines of a configuration: of a configuration that was accepted exactly the lines are told: each subject in its order,
-- with its name, kind, bounds, limits, budget and seed, then the pool, and then where events are told over HTTP; or `Memory`.
use Rattle.std.specs.Prelude.{ℕ, Bool, true, false, List, [], ◌++◌, codes, decimal, Option, None, Some}
use Rattle.std.specs.List.{flat_map}
use Rattle.rx_note.specs.declared.kind.Kind.{Kind}
use Rattle.rx_note.specs.declared.kind.Kind.TheVariants.{Publish, Behavior, Async, Replay}
use Rattle.rx_note.specs.declared.limits.Limits.{Limits}
use Rattle.rx_proto.specs.Printing.{line}
use Rattle.rx_config.specs.Configurations.{Events, Settings, Subject}

-- the words of a key and its number
abbrev pub number_words : List ℕ → ℕ → List ℕ
number_words key number = key ++ decimal number

-- the same of a bound, where there is one
abbrev pub bound_words : List ℕ → Option ℕ → List ℕ
bound_words key None = []
bound_words key (Some bound) = number_words key bound

-- the name of a kind, and the bounds of a Replay
abbrev pub kind_words : Kind → List ℕ
kind_words Publish = codes " publish"
kind_words (Behavior seed) = codes " behavior"
kind_words Async = codes " async"
kind_words (Replay count age) = codes " replay" ++ (bound_words (codes " count ") count ++ bound_words (codes " age ") age)

abbrev pub limit_words : Limits → List ℕ
limit_words limits =
    number_words (codes " observers ") limits.observers ++ (number_words (codes " joins ") limits.joins ++ number_words (codes " items ") limits.items)

-- the seed, where there is one, to the end of its line
abbrev pub seed_words : Kind → List ℕ
seed_words Publish = []
seed_words (Behavior None) = []
seed_words (Behavior (Some seed)) = codes " seed " ++ seed
seed_words Async = []
seed_words (Replay count age) = []

-- what is said of a subject
abbrev pub subject_words : Subject → List ℕ
subject_words subject =
    codes "subject " ++ (subject.name ++ (kind_words subject.rules.kind ++ (limit_words subject.rules.limits ++ (bound_words (codes " budget ") subject.budget ++ seed_words subject.rules.kind))))

abbrev pub subject_line : Subject → List ℕ
subject_line subject = line (subject_words subject)

abbrev pub subject_lines : List Subject → List ℕ
subject_lines subjects = flat_map subject_line subjects

-- how many threads there are, and how far a sink is ahead
abbrev pub crew_words : Settings → List ℕ
crew_words settings =
    number_words (codes " drainers ") settings.pool.crew.drainers
    ++ (number_words (codes " workers ") settings.pool.crew.workers ++ number_words (codes " window ") settings.pool.crew.window)

-- the word of a flag, where it is set
abbrev pub flag_words : List ℕ → Bool → List ℕ
flag_words key false = []
flag_words key true = key

-- how many connections are served, how long a peer may take nothing, and how much may wait for it
abbrev pub service_words : Settings → List ℕ
service_words settings =
    number_words (codes " connections ") settings.pool.connections
    ++ (number_words (codes " stall ") settings.pool.stall ++ number_words (codes " waiting ") settings.pool.waiting)

-- how long a session may send nothing, where that has an end, and whether a path is taken over
abbrev pub option_words : Settings → List ℕ
option_words settings = bound_words (codes " idle ") settings.pool.idle ++ flag_words (codes " takeover") settings.pool.takeover

-- what is said of the pool
abbrev pub pool_words : Settings → List ℕ
pool_words settings = codes "pool" ++ (crew_words settings ++ (service_words settings ++ option_words settings))

abbrev pub pool_line : Settings → List ℕ
pool_line settings = line (pool_words settings)

-- whether notes may be emitted, and whether the server may be stopped
abbrev pub right_words : Events → List ℕ
right_words events = flag_words (codes " emit") events.emit ++ flag_words (codes " stop") events.stop

-- how long a reader of events hears nothing, how many there are, and what may be asked for besides
abbrev pub reader_words : Events → List ℕ
reader_words events = number_words (codes " heartbeat ") events.heartbeat ++ (number_words (codes " readers ") events.readers ++ right_words events)

-- what is said of events over HTTP; the path goes to the end of its line
abbrev pub events_words : Events → List ℕ
events_words events = codes "http" ++ (reader_words events ++ (codes " socket " ++ events.socket))

-- its line, where they are told
abbrev pub http_line : Option Events → List ℕ
http_line None = []
http_line (Some events) = line (events_words events)

-- THE LINES OF A CONFIGURATION
abbrev pub config_lines : Settings → List ℕ
config_lines settings = subject_lines settings.subjects ++ (pool_line settings ++ http_line settings.http)

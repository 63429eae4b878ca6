-- The command line: the words that the program takes, the task that they name, and what may be wrong with them.
--
-- What words ask for: a task that is answered is the one of the command that the words name, with the path that stands behind
-- it: a script over the standard configuration where they name none, a script, an audit, a check or a server over that file
-- else, with the path of a socket for a server, and for a check where there is one; what is to be published, whom to
-- subscribe to, how to show what is seen, or within how long to stop, at a socket; words that `clap` states a fault of, for
-- the declared command line, are refused by a fault of just these, or for want of memory; where it states none, also by that
-- they name no task.
use Rattle.std.specs.Prelude.{◌≡◌, ◌⊎◌, ◌↔◌, ℕ, Bool, List, [], Option, None, Some, codes, option_map, true, unwrap_or}
use Rattle.clap.specs.Simple.{on_top}
use Rattle.clap.specs.declared.builder.action.ArgAction.TheVariants.{SetTrue}
use Rattle.clap.specs.Words.{App, IsAmong, Row, Rule, Text, fault_of, first_of, new_app, new_rule, subcommand_of, with_rule, with_subcommand}
use Rattle.clap.specs.declared.error.kind.ErrorKind.{ErrorKind}
use Rattle.clap.specs.declared.error.kind.ErrorKind.TheVariants.{DisplayHelp, DisplayVersion, InvalidSubcommand}
use Rattle.rx_program.specs.declared.command_line.task.Task.{Task}
use Rattle.rx_program.specs.declared.command_line.task.Task.TheVariants.{Script, Audit, Check, Serve, Publish, Subscribe, Stats, Stop}
use Rattle.rx_program.specs.declared.command_line.subscription.Subscription.{Subscription}

-- the path of a configuration, which a command needs
abbrev pub path : Rule
path = record (new_rule (codes "config")) { required = true }

-- the path of a socket, which a command needs
abbrev pub socket : Rule
socket = record (new_rule (codes "socket")) { required = true }

-- the path of a socket, which a command may have
abbrev pub place : Rule
place = new_rule (codes "socket")

-- the name of a subject, which a command needs
abbrev pub subject : Rule
subject = record (new_rule (codes "subject")) { required = true }

-- the text of an item
abbrev pub text : Rule
text = new_rule (codes "text")

-- a word behind its name, as in --from
abbrev pub option : List ℕ → Rule
option name = record (new_rule name) { long = Some name }

abbrev pub strategy : Rule
strategy = option (codes "strategy")

abbrev pub errors : Rule
errors = option (codes "errors")

abbrev pub from : Rule
from = option (codes "from")

abbrev pub count : Rule
count = option (codes "count")

abbrev pub within : Rule
within = option (codes "within")

-- a name alone
abbrev pub json : Rule
json = record (option (codes "json")) { action = Some SetTrue }

abbrev pub script_app : App
script_app = with_rule (new_app (codes "script")) path

abbrev pub audit_app : App
audit_app = with_rule (new_app (codes "audit")) path

abbrev pub check_app : App
check_app = with_rule (with_rule (new_app (codes "check")) path) place

abbrev pub serve_app : App
serve_app = with_rule (with_rule (new_app (codes "serve")) path) socket

abbrev pub pub_app : App
pub_app = with_rule (with_rule (with_rule (new_app (codes "pub")) socket) subject) text

abbrev pub sub_app : App
sub_app = with_rule (with_rule (with_rule (with_rule (with_rule (with_rule (with_rule (new_app (codes "sub")) socket) subject) strategy) errors) from) count) json

abbrev pub stats_app : App
stats_app = with_rule (with_rule (new_app (codes "stats")) socket) json

abbrev pub stop_app : App
stop_app = with_rule (with_rule (new_app (codes "stop")) socket) within

-- the program, whose words come without its name, and which tells its version
abbrev pub top_app : App
top_app = on_top (λ s. record s { no_binary_name = true; has_version = true }) (new_app (codes "rxline"))

-- with the commands by which it is a client of a server
abbrev pub with_clients : App → App
with_clients app = with_subcommand (with_subcommand (with_subcommand (with_subcommand app pub_app.top) sub_app.top) stats_app.top) stop_app.top

-- the program with its commands
abbrev pub line_app : App
line_app = with_clients (with_subcommand (with_subcommand (with_subcommand (with_subcommand top_app script_app.top) audit_app.top) check_app.top) serve_app.top)

-- a command of this name was named, with this path
abbrev pub Named : List ℕ → List ℕ → Option (Text × List Row) → Type 0
Named command file named = (rows : List Row) × (named ≡ Some (command, rows)) × (first_of (codes "config") rows ≡ Some file)

-- the command that checks was named, with this path, and with that of a socket where there is one
abbrev pub NamedCheck : List ℕ → Option (List ℕ) → Option (Text × List Row) → Type 0
NamedCheck file place named =
    (rows : List Row) × (named ≡ Some (codes "check", rows)) × (first_of (codes "config") rows ≡ Some file) × (first_of (codes "socket") rows ≡ place)

-- the command that serves was named, with these two paths
abbrev pub NamedServe : List ℕ → List ℕ → Option (Text × List Row) → Type 0
NamedServe file place named =
    (rows : List Row) × (named ≡ Some (codes "serve", rows)) × (first_of (codes "config") rows ≡ Some file) × (first_of (codes "socket") rows ≡ Some place)

-- the command that emits was named, with the path of a socket, a subject and a text, if there is one
abbrev pub NamedPublish : List ℕ → List ℕ → Option (List ℕ) → Option (Text × List Row) → Type 0
NamedPublish place name text named =
    (rows : List Row) × (named ≡ Some (codes "pub", rows)) × (first_of (codes "socket") rows ≡ Some place) × (first_of (codes "subject") rows ≡ Some name)
    × (first_of (codes "text") rows ≡ text)

-- the words of a subscription are those that stand in these rows; BUFFER and DELAY where there are none
pub record AreWords (s : Subscription) (rows : List Row) : Type 0 where
  pub subject_is : first_of (codes "subject") rows ≡ Some s.subject.now
  pub strategy_is : s.strategy.now ≡ unwrap_or (first_of (codes "strategy") rows) (codes "BUFFER")
  pub errors_is : s.errors.now ≡ unwrap_or (first_of (codes "errors") rows) (codes "DELAY")
  pub from_is : option_map (λ t. t.now) s.from ≡ first_of (codes "from") rows
  pub count_is : option_map (λ t. t.now) s.count ≡ first_of (codes "count") rows
  pub json_is : s.is_json ≡ true ↔ (first_of (codes "json") rows ≡ Some (codes "true"))

-- the command that follows was named, with the path of a socket and these words
abbrev pub NamedSubscribe : List ℕ → Subscription → Option (Text × List Row) → Type 0
NamedSubscribe place s named = (rows : List Row) × (named ≡ Some (codes "sub", rows)) × (first_of (codes "socket") rows ≡ Some place) × AreWords s rows

-- the command that shows what is seen was named, with the path of a socket, and with --json or without
abbrev pub NamedStats : List ℕ → Bool → Option (Text × List Row) → Type 0
NamedStats place is_json named =
    (rows : List Row) × (named ≡ Some (codes "stats", rows)) × (first_of (codes "socket") rows ≡ Some place)
    × (is_json ≡ true ↔ (first_of (codes "json") rows ≡ Some (codes "true")))

-- the command that has a server stop was named, with the path of a socket, and how long it may take, if that is told
abbrev pub NamedStop : List ℕ → Option (List ℕ) → Option (Text × List Row) → Type 0
NamedStop place seconds named =
    (rows : List Row) × (named ≡ Some (codes "stop", rows)) × (first_of (codes "socket") rows ≡ Some place) × (first_of (codes "within") rows ≡ seconds)

-- the task is that of the command that was named, with its paths as they were read; without a command it is a script over the
-- standard configuration
abbrev pub IsNamedBy : Option (Text × List Row) → Task → Type 0
IsNamedBy named (Script None) = named ≡ None
IsNamedBy named (Script (Some file)) = Named (codes "script") file.now named
IsNamedBy named (Audit file) = Named (codes "audit") file.now named
IsNamedBy named (Check file place) = NamedCheck file.now (option_map (λ s. s.now) place) named
IsNamedBy named (Serve file place) = NamedServe file.now place.now named
IsNamedBy named (Publish place name text) = NamedPublish place.now name.now (option_map (λ t. t.now) text) named
IsNamedBy named (Subscribe place s) = NamedSubscribe place.now s named
IsNamedBy named (Stats place is_json) = NamedStats place.now is_json named
IsNamedBy named (Stop place seconds) = NamedStop place.now (option_map (λ s. s.now) seconds) named

-- the words ask for a task: `clap` states no fault of them, and they name its command
abbrev pub Asks : List Text → Task → Type 0
Asks words task = (fault_of line_app words ≡ []) × IsNamedBy (subcommand_of line_app words) task

-- the words name no task
abbrev pub NamesNone : Option (Text × List Row) → Type 0
NamesNone named = (task : Task) → ¬ IsNamedBy named task

-- what may be said against words: what `clap` states of them, or where it states nothing that they name no task
abbrev pub IsAgainst : List Text → ErrorKind → Type 0
IsAgainst words kind =
    IsAmong kind (fault_of line_app words)
    ⊎ ((kind ≡ InvalidSubcommand) × (fault_of line_app words ≡ []) × NamesNone (subcommand_of line_app words))

-- the words ask for a text and not for a task
abbrev pub IsHelp : ErrorKind → Type 0
IsHelp kind = (kind ≡ DisplayHelp) ⊎ (kind ≡ DisplayVersion)

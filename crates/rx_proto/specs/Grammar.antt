-- The lines of a session and of a script, and what each means. The rules are this project's own.
use Rattle.std.specs.Prelude.{◌≡◌, ◌<◌, ◌≤◌, ◌+◌, ◌-◌, ◌*◌, ◌^◌, ◌⊎◌, ℕ, List, [], ◌∷◌, ◌++◌, length, codes}
use Rattle.std.specs.List.{AllByRecursion, join_with_byte}
use Rattle.rx_note.specs.Choices.{Choice}
use Rattle.rx_note.specs.declared.strategy.Strategy.{Strategy}
use Rattle.rx_note.specs.declared.strategy.Strategy.TheVariants.{Buffer, Drop, Latest, Bounded}
use Rattle.rx_note.specs.declared.errors.Errors.{Errors}
use Rattle.rx_note.specs.declared.errors.Errors.TheVariants.{Ahead, Delay}
use Rattle.rx_proto.specs.LineFeeds.{HasNoLf}
use Rattle.rx_proto.specs.Names.{IsName}
use Rattle.rx_proto.specs.declared.command.Command.{Command as SessionCommand}
use Rattle.rx_proto.specs.declared.command.Command.TheVariants.{Pub, End, Fail, Sub, Hello, Quit}
use Rattle.rx_proto.specs.declared.script_line.ScriptLine.{ScriptLine}
use Rattle.rx_proto.specs.declared.script_line.ScriptLine.TheVariants.{Command, At, Join, Request, Dispose}

-- words parted by exactly one space
abbrev pub sentence : List (List ℕ) → List ℕ
sentence words = join_with_byte 32 words

-- a text: 0 to 1,024 bytes of any kind but LF
pub record IsText (bytes : List ℕ) : Type 0 where
  pub few : length bytes ≤ 1024
  pub no_lf : HasNoLf bytes

-- a digit
abbrev pub IsDigit : ℕ → Type 0
IsDigit byte = (48 ≤ byte) × (byte ≤ 57)

-- the number that decimal digits spell behind those that spelled this value
abbrev pub value_behind : ℕ → List ℕ → ℕ
value_behind value [] = value
value_behind value (digit ∷ digits) = value_behind (value * 10 + (digit - 48)) digits

-- the digits spell this number of so many bits: there are 1 to 20, and zeros may lead
pub record SpellsNumber (bits n : ℕ) (digits : List ℕ) : Type 0 where
  pub some : 1 ≤ length digits
  pub few : length digits ≤ 20
  pub each : AllByRecursion IsDigit digits
  pub value : value_behind 0 digits ≡ n
  pub fits : n < 2 ^ bits

-- the word is this name, directly followed by the number of this room
pub record SpellsRoom (name : List ℕ) (room : ℕ) (word : List ℕ) : Type 0 where
  pub digits : List ℕ
  pub number_is : SpellsNumber 32 room digits
  pub parts : word ≡ name ++ digits

-- the word of a strategy: the room of Drop and of Bounded is at most 1,024 items, that of Latest is 1 to 1,024
abbrev pub SpellsStrategy : Strategy → List ℕ → Type 0
SpellsStrategy Buffer word = word ≡ codes "BUFFER"
SpellsStrategy (Drop room) word = SpellsRoom (codes "DROP:") room word × (room ≤ 1024)
SpellsStrategy (Latest room) word = SpellsRoom (codes "LATEST:") room word × (1 ≤ room) × (room ≤ 1024)
SpellsStrategy (Bounded room) word = SpellsRoom (codes "BOUNDED:") room word × (room ≤ 1024)

-- the word of an error mode
abbrev pub SpellsErrors : Errors → List ℕ → Type 0
SpellsErrors Ahead word = word ≡ codes "AHEAD"
SpellsErrors Delay word = word ≡ codes "DELAY"

-- an emission of an item or an error: its command, a name and a text
pub record SpellsText (command name text line : List ℕ) : Type 0 where
  pub name_is : IsName name
  pub text_is : IsText text
  pub words : line ≡ sentence (command ∷ name ∷ text ∷ [])

-- a subscription: a name, a strategy and an error mode
pub record SpellsSub (name : List ℕ) (policy : Choice) (line : List ℕ) : Type 0 where
  pub strategy : List ℕ
  pub errors : List ℕ
  pub name_is : IsName name
  pub strategy_is : SpellsStrategy policy.strategy strategy
  pub errors_is : SpellsErrors policy.errors errors
  pub words : line ≡ sentence (codes "SUB" ∷ name ∷ strategy ∷ errors ∷ [])

-- a choice of the version: its number
pub record SpellsHello (version : ℕ) (line : List ℕ) : Type 0 where
  pub number : List ℕ
  pub number_is : SpellsNumber 32 version number
  pub words : line ≡ sentence (codes "HELLO" ∷ number ∷ [])

-- a setting of the moment, in milliseconds: its number
pub record SpellsAt (moment : ℕ) (line : List ℕ) : Type 0 where
  pub number : List ℕ
  pub number_is : SpellsNumber 64 moment number
  pub words : line ≡ sentence (codes "AT" ∷ number ∷ [])

-- a joining: a name, a strategy, an error mode and a first request
pub record SpellsJoin (name : List ℕ) (policy : Choice) (first : ℕ) (line : List ℕ) : Type 0 where
  pub strategy : List ℕ
  pub errors : List ℕ
  pub number : List ℕ
  pub name_is : IsName name
  pub strategy_is : SpellsStrategy policy.strategy strategy
  pub errors_is : SpellsErrors policy.errors errors
  pub number_is : SpellsNumber 32 first number
  pub words : line ≡ sentence (codes "JOIN" ∷ name ∷ strategy ∷ errors ∷ number ∷ [])

-- a request: a name, an observer's number and how many items
pub record SpellsRequest (name : List ℕ) (who n : ℕ) (line : List ℕ) : Type 0 where
  pub observer : List ℕ
  pub items : List ℕ
  pub name_is : IsName name
  pub observer_is : SpellsNumber 32 who observer
  pub items_is : SpellsNumber 32 n items
  pub words : line ≡ sentence (codes "REQUEST" ∷ name ∷ observer ∷ items ∷ [])

-- a leaving: a name and an observer's number
pub record SpellsDispose (name : List ℕ) (who : ℕ) (line : List ℕ) : Type 0 where
  pub observer : List ℕ
  pub name_is : IsName name
  pub observer_is : SpellsNumber 32 who observer
  pub words : line ≡ sentence (codes "DISPOSE" ∷ name ∷ observer ∷ [])

-- a line of a session spells this command
abbrev pub SpellsCommand : SessionCommand → List ℕ → Type 0
SpellsCommand (Pub name text) line = SpellsText (codes "PUB") name text line
SpellsCommand (End name) line = IsName name × (line ≡ sentence (codes "END" ∷ name ∷ []))
SpellsCommand (Fail name text) line = SpellsText (codes "FAIL") name text line
SpellsCommand (Sub name policy) line = SpellsSub name policy line
SpellsCommand (Hello version) line = SpellsHello version line
SpellsCommand Quit line = line ≡ codes "QUIT"

-- the line spells this meaning, be it a session's or a script's
abbrev pub Spells : ScriptLine → List ℕ → Type 0
Spells (Command command) line = SpellsCommand command line
Spells (At moment) line = SpellsAt moment line
Spells (Join name policy first) line = SpellsJoin name policy first line
Spells (Request name who n) line = SpellsRequest name who n line
Spells (Dispose name who) line = SpellsDispose name who line

-- some line spells this meaning
abbrev pub IsSpelled : ScriptLine → Type 0
IsSpelled meaning = (line : List ℕ) × Spells meaning line

-- a command that a script may say: any but SUB
abbrev pub IsOfScript : ScriptLine → Type 0
IsOfScript (Command (Sub name policy)) = ⊥
IsOfScript _ = Unit {0}

-- a line of a script spells this meaning
abbrev pub SpellsInScript : ScriptLine → List ℕ → Type 0
SpellsInScript meaning line = Spells meaning line × IsOfScript meaning

-- a line of PUB or FAIL whose only fault is a text of more than 1,024 bytes
pub record HasLongText (line : List ℕ) : Type 0 where
  pub command : List ℕ
  pub name : List ℕ
  pub text : List ℕ
  pub command_is : (command ≡ codes "PUB") ⊎ (command ≡ codes "FAIL")
  pub name_is : IsName name
  pub long : 1024 < length text
  pub no_lf : HasNoLf text
  pub words : line ≡ sentence (command ∷ name ∷ text ∷ [])

-- a line that is refused as too long
abbrev pub IsLong : List ℕ → Type 0
IsLong line = (1100 < length line) ⊎ HasLongText line

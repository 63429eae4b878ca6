-- The reading of a line, as a function of its bytes: of any line, and of one that stands in a script or in a session.
use Rattle.std.specs.Prelude.{◌≡◌, ◌==◌, ◌+◌, ◌-◌, ◌*◌, ◌&&◌, ◌||◌, ℕ, Bool, true, false, List, [], ◌∷◌, if◌then◌else◌, nat_eq, nat_lt, nat_le, length, take, drop, codes, Result, Ok, Err, MatchResult}
use Rattle.std.specs.List.{list_all, list_any}
use Rattle.rx_note.specs.Choices.{Choice, choice, is_in_limits}
use Rattle.rx_note.specs.declared.strategy.Strategy.{Strategy}
use Rattle.rx_note.specs.declared.strategy.Strategy.TheVariants.{Buffer, Drop, Latest, Bounded}
use Rattle.rx_note.specs.declared.errors.Errors.{Errors}
use Rattle.rx_note.specs.declared.errors.Errors.TheVariants.{Ahead, Delay}
use Rattle.rx_proto.specs.declared.command.Command.{Command as SessionCommand}
use Rattle.rx_proto.specs.declared.command.Command.TheVariants.{Pub, End, Fail, Sub, Hello, Quit}
use Rattle.rx_proto.specs.declared.line.Line.{Line}
use Rattle.rx_proto.specs.declared.line.Line.TheVariants as lines
use Rattle.rx_proto.specs.declared.line_error.BadLine.{BadLine}
use Rattle.rx_proto.specs.declared.line_error.BadLine.TheVariants.{Long, Syntax}
use Rattle.rx_proto.specs.declared.line_error.LineError.{LineError}
use Rattle.rx_proto.specs.declared.line_error.LineError.TheVariants as errors
use Rattle.rx_proto.specs.declared.script_line.ScriptLine.{ScriptLine}
use Rattle.rx_proto.specs.declared.script_line.ScriptLine.TheVariants.{Command, At, Join, Request, Dispose}
use lib.Pointwise.{pointwise}

infixl 10 ◌>>=◌
-- what was read goes on to the next reading; a fault stays
abbrev pub ◌>>=◌ : {A B : Type 0} → Result A BadLine → (A → Result B BadLine) → Result B BadLine
(Ok x) >>= next = next x
(Err fault) >>= next = Err fault

-- the bytes before the first space, and those behind it
abbrev pub cut_read : List ℕ → Result (List ℕ × List ℕ) BadLine
cut_read [] = Err Syntax
cut_read (byte ∷ bytes) = if byte == 32 then Ok ([], bytes) else cut_read bytes >>= λ parts. Ok (byte ∷ parts.0, parts.1)

-- whether a word is this one
abbrev pub same_word : List ℕ → List ℕ → Bool
same_word word this = pointwise nat_eq word this

-- whether a word begins with this one
abbrev pub begins_with : List ℕ → List ℕ → Bool
begins_with word this = same_word (take (length this) word) this

-- what stands in a word behind this one, with which it begins
abbrev pub rest_behind : List ℕ → List ℕ → List ℕ
rest_behind word this = drop (length this) word

-- whether a byte is one of a name
abbrev pub is_name_byte : ℕ → Bool
is_name_byte byte = (nat_le 97 byte && nat_le byte 122) || (nat_le 48 byte && nat_le byte 57) || byte == 45

-- a name
unfoldable pub name_read : List ℕ → Result (List ℕ) BadLine
name_read bytes =
    if nat_le 1 (length bytes) && nat_le (length bytes) 32 && list_all is_name_byte bytes then Ok bytes else Err Syntax

-- a name and what stands behind it
unfoldable pub named_read : List ℕ → Result (List ℕ × List ℕ) BadLine
named_read bytes = do
  parts ← cut_read bytes
  name ← name_read parts.0
  Ok (name, parts.1)

-- a text
unfoldable pub text_read : List ℕ → Result (List ℕ) BadLine
text_read bytes = if list_any (λ byte. nat_eq byte 10) bytes then Err Syntax else if nat_lt 1024 (length bytes) then Err Long else Ok bytes

-- whether a byte is a digit
abbrev pub is_digit : ℕ → Bool
is_digit byte = nat_le 48 byte && nat_le byte 57

-- the number that digits spell behind those that spelled this value
abbrev pub digits_read : ℕ → List ℕ → Result ℕ BadLine
digits_read value [] = if nat_lt value 18446744073709551616 then Ok value else Err Syntax
digits_read value (digit ∷ digits) = if is_digit digit then digits_read (value * 10 + (digit - 48)) digits else Err Syntax

-- a number of 64 bits, of 1 to 20 digits
unfoldable pub wide_number_read : List ℕ → Result ℕ BadLine
wide_number_read digits = if nat_le 1 (length digits) && nat_le (length digits) 20 then digits_read 0 digits else Err Syntax

-- a number of 32 bits
unfoldable pub number_read : List ℕ → Result ℕ BadLine
number_read digits = wide_number_read digits >>= λ number. if nat_lt number 4294967296 then Ok number else Err Syntax

-- a room, a number of 16 bits
abbrev pub room_read : List ℕ → Result ℕ BadLine
room_read digits = number_read digits >>= λ room. if nat_lt room 65536 then Ok room else Err Syntax

-- a strategy, with any room of 16 bits
abbrev pub strategy_read : List ℕ → Result Strategy BadLine
strategy_read word =
    if same_word word (codes "BUFFER") then Ok Buffer
    else if begins_with word (codes "DROP:") then room_read (rest_behind word (codes "DROP:")) >>= (λ room. Ok (Drop room))
    else if begins_with word (codes "LATEST:") then room_read (rest_behind word (codes "LATEST:")) >>= (λ room. Ok (Latest room))
    else if begins_with word (codes "BOUNDED:") then room_read (rest_behind word (codes "BOUNDED:")) >>= (λ room. Ok (Bounded room))
    else Err Syntax

-- an error mode
abbrev pub errors_read : List ℕ → Result Errors BadLine
errors_read word =
    if same_word word (codes "AHEAD") then Ok Ahead
    else if same_word word (codes "DELAY") then Ok Delay
    else Err Syntax

-- a policy: its strategy's room is in the limits
unfoldable pub policy_read : List ℕ → List ℕ → Result Choice BadLine
policy_read strategy errors = do
  s ← strategy_read strategy
  e ← errors_read errors
  if is_in_limits s then Ok (choice s e) else Err Syntax

-- a name and a text
unfoldable pub named_text_read : List ℕ → Result (List ℕ × List ℕ) BadLine
named_text_read bytes = do
  named ← named_read bytes
  text ← text_read named.1
  Ok (named.0, text)

-- the words of PUB
unfoldable pub pub_read : List ℕ → Result ScriptLine BadLine
pub_read bytes = named_text_read bytes >>= λ p. Ok (Command (Pub p.0 p.1))

-- the words of JOIN
unfoldable pub join_read : List ℕ → Result ScriptLine BadLine
join_read bytes = do
  named ← named_read bytes
  strategy ← cut_read named.1
  errors ← cut_read strategy.1
  policy ← policy_read strategy.0 errors.0
  first ← number_read errors.1
  Ok (Join named.0 policy first)

-- the words of REQUEST
unfoldable pub request_read : List ℕ → Result ScriptLine BadLine
request_read bytes = do
  named ← named_read bytes
  who ← cut_read named.1
  observer ← number_read who.0
  n ← number_read who.1
  Ok (Request named.0 observer n)

-- the words of DISPOSE
unfoldable pub dispose_read : List ℕ → Result ScriptLine BadLine
dispose_read bytes = do
  named ← named_read bytes
  who ← number_read named.1
  Ok (Dispose named.0 who)

-- the words of SUB
unfoldable pub sub_read : List ℕ → Result ScriptLine BadLine
sub_read bytes = do
  named ← named_read bytes
  strategy ← cut_read named.1
  policy ← policy_read strategy.0 strategy.1
  Ok (Command (Sub named.0 policy))

-- the words behind a command other than PUB
unfoldable pub words_read : List ℕ → List ℕ → Result ScriptLine BadLine
words_read command bytes =
    if same_word command (codes "REQUEST") then request_read bytes
    else if same_word command (codes "AT") then wide_number_read bytes >>= (λ moment. Ok (At moment))
    else if same_word command (codes "JOIN") then join_read bytes
    else if same_word command (codes "END") then name_read bytes >>= (λ name. Ok (Command (End name)))
    else if same_word command (codes "FAIL") then named_text_read bytes >>= (λ p. Ok (Command (Fail p.0 p.1)))
    else if same_word command (codes "DISPOSE") then dispose_read bytes
    else if same_word command (codes "SUB") then sub_read bytes
    else if same_word command (codes "HELLO") then number_read bytes >>= (λ version. Ok (Command (Hello version)))
    else Err Syntax

-- a line, be it a session's or a script's
unfoldable pub line_read : List ℕ → Result ScriptLine BadLine
line_read line =
    if nat_lt 1100 (length line) then Err Long
    else if begins_with line (codes "PUB ") then pub_read (rest_behind line (codes "PUB "))
    else if same_word line (codes "QUIT") then Ok (Command Quit)
    else cut_read line >>= λ parts. words_read parts.0 parts.1

-- whether a line is a SUB
abbrev pub is_sub : ScriptLine → Bool
is_sub (Command (Sub name policy)) = true
is_sub _ = false

-- what was read, where it may stand in a script: any line but SUB
abbrev pub in_script : ScriptLine → Result ScriptLine BadLine
in_script (Command (Pub name text)) = Ok (Command (Pub name text))
in_script (Command (End name)) = Ok (Command (End name))
in_script (Command (Fail name text)) = Ok (Command (Fail name text))
in_script (Command (Sub name policy)) = Err Syntax
in_script (Command (Hello version)) = Ok (Command (Hello version))
in_script (Command Quit) = Ok (Command Quit)
in_script (At moment) = Ok (At moment)
in_script (Join name policy first) = Ok (Join name policy first)
in_script (Request name who n) = Ok (Request name who n)
in_script (Dispose name who) = Ok (Dispose name who)

-- what was read, where it may stand in a session: a command
abbrev pub in_session : ScriptLine → Result SessionCommand BadLine
in_session (Command command) = Ok command
in_session (At moment) = Err Syntax
in_session (Join name policy first) = Err Syntax
in_session (Request name who n) = Err Syntax
in_session (Dispose name who) = Err Syntax

-- a line of a script
abbrev pub script_read : List ℕ → Result ScriptLine BadLine
script_read line = line_read line >>= in_script

-- a line of a session
abbrev pub session_read : List ℕ → Result SessionCommand BadLine
session_read line = line_read line >>= in_session

-- what a function answered, seen by view, is what was read
abbrev pub Gives : {X Y : Type 0} → (X → Y) → Result X BadLine → Result Y BadLine → Type 0
Gives view result read = MatchResult result (λ x. read ≡ Ok (view x)) (λ fault. read ≡ Err fault)

-- what a line means whose name and text stand among its bytes
abbrev pub meaning_of : Line → ScriptLine
meaning_of (lines.Pub name text) = Command (Pub name.now text.now)
meaning_of (lines.End name) = Command (End name.now)
meaning_of (lines.Fail name text) = Command (Fail name.now text.now)
meaning_of (lines.Sub name policy) = Command (Sub name.now policy)
meaning_of (lines.Hello version) = Command (Hello version)
meaning_of lines.Quit = Command Quit
meaning_of (lines.At moment) = At moment
meaning_of (lines.Join name policy first) = Join name.now policy first
meaning_of (lines.Request name who n) = Request name.now who n
meaning_of (lines.Dispose name who) = Dispose name.now who

-- a command that holds a text, and so takes memory
abbrev pub HoldsText : SessionCommand → Type 0
HoldsText (Pub name text) = Unit {0}
HoldsText (Fail name text) = Unit {0}
HoldsText _ = ⊥

-- a meaning that holds a text
abbrev pub LineHoldsText : ScriptLine → Type 0
LineHoldsText (Command command) = HoldsText command
LineHoldsText _ = ⊥

-- the refusal that tells a fault
abbrev pub refusal_of : BadLine → LineError
refusal_of Long = errors.Long
refusal_of Syntax = errors.Syntax

-- the line of a script that says a command which was parsed
abbrev pub said_by : Result SessionCommand LineError → Result ScriptLine LineError
said_by (Ok command) = Ok (Command command)
said_by (Err fault) = Err fault

-- what a parser answered is what was read; it may lack memory only for what holds a text
abbrev pub Parses : {M : Type 0} → (M → Type 0) → Result M LineError → Result M BadLine → Type 0
Parses holds (Ok line) read = read ≡ Ok line
Parses holds (Err errors.Long) read = read ≡ Err Long
Parses holds (Err errors.Syntax) read = read ≡ Err Syntax
Parses holds (Err errors.Memory) read = MatchResult read holds (λ _. ⊥)

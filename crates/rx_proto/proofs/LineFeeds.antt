-- Bytes with no LF, and that a line which is read has none.
use Rattle.std.proofs.Common.{◌≡◌, ℕ, ◌≤◌, List, [], ◌∷◌, ◌++◌, length, codes, Ok, Err, ◌⊎◌, inl, inr, sym, subst, arith}
use Rattle.std.specs.List.{AllByRecursion}
use Rattle.rx_note.specs.declared.strategy.Strategy.{Strategy}
use Rattle.rx_note.specs.declared.strategy.Strategy.TheVariants.{Buffer, Drop, Latest, Bounded}
use Rattle.rx_note.specs.declared.errors.Errors.{Errors}
use Rattle.rx_note.specs.declared.errors.Errors.TheVariants.{Ahead, Delay}
use Rattle.rx_proto.specs.Grammar.{IsDigit, SpellsNumber, SpellsRoom, SpellsStrategy, SpellsErrors, Spells, IsLong}
use Rattle.rx_proto.specs.LineFeeds.{HasNoLf}
use Rattle.rx_proto.specs.Names.{IsName, IsNameByte}
use Rattle.rx_proto.specs.Reading.{cut_read, named_read, line_read}
use Rattle.rx_proto.specs.declared.command.Command.TheVariants.{Pub, End, Fail, Sub, Hello, Quit}
use Rattle.rx_proto.specs.declared.line_error.BadLine.TheVariants.{Syntax}
use Rattle.rx_proto.specs.declared.script_line.ScriptLine.{ScriptLine}
use Rattle.rx_proto.specs.declared.script_line.ScriptLine.TheVariants.{Command, At, Join, Request, Dispose}
use Rattle.rx_proto.proofs.Exact.{refused}
use Rattle.rx_proto.proofs.Sound.{IsNamed, IsRead, Says-ok, cut_says, named_says, line_says}

pub HasNoLf-append : (xs ys : List ℕ) → HasNoLf xs → HasNoLf ys → HasNoLf (xs ++ ys)
HasNoLf-append [] ys p q = q
HasNoLf-append (x ∷ xs) ys p q = (p.0, HasNoLf-append xs ys p.1 q)

pub HasNoLf-front : (xs ys : List ℕ) → HasNoLf (xs ++ ys) → HasNoLf xs
HasNoLf-front [] ys p = tt
HasNoLf-front (x ∷ xs) ys p = (p.0, HasNoLf-front xs ys p.1)

pub HasNoLf-back : (xs ys : List ℕ) → HasNoLf (xs ++ ys) → HasNoLf ys
HasNoLf-back [] ys p = p
HasNoLf-back (x ∷ xs) ys p = HasNoLf-back xs ys p.1

-- two words without an LF, parted by a space
parted : (word rest : List ℕ) → HasNoLf word → HasNoLf rest → HasNoLf (word ++ (32 ∷ rest))
parted word rest p q = HasNoLf-append word (32 ∷ rest) p ((λ is. omega arith), q)

-- what stands behind a word and its space
pub HasNoLf-behind : (bytes word rest : List ℕ) → bytes ≡ word ++ (32 ∷ rest) → HasNoLf bytes → HasNoLf rest
HasNoLf-behind bytes word rest parts none = (HasNoLf-back word (32 ∷ rest) (subst HasNoLf parts none)).1

-- bytes that each pass a test which no LF passes have no LF
no_lf : (P : ℕ → Type 0) → ((byte : ℕ) → P byte → byte ≡ 10 → ⊥) → (bytes : List ℕ) → AllByRecursion P bytes → HasNoLf bytes
no_lf P never [] all = tt
no_lf P never (byte ∷ bytes) all = (never byte all.0, no_lf P never bytes all.1)

IsNameByte-no_lf : (byte : ℕ) → IsNameByte byte → byte ≡ 10 → ⊥
IsNameByte-no_lf byte (inl letter) lf = omega arith
IsNameByte-no_lf byte (inr (inl digit)) lf = omega arith
IsNameByte-no_lf byte (inr (inr dash)) lf = omega arith

name-no_lf : (name : List ℕ) → IsName name → HasNoLf name
name-no_lf name is = no_lf IsNameByte IsNameByte-no_lf name is.each

number-no_lf : (bits n : ℕ) (digits : List ℕ) → SpellsNumber bits n digits → HasNoLf digits
number-no_lf bits n digits is = no_lf IsDigit (λ byte digit lf. omega arith) digits is.each

room-no_lf : (name : List ℕ) (room : ℕ) (word : List ℕ) → HasNoLf name → SpellsRoom name room word → HasNoLf word
room-no_lf name room word none is =
    subst HasNoLf (sym is.parts) (HasNoLf-append name is.digits none (number-no_lf 32 room is.digits is.number_is))

strategy-no_lf : (strategy : Strategy) (word : List ℕ) → SpellsStrategy strategy word → HasNoLf word
strategy-no_lf Buffer word is = subst HasNoLf (sym is) (search arith)
strategy-no_lf (Drop room) word is = room-no_lf (codes "DROP:") room word (search arith) is.0
strategy-no_lf (Latest room) word is = room-no_lf (codes "LATEST:") room word (search arith) is.0
strategy-no_lf (Bounded room) word is = room-no_lf (codes "BOUNDED:") room word (search arith) is.0

errors-no_lf : (errors : Errors) (word : List ℕ) → SpellsErrors errors word → HasNoLf word
errors-no_lf Ahead word is = subst HasNoLf (sym is) (search arith)
errors-no_lf Delay word is = subst HasNoLf (sym is) (search arith)

-- a command, a name and a text
named_text-no_lf : (command name text : List ℕ) → HasNoLf command → IsName name → HasNoLf text → HasNoLf (command ++ (32 ∷ (name ++ (32 ∷ text))))
named_text-no_lf command name text c is t = parted command (name ++ (32 ∷ text)) c (parted name text (name-no_lf name is) t)

-- no line that spells a meaning has an LF
pub spelled-no_lf : (meaning : ScriptLine) (line : List ℕ) → Spells meaning line → HasNoLf line
spelled-no_lf (Command (Pub name text)) line s =
    subst HasNoLf (sym s.words) (named_text-no_lf (codes "PUB") name text (search arith) s.name_is s.text_is.no_lf)
spelled-no_lf (Command (End name)) line s = subst HasNoLf (sym s.1) (parted (codes "END") name (search arith) (name-no_lf name s.0))
spelled-no_lf (Command (Fail name text)) line s =
    subst HasNoLf (sym s.words) (named_text-no_lf (codes "FAIL") name text (search arith) s.name_is s.text_is.no_lf)
spelled-no_lf (Command (Sub name policy)) line s =
    subst HasNoLf (sym s.words)
    (parted (codes "SUB") (name ++ (32 ∷ (s.strategy ++ (32 ∷ s.errors)))) (search arith)
    (parted name (s.strategy ++ (32 ∷ s.errors)) (name-no_lf name s.name_is)
    (parted s.strategy s.errors (strategy-no_lf policy.strategy s.strategy s.strategy_is) (errors-no_lf policy.errors s.errors s.errors_is))))
spelled-no_lf (Command (Hello version)) line s =
    subst HasNoLf (sym s.words) (parted (codes "HELLO") s.number (search arith) (number-no_lf 32 version s.number s.number_is))
spelled-no_lf (Command Quit) line s = subst HasNoLf (sym s) (search arith)
spelled-no_lf (At moment) line s =
    subst HasNoLf (sym s.words) (parted (codes "AT") s.number (search arith) (number-no_lf 64 moment s.number s.number_is))
spelled-no_lf (Join name policy first) line s =
    subst HasNoLf (sym s.words)
    (parted (codes "JOIN") (name ++ (32 ∷ (s.strategy ++ (32 ∷ (s.errors ++ (32 ∷ s.number)))))) (search arith)
    (parted name (s.strategy ++ (32 ∷ (s.errors ++ (32 ∷ s.number)))) (name-no_lf name s.name_is)
    (parted s.strategy (s.errors ++ (32 ∷ s.number)) (strategy-no_lf policy.strategy s.strategy s.strategy_is)
    (parted s.errors s.number (errors-no_lf policy.errors s.errors s.errors_is) (number-no_lf 32 first s.number s.number_is)))))
spelled-no_lf (Request name who n) line s =
    subst HasNoLf (sym s.words)
    (parted (codes "REQUEST") (name ++ (32 ∷ (s.observer ++ (32 ∷ s.items)))) (search arith)
    (parted name (s.observer ++ (32 ∷ s.items)) (name-no_lf name s.name_is)
    (parted s.observer s.items (number-no_lf 32 who s.observer s.observer_is) (number-no_lf 32 n s.items s.items_is))))
spelled-no_lf (Dispose name who) line s =
    subst HasNoLf (sym s.words)
    (parted (codes "DISPOSE") (name ++ (32 ∷ s.observer)) (search arith)
    (parted name s.observer (name-no_lf name s.name_is) (number-no_lf 32 who s.observer s.observer_is)))

command-no_lf : (command : List ℕ) → (command ≡ codes "PUB") ⊎ (command ≡ codes "FAIL") → HasNoLf command
command-no_lf command (inl is) = subst HasNoLf (sym is) (search arith)
command-no_lf command (inr is) = subst HasNoLf (sym is) (search arith)

-- nor has one whose only fault is that its text is too long
long-no_lf : (line : List ℕ) → length line ≤ 1100 → IsLong line → HasNoLf line
long-no_lf line few (inl many) = absurd (omega arith)
long-no_lf line few (inr h) =
    subst HasNoLf (sym h.words) (named_text-no_lf h.command h.name h.text (command-no_lf h.command h.command_is) h.name_is h.no_lf)

-- so a line in its limit that has one is no line
pub line_read-lf : (line : List ℕ) → length line ≤ 1100 → (HasNoLf line → ⊥) → line_read line ≡ Err Syntax
line_read-lf line few has =
    refused (line_read line) (IsRead line) (IsLong line) (line_says line) (λ long. has (long-no_lf line few long)) (λ meaning read. has (spelled-no_lf meaning line read.0))

-- what stands behind a name, or behind any first word
pub named-no_lf : (bytes name rest : List ℕ) → named_read bytes ≡ Ok (name, rest) → HasNoLf bytes → HasNoLf rest
named-no_lf bytes name rest is none =
    HasNoLf-behind bytes name rest (Says-ok (named_read bytes) (IsNamed bytes) ⊥ (name, rest) (named_says bytes) is).1 none

pub cut-no_lf : (bytes word rest : List ℕ) → cut_read bytes ≡ Ok (word, rest) → HasNoLf bytes → HasNoLf rest
cut-no_lf bytes word rest is none =
    HasNoLf-behind bytes word rest (Says-ok (cut_read bytes) (λ p. bytes ≡ p.0 ++ (32 ∷ p.1)) ⊥ (word, rest) (cut_says bytes) is) none

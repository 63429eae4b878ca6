-- The exact grammar: of any line, and from it of a session's and of a script's.
use Rattle.std.proofs.Common.{◌≡◌, ◌≤◌, ℕ, true, false, List, nat_lt, length, codes, Result, Ok, Err, refl, ap, ◌∙◌, inl, inr, arith}
use Rattle.std.proofs.lemmas.Bool.{cases_lt}
use Rattle.std.proofs.lemmas.Bool.Decides.{nat_tests}
use Rattle.rx_proto.specs.Grammar.{SpellsCommand, SpellsInScript, IsOfScript, IsSpelled, IsLong}
use Rattle.rx_proto.specs.Laws.{IsExact}
use Rattle.rx_proto.specs.Reading.{◌>>=◌, begins_with, rest_behind, line_read, in_script, in_session, named_text_read, pub_read, script_read, session_read}
use Rattle.rx_proto.specs.declared.command.Command.TheVariants.{Pub, End, Fail, Sub, Hello, Quit}
use Rattle.rx_proto.specs.declared.line_error.BadLine.{BadLine}
use Rattle.rx_proto.specs.declared.line_error.BadLine.TheVariants.{Long, Syntax}
use Rattle.rx_proto.specs.declared.script_line.ScriptLine.{ScriptLine}
use Rattle.rx_proto.specs.declared.script_line.ScriptLine.TheVariants.{Command, At, Join, Request, Dispose}
use Rattle.rx_proto.proofs.Complete.{line_read-long, line_read-spelled}
use Rattle.rx_proto.proofs.Sound.{IsRead, Says, Says-ok, Says-long, Says-then, line_says}

-- what is neither read nor too long is refused as no line
pub refused : {M : Type 0} (read : Result M BadLine) (P : M → Type 0) (Q : Type 0) → Says read P Q → (Q → ⊥) → ((m : M) → P m → ⊥) → read ≡ Err Syntax
refused (Ok m) P Q says short none = absurd (none m says)
refused (Err Long) P Q says short none = absurd (short says)
refused (Err Syntax) P Q says short none = refl

-- a reading is exact that says of each line what it spells, reads what is spelled and refuses what is too long
pub exact : {M : Type 0} (read : List ℕ → Result M BadLine) (spells : M → List ℕ → Type 0)
    → ((line : List ℕ) → Says (read line) (λ m. spells m line × (length line ≤ 1100)) (IsLong line))
    → ((line : List ℕ) (m : M) → spells m line → length line ≤ 1100 → read line ≡ Ok m)
    → ((line : List ℕ) → IsLong line → read line ≡ Err Long)
    → IsExact read spells
exact {M = M} read spells says spelled long = record {
  sound = λ line m is. Says-ok (read line) (λ m. spells m line × (length line ≤ 1100)) (IsLong line) m (says line) is;
  complete = spelled;
  long = λ line. (λ is. Says-long (read line) (λ m. spells m line × (length line ≤ 1100)) (IsLong line) (says line) is, long line);
  other = λ line. (
    λ is. (
      λ l. (let refused : read line ≡ Err Long = long line l in cc),
      λ m s. elim (cases_lt 1100 (length line)) [
        | inl many ↦ (let refused : read line ≡ Err Long = long line (inl many) in cc)
        | inr few ↦ (let found : read line ≡ Ok m = spelled line m s few in cc)
      ],
    ),
    λ h. refused (read line) (λ m. spells m line × (length line ≤ 1100)) (IsLong line) (says line) h.0 (λ m s. h.1 m s.0),
  );
}

-- a meaning that may stand in a script is read as itself, and no other is read
in_script-says : (line : List ℕ) (m : ScriptLine) → IsRead line m → Says (in_script m) (λ n. SpellsInScript n line × (length line ≤ 1100)) (IsLong line)
in_script-says line (Command (Pub name text)) is = ((is.0, tt), is.1)
in_script-says line (Command (End name)) is = ((is.0, tt), is.1)
in_script-says line (Command (Fail name text)) is = ((is.0, tt), is.1)
in_script-says line (Command (Sub name policy)) is = tt
in_script-says line (Command (Hello version)) is = ((is.0, tt), is.1)
in_script-says line (Command Quit) is = ((is.0, tt), is.1)
in_script-says line (At moment) is = ((is.0, tt), is.1)
in_script-says line (Join name policy first) is = ((is.0, tt), is.1)
in_script-says line (Request name who n) is = ((is.0, tt), is.1)
in_script-says line (Dispose name who) is = ((is.0, tt), is.1)

in_script-of : (m : ScriptLine) → IsOfScript m → in_script m ≡ Ok m
in_script-of (Command (Pub name text)) is = refl
in_script-of (Command (End name)) is = refl
in_script-of (Command (Fail name text)) is = refl
in_script-of (Command (Sub name policy)) is = absurd is
in_script-of (Command (Hello version)) is = refl
in_script-of (Command Quit) is = refl
in_script-of (At moment) is = refl
in_script-of (Join name policy first) is = refl
in_script-of (Request name who n) is = refl
in_script-of (Dispose name who) is = refl

-- a PUB may stand in a script
pub_in_script : (bytes : List ℕ) → (pub_read bytes >>= in_script) ≡ pub_read bytes
unfolding pub_read
pub_in_script bytes =
    let meaning : List ℕ × List ℕ → Result ScriptLine BadLine = λ p. Ok (Command (Pub p.0 p.1)) in
    elim (named_text_read bytes) as (λ read. ((read >>= meaning) >>= in_script) ≡ (read >>= meaning)) [ Ok p ↦ refl | Err fault ↦ refl ]

-- the line of a PUB is read as in a session
pub script_read-pub : (line rest : List ℕ) → begins_with line (codes "PUB ") ≡ true → rest ≡ rest_behind line (codes "PUB ") → length line ≤ 1100 → script_read line ≡ pub_read rest
unfolding line_read
script_read-pub line rest is behind few =
    let fits : nat_lt 1100 (length line) ≡ false = grind (arith, nat_tests) in
    rw (fits, is, behind) (pub_in_script (rest_behind line (codes "PUB ")))

-- a script's lines
pub script_exact : IsExact script_read SpellsInScript
script_exact = exact script_read SpellsInScript
    (λ line. Says-then (line_read line) in_script (IsRead line) (IsLong line) (λ m. SpellsInScript m line × (length line ≤ 1100)) (IsLong line) (line_says line) (in_script-says line) (λ long. long))
    (λ line m s few. ap (λ read. read >>= in_script) (line_read-spelled line m s.0 few) ∙ in_script-of m s.1)
    (λ line long. ap (λ read. read >>= in_script) (line_read-long line long))

-- a command is read as itself, and no other meaning is
in_session-says : (line : List ℕ) (m : ScriptLine) → IsRead line m → Says (in_session m) (λ c. SpellsCommand c line × (length line ≤ 1100)) (IsLong line)
in_session-says line (Command command) is = is
in_session-says line (At moment) is = tt
in_session-says line (Join name policy first) is = tt
in_session-says line (Request name who n) is = tt
in_session-says line (Dispose name who) is = tt

-- a session's lines
pub session_exact : IsExact session_read SpellsCommand
session_exact = exact session_read SpellsCommand
    (λ line. Says-then (line_read line) in_session (IsRead line) (IsLong line) (λ c. SpellsCommand c line × (length line ≤ 1100)) (IsLong line) (line_says line) (in_session-says line) (λ long. long))
    (λ line c s few. ap (λ read. read >>= in_session) (line_read-spelled line (Command c) s few))
    (λ line long. ap (λ read. read >>= in_session) (line_read-long line long))

-- what is read of a line is spelled by one
pub read-spelled : (line : List ℕ) (meaning : ScriptLine) → line_read line ≡ Ok meaning → IsSpelled meaning
read-spelled line meaning is = (line, (Says-ok (line_read line) (IsRead line) (IsLong line) meaning (line_says line) is).0)

-- the same in a script
pub script_read-spelled : (line : List ℕ) (meaning : ScriptLine) → script_read line ≡ Ok meaning → IsSpelled meaning
script_read-spelled line meaning is = (line, (script_exact.sound line meaning is).0.0)

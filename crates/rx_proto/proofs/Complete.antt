-- What is spelled is read.
use Rattle.std.proofs.Common.{◌≡◌, ℕ, ◌+◌, ◌-◌, ◌*◌, ◌<◌, ◌≤◌, ◌^◌, true, false, List, [], ◌∷◌, ◌++◌, nat_eq, nat_lt, length, codes, Ok, Err, refl, sym, ap, ◌∙◌, subst, inl, inr, arith}
use Rattle.std.proofs.lemmas.Bool.{ne_eqb, cases_lt}
use Rattle.std.proofs.lemmas.Bool.Decides.{nat_tests}
use Rattle.std.specs.List.{list_any, AllByRecursion}
use Rattle.rx_note.specs.Choices.{Choice, is_in_limits}
use Rattle.rx_note.specs.declared.strategy.Strategy.{Strategy}
use Rattle.rx_note.specs.declared.strategy.Strategy.TheVariants.{Buffer, Drop, Latest, Bounded}
use Rattle.rx_note.specs.declared.errors.Errors.{Errors}
use Rattle.rx_note.specs.declared.errors.Errors.TheVariants.{Ahead, Delay}
use Rattle.rx_proto.specs.Grammar.{IsText, IsDigit, value_behind, SpellsNumber, SpellsRoom, SpellsStrategy, SpellsErrors, SpellsSub, SpellsJoin, SpellsRequest, SpellsDispose, Spells, HasLongText, IsLong}
use Rattle.rx_proto.specs.LineFeeds.{HasNoLf}
use Rattle.rx_proto.specs.Names.{IsName, IsNameByte}
use Rattle.rx_proto.specs.Reading.{◌>>=◌, cut_read, same_word, begins_with, pub_read, name_read, named_read, text_read, digits_read, wide_number_read, number_read, room_read, strategy_read, errors_read, policy_read, named_text_read, join_read, request_read, dispose_read, sub_read, words_read, line_read}
use Rattle.rx_proto.specs.declared.command.Command.TheVariants.{Pub, End, Fail, Sub, Hello, Quit}
use Rattle.rx_proto.specs.declared.line_error.BadLine.TheVariants.{Long}
use Rattle.rx_proto.specs.declared.script_line.ScriptLine.{ScriptLine}
use Rattle.rx_proto.specs.declared.script_line.ScriptLine.TheVariants.{Command, At, Join, Request, Dispose}
use Rattle.rx_proto.proofs.Cuts.{HasNoSpace, HasNoSpace-append, cut_read-parted}
use Rattle.rx_proto.proofs.NameTests.{name_read-name}
use Rattle.rx_proto.proofs.Sound.{is_digit-decides, sizes-decides}

-- bytes that each pass a test which no space passes have no space
pub no_space : (P : ℕ → Type 0) → ((byte : ℕ) → P byte → byte ≡ 32 → ⊥) → (bytes : List ℕ) → AllByRecursion P bytes → HasNoSpace bytes
no_space P never [] all = tt
no_space P never (byte ∷ bytes) all = (never byte all.0, no_space P never bytes all.1)

pub IsNameByte-no_space : (byte : ℕ) → IsNameByte byte → byte ≡ 32 → ⊥
IsNameByte-no_space byte (inl letter) space = omega arith
IsNameByte-no_space byte (inr (inl digit)) space = omega arith
IsNameByte-no_space byte (inr (inr dash)) space = omega arith

name-no_space : (name : List ℕ) → IsName name → HasNoSpace name
name-no_space name is = no_space IsNameByte IsNameByte-no_space name is.each

number-no_space : (n : ℕ) (digits : List ℕ) → SpellsNumber 32 n digits → HasNoSpace digits
number-no_space n digits is = no_space IsDigit (λ byte digit space. omega arith) digits is.each

pub named_read-named : (name rest : List ℕ) → IsName name → named_read (name ++ (32 ∷ rest)) ≡ Ok (name, rest)
unfolding named_read
named_read-named name rest is = rw (cut_read-parted name rest (name-no_space name is), name_read-name name is) refl

pub no_lf_test : (bytes : List ℕ) → HasNoLf bytes → list_any (λ byte. nat_eq byte 10) bytes ≡ false
no_lf_test [] none = refl
no_lf_test (byte ∷ bytes) none = rw (ne_eqb byte 10 none.0, no_lf_test bytes none.1) refl

pub text_read-text : (text : List ℕ) → IsText text → text_read text ≡ Ok text
unfolding text_read
text_read-text text is =
    let few : nat_lt 1024 (length text) ≡ false = let f = is.few in grind (arith, nat_tests) in
    rw (no_lf_test text is.no_lf, few) refl

pub text_read-long : (text : List ℕ) → 1024 < length text → HasNoLf text → text_read text ≡ Err Long
unfolding text_read
text_read-long text long none =
    let many : nat_lt 1024 (length text) ≡ true = grind (arith, nat_tests) in
    rw (no_lf_test text none, many) refl

digits_read-value : (value : ℕ) (digits : List ℕ) → AllByRecursion IsDigit digits → value_behind value digits < 2 ^ 64 → digits_read value digits ≡ Ok (value_behind value digits)
digits_read-value value [] all fits = let few : nat_lt value 18446744073709551616 ≡ true = grind (arith, nat_tests) in rw few refl
digits_read-value value (digit ∷ digits) all fits = rw ((is_digit-decides digit).1 all.0) (digits_read-value (value * 10 + (digit - 48)) digits all.1 fits)

wide_number_read-number : (n : ℕ) (digits : List ℕ) → SpellsNumber 64 n digits → wide_number_read digits ≡ Ok n
unfolding wide_number_read
wide_number_read-number n digits is =
    let fits : value_behind 0 digits < 2 ^ 64 = omega (arith, is.value, is.fits) in
    rw ((sizes-decides digits).1 (is.some, is.few)) (digits_read-value 0 digits is.each fits ∙ ap Ok is.value)

-- a number of 32 bits is one of 64
widen : (n : ℕ) (digits : List ℕ) → SpellsNumber 32 n digits → SpellsNumber 64 n digits
widen n digits is = record { some = is.some; few = is.few; each = is.each; value = is.value; fits = let fits = is.fits in omega (arith, fits) }

number_read-number : (n : ℕ) (digits : List ℕ) → SpellsNumber 32 n digits → number_read digits ≡ Ok n
unfolding number_read
number_read-number n digits is =
    let few : nat_lt n 4294967296 ≡ true = let fits = is.fits in grind (arith, nat_tests) in
    rw (wide_number_read-number n digits (widen n digits is), few) refl

-- a name without a space has none with its room behind it
room-no_space : (name : List ℕ) (room : ℕ) (word : List ℕ) → HasNoSpace name → SpellsRoom name room word → HasNoSpace word
room-no_space name room word none is =
    subst HasNoSpace (sym is.parts) (HasNoSpace-append name is.digits none (number-no_space room is.digits is.number_is))

strategy-no_space : (strategy : Strategy) (word : List ℕ) → SpellsStrategy strategy word → HasNoSpace word
strategy-no_space Buffer word is = subst HasNoSpace (sym is) (search arith)
strategy-no_space (Drop room) word is = room-no_space (codes "DROP:") room word (search arith) is.0
strategy-no_space (Latest room) word is = room-no_space (codes "LATEST:") room word (search arith) is.0
strategy-no_space (Bounded room) word is = room-no_space (codes "BOUNDED:") room word (search arith) is.0

room_read-number : (room : ℕ) (digits : List ℕ) → SpellsNumber 32 room digits → room ≤ 1024 → room_read digits ≡ Ok room
room_read-number room digits is few =
    let fits : nat_lt room 65536 ≡ true = grind (arith, nat_tests) in
    rw (number_read-number room digits is, fits) refl

-- the words of a policy have no space, and are read
strategy_cut : (strategy : Strategy) (word rest : List ℕ) → SpellsStrategy strategy word → cut_read (word ++ (32 ∷ rest)) ≡ Ok (word, rest)
strategy_cut strategy word rest is = cut_read-parted word rest (strategy-no_space strategy word is)

strategy_read-word : (strategy : Strategy) (word : List ℕ) → SpellsStrategy strategy word → strategy_read word ≡ Ok strategy
strategy_read-word Buffer word is = let P : List ℕ → Type 0 = λ w. strategy_read w ≡ Ok Buffer in subst P (sym is) refl
strategy_read-word (Drop room) word is =
    let P : List ℕ → Type 0 = λ w. strategy_read w ≡ Ok (Drop room) in
    subst P (sym is.0.parts) (rw (room_read-number room is.0.digits is.0.number_is is.1) refl)
strategy_read-word (Latest room) word is =
    let P : List ℕ → Type 0 = λ w. strategy_read w ≡ Ok (Latest room) in
    subst P (sym is.0.parts) (rw (room_read-number room is.0.digits is.0.number_is is.2) refl)
strategy_read-word (Bounded room) word is =
    let P : List ℕ → Type 0 = λ w. strategy_read w ≡ Ok (Bounded room) in
    subst P (sym is.0.parts) (rw (room_read-number room is.0.digits is.0.number_is is.1) refl)

strategy-in_limits : (strategy : Strategy) (word : List ℕ) → SpellsStrategy strategy word → is_in_limits strategy ≡ true
strategy-in_limits Buffer word is = refl
strategy-in_limits (Drop room) word is = let few = is.1 in grind (arith, nat_tests)
strategy-in_limits (Latest room) word is = let some = is.1 in let few = is.2 in grind (arith, nat_tests)
strategy-in_limits (Bounded room) word is = let few = is.1 in grind (arith, nat_tests)

errors_cut : (errors : Errors) (word rest : List ℕ) → SpellsErrors errors word → cut_read (word ++ (32 ∷ rest)) ≡ Ok (word, rest)
errors_cut Ahead word rest is = let P : List ℕ → Type 0 = λ w. cut_read (w ++ (32 ∷ rest)) ≡ Ok (w, rest) in subst P (sym is) refl
errors_cut Delay word rest is = let P : List ℕ → Type 0 = λ w. cut_read (w ++ (32 ∷ rest)) ≡ Ok (w, rest) in subst P (sym is) refl

errors_read-word : (errors : Errors) (word : List ℕ) → SpellsErrors errors word → errors_read word ≡ Ok errors
errors_read-word Ahead word is = let P : List ℕ → Type 0 = λ w. errors_read w ≡ Ok Ahead in subst P (sym is) refl
errors_read-word Delay word is = let P : List ℕ → Type 0 = λ w. errors_read w ≡ Ok Delay in subst P (sym is) refl

policy_read-words : (policy : Choice) (strategy errors : List ℕ) → SpellsStrategy policy.strategy strategy → SpellsErrors policy.errors errors → policy_read strategy errors ≡ Ok policy
unfolding policy_read
policy_read-words policy strategy errors s e =
    rw (strategy_read-word policy.strategy strategy s, errors_read-word policy.errors errors e, strategy-in_limits policy.strategy strategy s) refl

named_text_read-text : (name text : List ℕ) → IsName name → IsText text → named_text_read (name ++ (32 ∷ text)) ≡ Ok (name, text)
unfolding named_text_read
named_text_read-text name text is t = rw (named_read-named name text is, text_read-text text t) refl

named_text_read-long : (name text : List ℕ) → IsName name → 1024 < length text → HasNoLf text → named_text_read (name ++ (32 ∷ text)) ≡ Err Long
unfolding named_text_read
named_text_read-long name text is long none = rw (named_read-named name text is, text_read-long text long none) refl

-- the words of JOIN are read
join_read-words : (name : List ℕ) (policy : Choice) (first : ℕ) (line : List ℕ) (s : SpellsJoin name policy first line)
    → join_read (name ++ (32 ∷ (s.strategy ++ (32 ∷ (s.errors ++ (32 ∷ s.number)))))) ≡ Ok (Join name policy first)
unfolding join_read
join_read-words name policy first line s =
    rw (
      named_read-named name (s.strategy ++ (32 ∷ (s.errors ++ (32 ∷ s.number)))) s.name_is,
      strategy_cut policy.strategy s.strategy (s.errors ++ (32 ∷ s.number)) s.strategy_is,
      errors_cut policy.errors s.errors s.number s.errors_is,
      policy_read-words policy s.strategy s.errors s.strategy_is s.errors_is,
      number_read-number first s.number s.number_is,
    ) refl

request_read-words : (name : List ℕ) (who n : ℕ) (line : List ℕ) (s : SpellsRequest name who n line) → request_read (name ++ (32 ∷ (s.observer ++ (32 ∷ s.items)))) ≡ Ok (Request name who n)
unfolding request_read
request_read-words name who n line s =
    rw (
      named_read-named name (s.observer ++ (32 ∷ s.items)) s.name_is,
      cut_read-parted s.observer s.items (number-no_space who s.observer s.observer_is),
      number_read-number who s.observer s.observer_is,
      number_read-number n s.items s.items_is,
    ) refl

dispose_read-words : (name : List ℕ) (who : ℕ) (line : List ℕ) (s : SpellsDispose name who line) → dispose_read (name ++ (32 ∷ s.observer)) ≡ Ok (Dispose name who)
unfolding dispose_read
dispose_read-words name who line s =
    rw (named_read-named name s.observer s.name_is, number_read-number who s.observer s.observer_is) refl

sub_read-words : (name : List ℕ) (policy : Choice) (line : List ℕ) (s : SpellsSub name policy line) → sub_read (name ++ (32 ∷ (s.strategy ++ (32 ∷ s.errors)))) ≡ Ok (Command (Sub name policy))
unfolding sub_read
sub_read-words name policy line s =
    rw (
      named_read-named name (s.strategy ++ (32 ∷ s.errors)) s.name_is,
      strategy_cut policy.strategy s.strategy s.errors s.strategy_is,
      policy_read-words policy s.strategy s.errors s.strategy_is s.errors_is,
    ) refl

-- a line in its limit whose first word is neither PUB nor QUIT
line_read-words : (command bytes line : List ℕ) → line ≡ command ++ (32 ∷ bytes) → length line ≤ 1100 → cut_read (command ++ (32 ∷ bytes)) ≡ Ok (command, bytes)
    → begins_with (command ++ (32 ∷ bytes)) (codes "PUB ") ≡ false → same_word (command ++ (32 ∷ bytes)) (codes "QUIT") ≡ false → line_read line ≡ words_read command bytes
unfolding line_read
line_read-words command bytes line parts few cut no_pub other =
    let fits : nat_lt 1100 (length line) ≡ false = grind (arith, nat_tests) in
    rw (fits, parts, no_pub, other, cut) refl

-- a line of PUB in its limit
line_read-pub : (bytes line : List ℕ) → line ≡ codes "PUB" ++ (32 ∷ bytes) → length line ≤ 1100 → line_read line ≡ (named_text_read bytes >>= λ p. Ok (Command (Pub p.0 p.1)))
unfolding line_read pub_read
line_read-pub bytes line parts few =
    let fits : nat_lt 1100 (length line) ≡ false = grind (arith, nat_tests) in
    rw (fits, parts) refl

end_read : (bytes : List ℕ) → words_read (codes "END") bytes ≡ (name_read bytes >>= λ name. Ok (Command (End name)))
unfolding words_read
end_read bytes = refl

fail_read : (bytes : List ℕ) → words_read (codes "FAIL") bytes ≡ (named_text_read bytes >>= λ p. Ok (Command (Fail p.0 p.1)))
unfolding words_read
fail_read bytes = refl

join_words : (bytes : List ℕ) → words_read (codes "JOIN") bytes ≡ join_read bytes
unfolding words_read
join_words bytes = refl

at_words : (bytes : List ℕ) → words_read (codes "AT") bytes ≡ (wide_number_read bytes >>= λ moment. Ok (At moment))
unfolding words_read
at_words bytes = refl

request_words : (bytes : List ℕ) → words_read (codes "REQUEST") bytes ≡ request_read bytes
unfolding words_read
request_words bytes = refl

dispose_words : (bytes : List ℕ) → words_read (codes "DISPOSE") bytes ≡ dispose_read bytes
unfolding words_read
dispose_words bytes = refl

sub_words : (bytes : List ℕ) → words_read (codes "SUB") bytes ≡ sub_read bytes
unfolding words_read
sub_words bytes = refl

hello_words : (bytes : List ℕ) → words_read (codes "HELLO") bytes ≡ (number_read bytes >>= λ version. Ok (Command (Hello version)))
unfolding words_read
hello_words bytes = refl

quit_read : line_read (codes "QUIT") ≡ Ok (Command Quit)
unfolding line_read
quit_read = refl

-- every line in its limit that is spelled is read
pub line_read-spelled : (line : List ℕ) (meaning : ScriptLine) → Spells meaning line → length line ≤ 1100 → line_read line ≡ Ok meaning
line_read-spelled line (Command (Pub name text)) s few =
    line_read-pub (name ++ (32 ∷ text)) line s.words few ∙ rw (named_text_read-text name text s.name_is s.text_is) refl
line_read-spelled line (Command (End name)) s few =
    line_read-words (codes "END") name line s.1 few refl refl refl ∙ end_read name ∙ rw (name_read-name name s.0) refl
line_read-spelled line (Command (Fail name text)) s few =
    line_read-words (codes "FAIL") (name ++ (32 ∷ text)) line s.words few refl refl refl ∙ fail_read (name ++ (32 ∷ text)) ∙ rw (named_text_read-text name text s.name_is s.text_is) refl
line_read-spelled line (Command (Sub name policy)) s few =
    let bytes = name ++ (32 ∷ (s.strategy ++ (32 ∷ s.errors))) in
    line_read-words (codes "SUB") bytes line s.words few refl refl refl ∙ sub_words bytes ∙ sub_read-words name policy line s
line_read-spelled line (Command (Hello version)) s few =
    line_read-words (codes "HELLO") s.number line s.words few refl refl refl ∙ hello_words s.number ∙ rw (number_read-number version s.number s.number_is) refl
line_read-spelled line (Command Quit) s few = ap line_read s ∙ quit_read
line_read-spelled line (At moment) s few =
    line_read-words (codes "AT") s.number line s.words few refl refl refl ∙ at_words s.number ∙ rw (wide_number_read-number moment s.number s.number_is) refl
line_read-spelled line (Join name policy first) s few =
    let bytes = name ++ (32 ∷ (s.strategy ++ (32 ∷ (s.errors ++ (32 ∷ s.number))))) in
    line_read-words (codes "JOIN") bytes line s.words few refl refl refl ∙ join_words bytes ∙ join_read-words name policy first line s
line_read-spelled line (Request name who n) s few =
    let bytes = name ++ (32 ∷ (s.observer ++ (32 ∷ s.items))) in
    line_read-words (codes "REQUEST") bytes line s.words few refl refl refl ∙ request_words bytes ∙ request_read-words name who n line s
line_read-spelled line (Dispose name who) s few =
    let bytes = name ++ (32 ∷ s.observer) in
    line_read-words (codes "DISPOSE") bytes line s.words few refl refl refl ∙ dispose_words bytes ∙ dispose_read-words name who line s

-- a line of too many bytes is refused
line_read-many : (line : List ℕ) → 1100 < length line → line_read line ≡ Err Long
unfolding line_read
line_read-many line long = let many : nat_lt 1100 (length line) ≡ true = grind (arith, nat_tests) in rw many refl

-- a line whose only fault is its text is refused
line_read-text : (line : List ℕ) → HasLongText line → length line ≤ 1100 → line_read line ≡ Err Long
line_read-text line h few =
    elim h.command_is [
      | inl is ↦ (let parts : line ≡ codes "PUB" ++ (32 ∷ (h.name ++ (32 ∷ h.text))) = h.words ∙ ap (λ c. c ++ (32 ∷ (h.name ++ (32 ∷ h.text)))) is in
          line_read-pub (h.name ++ (32 ∷ h.text)) line parts few ∙ rw (named_text_read-long h.name h.text h.name_is h.long h.no_lf) refl)
      | inr is ↦ (let parts : line ≡ codes "FAIL" ++ (32 ∷ (h.name ++ (32 ∷ h.text))) = h.words ∙ ap (λ c. c ++ (32 ∷ (h.name ++ (32 ∷ h.text)))) is in
          line_read-words (codes "FAIL") (h.name ++ (32 ∷ h.text)) line parts few refl refl refl ∙ fail_read (h.name ++ (32 ∷ h.text)) ∙ rw (named_text_read-long h.name h.text h.name_is h.long h.no_lf) refl)
    ]

-- every long line is refused as too long
pub line_read-long : (line : List ℕ) → IsLong line → line_read line ≡ Err Long
line_read-long line (inl many) = line_read-many line many
line_read-long line (inr text) =
    elim (cases_lt 1100 (length line)) [ inl many ↦ line_read-many line many | inr few ↦ line_read-text line text few ]

-- What is read is spelled so, and what is refused as too long is so.
use Rattle.std.proofs.Common.{◌≡◌, ℕ, ◌+◌, ◌-◌, ◌*◌, ◌<◌, ◌≤◌, ◌^◌, ◌==◌, ◌&&◌, ◌||◌, Bool, true, false, cond, List, [], ◌∷◌, ◌++◌, nat_eq, nat_lt, nat_le, length, codes, take, Result, ◌⊎◌, Ok, Err, refl, sym, ap, ◌∙◌, subst, inl, inr, arith}
use Rattle.std.proofs.lemmas.Bool.{eqb-true, eqb-false}
use Rattle.std.proofs.lemmas.Bool.Decides.{nat_tests}
use Rattle.std.proofs.lemmas.List.{take-append-drop}
use Rattle.std.specs.Bool.{Decides}
use Rattle.std.specs.Cmp.Lexicographic.{same_text}
use Rattle.std.specs.List.{list_any, AllByRecursion}
use Rattle.rx_note.specs.Choices.{Choice, choice, is_in_limits}
use Rattle.rx_note.specs.declared.strategy.Strategy.{Strategy}
use Rattle.rx_note.specs.declared.strategy.Strategy.TheVariants.{Buffer, Drop, Latest, Bounded}
use Rattle.rx_note.specs.declared.errors.Errors.{Errors}
use Rattle.rx_note.specs.declared.errors.Errors.TheVariants.{Delay}
use Rattle.rx_proto.specs.Grammar.{IsText, IsDigit, value_behind, SpellsNumber, SpellsRoom, SpellsStrategy, SpellsErrors, Spells, HasLongText, IsLong}
use Rattle.rx_proto.specs.LineFeeds.{HasNoLf}
use Rattle.rx_proto.specs.Names.{IsName}
use Rattle.rx_proto.specs.Reading.{◌>>=◌, cut_read, same_word, begins_with, rest_behind, name_read, named_read, text_read, is_digit, digits_read, wide_number_read, number_read, room_read, strategy_read, errors_read, policy_read, named_text_read, pub_read, join_read, request_read, dispose_read, sub_read, words_read, line_read}
use Rattle.rx_proto.specs.declared.command.Command.TheVariants.{Pub, End, Fail, Sub, Hello}
use Rattle.rx_proto.specs.declared.line_error.BadLine.{BadLine}
use Rattle.rx_proto.specs.declared.line_error.BadLine.TheVariants.{Long, Syntax}
use Rattle.rx_proto.specs.declared.script_line.ScriptLine.{ScriptLine}
use Rattle.rx_proto.specs.declared.script_line.ScriptLine.TheVariants.{Command, At, Dispose}
use Rattle.rx_proto.proofs.NameTests.{is_name, is_name-decides}

-- what a reading says: P of a value, and Q where it refuses as too long
abbrev pub Says : {A : Type 0} → Result A BadLine → (A → Type 0) → Type 0 → Type 0
Says (Ok a) P Q = P a
Says (Err Long) P Q = Q
Says (Err Syntax) P Q = Unit {0}

-- a reading in two steps
pub Says-then : {A B : Type 0} (read : Result A BadLine) (next : A → Result B BadLine) (P : A → Type 0) (Q : Type 0) (P' : B → Type 0) (Q' : Type 0) → Says read P Q
    → ((a : A) → P a → Says (next a) P' Q') → (Q → Q') → Says (read >>= next) P' Q'
Says-then (Ok a) next P Q P' Q' says more long = more a says
Says-then (Err Long) next P Q P' Q' says more long = long says
Says-then (Err Syntax) next P Q P' Q' says more long = tt

-- a reading behind a test
pub Says-test : {A : Type 0} (test : Bool) (first second : Result A BadLine) (P : A → Type 0) (Q : Type 0) → (test ≡ true → Says first P Q) → (test ≡ false → Says second P Q) → Says (cond test first second) P Q
Says-test true first second P Q passed failed = passed refl
Says-test false first second P Q passed failed = failed refl

pub cut_says : (bytes : List ℕ) → Says (cut_read bytes) (λ p. bytes ≡ p.0 ++ (32 ∷ p.1)) ⊥
cut_says [] = tt
cut_says (byte ∷ bytes) =
    Says-test (byte == 32) (Ok ([], bytes)) (cut_read bytes >>= λ p. Ok (byte ∷ p.0, p.1)) (λ p. byte ∷ bytes ≡ p.0 ++ (32 ∷ p.1)) ⊥
    (λ here. ap (λ b. b ∷ bytes) (eqb-true byte 32 here))
    (λ _. Says-then (cut_read bytes) (λ p. Ok (byte ∷ p.0, p.1)) (λ p. bytes ≡ p.0 ++ (32 ∷ p.1)) ⊥ (λ p. byte ∷ bytes ≡ p.0 ++ (32 ∷ p.1)) ⊥ (cut_says bytes) (λ p parts. ap (λ t. byte ∷ t) parts) (λ never. never))

pub name_says : (bytes : List ℕ) → Says (name_read bytes) (λ name. IsName name × (bytes ≡ name)) ⊥
unfolding name_read
name_says bytes = Says-test (is_name bytes) (Ok bytes) (Err Syntax) (λ name. IsName name × (bytes ≡ name)) ⊥ (λ is. ((is_name-decides bytes).0 is, refl)) (λ _. tt)

-- a name and what stands behind its space
abbrev pub IsNamed : List ℕ → List ℕ × List ℕ → Type 0
IsNamed bytes p = IsName p.0 × (bytes ≡ p.0 ++ (32 ∷ p.1))

pub named_says : (bytes : List ℕ) → Says (named_read bytes) (IsNamed bytes) ⊥
unfolding named_read
named_says bytes =
    Says-then (cut_read bytes) (λ p. name_read p.0 >>= λ name. Ok (name, p.1)) (λ p. bytes ≡ p.0 ++ (32 ∷ p.1)) ⊥ (IsNamed bytes) ⊥ (cut_says bytes)
    (λ p parts. Says-then (name_read p.0) (λ name. Ok (name, p.1)) (λ name. IsName name × (p.0 ≡ name)) ⊥ (IsNamed bytes) ⊥ (name_says p.0)
    (λ name is. (is.0, parts ∙ ap (λ w. w ++ (32 ∷ p.1)) is.1)) (λ never. never))
    (λ never. never)

-- two tests that both failed
or_false : (a b : Bool) → (a || b) ≡ false → (a ≡ false) × (b ≡ false)
or_false true b e = cc
or_false false b e = (refl, e)

-- no LF is found exactly where there is none
pub no_lf_found : (bytes : List ℕ) → list_any (λ byte. nat_eq byte 10) bytes ≡ false → HasNoLf bytes
no_lf_found [] none = tt
no_lf_found (byte ∷ bytes) none =
    let parts = or_false (nat_eq byte 10) (list_any (λ b. nat_eq b 10) bytes) none in
    (eqb-false byte 10 parts.0, no_lf_found bytes parts.1)

pub text_says : (bytes : List ℕ) → Says (text_read bytes) (λ text. IsText text × (bytes ≡ text)) ((1024 < length bytes) × HasNoLf bytes)
unfolding text_read
text_says bytes =
    Says-test (list_any (λ byte. nat_eq byte 10) bytes) (Err Syntax) (cond (nat_lt 1024 (length bytes)) (Err Long) (Ok bytes)) (λ text. IsText text × (bytes ≡ text)) ((1024 < length bytes) × HasNoLf bytes)
    (λ _. tt)
    (λ none. Says-test (nat_lt 1024 (length bytes)) (Err Long) (Ok bytes) (λ text. IsText text × (bytes ≡ text)) ((1024 < length bytes) × HasNoLf bytes)
    (λ long. (grind (arith, nat_tests), no_lf_found bytes none))
    (λ few. (record { few = grind (arith, nat_tests); no_lf = no_lf_found bytes none }, refl)))

-- a reading that says more says less
pub Says-weaker : {A : Type 0} (read : Result A BadLine) (P P' : A → Type 0) (Q : Type 0) → Says read P Q → ((a : A) → P a → P' a) → Says read P' Q
Says-weaker (Ok a) P P' Q says less = less a says
Says-weaker (Err Long) P P' Q says less = says
Says-weaker (Err Syntax) P P' Q says less = tt

-- a word that passed the test of it
pub word_is : (word this : List ℕ) → same_word word this ≡ true → word ≡ this
word_is word this is = same_text word this (sym is)

pub is_digit-decides : (byte : ℕ) → Decides (is_digit byte) (IsDigit byte)
is_digit-decides byte = (λ is. grind (arith, nat_tests), λ is. grind (arith, nat_tests))

pub sizes-decides : (digits : List ℕ) → Decides (nat_le 1 (length digits) && nat_le (length digits) 20) ((1 ≤ length digits) × (length digits ≤ 20))
sizes-decides digits = (λ are. grind (arith, nat_tests), λ are. grind (arith, nat_tests))

-- what digits spell
abbrev pub IsValue : ℕ → List ℕ → ℕ → Type 0
IsValue value digits n = AllByRecursion IsDigit digits × (value_behind value digits ≡ n) × (n < 2 ^ 64)

digits_says : (value : ℕ) (digits : List ℕ) → Says (digits_read value digits) (IsValue value digits) ⊥
digits_says value [] = Says-test (nat_lt value 18446744073709551616) (Ok value) (Err Syntax) (IsValue value []) ⊥ (λ fits. (tt, refl, grind (arith, nat_tests))) (λ _. tt)
digits_says value (digit ∷ digits) =
    let next = value * 10 + (digit - 48) in
    Says-test (is_digit digit) (digits_read next digits) (Err Syntax) (IsValue value (digit ∷ digits)) ⊥
    (λ is. Says-weaker (digits_read next digits) (IsValue next digits) (IsValue value (digit ∷ digits)) ⊥ (digits_says next digits) (λ n h. (((is_digit-decides digit).0 is, h.0), h.1, h.2)))
    (λ _. tt)

pub wide_number_says : (digits : List ℕ) → Says (wide_number_read digits) (λ n. SpellsNumber 64 n digits) ⊥
unfolding wide_number_read
wide_number_says digits =
    Says-test (nat_le 1 (length digits) && nat_le (length digits) 20) (digits_read 0 digits) (Err Syntax) (λ n. SpellsNumber 64 n digits) ⊥
    (λ sizes. let both = (sizes-decides digits).0 sizes in
    Says-weaker (digits_read 0 digits) (IsValue 0 digits) (λ n. SpellsNumber 64 n digits) ⊥ (digits_says 0 digits)
    (λ n h. record { some = both.0; few = both.1; each = h.0; value = h.1; fits = h.2 }))
    (λ _. tt)

-- a number that has fewer bits
narrow : (n : ℕ) (digits : List ℕ) → SpellsNumber 64 n digits → nat_lt n 4294967296 ≡ true → SpellsNumber 32 n digits
narrow n digits is less = record { some = is.some; few = is.few; each = is.each; value = is.value; fits = grind (arith, nat_tests) }

pub number_says : (digits : List ℕ) → Says (number_read digits) (λ n. SpellsNumber 32 n digits) ⊥
unfolding number_read
number_says digits =
    let Goal : ℕ → Type 0 = λ n. SpellsNumber 32 n digits in
    Says-then (wide_number_read digits) _ (λ n. SpellsNumber 64 n digits) ⊥ Goal ⊥ (wide_number_says digits)
    (λ n is. Says-test (nat_lt n 4294967296) (Ok n) (Err Syntax) Goal ⊥ (narrow n digits is) (λ _. tt))
    (λ never. never)

-- the words of a policy
pub record IsPolicy (strategy errors : List ℕ) (policy : Choice) : Type 0 where
  pub strategy_is : SpellsStrategy policy.strategy strategy
  pub errors_is : SpellsErrors policy.errors errors

-- a word that begins with this one
begins : (word this : List ℕ) → begins_with word this ≡ true → word ≡ this ++ rest_behind word this
begins word this is =
    sym (take-append-drop (length this) word) ∙ ap (λ front. front ++ rest_behind word this) (word_is (take (length this) word) this is)

room_says : (digits : List ℕ) → Says (room_read digits) (λ room. SpellsNumber 32 room digits) ⊥
room_says digits =
    let Goal : ℕ → Type 0 = λ room. SpellsNumber 32 room digits in
    Says-then (number_read digits) _ Goal ⊥ Goal ⊥ (number_says digits)
    (λ room is. Says-test (nat_lt room 65536) (Ok room) (Err Syntax) Goal ⊥ (λ _. is) (λ _. tt))
    (λ never. never)

-- a name and its room
named_room_says : (word name : List ℕ) → begins_with word name ≡ true → Says (room_read (rest_behind word name)) (λ room. SpellsRoom name room word) ⊥
named_room_says word name is =
    let digits = rest_behind word name in
    Says-weaker (room_read digits) (λ room. SpellsNumber 32 room digits) (λ room. SpellsRoom name room word) ⊥ (room_says digits)
    (λ room number. record { digits = digits; number_is = number; parts = begins word name is })

-- the word of a strategy, with any room
abbrev NamesStrategy : Strategy → List ℕ → Type 0
NamesStrategy Buffer word = word ≡ codes "BUFFER"
NamesStrategy (Drop room) word = SpellsRoom (codes "DROP:") room word
NamesStrategy (Latest room) word = SpellsRoom (codes "LATEST:") room word
NamesStrategy (Bounded room) word = SpellsRoom (codes "BOUNDED:") room word

strategy_says : (word : List ℕ) → Says (strategy_read word) (λ s. NamesStrategy s word) ⊥
strategy_says word =
    let Goal : Strategy → Type 0 = λ s. NamesStrategy s word in
    Says-test (same_word word (codes "BUFFER")) _ _ Goal ⊥
    (λ is. word_is word (codes "BUFFER") is)
    (λ _. Says-test (begins_with word (codes "DROP:")) _ _ Goal ⊥
    (λ is. Says-then _ (λ room. Ok (Drop room)) (λ room. SpellsRoom (codes "DROP:") room word) ⊥ Goal ⊥ (named_room_says word (codes "DROP:") is) (λ room named. named) (λ never. never))
    (λ _. Says-test (begins_with word (codes "LATEST:")) _ _ Goal ⊥
    (λ is. Says-then _ (λ room. Ok (Latest room)) (λ room. SpellsRoom (codes "LATEST:") room word) ⊥ Goal ⊥ (named_room_says word (codes "LATEST:") is) (λ room named. named) (λ never. never))
    (λ _. Says-test (begins_with word (codes "BOUNDED:")) _ _ Goal ⊥
    (λ is. Says-then _ (λ room. Ok (Bounded room)) (λ room. SpellsRoom (codes "BOUNDED:") room word) ⊥ Goal ⊥ (named_room_says word (codes "BOUNDED:") is) (λ room named. named) (λ never. never))
    (λ _. tt))))

-- in its limits, it is spelled
named_in_limits : (s : Strategy) (word : List ℕ) → NamesStrategy s word → is_in_limits s ≡ true → SpellsStrategy s word
named_in_limits Buffer word is within = is
named_in_limits (Drop room) word is within = (is, grind (arith, nat_tests))
named_in_limits (Latest room) word is within = (is, grind (arith, nat_tests), grind (arith, nat_tests))
named_in_limits (Bounded room) word is within = (is, grind (arith, nat_tests))

errors_says : (word : List ℕ) → Says (errors_read word) (λ e. SpellsErrors e word) ⊥
errors_says word =
    let Goal : Errors → Type 0 = λ e. SpellsErrors e word in
    Says-test (same_word word (codes "AHEAD")) _ _ Goal ⊥
    (λ is. word_is word (codes "AHEAD") is)
    (λ _. Says-test (same_word word (codes "DELAY")) (Ok Delay) (Err Syntax) Goal ⊥ (λ is. word_is word (codes "DELAY") is) (λ _. tt))

policy_says : (strategy errors : List ℕ) → Says (policy_read strategy errors) (IsPolicy strategy errors) ⊥
unfolding policy_read
policy_says strategy errors =
    Says-then (strategy_read strategy) _ (λ s. NamesStrategy s strategy) ⊥ (IsPolicy strategy errors) ⊥ (strategy_says strategy)
    (λ s is. Says-then (errors_read errors) _ (λ e. SpellsErrors e errors) ⊥ (IsPolicy strategy errors) ⊥ (errors_says errors)
    (λ e is_e. Says-test (is_in_limits s) (Ok (choice s e)) (Err Syntax) (IsPolicy strategy errors) ⊥
    (λ within. record { strategy_is = named_in_limits s strategy is within; errors_is = is_e })
    (λ _. tt))
    (λ never. never))
    (λ never. never)

-- a name and a text
abbrev pub IsNamedText : List ℕ → List ℕ × List ℕ → Type 0
IsNamedText bytes p = IsName p.0 × IsText p.1 × (bytes ≡ p.0 ++ (32 ∷ p.1))

-- a name, and a text whose only fault is that it is too long
abbrev pub IsNamedLong : List ℕ → Type 0
IsNamedLong bytes = (name : List ℕ) × (text : List ℕ) × IsName name × (1024 < length text) × HasNoLf text × (bytes ≡ name ++ (32 ∷ text))

pub named_text_says : (bytes : List ℕ) → Says (named_text_read bytes) (IsNamedText bytes) (IsNamedLong bytes)
unfolding named_text_read
named_text_says bytes =
    Says-then (named_read bytes) (λ p. text_read p.1 >>= λ text. Ok (p.0, text)) (IsNamed bytes) ⊥ (IsNamedText bytes) (IsNamedLong bytes) (named_says bytes)
    (λ p named. Says-then (text_read p.1) (λ text. Ok (p.0, text)) (λ text. IsText text × (p.1 ≡ text)) ((1024 < length p.1) × HasNoLf p.1) (IsNamedText bytes) (IsNamedLong bytes) (text_says p.1)
    (λ text is. (named.0, is.0, named.1 ∙ ap (λ t. p.0 ++ (32 ∷ t)) is.1))
    (λ long. (p.0, p.1, named.0, long.0, long.1, named.1)))
    (λ never. absurd never)

-- the words behind a command spell this meaning
abbrev pub Behind : List ℕ → List ℕ → ScriptLine → Type 0
Behind command bytes meaning = Spells meaning (command ++ (32 ∷ bytes))

pub join_says : (bytes : List ℕ) → Says (join_read bytes) (Behind (codes "JOIN") bytes) ⊥
unfolding join_read
join_says bytes =
    let Goal : ScriptLine → Type 0 = Behind (codes "JOIN") bytes in
    Says-then (named_read bytes) _ (IsNamed bytes) ⊥ Goal ⊥ (named_says bytes)
    (λ named is. Says-then (cut_read named.1) _ (λ p. named.1 ≡ p.0 ++ (32 ∷ p.1)) ⊥ Goal ⊥ (cut_says named.1)
    (λ strategy at. Says-then (cut_read strategy.1) _ (λ p. strategy.1 ≡ p.0 ++ (32 ∷ p.1)) ⊥ Goal ⊥ (cut_says strategy.1)
    (λ errors behind. Says-then (policy_read strategy.0 errors.0) _ (IsPolicy strategy.0 errors.0) ⊥ Goal ⊥ (policy_says strategy.0 errors.0)
    (λ policy chosen. Says-then (number_read errors.1) _ (λ n. SpellsNumber 32 n errors.1) ⊥ Goal ⊥ (number_says errors.1)
    (λ first number. record {
      strategy = strategy.0;
      errors = errors.0;
      number = errors.1;
      name_is = is.0;
      strategy_is = chosen.strategy_is;
      errors_is = chosen.errors_is;
      number_is = number;
      words = ap (λ b. codes "JOIN" ++ (32 ∷ b)) (is.1 ∙ ap (λ b. named.0 ++ (32 ∷ b)) (at ∙ ap (λ b. strategy.0 ++ (32 ∷ b)) behind));
    })
    (λ never. never))
    (λ never. never))
    (λ never. never))
    (λ never. never))
    (λ never. never)

pub request_says : (bytes : List ℕ) → Says (request_read bytes) (Behind (codes "REQUEST") bytes) ⊥
unfolding request_read
request_says bytes =
    let Goal : ScriptLine → Type 0 = Behind (codes "REQUEST") bytes in
    Says-then (named_read bytes) _ (IsNamed bytes) ⊥ Goal ⊥ (named_says bytes)
    (λ named is. Says-then (cut_read named.1) _ (λ p. named.1 ≡ p.0 ++ (32 ∷ p.1)) ⊥ Goal ⊥ (cut_says named.1)
    (λ parts at. Says-then (number_read parts.0) _ (λ n. SpellsNumber 32 n parts.0) ⊥ Goal ⊥ (number_says parts.0)
    (λ who observer. Says-then (number_read parts.1) _ (λ n. SpellsNumber 32 n parts.1) ⊥ Goal ⊥ (number_says parts.1)
    (λ n items. record {
      observer = parts.0;
      items = parts.1;
      name_is = is.0;
      observer_is = observer;
      items_is = items;
      words = ap (λ b. codes "REQUEST" ++ (32 ∷ b)) (is.1 ∙ ap (λ b. named.0 ++ (32 ∷ b)) at);
    })
    (λ never. never))
    (λ never. never))
    (λ never. never))
    (λ never. never)

pub dispose_says : (bytes : List ℕ) → Says (dispose_read bytes) (Behind (codes "DISPOSE") bytes) ⊥
unfolding dispose_read
dispose_says bytes =
    let Goal : ScriptLine → Type 0 = Behind (codes "DISPOSE") bytes in
    Says-then (named_read bytes) _ (IsNamed bytes) ⊥ Goal ⊥ (named_says bytes)
    (λ named is. Says-then (number_read named.1) (λ who. Ok (Dispose named.0 who)) (λ n. SpellsNumber 32 n named.1) ⊥ Goal ⊥ (number_says named.1)
    (λ who observer. record {
      observer = named.1;
      name_is = is.0;
      observer_is = observer;
      words = ap (λ b. codes "DISPOSE" ++ (32 ∷ b)) is.1;
    })
    (λ never. never))
    (λ never. never)

pub sub_says : (bytes : List ℕ) → Says (sub_read bytes) (Behind (codes "SUB") bytes) ⊥
unfolding sub_read
sub_says bytes =
    let Goal : ScriptLine → Type 0 = Behind (codes "SUB") bytes in
    Says-then (named_read bytes) _ (IsNamed bytes) ⊥ Goal ⊥ (named_says bytes)
    (λ named is. Says-then (cut_read named.1) _ (λ p. named.1 ≡ p.0 ++ (32 ∷ p.1)) ⊥ Goal ⊥ (cut_says named.1)
    (λ strategy at. Says-then (policy_read strategy.0 strategy.1) (λ policy. Ok (Command (Sub named.0 policy))) (IsPolicy strategy.0 strategy.1) ⊥ Goal ⊥ (policy_says strategy.0 strategy.1)
    (λ policy chosen. record {
      strategy = strategy.0;
      errors = strategy.1;
      name_is = is.0;
      strategy_is = chosen.strategy_is;
      errors_is = chosen.errors_is;
      words = ap (λ b. codes "SUB" ++ (32 ∷ b)) (is.1 ∙ ap (λ b. named.0 ++ (32 ∷ b)) at);
    })
    (λ never. never))
    (λ never. never))
    (λ never. never)

-- a command and what stands behind it
as_this : (command this bytes rest : List ℕ) → command ≡ this → bytes ≡ rest → command ++ (32 ∷ bytes) ≡ this ++ (32 ∷ rest)
as_this command this bytes rest c b = ap (λ w. w ++ (32 ∷ bytes)) c ∙ ap (λ t. this ++ (32 ∷ t)) b

-- the words behind the command of PUB and FAIL
long_text : (command this bytes : List ℕ) → command ≡ this → (this ≡ codes "PUB") ⊎ (this ≡ codes "FAIL") → IsNamedLong bytes → HasLongText (command ++ (32 ∷ bytes))
long_text command this bytes is one long = record {
  command = this;
  name = long.0;
  text = long.1;
  command_is = one;
  name_is = long.2;
  long = long.3;
  no_lf = long.4;
  words = as_this command this bytes (long.0 ++ (32 ∷ long.1)) is long.5;
}

-- what a meaning's words behind this command say of those behind an equal one
at_command : (command this bytes : List ℕ) → command ≡ this → (read : Result ScriptLine BadLine) → Says read (Behind this bytes) ⊥ → Says read (Behind command bytes) (HasLongText (command ++ (32 ∷ bytes)))
at_command command this bytes is (Ok meaning) says = (let P : List ℕ → Type 0 = λ c. Behind c bytes meaning in subst P (sym is) says)
at_command command this bytes is (Err Long) says = absurd says
at_command command this bytes is (Err Syntax) says = tt

pub_says : (bytes : List ℕ) → Says (pub_read bytes) (Behind (codes "PUB") bytes) (HasLongText (codes "PUB" ++ (32 ∷ bytes)))
unfolding pub_read
pub_says bytes =
    let Goal : ScriptLine → Type 0 = Behind (codes "PUB") bytes in
    Says-then (named_text_read bytes) (λ p. Ok (Command (Pub p.0 p.1))) (IsNamedText bytes) (IsNamedLong bytes) Goal (HasLongText (codes "PUB" ++ (32 ∷ bytes))) (named_text_says bytes)
    (λ p h. record { name_is = h.0; text_is = h.1; words = ap (λ b. codes "PUB" ++ (32 ∷ b)) h.2 })
    (long_text (codes "PUB") (codes "PUB") bytes refl (inl refl))

words_says : (command bytes : List ℕ) → Says (words_read command bytes) (Behind command bytes) (HasLongText (command ++ (32 ∷ bytes)))
unfolding words_read
words_says command bytes =
    let Goal : ScriptLine → Type 0 = Behind command bytes in
    let Long_one : Type 0 = HasLongText (command ++ (32 ∷ bytes)) in
    Says-test (same_word command (codes "REQUEST")) _ _ Goal Long_one
    (λ is. at_command command (codes "REQUEST") bytes (word_is command (codes "REQUEST") is) (request_read bytes) (request_says bytes))
    (λ _. Says-test (same_word command (codes "AT")) _ _ Goal Long_one
    (λ is. let this = word_is command (codes "AT") is in
    Says-then (wide_number_read bytes) (λ moment. Ok (At moment)) (λ n. SpellsNumber 64 n bytes) ⊥ Goal Long_one (wide_number_says bytes)
    (λ moment number. record { number = bytes; number_is = number; words = as_this command (codes "AT") bytes bytes this refl }) (λ never. absurd never))
    (λ _. Says-test (same_word command (codes "JOIN")) _ _ Goal Long_one
    (λ is. at_command command (codes "JOIN") bytes (word_is command (codes "JOIN") is) (join_read bytes) (join_says bytes))
    (λ _. Says-test (same_word command (codes "END")) _ _ Goal Long_one
    (λ is. let this = word_is command (codes "END") is in
    Says-then (name_read bytes) (λ name. Ok (Command (End name))) (λ name. IsName name × (bytes ≡ name)) ⊥ Goal Long_one (name_says bytes)
    (λ name h. (h.0, as_this command (codes "END") bytes name this h.1)) (λ never. absurd never))
    (λ _. Says-test (same_word command (codes "FAIL")) _ _ Goal Long_one
    (λ is. let this = word_is command (codes "FAIL") is in
    Says-then (named_text_read bytes) (λ p. Ok (Command (Fail p.0 p.1))) (IsNamedText bytes) (IsNamedLong bytes) Goal Long_one (named_text_says bytes)
    (λ p h. record { name_is = h.0; text_is = h.1; words = as_this command (codes "FAIL") bytes (p.0 ++ (32 ∷ p.1)) this h.2 })
    (long_text command (codes "FAIL") bytes this (inr refl)))
    (λ _. Says-test (same_word command (codes "DISPOSE")) _ _ Goal Long_one
    (λ is. at_command command (codes "DISPOSE") bytes (word_is command (codes "DISPOSE") is) (dispose_read bytes) (dispose_says bytes))
    (λ _. Says-test (same_word command (codes "SUB")) _ _ Goal Long_one
    (λ is. at_command command (codes "SUB") bytes (word_is command (codes "SUB") is) (sub_read bytes) (sub_says bytes))
    (λ _. Says-test (same_word command (codes "HELLO")) _ _ Goal Long_one
    (λ is. let this = word_is command (codes "HELLO") is in
    Says-then (number_read bytes) (λ version. Ok (Command (Hello version))) (λ n. SpellsNumber 32 n bytes) ⊥ Goal Long_one (number_says bytes)
    (λ version number. record { number = bytes; number_is = number; words = as_this command (codes "HELLO") bytes bytes this refl }) (λ never. absurd never))
    (λ _. tt))))))))

-- what is read of a line
abbrev pub IsRead : List ℕ → ScriptLine → Type 0
IsRead line meaning = Spells meaning line × (length line ≤ 1100)

-- what the words say, said of their line
Says-at : (line command bytes : List ℕ) → line ≡ command ++ (32 ∷ bytes) → length line ≤ 1100 → (read : Result ScriptLine BadLine)
    → Says read (Behind command bytes) (HasLongText (command ++ (32 ∷ bytes))) → Says read (IsRead line) (IsLong line)
Says-at line command bytes parts fits (Ok meaning) says = (subst (Spells meaning) (sym parts) says, fits)
Says-at line command bytes parts fits (Err Long) says = inr (subst HasLongText (sym parts) says)
Says-at line command bytes parts fits (Err Syntax) says = tt

pub line_says : (line : List ℕ) → Says (line_read line) (IsRead line) (IsLong line)
unfolding line_read
line_says line =
    Says-test (nat_lt 1100 (length line)) _ _ (IsRead line) (IsLong line)
    (λ long. inl (grind (arith, nat_tests)))
    (λ few. let fits : length line ≤ 1100 = grind (arith, nat_tests) in
    Says-test (begins_with line (codes "PUB ")) _ _ (IsRead line) (IsLong line)
    (λ is. Says-at line (codes "PUB") (rest_behind line (codes "PUB ")) (begins line (codes "PUB ") is) fits (pub_read (rest_behind line (codes "PUB "))) (pub_says (rest_behind line (codes "PUB "))))
    (λ _. Says-test (same_word line (codes "QUIT")) _ _ (IsRead line) (IsLong line)
    (λ is. (word_is line (codes "QUIT") is, fits))
    (λ _. Says-then (cut_read line) (λ p. words_read p.0 p.1) (λ p. line ≡ p.0 ++ (32 ∷ p.1)) ⊥ (IsRead line) (IsLong line) (cut_says line)
    (λ p parts. Says-at line p.0 p.1 parts fits (words_read p.0 p.1) (words_says p.0 p.1))
    (λ never. absurd never))))

-- what is read of a line, from what was read
pub Says-ok : {A : Type 0} (read : Result A BadLine) (P : A → Type 0) (Q : Type 0) (a : A) → Says read P Q → read ≡ Ok a → P a
Says-ok {A = A} read P Q a says is = let M : Result A BadLine → Type 0 = λ r. Says r P Q in subst M is says

pub Says-long : {A : Type 0} (read : Result A BadLine) (P : A → Type 0) (Q : Type 0) → Says read P Q → read ≡ Err Long → Q
Says-long {A = A} read P Q says is = let M : Result A BadLine → Type 0 = λ r. Says r P Q in subst M is says

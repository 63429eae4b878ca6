-- A head of the grammar ends with its first empty line.
use Rattle.std.proofs.Common.{◌≡◌, ℕ, ◌+◌, ◌-◌, ◌≤◌, ◌⊎◌, ◌==◌, ◌||◌, ◌&&◌, nat_eq, inl, inr, Bool, true, false, IsTrue, All, List, [], ◌∷◌, ◌++◌, length, take, drop, codes, refl, sym, ap, ◌∙◌, subst, append_assoc, true≢false, append-nil, arith}
use Rattle.std.proofs.lemmas.Bool.{eqb-true, false≢true, ne_eqb}
use Rattle.std.proofs.lemmas.Bool.Decides.{Decides-eqb, nat_tests}
use Rattle.std.proofs.Math.Bool.{or-true}
use Rattle.std.proofs.lemmas.Slice.Eq.{ends_is}
use Rattle.std.proofs.lemmas.List.{length-append, take-append-drop, take-append-le, take_at}
use Rattle.std.proofs.lemmas.List.Elements.{All-head, All-tail}
use Rattle.std.specs.List.{ends_with, flat_map}
use Rattle.httparse.specs.Grammar.{AllPass, Field, IsField, IsRequestHead, IsToken, LineEnd, RequestHead, crlf, is_token_byte, is_uri_byte, is_value_byte, lf, print_blank, print_end, print_field, print_request, print_section, print_version}
use Rattle.httparse.proofs.GrammarLemmas.{cons-append, print_request-append}
use Rattle.rx_proto.specs.LineFeeds.{HasNoLf}
use Rattle.rx_http.specs.HeadGrammar.{GrammarEndsThere}
use Rattle.rx_http.specs.Heads.{ends_empty}

-- BYTES AMONG WHICH NO EMPTY LINE ENDS

begins_lf : List ℕ → Bool
begins_lf [] = false
begins_lf (byte ∷ bytes) = byte == 10

-- whether some bytes begin with an empty line
abbrev begins_empty : List ℕ → Bool
begins_empty [] = false
begins_empty (byte ∷ bytes) = byte == 10 || (byte == 13 && begins_lf bytes)

-- behind no LF an empty line follows
abbrev IsQuiet : List ℕ → Type 0
IsQuiet [] = Unit {0}
IsQuiet (byte ∷ bytes) = ((byte == 10) ≡ true → begins_empty bytes ≡ false) × IsQuiet bytes

-- wherever an LF stands
quiet-at : (front rest : List ℕ) → IsQuiet (front ++ (10 ∷ rest)) → begins_empty rest ≡ false
quiet-at [] rest quiet = quiet.0 refl
quiet-at (byte ∷ front) rest quiet = quiet-at front rest quiet.1

-- bytes that end with a word are a front and the word, and the other way round
ends-so : (needle bytes : List ℕ) → ends_with nat_eq bytes needle ≡ true → (front : List ℕ) × (bytes ≡ front ++ needle)
ends-so needle bytes ends = (take (length bytes - length needle) bytes, (ends_is Decides-eqb bytes needle (ends_with nat_eq bytes needle) refl).0 ends)

so-ends : (needle front : List ℕ) → ends_with nat_eq (front ++ needle) needle ≡ true
so-ends needle front = (ends_is Decides-eqb (front ++ needle) needle (ends_with nat_eq (front ++ needle) needle) refl).1 front refl

-- one of two tests is true
either : (a b : Bool) → (a || b) ≡ true → (a ≡ true) ⊎ (b ≡ true)
either true b is = inl refl
either false b is = inr is

not-true : (b : Bool) → (b ≡ true → ⊥) → b ≡ false
not-true true none = absurd (none refl)
not-true false none = refl

-- no front of quiet bytes ends with an empty line
quiet-front : (front more : List ℕ) → IsQuiet (front ++ more) → ends_empty front ≡ true → ⊥
unfolding begins_lf
quiet-front bytes more quiet ends =
    elim (either (ends_with nat_eq bytes (codes "\n\n")) (ends_with nat_eq bytes (codes "\n\r\n")) ends) [
      | inl two ↦ let parts = ends-so (codes "\n\n") bytes two in
          true≢false (quiet-at parts.0 (10 ∷ more) (subst IsQuiet (ap (λ l. l ++ more) parts.1 ∙ append_assoc parts.0 (codes "\n\n") more) quiet))
      | inr three ↦ let parts = ends-so (codes "\n\r\n") bytes three in
          true≢false (quiet-at parts.0 (13 ∷ 10 ∷ more) (subst IsQuiet (ap (λ l. l ++ more) parts.1 ∙ append_assoc parts.0 (codes "\n\r\n") more) quiet))
    ]

quiet-below : (bytes : List ℕ) (len : ℕ) → IsQuiet bytes → ends_empty (take len bytes) ≡ false
quiet-below bytes len quiet =
    not-true (ends_empty (take len bytes)) (quiet-front (take len bytes) (drop len bytes) (subst IsQuiet (sym (take-append-drop len bytes)) quiet))

-- THE PARTS OF A HEAD

quiet-line : (line rest : List ℕ) → HasNoLf line → IsQuiet rest → IsQuiet (line ++ rest)
quiet-line [] rest none quiet = quiet
quiet-line (byte ∷ line) rest none quiet = (λ is. absurd (none.0 (eqb-true byte 10 is)), quiet-line line rest none.1 quiet)

quiet-end : (end : LineEnd) (rest : List ℕ) → begins_empty rest ≡ false → IsQuiet rest → IsQuiet (print_end end ++ rest)
quiet-end crlf rest begins quiet = (λ is. absurd (true≢false (sym is)), (λ _. begins, quiet))
quiet-end lf rest begins quiet = (λ _. begins, quiet)

-- bytes of a class that has no LF
pass-no_lf : (test : ℕ → Bool) (bytes : List ℕ) → ((byte : ℕ) → IsTrue (test byte) → byte ≡ 10 → ⊥) → AllPass test bytes → HasNoLf bytes
pass-no_lf test [] none pass = tt
pass-no_lf test (byte ∷ bytes) none pass =
    (none byte (All-head (λ b. IsTrue (test b)) byte bytes pass), pass-no_lf test bytes none (All-tail (λ b. IsTrue (test b)) byte bytes pass))

token-no_lf : (byte : ℕ) → IsTrue (is_token_byte byte) → byte ≡ 10 → ⊥
unfolding is_token_byte
token-no_lf byte is same = let at : IsTrue (is_token_byte 10) = subst (λ (b : ℕ). IsTrue (is_token_byte b)) same is in absurd (false≢true at)

token-no_cr : (byte : ℕ) → IsTrue (is_token_byte byte) → byte ≡ 13 → ⊥
unfolding is_token_byte
token-no_cr byte is same = let at : IsTrue (is_token_byte 13) = subst (λ (b : ℕ). IsTrue (is_token_byte b)) same is in absurd (false≢true at)

uri-no_lf : (byte : ℕ) → IsTrue (is_uri_byte byte) → byte ≡ 10 → ⊥
uri-no_lf byte is same = let at : IsTrue (is_uri_byte 10) = subst (λ (b : ℕ). IsTrue (is_uri_byte b)) same is in absurd (false≢true at)

value-no_lf : (byte : ℕ) → IsTrue (is_value_byte byte) → byte ≡ 10 → ⊥
value-no_lf byte is same = let at : IsTrue (is_value_byte 10) = subst (λ (b : ℕ). IsTrue (is_value_byte b)) same is in absurd (false≢true at)

-- a token begins no empty line
token-begins : (token rest : List ℕ) → IsToken token → begins_empty (token ++ rest) ≡ false
unfolding is_token_byte
token-begins [] rest is = absurd (omega (arith, is.0))
token-begins (byte ∷ token) rest is =
    let first : IsTrue (is_token_byte byte) = All-head (λ b. IsTrue (is_token_byte b)) byte token is.1 in
    let no_lf : (byte == 10) ≡ false = ne_eqb byte 10 (token-no_lf byte first) in
    let no_cr : (byte == 13) ≡ false = ne_eqb byte 13 (token-no_cr byte first) in
    simp (no_lf, no_cr)

-- the end of a section but its last LF
most_of : LineEnd → List ℕ
most_of crlf = 13 ∷ []
most_of lf = []

last-most : (end : LineEnd) → print_end end ≡ most_of end ++ 10 ∷ []
unfolding most_of
last-most crlf = refl
last-most lf = refl

-- the bytes of a section but its last LF
section-most : List Field → LineEnd → List ℕ
section-most fields last = flat_map print_field fields ++ most_of last

most-begins : (last : LineEnd) → begins_empty (most_of last) ≡ false
unfolding most_of begins_lf
most-begins crlf = refl
most-begins lf = refl

most-quiet : (last : LineEnd) → IsQuiet (most_of last)
unfolding most_of
most-quiet crlf = (λ is. absurd (true≢false (sym is)), tt)
most-quiet lf = tt

-- a field, and what stands behind it
field-then : (f : Field) (rest : List ℕ) → print_field f ++ rest ≡ f.name ++ (58 ∷ (f.raw ++ (print_end f.end ++ rest)))
field-then f rest = simp append_assoc

section-begins : (fields : List Field) (last : LineEnd) → All IsField fields → begins_empty (section-most fields last) ≡ false
unfolding section-most
section-begins [] last are = most-begins last
section-begins (f ∷ fields) last are =
    let is = All-head IsField f fields are in
    let rest = flat_map print_field fields ++ most_of last in
    ap begins_empty (append_assoc (print_field f) (flat_map print_field fields) (most_of last) ∙ field-then f rest)
    ∙ token-begins f.name (58 ∷ (f.raw ++ (print_end f.end ++ rest))) is.name

section-quiet : (fields : List Field) (last : LineEnd) → All IsField fields → IsQuiet (section-most fields last)
unfolding section-most
section-quiet [] last are = most-quiet last
section-quiet (f ∷ fields) last are =
    let is = All-head IsField f fields are in
    let rest = flat_map print_field fields ++ most_of last in
    let others = All-tail IsField f fields are in
    let same = append_assoc (print_field f) (flat_map print_field fields) (most_of last) ∙ field-then f rest in
    subst IsQuiet (sym same)
    (quiet-line f.name (58 ∷ (f.raw ++ (print_end f.end ++ rest))) (pass-no_lf is_token_byte f.name token-no_lf is.name.1) (
      λ is. absurd (true≢false (sym is)),
      quiet-line f.raw (print_end f.end ++ rest) (pass-no_lf is_value_byte f.raw value-no_lf is.raw)
          (quiet-end f.end rest (section-begins fields last others) (section-quiet fields last others)),
    ))

-- the bytes of a head but its last LF, and what stands behind its empty lines
line-most : RequestHead → List ℕ
line-most h = h.method ++ 32 ∷ (h.target ++ 32 ∷ (print_version h.minor ++ (print_end h.line_end ++ section-most h.fields h.last)))

other-byte : (byte : ℕ) → (byte == 10) ≡ false → byte ≡ 10 → ⊥
other-byte byte other same = grind (arith, nat_tests)

version-no_lf : (minor : ℕ) → HasNoLf (print_version minor)
version-no_lf minor = (
  other-byte 72 refl,
  (
    other-byte 84 refl,
    (
      other-byte 84 refl,
      (
        other-byte 80 refl,
        (
          other-byte 47 refl,
          (
            other-byte 49 refl,
            (
              other-byte 46 refl,
              ((λ is. omega (arith, is)), tt),
            ),
          ),
        ),
      ),
    ),
  ),
)

line-quiet : (h : RequestHead) → IsRequestHead h → IsQuiet (line-most h)
unfolding line-most
line-quiet h is =
    let section = section-most h.fields h.last in
    let end = print_end h.line_end ++ section in
    let version = print_version h.minor ++ end in
    let target = h.target ++ 32 ∷ version in
    quiet-line h.method (32 ∷ target) (pass-no_lf is_token_byte h.method token-no_lf is.method.1) (
      λ same. absurd (true≢false (sym same)),
      quiet-line h.target (32 ∷ version) (pass-no_lf is_uri_byte h.target uri-no_lf is.target.1) (
        λ same. absurd (true≢false (sym same)),
        quiet-line (print_version h.minor) end (version-no_lf h.minor)
            (quiet-end h.line_end section (section-begins h.fields h.last is.fields) (section-quiet h.fields h.last is.fields)),
      ),
    )

line-begins : (h : RequestHead) → IsRequestHead h → begins_empty (line-most h) ≡ false
unfolding line-most
line-begins h is = token-begins h.method (32 ∷ (h.target ++ 32 ∷ (print_version h.minor ++ (print_end h.line_end ++ section-most h.fields h.last)))) is.method

blank-quiet : (blank : List LineEnd) (line : List ℕ) → length blank ≤ 1 → begins_empty line ≡ false → IsQuiet line → IsQuiet (print_blank blank ++ line)
blank-quiet [] line few begins quiet = quiet
blank-quiet (end ∷ []) line few begins quiet = subst (λ (l : List ℕ). IsQuiet (l ++ line)) (sym (append-nil (print_end end))) (quiet-end end line begins quiet)
blank-quiet (end ∷ other ∷ more) line few begins quiet = absurd (omega arith)

-- the bytes of a head but its last LF
head-most : RequestHead → List ℕ
head-most h = print_blank h.blank ++ line-most h

head-quiet : (h : RequestHead) → IsRequestHead h → length h.blank ≤ 1 → IsQuiet (head-most h)
unfolding head-most
head-quiet h is few = blank-quiet h.blank (line-most h) few (line-begins h is) (line-quiet h is)

section-then : (fields : List Field) (last : LineEnd) (rest : List ℕ) → print_section fields last ++ rest ≡ section-most fields last ++ (10 ∷ rest)
unfolding section-most
section-then fields last rest = simp (last-most, append_assoc)

head-then : (h : RequestHead) (rest : List ℕ) → print_request h ++ rest ≡ head-most h ++ (10 ∷ rest)
unfolding head-most line-most
head-then h rest =
    print_request-append h rest
    ∙ ap (λ l. print_blank h.blank ++ (h.method ++ 32 ∷ (h.target ++ 32 ∷ (print_version h.minor ++ (print_end h.line_end ++ l))))) (section-then h.fields h.last rest)
    ∙ sym (simp append_assoc)

-- A HEAD ENDS WITH AN EMPTY LINE

abbrev EndsWithLf : List ℕ → LineEnd → Type 0
EndsWithLf bytes last = (front : List ℕ) × (bytes ≡ front ++ (10 ∷ most_of last))

section-ends : (fields : List Field) (last : LineEnd) (front : List ℕ) → EndsWithLf ((front ++ 10 ∷ []) ++ section-most fields last) last
unfolding section-most
section-ends [] last front = (front, append_assoc front (10 ∷ []) (most_of last))
section-ends (f ∷ fields) last front =
    let before = (front ++ 10 ∷ []) ++ (f.name ++ (58 ∷ (f.raw ++ most_of f.end))) in
    let more = section-ends fields last before in
    let same : (front ++ 10 ∷ []) ++ ((print_field f ++ flat_map print_field fields) ++ most_of last) ≡ (before ++ 10 ∷ []) ++ (flat_map print_field fields ++ most_of last) =
    simp (last-most, append_assoc, cons-append) in
    (more.0, same ∙ more.1)

head-ends-lf : (h : RequestHead) → EndsWithLf (head-most h) h.last
unfolding head-most line-most
head-ends-lf h =
    let before = print_blank h.blank ++ (h.method ++ 32 ∷ (h.target ++ 32 ∷ (print_version h.minor ++ most_of h.line_end))) in
    let more = section-ends h.fields h.last before in
    let same : print_blank h.blank ++ (h.method ++ 32 ∷ (h.target ++ 32 ∷ (print_version h.minor ++ (print_end h.line_end ++ section-most h.fields h.last)))) ≡ (before ++ 10 ∷ []) ++ section-most h.fields h.last =
    simp (last-most, append_assoc, cons-append) in
    (more.0, same ∙ more.1)

two-ends : (front : List ℕ) (last : LineEnd) → ends_empty ((front ++ (10 ∷ most_of last)) ++ 10 ∷ []) ≡ true
unfolding most_of
two-ends front lf =
    ap ends_empty (append_assoc front (10 ∷ []) (10 ∷ []))
    ∙ ap (λ b. b || ends_with nat_eq (front ++ codes "\n\n") (codes "\n\r\n")) (so-ends (codes "\n\n") front)
two-ends front crlf =
    ap ends_empty (append_assoc front (10 ∷ 13 ∷ []) (10 ∷ []))
    ∙ ap (λ b. ends_with nat_eq (front ++ codes "\n\r\n") (codes "\n\n") || b) (so-ends (codes "\n\r\n") front)
    ∙ or-true (ends_with nat_eq (front ++ codes "\n\r\n") (codes "\n\n"))

whole : (h : RequestHead) → print_request h ≡ head-most h ++ 10 ∷ []
whole h = sym (append-nil (print_request h)) ∙ head-then h []

head-ends : (h : RequestHead) → ends_empty (print_request h) ≡ true
head-ends h =
    let lf = head-ends-lf h in
    ap ends_empty (whole h ∙ ap (λ l. l ++ 10 ∷ []) lf.1) ∙ two-ends lf.0 h.last

pub grammar_ends_there : GrammarEndsThere
grammar_ends_there bytes rest head reads few =
    let text = print_request head in
    let most = head-most head in
    let quiet : IsQuiet most = head-quiet head reads.0 few in
    let size : length text ≡ length most + 1 = ap length (whole head) ∙ length-append most (10 ∷ []) in
    let parts : bytes ≡ most ++ (10 ∷ rest) = reads.1 ∙ head-then head rest in
    record {
      within = let sum = ap length reads.1 ∙ length-append text rest in omega (arith, sum);
      ends = ap (λ l. ends_empty (take (length text) l)) reads.1 ∙ ap ends_empty (take_at text rest (length text) refl) ∙ head-ends head;
      first = λ shorter below.
          let within : shorter ≤ length most = omega (arith, size) in
          ap (λ l. ends_empty (take shorter l)) parts ∙ ap ends_empty (take-append-le shorter most (10 ∷ rest) within) ∙ quiet-below most shorter quiet;
    }

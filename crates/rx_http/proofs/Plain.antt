-- Numbers, ids and base64 end no line.
use Rattle.std.proofs.Common.{◌≡◌, ℕ, zero, suc, ◌+◌, ◌*◌, ◌/◌, ◌%◌, ◌<◌, ◌≤◌, ◌^◌, ◌==◌, inl, inr, Bool, true, false, cond, if◌then◌else◌, ◌||◌, List, [], ◌∷◌, ◌++◌, get_or, map, replicate, codes, decimal, Option, None, Some, refl, ap, ◌∙◌, arith}
use Rattle.std.proofs.lemmas.Bool.{ne_eqb}
use Rattle.std.proofs.lemmas.Fmt.{decimal_by_steps}
use Rattle.std.specs.List.{AllByRecursion, list_any}
use Rattle.base64.specs.Engines.{standard}
use Rattle.base64.specs.GeneralPurpose.{encode_of, engine_symbols}
use Rattle.base64.specs.Rfc4648.{encode_group, encode_symbols}
use Rattle.rx_proto.specs.LineFeeds.{HasNoLf}
use Rattle.rx_http.specs.Epochs.{IsEpoch, IsEpochByte}
use Rattle.rx_http.specs.Ids.{id_bytes, over_word, place_digits}
use Rattle.rx_http.specs.Laws.{IsPlace}
use Rattle.rx_http.specs.Pieces.{text_lines}
use Rattle.rx_http.specs.Reading.{has_nul}

-- no byte of these ends a line
abbrev pub IsPlain : List ℕ → Type 0
IsPlain [] = Unit {0}
IsPlain (byte ∷ bytes) = ((byte == 10) ≡ false) × ((byte == 13) ≡ false) × IsPlain bytes

-- no byte of these is an LF
abbrev pub IsOneLine : List ℕ → Type 0
IsOneLine [] = Unit {0}
IsOneLine (byte ∷ bytes) = ((byte == 10) ≡ false) × IsOneLine bytes

pub plain-one_line : (bytes : List ℕ) → IsPlain bytes → IsOneLine bytes
plain-one_line [] plain = tt
plain-one_line (byte ∷ bytes) plain = (plain.0, plain-one_line bytes plain.2)

pub no_lf-one_line : (bytes : List ℕ) → HasNoLf bytes → IsOneLine bytes
no_lf-one_line [] none = tt
no_lf-one_line (byte ∷ bytes) none = (ne_eqb byte 10 none.0, no_lf-one_line bytes none.1)

-- such bytes are told as themselves
pub plain-lines : (bytes : List ℕ) → IsPlain bytes → text_lines bytes ≡ bytes
plain-lines [] plain = refl
plain-lines (byte ∷ bytes) plain =
    ap (λ cr. cond cr (codes "\ndata: ") (byte ∷ []) ++ text_lines bytes) plain.1 ∙ ap (λ l. byte ∷ l) (plain-lines bytes plain.2)

-- neither is so
or_none : (a b : Bool) → (a || b) ≡ false → (a ≡ false) × (b ≡ false)
or_none true b none = cc
or_none false b none = (refl, none)

-- a text without a CR is told as it is
pub no_cr-lines : (bytes : List ℕ) → list_any (λ byte. byte == 13) bytes ≡ false → text_lines bytes ≡ bytes
no_cr-lines [] none = refl
no_cr-lines (byte ∷ bytes) none =
    let both = or_none (byte == 13) (list_any (λ b. b == 13) bytes) none in
    ap (λ cr. cond cr (codes "\ndata: ") (byte ∷ []) ++ text_lines bytes) both.0 ∙ ap (λ l. byte ∷ l) (no_cr-lines bytes both.1)

plain-append : (xs ys : List ℕ) → IsPlain xs → IsPlain ys → IsPlain (xs ++ ys)
plain-append [] ys p q = q
plain-append (byte ∷ xs) ys p q = (p.0, p.1, plain-append xs ys p.2 q)

-- BYTES THAT ARE SEEN

-- a byte that is seen: no blank and no control
abbrev pub IsSeen : ℕ → Type 0
IsSeen byte = 33 ≤ byte

other_than : (byte low : ℕ) → IsSeen byte → low < 33 → (byte == low) ≡ false
other_than byte low seen below = ne_eqb byte low (λ same. omega arith)

pub seen-plain : (bytes : List ℕ) → AllByRecursion IsSeen bytes → IsPlain bytes
seen-plain [] all = tt
seen-plain (byte ∷ bytes) all = (other_than byte 10 all.0 (omega arith), other_than byte 13 all.0 (omega arith), seen-plain bytes all.1)

pub seen-no_nul : (bytes : List ℕ) → AllByRecursion IsSeen bytes → has_nul bytes ≡ false
seen-no_nul [] all = refl
seen-no_nul (byte ∷ bytes) all = ap (λ b. b || has_nul bytes) (other_than byte 0 all.0 (omega arith)) ∙ seen-no_nul bytes all.1

seen-append : (xs ys : List ℕ) → AllByRecursion IsSeen xs → AllByRecursion IsSeen ys → AllByRecursion IsSeen (xs ++ ys)
seen-append [] ys p q = q
seen-append (byte ∷ xs) ys p q = (p.0, seen-append xs ys p.1 q)

-- NUMBERS AND IDS

pub decimal-seen : (n : ℕ) → n < 2 ^ 64 → AllByRecursion IsSeen (decimal n)
decimal-seen n fits =
    decimal_by_steps (λ n digits. AllByRecursion IsSeen digits)
    (λ n one. (omega arith, tt))
    (λ n digits more before. seen-append digits ((48 + n % 10) ∷ []) before (omega arith, tt))
    n fits

epoch_byte-seen : (byte : ℕ) → IsEpochByte byte → IsSeen byte
epoch_byte-seen byte (inl digit) = let low = digit.0 in omega arith
epoch_byte-seen byte (inr letter) = let low = letter.0 in omega arith

epoch-seen : (bytes : List ℕ) → AllByRecursion IsEpochByte bytes → AllByRecursion IsSeen bytes
epoch-seen [] each = tt
epoch-seen (byte ∷ bytes) each = (epoch_byte-seen byte each.0, epoch-seen bytes each.1)

place-seen : (place : Option ℕ) → IsPlace place → AllByRecursion IsSeen (place_digits place)
place-seen None fits = tt
place-seen (Some place) fits = decimal-seen place (omega arith)

over-seen : (over : Bool) → AllByRecursion IsSeen (over_word over)
over-seen true = (omega arith, (omega arith, (omega arith, (omega arith, (omega arith, tt)))))
over-seen false = tt

pub id-seen : (epoch : List ℕ) (place : Option ℕ) (over : Bool) → IsEpoch epoch → IsPlace place → AllByRecursion IsSeen (id_bytes epoch place over)
id-seen epoch place over is fits =
    seen-append epoch (45 ∷ (place_digits place ++ over_word over)) (epoch-seen epoch is.each)
    (omega arith, seen-append (place_digits place) (over_word over) (place-seen place fits) (over-seen over))

-- an id and a number are told as themselves
pub id_lines : (epoch : List ℕ) (place : Option ℕ) (over : Bool) → IsEpoch epoch → IsPlace place → text_lines (id_bytes epoch place over) ≡ id_bytes epoch place over
id_lines epoch place over is fits = plain-lines (id_bytes epoch place over) (seen-plain (id_bytes epoch place over) (id-seen epoch place over is fits))

pub decimal_lines : (n : ℕ) → n < 2 ^ 32 → text_lines (decimal n) ≡ decimal n
decimal_lines n fits = plain-lines (decimal n) (seen-plain (decimal n) (decimal-seen n (omega arith)))

-- BASE64

-- whether a byte ends a line
abbrev ends_line : ℕ → Bool
ends_line byte = if byte == 10 then true else byte == 13

plain-more : (lf cr : Bool) (byte : ℕ) (bytes : List ℕ) → (byte == 10) ≡ lf → (byte == 13) ≡ cr → ((if lf then true else cr) || list_any ends_line bytes) ≡ false
    → (list_any ends_line bytes ≡ false → IsPlain bytes) → IsPlain (byte ∷ bytes)
plain-more false false byte bytes is_lf is_cr none rest = (is_lf, is_cr, rest none)
plain-more false true byte bytes is_lf is_cr none rest = cc
plain-more true cr byte bytes is_lf is_cr none rest = cc

pub plain-test : (bytes : List ℕ) → list_any ends_line bytes ≡ false → IsPlain bytes
plain-test [] none = tt
plain-test (byte ∷ bytes) none = plain-more (byte == 10) (byte == 13) byte bytes refl refl none (plain-test bytes)

-- the byte at a seat of a table, or the NUL behind its end
plain-at : (bytes : List ℕ) (i : ℕ) → IsPlain bytes → ((get_or bytes i 0 == 10) ≡ false) × ((get_or bytes i 0 == 13) ≡ false)
plain-at [] i plain = (refl, refl)
plain-at (byte ∷ bytes) zero plain = (plain.0, plain.1)
plain-at (byte ∷ bytes) (suc i) plain = plain-at bytes i plain.2

seats-plain : (table seats : List ℕ) → IsPlain table → IsPlain (map (λ i. get_or table i 0) seats)
seats-plain table [] plain = tt
seats-plain table (i ∷ seats) plain = ((plain-at table i plain).0, (plain-at table i plain).1, seats-plain table seats plain)

symbols-plain : (table bytes : List ℕ) → IsPlain table → IsPlain (encode_symbols table bytes)
unfolding encode_symbols
symbols-plain table [] plain = tt
symbols-plain table (a ∷ []) plain = seats-plain table ((a / 4) ∷ (a % 4 * 16) ∷ []) plain
symbols-plain table (a ∷ b ∷ []) plain = seats-plain table ((a / 4) ∷ (a % 4 * 16 + b / 16) ∷ (b % 16 * 4) ∷ []) plain
symbols-plain table (a ∷ b ∷ c ∷ rest) plain =
    plain-append (encode_group table a b c) (encode_symbols table rest)
    (seats-plain table ((a / 4) ∷ (a % 4 * 16 + b / 16) ∷ (b % 16 * 4 + c / 64) ∷ (c % 64) ∷ []) plain)
    (symbols-plain table rest plain)

padding-plain : (n : ℕ) → IsPlain (replicate n 61)
padding-plain zero = tt
padding-plain (suc n) = (refl, refl, padding-plain n)

pub coded-plain : (bytes : List ℕ) → IsPlain (encode_of standard bytes)
coded-plain bytes =
    plain-append (encode_symbols (engine_symbols standard) bytes) (replicate _ 61) (symbols-plain (engine_symbols standard) bytes (plain-test (engine_symbols standard) refl)) (padding-plain _)

pub coded_lines : (bytes : List ℕ) → text_lines (encode_of standard bytes) ≡ encode_of standard bytes
coded_lines bytes = plain-lines (encode_of standard bytes) (coded-plain bytes)

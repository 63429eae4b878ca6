-- What is printed tells what was meant.
use Rattle.std.proofs.Common.{◌≡◌, ◌<◌, ◌^◌, ◌+◌, ◌%◌, ◌==◌, ℕ, Bool, true, false, List, [], ◌∷◌, ◌++◌, get_or, codes, if◌then◌else◌, Result, Ok, refl, sym, ap, subst, ◌∙◌, ◌⊎◌, inl, inr, append_assoc, arith}
use Rattle.std.proofs.lemmas.Bool.{eqb-true}
use Rattle.std.proofs.lemmas.Fmt.{decimal_injective, decimal_by_steps}
use Rattle.std.proofs.lemmas.List.{append_cancel_right}
use Rattle.std.specs.Fmt.{decimal}
use Rattle.std.specs.List.{AllByRecursion}
use Rattle.rx_note.specs.declared.item.Item.{Item}
use Rattle.rx_note.specs.declared.note.Note.{Note}
use Rattle.rx_note.specs.declared.note.Note.TheVariants.{Next, Completed, Failed}
use Rattle.rx_proto.specs.Grammar.{IsDigit}
use Rattle.rx_proto.specs.Laws.{IsResponse, AreAlike, IsPlaced}
use Rattle.rx_proto.specs.Printing.{letters_of, reply_of, reply_line, item_saying, saying_of, note_line}
use Rattle.rx_proto.specs.Reading.{cut_read, same_word}
use Rattle.rx_proto.specs.declared.line_error.BadLine.{BadLine}
use Rattle.rx_proto.specs.declared.response.Response.{Response}
use Rattle.rx_proto.specs.declared.response.Response.TheVariants.{Done, Joined, Refused}
use Rattle.rx_proto.specs.declared.version.Version.{Version}
use Rattle.rx_proto.specs.declared.version.Version.TheVariants.{One, Two}
use Rattle.rx_proto.specs.declared.word.Word.{Word}
use Rattle.rx_proto.specs.declared.word.Word.TheVariants as words
use Rattle.rx_proto.proofs.Complete.{no_space}
use Rattle.rx_proto.proofs.Cuts.{HasNoSpace, cut_read-parted}

-- the word of these letters
word_of : List ℕ → Word
word_of letters =
    if same_word letters (codes "LONG") then words.Long
    else if same_word letters (codes "SYNTAX") then words.Syntax
    else if same_word letters (codes "SUBJECT") then words.Subject
    else if same_word letters (codes "ENDED") then words.Ended
    else if same_word letters (codes "FULL") then words.Full
    else if same_word letters (codes "SPENT") then words.Spent
    else if same_word letters (codes "ZERO") then words.Zero
    else if same_word letters (codes "OBSERVER") then words.Observer
    else if same_word letters (codes "TOOMUCH") then words.TooMuch
    else if same_word letters (codes "MEMORY") then words.Memory
    else if same_word letters (codes "GONE") then words.Gone
    else words.Version

word_of-letters : (word : Word) → word_of (letters_of word) ≡ word
unfolding word_of
word_of-letters words.Long = refl
word_of-letters words.Syntax = refl
word_of-letters words.Subject = refl
word_of-letters words.Ended = refl
word_of-letters words.Full = refl
word_of-letters words.Spent = refl
word_of-letters words.Zero = refl
word_of-letters words.Observer = refl
word_of-letters words.TooMuch = refl
word_of-letters words.Memory = refl
word_of-letters words.Gone = refl
word_of-letters words.Version = refl

-- equal letters are of equal words
letters_tell : (v w : Word) → letters_of v ≡ letters_of w → v ≡ w
letters_tell v w same = sym (word_of-letters v) ∙ ap word_of same ∙ word_of-letters w

-- two lists with other first bytes
other_first : (x y : ℕ) → (x < y) ⊎ (y < x) → x ≡ y → ⊥
other_first x y (inl below) same = omega arith
other_first x y (inr above) same = omega arith

replies_tell : (a b : Response) → IsResponse a → IsResponse b → reply_of a ≡ reply_of b → a ≡ b
replies_tell Done Done p q same = refl
replies_tell Done (Joined who) p q same = cc
replies_tell Done (Refused word) p q same = absurd (other_first 79 69 (inr (omega arith)) (ap (λ (l : List ℕ). get_or l 0 0) same))
replies_tell (Joined who) Done p q same = cc
replies_tell (Joined v) (Joined w) p q same = (let digits : decimal v ≡ decimal w = cc in ap Joined (decimal_injective v w (omega arith) (omega arith) digits))
replies_tell (Joined who) (Refused word) p q same = absurd (other_first 79 69 (inr (omega arith)) (ap (λ (l : List ℕ). get_or l 0 0) same))
replies_tell (Refused word) Done p q same = absurd (other_first 69 79 (inl (omega arith)) (ap (λ (l : List ℕ). get_or l 0 0) same))
replies_tell (Refused word) (Joined who) p q same = absurd (other_first 69 79 (inl (omega arith)) (ap (λ (l : List ℕ). get_or l 0 0) same))
replies_tell (Refused v) (Refused w) p q same = (let letters : letters_of v ≡ letters_of w = cc in ap Refused (letters_tell v w letters))

pub reply_lines_tell : (a b : Response) → IsResponse a → IsResponse b → reply_line a ≡ reply_line b → a ≡ b
reply_lines_tell a b p q same = replies_tell a b p q (append_cancel_right (reply_of a) (reply_of b) (10 ∷ []) same)

-- what notes written alike have in common: what is said of their items, or the whole
abbrev AreSaidAlike : Version → Note → Note → Type 0
AreSaidAlike version (Next a) (Next b) = item_saying version a ≡ item_saying version b
AreSaidAlike version Completed Completed = Unit {0}
AreSaidAlike version (Failed a) (Failed b) = a ≡ b
AreSaidAlike version _ _ = ⊥

sayings_tell : (version : Version) (a b : Note) → saying_of version a ≡ saying_of version b → AreSaidAlike version a b
sayings_tell version (Next a) (Next b) same = cc
sayings_tell version (Next a) Completed same = absurd (other_first 78 68 (inr (omega arith)) (ap (λ (l : List ℕ). get_or l 0 0) same))
sayings_tell version (Next a) (Failed b) same = absurd (other_first 78 70 (inr (omega arith)) (ap (λ (l : List ℕ). get_or l 0 0) same))
sayings_tell version Completed (Next b) same = absurd (other_first 68 78 (inl (omega arith)) (ap (λ (l : List ℕ). get_or l 0 0) same))
sayings_tell version Completed Completed same = tt
sayings_tell version Completed (Failed b) same = absurd (other_first 68 70 (inl (omega arith)) (ap (λ (l : List ℕ). get_or l 0 0) same))
sayings_tell version (Failed a) (Next b) same = absurd (other_first 70 78 (inl (omega arith)) (ap (λ (l : List ℕ). get_or l 0 0) same))
sayings_tell version (Failed a) Completed same = absurd (other_first 70 68 (inr (omega arith)) (ap (λ (l : List ℕ). get_or l 0 0) same))
sayings_tell version (Failed a) (Failed b) same = cc

lines_tell : (version : Version) (a b : Note) → note_line version a ≡ note_line version b → AreSaidAlike version a b
lines_tell version a b same = sayings_tell version a b (append_cancel_right (saying_of version a) (saying_of version b) (10 ∷ []) same)

alike : (a b : Note) → AreSaidAlike One a b → AreAlike a b
alike (Next a) (Next b) said = said
alike (Next a) Completed said = said
alike (Next a) (Failed b) said = said
alike Completed (Next b) said = said
alike Completed Completed said = said
alike Completed (Failed b) said = said
alike (Failed a) (Next b) said = said
alike (Failed a) Completed said = said
alike (Failed a) (Failed b) said = said

pub note_lines_tell : (a b : Note) → note_line One a ≡ note_line One b → AreAlike a b
note_lines_tell a b same = alike a b (lines_tell One a b same)

-- THE SECOND VERSION

-- a number is printed by digits
digits-more : (digits : List ℕ) (digit : ℕ) → AllByRecursion IsDigit digits → IsDigit digit → AllByRecursion IsDigit (digits ++ (digit ∷ []))
digits-more [] digit each last = (last, tt)
digits-more (first ∷ digits) digit each last = (each.0, digits-more digits digit each.1 last)

decimal-digits : (n : ℕ) → n < 2 ^ 64 → AllByRecursion IsDigit (decimal n)
decimal-digits n fits =
    decimal_by_steps (λ n digits. AllByRecursion IsDigit digits)
    (λ n one. ((omega arith, omega arith), tt))
    (λ n digits more before. digits-more digits (48 + n % 10) before (omega arith, omega arith))
    n fits

-- a number of an item as a word: a hyphen in a seed
abbrev number_word : Bool → ℕ → List ℕ
number_word seed n = if seed then codes "-" else decimal n

number_word-no_space : (seed : Bool) (n : ℕ) → n < 2 ^ 64 → HasNoSpace (number_word seed n)
number_word-no_space true n fits = (λ space. omega arith, tt)
number_word-no_space false n fits = no_space IsDigit (λ byte digit space. omega arith) (decimal n) (decimal-digits n fits)

-- a hyphen is no number
no_hyphen : (n : ℕ) → n < 2 ^ 64 → codes "-" ≡ decimal n → ⊥
no_hyphen n fits same = let each : AllByRecursion IsDigit (codes "-") = subst (AllByRecursion IsDigit) (sym same) (decimal-digits n fits) in omega (arith, each.0.0)

-- equal words are of a seed both, or of equal numbers
number_words_tell : (s t : Bool) (m n : ℕ) → m < 2 ^ 64 → n < 2 ^ 64 → number_word s m ≡ number_word t n → (s ≡ t) × (s ≡ false → m ≡ n)
number_words_tell true true m n p q same = (refl, λ no. cc)
number_words_tell true false m n p q same = absurd (no_hyphen n q same)
number_words_tell false true m n p q same = absurd (no_hyphen m p (sym same))
number_words_tell false false m n p q same = (refl, λ _. decimal_injective m n p q same)

-- equal sentences have equal first words, and equal bytes behind these
words_tell : (v w bytes others : List ℕ) → HasNoSpace v → HasNoSpace w → v ++ (32 ∷ bytes) ≡ w ++ (32 ∷ others) → (v ≡ w) × (bytes ≡ others)
words_tell v w bytes others none none' same =
    let cut : ◌≡◌ {A = Result (List ℕ × List ℕ) BadLine} (Ok (v, bytes)) (Ok (w, others)) = sym (cut_read-parted v bytes none) ∙ ap cut_read same ∙ cut_read-parted w others none' in
    let parts : ◌≡◌ {A = List ℕ × List ℕ} (v, bytes) (w, others) = cc in
    (ap (λ (p : List ℕ × List ℕ). p.0) parts, ap (λ (p : List ℕ × List ℕ). p.1) parts)

-- what an item says, as words
words_of : (seed : Bool) (place from : ℕ) (text : List ℕ)
    → (if seed then codes "- - " else decimal place ++ (32 ∷ (decimal from ++ (32 ∷ [])))) ++ text ≡ number_word seed place ++ (32 ∷ (number_word seed from ++ (32 ∷ text)))
words_of true place from text = refl
words_of false place from text =
    append_assoc (decimal place) (32 ∷ (decimal from ++ (32 ∷ []))) text
    ∙ ap (λ t. decimal place ++ (32 ∷ t)) (append_assoc (decimal from) (32 ∷ []) text)

-- two items of equal parts
same_item : (from from' place place' : ℕ) (text text' : List ℕ) → from ≡ from' → place ≡ place' → text ≡ text'
    → ◌≡◌ {A = Item} (record { from = from; place = place; text = text }) (record { from = from'; place = place'; text = text' })
same_item from from' place place' text text' f p t = cc

-- where both are seeds or neither is, the numbers follow
same_placed : (a b : Item) (seed : Bool) → IsPlaced (Next a) → IsPlaced (Next b) → (a.place == 4294967295) ≡ seed → (b.place == 4294967295) ≡ seed
    → (seed ≡ false → a.place ≡ b.place) → (seed ≡ false → a.from ≡ b.from) → a.text ≡ b.text → a ≡ b
same_placed a b true p q is is' places ports texts =
    let place = eqb-true a.place 4294967295 is in
    let place' = eqb-true b.place 4294967295 is' in
    same_item a.from b.from a.place b.place a.text b.text (p.2 place ∙ sym (q.2 place')) (place ∙ sym place') texts
same_placed a b false p q is is' places ports texts = same_item a.from b.from a.place b.place a.text b.text (ports refl) (places refl) texts

items_tell : (a b : Item) → IsPlaced (Next a) → IsPlaced (Next b) → item_saying Two a ≡ item_saying Two b → a ≡ b
items_tell a b p q same =
    let s = a.place == 4294967295 in
    let t = b.place == 4294967295 in
    let fits : a.place < 2 ^ 64 = let less = p.1 in omega (arith, less) in
    let fits' : b.place < 2 ^ 64 = let less = q.1 in omega (arith, less) in
    let port_fits : a.from < 2 ^ 64 = let less = p.0 in omega (arith, less) in
    let port_fits' : b.from < 2 ^ 64 = let less = q.0 in omega (arith, less) in
    let as_words = sym (words_of s a.place a.from a.text) ∙ same ∙ words_of t b.place b.from b.text in
    let first = words_tell (number_word s a.place) (number_word t b.place) (number_word s a.from ++ (32 ∷ a.text)) (number_word t b.from ++ (32 ∷ b.text))
    (number_word-no_space s a.place fits) (number_word-no_space t b.place fits') as_words in
    let second = words_tell (number_word s a.from) (number_word t b.from) a.text b.text
    (number_word-no_space s a.from port_fits) (number_word-no_space t b.from port_fits') first.1 in
    let places = number_words_tell s t a.place b.place fits fits' first.0 in
    let ports = number_words_tell s t a.from b.from port_fits port_fits' second.0 in
    same_placed a b s p q refl (sym places.0) places.1 ports.1 second.1

placed_same : (a b : Note) → IsPlaced a → IsPlaced b → AreSaidAlike Two a b → a ≡ b
placed_same (Next a) (Next b) p q said = ap Next (items_tell a b p q said)
placed_same (Next a) Completed p q said = absurd said
placed_same (Next a) (Failed b) p q said = absurd said
placed_same Completed (Next b) p q said = absurd said
placed_same Completed Completed p q said = refl
placed_same Completed (Failed b) p q said = absurd said
placed_same (Failed a) (Next b) p q said = absurd said
placed_same (Failed a) Completed p q said = absurd said
placed_same (Failed a) (Failed b) p q said = ap Failed said

pub placed_note_lines_tell : (a b : Note) → IsPlaced a → IsPlaced b → note_line Two a ≡ note_line Two b → a ≡ b
placed_note_lines_tell a b p q same = placed_same a b p q (lines_tell Two a b same)

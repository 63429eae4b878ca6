-- What a line tells.
use Rattle.std.proofs.Common.{◌≡◌, ◌≢◌, ◌∙◌, ◌<◌, ◌^◌, ◌==◌, ℕ, Bool, true, false, List, [], ◌∷◌, ◌++◌, Result, Ok, refl, sym, ap, append_assoc, codes, decimal, get_or, arith, if◌then◌else◌}
use Rattle.std.proofs.lemmas.Bool.{eq-eqb}
use Rattle.std.proofs.lemmas.Fmt.{decimal_injective}
use Rattle.std.proofs.lemmas.List.{append_cancel_left}
use Rattle.rx_note.specs.declared.item.Item.{Item}
use Rattle.rx_note.specs.declared.note.Note.{Note}
use Rattle.rx_note.specs.declared.note.Note.TheVariants.{Next, Completed, Failed}
use Rattle.rx_proto.specs.Laws.{IsPlaced}
use Rattle.rx_proto.specs.Printing.{item_saying, saying_of}
use Rattle.rx_proto.specs.Reading.{cut_read}
use Rattle.rx_proto.specs.declared.line_error.BadLine.{BadLine}
use Rattle.rx_proto.specs.declared.version.Version.TheVariants.{Two}
use Rattle.rx_proto.proofs.Cuts.{cut_read-parted}
use Rattle.rx_client.proofs.Digits.{decimal-no_space}

-- what an item that is no seed says
pub item-words : (item : Item) → (item.place == 4294967295) ≡ false → item_saying Two item ≡ decimal item.place ++ 32 ∷ (decimal item.from ++ 32 ∷ item.text)
item-words item other =
    ap (λ (b : Bool). (if b then codes "- - " else decimal item.place ++ (32 ∷ (decimal item.from ++ (32 ∷ [])))) ++ item.text) other
    ∙ append_assoc (decimal item.place) (32 ∷ (decimal item.from ++ (32 ∷ []))) item.text
    ∙ ap (λ (t : List ℕ). decimal item.place ++ 32 ∷ t) (append_assoc (decimal item.from) (32 ∷ []) item.text)

pub seed-words : (item : Item) → (item.place == 4294967295) ≡ true → item_saying Two item ≡ codes "- - " ++ item.text
seed-words item seed = ap (λ (b : Bool). (if b then codes "- - " else decimal item.place ++ (32 ∷ (decimal item.from ++ (32 ∷ [])))) ++ item.text) seed

-- equal numbers stand before equal bytes
pub same-parts : (m n : ℕ) (xs ys : List ℕ) → m < 2 ^ 32 → n < 2 ^ 32 → decimal m ++ 32 ∷ xs ≡ decimal n ++ 32 ∷ ys → (m ≡ n) × (xs ≡ ys)
same-parts m n xs ys p q same =
    let cut : ◌≡◌ {A = Result (List ℕ × List ℕ) BadLine} (Ok (decimal m, xs)) (Ok (decimal n, ys)) =
    sym (cut_read-parted (decimal m) xs (decimal-no_space m (omega arith))) ∙ ap cut_read same ∙ cut_read-parted (decimal n) ys (decimal-no_space n (omega arith)) in
    let parts : ◌≡◌ {A = List ℕ × List ℕ} (decimal m, xs) (decimal n, ys) = cc in
    (decimal_injective m n (omega arith) (omega arith) (ap (λ (p : List ℕ × List ℕ). p.0) parts), ap (λ (p : List ℕ × List ℕ). p.1) parts)

-- WHAT NO ITEM SAYS

-- words that are no seed's, and do not begin with a number
no-place-so : (words : List ℕ) → ((rest : List ℕ) → words ≢ codes "- - " ++ rest) → ((n : ℕ) (rest : List ℕ) → n < 2 ^ 32 → decimal n ++ 32 ∷ rest ≢ words)
    → (item : Item) → IsPlaced (Next item) → item_saying Two item ≡ words → (b : Bool) → (item.place == 4294967295) ≡ b → ⊥
no-place-so words no_seed none item placed same true is = no_seed item.text (sym same ∙ seed-words item is)
no-place-so words no_seed none item placed same false is = none item.place (decimal item.from ++ 32 ∷ item.text) placed.1 (sym (item-words item is) ∙ same)

pub no-place : (words : List ℕ) → ((rest : List ℕ) → words ≢ codes "- - " ++ rest) → ((n : ℕ) (rest : List ℕ) → n < 2 ^ 32 → decimal n ++ 32 ∷ rest ≢ words)
    → (item : Item) → IsPlaced (Next item) → item_saying Two item ≡ words → ⊥
no-place words no_seed none item placed same = no-place-so words no_seed none item placed same (item.place == 4294967295) refl

-- words that are no seed's, and have no second number
no-port-so : (words more : List ℕ) (place : ℕ) → ((rest : List ℕ) → words ≢ codes "- - " ++ rest) → place < 2 ^ 32 → decimal place ++ 32 ∷ more ≡ words
    → ((n : ℕ) (rest : List ℕ) → n < 2 ^ 32 → decimal n ++ 32 ∷ rest ≢ more) → (item : Item) → IsPlaced (Next item) → item_saying Two item ≡ words → (b : Bool) → (item.place == 4294967295) ≡ b → ⊥
no-port-so words more place no_seed fits parts none item placed same true is = no_seed item.text (sym same ∙ seed-words item is)
no-port-so words more place no_seed fits parts none item placed same false is =
    none item.from item.text placed.0
    (same-parts item.place place (decimal item.from ++ 32 ∷ item.text) more placed.1 fits (sym (item-words item is) ∙ same ∙ sym parts)).1

pub no-port : (words more : List ℕ) (place : ℕ) → ((rest : List ℕ) → words ≢ codes "- - " ++ rest) → place < 2 ^ 32 → decimal place ++ 32 ∷ more ≡ words
    → ((n : ℕ) (rest : List ℕ) → n < 2 ^ 32 → decimal n ++ 32 ∷ rest ≢ more) → (item : Item) → IsPlaced (Next item) → item_saying Two item ≡ words → ⊥
no-port words more place no_seed fits parts none item placed same = no-port-so words more place no_seed fits parts none item placed same (item.place == 4294967295) refl

-- the place of a seed behind no seed
not-placed-so : (words more : List ℕ) (place : ℕ) → ((rest : List ℕ) → words ≢ codes "- - " ++ rest) → place ≡ 4294967295 → decimal place ++ 32 ∷ more ≡ words
    → (item : Item) → IsPlaced (Next item) → item_saying Two item ≡ words → (b : Bool) → (item.place == 4294967295) ≡ b → ⊥
not-placed-so words more place no_seed last parts item placed same true is = no_seed item.text (sym same ∙ seed-words item is)
not-placed-so words more place no_seed last parts item placed same false is =
    let at = (same-parts item.place place (decimal item.from ++ 32 ∷ item.text) more placed.1 (omega (arith, last)) (sym (item-words item is) ∙ same ∙ sym parts)).0 in
    let yes : (item.place == 4294967295) ≡ true = eq-eqb item.place 4294967295 (at ∙ last) in
    cc (yes, is)

pub not-placed : (words more : List ℕ) (place : ℕ) → ((rest : List ℕ) → words ≢ codes "- - " ++ rest) → place ≡ 4294967295 → decimal place ++ 32 ∷ more ≡ words
    → (item : Item) → IsPlaced (Next item) → item_saying Two item ≡ words → ⊥
not-placed words more place no_seed last parts item placed same = not-placed-so words more place no_seed last parts item placed same (item.place == 4294967295) refl

-- WHAT NO NOTE SAYS

-- a line that is neither of the other kinds and whose words no item says
pub no-note : (line words : List ℕ) → line ≡ codes "NEXT " ++ words → ((item : Item) → IsPlaced (Next item) → item_saying Two item ≡ words → ⊥)
    → (note : Note) → IsPlaced note → saying_of Two note ≡ line → ⊥
no-note line words is none (Next item) placed same = none item placed (append_cancel_left (codes "NEXT ") (item_saying Two item) words (same ∙ is))
no-note line words is none Completed placed same = absurd (let first : 68 ≡ 78 = ap (λ (l : List ℕ). get_or l 0 0) (same ∙ is) in omega arith)
no-note line words is none (Failed text) placed same = absurd (let first : 70 ≡ 78 = ap (λ (l : List ℕ). get_or l 0 0) (same ∙ is) in omega arith)

-- a line of none of the three kinds
pub no-kind : (line : List ℕ) → (line ≡ codes "DONE" → ⊥) → ((rest : List ℕ) → line ≢ codes "FAILED " ++ rest) → ((rest : List ℕ) → line ≢ codes "NEXT " ++ rest)
    → (note : Note) → IsPlaced note → saying_of Two note ≡ line → ⊥
no-kind line done failed next (Next item) placed same = next (item_saying Two item) (sym same)
no-kind line done failed next Completed placed same = done (sym same)
no-kind line done failed next (Failed text) placed same = failed text (sym same)

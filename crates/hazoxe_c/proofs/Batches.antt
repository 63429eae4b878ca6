-- What one note more adds to those that were told of.
use Rattle.std.proofs.Common.{◌≡◌, ℕ, ◌+◌, ◌-◌, ◌<◌, ◌≤◌, List, [], ◌∷◌, ◌++◌, map, length, take, drop, refl, sym, ap, ◌∙◌, arith}
use Rattle.std.proofs.Math.ListN.{set, get_or}
use Rattle.std.proofs.lemmas.List.{take-take, length-take-le, append-nil, map_more, set-append_right, append_assoc, drop-set, drop-set-add, length-map}
use Rattle.std.proofs.lemmas.Grind.{take_at_read, flat_map-append}
use Rattle.std.proofs.lemmas.Slice.{take-put_mid}
use Rattle.std.proofs.Math.Seq.{take-append-add}
use borrow.Rule.Slice.PartMut.{put_mid}
use Rattle.rx_note.specs.declared.given.Given.{Given}
use Rattle.hazoxe_c.specs.Taking.{text_of}
use Rattle.hazoxe_c.specs.Batches.{texts_of}

-- the front of a buffer behind which some bytes were put, with the first of these
pub take-put_front : (buffer bytes : List ℕ) (used k len : ℕ) → used ≤ length buffer → len ≤ length bytes
    → take (used + len) (put_mid used k buffer bytes) ≡ take used buffer ++ take len bytes
take-put_front buffer bytes used k len within few =
    let all : take (used + length bytes) (put_mid used k buffer bytes) ≡ take used buffer ++ bytes = take-put_mid used k buffer bytes (used + length bytes) refl within in
    sym (take-take (used + len) (used + length bytes) (put_mid used k buffer bytes) (omega arith))
    ∙ ap (take (used + len)) all
    ∙ ap (λ n. take (n + len) (take used buffer ++ bytes)) (sym (length-take-le used buffer within))
    ∙ take-append-add (take used buffer) bytes len

-- the texts of one note more
pub texts-more : (notes : List Given) (i : ℕ) (given : Given) → i < length notes
    → texts_of (take (i + 1) notes) ≡ texts_of (take i notes) ++ text_of (get_or notes i given).note
texts-more notes i given within =
    let text : Given → List ℕ = λ g. text_of g.note in
    ap texts_of (take_at_read notes i given within).1
    ∙ flat_map-append text (take i notes) (get_or notes i given ∷ [])
    ∙ ap (λ t. texts_of (take i notes) ++ t) (append-nil (text (get_or notes i given)))

-- a list over whose front what is made of some elements was written, with one more
pub written-more : {X Y : Type 0} (f : X → Y) (xs : List X) (old now : List Y) (i : ℕ) (d : X) → i < length xs → i < length old
    → now ≡ map f (take i xs) ++ drop i old → set now i (f (get_or xs i d)) ≡ map f (take (i + 1) xs) ++ drop (i + 1) old
written-more f xs old now i d within room is =
    let y = f (get_or xs i d) in
    let front = map f (take i xs) in
    let at_zero : i - i ≡ 0 = omega arith in
    let at_front : i + 0 ≡ i = omega arith in
    ap (λ l. set l i y) is
    ∙ set-append_right front (drop i old) i i y (length-map (take i xs) f ∙ length-take-le i xs (omega (arith, within))) (omega arith)
    ∙ ap (λ n. front ++ set (drop i old) n y) at_zero
    ∙ ap (λ t. front ++ t) (sym (drop-set-add i old 0 y) ∙ ap (λ n. drop i (set old n y)) at_front ∙ drop-set old i y room)
    ∙ sym (append_assoc front (y ∷ []) (drop (i + 1) old))
    ∙ ap (λ t. t ++ drop (i + 1) old) (sym (map_more f xs i d within))

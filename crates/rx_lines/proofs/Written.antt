-- Writing and putting, one call after another.
use Rattle.std.proofs.Common.{◌≡◌, ℕ, List, [], ◌++◌, take, drop, Option, Result, Ok, Err, refl, sym, ap, subst, ◌∙◌, append_assoc, append-nil, take-append-drop}
use Rattle.std.proofs.KnownBytes.{Appends-trans, Appends-nil, Appends-kept}
use Rattle.std.proofs.lemmas.Result.{MatchResult-from_err}
use Rattle.std.specs.Result.{IsErr}
use Rattle.std.specs.Io.KnownBytes.{Appends, Keeps}
use Rattle.rx_proto.proofs.Writes.{Prefix-behind, Prefix-more}
use Rattle.rx_proto.specs.Bytes.{AppendsPrefix, Writes}
use Rattle.rx_lines.specs.Bytes.{Holds, Loses, Puts}

-- all of the bytes is a front of them
pub Prefix-all : (old new : Option (List ℕ)) (bytes : List ℕ) → Appends old new bytes → AppendsPrefix old new bytes
Prefix-all old new bytes told = record { front = bytes; back = []; parts = append-nil bytes; told = told }

-- the same, where the writer kept its bytes afterwards
pub Prefix-kept : (old mid new : Option (List ℕ)) (bytes : List ℕ) → Appends old mid bytes → Keeps mid new → AppendsPrefix old new bytes
Prefix-kept old mid new bytes told kept = Prefix-all old new bytes (Appends-kept old mid new bytes told kept)

-- nothing is a front of any bytes
pub Prefix-none : (old new : Option (List ℕ)) (done rest bytes : List ℕ) → bytes ≡ done ++ rest → Appends old new done → AppendsPrefix old new bytes
Prefix-none old new done rest bytes parts told = record { front = done; back = rest; parts = sym parts; told = told }

-- bytes put into the room that there is
pub Holds-here : (known : Option (List ℕ)) (held after bytes : List ℕ) → after ≡ held ++ bytes → Holds held after known known bytes
Holds-here known held after bytes parts = record { written = []; told = Appends-nil known; parts = parts }

-- two puts
pub Holds-then : (old mid new : Option (List ℕ)) (held then after xs ys : List ℕ) → Holds held then old mid xs → Holds then after mid new ys → Holds held after old new (xs ++ ys)
Holds-then old mid new held then after xs ys p q = record {
  written = p.written ++ q.written;
  told = Appends-trans old mid new p.written q.written p.told q.told;
  parts = append_assoc p.written q.written after ∙ ap (λ t. p.written ++ t) q.parts
      ∙ sym (append_assoc p.written then ys) ∙ ap (λ t. t ++ ys) p.parts ∙ append_assoc held xs ys;
}

-- a put that failed behind another
pub Loses-then : (old mid new : Option (List ℕ)) (held then after xs ys : List ℕ) → Holds held then old mid xs → Loses then after mid new ys → Loses held after old new (xs ++ ys)
Loses-then old mid new held then after xs ys p q = record {
  written = rw (← append_assoc held xs ys, ← p.parts, append_assoc p.written then ys) (Prefix-behind old mid new p.written (then ++ ys) p.told q.written);
  empty = q.empty;
}

-- a put that failed before another
pub Loses-more : (old new : Option (List ℕ)) (held after xs ys : List ℕ) → Loses held after old new xs → Loses held after old new (xs ++ ys)
Loses-more old new held after xs ys p =
    record { written = rw (← append_assoc held xs ys) (Prefix-more old new (held ++ xs) ys p.written); empty = p.empty }

-- what was written at a put is a front of what it and later ones put
pub Prefix-cut : (old new : Option (List ℕ)) (held after xs ys : List ℕ) → Holds held after old new xs → AppendsPrefix old new (held ++ (xs ++ ys))
Prefix-cut old new held after xs ys p =
    rw (← append_assoc held xs ys) (Prefix-more old new (held ++ xs) ys (record { front = p.written; back = after; parts = p.parts; told = p.told }))

-- a write behind all that was held
pub Puts-direct : {T E : Type 0} (result : Result T E) (old mid new : Option (List ℕ)) (held after bytes : List ℕ) → Appends old mid held → after ≡ [] → Writes result mid new bytes → Puts result held after old new bytes
Puts-direct (Ok x) old mid new held after bytes first empty then =
    record { written = held ++ bytes; told = Appends-trans old mid new held bytes first then; parts = ap (λ t. (held ++ bytes) ++ t) empty ∙ append-nil (held ++ bytes) }
Puts-direct (Err e) old mid new held after bytes first empty then = record { written = Prefix-behind old mid new held bytes first then; empty = empty }

-- a call that puts bytes behind those of another
pub Puts-then : {T E : Type 0} (result : Result T E) (old mid new : Option (List ℕ)) (held then after xs ys : List ℕ) → Holds held then old mid xs → Puts result then after mid new ys → Puts result held after old new (xs ++ ys)
Puts-then (Ok x) old mid new held then after xs ys p q = Holds-then old mid new held then after xs ys p q
Puts-then (Err e) old mid new held then after xs ys p q = Loses-then old mid new held then after xs ys p q

-- a call that ended by the fault of its put
pub Puts-fault : {T E : Type 0} (result : Result T E) (old new : Option (List ℕ)) (held after bytes : List ℕ) → IsErr result → Loses held after old new bytes → Puts result held after old new bytes
Puts-fault result old new held after bytes fault loses = MatchResult-from_err result (λ _. Holds held after old new bytes) (λ _. Loses held after old new bytes) fault (λ _. loses)

-- the same bytes by another name
pub Puts-as : {T E : Type 0} (result : Result T E) (old new : Option (List ℕ)) (held after xs ys : List ℕ) → xs ≡ ys → Puts result held after old new xs → Puts result held after old new ys
Puts-as result old new held after xs ys same puts = subst (λ (bytes : List ℕ). Puts result held after old new bytes) same puts

-- a front of what is held behind a put
pub Prefix-put : (old mid new : Option (List ℕ)) (held then bytes : List ℕ) → Holds held then old mid bytes → AppendsPrefix mid new then → AppendsPrefix old new (held ++ bytes)
Prefix-put old mid new held then bytes holds front =
    subst (λ (xs : List ℕ). AppendsPrefix old new xs) holds.parts (Prefix-behind old mid new holds.written then holds.told front)

-- bytes that were pushed into the room that was made
pub Holds-pushed : (old new : Option (List ℕ)) (held then after bytes : List ℕ) → Holds held then old new [] → after ≡ then ++ bytes → Holds held after old new bytes
Holds-pushed old new held then after bytes holds pushed = record {
  written = holds.written;
  told = holds.told;
  parts = ap (λ t. holds.written ++ t) pushed ∙ sym (append_assoc holds.written then bytes) ∙ ap (λ t. t ++ bytes) (holds.parts ∙ append-nil held);
}

-- a front of what is held was written, and the rest is held
pub Holds-front : (old new : Option (List ℕ)) (held after : List ℕ) (done : ℕ) → Appends old new (take done held) → after ≡ drop done held → Holds held after old new []
Holds-front old new held after done told rest =
    record { written = take done held; told = told; parts = ap (λ t. take done held ++ t) rest ∙ take-append-drop done held ∙ sym (append-nil held) }

-- the same, and the rest is lost
pub Loses-front : (old new : Option (List ℕ)) (held : List ℕ) (done : ℕ) → Appends old new (take done held) → Loses held [] old new []
Loses-front old new held done told = record {
  written = record { front = take done held; back = drop done held; parts = take-append-drop done held ∙ sym (append-nil held); told = told };
  empty = refl;
}

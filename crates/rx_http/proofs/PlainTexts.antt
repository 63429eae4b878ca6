-- A text of ASCII without a CR is told as itself on one line.
use Rattle.std.proofs.Common.{◌≡◌, ℕ, ◌==◌, Bool, true, false, ◌&&◌, ◌||◌, not, nat_lt, List, [], ◌∷◌, Result, Ok, Err, MatchResult, refl, sym, ap, ◌∙◌}
use Rattle.std.proofs.lemmas.Str.{IsUtf8-from_is_utf8, is_utf8-from_IsUtf8}
use Rattle.std.specs.List.{list_all, list_any}
use Rattle.std.specs.Result.{is_ok}
use Rattle.std.specs.Str.{IsUtf8, is_utf8}
use Rattle.rx_http.specs.Events.{IsLine, is_plain_byte}
use Rattle.rx_http.proofs.Plain.{no_cr-lines}
use Rattle.rx_http.proofs.Utf8.{word}

both : (a b : Bool) → (a && b) ≡ true → (a ≡ true) × (b ≡ true)
both true b so = (refl, so)
both false b so = cc

not_so : (a : Bool) → not a ≡ true → a ≡ false
not_so true so = cc
not_so false so = refl

apart : (bytes : List ℕ) → list_all is_plain_byte bytes ≡ true → (list_all (λ b. nat_lt b 128) bytes ≡ true) × (list_any (λ b. b == 13) bytes ≡ false)
apart [] all = (refl, refl)
apart (byte ∷ bytes) all =
    let parts = both (is_plain_byte byte) (list_all is_plain_byte bytes) all in
    let here = both (nat_lt byte 128) (not (byte == 13)) parts.0 in
    let rest = apart bytes parts.1 in (
      ap (λ low. low && list_all (λ b. nat_lt b 128) bytes) here.0 ∙ rest.0,
      ap (λ cr. cr || list_any (λ b. b == 13) bytes) (not_so (byte == 13) here.1) ∙ rest.1,
    )

pub plain-line : (bytes : List ℕ) → list_all is_plain_byte bytes ≡ true → IsLine bytes
plain-line bytes all =
    let parts = apart bytes all in
    record { told = is_utf8-from_IsUtf8 bytes (word bytes parts.0); line = no_cr-lines bytes parts.1 }

-- BYTE BY BYTE

pub and-true : (a : Bool) → (a && true) ≡ a
and-true true = refl
and-true false = refl

pub and-assoc : (a b c d : Bool) → (a && ((b && c) && d)) ≡ (((a && b) && c) && d)
and-assoc true b c d = refl
and-assoc false b c d = refl

-- WHERE IT IS READ AS UTF-8

never : (bytes : List ℕ) → (IsUtf8 bytes → ⊥) → false ≡ is_utf8 bytes
never bytes none = elim (is_utf8 bytes) as (λ test. is_utf8 bytes ≡ test → false ≡ test) [
  | true ↦ λ yes. absurd (none (IsUtf8-from_is_utf8 bytes yes))
  | false ↦ λ _. refl
] refl

pub read_as : {T E : Type 0} (r : Result T E) (A : T → Type 0) (B : E → Type 0) (bytes : List ℕ) → MatchResult r (λ s. A s × IsUtf8 bytes) (λ e. (IsUtf8 bytes → ⊥) × B e) → is_ok r ≡ is_utf8 bytes
read_as (Ok s) A B bytes told = sym (is_utf8-from_IsUtf8 bytes told.1)
read_as (Err e) A B bytes told = never bytes told.0

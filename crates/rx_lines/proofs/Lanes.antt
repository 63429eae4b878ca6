-- The first LF of some bytes, sixteen of which are looked at in one go.
use Rattle.std.proofs.Common.{◌≡◌, ℕ, ◌+◌, ◌<◌, ◌≤◌, ◌==◌, Bool, true, false, zero, suc, List, [], ◌∷◌, length, get_or, take, drop, not, refl, sym, subst, ◌∙◌, inl, inr, arith}
use Rattle.std.proofs.lemmas.Bool.{cases_lt, eq-eqb, eqb-true, false≢true}
use Rattle.std.proofs.lemmas.Simd.{run_in_chunk_fails, run_in_chunk_le, run_in_chunk_stops}
use Rattle.std.specs.List.{prefix_len}
use Rattle.rx_proto.specs.LineFeeds.{HasNoLf}
use Rattle.rx_lines.specs.Windows.{HasLfAt}
use Rattle.rx_lines.proofs.Lfs.{HasLfAt-here}

-- bytes of which none is an LF
no_lf_before : (bytes : List ℕ) (len : ℕ) → len ≤ length bytes → ((i : ℕ) → i < len → (get_or bytes i 0 == 10) ≡ false) → HasNoLf (take len bytes)
no_lf_before bytes zero within none = tt
no_lf_before [] (suc len) within none = tt
no_lf_before (byte ∷ bytes) (suc len) within none =
    (λ is. false≢true (sym (none 0 (omega arith)) ∙ eq-eqb byte 10 is), no_lf_before bytes len (omega arith) (λ i less. none (suc i) (omega arith)))

-- and none of them is
lf_at : (bytes : List ℕ) (len i : ℕ) → HasNoLf (take len bytes) → i < len → i < length bytes → (get_or bytes i 0 == 10) ≡ true → ⊥
lf_at [] len i none less within is = absurd (omega arith)
lf_at (byte ∷ bytes) zero i none less within is = absurd (omega arith)
lf_at (byte ∷ bytes) (suc len) zero none less within is = none.0 (eqb-true byte 10 is)
lf_at (byte ∷ bytes) (suc len) (suc i) none less within is = lf_at bytes len i none.1 (omega arith) (omega arith) is

is_false : (test : Bool) → (test ≡ true → ⊥) → test ≡ false
is_false true never = absurd (never refl)
is_false false never = refl

-- so many bytes more, up to the first LF of sixteen
pub no_lf_ahead : (bytes : List ℕ) (at ahead : ℕ) → at + 16 ≤ length bytes → HasNoLf (take at bytes) → ahead ≤ 16
    → ahead ≡ prefix_len (λ byte. not (byte == 10)) (take 16 (drop at bytes)) → HasNoLf (take (at + ahead) bytes)
no_lf_ahead bytes at ahead room none few counted =
    no_lf_before bytes (at + ahead) (omega arith) (λ i less. elim (cases_lt i at) [
      | inl before ↦ is_false (get_or bytes i 0 == 10) (lf_at bytes at i none before (omega arith))
      | inr behind ↦ run_in_chunk_fails (λ byte. byte == 10) bytes at 16 ahead 0 room counted i behind less
    ])

-- the first LF, among sixteen bytes
pub first_ahead : (bytes : List ℕ) (at ahead : ℕ) → at + 16 ≤ length bytes → HasNoLf (take at bytes) → ahead < 16
    → ahead ≡ prefix_len (λ byte. not (byte == 10)) (take 16 (drop at bytes)) → HasLfAt bytes (at + ahead)
first_ahead bytes at ahead room none less counted =
    HasLfAt-here bytes (at + ahead) (omega arith) (no_lf_ahead bytes at ahead room none (omega arith) counted)
    (eqb-true (get_or bytes (at + ahead) 0) 10 (run_in_chunk_stops (λ byte. byte == 10) bytes at 16 ahead 0 room counted less))

-- sixteen bytes more, where no LF is among them
pub no_lf_lanes : (bytes : List ℕ) (at ahead : ℕ) → at + 16 ≤ length bytes → HasNoLf (take at bytes) → 16 ≤ ahead
    → ahead ≡ prefix_len (λ byte. not (byte == 10)) (take 16 (drop at bytes)) → HasNoLf (take (at + 16) bytes)
no_lf_lanes bytes at ahead room none many counted =
    let few : ahead ≤ 16 = run_in_chunk_le (λ byte. byte == 10) bytes at 16 ahead 0 room counted in
    let all : ahead ≡ 16 = omega arith in
    let P : ℕ → Type 0 = λ n. HasNoLf (take (at + n) bytes) in
    subst P all (no_lf_ahead bytes at ahead room none few counted)

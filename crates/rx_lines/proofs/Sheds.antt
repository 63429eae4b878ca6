-- The front of a line that is let go.
use Rattle.std.proofs.Common.{◌≡◌, ℕ, ◌≤◌, ◌<◌, ◌⊎◌, inl, inr, Bool, true, false, List, [], ◌++◌, length, Option, refl, subst, ap, ◌∙◌, sym, arith, append_assoc, length-append}
use Rattle.std.proofs.KnownBytes.{Consumes-trans, Consumes-kept, Consumes-nil}
use Rattle.std.proofs.lemmas.List.{append-nil}
use Rattle.std.specs.Io.KnownBytes.{Consumes, Keeps}
use Rattle.rx_proto.specs.LineFeeds.{HasNoLf, HasLf}
use Rattle.rx_lines.specs.Reads.{Sheds, ReadsOn, FindsNext, ahead}
use Rattle.rx_lines.specs.Windows.{HasLfAt}
use Rattle.rx_lines.specs.declared.came.Came.TheVariants as came
use Rattle.rx_lines.specs.declared.input_end.InputEnd.{InputEnd}
use Rattle.rx_lines.specs.declared.input_end.InputEnd.TheVariants as inputs
use Rattle.rx_lines.specs.declared.reads.Found.TheVariants.{Lf, LongLf, End}
use Rattle.rx_proto.proofs.LineFeeds.{HasNoLf-append}

-- what was let go: the front of a long line, or nothing
abbrev pub IsGone : Bool → List ℕ → Type 0
IsGone true gone = 1101 < length gone
IsGone false gone = gone ≡ []

-- nothing was read and nothing let go
pub Sheds-none : (known : Option (List ℕ)) (window : List ℕ) → Sheds known known window window []
Sheds-none known window = record { read = []; told = Consumes-nil known; parts = append-nil window; passed = tt }

-- one read more
pub Sheds-read : (old mid new : Option (List ℕ)) (window after gone more next : List ℕ) → Sheds old mid window after gone
    → Consumes mid new more → next ≡ after ++ more → Sheds old new window next gone
Sheds-read old mid new window after gone more next s told same = record {
  read = s.read ++ more;
  told = Consumes-trans old mid new s.read more s.told told;
  parts = sym (append_assoc window s.read more) ∙ ap (λ t. t ++ more) s.parts ∙ append_assoc gone after more ∙ ap (λ t. gone ++ t) (sym same);
  passed = s.passed;
}

-- reads that gave nothing
pub Sheds-kept : (old mid new : Option (List ℕ)) (window after gone : List ℕ) → Sheds old mid window after gone → Keeps mid new → Sheds old new window after gone
Sheds-kept old mid new window after gone s kept = record { read = s.read; told = Consumes-kept old mid new s.read s.told kept; parts = s.parts; passed = s.passed }

-- all of the window let go, which has no LF
pub Sheds-all : (old new : Option (List ℕ)) (window after gone : List ℕ) → Sheds old new window after gone → HasNoLf after → Sheds old new window [] (gone ++ after)
Sheds-all old new window after gone s none =
    record { read = s.read; told = s.told; parts = s.parts ∙ sym (append-nil (gone ++ after)); passed = HasNoLf-append gone after s.passed none }

-- it is then longer than what was let go before
pub length-shed : (gone after : List ℕ) → 1101 < length after → 1101 < length (gone ++ after)
length-shed gone after long = omega (arith, length-append gone after)

-- what was read and let go so far
pub record HasRead (old new : Option (List ℕ)) (window after : List ℕ) (left left_after : ℕ) (is_long : Bool) : Type 0 where
  pub gone : List ℕ
  pub shed : Sheds old new window after gone
  pub kind : IsGone is_long gone
  pub fewer : ahead left_after after ≤ ahead left window
  pub first : HasNoLf window ⊎ ((after ≡ window) × (left_after ≡ left))

pub HasRead-none : (known : Option (List ℕ)) (window : List ℕ) (left : ℕ) → HasRead known known window window left left false
HasRead-none known window left = record { gone = []; shed = Sheds-none known window; kind = refl; fewer = omega arith; first = inr (refl, refl) }

-- where no LF stands among what was read so far, none stood in the window before
pub HasRead-passed : (old new : Option (List ℕ)) (window after : List ℕ) (left left_after : ℕ) (is_long : Bool) → HasRead old new window after left left_after is_long → HasNoLf after → HasNoLf window
HasRead-passed old new window after left left_after is_long h none = elim h.first [ inl passed ↦ passed | inr same ↦ subst HasNoLf same.0 none ]

-- where an LF stood in the window before, no read was made
pub HasRead-unread : (old new : Option (List ℕ)) (window after : List ℕ) (left left_after : ℕ) (is_long : Bool) → HasRead old new window after left left_after is_long → HasLf window → left_after ≡ left
HasRead-unread old new window after left left_after is_long h has = elim h.first [ inl passed ↦ absurd (has passed) | inr same ↦ same.1 ]

-- the front of a long line let go
pub HasRead-shed : (old new : Option (List ℕ)) (window after : List ℕ) (left left_after : ℕ) (is_long : Bool) → HasRead old new window after left left_after is_long
    → HasNoLf after → 1101 < length after → HasRead old new window [] left left_after true
HasRead-shed old new window after left left_after is_long h none long = record {
  gone = h.gone ++ after;
  shed = Sheds-all old new window after h.gone h.shed none;
  kind = length-shed h.gone after long;
  fewer = omega (arith, h.fewer);
  first = inl (HasRead-passed old new window after left left_after is_long h none);
}

-- one read more
pub HasRead-read : (old mid new : Option (List ℕ)) (window after next : List ℕ) (left left_mid left_after : ℕ) (is_long : Bool) → HasRead old mid window after left left_mid is_long
    → HasNoLf after → ReadsOn came.Bytes mid new after next left_mid left_after → HasRead old new window next left left_after is_long
HasRead-read old mid new window after next left left_mid left_after is_long h none r = record {
  gone = h.gone;
  shed = Sheds-read old mid new window after h.gone r.0 next h.shed r.1 r.2;
  kind = h.kind;
  fewer = omega (arith, h.fewer, ap length r.2, length-append after r.0, r.3, r.4);
  first = inl (HasRead-passed old mid window after left left_mid is_long h none);
}

-- an LF behind the front of a long line
pub HasRead-long : (old new : Option (List ℕ)) (window after now : List ℕ) (left left_after len : ℕ) (is_long : Bool) → HasRead old new window after left left_after is_long
    → is_long ≡ true → now ≡ after → HasLfAt now len → length now ≤ 8192 → FindsNext (LongLf len) old new window now left left_after
HasRead-long old new window after now left left_after len is_long h long same at few =
    let kind : 1101 < length h.gone = let P : Bool → Type 0 = λ b. IsGone b h.gone in subst P long h.kind in (
      h.gone,
      (let P : List ℕ → Type 0 = λ t. Sheds old new window t h.gone in subst P (sym same) h.shed),
      kind,
      at,
      omega (arith, h.fewer, ap length same),
      omega (arith, at.within),
    )

-- an LF of a line of which nothing was let go
pub HasRead-short : (old new : Option (List ℕ)) (window after now : List ℕ) (left left_after len : ℕ) (is_long : Bool) → HasRead old new window after left left_after is_long
    → is_long ≡ false → now ≡ after → HasLfAt now len → length now ≤ 8192 → FindsNext (Lf len) old new window now left left_after
HasRead-short old new window after now left left_after len is_long h short same at few =
    let kind : h.gone ≡ [] = let P : Bool → Type 0 = λ b. IsGone b h.gone in subst P short h.kind in
    let shed : Sheds old new window after [] = let P : List ℕ → Type 0 = Sheds old new window after in subst P kind h.shed in (
      (let P : List ℕ → Type 0 = λ t. Sheds old new window t [] in subst P (sym same) shed),
      at,
      omega (arith, h.fewer, ap length same),
      omega (arith, at.within),
    )

-- an end behind what was let go
pub HasRead-end : (old mid new : Option (List ℕ)) (window after now : List ℕ) (left left_mid left_after : ℕ) (is_long : Bool) (end : InputEnd) → HasRead old mid window after left left_mid is_long
    → HasNoLf after → ReadsOn (came.End end) mid new after now left_mid left_after → FindsNext (End end) old new window now left left_after
HasRead-end old mid new window after now left left_mid left_after is_long end h none r = (
  h.gone,
  (let P : List ℕ → Type 0 = λ t. Sheds old new window t h.gone in subst P (sym r.1) (Sheds-kept old mid new window after h.gone h.shed r.0)),
  subst HasNoLf (sym r.1) none,
  r.3,
)

-- a read that would block behind what was let go
pub HasRead-blocked : (old mid new : Option (List ℕ)) (window after now : List ℕ) (left left_mid left_after : ℕ) (is_long : Bool) → HasRead old mid window after left left_mid is_long
    → HasNoLf after → ReadsOn came.Nothing mid new after now left_mid left_after → FindsNext (End inputs.ReadFault) old new window now left left_after
HasRead-blocked old mid new window after now left left_mid left_after is_long h none r =
    HasRead-end old mid new window after now left left_mid left_after is_long inputs.ReadFault h none (r.0, r.1, omega (arith, r.2), tt)

-- One line more.
use Rattle.std.proofs.Common.{◌≡◌, ◌∙◌, ℕ, List, [], ◌∷◌, ◌++◌, length, Result, Option, None, Ok, ap, inl, inr, refl, subst, sym, append_assoc, arith}
use Rattle.rx_http.specs.declared.answer.refusal.Refusal.{Refusal}
use Rattle.rx_http.specs.declared.request.note_kind.NoteKind.TheVariants.{Next}
use Rattle.rx_desk.specs.EventDesks.{EmitsAt, EventView}
use Rattle.rx_desk.specs.LineEmissions.{Accepts, EmitsLine, EndsBy}
use Rattle.rx_desk.specs.declared.client_sink.ClientSink.{ClientSink}

module _ {M W : Type 0} (tells : M → ℕ → M → Type 0) where
  -- an emission keeps the subjects of its desk
  pub emits-subjects : (s : EventView M (ClientSink W)) (text : List ℕ) (did : Result (Option ℕ) Refusal) (t : EventView M (ClientSink W)) (subject : ℕ) → EmitsAt tells s Next text did t subject
      → t.session.subjects ≡ s.session.subjects
  emits-subjects s text did t subject (inl (cause, refused, (is, same))) = ap (λ (v : EventView M (ClientSink W)). v.session.subjects) same
  emits-subjects s text did t subject (inr emits) = emits.asks.once.kept.subjects

  -- as many lines were accepted as there are places
  pub accepts-many : (s : EventView M (ClientSink W)) (lines : List (List ℕ)) (places : List ℕ) (t : EventView M (ClientSink W)) (subject : ℕ) → Accepts tells s lines places t subject
      → length lines ≡ length places
  accepts-many s [] [] t subject same = refl
  accepts-many s (line ∷ lines) (place ∷ places) t subject (mid, emits, more) = omega (arith, accepts-many mid lines places t subject more)
  accepts-many s [] (place ∷ places) t subject none = absurd none
  accepts-many s (line ∷ lines) [] t subject none = absurd none

  -- one line more was accepted
  pub accepts-more : (s mid t : EventView M (ClientSink W)) (lines : List (List ℕ)) (places : List ℕ) (line : List ℕ) (place subject : ℕ) → Accepts tells s lines places mid subject
      → EmitsLine tells mid line (Ok place) t subject → Accepts tells s (lines ++ line ∷ []) (places ++ place ∷ []) t subject
  accepts-more s mid t [] [] line place subject same emits = (t, subst (λ (v : EventView M (ClientSink W)). EmitsLine tells v line (Ok place) t subject) same emits, refl)
  accepts-more s mid t (first ∷ lines) (there ∷ places) line place subject (next, did, more) emits =
      (next, did, accepts-more next mid t lines places line place subject more emits)
  accepts-more s mid t [] (there ∷ places) line place subject none emits = absurd none
  accepts-more s mid t (first ∷ lines) [] line place subject none emits = absurd none

  -- no line is left
  pub ends-none : (s : EventView M (ClientSink W)) (rest : List (List ℕ)) (subject : ℕ) → rest ≡ [] → EndsBy tells s rest None s subject
  ends-none s rest subject none = subst (λ (l : List (List ℕ)). EndsBy tells s l None s subject) (sym none) refl

-- the first of the lines that are left stands behind those before
pub one-more : (lines front rest more : List (List ℕ)) (line : List ℕ) → lines ≡ front ++ rest → rest ≡ line ∷ more → lines ≡ (front ++ line ∷ []) ++ more
one-more lines front rest more line parts is = parts ∙ ap (λ l. front ++ l) is ∙ sym (append_assoc front (line ∷ []) more)

-- lines of which there is none
pub no-lines : (lines : List (List ℕ)) → length lines ≡ 0 → lines ≡ []
no-lines [] none = refl
no-lines (line ∷ lines) none = absurd (omega (arith, none))

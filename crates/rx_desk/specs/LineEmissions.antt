-- Emissions by lines: each line of a body is the text of an item (this project's own rule).
--
-- A body is refused by `ReadOnly` where readers alone are served, at a name that no subject has by `Subject`, and then by `Long` where one
-- of its lines is no text or there are too many: no call is made. Of any other body each line is emitted just as one text is, in their
-- order, up to the first that is refused. The answer tells the places of those that were accepted, and why the next one was not.
use Rattle.std.specs.Prelude.{◌≡◌, ◌⊎◌, ◌++◌, ℕ, true, false, List, [], ◌∷◌, Option, None, Some, MatchBool, MatchOption, Result, Ok, Err}
use Rattle.rx_exchange.specs.declared.emitted_lines.EmittedLines.{EmittedLines}
use Rattle.rx_http.specs.BodyLines.{AreTexts, lines_of}
use Rattle.rx_http.specs.declared.answer.refusal.Refusal.{Refusal}
use Rattle.rx_http.specs.declared.answer.refusal.Refusal.TheVariants as causes
use Rattle.rx_http.specs.declared.request.note_kind.NoteKind.TheVariants as kinds
use Rattle.rx_desk.specs.EventDesks.{EmitsAt, EventView}
use Rattle.rx_desk.specs.SessionDesks.{place_of}
use Rattle.rx_desk.specs.declared.client_sink.ClientSink.{ClientSink}

-- the place of the item of a line, by what its emission was answered
abbrev pub item_place : Result (Option ℕ) Refusal → Result ℕ Refusal
item_place (Ok None) = Err causes.Gone
item_place (Ok (Some place)) = Ok place
item_place (Err cause) = Err cause

module _ {M W : Type 0} (tells : M → ℕ → M → Type 0) where
  -- a line was emitted as one text is, at the subject at this place, and so it was answered
  abbrev pub EmitsLine : EventView M (ClientSink W) → List ℕ → Result ℕ Refusal → EventView M (ClientSink W) → ℕ → Type 0
  EmitsLine before line item after subject = (did : Result (Option ℕ) Refusal) × EmitsAt tells before kinds.Next line did after subject × (item ≡ item_place did)

  -- these lines were accepted, one after another, and there their items stand
  abbrev pub Accepts : EventView M (ClientSink W) → List (List ℕ) → List ℕ → EventView M (ClientSink W) → ℕ → Type 0
  Accepts before [] [] after subject = after ≡ before
  Accepts before (line ∷ lines) (place ∷ places) after subject =
      (mid : EventView M (ClientSink W)) × EmitsLine before line (Ok place) mid subject × Accepts mid lines places after subject
  Accepts before [] (place ∷ places) after subject = ⊥
  Accepts before (line ∷ lines) [] after subject = ⊥

  -- what became of the lines behind those that were accepted: there is none, or the first of them was refused, and no other emitted
  abbrev pub EndsBy : EventView M (ClientSink W) → List (List ℕ) → Option Refusal → EventView M (ClientSink W) → ℕ → Type 0
  EndsBy before [] None after subject = after ≡ before
  EndsBy before (line ∷ lines) (Some cause) after subject = EmitsLine before line (Err cause) after subject
  EndsBy before [] (Some cause) after subject = ⊥
  EndsBy before (line ∷ lines) None after subject = ⊥

  -- lines were emitted at the subject at this place, in their order, up to the first that was refused
  pub record EmitsEach (before : EventView M (ClientSink W)) (lines : List (List ℕ)) (told : EmittedLines) (after : EventView M (ClientSink W)) (subject : ℕ) : Type 0 where
    pub front : List (List ℕ)
    pub rest : List (List ℕ)
    pub parts : lines ≡ front ++ rest
    pub mid : EventView M (ClientSink W)
    pub accepts : Accepts before front told.places mid subject
    pub ends : EndsBy mid rest told.refusal after subject

  -- no call was made, and the first line is refused for this cause
  pub record IsNone (cause : Refusal) (before : EventView M (ClientSink W)) (told : EmittedLines) (after : EventView M (ClientSink W)) : Type 0 where
    pub places : told.places ≡ []
    pub refusal : told.refusal ≡ Some cause
    pub kept : after ≡ before

  -- the lines of a body at the subject at this place
  abbrev pub EmitsBody : EventView M (ClientSink W) → List ℕ → EmittedLines → EventView M (ClientSink W) → ℕ → Type 0
  EmitsBody before body told after subject =
      ((AreTexts (lines_of body) → ⊥) × IsNone causes.Long before told after)
      ⊎ (AreTexts (lines_of body) × EmitsEach before (lines_of body) told after subject)

  -- at the subject of a name; without such a subject, or where readers alone are served, no call is made
  abbrev pub EmitsBodyNamed : EventView M (ClientSink W) → List ℕ → List ℕ → EmittedLines → EventView M (ClientSink W) → Type 0
  EmitsBodyNamed before name body told after =
      ((before.grants.may_emit ≡ false) × IsNone causes.ReadOnly before told after)
      ⊎ ((before.grants.may_emit ≡ true)
      × MatchOption (place_of name before.session.subjects) (IsNone causes.Subject before told after) (EmitsBody before body told after))

  -- the same of a server that may have been asked to stop, where it is refused
  abbrev pub emits_lines : EventView M (ClientSink W) → List ℕ → List ℕ → EmittedLines → EventView M (ClientSink W) → Type 0
  emits_lines before name body told after =
      MatchBool before.stopping (IsNone causes.Stopping before told after) (EmitsBodyNamed before name body told after)

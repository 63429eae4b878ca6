-- What is done with what a connection asks for: its server is asked, and an answer is told, or the server has the writer. The rules are
-- this project's own.
use Rattle.std.specs.Prelude.{◌≡◌, ◌⊎◌, ℕ, Bool, if◌then◌else◌, List, [], ◌∷◌, Option, None, Some, Result, Ok, Err}
use Rattle.std.specs.Io.KnownBytes.{Appends}
use Rattle.rx_note.specs.Choices.{Choice}
use Rattle.rx_proto.specs.Bytes.{AppendsPrefix}
use Rattle.rx_http.specs.Begins.{begin_by}
use Rattle.rx_http.specs.declared.answer.Answer.{Answer}
use Rattle.rx_http.specs.declared.answer.Answer.TheVariants as answers
use Rattle.rx_http.specs.declared.request.asked.Asked.{Asked}
use Rattle.rx_http.specs.declared.request.asked.Asked.TheVariants.{Emission, Events, Health, Look, Request, Stop, Texts}
use Rattle.rx_http.specs.declared.request.credit.Credit.{Credit}
use Rattle.rx_http.specs.declared.request.look_form.LookForm.{LookForm}
use Rattle.rx_http.specs.declared.request.note_kind.NoteKind.{NoteKind}
use Rattle.rx_http.specs.declared.request.observer_id.ObserverId.{ObserverId}
use Rattle.rx_http.specs.declared.request.begin.Begin.{Begin}
use Rattle.rx_http.specs.declared.id.Id.{Id}
use Rattle.rx_http.specs.declared.answer.refusal.Refusal.{Refusal}
use Rattle.rx_session.specs.declared.session_end.SessionEnd.TheVariants as ends
use Rattle.rx_session.specs.declared.turn.Turn.{Turn}
use Rattle.rx_session.specs.declared.turn.Turn.TheVariants.{Again, Waits, Stuck, Over}
use Rattle.rx_exchange.specs.declared.emitted.Emitted.{Emitted}
use Rattle.rx_exchange.specs.declared.emitted_lines.EmittedLines.{EmittedLines}
use Rattle.rx_exchange.specs.declared.joining.Joining.{Joining}
use Rattle.rx_exchange.specs.declared.joining.Joining.TheVariants.{Taken, Back}

-- the epoch of a server, what its calls do, and what a writer has
pub record Parties (D W : Type 0) : Type 1 where
  pub since : D → List ℕ → Type 0
  pub looks : D → Bool → Type 0
  pub joins : D → List ℕ → Choice → Credit → Begin → W → Joining W → D → Type 0
  pub emits : D → List ℕ → NoteKind → List ℕ → Option (List ℕ) → Result Emitted Refusal → D → Type 0
  pub emits_lines : D → List ℕ → List ℕ → EmittedLines → D → Type 0
  pub requests : D → List ℕ → ObserverId → ℕ → Result (Unit {0}) Refusal → D → Type 0
  pub shows : D → LookForm → Result (List ℕ) Refusal → D → Type 0
  pub stops : D → ℕ → Result (Unit {0}) Refusal → D → Type 0
  pub contents : W → Option (List ℕ)

-- these nine
abbrev pub parties : {D W : Type 0} → (D → List ℕ → Type 0) → (D → Bool → Type 0) → (D → List ℕ → Choice → Credit → Begin → W → Joining W → D → Type 0)
    → (D → List ℕ → NoteKind → List ℕ → Option (List ℕ) → Result Emitted Refusal → D → Type 0) → (D → List ℕ → List ℕ → EmittedLines → D → Type 0) → (D → List ℕ → ObserverId → ℕ → Result (Unit {0}) Refusal → D → Type 0) → (D → LookForm → Result (List ℕ) Refusal → D → Type 0)
    → (D → ℕ → Result (Unit {0}) Refusal → D → Type 0) → (W → Option (List ℕ)) → Parties D W
parties since looks joins emits emits_lines requests shows stops contents = record {
  since = since;
  looks = looks;
  joins = joins;
  emits = emits;
  emits_lines = emits_lines;
  requests = requests;
  shows = shows;
  stops = stops;
  contents = contents;
}

-- the answer to a Join, and the writer to which it is told; none where the server has the writer
abbrev pub joined : {W : Type 0} → Joining W → Option (Answer × W)
joined Taken = None
joined (Back cause writer) = Some (answers.Refused cause, writer)

-- the answer to an emission by the server of this epoch: the place of the item, where one was accepted, and whether it was before; or the
-- cause for which it is refused
abbrev pub emission_answer : List ℕ → Result Emitted Refusal → Answer
emission_answer epoch (Ok emitted) = answers.Accepted epoch emitted.place emitted.again
emission_answer epoch (Err cause) = answers.Refused cause

-- the answer to several texts by the server of this epoch: the places of their items, where all were accepted; of one that was refused the
-- cause, with the places of those before; or the cause alone, where it was the first
abbrev pub lines_answer : List ℕ → List ℕ → Option Refusal → Answer
lines_answer epoch places None = answers.Placed epoch places
lines_answer epoch [] (Some cause) = answers.Refused cause
lines_answer epoch (place ∷ places) (Some cause) = answers.Cut epoch (place ∷ places) cause

-- the answer to a request of items: they are owed, or the cause for which it is refused
abbrev pub request_answer : Result (Unit {0}) Refusal → Answer
request_answer (Ok done) = answers.Requested
request_answer (Err cause) = answers.Refused cause

-- the answer to who has the server stop: it does, or the cause for which it doesn't
abbrev pub stop_answer : Result (Unit {0}) Refusal → Answer
stop_answer (Ok done) = answers.Stops
stop_answer (Err cause) = answers.Refused cause

-- the answer to who looks, in this form: what is seen, or the cause for which nothing is
abbrev pub look_answer : LookForm → Result (List ℕ) Refusal → Answer
look_answer form (Ok body) = answers.Shown form body
look_answer form (Err cause) = answers.Refused cause

module _ {D W : Type 0} (p : Parties D W) where
  -- an emission of a note of this kind and text at the subject of a name, by a key, if there is one
  abbrev pub Emits : D → W → List ℕ → NoteKind → List ℕ → Option (List ℕ) → Option (Answer × W) → D → Type 0
  Emits desk writer subject kind text key met after =
      (emitted : Result Emitted Refusal) × p.emits desk subject kind text key emitted after
      × (epoch : List ℕ) × p.since after epoch × (met ≡ Some (emission_answer epoch emitted, writer))

  -- an emission of an item for each line of this body at the subject of a name
  abbrev pub EmitsLines : D → W → List ℕ → List ℕ → Option (Answer × W) → D → Type 0
  EmitsLines desk writer subject body met after =
      (told : EmittedLines) × p.emits_lines desk subject body told after
      × (epoch : List ℕ) × p.since after epoch × (met ≡ Some (lines_answer epoch told.places told.refusal, writer))

  -- a Join at the subject of a name: from where its reader begins; where that knows that the subject is over, there is nothing more to come
  abbrev pub JoinsAt : D → List ℕ → Choice → Credit → Option Begin → W → Option (Answer × W) → D → Type 0
  JoinsAt desk subject policy credit None writer met after = (after ≡ desk) × (met ≡ Some (answers.Over, writer))
  JoinsAt desk subject policy credit (Some begin) writer met after =
      (joining : Joining W) × p.joins desk subject policy credit begin writer joining after × (met ≡ joined joining)

  -- the same by what a reader says that it knows, in the epoch of the server
  abbrev pub Joins : D → List ℕ → Choice → Credit → Option Id → W → Option (Answer × W) → D → Type 0
  Joins desk subject policy credit known writer met after =
      (epoch : List ℕ) × p.since desk epoch × JoinsAt desk subject policy credit (begin_by epoch known) writer met after

  -- what was asked for with this text is met: by an answer, and the writer to which it is to be told, or by none
  abbrev pub Meets : D → W → Result Asked Refusal → List ℕ → Option (Answer × W) → D → Type 0
  Meets desk writer (Ok (Events subject policy credit known)) text met after = Joins desk subject policy credit known writer met after
  Meets desk writer (Ok (Emission subject kind size key)) text met after = Emits desk writer subject kind text key met after
  Meets desk writer (Ok (Texts subject size)) text met after = EmitsLines desk writer subject text met after
  Meets desk writer (Ok (Request subject observer items)) text met after =
      (asked : Result (Unit {0}) Refusal) × p.requests desk subject observer items asked after × (met ≡ Some (request_answer asked, writer))
  Meets desk writer (Ok (Look form)) text met after =
      (shown : Result (List ℕ) Refusal) × p.shows desk form shown after × (met ≡ Some (look_answer form shown, writer))
  Meets desk writer (Ok (Stop within)) text met after =
      (stopped : Result (Unit {0}) Refusal) × p.stops desk within stopped after × (met ≡ Some (stop_answer stopped, writer))
  Meets desk writer (Ok Health) text met after =
      (after ≡ desk) × (well : Bool) × p.looks desk well × (met ≡ Some ((if well then answers.Well else answers.Unwell), writer))
  Meets desk writer (Err cause) text met after = (after ≡ desk) × (met ≡ Some (answers.Refused cause, writer))

module _ {W : Type 0} (contents : W → Option (List ℕ)) where
  -- what telling some bytes to a writer did, of which a front may have been told before: they wait to go out, or are out, or the writer
  -- faulted and has a front of them
  abbrev pub Tells : Turn W → W → List ℕ → Type 0
  Tells (Again after) writer bytes = ⊥
  Tells (Waits after) writer bytes = ⊥
  Tells (Stuck after) writer bytes = Appends (contents writer) (contents after) bytes
  Tells (Over end back) writer bytes =
      (after : W) × (back ≡ Some after)
      × (((end ≡ ends.Quit) × Appends (contents writer) (contents after) bytes)
      ⊎ ((end ≡ ends.WriteFault) × AppendsPrefix (contents writer) (contents after) bytes))

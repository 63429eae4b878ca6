-- What an exchange keeps of its desk.
use Rattle.std.proofs.Common.{◌≡◌, ℕ, zero, suc, Bool, true, false, List, [], ◌∷◌, Option, None, Some, slice_get, ◌⊎◌, MatchBool, MatchOption, Result, Ok, Err, ap, inl, inr, refl, subst, sym}
use Rattle.rx_desk.specs.EventDesks.{AsksFor, BeginsAt, BeginsThere, EmitsAt, EmitsFirst, EmitsNamed, EmitsText, EventView, FindsBegin, IsRefused, IsUnasked, IsUngranted, JoinsAt, JoinsBy, JoinsNamed, RequestsAt, asks_itself, emits, joins, requests, stops, with_kept, with_stop}
use Rattle.rx_desk.specs.KeptAnswers.{kept_for}
use Rattle.rx_desk.specs.LineEmissions.{Accepts, EmitsBody, EmitsBodyNamed, EmitsEach, EmitsLine, EndsBy, IsNone, emits_lines}
use Rattle.rx_desk.specs.SessionDesks.{KeepsSession, Looks, LooksAt, SessionView, is_publish, place_of}
use Rattle.rx_desk.specs.declared.client_sink.ClientSink.{ClientSink}
use Rattle.rx_exchange.specs.Meetings.{Meets}
use Rattle.rx_exchange.specs.Meetings as meetings
use Rattle.rx_exchange.specs.declared.emitted.Emitted.{Emitted}
use Rattle.rx_exchange.specs.declared.emitted_lines.EmittedLines.{EmittedLines}
use Rattle.rx_exchange.specs.declared.exchange.Exchange.{Exchange}
use Rattle.rx_exchange.specs.declared.joining.Joining.{Joining}
use Rattle.rx_http.specs.Begins.{begin_by}
use Rattle.rx_http.specs.declared.answer.Answer.{Answer}
use Rattle.rx_http.specs.declared.answer.refusal.Refusal.{Refusal}
use Rattle.rx_http.specs.declared.answer.refusal.Refusal.TheVariants as causes
use Rattle.rx_http.specs.declared.request.asked.Asked.{Asked}
use Rattle.rx_http.specs.declared.request.asked.Asked.TheVariants.{Emission, Events, Health, Look, Request, Stop, Texts}
use Rattle.rx_http.specs.declared.request.note_kind.NoteKind.{NoteKind}
use Rattle.rx_http.specs.declared.request.note_kind.NoteKind.TheVariants.{Next}
use Rattle.rx_http.specs.declared.request.begin.Begin.{Begin}
use Rattle.rx_http.specs.declared.request.begin.Begin.TheVariants.{Behind, Fresh, Restarted}
use Rattle.rx_http.specs.declared.request.credit.Credit.{Credit}
use Rattle.rx_http.specs.declared.request.observer_id.ObserverId.{ObserverId}
use Rattle.rx_note.specs.Choices.{Choice}
use Rattle.rx_session.specs.declared.turn.Turn.{Turn}
use Rattle.rx_workers.proofs.Sessions.{keeps-equal, keeps-then}
use Rattle.rx_workers.specs.declared.worker.client.Talk.{Talk}
use Rattle.rx_face.specs.Facing.{TakesTurn, calls}

-- in both cases
match_option : {X : Type 0} (o : Option X) (A : Type 0) (B : X → Type 0) (P : Type 0) → (A → P) → ((x : X) → B x → P) → MatchOption o A B → P
match_option None A B P none some m = none m
match_option (Some x) A B P none some m = some x m

match_bool : (b : Bool) (A B P : Type 0) → (A → P) → (B → P) → MatchBool b A B → P
match_bool true A B P first second m = first m
match_bool false A B P first second m = second m

module _ {M W : Type 0} where
  -- the desk of a face keeps that of its calls
  abbrev pub Kept : EventView M (ClientSink W) → EventView M (ClientSink W) → Type 0
  Kept before after = KeepsSession before.session after.session

  pub kept-equal : (s t : EventView M (ClientSink W)) → t ≡ s → Kept s t
  kept-equal s t same = keeps-equal s.session t.session (ap (λ (v : EventView M (ClientSink W)). v.session) same)

module _ {M W : Type 0} where
  -- where a reader of a Publish begins
  find_keeps : (s : EventView M (ClientSink W)) (first : Begin) (t : EventView M (ClientSink W)) (subject : ℕ) (publish : Bool)
      → MatchBool publish (FindsBegin s first t subject) (BeginsThere s Fresh first t) → Kept s t
  find_keeps s first t subject true finds = finds.asks.kept
  find_keeps s first t subject false there = kept-equal s t there.1

  -- where any reader does
  begin_at_keeps : (s : EventView M (ClientSink W)) (begin first : Begin) (t : EventView M (ClientSink W)) (subject : ℕ) → BeginsAt s begin first t subject → Kept s t
  begin_at_keeps s Fresh first t subject begins = find_keeps s first t subject (is_publish (slice_get s.session.subjects subject)) begins
  begin_at_keeps s (Behind place) first t subject there = kept-equal s t there.1
  begin_at_keeps s (Restarted id) first t subject there = kept-equal s t there.1

module _ {M W : Type 0} (tells : M → ℕ → M → Type 0) where
  -- a Join, or none for want of memory
  does_keeps : (s : EventView M (ClientSink W)) (policy : Choice) (credit : Credit) (begin : Begin) (writer : W) (joining : Joining W) (t : EventView M (ClientSink W)) (subject : ℕ)
      → (IsRefused causes.Memory s writer joining t ⊎ JoinsBy tells s policy credit begin writer joining t subject) → Kept s t
  does_keeps s policy credit begin writer joining t subject (inl refused) = kept-equal s t refused.1
  does_keeps s policy credit begin writer joining t subject (inr by) = by.2.asks.once.kept

  -- a Join at a subject
  at_keeps : (s : EventView M (ClientSink W)) (policy : Choice) (credit : Credit) (begin : Begin) (writer : W) (joining : Joining W) (t : EventView M (ClientSink W)) (subject : ℕ)
      → JoinsAt tells s policy credit begin writer joining t subject → Kept s t
  at_keeps s policy credit begin writer joining t subject (inl full) = kept-equal s t full.1.1
  at_keeps s policy credit begin writer joining t subject (inr (room, from)) =
      keeps-then s.session from.mid.session t.session (begin_at_keeps s begin from.first from.mid subject from.begins)
      (does_keeps from.mid policy credit from.first writer joining t subject from.does)

  -- at the subject of a name
  named_keeps : (s : EventView M (ClientSink W)) (name : List ℕ) (policy : Choice) (credit : Credit) (begin : Begin) (writer : W) (joining : Joining W) (t : EventView M (ClientSink W))
      → JoinsNamed tells s name policy credit begin writer joining t → Kept s t
  named_keeps s name policy credit begin writer joining t j =
      match_option (place_of name s.session.subjects) (IsRefused causes.Subject s writer joining t) (JoinsAt tells s policy credit begin writer joining t) (Kept s t)
      (λ refused. kept-equal s t refused.1) (at_keeps s policy credit begin writer joining t) j

  -- of a server that may have been asked to stop
  join_keeps : (s : EventView M (ClientSink W)) (name : List ℕ) (policy : Choice) (credit : Credit) (begin : Begin) (writer : W) (joining : Joining W) (t : EventView M (ClientSink W))
      → joins tells s name policy credit begin writer joining t → Kept s t
  join_keeps s name policy credit begin writer joining t j =
      match_bool s.stopping (IsRefused causes.Stopping s writer joining t) (JoinsNamed tells s name policy credit begin writer joining t) (Kept s t)
      (λ refused. kept-equal s t refused.1) (named_keeps s name policy credit begin writer joining t) j

  -- an emission at a subject
  emit_at_keeps : (s : EventView M (ClientSink W)) (kind : NoteKind) (text : List ℕ) (emitted : Result (Option ℕ) Refusal) (t : EventView M (ClientSink W)) (subject : ℕ)
      → EmitsAt tells s kind text emitted t subject → Kept s t
  emit_at_keeps s kind text emitted t subject (inl refused) = kept-equal s t refused.2.1
  emit_at_keeps s kind text emitted t subject (inr emits) = emits.asks.once.kept

  -- what is remembered of it changes nothing else
  with_keeps : (s : EventView M (ClientSink W)) (subject : ℕ) (key : List ℕ) (did : Result (Option ℕ) Refusal) → Kept s (with_kept s subject key did)
  with_keeps s subject key (Ok place) = keeps-equal s.session s.session refl
  with_keeps s subject key (Err cause) = keeps-equal s.session s.session refl

  -- by a key that is not remembered
  first_keeps : (s : EventView M (ClientSink W)) (kind : NoteKind) (text key : List ℕ) (emitted : Result Emitted Refusal) (t : EventView M (ClientSink W)) (subject : ℕ)
      → EmitsFirst tells s kind text key emitted t subject → Kept s t
  first_keeps s kind text key emitted t subject first =
      keeps-then s.session first.mid.session t.session (emit_at_keeps s kind text first.did first.mid subject first.emits)
      (subst (λ (v : EventView M (ClientSink W)). Kept first.mid v) (sym first.after_is) (with_keeps first.mid subject key first.did))

  -- by a key
  fresh_keeps : (s : EventView M (ClientSink W)) (kind : NoteKind) (text key : List ℕ) (emitted : Result Emitted Refusal) (t : EventView M (ClientSink W)) (subject : ℕ)
      → (IsUnasked tells causes.Memory s emitted t ⊎ EmitsFirst tells s kind text key emitted t subject) → Kept s t
  fresh_keeps s kind text key emitted t subject (inl refused) = kept-equal s t refused.1
  fresh_keeps s kind text key emitted t subject (inr first) = first_keeps s kind text key emitted t subject first

  -- by a key, or none
  text_keeps : (s : EventView M (ClientSink W)) (kind : NoteKind) (text : List ℕ) (key : Option (List ℕ)) (emitted : Result Emitted Refusal) (t : EventView M (ClientSink W)) (subject : ℕ)
      → EmitsText tells s kind text key emitted t subject → Kept s t
  text_keeps s kind text None emitted t subject (did, emits, is) = emit_at_keeps s kind text did t subject emits
  text_keeps s kind text (Some key) emitted t subject once =
      match_option (kept_for subject key s.kept) (IsUnasked tells causes.Memory s emitted t ⊎ EmitsFirst tells s kind text key emitted t subject)
      (λ place. (emitted ≡ Ok (record { place = place; again = true })) × (t ≡ s)) (Kept s t)
      (fresh_keeps s kind text key emitted t subject) (λ place again. kept-equal s t again.1) once

  -- at the subject of a name
  emit_named_keeps : (s : EventView M (ClientSink W)) (name : List ℕ) (kind : NoteKind) (text : List ℕ) (key : Option (List ℕ)) (emitted : Result Emitted Refusal) (t : EventView M (ClientSink W))
      → EmitsNamed tells s name kind text key emitted t → Kept s t
  emit_named_keeps s name kind text key emitted t (inl read_only) = kept-equal s t read_only.1.1
  emit_named_keeps s name kind text key emitted t (inr may) =
      match_option (place_of name s.session.subjects) (IsUnasked tells causes.Subject s emitted t) (EmitsText tells s kind text key emitted t) (Kept s t)
      (λ refused. kept-equal s t refused.1) (text_keeps s kind text key emitted t) may.1

  -- of a server that may have been asked to stop
  emit_keeps : (s : EventView M (ClientSink W)) (name : List ℕ) (kind : NoteKind) (text : List ℕ) (key : Option (List ℕ)) (emitted : Result Emitted Refusal) (t : EventView M (ClientSink W))
      → emits tells s name kind text key emitted t → Kept s t
  emit_keeps s name kind text key emitted t e =
      match_bool s.stopping (IsUnasked tells causes.Stopping s emitted t) (EmitsNamed tells s name kind text key emitted t) (Kept s t)
      (λ refused. kept-equal s t refused.1) (emit_named_keeps s name kind text key emitted t) e

  -- a line
  line_keeps : (s : EventView M (ClientSink W)) (line : List ℕ) (item : Result ℕ Refusal) (t : EventView M (ClientSink W)) (subject : ℕ) → EmitsLine tells s line item t subject → Kept s t
  line_keeps s line item t subject (did, emits, is) = emit_at_keeps s Next line did t subject emits

  -- lines that were accepted
  accepts_keep : (s : EventView M (ClientSink W)) (lines : List (List ℕ)) (places : List ℕ) (t : EventView M (ClientSink W)) (subject : ℕ) → Accepts tells s lines places t subject → Kept s t
  accepts_keep s [] [] t subject same = kept-equal s t same
  accepts_keep s (line ∷ lines) (place ∷ places) t subject (mid, emits, more) =
      keeps-then s.session mid.session t.session (line_keeps s line (Ok place) mid subject emits) (accepts_keep mid lines places t subject more)
  accepts_keep s [] (place ∷ places) t subject none = absurd none
  accepts_keep s (line ∷ lines) [] t subject none = absurd none

  -- the first behind them
  ends_keep : (s : EventView M (ClientSink W)) (lines : List (List ℕ)) (refusal : Option Refusal) (t : EventView M (ClientSink W)) (subject : ℕ) → EndsBy tells s lines refusal t subject → Kept s t
  ends_keep s [] None t subject same = kept-equal s t same
  ends_keep s (line ∷ lines) (Some cause) t subject emits = line_keeps s line (Err cause) t subject emits
  ends_keep s [] (Some cause) t subject none = absurd none
  ends_keep s (line ∷ lines) None t subject none = absurd none

  -- the lines of a body at a subject
  body_keeps : (s : EventView M (ClientSink W)) (body : List ℕ) (told : EmittedLines) (t : EventView M (ClientSink W)) (subject : ℕ) → EmitsBody tells s body told t subject → Kept s t
  body_keeps s body told t subject (inl (unlike, none)) = kept-equal s t none.kept
  body_keeps s body told t subject (inr (are, each)) =
      keeps-then s.session each.mid.session t.session (accepts_keep s each.front told.places each.mid subject each.accepts)
      (ends_keep each.mid each.rest told.refusal t subject each.ends)

  -- at the subject of a name
  body_named_keeps : (s : EventView M (ClientSink W)) (name body : List ℕ) (told : EmittedLines) (t : EventView M (ClientSink W)) → EmitsBodyNamed tells s name body told t → Kept s t
  body_named_keeps s name body told t (inl read_only) = kept-equal s t read_only.1.kept
  body_named_keeps s name body told t (inr may) =
      match_option (place_of name s.session.subjects) (IsNone tells causes.Subject s told t) (EmitsBody tells s body told t) (Kept s t)
      (λ none. kept-equal s t none.kept) (body_keeps s body told t) may.1

  -- of a server that may have been asked to stop
  lines_keep : (s : EventView M (ClientSink W)) (name body : List ℕ) (told : EmittedLines) (t : EventView M (ClientSink W)) → emits_lines tells s name body told t → Kept s t
  lines_keep s name body told t e =
      match_bool s.stopping (IsNone tells causes.Stopping s told t) (EmitsBodyNamed tells s name body told t) (Kept s t)
      (λ none. kept-equal s t none.kept) (body_named_keeps s name body told t) e

module _ {M W : Type 0} where
  -- a request of items at a subject
  request_at_keeps : (s : EventView M (ClientSink W)) (observer : ObserverId) (items : ℕ) (asked : Result (Unit {0}) Refusal) (t : EventView M (ClientSink W)) (subject : ℕ) (asks : Bool)
      → MatchBool asks (AsksFor s observer.who items asked t subject) (IsUngranted causes.Observer s asked t) → Kept s t
  request_at_keeps s observer items asked t subject true for = for.asks.kept
  request_at_keeps s observer items asked t subject false refused = kept-equal s t refused.1

  -- at the subject of a name
  request_keeps : (s : EventView M (ClientSink W)) (name : List ℕ) (observer : ObserverId) (items : ℕ) (asked : Result (Unit {0}) Refusal) (t : EventView M (ClientSink W))
      → requests s name observer items asked t → Kept s t
  request_keeps s name observer items asked t r =
      match_option (place_of name s.session.subjects) (IsUngranted causes.Subject s asked t) (RequestsAt s observer items asked t) (Kept s t)
      (λ refused. kept-equal s t refused.1) (λ subject at. request_at_keeps s observer items asked t subject (asks_itself s observer subject) at) r

  -- a look at a subject
  look_keeps : (s t : SessionView M (ClientSink W)) (subject : ℕ) → LooksAt s subject t → KeepsSession s t
  look_keeps s t subject (inl same) = keeps-equal s t same
  look_keeps s t subject (inr asks) = asks.kept

  -- at some of them
  looks_keep : (count : ℕ) (s t : SessionView M (ClientSink W)) → Looks count s t → KeepsSession s t
  looks_keep zero s t same = keeps-equal s t same
  looks_keep (suc count) s t (mid, looks, at) = keeps-then s mid t (looks_keep count s mid looks) (look_keeps mid t count at)

  -- a stop
  stop_keeps : (s : EventView M (ClientSink W)) (within : ℕ) (stopped : Result (Unit {0}) Refusal) (t : EventView M (ClientSink W)) → stops s within stopped t → Kept s t
  stop_keeps s within stopped t m =
      match_bool s.grants.may_stop ((stopped ≡ Ok tt) × (t ≡ with_stop s)) (IsUngranted causes.NoStop s stopped t) (Kept s t)
      (λ asked. keeps-equal s.session t.session (ap (λ (v : EventView M (ClientSink W)). v.session) asked.1)) (λ refused. kept-equal s t refused.1) m

module _ {M C W : Type 0} (tells : M → ℕ → M → Type 0) (remaining : C → Option (List ℕ)) (contents : W → Option (List ℕ)) where
  -- a Join from where its reader begins
  begin_keeps : (s : EventView M (ClientSink W)) (name : List ℕ) (policy : Choice) (credit : Credit) (begin : Option Begin) (writer : W) (met : Option (Answer × W)) (t : EventView M (ClientSink W))
      → meetings.JoinsAt (calls tells remaining contents) s name policy credit begin writer met t → Kept s t
  begin_keeps s name policy credit None writer met t j = kept-equal s t j.0
  begin_keeps s name policy credit (Some begin) writer met t j = join_keeps tells s name policy credit begin writer j.0 t j.1

  -- what was asked for
  meet_keeps : (s : EventView M (ClientSink W)) (writer : W) (asked : Result Asked Refusal) (text : List ℕ) (met : Option (Answer × W)) (t : EventView M (ClientSink W))
      → Meets (calls tells remaining contents) s writer asked text met t → Kept s t
  meet_keeps s writer (Ok (Events subject policy credit known)) text met t m = begin_keeps s subject policy credit (begin_by m.0 known) writer met t m.2
  meet_keeps s writer (Ok (Emission subject kind size key)) text met t m = emit_keeps tells s subject kind text key m.0 t m.1
  meet_keeps s writer (Ok (Texts subject size)) text met t m = lines_keep tells s subject text m.0 t m.1
  meet_keeps s writer (Ok (Request subject observer items)) text met t m = request_keeps s subject observer items m.0 t m.1
  meet_keeps s writer (Ok (Look form)) text met t m = looks_keep m.1.0 s.session t.session m.1.1.0
  meet_keeps s writer (Ok (Stop within)) text met t m = stop_keeps s within m.0 t m.1
  meet_keeps s writer (Ok Health) text met t m = kept-equal s t m.0
  meet_keeps s writer (Err cause) text met t m = kept-equal s t m.0

  -- ANY TURN
  pub turn_keeps : (result : Turn W) (talk : Talk C W Exchange) (reader : C) (exchange : Exchange) (before after : EventView M (ClientSink W))
      → TakesTurn tells remaining contents result talk reader exchange before after → Kept before after
  turn_keeps result talk reader exchange before after turn = elim turn.asks_once [
    | inl same ↦ kept-equal before after same
    | inr (asked, text, met, meets) ↦ meet_keeps before talk.writer asked text met after meets
  ]

-- What was remembered stands aside while the note is emitted, and is then there again, with one more where that was accepted.
use Rattle.std.proofs.Common.{◌≡◌, ◌∙◌, ℕ, List, [], Option, Result, inl, inr, refl, sym, subst, ap}
use Rattle.rx_http.specs.declared.answer.refusal.Refusal.{Refusal}
use Rattle.rx_http.specs.declared.request.note_kind.NoteKind.{NoteKind}
use Rattle.rx_desk.specs.EmittedNotes.{note_of}
use Rattle.rx_desk.specs.EventDesks.{EmitsAt, EmitsNote, EventView, first_answer, with_kept}
use Rattle.rx_desk.specs.declared.client_sink.ClientSink.{ClientSink}
use Rattle.rx_desk.specs.KeptAnswers.{kept_with, listed}
use Rattle.rx_desk.specs.declared.kept_answer.KeptAnswer.{KeptAnswer}
use Rattle.rx_desk.specs.declared.kept_answers.KeptAnswers.{KeptAnswers}
use Rattle.rx_desk.proofs.event_desk.EventDesk.emit_first.Goals as goal
use Rattle.rx_desk.proofs.event_desk.EventDesk.emit_first.Goals.{in-Ok-emitted, in_default-emitted}

module _ {M W : Type 0} where
  -- a desk that remembers these
  abbrev with_answers : EventView M (ClientSink W) → List KeptAnswer → EventView M (ClientSink W)
  with_answers desk kept = record desk { kept = kept }

  answers-as : (one other : EventView M (ClientSink W)) (a b : List KeptAnswer) → one ≡ other → a ≡ b → with_answers one a ≡ with_answers other b
  answers-as one other a b p q = ap (λ (v : EventView M (ClientSink W)). with_answers v a) p ∙ ap (λ l. with_answers other l) q

  module _ (tells : M → ℕ → M → Type 0) (desk start after : EventView M (ClientSink W)) (subject : ℕ) (same : start ≡ with_answers desk []) where
    -- a note is emitted so too where something is remembered
    note-too : (kind : NoteKind) (text : List ℕ) (did : Result (Option ℕ) Refusal) → EmitsNote tells start kind (note_of kind text) did after subject
        → EmitsNote tells desk kind (note_of kind text) did (with_answers after desk.kept) subject
    note-too kind text did emits =
        let e = subst (λ (v : EventView M (ClientSink W)). EmitsNote tells v kind (note_of kind text) did after subject) same emits in record {
          answered = e.answered;
          asks = e.asks;
          emitted_is = e.emitted_is;
          is_well = e.is_well;
          held = e.held;
          asking = e.asking;
          kept = refl;
          epoch = e.epoch;
          grants = e.grants;
          stopping = e.stopping;
        }

    emits-too : (kind : NoteKind) (text : List ℕ) (did : Result (Option ℕ) Refusal) → EmitsAt tells start kind text did after subject
        → EmitsAt tells desk kind text did (with_answers after desk.kept) subject
    emits-too kind text did (inl (cause, refused, (is, kept))) = inl (cause, refused, (is, ap (λ (v : EventView M (ClientSink W)). with_answers v desk.kept) (kept ∙ same)))
    emits-too kind text did (inr emits) = inr (note-too kind text did emits)

pub returns : goal.returns
returns g c =
    let aside = ap (λ (k : KeptAnswers). listed k.ring) c.replace-kept.ensures.after ∙ c.new.ensures in
    let before = ap (λ (k : KeptAnswers). listed k.ring) c.replace-kept.ensures.value ∙ c.make_room.ensures.same ∙ ap (λ (v : EventView _ _). v.kept) c.self.view_is in
    let told : c.match-emitted.emitted ≡ c.emit_text-emitted.result = elim c.match-emitted.branch [
      | in-Ok-emitted w ↦ w.emitted-is ∙ sym w.in-Ok-emitted.is
      | in_default-emitted w ↦ w.emitted-is
    ] in
    inr (record {
      mid = with_answers c.emit_text-emitted.new.self c.args.self.now.kept;
      did = c.emit_text-emitted.result;
      emits = emits-too g.M.Moments.tells c.args.self.now _ c.emit_text-emitted.new.self c.args.place (answers-as _ _ _ _ c.self.view_is aside) c.args.kind c.args.text.now c.emit_text-emitted.result c.emit_text-emitted.ensures.emits;
      after_is = elim c.match-emitted.branch [
        | in-Ok-emitted w ↦
            answers-as _ _ _ _ c.self-2.view_is (ap (λ (k : KeptAnswers). listed k.ring) w.kept-is ∙ w.keep.ensures ∙ ap (λ l. kept_with l (record { subject = c.args.place; key = c.args.key; place = w.in-Ok-emitted.item })) before)
            ∙ ap (with_kept (with_answers c.emit_text-emitted.new.self c.args.self.now.kept) c.args.place c.args.key) (sym w.in-Ok-emitted.is)
        | in_default-emitted w ↦
            answers-as _ _ _ _ c.self-2.view_is (ap (λ (k : KeptAnswers). listed k.ring) w.kept-is ∙ before)
            ∙ ap (with_kept (with_answers c.emit_text-emitted.new.self c.args.self.now.kept) c.args.place c.args.key) (sym w.in_default-emitted.is)
      ];
      emitted_is = c.first_answer.ensures ∙ ap first_answer told;
    })

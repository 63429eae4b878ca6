-- A sender goes on to stand for its calls, for what it appended and for the log.
use Rattle.std.proofs.Common.{◌≡◌, ℕ, ◌+◌, ◌-◌, Bool, true, false, cond, List, [], ◌∷◌, ◌++◌, length, Option, None, Some, option_to_list, refl, sym, ap, ◌∙◌, append_assoc, arith}
use Rattle.std.specs.Prelude.{slice_get, nat_lt, option_map}
use Rattle.std.proofs.lemmas.List.{length-append, length-map, map_push, drop-append-le}
use Rattle.std.proofs.lemmas.List.Elements.{All-cons, All-weaker}
use Rattle.std.proofs.lemmas.Option.{slice_get-map}
use Rattle.rx_note.specs.declared.note.Note.{Note}
use Rattle.rx_log.specs.declared.call.Call.{Call}
use Rattle.rx_log.specs.declared.entry.Entry.{Entry}
use Rattle.rx_log.specs.declared.entry.Entry.TheVariants.{Tenure, Own, Foreign}
use Rattle.rx_log.specs.declared.holder.Holder.{Holder}
use Rattle.rx_log.specs.declared.stage.Stage.{Stage}
use Rattle.rx_log.specs.declared.stage.Stage.TheVariants.{Catching, Up, Away, Replaced}
use Rattle.rx_log.specs.declared.total.Total.{Total}
use Rattle.rx_log.specs.Logs.{Log, entries, counted}
use Rattle.rx_log.specs.Totals.{known}
use Rattle.rx_log.specs.Senders.{SenderState, tenure_due, own_of, own_due, due_at, due, handed_on, asking, connected_at, gone_at, caught_up_at, is_overdue, ticked_at, told}
use Rattle.rx_log.specs.Machines.{own_notes, notes_of, Fits, Serves, Tells}
use Rattle.rx_log.proofs.Within.{current-within}
use Rattle.rx_log.proofs.Waiting.{get-push}

-- WHAT CHANGES NOTHING OF THE LOG

-- a sender that gives its tenure up
serves-none : (span : ℕ) (s : SenderState) (calls : List Call) (handed : List Entry) (L : Log) → Serves span s calls handed L
    → (stage : Stage) (sent : ℕ) (asks : Bool) (moment since : ℕ)
    → Serves span (record s { stage = stage; tenure = None; sent = sent; asks = asks; moment = moment; since = since }) calls handed L
serves-none span s calls handed L serves stage sent asks moment since =
    record { exact = serves.exact; waits = serves.waits; fits = serves.fits; owns = λ tenure is. absurd cc }

-- or keeps it
serves-kept : (span : ℕ) (s : SenderState) (calls : List Call) (handed : List Entry) (L : Log) → Serves span s calls handed L
    → (sent : ℕ) (asks : Bool) (moment since : ℕ) → Serves span (record s { sent = sent; asks = asks; moment = moment; since = since }) calls handed L
serves-kept span s calls handed L serves sent asks moment since =
    record { exact = serves.exact; waits = serves.waits; fits = serves.fits; owns = λ tenure is. serves.owns tenure is }

pub serves-connected : (span : ℕ) (s : SenderState) (calls : List Call) (handed : List Entry) (L : Log) → Serves span s calls handed L → (stage : Stage) → Serves span (connected_at s stage) calls handed L
serves-connected span s calls handed L serves Catching = serves
serves-connected span s calls handed L serves Up = serves-none span s calls handed L serves s.stage 0 true s.moment s.moment
serves-connected span s calls handed L serves Away = serves-none span s calls handed L serves Up 0 true s.moment s.moment
serves-connected span s calls handed L serves Replaced = serves

pub serves-gone : (span : ℕ) (s : SenderState) (calls : List Call) (handed : List Entry) (L : Log) → Serves span s calls handed L → (stage : Stage) → Serves span (gone_at s stage) calls handed L
serves-gone span s calls handed L serves Catching = serves
serves-gone span s calls handed L serves Up = serves-none span s calls handed L serves Away 0 s.asks s.moment s.since
serves-gone span s calls handed L serves Away = serves
serves-gone span s calls handed L serves Replaced = serves

pub serves-caught_up : (span : ℕ) (s : SenderState) (calls : List Call) (handed : List Entry) (L : Log) → Serves span s calls handed L → (stage : Stage) → Serves span (caught_up_at s stage) calls handed L
serves-caught_up span s calls handed L serves Catching = serves-none span s calls handed L serves Up 0 true s.moment s.moment
serves-caught_up span s calls handed L serves Up = serves
serves-caught_up span s calls handed L serves Away = serves
serves-caught_up span s calls handed L serves Replaced = serves

-- where it begins anew or doesn't
pub serves-asking : (span : ℕ) (s : SenderState) (calls : List Call) (handed : List Entry) (L : Log) → Serves span s calls handed L → (b : Bool) → Serves span (cond b (asking s) s) calls handed L
serves-asking span s calls handed L serves true = serves-none span s calls handed L serves s.stage 0 true s.moment s.moment
serves-asking span s calls handed L serves false = serves

pub serves-ticked : (span : ℕ) (s : SenderState) (calls : List Call) (handed : List Entry) (L : Log) → Serves span s calls handed L → (moment : ℕ) (stage : Stage)
    → Serves span (ticked_at (record s { moment = moment }) stage) calls handed L
serves-ticked span s calls handed L serves moment Up =
    serves-asking span (record s { moment = moment }) calls handed L (serves-kept span s calls handed L serves s.sent s.asks moment s.since) (is_overdue (record s { moment = moment }))
serves-ticked span s calls handed L serves moment Catching = serves-kept span s calls handed L serves s.sent s.asks moment s.since
serves-ticked span s calls handed L serves moment Away = serves-kept span s calls handed L serves s.sent s.asks moment s.since
serves-ticked span s calls handed L serves moment Replaced = serves-kept span s calls handed L serves s.sent s.asks moment s.since

-- ONE CALL MORE

-- what counts and what waits is what was called
lengths : (own : List Note) (waiting calls : List Call) → own ++ notes_of waiting ≡ notes_of calls → length own + length waiting ≡ length calls
lengths own waiting calls exact =
    let both = ap length exact in
    omega (arith, both, length-append own (notes_of waiting), length-map waiting (λ (call : Call). call.note), length-map calls (λ (call : Call). call.note))

fits-more : (span : ℕ) (holder : Holder) (L : Log) (waiting : List Call) (call : Call) (entry : Entry) → Fits span holder L waiting entry → Fits span holder L (waiting ++ call ∷ []) entry
fits-more span holder L waiting call (Tenure other base told) fits = tt
fits-more span holder L waiting call (Own tenure number note) fits = (
  fits.0,
  λ held current above.
      ap (λ (notes : List Note). slice_get notes (number - counted span tenure L - 1)) (map_push (λ (c : Call). c.note) waiting call)
      ∙ get-push (notes_of waiting) (call.note ∷ []) (number - counted span tenure L - 1) note (fits.1 held current above),
)
fits-more span holder L waiting call (Foreign text) fits = tt

pub serves-call : (span : ℕ) (s : SenderState) (calls : List Call) (handed : List Entry) (L : Log) (call : Call) → Serves span s calls handed L
    → Serves span (record s { waiting = s.waiting ++ call ∷ [] }) (calls ++ call ∷ []) handed L
serves-call span s calls handed L call serves =
    let own = own_notes span s.holder L in
    let n = lengths own s.waiting calls serves.exact in
    record {
      exact = ap (λ (notes : List Note). own ++ notes) (map_push (λ (c : Call). c.note) s.waiting call)
          ∙ sym (append_assoc own (notes_of s.waiting) (call.note ∷ []))
          ∙ ap (λ (notes : List Note). notes ++ call.note ∷ []) serves.exact
          ∙ sym (map_push (λ (c : Call). c.note) calls call);
      waits = ap (λ (rest : List Call). rest ++ call ∷ []) serves.waits ∙ sym (drop-append-le (length own) calls (call ∷ []) (omega (arith, n)));
      fits = All-weaker (Fits span s.holder L s.waiting) (Fits span s.holder L (s.waiting ++ call ∷ [])) (λ entry fits. fits-more span s.holder L s.waiting call entry fits) handed serves.fits;
      owns = λ tenure is. serves.owns tenure is;
    }

-- ONE ENTRY MORE IS APPENDED

-- what is due behind a tenure is the next call that waits
record IsDue (s : SenderState) (tenure number : ℕ) (note : Note) : Type 0 where
  tenure_is : s.tenure ≡ Some tenure
  number_is : number ≡ s.counted + s.sent + 1
  note_is : slice_get (notes_of s.waiting) s.sent ≡ Some note

own-is-due : (s : SenderState) (tenure number : ℕ) (note : Note) (at : ℕ) (total : Option Total) → Some (Own tenure number note) ≡ due s at total → IsDue s tenure number note
own-is-due s tenure number note at total is = by s.stage is
  where
    of_call : (own : ℕ) → s.tenure ≡ Some own → (call : Option Call) → slice_get s.waiting s.sent ≡ call → Some (Own tenure number note) ≡ own_of s own call → IsDue s tenure number note
    of_call own own_is None call_is so = absurd cc
    of_call own own_is (Some call) call_is so =
        let same : Own tenure number note ≡ Own own (s.counted + s.sent + 1) call.note = cc in
        let note_so : call.note ≡ note = cc in
        let tenure_so : own ≡ tenure = cc in
        let number_so : number ≡ s.counted + s.sent + 1 = cc in
        record {
          tenure_is = own_is ∙ ap (λ (t : ℕ). Some t) tenure_so;
          number_is = number_so;
          note_is = slice_get-map (λ (c : Call). c.note) s.waiting s.sent ∙ ap (option_map (λ (c : Call). c.note)) call_is ∙ ap (λ (n : Note). Some n) note_so;
        }

    of_room : (own : ℕ) → s.tenure ≡ Some own → (b : Bool) → Some (Own tenure number note) ≡ cond b (own_of s own (slice_get s.waiting s.sent)) None → IsDue s tenure number note
    of_room own own_is true so = of_call own own_is (slice_get s.waiting s.sent) refl so
    of_room own own_is false so = absurd cc

    of_tenure : (t : Option ℕ) → s.tenure ≡ t → Some (Own tenure number note) ≡ own_due s t → IsDue s tenure number note
    of_tenure None own_is so = absurd cc
    of_tenure (Some own) own_is so = of_room own own_is (nat_lt s.sent s.pace.window) so

    of_total : (o : Option Total) → Some (Own tenure number note) ≡ tenure_due s at o → IsDue s tenure number note
    of_total None so = absurd cc
    of_total (Some claim) so = absurd cc

    of_asks : (b : Bool) → Some (Own tenure number note) ≡ cond b (tenure_due s at total) (own_due s s.tenure) → IsDue s tenure number note
    of_asks true so = of_total total so
    of_asks false so = of_tenure s.tenure refl so

    by : (stage : Stage) → Some (Own tenure number note) ≡ due_at s stage at total → IsDue s tenure number note
    by Up so = of_asks s.asks so
    by Catching so = absurd cc
    by Away so = absurd cc
    by Replaced so = absurd cc

-- what is due fits
due-fits : (span : ℕ) (s : SenderState) (calls : List Call) (handed : List Entry) (L : Log) (tenure number : ℕ) (note : Note) → Serves span s calls handed L → IsDue s tenure number note
    → Fits span s.holder L s.waiting (Own tenure number note)
due-fits span s calls handed L tenure number note serves is_due =
    let owns = serves.owns tenure is_due.tenure_is in (
      omega (arith, owns.current, current-within span s.holder.node L),
      λ held current above.
          let place : number - counted span tenure L - 1 ≡ s.sent = omega (arith, is_due.number_is, owns.number_is) in
          ap (slice_get (notes_of s.waiting)) place ∙ is_due.note_is,
    )

pub serves-handed : (span : ℕ) (s : SenderState) (calls : List Call) (handed : List Entry) (L : Log) (at : ℕ) (total : Option Total) (o : Option Entry) → o ≡ due s at total
    → Serves span s calls handed L → Serves span (handed_on s o) calls (option_to_list o ++ handed) L
serves-handed span s calls handed L at total None is serves = serves
serves-handed span s calls handed L at total (Some (Tenure holder base told)) is serves =
    let more = serves-kept span s calls handed L serves s.sent false s.moment s.moment in
    record { exact = more.exact; waits = more.waits; fits = All-cons (Fits span s.holder L s.waiting) (Tenure holder base told) handed tt serves.fits; owns = more.owns }
serves-handed span s calls handed L at total (Some (Own tenure number note)) is serves =
    let more = serves-kept span s calls handed L serves (s.sent + 1) s.asks s.moment s.since in
    record {
      exact = more.exact;
      waits = more.waits;
      fits = All-cons (Fits span s.holder L s.waiting) (Own tenure number note) handed (due-fits span s calls handed L tenure number note serves (own-is-due s tenure number note at total is)) serves.fits;
      owns = more.owns;
    }
serves-handed span s calls handed L at total (Some (Foreign text)) is serves =
    record { exact = serves.exact; waits = serves.waits; fits = All-cons (Fits span s.holder L s.waiting) (Foreign text) handed tt serves.fits; owns = serves.owns }

-- a tenure that is due tells what is known
pub due-tells : (span : ℕ) (L : Log) (s : SenderState) (at : ℕ) (total : Option Total) (o : Option Entry) → o ≡ due s at total → at ≡ entries L → total ≡ known span L → Tells span L o
due-tells span L s at total None is at_is total_is = tt
due-tells span L s at total (Some (Own tenure number note)) is at_is total_is = tt
due-tells span L s at total (Some (Foreign text)) is at_is total_is = tt
due-tells span L s at total (Some (Tenure holder base told)) is at_is total_is = by s.stage is
  where
    of_call : (own : ℕ) (call : Option Call) → Some (Tenure holder base told) ≡ own_of s own call → Tells span L (Some (Tenure holder base told))
    of_call own None so = absurd cc
    of_call own (Some call) so = absurd cc

    of_room : (own : ℕ) (b : Bool) → Some (Tenure holder base told) ≡ cond b (own_of s own (slice_get s.waiting s.sent)) None → Tells span L (Some (Tenure holder base told))
    of_room own true so = of_call own (slice_get s.waiting s.sent) so
    of_room own false so = absurd cc

    of_tenure : (t : Option ℕ) → Some (Tenure holder base told) ≡ own_due s t → Tells span L (Some (Tenure holder base told))
    of_tenure None so = absurd cc
    of_tenure (Some own) so = of_room own (nat_lt s.sent s.pace.window) so

    of_total : (o : Option Total) → o ≡ known span L → Some (Tenure holder base told) ≡ tenure_due s at o → Tells span L (Some (Tenure holder base told))
    of_total None known_is so = absurd cc
    of_total (Some claim) known_is so =
        let base_is : base ≡ at = cc in
        let told_is : told ≡ claim = cc in
        (base_is ∙ at_is, sym known_is ∙ ap (λ (t : Total). Some t) (sym told_is))

    of_asks : (b : Bool) → Some (Tenure holder base told) ≡ cond b (tenure_due s at total) (own_due s s.tenure) → Tells span L (Some (Tenure holder base told))
    of_asks true so = of_total total total_is so
    of_asks false so = of_tenure s.tenure so

    by : (stage : Stage) → Some (Tenure holder base told) ≡ due_at s stage at total → Tells span L (Some (Tenure holder base told))
    by Up so = of_asks s.asks so
    by Catching so = absurd cc
    by Away so = absurd cc
    by Replaced so = absurd cc

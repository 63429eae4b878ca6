-- A sender goes on with one entry more that was read.
use Rattle.std.proofs.Common.{◌≡◌, ℕ, suc, ◌+◌, ◌-◌, ◌≤◌, ◌==◌, ◌&&◌, ◌⊎◌, Bool, true, false, cond, List, [], ◌∷◌, ◌++◌, length, drop, Option, None, Some, inl, inr, refl, sym, ap, subst, ◌∙◌, append_assoc, arith}
use Rattle.std.specs.Prelude.{slice_get, option_map}
use Rattle.std.specs.List.{All, Contains}
use Rattle.std.proofs.lemmas.Bool.{cases_eq, eqb-true, eq-eqb, ne_eqb, and_parts, and_left, and_right, and_from, cond-true, cond-false, true≢false, false≢true, false_from_ne_true}
use Rattle.std.proofs.lemmas.List.{length_push, drop-drop, drop-map}
use Rattle.std.proofs.lemmas.List.Elements.{All-weaker, All-contains}
use Rattle.rx_note.specs.declared.note.Note.{Note}
use Rattle.rx_log.specs.declared.call.Call.{Call}
use Rattle.rx_log.specs.declared.entry.Entry.{Entry}
use Rattle.rx_log.specs.declared.entry.Entry.TheVariants.{Tenure, Own, Foreign}
use Rattle.rx_log.specs.declared.holder.Holder.{Holder}
use Rattle.rx_log.specs.declared.standing.Standing.TheVariants.{Void, Opens, Counts}
use Rattle.rx_log.specs.declared.total.Total.{Total}
use Rattle.rx_log.specs.Logs.{Log, ◌▹◌, entries, holder_at, current_tenure, opens, is_current, is_open, counted, counts}
use Rattle.rx_log.specs.Totals.{standing, known}
use Rattle.rx_log.specs.Senders.{SenderState, is_held_by, opened, replaced, answered, is_missed, heard_tenure, heard, told, replaced_stage, asking}
use Rattle.rx_log.specs.Machines.{is_own, own_notes, notes_of, IsHanded, Fits, Owns, Serves, answer}
use Rattle.rx_log.proofs.Within.{current-within, none-counted}
use Rattle.rx_log.proofs.Once.{next-is-new, then-counted}
use Rattle.rx_log.proofs.Tenures.{counted-void, counted-other}
use Rattle.rx_log.proofs.Waiting.{get-drop1, get-drop}
use Rattle.rx_log.proofs.Serving.{serves-asking}

-- who holds a tenure is this holder
held-is : (holder : Holder) (o : Option Holder) → is_held_by holder o ≡ true → o ≡ Some holder
held-is holder None held = absurd (false≢true held)
held-is holder (Some other) held =
    let parts = and_parts (other.node == holder.node) (other.run == holder.run) held in
    let node = eqb-true other.node holder.node parts.0 in
    let run = eqb-true other.run holder.run parts.1 in
    ap (λ (n : ℕ). Some (record { node = n; run = other.run })) node ∙ ap (λ (r : ℕ). Some (record { node = holder.node; run = r })) run

held-self : (holder : Holder) → is_held_by holder (Some holder) ≡ true
held-self holder = and_from (holder.node == holder.node) (holder.run == holder.run) (eq-eqb holder.node holder.node refl) (eq-eqb holder.run holder.run refl)

-- AN ENTRY THAT IS NOT ONE'S OWN

-- an own entry that is not the holder's counts nothing behind a tenure of the holder's
counted-same : (span : ℕ) (holder : Holder) (L : Log) (tenure number : ℕ) (note : Note) (place : ℕ) → is_own span holder L tenure number ≡ false → holder_at place L ≡ Some holder
    → counted span place (L ▹ Own tenure number note) ≡ counted span place L
counted-same span holder L tenure number note place other held = by (cases_eq tenure place)
  where
    void : tenure ≡ place → counts span L tenure number ≡ false
    void same = false_from_ne_true (counts span L tenure number) (λ counts_so.
        true≢false (sym (and_from (counts span L tenure number) (is_held_by holder (holder_at tenure L)) counts_so
        (ap (λ (p : ℕ). is_held_by holder (holder_at p L)) same ∙ ap (is_held_by holder) held ∙ held-self holder)) ∙ other))

    by : (tenure ≡ place) ⊎ (tenure ≡ place → ⊥) → counted span place (L ▹ Own tenure number note) ≡ counted span place L
    by (inl same) = counted-void span place tenure number note L (void same)
    by (inr unlike) = counted-other span place tenure number note L unlike

-- a tenure that stood before is held as before
holder-before : (holder : Holder) (base : ℕ) (claim : Total) (L : Log) (place : ℕ) → place ≤ entries L → holder_at place (L ▹ Tenure holder base claim) ≡ holder_at place L
holder-before holder base claim L place within =
    cond-false (entries L + 1 == place) (Some holder) (holder_at place L) (ne_eqb (entries L + 1) place (λ same. omega (arith, same, within)))

-- a tenure that is current there, and stood before, was current
current-before : (span node base : ℕ) (holder : Holder) (claim : Total) (L : Log) (place : ℕ) → place ≤ entries L → current_tenure span node (L ▹ Tenure holder base claim) ≡ place
    → current_tenure span node L ≡ place
current-before span node base holder claim L place within is = by ((holder.node == node) && opens span L node base) is
  where
    by : (b : Bool) → cond b (entries L + 1) (current_tenure span node L) ≡ place → current_tenure span node L ≡ place
    by true so = absurd (omega (arith, so, within))
    by false so = so

fits-own : (span : ℕ) (holder : Holder) (L : Log) (tenure number : ℕ) (note : Note) (waiting : List Call) → is_own span holder L tenure number ≡ false
    → (entry : Entry) → Fits span holder L waiting entry → Fits span holder (L ▹ Own tenure number note) waiting entry
fits-own span holder L tenure number note waiting other (Tenure h base claim) fits = tt
fits-own span holder L tenure number note waiting other (Own t n text) fits = (
  omega (arith, fits.0),
  λ held current above.
      let same = counted-same span holder L tenure number note t other held in
      ap (λ (k : ℕ). slice_get (notes_of waiting) (n - k - 1)) same ∙ fits.1 held current (omega (arith, above, same)),
)
fits-own span holder L tenure number note waiting other (Foreign text) fits = tt

fits-foreign : (span : ℕ) (holder : Holder) (L : Log) (text : List ℕ) (waiting : List Call) → (entry : Entry) → Fits span holder L waiting entry → Fits span holder (L ▹ Foreign text) waiting entry
fits-foreign span holder L text waiting (Tenure h base claim) fits = tt
fits-foreign span holder L text waiting (Own t n note) fits = (omega (arith, fits.0), λ held current above. fits.1 held current above)
fits-foreign span holder L text waiting (Foreign other) fits = tt

fits-tenure : (span : ℕ) (holder : Holder) (L : Log) (other : Holder) (base : ℕ) (claim : Total) (waiting : List Call) → (entry : Entry) → Fits span holder L waiting entry
    → Fits span holder (L ▹ Tenure other base claim) waiting entry
fits-tenure span holder L other base claim waiting (Tenure h b c) fits = tt
fits-tenure span holder L other base claim waiting (Own t n note) fits = (
  omega (arith, fits.0),
  λ held current above.
      fits.1 (sym (holder-before other base claim L t fits.0) ∙ held) (current-before span holder.node base other claim L t fits.0 current) above,
)
fits-tenure span holder L other base claim waiting (Foreign text) fits = tt

pub serves-foreign : (span : ℕ) (s : SenderState) (calls : List Call) (handed : List Entry) (L : Log) (text : List ℕ) → Serves span s calls handed L → Serves span s calls handed (L ▹ Foreign text)
serves-foreign span s calls handed L text serves = record {
  exact = serves.exact;
  waits = serves.waits;
  fits = All-weaker (Fits span s.holder L s.waiting) (Fits span s.holder (L ▹ Foreign text) s.waiting) (λ entry fits. fits-foreign span s.holder L text s.waiting entry fits) handed serves.fits;
  owns = λ tenure is. let owns = serves.owns tenure is in record { current = owns.current; held = owns.held; number_is = owns.number_is };
}

-- an own entry that is not the holder's
serves-other : (span : ℕ) (s : SenderState) (calls : List Call) (handed : List Entry) (L : Log) (tenure number : ℕ) (note : Note) → is_own span s.holder L tenure number ≡ false
    → Serves span s calls handed L → Serves span s calls handed (L ▹ Own tenure number note)
serves-other span s calls handed L tenure number note other serves =
    let same : own_notes span s.holder (L ▹ Own tenure number note) ≡ own_notes span s.holder L = cond-false (is_own span s.holder L tenure number) _ (own_notes span s.holder L) other in
    record {
      exact = ap (λ (own : List Note). own ++ notes_of s.waiting) same ∙ serves.exact;
      waits = serves.waits ∙ ap (λ (own : List Note). drop (length own) calls) (sym same);
      fits = All-weaker (Fits span s.holder L s.waiting) (Fits span s.holder (L ▹ Own tenure number note) s.waiting) (λ entry fits. fits-own span s.holder L tenure number note s.waiting other entry fits) handed serves.fits;
      owns = λ place is. let owns = serves.owns place is in record {
        current = owns.current;
        held = owns.held;
        number_is = counted-same span s.holder L tenure number note place other owns.held ∙ owns.number_is;
      };
    }

-- A TENURE

-- with no tenure of its own a sender goes on whatever tenure is read
serves-tenure : (span : ℕ) (s : SenderState) (calls : List Call) (handed : List Entry) (L : Log) (other : Holder) (base : ℕ) (claim : Total) (t : SenderState)
    → t.holder ≡ s.holder → t.waiting ≡ s.waiting → ((place : ℕ) → t.tenure ≡ Some place → Owns span t.holder (L ▹ Tenure other base claim) place t.counted)
    → Serves span s calls handed L → Serves span t calls handed (L ▹ Tenure other base claim)
serves-tenure span s calls handed L other base claim t same_holder same_waiting owns serves = record {
  exact = ap (λ (h : Holder). own_notes span h L ++ notes_of t.waiting) same_holder ∙ ap (λ (w : List Call). own_notes span s.holder L ++ notes_of w) same_waiting ∙ serves.exact;
  waits = same_waiting ∙ serves.waits ∙ ap (λ (h : Holder). drop (length (own_notes span h L)) calls) (sym same_holder);
  fits = subst (λ (h : Holder). All (Fits span h (L ▹ Tenure other base claim) t.waiting) handed) (sym same_holder)
      (subst (λ (w : List Call). All (Fits span s.holder (L ▹ Tenure other base claim) w) handed) (sym same_waiting)
      (All-weaker (Fits span s.holder L s.waiting) (Fits span s.holder (L ▹ Tenure other base claim) s.waiting) (λ entry fits. fits-tenure span s.holder L other base claim s.waiting entry fits) handed serves.fits));
  owns = owns;
}

-- one that is of another node, or does not count, leaves its own as it was
owns-tenure : (span : ℕ) (holder : Holder) (L : Log) (other : Holder) (base : ℕ) (claim : Total) (place number : ℕ) → ((other.node == holder.node) && opens span L holder.node base) ≡ false
    → Owns span holder L place number → Owns span holder (L ▹ Tenure other base claim) place number
owns-tenure span holder L other base claim place number quiet owns = record {
  current = cond-false ((other.node == holder.node) && opens span L holder.node base) (entries L + 1) (current_tenure span holder.node L) quiet ∙ owns.current;
  held = holder-before other base claim L place (omega (arith, owns.current, current-within span holder.node L)) ∙ owns.held;
  number_is = owns.number_is;
}

-- its own that counts is its tenure
owns-opened : (span : ℕ) (holder : Holder) (L : Log) (other : Holder) (base : ℕ) (claim : Total) → other.node ≡ holder.node → other.run ≡ holder.run → opens span L other.node base ≡ true
    → Owns span holder (L ▹ Tenure other base claim) (entries L + 1) 0
owns-opened span holder L other base claim node run opens_so = record {
  current = cond-true ((other.node == holder.node) && opens span L holder.node base) (entries L + 1) (current_tenure span holder.node L)
      (and_from (other.node == holder.node) (opens span L holder.node base) (eq-eqb other.node holder.node node) (ap (λ (n : ℕ). opens span L n base) (sym node) ∙ opens_so));
  held = cond-true (entries L + 1 == entries L + 1) (Some other) (holder_at (entries L + 1) L) (eq-eqb (entries L + 1) (entries L + 1) refl)
      ∙ held-is holder (Some other) (and_from (other.node == holder.node) (other.run == holder.run) (eq-eqb other.node holder.node node) (eq-eqb other.run holder.run run));
  number_is = none-counted span (entries L + 1) L (omega arith);
}

some-same : (a b : ℕ) → Some a ≡ Some b → a ≡ b
some-same a b same = cc

-- another run's leaves it without one
replaced-heard : (span : ℕ) (s : SenderState) (calls : List Call) (handed : List Entry) (L : Log) (other : Holder) (base : ℕ) (claim : Total) → Serves span s calls handed L
    → Serves span (replaced s) calls handed (L ▹ Tenure other base claim)
replaced-heard span s calls handed L other base claim serves = by s.has_opened
  where
    by : (b : Bool) → Serves span (cond b (record s { tenure = None; sent = 0; stage = replaced_stage s.stage }) (asking s)) calls handed (L ▹ Tenure other base claim)
    by true = serves-tenure span s calls handed L other base claim (record s { tenure = None; sent = 0; stage = replaced_stage s.stage }) refl refl (λ place is. absurd cc) serves
    by false = serves-tenure span s calls handed L other base claim (asking s) refl refl (λ place is. absurd cc) serves

tenure-heard : (span : ℕ) (s : SenderState) (calls : List Call) (handed : List Entry) (L : Log) (other : Holder) (base : ℕ) (claim : Total) → opens span L other.node base ≡ true
    → Serves span s calls handed L → Serves span (heard_tenure s (entries L + 1) other) calls handed (L ▹ Tenure other base claim)
tenure-heard span s calls handed L other base claim opens_so serves = by (other.node == s.holder.node) (other.run == s.holder.run) refl refl
  where
    by : (b c : Bool) → (other.node == s.holder.node) ≡ b → (other.run == s.holder.run) ≡ c
        → Serves span (cond b (cond c (opened s (entries L + 1)) (replaced s)) s) calls handed (L ▹ Tenure other base claim)
    by true true node run = serves-tenure span s calls handed L other base claim (opened s (entries L + 1)) refl refl
        (λ place is. subst (λ (p : ℕ). Owns span s.holder (L ▹ Tenure other base claim) p 0) (some-same (entries L + 1) place is)
        (owns-opened span s.holder L other base claim (eqb-true other.node s.holder.node node) (eqb-true other.run s.holder.run run) opens_so)) serves
    by true false node run = replaced-heard span s calls handed L other base claim serves
    by false c node run = serves-tenure span s calls handed L other base claim s refl refl
        (λ place is. owns-tenure span s.holder L other base claim place s.counted (and_left (other.node == s.holder.node) (opens span L s.holder.node base) node) (serves.owns place is)) serves

tenure-void : (span : ℕ) (s : SenderState) (calls : List Call) (handed : List Entry) (L : Log) (other : Holder) (base : ℕ) (claim : Total) → opens span L other.node base ≡ false
    → Serves span s calls handed L → Serves span s calls handed (L ▹ Tenure other base claim)
tenure-void span s calls handed L other base claim void serves = serves-tenure span s calls handed L other base claim s refl refl
    (λ place is. owns-tenure span s.holder L other base claim place s.counted (quiet (cases_eq other.node s.holder.node)) (serves.owns place is)) serves
  where
    quiet : (other.node ≡ s.holder.node) ⊎ (other.node ≡ s.holder.node → ⊥) → ((other.node == s.holder.node) && opens span L s.holder.node base) ≡ false
    quiet (inl same) = and_right (other.node == s.holder.node) (opens span L s.holder.node base) (ap (λ (n : ℕ). opens span L n base) (sym same) ∙ void)
    quiet (inr unlike) = and_left (other.node == s.holder.node) (opens span L s.holder.node base) (ne_eqb other.node s.holder.node unlike)

-- ONE'S OWN

-- what is known of an own entry that counts
record IsOwn (span : ℕ) (holder : Holder) (L : Log) (tenure number : ℕ) : Type 0 where
  held : holder_at tenure L ≡ Some holder
  current : current_tenure span holder.node L ≡ tenure
  next : number ≡ counted span tenure L + 1

own-is : (span : ℕ) (holder : Holder) (L : Log) (tenure number : ℕ) → counts span L tenure number ≡ true → is_held_by holder (holder_at tenure L) ≡ true → IsOwn span holder L tenure number
own-is span holder L tenure number counts_so held_so =
    let held = held-is holder (holder_at tenure L) held_so in
    let open_so = (and_parts (is_open span L tenure) (number == counted span tenure L + 1) counts_so).0 in
    let current_so = (and_parts (is_current span L tenure (holder_at tenure L)) _ open_so).0 in
    record {
      held = held;
      current = eqb-true (current_tenure span holder.node L) tenure (sym (ap (is_current span L tenure) held) ∙ current_so);
      next = next-is-new span tenure number L counts_so;
    }

-- the oldest call is the one that counts
oldest : (waiting : List Call) (note : Note) → slice_get (notes_of waiting) 0 ≡ Some note → notes_of waiting ≡ note ∷ notes_of (drop 1 waiting)
oldest [] note is = absurd cc
oldest (call ∷ rest) note is = let same : call.note ≡ note = cc in ap (λ (n : Note). n ∷ notes_of rest) same

fits-counted : (span : ℕ) (holder : Holder) (L : Log) (tenure number : ℕ) (note : Note) (waiting : List Call) → counts span L tenure number ≡ true → IsOwn span holder L tenure number
    → (entry : Entry) → Fits span holder L waiting entry → Fits span holder (L ▹ Own tenure number note) (drop 1 waiting) entry
fits-counted span holder L tenure number note waiting counts_so own (Tenure h base claim) fits = tt
fits-counted span holder L tenure number note waiting counts_so own (Own t n text) fits = (
  omega (arith, fits.0),
  λ held current above.
      let same : tenure ≡ t = sym own.current ∙ current in
      let now_counted : counted span t (L ▹ Own tenure number note) ≡ number =
      ap (λ (p : ℕ). counted span p (L ▹ Own tenure number note)) (sym same) ∙ then-counted span tenure number note L counts_so in
      let before : counted span t L + 1 ≡ number = ap (λ (p : ℕ). counted span p L + 1) (sym same) ∙ sym own.next in
      let k : suc (n - counted span t (L ▹ Own tenure number note) - 1) ≡ n - counted span t L - 1 = omega (arith, now_counted, before, above) in
      ap (λ (notes : List Note). slice_get notes (n - counted span t (L ▹ Own tenure number note) - 1)) (sym (drop-map (λ (c : Call). c.note) 1 waiting))
      ∙ get-drop1 (notes_of waiting) (n - counted span t (L ▹ Own tenure number note) - 1)
      ∙ ap (slice_get (notes_of waiting)) k
      ∙ fits.1 held current (omega (arith, above, now_counted, before)),
)
fits-counted span holder L tenure number note waiting counts_so own (Foreign text) fits = tt

own-heard : (span : ℕ) (s : SenderState) (calls : List Call) (handed : List Entry) (L : Log) (tenure number : ℕ) (note : Note) → counts span L tenure number ≡ true
    → is_held_by s.holder (holder_at tenure L) ≡ true → Contains handed (Own tenure number note) → Serves span s calls handed L
    → Serves span (answered s number) calls handed (L ▹ Own tenure number note)
own-heard span s calls handed L tenure number note counts_so held_so was_handed serves =
    let holder = s.holder in
    let own = own-is span holder L tenure number counts_so held_so in
    let fits = All-contains (Fits span holder L s.waiting) handed (Own tenure number note) serves.fits was_handed in
    let first : number - counted span tenure L - 1 ≡ 0 = omega (arith, own.next) in
    let first_note = ap (slice_get (notes_of s.waiting)) (sym first) ∙ fits.1 own.held own.current (omega (arith, own.next)) in
    let waits = oldest s.waiting note first_note in
    let mine = own_notes span holder L in
    let more : own_notes span holder (L ▹ Own tenure number note) ≡ mine ++ note ∷ [] =
    cond-true (is_own span holder L tenure number) (mine ++ note ∷ []) mine (and_from (counts span L tenure number) (is_held_by holder (holder_at tenure L)) counts_so held_so) in
    record {
      exact = ap (λ (notes : List Note). notes ++ notes_of (drop 1 s.waiting)) more
          ∙ append_assoc mine (note ∷ []) (notes_of (drop 1 s.waiting))
          ∙ ap (λ (notes : List Note). mine ++ notes) (sym waits)
          ∙ serves.exact;
      waits = ap (drop 1) serves.waits ∙ drop-drop 1 (length mine) calls
          ∙ ap (λ (n : ℕ). drop n calls) (sym (length_push mine note) ∙ ap length (sym more));
      fits = All-weaker (Fits span holder L s.waiting) (Fits span holder (L ▹ Own tenure number note) (drop 1 s.waiting)) (λ entry so. fits-counted span holder L tenure number note s.waiting counts_so own entry so) handed serves.fits;
      owns = λ place is. let owns = serves.owns place is in record {
        current = owns.current;
        held = owns.held;
        number_is = ap (λ (p : ℕ). counted span p (L ▹ Own tenure number note)) (sym owns.current ∙ own.current) ∙ then-counted span tenure number note L counts_so;
      };
    }

-- WHATEVER WAS READ

pub serves-heard : (span : ℕ) (s : SenderState) (calls : List Call) (handed : List Entry) (L : Log) (entry : Entry) → IsHanded span s.holder handed L entry → Serves span s calls handed L
    → Serves span (heard s (entries L + 1) entry (standing span L entry)) calls handed (L ▹ entry)
serves-heard span s calls handed L (Foreign text) is_handed serves = serves-foreign span s calls handed L text serves
serves-heard span s calls handed L (Tenure other base claim) is_handed serves = by (opens span L other.node base) refl
  where
    by : (b : Bool) → opens span L other.node base ≡ b → Serves span (heard s (entries L + 1) (Tenure other base claim) (cond b Opens Void)) calls handed (L ▹ Tenure other base claim)
    by true opens_so = tenure-heard span s calls handed L other base claim opens_so serves
    by false void = tenure-void span s calls handed L other base claim void serves
serves-heard span s calls handed L (Own tenure number note) is_handed serves = by (counts span L tenure number) refl
  where
    held : (b : Bool) → is_held_by s.holder (holder_at tenure L) ≡ b → counts span L tenure number ≡ true
        → Serves span (cond b (answered s number) s) calls handed (L ▹ Own tenure number note)
    held true held_so counts_so = own-heard span s calls handed L tenure number note counts_so held_so
        (is_handed (and_from (counts span L tenure number) (is_held_by s.holder (holder_at tenure L)) counts_so held_so)) serves
    held false unheld counts_so = serves-other span s calls handed L tenure number note (and_right (counts span L tenure number) (is_held_by s.holder (holder_at tenure L)) unheld) serves

    by : (b : Bool) → counts span L tenure number ≡ b
        → Serves span (heard s (entries L + 1) (Own tenure number note) (cond b (Counts (holder_at tenure L) (known span L)) Void)) calls handed (L ▹ Own tenure number note)
    by true counts_so = held (is_held_by s.holder (holder_at tenure L)) refl counts_so
    by false void = serves-asking span s calls handed (L ▹ Own tenure number note)
        (serves-other span s calls handed L tenure number note (and_left (counts span L tenure number) (is_held_by s.holder (holder_at tenure L)) void) serves)
        (is_missed s s.tenure tenure number)

-- the oldest call that waits is the next one behind those that count
pub told-right : (span : ℕ) (s : SenderState) (calls : List Call) (handed : List Entry) (L : Log) (entry : Entry) → Serves span s calls handed L
    → told s entry (standing span L entry) ≡ answer span s.holder calls L entry
told-right span s calls handed L (Foreign text) serves = refl
told-right span s calls handed L (Tenure other base claim) serves = refl
told-right span s calls handed L (Own tenure number note) serves = by (counts span L tenure number)
  where
    here : slice_get s.waiting 0 ≡ slice_get calls (length (own_notes span s.holder L))
    here = ap (λ (w : List Call). slice_get w 0) serves.waits ∙ get-drop (length (own_notes span s.holder L)) calls

    by : (b : Bool) → told s (Own tenure number note) (cond b (Counts (holder_at tenure L) (known span L)) Void)
        ≡ cond (b && is_held_by s.holder (holder_at tenure L)) (option_map (λ (call : Call). call.ticket) (slice_get calls (length (own_notes span s.holder L)))) None
    by true = ap (λ (o : Option Call). cond (is_held_by s.holder (holder_at tenure L)) (option_map (λ (call : Call). call.ticket) o) None) here
    by false = refl

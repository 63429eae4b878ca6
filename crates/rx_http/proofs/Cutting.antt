-- A stream that is cut behind any byte.
use Rattle.std.proofs.Common.{◌≡◌, ℕ, ◌^◌, ◌<◌, ◌==◌, ◌⊎◌, inl, inr, Bool, true, false, cond, List, [], ◌∷◌, ◌++◌, codes, decimal, Option, None, Some, refl, sym, ap, subst, ◌∙◌, append-nil, append_assoc, arith}
use Rattle.rx_proto.specs.Reading.{same_word}
use Rattle.rx_http.specs.Epochs.{IsEpoch}
use Rattle.rx_http.specs.Events.{saying_of, event_bytes}
use Rattle.rx_http.specs.Laws.{Piece, Event, Retry, Heartbeat, ArePieces, CutStreamIsAFront, id_behind, last_id_of, message_of, messages_of, stream_of}
use Rattle.rx_http.specs.Pieces.{Saying, heartbeat_line, id_line, kind_line, retry_line, saying_bytes, text_lines}
use Rattle.rx_http.specs.Reading.{Message, Reader, byte_read, field_read, has_nul, line_read, name_of, read, value_of}
use Rattle.rx_http.proofs.Back.{CanBeTold, IsPlainId, between, inside, plain-byte, read-parts, saying_back}
use Rattle.rx_http.proofs.Plain.{IsOneLine, IsPlain, decimal-seen, seen-plain}
use Rattle.rx_http.proofs.Streams.{retry_back}
use Rattle.rx_http.proofs.Telling.{event-told}

-- NO LINE OF THESE BYTES IS EMPTY BUT THE LAST ONE

abbrev is_empty : List ℕ → Bool
is_empty [] = true
is_empty (byte ∷ line) = false

-- bytes behind a line so far, which is empty or not, that have no CR, and no empty line but by their last byte
abbrev EndsOnce : Bool → List ℕ → Type 0
EndsOnce empty [] = Unit {0}
EndsOnce empty (byte ∷ bytes) = ((byte == 13) ≡ false) × cond (byte == 10) (cond empty (bytes ≡ []) (EndsOnce true bytes)) (EndsOnce false bytes)

once-byte : (empty : Bool) (byte : ℕ) (bytes : List ℕ) → (byte == 10) ≡ false → (byte == 13) ≡ false → EndsOnce false bytes → EndsOnce empty (byte ∷ bytes)
once-byte empty byte bytes no_lf no_cr behind = (no_cr, subst (λ (lf : Bool). cond lf (cond empty (bytes ≡ []) (EndsOnce true bytes)) (EndsOnce false bytes)) (sym no_lf) behind)

-- behind bytes that end no line
once-plain : (xs ys : List ℕ) → IsPlain xs → EndsOnce false ys → EndsOnce false (xs ++ ys)
once-plain [] ys plain behind = behind
once-plain (byte ∷ xs) ys plain behind = once-byte false byte (xs ++ ys) plain.0 plain.1 (once-plain xs ys plain.2 behind)

once-text_byte : (cr : Bool) (byte : ℕ) (bytes : List ℕ) → (byte == 13) ≡ cr → (byte == 10) ≡ false → EndsOnce false bytes → EndsOnce false (cond cr (codes "\ndata: ") (byte ∷ []) ++ bytes)
once-text_byte true byte bytes here no_lf behind = (refl, (refl, (refl, (refl, (refl, (refl, (refl, behind)))))))
once-text_byte false byte bytes here no_lf behind = once-byte false byte bytes no_lf here behind

-- behind the lines of a text
once-text : (text ys : List ℕ) → IsOneLine text → EndsOnce false ys → EndsOnce false (text_lines text ++ ys)
once-text [] ys one behind = behind
once-text (byte ∷ text) ys one behind =
    subst (EndsOnce false) (sym (append_assoc (cond (byte == 13) (codes "\ndata: ") (byte ∷ [])) (text_lines text) ys))
    (once-text_byte (byte == 13) byte (text_lines text ++ ys) refl one.0 (once-text text ys one.1 behind))

once-id : (id : Option (List ℕ)) (ys : List ℕ) → IsPlainId id → EndsOnce true ys → EndsOnce true (id_line id ++ ys)
once-id None ys plain behind = behind
once-id (Some id) ys plain behind = (
  refl,
  (
    refl,
    (
      refl,
      (
        refl,
        subst (EndsOnce false) (sym (append_assoc id (codes "\n") ys)) (once-plain id (codes "\n" ++ ys) plain.0 (refl, behind)),
      ),
    ),
  ),
)

once-kind : (kind ys : List ℕ) → IsPlain kind → EndsOnce false ys → EndsOnce true (kind_line kind ++ ys)
once-kind kind ys plain behind = (
  refl,
  (
    refl,
    (
      refl,
      (
        refl,
        (
          refl,
          (
            refl,
            (
              refl,
              subst (EndsOnce false) (sym (append_assoc kind (codes "\ndata: ") ys))
                  (once-plain kind (codes "\ndata: " ++ ys) plain (refl, (refl, (refl, (refl, (refl, (refl, (refl, behind)))))))),
            ),
          ),
        ),
      ),
    ),
  ),
)

once-saying : (saying : Saying) → CanBeTold saying → EndsOnce true (saying_bytes saying)
once-saying saying can =
    once-id saying.id (kind_line saying.kind ++ (text_lines saying.text ++ codes "\n\n")) can.id
    (once-kind saying.kind (text_lines saying.text ++ codes "\n\n") can.kind
    (once-text saying.text (codes "\n\n") can.text (refl, (refl, refl))))

once-retry : (ms : ℕ) → ms < 2 ^ 32 → EndsOnce true (retry_line ms)
once-retry ms fits = (
  refl,
  (
    refl,
    (
      refl,
      (
        refl,
        (
          refl,
          (
            refl,
            (
              refl,
              once-plain (decimal ms) (codes "\n") (seen-plain (decimal ms) (decimal-seen ms (omega arith))) (refl, tt),
            ),
          ),
        ),
      ),
    ),
  ),
)

-- A READER BEFORE THE LAST BYTE

-- a reader that was told no message since, and comes again with this id
abbrev IsQuiet : List Message → List ℕ → Reader → Type 0
IsQuiet messages last_id r = (r.messages ≡ messages) × (r.last_id ≡ last_id)

-- a field tells no message
pub record IsField (r : Reader) (last_id : List ℕ) (messages : List Message) : Type 0 where
  pub id : List ℕ
  pub kind : List ℕ
  pub lines : List ℕ
  pub is : r ≡ inside [] id kind lines last_id messages

field-by : (is_data is_event is_id nul : Bool) (value id kind lines last_id : List ℕ) (messages : List Message)
    → let r = inside [] id kind lines last_id messages in
    IsField (cond is_data (record r { lines = lines ++ (value ++ 10 ∷ []) }) (cond is_event (record r { kind = value }) (cond is_id (cond nul r (record r { id = value })) r))) last_id messages
field-by true is_event is_id nul value id kind lines last_id messages = record { id = id; kind = kind; lines = lines ++ (value ++ 10 ∷ []); is = refl }
field-by false true is_id nul value id kind lines last_id messages = record { id = id; kind = value; lines = lines; is = refl }
field-by false false true true value id kind lines last_id messages = record { id = id; kind = kind; lines = lines; is = refl }
field-by false false true false value id kind lines last_id messages = record { id = value; kind = kind; lines = lines; is = refl }
field-by false false false nul value id kind lines last_id messages = record { id = id; kind = kind; lines = lines; is = refl }

field-told : (name value id kind lines last_id : List ℕ) (messages : List Message) → IsField (field_read name value (inside [] id kind lines last_id messages)) last_id messages
field-told name value id kind lines last_id messages =
    field-by (same_word name (codes "data")) (same_word name (codes "event")) (same_word name (codes "id")) (has_nul value) value id kind lines last_id messages

not_empty : (line : List ℕ) (byte : ℕ) → is_empty (line ++ byte ∷ []) ≡ false
not_empty [] byte = refl
not_empty (first ∷ line) byte = refl

-- what a byte before the last one leaves to show
abbrev Goes : List ℕ → List Message → List ℕ → Type 0
Goes bytes messages last_id =
    (line id kind lines : List ℕ) (z : ℕ) (zs : List ℕ) → EndsOnce (is_empty line) (bytes ++ z ∷ zs) → IsQuiet messages last_id (read bytes (inside line id kind lines last_id messages))

quiet-lf : (line id kind lines last_id : List ℕ) (messages : List Message) (bytes : List ℕ) (z : ℕ) (zs : List ℕ)
    → cond (is_empty line) (bytes ++ z ∷ zs ≡ []) (EndsOnce true (bytes ++ z ∷ zs)) → Goes bytes messages last_id
    → IsQuiet messages last_id (read bytes (line_read line (inside line id kind lines last_id messages)))
quiet-lf [] id kind lines last_id messages [] z zs once goes = cc
quiet-lf [] id kind lines last_id messages (byte ∷ bytes) z zs once goes = cc
quiet-lf (first ∷ line) id kind lines last_id messages bytes z zs once goes =
    let field = field-told (name_of (first ∷ line)) (value_of (first ∷ line)) id kind lines last_id messages in
    subst (λ (r : Reader). IsQuiet messages last_id (read bytes r)) (sym field.is) (goes [] field.id field.kind field.lines z zs once)

quiet-byte : (lf : Bool) (byte : ℕ) (line id kind lines last_id : List ℕ) (messages : List Message) (bytes : List ℕ) (z : ℕ) (zs : List ℕ) → (byte == 10) ≡ lf → (byte == 13) ≡ false
    → cond lf (cond (is_empty line) (bytes ++ z ∷ zs ≡ []) (EndsOnce true (bytes ++ z ∷ zs))) (EndsOnce false (bytes ++ z ∷ zs)) → Goes bytes messages last_id
    → IsQuiet messages last_id (read bytes (byte_read byte (inside line id kind lines last_id messages)))
quiet-byte true byte line id kind lines last_id messages bytes z zs is_lf no_cr once goes =
    let r = inside line id kind lines last_id messages in
    let others = cond (byte == 13) (record (line_read line r) { behind_cr = true }) (inside (line ++ byte ∷ []) id kind lines last_id messages) in
    subst (λ (lf : Bool). IsQuiet messages last_id (read bytes (cond lf (line_read line r) others))) (sym is_lf)
    (quiet-lf line id kind lines last_id messages bytes z zs once goes)
quiet-byte false byte line id kind lines last_id messages bytes z zs no_lf no_cr once goes =
    subst (λ (r : Reader). IsQuiet messages last_id (read bytes r)) (sym (plain-byte byte line id kind lines last_id messages no_lf no_cr))
    (goes (line ++ byte ∷ []) id kind lines z zs (subst (λ (empty : Bool). EndsOnce empty (bytes ++ z ∷ zs)) (sym (not_empty line byte)) once))

quiet : (bytes last_id : List ℕ) (messages : List Message) → Goes bytes messages last_id
quiet [] last_id messages line id kind lines z zs once = (refl, refl)
quiet (byte ∷ bytes) last_id messages line id kind lines z zs once =
    quiet-byte (byte == 10) byte line id kind lines last_id messages bytes z zs refl once.0 once.1 (quiet bytes last_id messages)

-- A STREAM THAT IS CUT

-- where two parts are cut: behind the first, or in it
split : (xs ys come back : List ℕ) → xs ++ ys ≡ come ++ back
    → ((rest : List ℕ) × (come ≡ xs ++ rest) × (ys ≡ rest ++ back)) ⊎ ((z : ℕ) × (zs : List ℕ) × (xs ≡ come ++ z ∷ zs))
split [] ys come back parts = inl (come, refl, parts)
split (x ∷ xs) ys [] back parts = inr (x, xs, refl)
split (x ∷ xs) ys (c ∷ come) back parts =
    let head : x ≡ c = cc in
    let tail : xs ++ ys ≡ come ++ back = cc in
    elim (split xs ys come back tail) [
      | inl w ↦ inl (w.0, ap (λ l. c ∷ l) w.1 ∙ ap (λ b. b ∷ (xs ++ w.0)) (sym head), w.2)
      | inr w ↦ inr (w.0, w.1, ap (λ l. x ∷ l) w.2 ∙ ap (λ b. b ∷ (come ++ w.0 ∷ w.1)) head)
    ]

-- what a reader was told since it had these messages is a front of others, and it comes again with the id of the last
pub record IsToldSince (messages : List Message) (last_id : List ℕ) (others : List Message) (r : Reader) : Type 0 where
  pub new : List Message
  pub rest : List Message
  pub told : r.messages ≡ messages ++ new
  pub front : others ≡ new ++ rest
  pub last_id_is : r.last_id ≡ last_id_of last_id new

told-none : (messages : List Message) (last_id : List ℕ) (others : List Message) (r : Reader) → IsQuiet messages last_id r → IsToldSince messages last_id others r
told-none messages last_id others r none = record { new = []; rest = others; told = none.0 ∙ sym (append-nil messages); front = refl; last_id_is = none.1 }

-- behind one message more
told-more : (messages : List Message) (last_id : List ℕ) (message : Message) (others : List Message) (r : Reader)
    → IsToldSince (messages ++ message ∷ []) message.id others r → IsToldSince messages last_id (message ∷ others) r
told-more messages last_id message others r since = record {
  new = message ∷ since.new;
  rest = since.rest;
  told = since.told ∙ append_assoc messages (message ∷ []) since.new;
  front = ap (λ l. message ∷ l) since.front;
  last_id_is = since.last_id_is;
}

-- a piece that came in part
in-part : (bytes come : List ℕ) (z : ℕ) (zs id last_id : List ℕ) (messages others : List Message) → EndsOnce true bytes → bytes ≡ come ++ z ∷ zs
    → IsToldSince messages last_id others (read come (between id last_id messages))
in-part bytes come z zs id last_id messages others once parts =
    told-none messages last_id others (read come (between id last_id messages)) (quiet come last_id messages [] id [] [] z zs (subst (EndsOnce true) parts once))

-- a piece that came whole
whole : (bytes come rest : List ℕ) (before behind : Reader) (messages : List Message) (last_id : List ℕ) (others : List Message) → come ≡ bytes ++ rest → read bytes before ≡ behind
    → IsToldSince messages last_id others (read rest behind) → IsToldSince messages last_id others (read come before)
whole bytes come rest before behind messages last_id others parts here since =
    subst (IsToldSince messages last_id others) (sym (ap (λ l. read l before) parts ∙ read-parts bytes rest before ∙ ap (read rest) here)) since

cut : (epoch : List ℕ) (pieces : List Piece) (come back id last_id : List ℕ) (messages : List Message) → IsEpoch epoch → ArePieces pieces → stream_of epoch pieces ≡ come ++ back
    → IsToldSince messages last_id (messages_of epoch id pieces) (read come (between id last_id messages))
cut epoch [] [] back id last_id messages is are parts = told-none messages last_id [] (between id last_id messages) (refl, refl)
cut epoch [] (byte ∷ come) back id last_id messages is are parts = cc
cut epoch (Event event ∷ pieces) come back id last_id messages is are parts =
    let says = saying_of epoch event in
    let behind = id_behind id says.id in
    let message = message_of id says in
    let others = messages_of epoch behind pieces in
    let can = event-told epoch event is are.0 in
    elim (split (event_bytes epoch event) (stream_of epoch pieces) come back parts) [
      | inl w ↦ whole (event_bytes epoch event) come w.0 (between id last_id messages) (between behind behind (messages ++ message ∷ [])) messages last_id (message ∷ others) w.1
          (saying_back says id last_id messages can)
          (told-more messages last_id message others (read w.0 (between behind behind (messages ++ message ∷ []))) (cut epoch pieces w.0 back behind behind (messages ++ message ∷ []) is are.1 w.2))
      | inr w ↦ in-part (event_bytes epoch event) come w.0 w.1 id last_id messages (message ∷ others) (once-saying says can) w.2
    ]
cut epoch (Retry ms ∷ pieces) come back id last_id messages is are parts =
    elim (split (retry_line ms) (stream_of epoch pieces) come back parts) [
      | inl w ↦ whole (retry_line ms) come w.0 (between id last_id messages) (between id last_id messages) messages last_id (messages_of epoch id pieces) w.1
          (retry_back ms id last_id messages are.0) (cut epoch pieces w.0 back id last_id messages is are.1 w.2)
      | inr w ↦ in-part (retry_line ms) come w.0 w.1 id last_id messages (messages_of epoch id pieces) (once-retry ms are.0) w.2
    ]
cut epoch (Heartbeat ∷ pieces) come back id last_id messages is are parts =
    elim (split heartbeat_line (stream_of epoch pieces) come back parts) [
      | inl w ↦ whole heartbeat_line come w.0 (between id last_id messages) (between id last_id messages) messages last_id (messages_of epoch id pieces) w.1
          refl (cut epoch pieces w.0 back id last_id messages is are w.2)
      | inr w ↦ in-part heartbeat_line come w.0 w.1 id last_id messages (messages_of epoch id pieces) (refl, (refl, tt)) w.2
    ]

pub cut_stream_is_a_front : CutStreamIsAFront
cut_stream_is_a_front epoch before come back pieces is are parts =
    let since = cut epoch pieces come back [] before [] is are parts in
    record {
      rest = since.rest;
      front = since.front ∙ ap (λ l. l ++ since.rest) (sym since.told);
      last_id = since.last_id_is ∙ ap (last_id_of before) (sym since.told);
    }

-- What is written of an event is read back.
use Rattle.std.proofs.Common.{◌≡◌, ℕ, ◌==◌, Bool, true, false, cond, List, [], ◌∷◌, ◌++◌, Option, None, Some, refl, sym, ap, ◌∙◌, append-nil, append_assoc}
use Rattle.std.specs.Prelude.{codes}
use Rattle.rx_http.specs.Laws.{with_lf, id_behind, message_of}
use Rattle.rx_http.specs.Pieces.{Saying, text_lines, id_line, kind_line, saying_bytes}
use Rattle.rx_http.proofs.Plain.{IsPlain, IsOneLine}
use Rattle.rx_http.specs.Reading.{Message, Reader, byte_read, read, line_read, dispatched, has_nul, kind_of, without_last}

-- several bytes, one part after the other
pub read-parts : (a b : List ℕ) (r : Reader) → read (a ++ b) r ≡ read b (read a r)
read-parts [] b r = refl
read-parts (byte ∷ a) b r = read-parts a b (byte_read byte r)

-- BYTES THAT END NO LINE

-- a reader in a line
abbrev pub inside : List ℕ → List ℕ → List ℕ → List ℕ → List ℕ → List Message → Reader
inside line id kind lines last_id messages =
    record { line = line; behind_cr = false; id = id; kind = kind; lines = lines; last_id = last_id; messages = messages }

-- a reader between two messages
abbrev pub between : List ℕ → List ℕ → List Message → Reader
between id last_id messages = inside [] id [] [] last_id messages

pub plain-byte : (byte : ℕ) (line id kind lines last_id : List ℕ) (messages : List Message) → (byte == 10) ≡ false → (byte == 13) ≡ false
    → byte_read byte (inside line id kind lines last_id messages) ≡ inside (line ++ byte ∷ []) id kind lines last_id messages
plain-byte byte line id kind lines last_id messages no_lf no_cr =
    let r = inside line id kind lines last_id messages in
    let behind = record (line_read line r) { behind_cr = true } in
    let on = inside (line ++ byte ∷ []) id kind lines last_id messages in
    ap (λ x. cond x (line_read line r) (cond (byte == 13) behind on)) no_lf ∙ ap (λ x. cond x behind on) no_cr

pub read-plain : (bytes line id kind lines last_id : List ℕ) (messages : List Message) → IsPlain bytes
    → read bytes (inside line id kind lines last_id messages) ≡ inside (line ++ bytes) id kind lines last_id messages
read-plain [] line id kind lines last_id messages plain = ap (λ l. inside l id kind lines last_id messages) (sym (append-nil line))
read-plain (byte ∷ bytes) line id kind lines last_id messages plain =
    ap (read bytes) (plain-byte byte line id kind lines last_id messages plain.0 plain.1)
    ∙ read-plain bytes (line ++ byte ∷ []) id kind lines last_id messages plain.2
    ∙ ap (λ l. inside l id kind lines last_id messages) (append_assoc line (byte ∷ []) bytes)

-- THE LINES OF THE ID AND OF THE KIND

id-told : (id before last_id : List ℕ) (messages : List Message) → has_nul id ≡ false
    → read (codes "\n") (inside (codes "id: " ++ id) before [] [] last_id messages) ≡ between id last_id messages
id-told id before last_id messages none = ap (λ x. cond x (between before last_id messages) (between id last_id messages)) none

id-read : (id before last_id : List ℕ) (messages : List Message) → IsPlain id → has_nul id ≡ false
    → read (id_line (Some id)) (between before last_id messages) ≡ between id last_id messages
id-read id before last_id messages plain none =
    read-parts id (codes "\n") (inside (codes "id: ") before [] [] last_id messages)
    ∙ ap (read (codes "\n")) (read-plain id (codes "id: ") before [] [] last_id messages plain)
    ∙ id-told id before last_id messages none

-- an id that can be told, or none
abbrev pub IsPlainId : Option (List ℕ) → Type 0
IsPlainId None = Unit {0}
IsPlainId (Some id) = IsPlain id × (has_nul id ≡ false)

id_line-read : (id : Option (List ℕ)) (before last_id : List ℕ) (messages : List Message) → IsPlainId id
    → read (id_line id) (between before last_id messages) ≡ between (id_behind before id) last_id messages
id_line-read None before last_id messages plain = refl
id_line-read (Some id) before last_id messages plain = id-read id before last_id messages plain.0 plain.1

kind_line-read : (kind id last_id : List ℕ) (messages : List Message) → IsPlain kind
    → read (kind_line kind) (between id last_id messages) ≡ inside (codes "data: ") id kind [] last_id messages
kind_line-read kind id last_id messages plain =
    read-parts kind (codes "\ndata: ") (inside (codes "event: ") id [] [] last_id messages)
    ∙ ap (read (codes "\ndata: ")) (read-plain kind (codes "event: ") id [] [] last_id messages plain)

-- THE TEXT

-- a message that is dispatched
abbrev told_by : List ℕ → List ℕ → List Message → List ℕ → Reader
told_by id kind messages text = between id id (messages ++ record { id = id; kind = kind_of kind; text = text } ∷ [])

without_last-end : (bytes : List ℕ) → without_last (bytes ++ 10 ∷ []) ≡ bytes
without_last-end [] = refl
without_last-end (byte ∷ []) = refl
without_last-end (byte ∷ next ∷ bytes) = ap (λ l. byte ∷ l) (without_last-end (next ∷ bytes))

-- an empty line behind lines of text
dispatched-told : (text id kind lines last_id : List ℕ) (messages : List Message)
    → dispatched (text ++ 10 ∷ []) (inside [] id kind lines last_id messages) ≡ told_by id kind messages text
dispatched-told [] id kind lines last_id messages = refl
dispatched-told (byte ∷ text) id kind lines last_id messages = ap (told_by id kind messages) (without_last-end (byte ∷ text))

text-next : (cr : Bool) (byte : ℕ) (text line id kind lines last_id : List ℕ) (messages : List Message) → (byte == 13) ≡ cr → (byte == 10) ≡ false
    → ((l d : List ℕ) → read (text_lines text ++ codes "\n\n") (inside (codes "data: " ++ l) id kind d last_id messages)
    ≡ told_by id kind messages (d ++ (l ++ with_lf text)))
    → read ((cond cr (codes "\ndata: ") (byte ∷ []) ++ text_lines text) ++ codes "\n\n") (inside (codes "data: " ++ line) id kind lines last_id messages)
    ≡ told_by id kind messages (lines ++ (line ++ cond cr 10 byte ∷ with_lf text))
text-next true byte text line id kind lines last_id messages here no_lf rest =
    rest [] (lines ++ (line ++ 10 ∷ []))
    ∙ ap (told_by id kind messages) (append_assoc lines (line ++ 10 ∷ []) (with_lf text) ∙ ap (λ l. lines ++ l) (append_assoc line (10 ∷ []) (with_lf text)))
text-next false byte text line id kind lines last_id messages here no_lf rest =
    ap (read (text_lines text ++ codes "\n\n")) (plain-byte byte (codes "data: " ++ line) id kind lines last_id messages no_lf here)
    ∙ rest (line ++ byte ∷ []) lines
    ∙ ap (λ l. told_by id kind messages (lines ++ l)) (append_assoc line (byte ∷ []) (with_lf text))

text-read : (text line id kind lines last_id : List ℕ) (messages : List Message) → IsOneLine text
    → read (text_lines text ++ codes "\n\n") (inside (codes "data: " ++ line) id kind lines last_id messages)
    ≡ told_by id kind messages (lines ++ (line ++ with_lf text))
text-read [] line id kind lines last_id messages one =
    dispatched-end lines line id kind last_id messages
    ∙ ap (λ l. told_by id kind messages (lines ++ l)) (sym (append-nil line))
  where
    dispatched-end : (lines line id kind last_id : List ℕ) (messages : List Message)
        → dispatched (lines ++ (line ++ 10 ∷ [])) (inside [] id kind (lines ++ (line ++ 10 ∷ [])) last_id messages) ≡ told_by id kind messages (lines ++ line)
    dispatched-end lines line id kind last_id messages =
        ap (λ l. dispatched l (inside [] id kind (lines ++ (line ++ 10 ∷ [])) last_id messages)) (sym (append_assoc lines line (10 ∷ [])))
        ∙ dispatched-told (lines ++ line) id kind (lines ++ (line ++ 10 ∷ [])) last_id messages
text-read (byte ∷ text) line id kind lines last_id messages one =
    text-next (byte == 13) byte text line id kind lines last_id messages refl one.0 (λ l d. text-read text l id kind d last_id messages one.1)

-- THE MESSAGE

-- what a message says can be told
pub record CanBeTold (saying : Saying) : Type 0 where
  pub id : IsPlainId saying.id
  pub kind : IsPlain saying.kind
  pub named : kind_of saying.kind ≡ saying.kind
  pub text : IsOneLine saying.text

-- a reader between two messages is told by the bytes of one just that one
pub saying_back : (saying : Saying) (before last_id : List ℕ) (messages : List Message) → CanBeTold saying
    → read (saying_bytes saying) (between before last_id messages)
    ≡ between (id_behind before saying.id) (id_behind before saying.id) (messages ++ message_of before saying ∷ [])
saying_back saying before last_id messages can =
    let id = id_behind before saying.id in
    let behind = text_lines saying.text ++ codes "\n\n" in
    read-parts (id_line saying.id) (kind_line saying.kind ++ behind) (between before last_id messages)
    ∙ ap (read (kind_line saying.kind ++ behind)) (id_line-read saying.id before last_id messages can.id)
    ∙ read-parts (kind_line saying.kind) behind (between id last_id messages)
    ∙ ap (read behind) (kind_line-read saying.kind id last_id messages can.kind)
    ∙ text-read saying.text [] id saying.kind [] last_id messages can.text
    ∙ ap (λ kind. between id id (messages ++ record { id = id; kind = kind; text = with_lf saying.text } ∷ [])) can.named

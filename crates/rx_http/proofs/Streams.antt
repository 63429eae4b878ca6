-- A stream is read back as its messages, piece by piece.
use Rattle.std.proofs.Common.{◌≡◌, ℕ, ◌^◌, ◌<◌, List, [], ◌∷◌, ◌++◌, codes, decimal, sym, ap, ◌∙◌, append-nil, append_assoc, arith}
use Rattle.rx_http.specs.Epochs.{IsEpoch}
use Rattle.rx_http.specs.Events.{saying_of, event_bytes}
use Rattle.rx_http.specs.Laws.{Piece, Event, Retry, Heartbeat, ArePieces, StreamIsReadBack, id_behind, message_of, messages_of, stream_of}
use Rattle.rx_http.specs.Pieces.{retry_line}
use Rattle.rx_http.specs.Reading.{Message, Reader, read}
use Rattle.rx_http.proofs.Back.{between, inside, read-parts, read-plain, saying_back}
use Rattle.rx_http.proofs.Plain.{decimal-seen, seen-plain}
use Rattle.rx_http.proofs.Telling.{event-told}

-- a reader is told nothing of when to come again
pub retry_back : (ms : ℕ) (id last_id : List ℕ) (messages : List Message) → ms < 2 ^ 32
    → read (retry_line ms) (between id last_id messages) ≡ between id last_id messages
retry_back ms id last_id messages fits =
    read-parts (decimal ms) (codes "\n") (inside (codes "retry: ") id [] [] last_id messages)
    ∙ ap (read (codes "\n")) (read-plain (decimal ms) (codes "retry: ") id [] [] last_id messages (seen-plain (decimal ms) (decimal-seen ms (omega arith))))

stream_back : (epoch : List ℕ) (pieces : List Piece) (id last_id : List ℕ) (messages : List Message) → IsEpoch epoch → ArePieces pieces
    → (read (stream_of epoch pieces) (between id last_id messages)).messages ≡ messages ++ messages_of epoch id pieces
stream_back epoch [] id last_id messages is are = sym (append-nil messages)
stream_back epoch (Event event ∷ pieces) id last_id messages is are =
    let says = saying_of epoch event in
    let behind = id_behind id says.id in
    let here = message_of id says in
    ap (λ (r : Reader). r.messages) (read-parts (event_bytes epoch event) (stream_of epoch pieces) (between id last_id messages)
    ∙ ap (read (stream_of epoch pieces)) (saying_back says id last_id messages (event-told epoch event is are.0)))
    ∙ stream_back epoch pieces behind behind (messages ++ here ∷ []) is are.1
    ∙ append_assoc messages (here ∷ []) (messages_of epoch behind pieces)
stream_back epoch (Retry ms ∷ pieces) id last_id messages is are =
    ap (λ (r : Reader). r.messages) (read-parts (retry_line ms) (stream_of epoch pieces) (between id last_id messages)
    ∙ ap (read (stream_of epoch pieces)) (retry_back ms id last_id messages are.0))
    ∙ stream_back epoch pieces id last_id messages is are.1
stream_back epoch (Heartbeat ∷ pieces) id last_id messages is are = stream_back epoch pieces id last_id messages is are

pub stream_is_read_back : StreamIsReadBack
stream_is_read_back epoch before pieces is are = stream_back epoch pieces [] before [] is are

-- What is asked of a server by HTTP, and what is written of its answer (RFC 9112; which answer is asked for is this project's own rule).
use Rattle.std.specs.Prelude.{◌≡◌, ◌≢◌, ◌⊎◌, ◌++◌, ℕ, List, [], ◌∷◌, length, map, codes, decimal, if◌then◌else◌, Option, None, Some, Result, Ok}
use Rattle.std.specs.Io.KnownBytes.{Consumes}
use Rattle.std.specs.Str.{str_to_ascii_lowercase}
use Rattle.httparse.specs.Grammar.{ResponseHead, ReadsResponse, status_code}
use Rattle.httparse.specs.Spans.{name_and_value}
use Rattle.rx_proto.specs.Bytes.{Writes}
use Rattle.rx_proto.specs.Reading.{same_word}
use Rattle.rx_client.specs.declared.format.Format.{Format}
use Rattle.rx_client.specs.declared.format.Format.TheVariants.{Plain, Json}

-- the request for what is seen: in lines, or as JSON
abbrev pub look_request : Format → List ℕ
look_request Plain = codes "GET /stats.txt HTTP/1.1\r\nHost: rxline\r\nConnection: close\r\n\r\n"
look_request Json = codes "GET /stats HTTP/1.1\r\nHost: rxline\r\nConnection: close\r\n\r\n"

-- the request that a server stops within so many seconds
abbrev pub stop_request : ℕ → List ℕ
stop_request within = codes "POST /stop?within=" ++ decimal within ++ codes " HTTP/1.1\r\nHost: rxline\r\nContent-Length: 0\r\nConnection: close\r\n\r\n"

-- the value of the first field of this name, which is told in small letters: in a head they may be large too
abbrev pub first_named : List ℕ → List (List ℕ × List ℕ) → Option (List ℕ)
first_named name [] = None
first_named name (field ∷ fields) = if same_word (str_to_ascii_lowercase field.0) name then Some field.1 else first_named name fields

-- what came begins with an answer of this status and this body: as many bytes behind its head as that tells
pub record IsAnswer (wanted : ℕ) (came body : List ℕ) : Type 0 where
  pub head : ResponseHead
  pub rest : List ℕ
  pub reads : ReadsResponse came head (body ++ rest)
  pub status : status_code head ≡ wanted
  pub size : first_named (codes "content-length") (map name_and_value head.fields) ≡ Some (decimal (length body))

-- the body of the answer of the status that is wanted was read and written, or a front of it where the writer failed; or nothing was written
abbrev pub HandsOn : {E : Type 0} → ℕ → Result (Unit {0}) E → Option (List ℕ) → Option (List ℕ) → Option (List ℕ) → Option (List ℕ) → Type 0
HandsOn wanted result left left_new old new =
    ((came body : List ℕ) × Consumes left left_new came × IsAnswer wanted came body × Writes result old new body)
    ⊎ ((result ≢ Ok tt) × (new ≡ old))

-- the body of an answer of the status that is wanted was written, or a front of it where the writer failed; or nothing was written
abbrev pub ShowsAnswer : {E : Type 0} → ℕ → Result (Unit {0}) E → Option (List ℕ) → Option (List ℕ) → Type 0
ShowsAnswer wanted result old new =
    ((came body : List ℕ) × IsAnswer wanted came body × Writes result old new body)
    ⊎ ((result ≢ Ok tt) × (new ≡ old))

-- What a request's target says: a path, and behind a question mark a query of keys and values, parted by `&`. In a value `%XX`
-- is the byte that it says (RFC 3986, sections 2.1, 3.3 and 3.4).
use Rattle.std.specs.Option.{unwrap_or}
use Rattle.std.specs.Prelude.{◌≡◌, ℕ, List, [], ◌∷◌, ◌++◌, ◌==◌, ◌&&◌, Bool, true, false, if◌then◌else◌, Option, None, Some}
use Rattle.percent_encoding.specs.Percent.{percent_decode}
use Rattle.rx_proto.specs.Reading.{begins_with, rest_behind}

-- no such mark stands among the bytes
abbrev pub HasNo : ℕ → List ℕ → Type 0
HasNo mark [] = Unit {0}
HasNo mark (byte ∷ bytes) = ((byte == mark) ≡ false) × HasNo mark bytes

-- the bytes stand before the first of these marks, and the others behind it
pub record AreParted (mark : ℕ) (front rest bytes : List ℕ) : Type 0 where
  pub none : HasNo mark front
  pub parts : bytes ≡ front ++ (mark ∷ rest)

-- the bytes before the first of these marks, and those behind it; all of them and none, where there is no mark
abbrev pub cut_at : ℕ → List ℕ → List ℕ × List ℕ
cut_at mark [] = ([], [])
cut_at mark (byte ∷ bytes) = if byte == mark then ([], bytes) else (byte ∷ (cut_at mark bytes).0, (cut_at mark bytes).1)

-- the path of a target
abbrev pub path_of : List ℕ → List ℕ
path_of target = (cut_at 63 target).0

-- the query of a target
abbrev pub query_of : List ℕ → List ℕ
query_of target = (cut_at 63 target).1

-- the value behind the first key of this name, up to the next `&`; a key stands where a pair begins, and `key` has its `=`
abbrev pub value_from : Bool → List ℕ → List ℕ → Option (List ℕ)
value_from begins key [] = None
value_from begins key (byte ∷ bytes) =
    if begins && begins_with (byte ∷ bytes) key then Some (cut_at 38 (rest_behind (byte ∷ bytes) key)).0
    else value_from (byte == 38) key bytes

-- the same in a whole query
abbrev pub value_in : List ℕ → List ℕ → Option (List ℕ)
value_in key query = value_from true key query

-- the word of a key, or another one where the query has none
abbrev pub word_in : List ℕ → List ℕ → List ℕ → List ℕ
word_in key other query = percent_decode (unwrap_or (value_in key query) other)

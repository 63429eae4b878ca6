-- The ids by which a reader goes on where it was. The rules are this project's own.
--
-- The exact ids: `Id::read` answers an id exactly for the bytes by which one is told: an epoch, a place without leading zeros
-- if one is known, and whether the subject is over; `Id::known` is of how many items it tells.
use Rattle.std.specs.Prelude.{ℕ, List, [], ◌∷◌, ◌++◌, Bool, if◌then◌else◌, Option, None, Some, codes, decimal}
use Rattle.rx_http.specs.declared.id.Id.{Id}

-- the digits of a place, if there is one
abbrev pub place_digits : Option ℕ → List ℕ
place_digits None = []
place_digits (Some place) = decimal place

-- how the id of a reader ends, which knows that its subject is over or doesn't
abbrev pub over_word : Bool → List ℕ
over_word over = if over then codes "-over" else []

-- an id, by its parts
abbrev pub id_bytes : List ℕ → Option ℕ → Bool → List ℕ
id_bytes epoch place over = epoch ++ (45 ∷ (place_digits place ++ over_word over))

-- the bytes of an id
abbrev pub id_of : Id → List ℕ
id_of id = id_bytes id.epoch id.place id.over

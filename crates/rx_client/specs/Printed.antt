-- What is printed of what a follower tells (this project's own rule).
use Rattle.std.specs.Prelude.{◌≡◌, ◌+◌, ◌-◌, ◌/◌, ◌%◌, ◌==◌, ◌||◌, ◌++◌, ◌∷◌, [], ◌⊎◌, ℕ, List, codes, decimal, nat_lt, if◌then◌else◌}
use Rattle.std.specs.Str.{IsUtf8}
use Rattle.rx_client.specs.declared.format.Format.{Format}
use Rattle.rx_client.specs.declared.format.Format.TheVariants.{Plain, Json}
use Rattle.rx_client.specs.declared.told.Told.{Told}
use Rattle.rx_client.specs.declared.told.Told.TheVariants.{Item, Seed, Missed, MissedFrom, Lost, Overflow, Done, Failed}

-- PLAIN: the text of an item or a seed on a line, and nothing of the others

abbrev pub plain_text : Told → List ℕ
plain_text (Item place from text) = text.now ++ 10 ∷ []
plain_text (Seed text) = text.now ++ 10 ∷ []
plain_text _ = []

-- JSON

-- a hexadecimal digit
abbrev pub digit : ℕ → ℕ
digit value = if nat_lt value 10 then 48 + value else 97 + (value - 10)

-- a byte by two of them
abbrev pub hexed : ℕ → List ℕ
hexed byte = digit (byte / 16) ∷ digit (byte % 16) ∷ []

-- a byte of a text between quotes: quotes (34), the backslash (92) and control characters are escaped
abbrev pub quoted : ℕ → List ℕ
quoted byte =
    if byte == 34 || byte == 92 then 92 ∷ byte ∷ []
    else if nat_lt byte 32 then codes "\\u00" ++ hexed byte
    else byte ∷ []

-- each byte of a text so
abbrev pub each : (ℕ → List ℕ) → List ℕ → List ℕ
each f [] = []
each f (byte ∷ bytes) = f byte ++ each f bytes

-- a text between quotes
abbrev pub in_quotes : List ℕ → List ℕ
in_quotes text = codes "\"text\":\"" ++ each quoted text ++ 34 ∷ []

-- the bytes of a text in hexadecimal digits
abbrev pub in_hex : List ℕ → List ℕ
in_hex text = codes "\"hex\":\"" ++ each hexed text ++ 34 ∷ []

-- how a text is said: between quotes if it is UTF-8
abbrev pub Quotes : List ℕ → List ℕ → Type 0
Quotes text said = (IsUtf8 text × (said ≡ in_quotes text)) ⊎ ((¬ IsUtf8 text) × (said ≡ in_hex text))

-- members of an object, the last of which is this text's
abbrev pub WithText : List ℕ → List ℕ → List ℕ → Type 0
WithText before text members = (said : List ℕ) × Quotes text said × (members ≡ before ++ said)

-- the members of an item's object: its place, its port and its text
abbrev pub HasItem : ℕ → ℕ → List ℕ → List ℕ → Type 0
HasItem place from text members = WithText ((codes "{\"place\":" ++ decimal place) ++ (codes ",\"port\":" ++ decimal from) ++ codes ",") text members

-- an object without its last brace
abbrev pub HasMembers : Told → List ℕ → Type 0
HasMembers (Item place from text) members = HasItem place from text.now members
HasMembers (Seed text) members = WithText (codes "{\"place\":null,\"port\":null,") text.now members
HasMembers (Missed first last) members = members ≡ (codes "{\"missed\":" ++ decimal first) ++ (codes ",\"to\":" ++ decimal last)
HasMembers (MissedFrom first) members = members ≡ (codes "{\"missed\":" ++ decimal first) ++ codes ",\"to\":null"
HasMembers (Lost place) members = members ≡ codes "{\"lost\":" ++ decimal place
HasMembers Overflow members = members ≡ codes "{\"overflow\":true"
HasMembers Done members = members ≡ codes "{\"done\":true"
HasMembers (Failed text) members = WithText (codes "{\"failed\":true,") text.now members

-- an object on a line
abbrev pub PrintsJson : Told → List ℕ → Type 0
PrintsJson told line = (members : List ℕ) × HasMembers told members × (line ≡ members ++ codes "}\n")

-- what is printed of what is told
abbrev pub Prints : Format → Told → List ℕ → Type 0
Prints Plain told text = text ≡ plain_text told
Prints Json told text = PrintsJson told text

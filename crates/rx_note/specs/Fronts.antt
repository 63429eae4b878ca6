-- The bytes of a text for one who copies them by a fixed size.
use Rattle.std.specs.Prelude.{ℕ, ◌≤◌, List, take}
use Rattle.rx_note.specs.declared.front.Front.{Front}
use Rattle.rx_note.specs.declared.front.Front.TheVariants.{UpTo20, UpTo56, Whole}

-- the bytes that count
abbrev pub front_bytes : Front → List ℕ
front_bytes (UpTo20 bytes len) = take len bytes.now
front_bytes (UpTo56 bytes len) = take len bytes.now
front_bytes (Whole bytes) = bytes.now

-- no more bytes count than stand there
abbrev pub IsFront : Front → Type 0
IsFront (UpTo20 bytes len) = len ≤ 20
IsFront (UpTo56 bytes len) = len ≤ 56
IsFront (Whole bytes) = Unit {0}

-- The limits of a kind. They are this project's own.
use Rattle.std.specs.Prelude.{ℕ, ◌&&◌, not, nat_le, Bool, true, Option, None, Some, Result, Ok, Err, if◌then◌else◌}
use Rattle.rx_note.specs.declared.kind.Kind.{Kind}
use Rattle.rx_note.specs.declared.kind.Kind.TheVariants.{Publish, Behavior, Async, Replay}
use Rattle.rx_note.specs.declared.kind.KindError.{KindError}
use Rattle.rx_note.specs.declared.kind.KindError.TheVariants.{BadCount, BadAge}

-- whether a count is 1 to 4,096, or none
abbrev pub is_count : Option ℕ → Bool
is_count None = true
is_count (Some count) = nat_le 1 count && nat_le count 4096

-- whether an age is at least 1 millisecond, or none
abbrev pub is_age : Option ℕ → Bool
is_age None = true
is_age (Some age) = nat_le 1 age

-- that a kind is in its limits, or which of them it is out of
abbrev pub kind_checked : Kind → Result Unit KindError
kind_checked Publish = Ok tt
kind_checked (Behavior seed) = Ok tt
kind_checked Async = Ok tt
kind_checked (Replay count age) = if not (is_count count) then Err BadCount else (if not (is_age age) then Err BadAge else Ok tt)

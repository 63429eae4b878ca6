-- What a policy is: a strategy and an error mode.
use Rattle.std.specs.Prelude.{◌&&◌, nat_le, Bool, true, Result, Ok, Err, if◌then◌else◌}
use Rattle.rx_note.specs.declared.strategy.Strategy.{Strategy}
use Rattle.rx_note.specs.declared.strategy.Strategy.TheVariants.{Buffer, Drop, Latest, Bounded}
use Rattle.rx_note.specs.declared.errors.Errors.{Errors}
use Rattle.rx_note.specs.declared.policy.BadRoom.{BadRoom}

-- the two choices of an observer
pub record Choice : Type 0 where
  pub strategy : Strategy
  pub errors : Errors

-- the choice of these two
abbrev pub choice : Strategy → Errors → Choice
choice strategy errors = record { strategy = strategy; errors = errors }

-- whether the room of a strategy is in its limits: 0 to 1,024 items, of Latest at least 1
abbrev pub is_in_limits : Strategy → Bool
is_in_limits Buffer = true
is_in_limits (Drop room) = nat_le room 1024
is_in_limits (Latest room) = nat_le 1 room && nat_le room 1024
is_in_limits (Bounded room) = nat_le room 1024

-- the policy made of these two, or that the room is out of its limits
abbrev pub policy_made : Strategy → Errors → Result Choice BadRoom
policy_made strategy errors = if is_in_limits strategy then Ok (choice strategy errors) else Err (record {})

use Rattle.std.proofs.Common.{◌≡◌, ◌≤◌, length, take, drop}
use Rattle.std.specs.List.{filter}
use Rattle.rx_history.proofs.Leaving.{stays}
use Rattle.rx_history.proofs.roster.Roster.leave.Given as goal

abbrev pub invariant-loop-place : goal.invariant-loop-place
invariant-loop-place l = record {
  behind : l.kept ≤ l.place;
  within : l.place ≤ l.self-inside.count;
  same_joins : l.self-inside.joins ≡ l.initial.self-inside.joins;
  same_count : l.self-inside.count ≡ l.initial.self-inside.count;
  full : length l.self-inside.numbers ≡ 64;
  kept_are : take l.kept l.self-inside.numbers ≡ filter (stays l.fn.who) (take l.place l.initial.self-inside.numbers);
  rest_is : drop l.place l.self-inside.numbers ≡ drop l.place l.initial.self-inside.numbers;
}

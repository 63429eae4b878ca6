use Rattle.std.proofs.Common.{◌≡◌, ◌≤◌, ◌+◌, ◌*◌, ◌++◌, [], drop, length}
use Rattle.rx_http.proofs.Joined.{behind}
use Rattle.rx_http.proofs.answer.placed_body.put_places.Given as goal

-- what is put and what is left are all of them
abbrev pub invariant-loop-place : goal.invariant-loop-place
invariant-loop-place l = record {
  parts : l.body ++ behind l.comma (drop l.place-index l.places) ≡ l.initial.body ++ behind [] l.places;
  room : length l.body ≤ 400 + 11 * l.place-index;
  comma : length l.comma ≤ 1;
}

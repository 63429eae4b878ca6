use Rattle.std.proofs.Common.{◌≡◌, ◌++◌, ℕ, List, length}
use Rattle.rx_http.specs.BodyLines.{lines_of}
use Rattle.rx_desk.specs.LineEmissions.{Accepts}
use Rattle.rx_desk.proofs.event_desk.EventDesk.emit_each.Given as goal

-- the lines before those that are left were accepted, and there their items stand
abbrev pub invariant-loop : goal.invariant-loop
invariant-loop g l = record {
  accepted : (front : List (List ℕ)) × (lines_of l.fn.body ≡ front ++ lines_of l.rest) × Accepts g.M.Moments.tells l.initial.self front l.places l.self l.place;
  count : length l.places ≡ l.counter;
  subjects : length l.self.session.subjects ≡ length l.initial.self.session.subjects;
}

use Rattle.std.proofs.Common.{◌≡◌, ◌+◌, length}
use Rattle.std.specs.List.{AllByRecursion}
use Rattle.rx_http.specs.BodyLines.{IsShort, lines_of}
use Rattle.rx_http.proofs.request.body_lines.are_texts.Given as goal

-- all lines are texts where those that are left are
abbrev pub invariant-loop : goal.invariant-loop
invariant-loop l = record {
  short : AllByRecursion IsShort (lines_of l.rest) → AllByRecursion IsShort (lines_of l.body);
  each : AllByRecursion IsShort (lines_of l.body) → AllByRecursion IsShort (lines_of l.rest);
  count : length (lines_of l.body) ≡ l.counter + length (lines_of l.rest);
}

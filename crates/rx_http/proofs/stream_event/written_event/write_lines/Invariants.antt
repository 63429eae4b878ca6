use Rattle.std.proofs.Common.{◌≡◌, ◌≤◌, ◌++◌, ℕ, List}
use Rattle.std.specs.Io.KnownBytes.{Appends}
use Rattle.rx_http.specs.Pieces.{text_lines}
use Rattle.rx_http.proofs.Lines.{to_come}
use Rattle.rx_http.proofs.stream_event.written_event.write_lines.Given as goal

abbrev pub invariant-loop-i : goal.invariant-loop-i
invariant-loop-i g l =
    (done : List ℕ) × Appends (g.W.Write.contents l.initial.writer) (g.W.Write.contents l.writer) done × (l.start ≤ l.i)
    × (done ++ to_come l.text l.start l.i ≡ text_lines l.text)

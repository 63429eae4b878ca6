-- A front of what was held is written, and the writer keeps that at its flush.
use Rattle.std.proofs.KnownBytes.{Appends-kept}
use Rattle.rx_lines.proofs.Written.{Holds-front, Loses-front}
use Rattle.rx_lines.proofs.outbox.Outbox.write_some.Goals as goal

pub returns-then-is_err-clause-puts : goal.returns-then-is_err-clause-puts
returns-then-is_err-clause-puts g c = Loses-front _ _ _ c.write_front-done.result.0 (rw c.self.view_is at c.write_front-done.ensures.front)

pub returns-after-flushed-clause-puts : goal.returns-after-flushed-clause-puts
returns-after-flushed-clause-puts g c =
    Holds-front _ _ _ _ c.write_front-done.result.0 (Appends-kept _ _ _ _ (rw c.self.view_is at c.write_front-done.ensures.front) c.flushed_now.ensures) c.drop_front.ensures

pub returns-in-Err-clause-puts : goal.returns-in-Err-clause-puts
returns-in-Err-clause-puts g c =
    Loses-front _ _ _ c.write_front-done.result.0 (Appends-kept _ _ _ _ (rw c.self.view_is at c.write_front-done.ensures.front) c.flushed_now.ensures)

use Rattle.std.proofs.Common.{◌≡◌, ◌≤◌, ◌++◌, map, length, take, drop}
use Rattle.hazoxe_c.specs.Batches.{texts_of}
use Rattle.hazoxe_c.specs.Taking.{head_of}
use Rattle.hazoxe_c.proofs.batch.tell_all.Given as goal

abbrev pub invariant-loop-i : goal.invariant-loop-i
invariant-loop-i l = record {
  used : l.used ≡ length (texts_of (take l.i l.fn.notes));
  fits : l.used ≤ length l.buffer;
  heads : l.heads ≡ map head_of (take l.i l.fn.notes) ++ drop l.i l.initial.heads;
  texts : take l.used l.buffer ≡ texts_of (take l.i l.fn.notes);
}

-- A handle may go to another thread, since a desk may.
use Rattle.std.specs.Prelude.{Option, None, Some}
use mir.Raw.{raw}
use base.Shift.{Keyless}
use denote.Memory.{lone}
use denote.RawPtr.{Ptr}
use denote.Param.Send.{IsSend, owning_send, sendable}
use Rattle.std.proofs.Crossing.{frees}
use Rattle.std_alloc.proofs.SendSync.{lies}
use Rattle.hazoxe_c.specs.Desks.{DeskView}
use Rattle.hazoxe_c.specs.Held.{held_at}
use Rattle.hazoxe_c.specs.contracts.desk.Desk as desk
use Rattle.hazoxe_c.specs.contracts.handle.Handle.{the_row, the_type}
use Rattle.hazoxe_c.proofs.desk.Desk.TheSendSync as crossing

held_keyless : (p : Ptr) (x : Option DeskView) → Keyless (held_at p x)
held_keyless p None = tt
held_keyless p (Some d) = (lies desk.the_row crossing.the_send p d, frees.frees (record { memory = record { seal = tt } }) (raw (lone desk.the_row.mir)) p)

pub send : IsSend the_row
send = owning_send the_type (search sendable, tt) (λ h. held_keyless h.at h.value) (λ k x w. tt)

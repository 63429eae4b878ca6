use Rattle.std.proofs.Common.{arith}
use Rattle.rx_server.specs.declared.wired.start_fault.Role.TheVariants.{Pump}
use Rattle.rx_server.proofs.StartFaults.{memory-for}
use Rattle.rx_server.proofs.wired.wire.Goals as goal

-- no memory for the lists of parts
pub returns-in_default-clause-fault : goal.returns-in_default-clause-fault
returns-in_default-clause-fault g c =
    let config = c.args.config.now in
    memory-for config c.memory.result Pump 0 (omega (arith, config.subjects_in_range, config.subjects.ok)) c.memory.ensures

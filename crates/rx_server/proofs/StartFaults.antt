-- Which thread of a server could not be had.
use Rattle.std.proofs.Common.{sym, refl, subst, ℕ, ◌<◌, ◌≤◌, ◌≢◌, ◌⊎◌, length, inl, inr, arith}
use Rattle.rx_config.specs.declared.config.Config.{Config}
use Rattle.rx_server.specs.declared.wired.start_fault.Role.{Role}
use Rattle.rx_server.specs.declared.wired.start_fault.Role.TheVariants.{Drainer, Pump, Worker}
use Rattle.rx_server.specs.declared.wired.start_fault.StartFault.{StartFault}
use Rattle.rx_server.specs.Starting.{CannotRun, IsStartFaultOf, NoMemoryBelow, NoMemoryFor, NoMemoryIn, NoThreadFor, threads_of}

-- a fault of one is a fault of one of so many
pub below : (role : Role) (index count : ℕ) (fault : StartFault) → index < count → NoMemoryFor role index fault → NoMemoryBelow role count fault
below role index count fault within is = (index, within, is)

-- the lists of the running threads had no memory
pub run-lists : (fault : StartFault) (pumps drainers : ℕ) → NoMemoryFor Pump 0 fault ⊎ NoMemoryFor Drainer 0 fault → CannotRun pumps drainers fault
run-lists fault pumps drainers (inl is) = inl is
run-lists fault pumps drainers (inr is) = inr (inl is)

module _ (config : Config) (fault : StartFault) where
  pub memory-for : (role : Role) (index : ℕ) → index < threads_of config role → NoMemoryFor role index fault → NoMemoryIn config fault
  memory-for role index within is = subst (λ (f : StartFault). NoMemoryIn config f) (sym is) (record { index = within; cause = refl })

  pub memory-below : (role : Role) (count : ℕ) → count ≤ threads_of config role → NoMemoryBelow role count fault → NoMemoryIn config fault
  memory-below role count most one = memory-for role one.0 (omega (arith, one.1, most)) one.2

  pub start-memory : NoMemoryIn config fault → IsStartFaultOf config fault
  start-memory is = record { index = is.index; cause = λ none worker. let other = is.cause in cc }

  start-thread : (role : Role) (index : ℕ) → role ≢ Worker → index < threads_of config role → NoThreadFor role index fault → IsStartFaultOf config fault
  start-thread role index other within is = subst (λ (f : StartFault). IsStartFaultOf config f) (sym is) (record { index = within; cause = λ none. other })

  pub start-run : (pumps drainers : ℕ) → 0 < pumps → pumps ≤ length config.subjects.items → 0 < drainers → drainers ≤ config.drainers
      → CannotRun pumps drainers fault → IsStartFaultOf config fault
  start-run pumps drainers some fit other other_fit (inl is) = start-memory (memory-for Pump 0 (omega (arith, some, fit)) is)
  start-run pumps drainers some fit other other_fit (inr (inl is)) = start-memory (memory-for Drainer 0 (omega (arith, other, other_fit)) is)
  start-run pumps drainers some fit other other_fit (inr (inr (inl one))) = start-thread Pump one.0 (λ same. cc) (omega (arith, one.1, fit)) one.2
  start-run pumps drainers some fit other other_fit (inr (inr (inr one))) = start-thread Drainer one.0 (λ same. cc) (omega (arith, one.1, other_fit)) one.2

-- Any thread may give a block back where any thread may give one back to the inner allocator.
use mir.Syntax.{Dict}
use denote.RattleType.{RattleType}
use denote.Param.Send.{Frees}
use Rattle.std.specs.declared.alloc.Allocator.{Ghosts}
use Rattle.rx_heap.specs.contracts.limited.LimitedAllocator.TheImpl.{ghosts}

module _ (B : RattleType) (g : Ghosts B.Denot) (d e : Dict) where
  pub frees : Frees g g.dealloc_token → Frees (ghosts B g d e) (ghosts B g d e).dealloc_token
  frees inner = record { frees = λ heap. inner.frees heap.inner }

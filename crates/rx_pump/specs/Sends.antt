-- What is sent to the drainers of observers (this project's own rule).
use Rattle.std.specs.Prelude.{◌≡◌, ℕ, List, ◌∷◌, ◌++◌, length, Result, Ok, Err, ◌%◌}
use Rattle.rx_mailbox.specs.Boxes.{Outgoing}
use Rattle.rx_mailbox.specs.PortRows.{Puts}
use Rattle.rx_pump.specs.declared.out.Out.{Out}
use Rattle.rx_pump.specs.Marks.{for_drainer, who_of}

module _ {S : Type 0} where
  -- each out was sent to the drainer of its observer, in the order of the outs
  abbrev pub PutsFor : List (Out S) → List (Outgoing (Out S)) → List (Outgoing (Out S)) → Type 0
  PutsFor outs before after = Puts (λ d. for_drainer (length before) d outs) before after

  -- the drainer at this place is gone: the outs were sent up to the first one for it that was handed back
  pub record StopsAt (outs : List (Out S)) (place : ℕ) (before after : List (Outgoing (Out S))) : Type 0 where
    pub done : List (Out S)
    pub next : Out S
    pub rest : List (Out S)
    pub parts : done ++ next ∷ rest ≡ outs
    pub gone : who_of next % length before ≡ place
    pub put : PutsFor done before after

  -- the outs were sent, or a drainer is gone
  abbrev pub SendsOuts : List (Out S) → Result (Unit {0}) ℕ → List (Outgoing (Out S)) → List (Outgoing (Out S)) → Type 0
  SendsOuts outs (Ok _) before after = PutsFor outs before after
  SendsOuts outs (Err place) before after = StopsAt outs place before after

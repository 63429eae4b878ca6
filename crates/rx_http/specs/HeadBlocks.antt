-- What a reader of heads holds: a block whose first bytes came.
use Rattle.std.specs.Prelude.{◌≤◌, ◌+◌, ℕ, List, take}
use Rattle.rx_http.specs.Heads.{NoneBelow}

-- so many of the block's 8,192 bytes came, and none of their fronts that were searched ends with an empty line
pub record IsHeadBlock (block : List ℕ) (len searched : ℕ) : Type 0 where
  pub room : len ≤ 8192
  pub ahead : searched ≤ len + 1
  pub passed : NoneBelow searched (take len block)

-- Known bytes over several calls.
use Rattle.std.proofs.Common.{List, ℕ, Option, Some, None, ◌∙◌, sym}
use Rattle.std.specs.Io.KnownBytes.{Consumes, Keeps}

-- a read behind calls that kept the bytes
pub Consumes-behind : (a b c : Option (List ℕ)) (read : List ℕ) → Keeps a b → Consumes b c read → Consumes a c read
Consumes-behind None b c read kept told = tt
Consumes-behind (Some xs) None c read kept told = absurd kept
Consumes-behind (Some xs) (Some ys) None read kept told = told
Consumes-behind (Some xs) (Some ys) (Some zs) read kept told = sym kept ∙ told

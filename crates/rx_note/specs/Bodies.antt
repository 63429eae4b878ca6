-- Where the bytes of a text are: in the text itself where they are few, else in memory that its copies share.
use Rattle.std.specs.Prelude.{ℕ, ◌≤◌, List, take}
use Rattle.std.specs.Arc.{arc_value}
use Rattle.rx_note.specs.declared.body.Body.{Body}
use Rattle.rx_note.specs.declared.body.Body.TheVariants.{Short, Medium, Long}
use Rattle.rx_note.specs.declared.long_block.LongBlock.{LongBlock}
use Rattle.rx_note.specs.declared.long_block.LongBlock.TheVariants.{UpTo120, UpTo184, UpTo248, UpTo376, UpTo504, UpTo760, UpTo1024}

-- the bytes in the block of a long text
abbrev pub bytes_in : LongBlock → List ℕ
bytes_in (UpTo120 block) = arc_value block
bytes_in (UpTo184 block) = arc_value block
bytes_in (UpTo248 block) = arc_value block
bytes_in (UpTo376 block) = arc_value block
bytes_in (UpTo504 block) = arc_value block
bytes_in (UpTo760 block) = arc_value block
bytes_in (UpTo1024 block) = arc_value block

-- the bytes
abbrev pub bytes_of : Body → List ℕ
bytes_of (Short len bytes) = take len bytes
bytes_of (Medium block) = arc_value block
bytes_of (Long block) = bytes_in block

-- a short one has no more bytes than there is room for
abbrev pub IsWithin : Body → Type 0
IsWithin (Short len bytes) = len ≤ 20
IsWithin (Medium block) = Unit {0}
IsWithin (Long block) = Unit {0}

-- The observers whose readers ask for their items themselves (this project's own rule): each stands there from its Join until it is
-- disposed of.
use Rattle.std.specs.Prelude.{◌≤◌, ◌+◌, ◌==◌, ◌&&◌, Bool, not, List, [], filter, Option, Some, None, vec_len, vec_capacity}
use Rattle.std.specs.List.{list_any}
use Rattle.rx_heap.specs.declared.limited.Limited.{Limited}
use Rattle.std.specs.declared.alloc.Global.{Global}
use Rattle.std.specs.declared.vec.Vec.{Vec}
use Rattle.rx_desk.specs.declared.askers.Askers.{Askers}
use Rattle.rx_desk.specs.declared.joined.Joined.{Joined}

-- both are one
abbrev pub is_same : Joined → Joined → Bool
is_same one other = one.subject == other.subject && one.who == other.who

-- one is among them
abbrev pub is_among : Joined → List Joined → Bool
is_among one others = list_any (λ other. is_same one other) others

-- all but one
abbrev pub without : Joined → List Joined → List Joined
without one others = filter (λ other. not (is_same one other)) others

abbrev pub listed : Option (Vec Joined (Limited Global)) → List Joined
listed None = []
listed (Some list) = list.items

-- those that ask
abbrev pub observers_in : Askers → List Joined
observers_in askers = listed askers.list

abbrev pub HasRoomIn : Option (Vec Joined (Limited Global)) → Type 0
HasRoomIn None = ⊥
HasRoomIn (Some list) = vec_len list + 1 ≤ vec_capacity list

-- there is room for one more
abbrev pub HasRoom : Askers → Type 0
HasRoom askers = HasRoomIn askers.list

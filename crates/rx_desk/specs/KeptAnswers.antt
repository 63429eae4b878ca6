-- What emissions by a key were answered (this project's own rule): the last 1,024 that were accepted are remembered, of all subjects
-- together. A producer that had no answer sends its emission again by the same key, and is answered as it was.
use Rattle.std.specs.Prelude.{◌≡◌, ◌==◌, ◌&&◌, ◌++◌, ◌∷◌, ℕ, Bool, List, [], Option, None, Some, nat_eq, option_map, position, slice_get}
use Rattle.std.specs.Cmp.Lexicographic.{pointwise}
use Rattle.circular_buffer.specs.Buffer.{Buffer, keep_last}
use Rattle.rx_desk.specs.declared.kept_answer.KeptAnswer.{KeptAnswer}

-- it is of the emission by this key at the subject at this place
abbrev pub is_of : ℕ → List ℕ → KeptAnswer → Bool
is_of subject key kept = kept.subject == subject && pointwise nat_eq kept.key key

-- the place in one of them, if there is one
abbrev pub answer_at : List KeptAnswer → Option ℕ → Option (Option ℕ)
answer_at kept None = None
answer_at kept (Some at) = option_map (λ (k : KeptAnswer). k.place) (slice_get kept at)

-- what the emission by this key at the subject at this place was answered, if that is remembered: the place of its item, if it has one
abbrev pub kept_for : ℕ → List ℕ → List KeptAnswer → Option (Option ℕ)
kept_for subject key kept = answer_at kept (position (is_of subject key) kept)

-- with one more; of too many the oldest is forgotten
abbrev pub kept_with : List KeptAnswer → KeptAnswer → List KeptAnswer
kept_with kept one = keep_last 1024 (kept ++ one ∷ [])

-- those in a ring, the oldest first
abbrev pub listed : Option (Buffer KeptAnswer) → List KeptAnswer
listed None = []
listed (Some ring) = ring.items

-- there is a ring
abbrev pub IsMade : Option (Buffer KeptAnswer) → Type 0
IsMade None = ⊥
IsMade (Some ring) = Unit {0}

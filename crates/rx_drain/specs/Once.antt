-- Each sink that came and found its place is kept or was put away, once (this project's own rule).
--
-- Each sink once: Each sink that came and found its place is kept or was put away, and none twice.
use Rattle.std.specs.Prelude.{◌≡◌, ◌==◌, ◌+◌, ◌≤◌, if◌then◌else◌, ℕ, Bool, List, [], ◌∷◌, ◌++◌, length, map, Option, Some, None}
use Rattle.rx_mailbox.specs.declared.letter.Letter.{Letter}
use Rattle.rx_mailbox.specs.declared.letter.Post.{Post}
use Rattle.rx_mailbox.specs.declared.letter.Post.TheVariants.{Body, Bye}
use Rattle.rx_pump.specs.declared.out.Out.{Out}
use Rattle.rx_pump.specs.declared.out.Out.TheVariants.{Attach, Give, Detach}
use Rattle.rx_sink.specs.Attachments.{Attachment, Why, Mark, Fine, Fault, NoMemory, kept_for}
use Rattle.rx_drain.specs.Logs.{Log, NoLetters, Next, Flush, letters, has_left, kept_in, gone_in}

-- how often a number stands in a list
abbrev pub times : ℕ → List ℕ → ℕ
times n [] = 0
times n (m ∷ ms) = (if m == n then 1 else 0) + times n ms

-- by the mark of an Attach whose sink finds its place, that place; and of one whose sink finds no memory
abbrev pub found_by : Mark → ℕ → List ℕ
found_by (Fine flow) place = place ∷ []
found_by Fault place = place ∷ []
found_by NoMemory place = []

abbrev pub missed_by : Mark → ℕ → List ℕ
missed_by (Fine flow) place = []
missed_by Fault place = []
missed_by NoMemory place = place ∷ []

-- places of sinks that come to an observer for whom none is kept, of a subject and before the leave port's Bye, by their marks
module _ {S : Type 0} (by : Mark → ℕ → List ℕ) where
  -- by an Attach
  abbrev pub place_by : Mark → ℕ → Option (Attachment S) → List ℕ
  place_by mark place (Some other) = []
  place_by mark place None = by mark place

  -- by what a subject sends
  abbrev pub out_by : ℕ → ℕ → Out S → Mark → List (Attachment S) → List ℕ
  out_by place subject (Attach who sink) mark kept = place_by mark place (kept_for subject who kept)
  out_by place subject (Give who note) mark kept = []
  out_by place subject (Detach who) mark kept = []

  -- by a post of a subject
  abbrev pub subject_by : ℕ → ℕ → Post (Out S) → Mark → List (Attachment S) → List ℕ
  subject_by place subject (Body out) mark kept = out_by place subject out mark kept
  subject_by place subject Bye mark kept = []

  -- by a letter: by none of the leave port, and by none after its Bye
  abbrev pub letter_by : Bool → ℕ → ℕ → Letter (Out S) → Mark → List (Attachment S) → List ℕ
  letter_by left_before leave place x mark kept =
      if left_before then [] else (if x.from == leave then [] else subject_by place x.from x.post mark kept)

  -- by all letters
  abbrev pub places_by : ℕ → Log S → List ℕ
  places_by leave NoLetters = []
  places_by leave (Next log x mark) = places_by leave log ++ letter_by (has_left leave log) leave (length (letters log)) x mark (kept_in leave log)
  places_by leave (Flush log subject who mark) = places_by leave log

module _ {S : Type 0} where
  -- the places of all Attaches whose sinks found theirs
  abbrev pub found_in : ℕ → Log S → List ℕ
  found_in leave log = places_by found_by leave log

  -- the places of all Attaches whose sinks found no memory
  abbrev pub missed_at : ℕ → Log S → List ℕ
  missed_at leave log = places_by missed_by leave log

  -- the places of the attachments that are kept and of those that have ended
  abbrev pub places_of : List (Attachment S) → List (Attachment S × Why) → List ℕ
  places_of kept gone = map (λ a. a.place) kept ++ map (λ end. end.0.place) gone

  -- each of those is kept or has ended, and none twice
  pub record EachOnce (leave : ℕ) (log : Log S) : Type 0 where
    pub same : (n : ℕ) → times n (places_of (kept_in leave log) (gone_in leave log)) ≡ times n (found_in leave log)
    pub once : (n : ℕ) → times n (found_in leave log) ≤ 1

-- whatever the letters, and however it went with each
abbrev pub EachSinkOnce : Type 0 → Type 0
EachSinkOnce S = (leave : ℕ) (log : Log S) → EachOnce leave log

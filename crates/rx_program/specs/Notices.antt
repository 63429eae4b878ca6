-- What a server tells of its peers while it runs: when a line is due, and what it says. The words and the rate are this project's own.
--
-- Of a cause there is a line a second at most, and so of a subject that refuses. A line stands for one event, and tells how many more
-- there were since the one before: together the lines tell each event once.
use Rattle.std.specs.Prelude.{ℕ, zero, suc, Bool, true, false, List, [], ◌++◌, ◌+◌, ◌<◌, ◌≤◌, ◌≡◌, codes, decimal, Option, None, Some, Result}
use Rattle.rx_config.specs.Listings.{number_words}
use Rattle.rx_proto.specs.Bytes.{Writes}
use Rattle.rx_proto.specs.Printing.{line}
use Rattle.rx_proto.specs.declared.writer.WriteFault.{WriteFault}
use Rattle.rx_program.specs.declared.notices.about.About.{About}
use Rattle.rx_program.specs.declared.notices.cause.Cause.{Cause}
use Rattle.rx_program.specs.declared.notices.cause.Cause.TheVariants.{Stalled, Outgrown, Silent, Unheld, NoDescriptor, NoMemory, Unserved, Unwatched, Broken}
use Rattle.rx_program.specs.declared.notices.patience.Patience.{Patience}
use Rattle.rx_program.specs.declared.notices.rate.Rate.{Rate}

-- WHEN

-- a line may be told at a moment: it is the first, or the last one is a second old
abbrev pub MayFollow : Option ℕ → ℕ → Type 0
MayFollow None now = Unit {0}
MayFollow (Some last) now = last + 1000 ≤ now

-- of so many events one was not told, and a line may be
abbrev pub IsDue : Rate → ℕ → ℕ → Type 0
IsDue rate count now = (rate.told < count) × MayFollow rate.last now

-- WHAT

-- what is told of a cause
abbrev pub cause_words : Cause → List ℕ
cause_words Stalled = codes "a peer is given up: it took nothing"
cause_words Outgrown = codes "an observer is given up: too much waits for it"
cause_words Silent = codes "a connection ends: it sent nothing"
cause_words Unheld = codes "a peer is given up: no memory for what waits for it"
cause_words NoDescriptor = codes "connections wait: no descriptor"
cause_words NoMemory = codes "connections wait: no memory"
cause_words Unserved = codes "a connection is refused: no memory"
cause_words Unwatched = codes "a connection is refused: it cannot be watched"
cause_words Broken = codes "connections are not accepted: the socket fails"

-- for how long a peer let the server wait that is let go for this
abbrev pub seconds_of : Patience → Cause → Option ℕ
seconds_of patience Stalled = Some patience.stall
seconds_of patience Outgrown = None
seconds_of patience Silent = patience.idle
seconds_of patience Unheld = None
seconds_of patience NoDescriptor = None
seconds_of patience NoMemory = None
seconds_of patience Unserved = None
seconds_of patience Unwatched = None
seconds_of patience Broken = None

-- how many bytes may wait for an observer that is let go for this
abbrev pub bytes_of : Patience → Cause → Option ℕ
bytes_of patience Stalled = None
bytes_of patience Outgrown = Some patience.waiting
bytes_of patience Silent = None
bytes_of patience Unheld = None
bytes_of patience NoDescriptor = None
bytes_of patience NoMemory = None
bytes_of patience Unserved = None
bytes_of patience Unwatched = None
bytes_of patience Broken = None

abbrev pub span_words : Option ℕ → List ℕ
span_words None = []
span_words (Some seconds) = number_words (codes " for ") seconds ++ codes " s"

-- which observer is given up
abbrev pub observer_words : About → List ℕ
observer_words about = number_words (codes "observer ") about.observer ++ (codes " of " ++ about.subject)

-- why it is: more bytes wait for it than these may, or there is no memory for them
abbrev pub outgrown_words : Option ℕ → List ℕ
outgrown_words None = codes " is given up: no memory for what waits for it"
outgrown_words (Some most) = number_words (codes " is given up: more than ") most ++ codes " bytes wait for it"

-- or its peer took nothing for so many seconds, while so many bytes wait in its connection
abbrev pub fate_words : Option ℕ → Option ℕ → ℕ → List ℕ
fate_words None most bytes = outgrown_words most
fate_words (Some seconds) most bytes =
    number_words (codes " is given up: its peer took nothing for ") seconds ++ (number_words (codes " s, ") bytes ++ codes " bytes wait")

-- what is told of a cause, about an observer where there is one
abbrev pub told_words : Patience → Cause → Option About → List ℕ
told_words patience cause None = cause_words cause ++ span_words (seconds_of patience cause)
told_words patience cause (Some about) = observer_words about ++ fate_words (seconds_of patience cause) (bytes_of patience cause) about.bytes

-- how many more events there were since the line before
abbrev pub more_words : ℕ → List ℕ
more_words zero = []
more_words (suc more) = number_words (codes " (and ") (suc more) ++ codes " more)"

-- THE LINE, of a warning, as the journal of a system knows it by its front
abbrev pub notice_line : Patience → Cause → Option About → ℕ → List ℕ
notice_line patience cause about more = line ((codes "<4>rxline: " ++ told_words patience cause about) ++ more_words more)

-- a subject refuses, since its budget is used up
abbrev pub budget_words : ℕ → List ℕ
budget_words budget = number_words (codes " refuses: its budget of ") budget ++ codes " bytes is used up"

abbrev pub refusal_line : List ℕ → ℕ → ℕ → List ℕ
refusal_line subject budget more = line (((codes "<4>rxline: " ++ subject) ++ budget_words budget) ++ more_words more)

-- how a subject ended
abbrev pub end_words : Bool → List ℕ
end_words false = codes " is over: DONE"
end_words true = codes " is over: FAILED"

-- a subject is over, as what is worth knowing and no warning
abbrev pub end_line : List ℕ → Bool → ℕ → List ℕ
end_line subject has_failed items = line (codes "<6>rxline: " ++ (subject ++ (end_words has_failed ++ (number_words (codes " after ") items ++ codes " items"))))

-- a server stops, within so many seconds
abbrev pub stop_line : ℕ → List ℕ
stop_line within = line (number_words (codes "<6>rxline: stopping within ") within ++ codes " s")

-- where a line was due it was written, or a front of it where the writer failed; else nothing was
abbrev pub Told : Patience → Cause → Option About → Option ℕ → Option (List ℕ) → Option (List ℕ) → Type 0
Told patience cause about None old new = new ≡ old
Told patience cause about (Some more) old new = (done : Result (Unit {0}) WriteFault) × Writes done old new (notice_line patience cause about more)

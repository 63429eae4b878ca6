-- The numbers by which a program in C is told what a call came to. They are this project's own.
use Rattle.std.specs.Prelude.{ℕ, Result, Ok, Err}
use Rattle.rx_note.specs.declared.refusal.Refusal.{Refusal}
use Rattle.rx_note.specs.declared.refusal.Refusal.TheVariants.{Ended, Full, Spent, ZeroRequest, NoObserver, TooMuch, Memory}
use Rattle.hazoxe_c.specs.declared.fault.Fault.{Fault}
use Rattle.hazoxe_c.specs.declared.fault.Fault.TheVariants.{Refused, NoSubject, HoldsSubject, BadKind, BadSeed, BadCount, BadAge, BadLimits, TooLong, HasLf, BadStrategy, BadRoom, BadErrors, NothingGiven, BufferTooSmall}

-- of a subject's refusals, in the order in which it refuses
abbrev pub refusal_number : Refusal → ℕ
refusal_number Ended = 1
refusal_number Full = 2
refusal_number Spent = 3
refusal_number ZeroRequest = 4
refusal_number NoObserver = 5
refusal_number TooMuch = 6
refusal_number Memory = 7

-- of each cause
abbrev pub number : Fault → ℕ
number (Refused refusal) = refusal_number refusal
number NoSubject = 8
number HoldsSubject = 9
number BadKind = 10
number BadSeed = 11
number BadCount = 12
number BadAge = 13
number BadLimits = 14
number TooLong = 15
number HasLf = 16
number BadStrategy = 17
number BadRoom = 18
number BadErrors = 19
number NothingGiven = 20
number BufferTooSmall = 21

-- of what a call came to: 0 where it did what it was called for
abbrev pub code : {A : Type 0} → Result A Fault → ℕ
code (Ok _) = 0
code (Err fault) = number fault

-- of what a subject answered
abbrev pub answer_code : {A : Type 0} → Result A Refusal → ℕ
answer_code (Ok _) = 0
answer_code (Err refusal) = refusal_number refusal

-- Which subject a program in C asks for. The numbers, and that 0 stands for none, are this project's own.
--
-- A subject is made as asked for, stands for the empty history, and has given nothing; or the first fault of what was asked
-- is answered, else `Memory`, and the struct holds none; one that holds a subject keeps it.
use Rattle.std.specs.Prelude.{◌≡◌, ℕ, ◌==◌, ◌&&◌, not, nat_lt, Bool, if◌then◌else◌, List, length, Option, None, Some, Result, Ok, Err, is_some, MatchOption, MatchResult}
use Rattle.rx_note.specs.declared.kind.Kind.{Kind}
use Rattle.rx_note.specs.declared.kind.Kind.TheVariants.{Publish, Behavior, Async, Replay}
use Rattle.rx_note.specs.declared.limits.Limits.{Limits}
use Rattle.rx_note.specs.declared.refusal.Refusal.TheVariants.{Memory}
use Rattle.rx_hub.specs.Hubs.{are_in_range}
use Rattle.hazoxe_c.specs.Desks.{DeskView, IsNew, text_fault}
use Rattle.hazoxe_c.specs.Numbers.{code}
use Rattle.hazoxe_c.specs.declared.subject_rules.SubjectRules.{SubjectRules}
use Rattle.hazoxe_c.specs.declared.fault.Fault.{Fault}
use Rattle.hazoxe_c.specs.declared.fault.Fault.TheVariants.{Refused, BadKind, BadSeed, BadCount, BadAge, BadLimits}

-- a number, or none where it is 0
abbrev pub none_if_zero : ℕ → Option ℕ
none_if_zero n = if n == 0 then None else Some n

-- the limits that are asked for
abbrev pub limits_of : SubjectRules → Limits
limits_of rules = record { observers = rules.observers; joins = rules.joins; items = rules.items }

-- the kind that is asked for, where there is no fault
abbrev pub kind_of : SubjectRules → List ℕ → Kind
kind_of rules seed =
    if rules.kind == 0 then Publish
    else (if rules.kind == 1 then Behavior None
    else (if rules.kind == 2 then Behavior (Some seed)
    else (if rules.kind == 3 then Async
    else Replay (none_if_zero rules.count) (none_if_zero rules.age))))

-- whether count and age are asked for, which Replay alone has
abbrev pub is_replay : SubjectRules → Bool
is_replay rules = rules.kind == 4

-- the first fault of what is asked for
abbrev pub rules_fault : SubjectRules → List ℕ → Option Fault
rules_fault rules seed =
    if nat_lt 4 rules.kind then Some BadKind
    else (if not (rules.kind == 2) && nat_lt 0 (length seed) then Some BadSeed
    else (if is_some (text_fault seed) then text_fault seed
    else (if nat_lt (if is_replay rules then 4096 else 0) rules.count then Some BadCount
    else (if not (is_replay rules) && nat_lt 0 rules.age then Some BadAge
    else (if not (are_in_range (limits_of rules)) then Some BadLimits
    else None)))))

-- a desk was made as asked for; or it was not, for want of memory
abbrev pub IsMade : SubjectRules → List ℕ → Result DeskView Fault → Type 0
IsMade rules seed result = MatchResult result (IsNew (kind_of rules seed) (limits_of rules)) (λ fault. fault ≡ Refused Memory)

-- the same, where there is no fault
abbrev pub Made : SubjectRules → List ℕ → Result DeskView Fault → Type 0
Made rules seed result = MatchOption (rules_fault rules seed) (IsMade rules seed result) (λ fault. result ≡ Err fault)

-- what a struct holds after a call to make a desk
abbrev pub held_after : Result DeskView Fault → Option DeskView
held_after (Ok desk) = Some desk
held_after (Err fault) = None

-- a subject was opened in a struct that held none, or was not
pub record Opened (rules : SubjectRules) (seed : List ℕ) (new : Option DeskView) (number : ℕ) : Type 0 where
  pub result : Result DeskView Fault
  pub made : Made rules seed result
  pub told : number ≡ code result
  pub held : new ≡ held_after result

-- what a call to open one did
abbrev pub Opens : SubjectRules → List ℕ → Option DeskView → Option DeskView → ℕ → Type 0
Opens rules seed old new number = MatchOption old (Opened rules seed new number) (λ desk. (number ≡ 9) × (new ≡ old))

-- what a call to let go of one did
abbrev pub Closes : Option DeskView → Option DeskView → ℕ → Type 0
Closes old new number = (new ≡ None) × MatchOption old (number ≡ 8) (λ desk. number ≡ 0)

-- What the program does as a client of a server (this project's own rule).
use Rattle.std.specs.Prelude.{◌≡◌, ◌≢◌, ◌++◌, ◌⊎◌, ◌<◌, ◌≤◌, ◌^◌, ℕ, Bool, true, false, List, codes, decimal, Option, None, Some, Result, Ok, MatchResult}
use Rattle.std.specs.Borrow.{Bor}
use Rattle.std.specs.Str.Parse.{IsNumeral, digits_value, without_leading_plus}
use Rattle.rx_client.specs.Requests.{IsNoSub}
use Rattle.rx_client.specs.Running.{Subscribes}
use Rattle.rx_client.specs.declared.format.Format.{Format}
use Rattle.rx_client.specs.declared.format.Format.TheVariants.{Plain, Json}
use Rattle.rx_client.specs.declared.looking.LookFault.{LookFault}
use Rattle.rx_client.specs.declared.looking.LookFault.TheVariants as looks
use Rattle.rx_client.specs.declared.subscriber.SubscribeFault.{SubscribeFault}
use Rattle.rx_client.specs.declared.subscriber.SubscribeFault.TheVariants as follows
use Rattle.rx_proto.specs.Bytes.{Writes}
use Rattle.rx_proto.specs.Grammar.{IsText}
use Rattle.rx_proto.specs.Names.{IsName}
use Rattle.rx_proto.specs.Printing.{line}
use Rattle.rx_program.specs.declared.program.program_fault.ProgramFault.{ProgramFault}
use Rattle.rx_program.specs.declared.program.program_fault.ProgramFault.TheVariants as faults
use Rattle.rx_program.specs.declared.command_line.subscription.Subscription.{Subscription}
use Rattle.rx_program.specs.declared.command_line.task.Task.{Task}
use Rattle.rx_program.specs.declared.command_line.task.Task.TheVariants.{Publish, Subscribe, Stop}

-- EMITTING

-- the line that says how many lines were accepted
abbrev pub accepted_line : ℕ → List ℕ
accepted_line accepted = line (codes "accepted " ++ decimal accepted)

-- how many were accepted was written, or could not be; or nothing was sent, and nothing written
abbrev pub Emits : Result (Unit {0}) ProgramFault → Option (List ℕ) → Option (List ℕ) → Type 0
Emits done old new =
    ((accepted : ℕ) × (told : Result (Unit {0}) ProgramFault) × Writes told old new (accepted_line accepted) × MatchResult done (λ _. told ≡ Ok tt) (λ _. Unit {0}))
    ⊎ ((done ≢ Ok tt) × (new ≡ old))

-- FOLLOWING

-- how what a follower tells is printed
abbrev pub format_of : Bool → Format
format_of true = Json
format_of false = Plain

-- a fault of following, as the program tells it
abbrev pub follow_fault : SubscribeFault → ProgramFault
follow_fault follows.NoServer = faults.Connect
follow_fault follows.Refused = faults.Refused
follow_fault follows.Failed = faults.Failed
follow_fault follows.Strange = faults.Strange
follow_fault follows.Write = faults.Write
follow_fault follows.Memory = faults.Memory

-- what a follower told was written, from some place on
abbrev pub FollowsSubject : Bool → Result (Unit {0}) ProgramFault → Option (List ℕ) → Option (List ℕ) → Type 0
FollowsSubject is_json done old new = (from : Option ℕ) × (may_overflow : Bool) × Subscribes (format_of is_json) from may_overflow done old new

-- LOOKING

-- a fault of looking, as the program tells it
abbrev pub look_fault : LookFault → ProgramFault
look_fault looks.NoServer = faults.Connect
look_fault (looks.Refused status) = faults.Refused
look_fault looks.Lost = faults.Lost
look_fault looks.Strange = faults.NoHttp
look_fault looks.Write = faults.Write
look_fault looks.Memory = faults.Memory

-- WHAT NO SERVER TAKES

-- a word is no number of 64 bits
abbrev pub IsNoNumber : List ℕ → Type 0
IsNoNumber word = ¬ (IsNumeral 10 (without_leading_plus word) × (digits_value 10 (without_leading_plus word) < 2 ^ 64))

-- a word is no number from 0 to 3,600
abbrev pub IsNoWithin : List ℕ → Type 0
IsNoWithin word = ¬ (IsNumeral 10 (without_leading_plus word) × (digits_value 10 (without_leading_plus word) ≤ 3600))

-- a word that may be missing is there and bad
abbrev pub IfThere : {A : Type 0} → (A → Type 0) → Option A → Type 0
IfThere bad None = ⊥
IfThere bad (Some word) = bad word

-- an item is none: its subject is no name, or its text is none
abbrev pub IsBadItem : List ℕ → Option (Bor (List ℕ)) → Type 0
IsBadItem subject text = (¬ IsName subject) ⊎ IfThere (λ t. ¬ IsText t.now) text

-- a subscription is none, or its numbers are none
abbrev pub IsBadSubscription : Subscription → Type 0
IsBadSubscription s =
    IsNoSub s.subject.now s.strategy.now s.errors.now ⊎ IfThere (λ t. IsNoNumber t.now) s.from ⊎ IfThere (λ t. IsNoNumber t.now) s.count

-- the words of a task are those of a command, and no server takes them
abbrev pub IsBad : Task → Type 0
IsBad (Publish socket subject text) = IsBadItem subject.now text
IsBad (Subscribe socket subscription) = IsBadSubscription subscription
IsBad (Stop socket within) = IfThere (λ t. IsNoWithin t.now) within
IsBad _ = ⊥

-- What contracts see of the part of a machine that appends, and what each event makes of it.
use Rattle.std.specs.Prelude.{ℕ, ◌+◌, ◌-◌, ◌/◌, ◌==◌, Bool, true, false, ◌&&◌, ◌||◌, nat_le, nat_lt, if◌then◌else◌, List, drop, slice_get, Option, None, Some, option_map, is_none}
use Rattle.rx_log.specs.declared.call.Call.{Call}
use Rattle.rx_log.specs.declared.entry.Entry.{Entry}
use Rattle.rx_log.specs.declared.entry.Entry.TheVariants.{Tenure, Own, Foreign}
use Rattle.rx_log.specs.declared.holder.Holder.{Holder}
use Rattle.rx_log.specs.declared.pace.Pace.{Pace}
use Rattle.rx_log.specs.declared.stage.Stage.{Stage}
use Rattle.rx_log.specs.declared.stage.Stage.TheVariants.{Catching, Up, Away, Replaced}
use Rattle.rx_log.specs.declared.standing.Standing.{Standing}
use Rattle.rx_log.specs.declared.standing.Standing.TheVariants.{Void, Opens, Counts}
use Rattle.rx_log.specs.declared.total.Total.{Total}

-- a sender: who it is and how it appends, how far it is, the calls that wait, its tenure, how many notes counted behind that and
-- how many of the waiting were appended there, whether it is to append a tenure, whether one of its own counted, the moment,
-- and when it last had news of its own
pub record SenderState : Type 0 where
  pub holder : Holder
  pub pace : Pace
  pub stage : Stage
  pub waiting : List Call
  pub tenure : Option ℕ
  pub counted : ℕ
  pub sent : ℕ
  pub asks : Bool
  pub has_opened : Bool
  pub moment : ℕ
  pub since : ℕ

-- WHAT IT APPENDS

-- a tenure, where it is known what the log comes to
abbrev pub tenure_due : SenderState → ℕ → Option Total → Option Entry
tenure_due s at total = option_map (λ (told : Total). Tenure s.holder at told) total

-- the call that was appended last behind its tenure, and the next one
abbrev pub own_of : SenderState → ℕ → Option Call → Option Entry
own_of s tenure None = None
own_of s tenure (Some call) = Some (Own tenure (s.counted + s.sent + 1) (call.note))

-- the next call that waits, behind its tenure
abbrev pub own_due : SenderState → Option ℕ → Option Entry
own_due s None = None
own_due s (Some tenure) = if nat_lt (s.sent) (s.pace.window) then own_of s tenure (slice_get (s.waiting) (s.sent)) else None

-- what is to be appended next, behind so many entries that come to this
abbrev pub due_at : SenderState → Stage → ℕ → Option Total → Option Entry
due_at s Up at total = if s.asks then tenure_due s at total else own_due s (s.tenure)
due_at s Catching at total = None
due_at s Away at total = None
due_at s Replaced at total = None

abbrev pub due : SenderState → ℕ → Option Total → Option Entry
due s at total = due_at s (s.stage) at total

-- it was appended
abbrev pub handed_on : SenderState → Option Entry → SenderState
handed_on s None = s
handed_on s (Some (Tenure holder base told)) = record s { asks = false; since = s.moment }
handed_on s (Some (Own tenure number note)) = record s { sent = s.sent + 1 }
handed_on s (Some (Foreign text)) = s

-- WHAT EVENTS MAKE OF IT

-- nothing of what it appended counts as under way
abbrev pub withdrawn : SenderState → SenderState
withdrawn s = record s { tenure = None; sent = 0 }

-- it begins anew: it is to append a tenure
abbrev pub asking : SenderState → SenderState
asking s = record s { tenure = None; sent = 0; asks = true; since = s.moment }

-- its connection came
abbrev pub connected_at : SenderState → Stage → SenderState
connected_at s Catching = s
connected_at s Up = asking s
connected_at s Away = record (asking s) { stage = Up }
connected_at s Replaced = s

-- its connection broke
abbrev pub gone_at : SenderState → Stage → SenderState
gone_at s Catching = s
gone_at s Up = record (withdrawn s) { stage = Away }
gone_at s Away = s
gone_at s Replaced = s

-- it has read as far as the log went when it began
abbrev pub caught_up_at : SenderState → Stage → SenderState
caught_up_at s Catching = record (asking s) { stage = Up }
caught_up_at s Up = s
caught_up_at s Away = s
caught_up_at s Replaced = s

-- whether it waits too long for what it appended
abbrev pub is_overdue : SenderState → Bool
is_overdue s = nat_le (s.pace.patience) (s.moment - s.since) && (is_none (s.tenure) || nat_lt 0 (s.sent))

-- a moment passed
abbrev pub ticked_at : SenderState → Stage → SenderState
ticked_at s Up = if is_overdue s then asking s else s
ticked_at s Catching = s
ticked_at s Away = s
ticked_at s Replaced = s

-- a tenure of its own counts, at this place
abbrev pub opened : SenderState → ℕ → SenderState
opened s place = record s { tenure = Some place; counted = 0; sent = 0; asks = false; has_opened = true; since = s.moment }

-- where another run of its node has a tenure that counts
abbrev pub replaced_stage : Stage → Stage
replaced_stage Catching = Catching
replaced_stage Up = Replaced
replaced_stage Away = Replaced
replaced_stage Replaced = Replaced

-- another run of its node has a tenure that counts: behind one of its own only a run that lives can have one, since that has
-- read it; before, it is one of a run that came before
abbrev pub replaced : SenderState → SenderState
replaced s = if s.has_opened then record s { tenure = None; sent = 0; stage = replaced_stage (s.stage) } else asking s

-- a note of its own counts under this number
abbrev pub answered : SenderState → ℕ → SenderState
answered s number = record s { waiting = drop 1 (s.waiting); counted = number; sent = s.sent - 1; since = s.moment }

-- whether a note that does not count shows that one before it is lost
abbrev pub is_missed : SenderState → Option ℕ → ℕ → ℕ → Bool
is_missed s None tenure number = false
is_missed s (Some own) tenure number = (own == tenure) && nat_lt (s.counted + 1) number

-- whether its tenure stands half a span behind
abbrev pub is_late : ℕ → ℕ → Option ℕ → Bool
is_late span place None = false
is_late span place (Some tenure) = nat_lt (span / 2) (place - tenure)

-- WHAT IT MAKES OF WHAT IS READ

-- whether this is who holds a tenure
abbrev pub is_held_by : Holder → Option Holder → Bool
is_held_by holder None = false
is_held_by holder (Some other) = (other.node == holder.node) && (other.run == holder.run)

-- a tenure counts at a place
abbrev pub heard_tenure : SenderState → ℕ → Holder → SenderState
heard_tenure s place other = if other.node == s.holder.node then (if other.run == s.holder.run then opened s place else replaced s) else s

-- an entry stands so at a place
abbrev pub heard : SenderState → ℕ → Entry → Standing → SenderState
heard s place (Tenure other base told) Opens = heard_tenure s place other
heard s place (Own tenure number note) (Counts by before) = if is_held_by s.holder by then answered s number else s
heard s place (Own tenure number note) Void = if is_missed s (s.tenure) tenure number then asking s else s
heard s place (Tenure other base told) Void = s
heard s place (Tenure other base told) (Counts by before) = s
heard s place (Own tenure number note) Opens = s
heard s place (Foreign text) standing = s

-- the call that it answers: the oldest that waits
abbrev pub told : SenderState → Entry → Standing → Option ℕ
told s (Own tenure number note) (Counts by before) = if is_held_by s.holder by then option_map (λ (call : Call). call.ticket) (slice_get (s.waiting) 0) else None
told s (Own tenure number note) Void = None
told s (Own tenure number note) Opens = None
told s (Tenure other base claim) standing = None
told s (Foreign text) standing = None

-- an entry was read at a place, and stands so: its tenure may be half a span behind then
abbrev pub read_on : ℕ → SenderState → ℕ → Entry → Standing → SenderState
read_on span s place entry standing =
    let next = heard s place entry standing in if is_late span place next.tenure then asking next else next

-- Where a reader begins to hear a subject, by what it says that it knows. The rule is this project's own.
--
-- Where a reader begins: one that says nothing hears what comes; one that says an id of this start of the server goes on
-- behind it, and where that says that the subject is over there is nothing more to come for; one that says another begins
-- anew.
--
-- A reader that says nothing misses nothing before its first item. It asked for what comes. One that says that it knows of
-- none, by an id without a place, is told all that it misses.
use Rattle.std.specs.Prelude.{ℕ, List, if◌then◌else◌, Option, None, Some}
use Rattle.rx_proto.specs.Reading.{same_word}
use Rattle.rx_http.specs.declared.request.begin.Begin.{Begin}
use Rattle.rx_http.specs.declared.request.begin.Begin.TheVariants.{Fresh, Behind, Restarted}
use Rattle.rx_http.specs.declared.id.Id.{Id}

-- where a reader begins, by the epoch of the server; nowhere, where it knows that the subject is over
abbrev pub begin_by : List ℕ → Option Id → Option Begin
begin_by epoch None = Some Fresh
begin_by epoch (Some id) =
    if same_word id.epoch epoch then (if id.over then None else Some (Behind id.place))
    else Some (Restarted id)

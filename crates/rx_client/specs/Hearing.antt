-- What a line of the second version tells its observer (this project's own rule).
use Rattle.rx_note.specs.declared.note.Note.{Note}
use Rattle.rx_note.specs.declared.note.Note.TheVariants.{Next, Completed, Failed}
use Rattle.rx_client.specs.declared.heard.Heard.{Heard}
use Rattle.rx_client.specs.declared.heard.Heard.TheVariants as heard

-- the note that was heard; a seed has neither a place nor a port
abbrev pub note_of : Heard → Note
note_of (heard.Item place from text) = Next (record { from = from; place = place; text = text.now })
note_of (heard.Seed text) = Next (record { from = 4294967295; place = 4294967295; text = text.now })
note_of heard.Done = Completed
note_of (heard.Failed text) = Failed text.now

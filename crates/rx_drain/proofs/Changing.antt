-- What a post changes and brings, of the leave port or of a subject.
use Rattle.std.proofs.Common.{ℕ, Bool, List, [], if◌then◌else◌}
use Rattle.rx_mailbox.specs.declared.letter.Post.{Post}
use Rattle.rx_pump.specs.declared.out.Out.{Out}
use Rattle.rx_sink.specs.Attachments.{Attachment, Mark, Change}
use Rattle.rx_drain.specs.Logs.{leave_change, subject_change}
use Rattle.rx_drain.specs.Once.{subject_by}

module _ {S : Type 0} where
  abbrev pub post_change : Bool → ℕ → ℕ → Post (Out S) → Mark → List (Attachment S) → Change S
  post_change leaves place from post mark kept = if leaves then leave_change post kept else subject_change place from post mark kept

  -- which places it brings
  abbrev pub post_by : (Mark → ℕ → List ℕ) → Bool → ℕ → ℕ → Post (Out S) → Mark → List (Attachment S) → List ℕ
  post_by by leaves place from post mark kept = if leaves then [] else subject_by by place from post mark kept

-- What a rule about one attachment does to the counts of misses and of notes taken.
use Rattle.std.proofs.Common.{◌≡◌, refl, ℕ, Bool, false, List, Option, Some, None}
use Rattle.rx_sink.specs.Attachments.{Attachment, Ruling, ruled}

module _ {S : Type 0} where
  -- a note, a flush and one who leaves find memory for each sink
  pub none_missed : (subject who : ℕ) (rule : Attachment S → Ruling S) (took : Attachment S → Bool) (o : Option (Attachment S)) (held : List (Attachment S)) → (ruled subject who rule took o held).missed ≡ false
  none_missed subject who rule took None held = refl
  none_missed subject who rule took (Some a) held = refl

  -- a flush and one who leaves have no note taken
  pub none_taken : (subject who : ℕ) (rule : Attachment S → Ruling S) (o : Option (Attachment S)) (held : List (Attachment S)) → (ruled subject who rule (λ a. false) o held).took ≡ false
  none_taken subject who rule None held = refl
  none_taken subject who rule (Some a) held = refl

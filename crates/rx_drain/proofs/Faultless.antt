-- A sink whose count of faults stayed took all that it was to be served.
use Rattle.std.proofs.Common.{◌≡◌, ◌-◌, ◌^◌, ◌<◌, List, [], ◌∷◌, arith}
use Rattle.std.specs.List.{AllByRecursion}
use Rattle.rx_note.specs.declared.note.Note.{Note}
use Rattle.rx_sink.specs.Acts.{Acts}
use Rattle.rx_sink.specs.Attachments.{Attachment, Why, TookLast, Detached, Closed, FailedAtStart, FailedAt, FailedAtFlush}
use Rattle.rx_sink.specs.KeptSinks.{Last}
use Rattle.rx_sink.proofs.Taking.{tells_faults}
use Rattle.rx_drain.specs.Logs.{letters, gone_in}
use Rattle.rx_drain.specs.Served.{TookOf, served, FaultlessSinksTookAll}
use Rattle.rx_drain.proofs.Taking.{each_sink_took}

module _ {S Rest : Type 0} (acts : Acts S Rest) where
  -- by the reason why it was put away
  took_all : (a : Attachment S) (why : Why) (all : List Note) → TookOf why a.taken all
      → (last : S) → Last acts a why last → acts.faults last ≡ acts.faults a.sink → acts.faults last < 2 ^ 64 - 1 → a.taken ≡ all
  took_all a TookLast all took last was same few = took
  took_all a Detached all took last was same few = took
  took_all a Closed all took last was same few = took
  took_all a FailedAtStart all took last was same few = absurd (let rose = tells_faults acts a FailedAtStart last was in omega (arith, rose, same, few))
  took_all a (FailedAt note) all took last was same few = absurd (let rose = tells_faults acts a (FailedAt note) last was in omega (arith, rose, same, few))
  took_all a FailedAtFlush all took last was same few = absurd (let rose = tells_faults acts a FailedAtFlush last was in omega (arith, rose, same, few))

  took_each : (all : Attachment S → List Note) (gone : List (Attachment S × Why)) → AllByRecursion (λ end. TookOf end.1 end.0.taken (all end.0)) gone
      → AllByRecursion (λ end. (last : S) → Last acts end.0 end.1 last → acts.faults last ≡ acts.faults end.0.sink → acts.faults last < 2 ^ 64 - 1 → end.0.taken ≡ all end.0) gone
  took_each all [] took = tt
  took_each all (end ∷ gone) took = (took_all end.0 end.1 (all end.0) took.0, took_each all gone took.1)

  pub faultless_sinks_took_all : FaultlessSinksTookAll acts
  faultless_sinks_took_all leave log = took_each (λ a. served leave a (letters log)) (gone_in leave log) (each_sink_took leave log).gone_took

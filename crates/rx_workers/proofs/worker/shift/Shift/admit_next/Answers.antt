-- What came is one deed, and so is that nothing comes any more.
use Rattle.std.proofs.Common.{◌∙◌, ap, false, refl, inl, inr, true≢false}
use Rattle.rx_mailbox.specs.Boxes.{Incoming, with_letter}
use Rattle.rx_mailbox.specs.Letters.{letter}
use Rattle.rx_mailbox.specs.declared.letter.Post.TheVariants.{Body}
use Rattle.rx_workers.specs.Working.{State, Receives, state}
use Rattle.rx_workers.proofs.Working.{came-one}
use Rattle.rx_workers.proofs.worker.shift.Shift.admit_next.Goals as goal

-- a connection came
pub returns-in-Body : goal.returns-in-Body
returns-in-Body g c =
    let inbox = c.in-Ok.ensures.received ∙ ap (λ post. with_letter c.self.inside.inbox (letter c.in-Ok.letter.from post)) c.in-Body.is in
    let before : State _ _ _ = state c.self.inside.desk c.self.inside.inbox c.self.inside.clients c.self.inside.sessions c.self.inside.is_open in
    let after : State _ _ _ = state c.self.inside.desk c.try_recv.new.self c.admit.new.clients c.self.inside.sessions c.self.inside.is_open in
    let received : Receives g.M.Moments.tells g.C.Read.remaining g.W.Write.contents (Body c.in-Body.connection) before after =
    record { from = c.in-Ok.letter.from; of_box = c.in-Ok.ensures.port; inbox = inbox; session = refl } in
    rw (← c.self.view_is) (record {
      came = λ _. came-one g.M.Moments.tells g.C.Read.remaining g.W.Write.contents c.admit.result c.in-Body.connection before after received c.admit.ensures.admits refl refl;
      none = λ no. absurd (true≢false no);
      watched = c.admit.ensures.watched;
    })

-- the Bye came
pub returns-in-Bye-clause-none : goal.returns-in-Bye-clause-none
returns-in-Bye-clause-none g c =
    let received = c.in-Ok.ensures.received ∙ ap (λ post. with_letter c.self.inside.inbox (letter c.in-Ok.letter.from post)) c.in-Bye.is in
    rw (← c.self.view_is)
    (λ _. inr (inl (record { from = c.in-Ok.letter.from; of_box = c.in-Ok.ensures.port; inbox = received; session = refl }, λ place. refl, refl, refl)))

-- nothing comes any more
pub returns-in-Err-Gone-clause-none : goal.returns-in-Err-Gone-clause-none
returns-in-Err-Gone-clause-none g c =
    rw (← c.self.view_is)
    (λ _. inr (inr (ap (λ (i : Incoming _). state c.self.inside.desk i c.self.inside.clients c.self.inside.sessions false) c.in-Err-Gone.ensures.received)))

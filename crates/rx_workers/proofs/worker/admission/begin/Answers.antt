-- The session stands where its connection was.
use Rattle.std.proofs.Common.{None, Some, refl}
use Rattle.rx_workers.specs.Talks.{silent}
use Rattle.rx_workers.specs.declared.worker.client.Client.TheVariants.{Talks}
use Rattle.rx_workers.specs.declared.worker.client.Talk.{Talk}
use Rattle.rx_workers.specs.declared.readiness.Aim.TheVariants.{Bytes}
use Rattle.rx_workers.proofs.Places.{Sets-then}
use Rattle.rx_workers.proofs.worker.admission.begin.Goals as goal

pub returns-clause-starts : goal.returns-clause-starts
returns-clause-starts g c =
    let reader = c.in-Some.reader in
    let writer = c.in-Some.writer in
    let talk : Talk g.row.C.Denot g.row.W.Denot g.row.T.Denot = record { reader = reader; writer = writer; session = c.in-Ok.session; aim = Bytes } in
    let stands = Sets-then c.args.place c.args.clients.now c.take_silent.new.self c.put.new.self (silent (reader, writer)) None (Some (Talks talk)) c.in-Some.ensures.taken c.put.ensures in
    ((reader, writer), (talk, record { reader_is = refl; writer_is = refl; is_new = c.in-Ok.ensures; aim_is = refl }, stands))

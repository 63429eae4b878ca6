use Rattle.std.proofs.Common.{refl}
use Rattle.rx_workers.specs.declared.worker.client.Talk.{Talk}
use Rattle.rx_workers.proofs.worker.parting.talks.Goals as goal

pub returns-clause-goes_on : goal.returns-clause-goes_on
returns-clause-goes_on g c =
    let talk : Talk g.row.C.Denot g.row.W.Denot g.row.T.Denot = record { reader = c.args.reader; writer = c.args.writer; session = c.args.session; aim = c.args.aim } in
    (talk, refl, record { reader_is = refl; writer_is = refl; session_is = refl })

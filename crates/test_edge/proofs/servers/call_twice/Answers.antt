use Rattle.rx_server.proofs.Desks.{desk-goes, keeps-then}
use Rattle.test_edge.proofs.servers.call_twice.Goals as goal

pub returns : goal.returns
returns g c =
    λ made is.
    let start = c.args.caller.desk in
    let joined = c.join-joined.new.self.desk in
    let emitted = c.emit-emitted.new.self.desk in
    c.finish_alone.ensures made (desk-goes made start emitted (keeps-then start joined emitted c.join-joined.ensures c.emit-emitted.ensures) is)

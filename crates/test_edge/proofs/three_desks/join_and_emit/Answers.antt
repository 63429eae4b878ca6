use Rattle.rx_server.proofs.Desks.{desk-goes, keeps-then}
use Rattle.test_edge.proofs.three_desks.join_and_emit.Goals as goal

pub returns : goal.returns
returns g c =
    λ made is.
    let start = c.args.caller.desk in
    let first = c.join_one.new.caller.desk in
    let second = c.join_one-2.new.caller.desk in
    c.emit_all.ensures made (desk-goes made start second (keeps-then start first second c.join_one.ensures c.join_one-2.ensures) is)

use Rattle.rx_server.proofs.Desks.{desk-goes, keeps-none, keeps-then}
use Rattle.test_edge.proofs.callers.emit_all.Goals as goal

pub loop-byte-init : goal.loop-byte-init
loop-byte-init g c = keeps-none c.args.caller.desk

pub loop-byte-preserved : goal.loop-byte-preserved
loop-byte-preserved g c = keeps-then c.args.caller.desk c.loop-byte.caller.desk c.emit_to_each.new.self.desk c.loop-byte.invariant c.emit_to_each.ensures

pub returns : goal.returns
returns g c = λ made is. c.finish.ensures made (desk-goes made c.args.caller.desk c.loop-byte.caller.desk c.loop-byte.invariant is)

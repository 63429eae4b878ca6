use Rattle.rx_proto.proofs.Exact.{script_read-spelled}
use Rattle.rx_script.proofs.script.Script.tell.Goals as goal

pub carry_out-requires : goal.carry_out-requires
carry_out-requires g c = script_read-spelled c.in-Some.line.now _ c.in-Ok.ensures

pub carry_out_other-requires : goal.carry_out_other-requires
carry_out_other-requires g c = script_read-spelled c.in-Some.line.now _ c.in-Ok.ensures

use Rattle.rx_script.proofs.Turning.{quit_tells}
use Rattle.rx_script.proofs.script.Script.tell_on.Goals as goal

pub returns-in-Ok-Quit : goal.returns-in-Ok-Quit
returns-in-Ok-Quit g c = quit_tells c.quit.result _ _ _ _ _ _ _ c.in-Ok-Quit.field-0 c.in-Ok-Quit.field-0-is c.quit.ensures c.in-Ok-Quit.ensures

use Rattle.rx_lines.proofs.Blocks.{IsWindow-found, HasLfAt-found, IsWindow-searched, HasNoLf-searched}
use Rattle.rx_lines.proofs.window.Window.find_lf.Goals as goal

pub invariant_of-self : goal.invariant_of-self
invariant_of-self c = IsWindow-found _ _ _ _ _ c.self.invariant c.self.told c.in-Some.ensures

pub invariant_of-self-in-None : goal.invariant_of-self-in-None
invariant_of-self-in-None c = IsWindow-searched _ _ _ _ c.self.invariant c.in-None.ensures

pub returns-in-Some-clause-found : goal.returns-in-Some-clause-found
returns-in-Some-clause-found c = HasLfAt-found _ _ _ _ _ c.self.invariant c.self.told c.in-Some.ensures

pub returns-in-None-clause-found : goal.returns-in-None-clause-found
returns-in-None-clause-found c = HasNoLf-searched _ _ _ _ c.self.invariant c.in-None.ensures

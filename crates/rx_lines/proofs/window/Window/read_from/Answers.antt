use Rattle.std.proofs.Common.{◌-◌}
use Rattle.rx_lines.proofs.Blocks.{IsReady, IsReady-moved, IsReady-read, IsRead}
use Rattle.rx_lines.proofs.window.Window.read_from.Given.{Over}
use Rattle.rx_lines.proofs.window.Window.read_from.Goals as goal

-- what the read put behind the window, which had room for it
put : (g : Over) (c : goal.After-self-4-1 g)
    → (let i = c.self.inside in IsRead c.read-result.result (g.R.Read.remaining c.args.reader.now) (g.R.Read.remaining c.read-result.new.self) c.copy_within.new.self 0 (i.searched - i.start) (i.end - i.start) c.args.self.now c.read-result.new.buf)
put g c =
    let i = c.self.inside in
    let moved = c.copy_within.new.self in
    let now = c.args.self.now in
    let ready : IsReady moved 0 (i.searched - i.start) (i.end - i.start) now =
    IsReady-moved i now moved c.self.invariant c.self.told c.self.view_is c.requires c.copy_within.ensures.after c.copy_within.ensures.len in
    IsReady-read c.read-result.result _ _ moved 0 (i.searched - i.start) (i.end - i.start) now c.read-result.new.buf ready c.read-result.auto.buf c.read-result.ensures.bound c.read-result.ensures.bytes

pub invariant_of-self : goal.invariant_of-self
invariant_of-self g c = rw c.count_of.ensures (put g c).window

pub returns-clause-fills : goal.returns-clause-fills
returns-clause-fills g c = rw c.count_of.ensures (put g c).fills

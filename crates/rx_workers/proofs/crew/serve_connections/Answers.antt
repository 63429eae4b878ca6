use Rattle.std.proofs.Common.{◌≡◌, subst, ℕ, ◌<◌, IfSome, length, vec_len, arith}
use Rattle.std.proofs.lemmas.Bool.Decides.{nat_tests}
use Rattle.std.proofs.lemmas.Slice.Zip.{AllZip-long}
use Rattle.std.specs.Arc.{arc_value}
use Rattle.rx_pump.specs.Desks.{KeepsDesk}
use Rattle.rx_workers.proofs.Crews.{kept_same}
use Rattle.rx_workers.specs.Service.{surroundings}
use Rattle.rx_workers.specs.Workers.{peers}
use Rattle.rx_workers.proofs.Service.{ended_so}
use Rattle.rx_workers.proofs.crew.serve_connections.Goals as goal

-- no worker was hired
pub returns-in_default-clause-desks : goal.returns-in_default-clause-desks
returns-in_default-clause-desks g c = kept_same c.args.desks.now.items

pub returns-in_err-watch_all-clause-desks : goal.returns-in_err-watch_all-clause-desks
returns-in_err-watch_all-clause-desks g c = kept_same c.args.desks.now.items

-- how it ended, by how dealing did and who was lost
pub returns-clause-served : goal.returns-clause-served
returns-clause-served g c =
    let dealt = c.deal_all-dealt in
    let ended = c.end_all-lost in
    let config = arc_value c.args.config.now in
    let count = AllZip-long KeepsDesk c.args.desks.now.items ended.new.desks.items (ended.ensures.desks c.args.desks.now.items dealt.ensures.out) in
    let some : 0 < vec_len c.args.desks.now = grind (arith, nat_tests, c.is_empty.ensures, c.if-is_empty.false) in
    let same : vec_len ended.new.desks ≡ length ended.new.desks.items = omega (arith, ended.new.desks.ok.0) in
    ended_so (surroundings g.L.Listener.accepts g.L.Listener.fails (peers g.M.Moments.tells _ _)) config dealt.result c.with_lost.result ended.result c.args.listener.now dealt.new.listener
    c.args.desks.now.items dealt.new.desks.items ended.new.desks.items dealt.new.workers.items dealt.new.ports.items
    (omega (arith, some, c.args.desks.now.ok.0)) count dealt.ensures.out (subst (λ (n : ℕ). IfSome ended.result (λ place. place < n)) same ended.ensures.lost) dealt.ensures.dealt
    (λ unlost none xs deals. ended.ensures.served unlost none config xs dealt.ensures.new deals)
    (λ place lost none xs deals. ended.ensures.first place lost none config xs dealt.ensures.new deals) c.with_lost.ensures

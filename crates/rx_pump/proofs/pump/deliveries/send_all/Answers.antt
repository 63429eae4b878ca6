use Rattle.std.proofs.Common.{map, option_to_list}
use Rattle.std.proofs.lemmas.Result.{err_from_is_err_and}
use Rattle.rx_mailbox.specs.Boxes.{all_told}
use Rattle.rx_pump.specs.Marks.{give}
use Rattle.rx_pump.proofs.Putting.{PutsFor-then, StopsAt-then, StopsAt-more, SendsAll-then}
use Rattle.rx_pump.proofs.pump.deliveries.send_all.Goals as goal

pub returns-in_err-send_any : goal.returns-in_err-send_any
returns-in_err-send_any g c =
    let p = err_from_is_err_and c.from_residual.result c.from_residual.ensures.1 in
    let ports = all_told c.args.drainers.now.items in
    let place = c.in_err-send_any.field-0.0 in
    rw (p.1, p.2)
    (StopsAt-more _ (option_to_list c.args.last) place ports (all_told c.send_any.new.drainers.items)
    (StopsAt-more _ (map give c.args.outs.now.items) place ports (all_told c.send_any.new.drainers.items) c.in_err-send_any.ensures))

pub returns-in_err-give_all : goal.returns-in_err-give_all
returns-in_err-give_all g c =
    let p = err_from_is_err_and c.from_residual-in_err-give_all.result c.from_residual-in_err-give_all.ensures.1 in
    let ports = all_told c.args.drainers.now.items in
    let place = c.in_err-give_all.field-0.0 in
    rw (p.1, p.2)
    (StopsAt-more _ (option_to_list c.args.last) place ports (all_told c.give_all.new.drainers.items)
    (StopsAt-then _ _ place ports (all_told c.send_any.new.drainers.items) (all_told c.give_all.new.drainers.items) c.in_ok-send_any.ensures c.in_err-give_all.ensures))

pub returns : goal.returns
returns g c =
    let ports = all_told c.args.drainers.now.items in
    SendsAll-then _ _ c.send_any-2.result ports (all_told c.give_all.new.drainers.items) (all_told c.send_any-2.new.drainers.items)
    (PutsFor-then _ _ ports (all_told c.send_any.new.drainers.items) (all_told c.give_all.new.drainers.items) c.in_ok-send_any.ensures c.in_ok-give_all.ensures) c.send_any-2.ensures

use Rattle.std.proofs.Common.{◌≡◌, ap, ◌∙◌, sym}
use Rattle.rx_tape.specs.Tapes.{place_of, waits}
use Rattle.rx_lane.specs.TapeLanes.{lane_on}
use Rattle.rx_hub.proofs.Seats.{leaves_others}
use Rattle.rx_hub.proofs.Serving.{begins_so}
use Rattle.rx_hub.proofs.seat.Seat.open.Goals as goal

pub returns-in_ok-lane-in-Buffer : goal.returns-in_ok-lane-in-Buffer
returns-in_ok-lane-in-Buffer c =
    let lane = c.in_ok-lane-in-Buffer.lane in
    let made = c.in_ok-lane-in-Buffer.ensures in
    let tape = c.args.tape.now in
    record {
      err = tt;
      begins = begins_so (lane_on c.open_for.new.tape.items lane) c.args.joiner (waits c.args.lead tape.items c.args.back) c.args.outs.now.items c.open_for.new.outs.items made.begins;
      stands = made.stands_back;
      «open» = λ other. made.policy.1;
      fresh = λ cursor is. let same : lane.cursor ≡ cursor = cc in ap (place_of tape.places) (sym same) ∙ made.fresh;
      leaves = leaves_others tape c.open_for.new.tape lane.cursor made.spares;
      count = made.count;
      capacity = c.open_for.ensures.capacity;
    }

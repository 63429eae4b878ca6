use Rattle.std.proofs.Common.{Option}
use Rattle.std.proofs.Common.{map, option_to_list, sym, subst}
use Rattle.rx_note.specs.declared.item.Item.{Item}
use Rattle.rx_note.specs.declared.note.Note.TheVariants.{Next}
use Rattle.rx_note.specs.Signals.{Offered}
use Rattle.rx_lane.specs.Lanes.{Gives}
use Rattle.rx_lane.specs.TapeLanes.{lane_on}
use Rattle.rx_lane.proofs.tape_lane.TapeLane.offer.Goals as goal

pub returns-clause-offers : goal.returns-clause-offers
returns-clause-offers c =
    let passes = c.pass.ensures.passes in
    record {
      gives = λ items item tape_is copy_is.
          subst (λ (o : Option Item). Gives (lane_on items c.args.self.now) (Offered item) (map Next (option_to_list o))) (sym copy_is) (passes.gives items item tape_is);
      stands = λ items item tape_is copy_is. passes.stands items item tape_is;
    }

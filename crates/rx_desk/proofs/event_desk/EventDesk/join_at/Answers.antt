-- From where its reader begins it joins.
use Rattle.rx_desk.proofs.event_desk.EventDesk.join_at.Goals as goal

pub returns : goal.returns
returns g c = record {
  mid = c.begin_at-first.new.self;
  first = c.begin_at-first.result;
  begins = c.begin_at-first.ensures.begins;
  does = c.join_from.ensures;
}

use Rattle.std.proofs.Common.{◌≡◌, vec_len, reverse}
use Rattle.rx_sink.specs.Rests.{HasRoomFor}
use Rattle.rx_sink.proofs.Tending.{Emptied}
use Rattle.rx_sink.proofs.kept_sinks.put_all_away.Given as goal

-- the sinks before those that are left were put away, and there is room for the rest
abbrev pub invariant-loop-one : goal.invariant-loop-one
invariant-loop-one g l = record {
  room : HasRoomFor (vec_len l.kept) l.away;
  keeps : l.away.keeps ≡ l.initial.away.keeps;
  emptied : Emptied g.S.Sink.acts (reverse l.initial.kept.items) l.kept.items l.initial.away.items l.away.items;
}

abbrev pub decreases-loop-one : goal.decreases-loop-one
decreases-loop-one g l = vec_len l.kept

-- An exchange whose server others call too, between its turns: it is asked as it then is.
use Rattle.std.specs.Prelude.{◌≡◌, List, ℕ, true, Option}
use Rattle.rx_session.specs.declared.turn.Turn.{Turn}
use Rattle.rx_exchange.specs.Exchanges.{OnlySends, Sits, Sitting}
use Rattle.rx_exchange.specs.Meetings.{Parties}
use Rattle.rx_exchange.specs.declared.exchange.Exchange.{Exchange}

module _ {D W : Type 0} (p : Parties D W) where
  -- the calls of a server that others may have called before
  abbrev pub among : Parties D W
  among = record {
    since = λ desk epoch. (now : D) × p.since now epoch;
    looks = λ desk well. (now : D) × p.looks now well;
    joins = λ desk name policy credit begin writer joining after. (now : D) × p.joins now name policy credit begin writer joining after;
    emits = λ desk name kind text key emitted after. (now : D) × p.emits now name kind text key emitted after;
    emits_lines = λ desk name body told after. (now : D) × p.emits_lines now name body told after;
    requests = λ desk name observer items asked after. (now : D) × p.requests now name observer items asked after;
    shows = λ desk form shown after. (now : D) × p.shows now form shown after;
    stops = λ desk within stopped after. (now : D) × p.stops now within stopped after;
    contents = p.contents;
  }

  -- ONE EXCHANGE AMONG OTHERS: with other calls of the server between its turns, these are turns of an exchange whose server others call
  -- too; here one turn more, from wherever that stood and whatever the server is by then
  abbrev pub JoinsTurns : Type 0
  JoinsTurns =
      (start : D) (first : W) (read_old read_now read_new : Option (List ℕ)) (then desk desk_after : D) (writer : W) (exchange exchange_after : Exchange) (result : Turn W)
      → Sitting among start first read_old read_now then writer exchange
      → (exchange.answered ≡ true → OnlySends p.contents result read_now read_new writer exchange_after)
      → ((from : D) (begun : W) (known : Option (List ℕ)) → Sitting p from begun known read_now desk writer exchange → Sits p result from begun known read_new desk_after exchange_after)
      → (now : D) × Sits among result start first read_old read_new now exchange_after

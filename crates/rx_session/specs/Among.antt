-- A session whose desk others call too, between its lines: each line is asked of the desk as it then is.
use Rattle.rx_session.specs.Sessions.{Parties, Place}

module _ {D W : Type 0} where
  -- the calls of a desk that others may have called before
  abbrev pub among : Parties D W → Parties D W
  among p = record {
    knows = λ desk name. (now : D) × p.knows now name;
    emits = λ desk name note response after. (now : D) × p.emits now name note response after;
    follows = λ desk name policy version writer result after. (now : D) × p.follows now name policy version writer result after;
    contents = p.contents;
  }

  -- the same place at another desk
  abbrev pub moved : Place D W → D → Place D W
  moved at desk = record at { desk = desk }

-- A server at every moment.
use Rattle.std.proofs.Common.{◌≡◌, ◌∙◌, refl, sym, ap, subst, ℕ, ◌+◌, ◌<◌, ◌≤◌, List, [], ◌++◌, append_assoc, append-nil, length, option_to_list, Option, None, Some, IfSome, arith}
use Rattle.std.proofs.lemmas.List.Elements.{All-append, All-head, All-nil}
use Rattle.std.specs.List.{All}
use Rattle.rx_config.specs.declared.config.Config.{Config}
use Rattle.rx_pump.specs.declared.call_desk.ended_desk.EndedDesk.{EndedDesk}
use Rattle.rx_pump.specs.Desks.{DeskView}
use Rattle.rx_workers.specs.Crews.{IsFor}
use Rattle.rx_server.specs.declared.close.rooms.Rooms.{Rooms}
use Rattle.rx_server.specs.Rooms.{AreRooms}
use Rattle.rx_server.specs.Servers.{IsDeskOf, IsEndOf, IsWhole, RunsOn, ServerView, server_of}
use Rattle.rx_server.proofs.Desks.{desks-left}
use Rattle.rx_server.proofs.Joining.{desks-fit}
use Rattle.rx_server.proofs.Returning.{All-back}

-- what holds of all holds of the first, if there is one
pub All-next : {X : Type 0} (P : X → Type 0) (first : Option X) (rest : List X) → All P (option_to_list first ++ rest) → IfSome first P
All-next P None rest all = tt
All-next P (Some x) rest all = All-head P x rest all

-- and so does what follows from it
pub Some-weaker : {X : Type 0} (P Q : X → Type 0) (first : Option X) → ((x : X) → P x → Q x) → IfSome first P → IfSome first Q
Some-weaker P Q None weaker some = tt
Some-weaker P Q (Some x) weaker some = weaker x some

module _ {S Rest : Type 0} (server : ServerView S Rest) (whole : IsWhole server) where
  -- the desks that were not handed out are its own
  pub desks-own : All (IsDeskOf server.made) server.desks
  desks-own = desks-left whole.wiring server.made whole.handed server.desks whole.wired.desks_are whole.parts

  -- and have a port for each subject
  pub desks-for : All (IsFor server.config) server.desks
  desks-for =
      All-back (IsFor server.config) whole.handed server.desks
      (subst (All (IsFor server.config)) whole.parts (desks-fit server.config whole.wiring server.made whole.wired.desks_are whole.wired.boxes.subjects))

  -- it stays whole where some desks are handed out, and some that have ended are kept
  pub whole-after : (first rest : List (DeskView S)) (more : List (EndedDesk S)) → server.desks ≡ first ++ rest → All (IsEndOf server.made) more
      → IsWhole (server_of server.config server.pumps server.drainers server.leaves server.made rest (server.kept ++ more))
  whole-after first rest more cut ended = record {
    wiring = whole.wiring;
    hubs = whole.hubs;
    keeps = whole.keeps;
    wired = whole.wired;
    handed = whole.handed ++ first;
    parts = whole.parts ∙ ap (λ (l : List (DeskView S)). whole.handed ++ l) cut ∙ sym (append_assoc whole.handed first rest);
    ended = All-append (IsEndOf server.made) server.kept more whole.ended ended;
    some = whole.some;
  }

  pub whole-next : (first rest : List (DeskView S)) → server.desks ≡ first ++ rest
      → IsWhole (server_of server.config server.pumps server.drainers server.leaves server.made rest server.kept)
  whole-next first rest cut = record {
    wiring = whole.wiring;
    hubs = whole.hubs;
    keeps = whole.keeps;
    wired = whole.wired;
    handed = whole.handed ++ first;
    parts = whole.parts ∙ ap (λ (l : List (DeskView S)). whole.handed ++ l) cut ∙ sym (append_assoc whole.handed first rest);
    ended = whole.ended;
    some = whole.some;
  }

-- a desk for so many subjects has a port
pub for-some : {S : Type 0} (config : Config) → 0 < length config.subjects.items → (desk : DeskView S) → IsFor config desk → 0 < length desk.ports + length desk.ended
for-some config some desk is = omega (arith, some, is)

module _ {S Rest : Type 0} where
  -- fewer are still to end
  pub rooms-less : (pumps drainers desks to_end fewer : ℕ) (rooms : Rooms S Rest) → fewer ≤ to_end → AreRooms pumps drainers desks to_end rooms → AreRooms pumps drainers desks fewer rooms
  rooms-less pumps drainers desks to_end fewer rooms less fit = record {
    no_leaves = fit.no_leaves;
    no_pumps = fit.no_pumps;
    no_drainers = fit.no_drainers;
    no_subjects = fit.no_subjects;
    none_put_away = fit.none_put_away;
    desks_fit = omega (arith, fit.desks_fit, less);
    leaves_fit = fit.leaves_fit;
    pumps_fit = fit.pumps_fit;
    drainers_fit = fit.drainers_fit;
    subjects_fit = fit.subjects_fit;
    put_away_fits = fit.put_away_fits;
    nothing_came = fit.nothing_came;
    none_settled = fit.none_settled;
  }

module _ {S Rest : Type 0} where
  -- nothing was done
  pub runs-still : (server : ServerView S Rest) → RunsOn server server
  runs-still server = record {
    config = refl;
    pumps = refl;
    drainers = refl;
    leaves = refl;
    made = refl;
    handed = [];
    desks = refl;
    more = [];
    kept = sym (append-nil server.kept);
    ended = All-nil (IsEndOf server.made);
  }

  -- the desks of its workers have ended
  pub rooms-kept : (pumps drainers desks to_end none : ℕ) (rooms kept : Rooms S Rest) → none ≡ 0 → AreRooms pumps drainers desks to_end rooms
      → AreRooms pumps drainers desks none (record {
        desks = kept.desks;
        leaves = rooms.leaves;
        pumps = rooms.pumps;
        drainers = rooms.drainers;
        subjects = rooms.subjects;
        put_away = rooms.put_away;
        returned = rooms.returned;
        settled = rooms.settled;
      })
  rooms-kept pumps drainers desks to_end none rooms kept over fit = record {
    no_leaves = fit.no_leaves;
    no_pumps = fit.no_pumps;
    no_drainers = fit.no_drainers;
    no_subjects = fit.no_subjects;
    none_put_away = fit.none_put_away;
    desks_fit = omega (arith, kept.desks.ok, over);
    leaves_fit = fit.leaves_fit;
    pumps_fit = fit.pumps_fit;
    drainers_fit = fit.drainers_fit;
    subjects_fit = fit.subjects_fit;
    put_away_fits = fit.put_away_fits;
    nothing_came = fit.nothing_came;
    none_settled = fit.none_settled;
  }

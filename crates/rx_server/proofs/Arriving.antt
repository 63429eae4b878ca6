-- What arrived of a server's letters once it is closed.
use Rattle.std.proofs.Common.{◌≡◌, ◌∙◌, sym, ap, subst, ℕ, zero, suc, ◌==◌, List, [], ◌∷◌, ◌++◌, length, Some, slice_get}
use Rattle.std.proofs.lemmas.List.Elements.{All-contains, All-head, All-tail, filter-append}
use Rattle.std.proofs.lemmas.Option.{slice_get_within}
use Rattle.std.specs.List.{All, AllZip, zip}
use Rattle.rx_mailbox.specs.declared.letter.Post.TheVariants.{Bye}
use Rattle.rx_mailbox.specs.declared.letter.Letter.{Letter}
use Rattle.rx_mailbox.specs.Boxes.{Incoming, Outgoing}
use Rattle.rx_mailbox.specs.Letters.{letter, posts, share}
use Rattle.rx_mailbox.specs.Passes.{SettledView, inbox_in}
use Rattle.rx_mailbox.specs.Settling.{GotAll}
use Rattle.rx_pump.specs.declared.call.Call.{Call}
use Rattle.rx_pump.specs.declared.call_desk.ended_desk.EndedDesk.{EndedDesk}
use Rattle.rx_pump.specs.declared.out.Out.{Out}
use Rattle.rx_pump.specs.declared.pump.pump_end.PumpEnd.{PumpEnd}
use Rattle.rx_pump.specs.declared.reply.Reply.{Reply}
use Rattle.rx_pump.specs.Marks.{Marked, letters_of, route}
use Rattle.rx_pump.specs.Opened.{opened}
use Rattle.rx_pump.proofs.Pumping.{AreSame-length}
use Rattle.rx_pump.proofs.Shares.{share-opened, silent-share, told-share}
use Rattle.rx_pump.specs.Pumps.{PumpView}
use Rattle.rx_pump.specs.Serving.{PumpServes}
use Rattle.rx_drain.specs.declared.drainer.drain_end.DrainEnd.{DrainEnd}
use Rattle.rx_sink.specs.Acts.{Acts}
use Rattle.rx_server.specs.Arriving.{EachDeskIsAnswered, EachLetterArrives, EachRequestArrives}
use Rattle.rx_server.specs.declared.close.report.Report.{Report}
use Rattle.rx_server.specs.Servers.{AreRepliesOf, Closes, GotEach, ServerView}

-- what holds of each pair holds of the one at a place
pub zip-at : {A B : Type 0} (R : A → B → Type 0) (xs : List A) (ys : List B) (i : ℕ) (x : A) (y : B) → AllZip R xs ys → slice_get xs i ≡ Some x → slice_get ys i ≡ Some y → R x y
zip-at R [] ys i x y all at_x at_y = cc
zip-at R (a ∷ xs) [] i x y all at_x at_y = cc
zip-at R (a ∷ xs) (b ∷ ys) zero x y all at_x at_y =
    let first : a ≡ x = cc in
    let second : b ≡ y = cc in
    subst (R x) second (subst (λ z. R z b) first all.0)
zip-at R (a ∷ xs) (b ∷ ys) (suc i) x y all at_x at_y = zip-at R xs ys i x y all.1 at_x at_y

pub all-at : {A : Type 0} (P : A → Type 0) (xs : List A) (i : ℕ) (x : A) → All P xs → slice_get xs i ≡ Some x → P x
all-at P [] i x all at = cc
all-at P (a ∷ xs) zero x all at = let first : a ≡ x = cc in subst P first (All-head P a xs all)
all-at P (a ∷ xs) (suc i) x all at = all-at P xs i x (All-tail P a xs all) at

pub pair-at : {A B : Type 0} (xs : List A) (ys : List B) (i : ℕ) (x : A) (y : B) → slice_get xs i ≡ Some x → slice_get ys i ≡ Some y → slice_get (zip xs ys) i ≡ Some (x, y)
pair-at [] ys i x y at_x at_y = cc
pair-at (a ∷ xs) [] i x y at_x at_y = cc
pair-at (a ∷ xs) (b ∷ ys) zero x y at_x at_y = let first : a ≡ x = cc in let second : b ≡ y = cc in cc
pair-at (a ∷ xs) (b ∷ ys) (suc i) x y at_x at_y = pair-at xs ys i x y at_x at_y

-- what the box of each drainer received of a pump is the drainer's route and a Bye
pub route_came : {S Rest : Type 0} (acts : Acts S Rest) (server : ServerView S Rest) (ended : List (EndedDesk S)) (report : Report S Rest) (closes : Closes acts server ended report)
    → (i : ℕ) (pump : PumpView S) (end : PumpEnd S) (B : Marked S) → slice_get server.pumps i ≡ Some pump → slice_get closes.pump_ends i ≡ Some end → slice_get closes.marks i ≡ Some B
    → (d : ℕ) (port : Outgoing (Out S)) (outs : SettledView (Out S)) → slice_get end.drainers.items d ≡ Some port → slice_get report.boxes.drainers.items d ≡ Some outs
    → share port.number outs.received ≡ posts port.number (route pump.hub.state.rules (length pump.drainers) d B) ++ letter port.number Bye ∷ []
route_came {S = S} acts server ended report closes i pump end B at_pump at_end at_marks d port outs at_port at_outs =
    let serves = zip-at (λ (pump : PumpView S) (x : PumpEnd S × Marked S). PumpServes pump x.0 x.1) server.pumps (zip closes.pump_ends closes.marks) i pump (end, B) closes.pumped at_pump
    (pair-at closes.pump_ends closes.marks i end B at_end at_marks) in
    let got = all-at (λ (end : PumpEnd S). GotEach report.boxes.drainers.items end.drainers.items) closes.pump_ends i end closes.settled.to_drainers at_end in
    zip-at (λ (box : SettledView (Out S)) (port : Outgoing (Out S)). GotAll (inbox_in box) port) report.boxes.drainers.items end.drainers.items d outs port got at_outs at_port
    ∙ serves.routed d port at_port

pub arrives : {S Rest : Type 0} (acts : Acts S Rest) → EachLetterArrives acts
arrives {S = S} acts server ended report closes i pump end B box at_pump at_end at_marks at_box =
    let serves = zip-at (λ (pump : PumpView S) (x : PumpEnd S × Marked S). PumpServes pump x.0 x.1) server.pumps (zip closes.pump_ends closes.marks) i pump (end, B) closes.pumped at_pump
    (pair-at closes.pump_ends closes.marks i end B at_end at_marks) in
    let settled = closes.settled in
    let same = zip-at (λ (end : PumpEnd S) (box : SettledView (Call S)). inbox_in box ≡ end.inbox) closes.pump_ends report.boxes.subjects.items i end box settled.of_pumps at_end at_box in
    let answers_got = all-at (λ (end : PumpEnd S). GotEach report.boxes.replies.items end.replies.items) closes.pump_ends i end settled.to_desks at_end in
    record {
      letters = serves.accounts.letters
          ∙ ap (λ n. opened n end.inbox.received) (sym (AreSame-length pump.replies end.replies.items serves.callers))
          ∙ ap (λ inbox. opened (length end.replies.items) inbox.received) (sym same);
      routes = λ d port outs at_port at_outs. route_came acts server ended report closes i pump end B at_pump at_end at_marks d port outs at_port at_outs;
      replied = λ w port answers at_port at_answers.
          zip-at (λ (box : SettledView (Reply S)) (port : Outgoing (Reply S)). GotAll (inbox_in box) port) report.boxes.replies.items end.replies.items w answers port answers_got at_answers at_port
          ∙ serves.replied w port at_port;
    }

pub answered : {S Rest : Type 0} (acts : Acts S Rest) → EachDeskIsAnswered acts
answered {S = S} acts server ended report closes i pump end B box at_pump at_end at_marks at_box desk port back within at_port at_back =
    let settled = closes.settled in
    let desks = ended ++ (server.kept ++ closes.finished) in
    let arrived = arrives acts server ended report closes i pump end B box at_pump at_end at_marks at_box in
    let got = All-contains (λ (one : EndedDesk S). GotEach report.boxes.subjects.items one.ports.items) desks desk settled.by_desks within in
    let mine = zip-at (λ (box : SettledView (Call S)) (port : Outgoing (Call S)). GotAll (inbox_in box) port) report.boxes.subjects.items desk.ports.items i box port got at_box at_port in
    let told = All-contains (AreRepliesOf report.boxes.replies.items) desks desk settled.of_desks within in
    let number : port.number ≡ told.number = all-at (λ (one : Outgoing (Call S)). one.number ≡ told.number) desk.ports.items i port told.ports at_port in
    let stood : slice_get report.boxes.replies.items port.number ≡ Some told.box = ap (slice_get report.boxes.replies.items) number ∙ told.stood in
    record {
      calls = ap (share port.number) arrived.letters ∙ share-opened port.number (length end.replies.items) box.received
          ∙ told-share port.number (length end.replies.items) box.received (slice_get_within end.replies.items port.number back at_back) ∙ mine;
      more = share back.number told.received.more;
      came =
          sym (filter-append (λ (x : Letter (Reply S)). x.from == back.number) desk.inbox.received told.received.more)
          ∙ ap (λ (inbox : Incoming (Reply S)). share back.number inbox.received) (sym told.received.received)
          ∙ arrived.replied port.number back told.box at_back stood;
    }

pub requested : {S Rest : Type 0} (acts : Acts S Rest) → EachRequestArrives acts
requested {S = S} {Rest = Rest} acts server ended report closes i pump end B box at_pump at_end at_marks at_box drainer port within at_port =
    let arrived = arrives acts server ended report closes i pump end B box at_pump at_end at_marks at_box in
    let got = All-contains (λ (one : DrainEnd S Rest). GotEach report.boxes.subjects.items one.ports.items) closes.drain_ends drainer closes.settled.by_drainers within in
    let callers = length end.replies.items in
    let mine = zip-at (λ (box : SettledView (Call S)) (port : Outgoing (Call S)). GotAll (inbox_in box) port) report.boxes.subjects.items drainer.ports.items i box port got at_box at_port in
    let first = ap (share port.number) arrived.letters ∙ share-opened port.number callers box.received in (
      first ∙ ap (opened callers) mine,
      λ silent. first ∙ silent-share port.number callers box.received silent ∙ ap (opened 0) mine,
    )

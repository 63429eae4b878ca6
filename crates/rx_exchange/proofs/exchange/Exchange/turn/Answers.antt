use Rattle.std.proofs.Common.{◌≡◌, ℕ, Bool, List, Result, drop, take, refl, subst, sym}
use Rattle.rx_http.specs.declared.answer.refusal.Refusal.{Refusal}
use Rattle.rx_http.specs.declared.request.asked.Asked.{Asked}
use Rattle.rx_exchange.specs.Coming.{AsksFor}
use Rattle.rx_http.specs.Answers.{answer_bytes}
use Rattle.rx_exchange.specs.Exchanges.{IsOpen}
use Rattle.rx_exchange.specs.Meetings.{parties}
use Rattle.rx_exchange.proofs.Turning.{ends-so, has-met, listens-kept, listens-more, sits-told, tells-sent}
use Rattle.rx_exchange.proofs.exchange.Exchange.turn.Goals as goal

-- the text that was met stands among the bytes
asked-with : (bytes behind : List ℕ) (asked : Result Asked Refusal) (from size : ℕ) → behind ≡ drop from bytes → AsksFor bytes asked (take size (drop from bytes))
    → AsksFor bytes asked (take size behind)
asked-with bytes behind asked from size is asks = subst (λ l. AsksFor bytes asked (take size l)) (sym is) asks

pub returns-then-self-clause-sits : goal.returns-then-self-clause-sits
returns-then-self-clause-sits g c = λ start first read_old sitting.
    let p = parties g.D.Front.since g.D.Front.looks g.D.Front.joins g.D.Front.emits g.D.Front.emits_lines g.D.Front.requests g.D.Front.shows g.D.Front.stops g.W.Write.contents in
    let told = subst (λ (b : Bool). IsOpen p start first read_old (g.R.Read.remaining c.args.reader.now) c.args.desk.now c.args.writer b c.args.self.now.head) c.if-self.true sitting in
    sits-told p start first read_old c.send.result _ _ told.back told.answer c.args.self.now c.if-self.true told.met
    (tells-sent p.contents c.send.result told.back c.args.writer (answer_bytes told.answer) told.told c.send.ensures)

pub returns-in-End-clause-sits : goal.returns-in-End-clause-sits
returns-in-End-clause-sits g c = λ start first read_old sitting.
    let p = parties g.D.Front.since g.D.Front.looks g.D.Front.joins g.D.Front.emits g.D.Front.emits_lines g.D.Front.requests g.D.Front.shows g.D.Front.stops g.W.Write.contents in
    let listens = subst (λ (b : Bool). IsOpen p start first read_old (g.R.Read.remaining c.args.reader.now) c.args.desk.now c.args.writer b c.args.self.now.head) c.if-self.false sitting in
    let brings = c.in-End.ensures in
    ends-so p start first read_old c.in-End.end _ _ _ _ (listens-more p start first read_old _ _ _ _ _ _ listens brings (brings.said.0.0 listens.partly)) brings.said.1

pub returns-in-Some-clause-sits : goal.returns-in-Some-clause-sits
returns-in-Some-clause-sits g c = λ start first read_old sitting.
    let p = parties g.D.Front.since g.D.Front.looks g.D.Front.joins g.D.Front.emits g.D.Front.emits_lines g.D.Front.requests g.D.Front.shows g.D.Front.stops g.W.Write.contents in
    let listens = subst (λ (b : Bool). IsOpen p start first read_old (g.R.Read.remaining c.args.reader.now) c.args.desk.now c.args.writer b c.args.self.now.head) c.if-self.false sitting in
    let met = has-met p start first read_old _ _ _ _ _ _ _ c.in-Asks.asked _ _ listens c.in-Asks.ensures (asked-with _ _ _ _ _ c.behind.ensures c.in-Asks.ensures.said.1) c.in-Some.ensures in
    sits-told p start first read_old c.tell.result _ _ c.in-Some.writer c.in-Some.answer _ refl met c.tell.ensures

pub returns-in-None-clause-sits : goal.returns-in-None-clause-sits
returns-in-None-clause-sits g c = λ start first read_old sitting.
    let p = parties g.D.Front.since g.D.Front.looks g.D.Front.joins g.D.Front.emits g.D.Front.emits_lines g.D.Front.requests g.D.Front.shows g.D.Front.stops g.W.Write.contents in
    let listens = subst (λ (b : Bool). IsOpen p start first read_old (g.R.Read.remaining c.args.reader.now) c.args.desk.now c.args.writer b c.args.self.now.head) c.if-self.false sitting in
    (refl, has-met p start first read_old _ _ _ _ _ _ _ c.in-Asks.asked _ _ listens c.in-Asks.ensures (asked-with _ _ _ _ _ c.behind.ensures c.in-Asks.ensures.said.1) c.in-None.ensures)

pub returns-in-Partly-clause-sits : goal.returns-in-Partly-clause-sits
returns-in-Partly-clause-sits g c = λ start first read_old sitting.
    let p = parties g.D.Front.since g.D.Front.looks g.D.Front.joins g.D.Front.emits g.D.Front.emits_lines g.D.Front.requests g.D.Front.shows g.D.Front.stops g.W.Write.contents in
    let listens = subst (λ (b : Bool). IsOpen p start first read_old (g.R.Read.remaining c.args.reader.now) c.args.desk.now c.args.writer b c.args.self.now.head) c.if-self.false sitting in
    let brings = c.in-Partly.ensures in
    subst (λ (b : Bool). IsOpen p start first read_old (g.R.Read.remaining c.come.new.reader) c.args.desk.now c.args.writer b c.come.new.head) (sym c.if-self.false)
    (listens-more p start first read_old _ _ _ _ _ _ listens brings (brings.said.0 listens.partly))

pub returns-in-Nothing-clause-sits : goal.returns-in-Nothing-clause-sits
returns-in-Nothing-clause-sits g c = λ start first read_old sitting.
    let p = parties g.D.Front.since g.D.Front.looks g.D.Front.joins g.D.Front.emits g.D.Front.emits_lines g.D.Front.requests g.D.Front.shows g.D.Front.stops g.W.Write.contents in
    let listens = subst (λ (b : Bool). IsOpen p start first read_old (g.R.Read.remaining c.args.reader.now) c.args.desk.now c.args.writer b c.args.self.now.head) c.if-self.false sitting in
    let kept = c.in-Nothing.ensures in
    subst (λ (b : Bool). IsOpen p start first read_old (g.R.Read.remaining c.come.new.reader) c.args.desk.now c.args.writer b c.come.new.head) (sym c.if-self.false)
    (listens-kept p start first read_old _ _ _ _ _ _ listens kept.0 kept.1)

-- Each line is accepted behind those before, or is the first that is refused.
use Rattle.std.proofs.Common.{◌++◌, ◌∷◌, ◌∙◌, ℕ, List, [], length, length-append, refl, ap, subst, sym, arith}
use Rattle.rx_http.specs.BodyLines.{lines_of}
use Rattle.rx_desk.specs.LineEmissions.{Accepts}
use Rattle.rx_desk.proofs.LineEmissions.{accepts-many, accepts-more, ends-none, no-lines, one-more}
use Rattle.rx_desk.proofs.event_desk.EventDesk.emit_each.Goals as goal

pub loop-init : goal.loop-init
loop-init g c = record {
  accepted = ([], refl, subst (λ (p : List ℕ). Accepts g.M.Moments.tells c.args.self.now [] p c.args.self.now c.args.place) (sym c.new-places.ensures) refl);
  count = ap length c.new-places.ensures;
  subjects = refl;
}

pub loop-preserved : goal.loop-preserved
loop-preserved g c =
    let i = c.loop.invariant in
    let front = i.accepted.0 in
    let line = c.in-Some.line.now in
    let item = c.in-Ok.item in
    let more = accepts-more g.M.Moments.tells c.args.self.now c.loop.self c.emit_line.new.self front c.loop.places line item c.args.place i.accepted.2 c.in-Ok.ensures.emits in
    record {
      accepted = (
        front ++ line ∷ [],
        one-more _ front _ _ line i.accepted.1 c.in-Some.ensures,
        subst (λ (p : List ℕ). Accepts g.M.Moments.tells c.args.self.now (front ++ line ∷ []) p c.emit_line.new.self c.args.place) (sym c.push.ensures) more,
      );
      count = omega (arith, ap length c.push.ensures, length-append c.loop.places (item ∷ []), i.count);
      subjects = c.in-Ok.ensures.subjects ∙ i.subjects;
    }

pub returns-in_default : goal.returns-in_default
returns-in_default g c =
    let accepted = c.loop.invariant.accepted in record {
      front = accepted.0;
      rest = lines_of c.loop.rest.now;
      parts = accepted.1;
      mid = c.loop.self;
      accepts = accepted.2;
      ends = ends-none g.M.Moments.tells c.loop.self _ c.args.place c.in_default.ensures;
    }

pub returns-in-Err : goal.returns-in-Err
returns-in-Err g c =
    let accepted = c.loop.invariant.accepted in record {
      front = accepted.0;
      rest = c.in-Some.line.now ∷ lines_of c.in-Some.behind.now;
      parts = accepted.1 ∙ ap (λ l. accepted.0 ++ l) c.in-Some.ensures;
      mid = c.loop.self;
      accepts = accepted.2;
      ends = c.in-Err.ensures.emits;
    }

pub returns : goal.returns
returns g c =
    let i = c.loop.invariant in
    let front = i.accepted.0 in
    let rest = lines_of c.loop.rest.now in
    let as_many = accepts-many g.M.Moments.tells c.args.self.now front c.loop.places c.loop.self c.args.place i.accepted.2 in
    let none = no-lines rest (omega (arith, ap length i.accepted.1, length-append front rest, as_many, i.count, c.loop-test.false, c.requires.texts.few)) in record {
      front = front;
      rest = rest;
      parts = i.accepted.1;
      mid = c.loop.self;
      accepts = i.accepted.2;
      ends = ends-none g.M.Moments.tells c.loop.self rest c.args.place none;
    }

use Rattle.std.proofs.Common.{◌∙◌, ◌<◌, subst, true, [], arith, ap, length}
use Rattle.rx_proto.specs.LineFeeds.{HasNoLf}
use Rattle.rx_lines.proofs.Sheds.{HasRead, HasRead-none, HasRead-shed, HasRead-read, HasRead-long, HasRead-short, HasRead-end, HasRead-blocked, HasRead-unread, HasRead-passed}
use Rattle.rx_lines.proofs.reads.next_lf.Goals.{then-len, else-len}
use Rattle.rx_lines.proofs.reads.next_lf.Goals as goal

pub loop-len-init : goal.loop-len-init
loop-len-init g c = HasRead-none _ _ _

pub returns-then-is_long-clause-found : goal.returns-then-is_long-clause-found
returns-then-is_long-clause-found g c = HasRead-long _ _ _ _ _ _ _ _ _ c.loop-len.invariant c.if-is_long.true c.find_lf.ensures.kept c.in-Some.ensures.found c.find_lf.ensures.within

pub returns-else-is_long-clause-found : goal.returns-else-is_long-clause-found
returns-else-is_long-clause-found g c = HasRead-short _ _ _ _ _ _ _ _ _ c.loop-len.invariant c.if-is_long.false c.find_lf.ensures.kept c.in-Some.ensures.found c.find_lf.ensures.within

pub returns-in-End-clause-found : goal.returns-in-End-clause-found
returns-in-End-clause-found g c =
    let found : HasNoLf c.find_lf.new.self = c.in_default.ensures.found in
    let none : HasNoLf c.loop-len.window = subst HasNoLf c.find_lf.ensures.kept found in
    let long : 1101 < length c.find_lf.new.self → HasRead (g.R.Read.remaining c.args.reader.now) (g.R.Read.remaining c.loop-len.reader) c.args.window.now [] c.args.reads.now c.loop-len.reads true =
    λ more. HasRead-shed _ _ _ _ _ _ _ c.loop-len.invariant none (omega (arith, ap length c.find_lf.ensures.kept)) in
    elim c.if-len.branch [
      | then-len w ↦ HasRead-end _ _ _ _ _ _ _ _ _ _ _ (long (omega (arith, w.if-len.true, c.len.ensures.len))) tt (rw (w.window-is ∙ w.clear.ensures) at c.in-End.ensures)
      | else-len w ↦ HasRead-end _ _ _ _ _ _ _ _ _ _ _ c.loop-len.invariant none (rw (w.window-is ∙ c.find_lf.ensures.kept) at c.in-End.ensures)
    ]

pub returns-in-Nothing-clause-found : goal.returns-in-Nothing-clause-found
returns-in-Nothing-clause-found g c =
    let found : HasNoLf c.find_lf.new.self = c.in_default.ensures.found in
    let none : HasNoLf c.loop-len.window = subst HasNoLf c.find_lf.ensures.kept found in
    let long : 1101 < length c.find_lf.new.self → HasRead (g.R.Read.remaining c.args.reader.now) (g.R.Read.remaining c.loop-len.reader) c.args.window.now [] c.args.reads.now c.loop-len.reads true =
    λ more. HasRead-shed _ _ _ _ _ _ _ c.loop-len.invariant none (omega (arith, ap length c.find_lf.ensures.kept)) in
    elim c.if-len.branch [
      | then-len w ↦ HasRead-blocked _ _ _ _ _ _ _ _ _ _ (long (omega (arith, w.if-len.true, c.len.ensures.len))) tt (rw (w.window-is ∙ w.clear.ensures) at c.in-Nothing.ensures)
      | else-len w ↦ HasRead-blocked _ _ _ _ _ _ _ _ _ _ c.loop-len.invariant none (rw (w.window-is ∙ c.find_lf.ensures.kept) at c.in-Nothing.ensures)
    ]

pub loop-len-preserved : goal.loop-len-preserved
loop-len-preserved g c =
    let found : HasNoLf c.find_lf.new.self = c.in_default.ensures.found in
    let none : HasNoLf c.loop-len.window = subst HasNoLf c.find_lf.ensures.kept found in
    let long : 1101 < length c.find_lf.new.self → HasRead (g.R.Read.remaining c.args.reader.now) (g.R.Read.remaining c.loop-len.reader) c.args.window.now [] c.args.reads.now c.loop-len.reads true =
    λ more. HasRead-shed _ _ _ _ _ _ _ c.loop-len.invariant none (omega (arith, ap length c.find_lf.ensures.kept)) in
    let ready : HasRead (g.R.Read.remaining c.args.reader.now) (g.R.Read.remaining c.loop-len.reader) c.args.window.now c.if-len.window c.args.reads.now c.loop-len.reads c.if-len.is_long =
    elim c.if-len.branch [
      | then-len w ↦ rw (w.window-is, w.is_long-is, w.clear.ensures) (long (omega (arith, w.if-len.true, c.len.ensures.len)))
      | else-len w ↦ rw (w.window-is, w.is_long-is, c.find_lf.ensures.kept) c.loop-len.invariant
    ] in
    let clean : HasNoLf c.if-len.window = elim c.if-len.branch [
      | then-len w ↦ rw (w.window-is, w.clear.ensures) tt
      | else-len w ↦ rw w.window-is found
    ] in
    HasRead-read _ _ _ _ _ _ _ _ _ _ ready clean c.in-Bytes.ensures

pub returns-then-is_long-clause-no_read : goal.returns-then-is_long-clause-no_read
returns-then-is_long-clause-no_read g c = HasRead-unread _ _ _ _ _ _ _ c.loop-len.invariant

pub returns-else-is_long-clause-no_read : goal.returns-else-is_long-clause-no_read
returns-else-is_long-clause-no_read g c = HasRead-unread _ _ _ _ _ _ _ c.loop-len.invariant

pub returns-in-End-clause-no_read : goal.returns-in-End-clause-no_read
returns-in-End-clause-no_read g c has =
    let found : HasNoLf c.find_lf.new.self = c.in_default.ensures.found in
    absurd (has (HasRead-passed _ _ _ _ _ _ _ c.loop-len.invariant (subst HasNoLf c.find_lf.ensures.kept found)))

pub returns-in-Nothing-clause-no_read : goal.returns-in-Nothing-clause-no_read
returns-in-Nothing-clause-no_read g c has =
    let found : HasNoLf c.find_lf.new.self = c.in_default.ensures.found in
    absurd (has (HasRead-passed _ _ _ _ _ _ _ c.loop-len.invariant (subst HasNoLf c.find_lf.ensures.kept found)))

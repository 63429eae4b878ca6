use Rattle.std.proofs.Common.{◌≡◌, ◌∙◌, sym, ap, None, length, arith}
use Rattle.rx_mailbox.specs.Boxes.{all_told}
use Rattle.rx_mailbox.specs.declared.letter.Post.TheVariants.{Body}
use Rattle.rx_mailbox.specs.Letters.{letter}
use Rattle.rx_mailbox.proofs.Told.{told-length}
use Rattle.rx_pump.specs.Opened.{opened_letter}
use Rattle.rx_pump.proofs.Turning.{Makes-call, took_call}
use Rattle.rx_pump.proofs.pump.one_call.handle.Goals as goal

pub returns-in-Some-clause-makes : goal.returns-in-Some-clause-makes
returns-in-Some-clause-makes g c =
    let callers : c.len.result ≡ length (all_told c.args.parts.now.replies.items) = omega (arith, c.len.ensures, told-length c.args.parts.now.replies.items) in
    λ misses_before.
    c.ask_each.ensures.makes misses_before c.args.call.ticket (letter c.args.port (Body c.args.call))
    (ap (λ n. opened_letter n (letter c.args.port (Body c.args.call))) (sym callers) ∙ c.in-Some.ensures.1)

pub returns-in-None-clause-makes : goal.returns-in-None-clause-makes
returns-in-None-clause-makes g c =
    let hr = c.handle_any-handled in
    let callers : c.len.result ≡ length (all_told c.args.parts.now.replies.items) = omega (arith, c.len.ensures, told-length c.args.parts.now.replies.items) in
    λ misses_before.
    Makes-call _ _ hr.result.refused c.args.port c.args.call
    (took_call c.args.parts.now hr.new.parts c.args.tally.now.calls c.args.tally.now.refused c.count.new.self.calls c.count.new.self.refused hr.result.refused hr.result.fault c.args.port c.args.call misses_before
    c.requires hr.ensures.inbox c.count.ensures.calls c.count.ensures.refused hr.ensures.handles)
    (ap (λ n. opened_letter n (letter c.args.port (Body c.args.call))) (sym callers) ∙ c.in-None.ensures)

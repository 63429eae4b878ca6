use Rattle.std.proofs.Common.{sym, ap, ◌∙◌}
use Rattle.std.proofs.lemmas.List.{get_or_default}
use Rattle.std.proofs.lemmas.List.Quantifiers.{position-Some}
use Rattle.rx_history.proofs.Agreeing.{on_ok}
use Rattle.rx_script.specs.Audits.{subject_in}
use Rattle.rx_proto.specs.Reading.{same_word}
use Rattle.rx_script.specs.Transcripts.{taking}
use Rattle.rx_script.specs.declared.ledger.Ledger.{Ledger}
use Rattle.rx_script.proofs.Ledgers.{entered, not_entered, subject_in-added}
use Rattle.rx_script.proofs.ledger_list.enter.Goals as goal

pub returns-in-Some : goal.returns-in-Some
returns-in-Some c =
    let ledgers = c.args.ledgers.now.items in
    let this = c.index_mut.result.now in
    let found = sym c.in-Some.ensures in
    let within = (position-Some (λ (ledger : Ledger). same_word ledger.subject.name c.args.name.now) ledgers c.in-Some.place this found).0 in
    let at = c.index_mut.ensures.value ∙ get_or_default ledgers c.in-Some.place this this within in
    on_ok c.add.result
    (λ added. entered ledgers c.args.name.now c.in-Some.place this (record this { history = c.add.new.self }) c.args.event found
    (subject_in-added this c.add.new.self c.args.event added ∙ ap (λ (ledger : Ledger). taking (subject_in ledger) c.args.event) at))
    c.add.ensures.ok

pub returns-in-None : goal.returns-in-None
returns-in-None c = not_entered c.args.ledgers.now.items c.args.name.now c.args.event (sym c.in-None.ensures)

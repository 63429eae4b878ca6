use Rattle.std.proofs.Common.{◌||◌, ap₂, ◌∙◌}
use Rattle.std.proofs.lemmas.Result.{IfOk-weaker}
use Rattle.clap.specs.Words.{with_rule}
use Rattle.rx_program.proofs.command_line.client_words.subscribe_command.Goals as goal

pub returns-clause-app : goal.returns-clause-app
returns-clause-app c =
    let named = c.with_help-command.ensures.app ∙ c.new_command-command.ensures.app in
    let at = c.in_ok-command.ensures.shape c.server_arg.ensures.local ∙ ap₂ with_rule named c.server_arg.ensures.rule in
    let of = c.in_ok-command-2.ensures.shape c.subject_arg.ensures.local ∙ ap₂ with_rule at c.subject_arg.ensures.rule in
    let by = c.in_ok-command-3.ensures.shape c.strategy_arg.ensures.local ∙ ap₂ with_rule of c.strategy_arg.ensures.rule in
    let failing = c.in_ok-command-4.ensures.shape c.errors_arg.ensures.local ∙ ap₂ with_rule by c.errors_arg.ensures.rule in
    let from = c.in_ok-command-5.ensures.shape c.from_arg.ensures.local ∙ ap₂ with_rule failing c.from_arg.ensures.rule in
    let counted = c.in_ok-command-6.ensures.shape c.count_arg.ensures.local ∙ ap₂ with_rule from c.count_arg.ensures.rule in
    IfOk-weaker c.arg-7.result _ _ (λ sub adds. adds.shape c.json_arg.ensures.local ∙ ap₂ with_rule counted c.json_arg.ensures.rule) c.arg-7.ensures

pub returns-clause-local : goal.returns-clause-local
returns-clause-local c =
    let named = c.with_help-command.ensures.local ∙ c.new_command-command.ensures.local in
    let at = c.in_ok-command.ensures.globals ∙ ap₂ ◌||◌ named c.server_arg.ensures.local in
    let of = c.in_ok-command-2.ensures.globals ∙ ap₂ ◌||◌ at c.subject_arg.ensures.local in
    let by = c.in_ok-command-3.ensures.globals ∙ ap₂ ◌||◌ of c.strategy_arg.ensures.local in
    let failing = c.in_ok-command-4.ensures.globals ∙ ap₂ ◌||◌ by c.errors_arg.ensures.local in
    let from = c.in_ok-command-5.ensures.globals ∙ ap₂ ◌||◌ failing c.from_arg.ensures.local in
    let counted = c.in_ok-command-6.ensures.globals ∙ ap₂ ◌||◌ from c.count_arg.ensures.local in
    IfOk-weaker c.arg-7.result _ _ (λ sub adds. adds.globals ∙ ap₂ ◌||◌ counted c.json_arg.ensures.local) c.arg-7.ensures

use Rattle.std.proofs.Common.{◌||◌, ap, ap₂, ◌∙◌}
use Rattle.std.proofs.lemmas.Result.{IfOk-weaker}
use Rattle.clap.specs.Words.{App, with_rule}
use Rattle.rx_program.specs.CommandLines.{path}
use Rattle.rx_program.proofs.command_line.serve.Goals as goal

pub with_path-requires : goal.with_path-requires
with_path-requires c = c.with_help.ensures.local ∙ c.new_command-command.ensures.local

pub returns-clause-app : goal.returns-clause-app
returns-clause-app c =
    let named = c.with_help.ensures.app ∙ c.new_command-command.ensures.app in
    let command = c.in_ok-command.ensures.app ∙ ap (λ (app : App). with_rule app path) named in
    IfOk-weaker c.arg.result _ _ (λ serve adds. adds.shape c.socket_arg.ensures.local ∙ ap₂ with_rule command c.socket_arg.ensures.rule) c.arg.ensures

pub returns-clause-local : goal.returns-clause-local
returns-clause-local c =
    IfOk-weaker c.arg.result _ _ (λ serve adds. adds.globals ∙ ap₂ ◌||◌ c.in_ok-command.ensures.local c.socket_arg.ensures.local) c.arg.ensures

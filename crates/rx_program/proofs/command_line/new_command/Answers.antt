use Rattle.std.proofs.Common.{◌∙◌, ap}
use Rattle.clap.specs.Simple.{app_of_fields}
use Rattle.clap.specs.declared.builder.command.Command.{Command}
use Rattle.clap.specs.declared.builder.command.Command.TheOpen.{Command-F}
use Rattle.rx_program.proofs.command_line.new_command.Goals as goal

pub returns-clause-app : goal.returns-clause-app
returns-clause-app c = ap app_of_fields c.about.ensures ∙ ap app_of_fields c.override_usage.ensures ∙ c.new.ensures.app

pub returns-clause-local : goal.returns-clause-local
returns-clause-local c =
    ap (λ (fields : Command-F Command). fields.has_globals) c.about.ensures
    ∙ ap (λ (fields : Command-F Command). fields.has_globals) c.override_usage.ensures ∙ c.new.ensures.local

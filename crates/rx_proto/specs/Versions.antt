-- What a HELLO does to the version. The rules are this project's own.
use Rattle.std.specs.Option.{option_map_or}
use Rattle.std.specs.Prelude.{ℕ, ◌==◌, if◌then◌else◌, Option, None, Some}
use Rattle.rx_proto.specs.declared.response.Response.{Response}
use Rattle.rx_proto.specs.declared.response.Response.TheVariants.{Done, Refused}
use Rattle.rx_proto.specs.declared.version.Version.{Version}
use Rattle.rx_proto.specs.declared.version.Version.TheVariants.{One, Two}
use Rattle.rx_proto.specs.declared.word.Word.TheVariants as words

-- the version of a number, if there is one
abbrev pub version_of : ℕ → Option Version
version_of number = if number == 1 then Some One else if number == 2 then Some Two else None

-- what a HELLO of this number is answered
abbrev pub response_to_hello : ℕ → Response
response_to_hello number = option_map_or (λ version. Done) (version_of number) (Refused words.Version)

-- the version behind a HELLO of this number
abbrev pub version_after : Version → ℕ → Version
version_after before number = option_map_or (λ version. version) (version_of number) before

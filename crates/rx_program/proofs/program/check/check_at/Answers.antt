use Rattle.std.proofs.Common.{◌≡◌, ◌≤◌, ◌⊎◌, ℕ, List, length, Option, Some, Ok, Err, inl, inr}
use Rattle.rx_config.specs.Configurations.{Says, settings_of}
use Rattle.rx_config.specs.declared.config.Config.{Config}
use Rattle.rx_program.specs.Programs.{Checks, Done, ListsAndLooks}
use Rattle.rx_program.specs.declared.program.program_fault.ProgramFault.TheVariants as faults
use Rattle.rx_program.proofs.program.check.check_at.Goals as goal

-- what was done about a configuration that was read
checked : (path bytes : List ℕ) (socket : Option (List ℕ)) (config : Config) (done : Done) (old new : Option (List ℕ)) → length bytes ≤ 65536
    → Says bytes (Ok (settings_of config))
    → ListsAndLooks (settings_of config) socket done old new ⊎ ((done ≡ Err faults.Memory) × (new ≡ old))
    → Checks (Some path) socket done old new
checked path bytes socket config done old new within says listed = elim listed [
  | inl lists ↦ inl (config, (bytes, within, says), lists)
  | inr memory ↦ inr (faults.Memory, memory.0, tt, memory.1)
]

pub returns-in-Ok-read_config : goal.returns-in-Ok-read_config
returns-in-Ok-read_config g c =
    checked c.args.path.now c.as_slice.result.now _ c.in-Ok-read_config.config c.list_and_look.result _ _ (rw c.as_slice.ensures.value c.in-Ok-read_file.ensures.within)
    c.in-Ok-read_config.ensures c.list_and_look.ensures

use Rattle.std.proofs.Common.{◌≡◌, ◌⊎◌, ℕ, List, Option, Err, inl, inr, refl}
use Rattle.clap.specs.Words.{Text}
use Rattle.clap.specs.declared.error.kind.ErrorKind.{ErrorKind}
use Rattle.clap.specs.declared.error.kind.ErrorKind.TheVariants.{OutOfMemory}
use Rattle.rx_program.specs.CommandLines.{IsAgainst, IsHelp}
use Rattle.rx_program.specs.Programs.{Answers, Program}
use Rattle.rx_program.specs.declared.program.program_fault.ProgramFault.TheVariants as faults
use Rattle.rx_program.proofs.program.run_words.Goals as goal

no_help : (kind : ErrorKind) → kind ≡ OutOfMemory → ¬ IsHelp kind
no_help kind memory help = elim help [ inl is ↦ cc | inr is ↦ cc ]

-- what was answered to words that were refused is what the program does for them
answered : (words : List Text) (kind : ErrorKind) (status : ℕ) (left written_old written_new told_old told_new : Option (List ℕ)) → (kind ≡ OutOfMemory) ⊎ IsAgainst words kind
    → Answers kind status written_old written_new told_old told_new
    → Program words status (record { left = left; written = written_old }) (record { left = left; written = written_new }) told_old told_new
answered words kind status left written_old written_new told_old told_new against answers = elim answers [
  | inl help ↦ elim against [
    | inl memory ↦ absurd (no_help kind memory help.0)
    | inr is ↦ inl (help.1.0, told_old, inr (inl (kind, is, help.0, help.1.1, refl, refl)), help.1.2)
  ]
  | inr others ↦ elim others [
    | inl lacks ↦ inl (Err faults.Memory, told_old, inr (inr (refl, (refl, lacks.1), refl)), lacks.2)
    | inr wrong ↦ elim against [
      | inl memory ↦ absurd (wrong.1 memory)
      | inr is ↦ inr (wrong.2, (inl (kind, is, wrong.0, wrong.1), (refl, wrong.3)))
    ]
  ]
]

pub returns-in-Err : goal.returns-in-Err
returns-in-Err g c = answered _ _ c.answer.result _ _ _ _ _ c.in-Err.ensures c.answer.ensures

pub returns-in-Some : goal.returns-in-Some
returns-in-Some g c = inr (refl, (inr (c.in-Ok.task, c.in-Ok.ensures, c.in-Some.ensures), (refl, refl)))

-- What the program does: for the words of its command line, its exit status, what becomes of its streams, and what it
-- tells on the standard error. The statuses and the lines of faults are this project's own.
--
-- The program: what the words ask for is done: for a script and an audit over the configuration of their path all that
-- `run_script` and `run_audit` promise; of a configuration that is checked exactly its lines are written, or where the writer
-- fails a front of them, and nothing is read; where it was also to look at the path of a socket, it ends then as if it had
-- not, or by `Listen`; the status is 0, with nothing told, where the run was finished, and else 1 with the line of its fault,
-- or a front of it, on the standard error; a configuration that can't be had leaves reader and writer, and so do words that
-- are refused, whose status is 2; help and the version take nothing from the reader and end with status 0, or 1 where it
-- could not be written.
use Rattle.std.specs.Prelude.{◌≡◌, ◌≢◌, ◌⊎◌, ◌≤◌, ◌++◌, ℕ, List, [], codes, length, Option, None, Some, Result, Ok, Err, MatchOption, MatchResult, IsSome, option_map}
use Rattle.clap.specs.Words.{Text}
use Rattle.clap.specs.declared.error.kind.ErrorKind.{ErrorKind}
use Rattle.clap.specs.declared.error.kind.ErrorKind.TheVariants.{OutOfMemory}
use Rattle.rx_heap.specs.declared.refused.Memory.{Memory}
use Rattle.rx_proto.specs.Bytes.{AppendsPrefix, Writes}
use Rattle.rx_proto.specs.Printing.{line}
use Rattle.rx_config.specs.Configurations.{IsRefused, Says, Settings, settings_of, standard_settings}
use Rattle.rx_config.specs.declared.config.Config.{Config}
use Rattle.rx_config.specs.Listings.{config_lines}
use Rattle.rx_session.specs.declared.session_end.SessionEnd.{SessionEnd}
use Rattle.rx_session.specs.declared.session_end.SessionEnd.TheVariants as ends
use Rattle.rx_script.specs.Audits.{Audits, BreaksOff}
use Rattle.rx_server.specs.declared.wired.start_fault.StartFault.{StartFault}
use Rattle.rx_sink.specs.Acts.{Acts}
use Rattle.rx_workers.specs.declared.crew.serve_fault.ServeFault.{ServeFault}
use Rattle.rx_workers.specs.declared.crew.serve_fault.ServeFault.TheVariants as serves
use Rattle.rx_program.specs.CommandLines.{Asks, IsAgainst, IsHelp}
use Rattle.rx_program.specs.Reporting.{Closed, ClosesWith, names_of}
use Rattle.rx_server.specs.ReportLines.{report_lines}
use Rattle.rx_script.specs.Scripts.{Runs, new_subjects}
use Rattle.rx_script.specs.Transcripts.{Subject}
use Rattle.rx_program.specs.declared.program.program_fault.ProgramFault.{ProgramFault}
use Rattle.rx_program.specs.declared.program.program_fault.ProgramFault.TheVariants as faults
use Rattle.rx_program.specs.declared.command_line.task.Task.{Task}
use Rattle.rx_program.specs.declared.command_line.task.Task.TheVariants.{Script, Audit, Check, Serve, Publish, Subscribe, Stats, Stop}
use Rattle.rx_client.specs.Looking.{ShowsAnswer}
use Rattle.rx_program.specs.Clients.{Emits, FollowsSubject, IsBad}

-- the bytes that the reader has left and those that the writer has, where they are known
pub record Streams : Type 0 where
  pub left : Option (List ℕ)
  pub written : Option (List ℕ)

-- finished, or the fault that ended it
abbrev pub Done : Type 0
Done = Result (Unit {0}) ProgramFault

-- FAULTS

-- what is told of a fault; for the cause of a refused configuration, and for a thread, stand the words that it is told by
abbrev pub fault_text : ProgramFault → List ℕ → List ℕ
fault_text faults.NoConfig words = codes "cannot read config"
fault_text (faults.Config cause) words = codes "config: " ++ words
fault_text faults.Read words = codes "read fault"
fault_text faults.Write words = codes "write fault"
fault_text faults.TooManyReads words = codes "too many reads"
fault_text faults.Memory words = codes "out of memory"
fault_text faults.Listen words = codes "cannot listen"
fault_text (faults.Start fault) words = codes "cannot start " ++ words
fault_text faults.Accept words = codes "accept fault"
fault_text faults.Serve words = codes "serve fault"
fault_text (faults.Close fault) words = codes "close fault: " ++ words
fault_text faults.Connect words = codes "cannot connect"
fault_text faults.Refused words = codes "refused"
fault_text faults.Lost words = codes "connection lost"
fault_text faults.Failed words = codes "subject failed"
fault_text faults.Strange words = codes "no line of a server"
fault_text faults.NoHttp words = codes "no answer by HTTP"

-- the words of a cause stand behind those of its fault; one without a cause has no more words
abbrev pub HasCause : {C : Type 0} → Option C → ProgramFault → Type 0
HasCause (Some cause) fault = (words : List ℕ) → fault_text fault words ≡ fault_text fault [] ++ words
HasCause None fault = (words : List ℕ) → fault_text fault words ≡ fault_text fault []

-- the line of a fault
abbrev pub fault_line : ProgramFault → List ℕ → List ℕ
fault_line fault words = line (codes "rxline: " ++ fault_text fault words)

-- the line of a fault was written
abbrev pub Tells : {T E : Type 0} → Result T E → ProgramFault → Option (List ℕ) → Option (List ℕ) → Type 0
Tells result fault old new = (words : List ℕ) × Writes result old new (fault_line fault words)

-- THE STATUS

-- status 0, and nothing is told; or status 1 and the line of the fault, of which a front is told where telling failed
abbrev pub EndsWith : Done → ℕ → Option (List ℕ) → Option (List ℕ) → Type 0
EndsWith (Ok finished) status old new = (status ≡ 0) × (new ≡ old)
EndsWith (Err fault) status old new = (status ≡ 1) × ((words : List ℕ) × AppendsPrefix old new (fault_line fault words))

-- how the program ends after a run that ended so; want of memory is a fault
abbrev pub done_of : Result SessionEnd Memory → Done
done_of (Ok ends.Quit) = Ok tt
done_of (Ok ends.EndOfInput) = Ok tt
done_of (Ok ends.HandedOver) = Ok tt
done_of (Ok ends.ReadFault) = Err faults.Read
done_of (Ok ends.WriteFault) = Err faults.Write
done_of (Ok ends.TooManyReads) = Err faults.TooManyReads
done_of (Err memory) = Err faults.Memory

-- a text is on the writer, or it could not be written
abbrev pub IsShown : Done → Type 0
IsShown done = (done ≡ Ok tt) ⊎ (done ≡ Err faults.Write)

-- THE CONFIGURATION

-- what the configuration of a path says: without one the standard one; else what at most 65,536 bytes say, and that they
-- are the file's no contract can tell
abbrev pub Configures : Option (List ℕ) → Settings → Type 0
Configures path settings =
    MatchOption path (settings ≡ standard_settings) (λ _. (bytes : List ℕ) × (length bytes ≤ 65536) × Says bytes (Ok settings))

-- why there is none
abbrev pub LacksConfig : Option (List ℕ) → ProgramFault → Type 0
LacksConfig path faults.NoConfig = IsSome path
LacksConfig path (faults.Config cause) = IsSome path × ((bytes : List ℕ) × (length bytes ≤ 65536) × IsRefused bytes cause)
LacksConfig path faults.Read = ⊥
LacksConfig path faults.Write = ⊥
LacksConfig path faults.TooManyReads = ⊥
LacksConfig path faults.Memory = Unit {0}
LacksConfig path faults.Listen = ⊥
LacksConfig path (faults.Start fault) = ⊥
LacksConfig path faults.Accept = ⊥
LacksConfig path faults.Serve = ⊥
LacksConfig path (faults.Close fault) = ⊥
LacksConfig path faults.Connect = ⊥
LacksConfig path faults.Refused = ⊥
LacksConfig path faults.Lost = ⊥
LacksConfig path faults.Failed = ⊥
LacksConfig path faults.Strange = ⊥
LacksConfig path faults.NoHttp = ⊥

-- THE TASK

-- nothing was read or written
abbrev pub Untouched : Streams → Streams → Type 0
Untouched old new = (new.left ≡ old.left) × (new.written ≡ old.written)

-- a script was run over subjects
abbrev pub RunsScript : List Subject → Done → Streams → Streams → Type 0
RunsScript subjects done old new =
    (ended : Result SessionEnd Memory) × (done ≡ done_of ended)
    × MatchResult ended (λ end. Runs subjects end old.left new.left old.written new.written) (λ _. Untouched old new)

-- a script was audited over subjects
abbrev pub RunsAudit : List Subject → Done → Streams → Streams → Type 0
RunsAudit subjects done old new =
    (ended : Result SessionEnd Memory) × (done ≡ done_of ended)
    × MatchResult ended (λ end. Audits subjects end old.left new.left old.written new.written) (λ _. BreaksOff subjects old.left new.left old.written new.written)

-- a run over the subjects of the configuration of a path; or there is none, and nothing was read or written
abbrev pub Over : Option (List ℕ) → (List Subject → Done → Streams → Streams → Type 0) → Done → Streams → Streams → Type 0
Over path runs done old new =
    ((config : Config) × Configures path (settings_of config) × runs (new_subjects config.subjects.items) done old new)
    ⊎ ((fault : ProgramFault) × (done ≡ Err fault) × LacksConfig path fault × Untouched old new)

-- the socket of a server can't be had
abbrev pub LacksSocket : ProgramFault → Type 0
LacksSocket fault = (fault ≡ faults.Memory) ⊎ (fault ≡ faults.Listen)

-- why a server did not begin: its socket can't be had, or it did not start
abbrev pub DidNotBegin : ProgramFault → Type 0
DidNotBegin fault = LacksSocket fault ⊎ ((cause : StartFault) × (fault ≡ faults.Start cause))

-- how the close of a server was told: the lines of its report were written, or a front of them; or there is none, and nothing was
abbrev pub IsReported : List (List ℕ) → Closed → Done → Option (List ℕ) → Option (List ℕ) → Type 0
IsReported names (Ok subjects) done old new = IsShown done × Writes done old new (report_lines names subjects)
IsReported names (Err fault) done old new = (done ≡ Err (faults.Close fault)) × (new ≡ old)

-- a fault of serving, as the program tells it
abbrev pub serving_fault : ServeFault → ProgramFault
serving_fault serves.Accept = faults.Accept
serving_fault serves.NoDesk = faults.Serve
serving_fault (serves.Thread place) = faults.Serve
serving_fault serves.Memory = faults.Serve

-- how a server ended, by how serving did and how it was closed and told: no fault is lost, and of two the later is answered
abbrev pub ending : Result (Unit {0}) ServeFault → Done → Done
ending (Ok served) told = told
ending (Err fault) (Ok shown) = Err (serving_fault fault)
ending (Err fault) (Err later) = Err later

-- a server of subjects of these names was closed so, and that was told
abbrev pub EndsServer : List (List ℕ) → Closed → Done → Option (List ℕ) → Option (List ℕ) → Type 0
EndsServer names closed done old new =
    (served : Result (Unit {0}) ServeFault) × (told : Done) × IsReported names closed told old new × (done ≡ ending served told)

-- a server of these settings did not begin, and nothing was written; or it was closed, and that was told
abbrev pub ServesSettings : Settings → Done → Option (List ℕ) → Option (List ℕ) → Type 0
ServesSettings settings done old new =
    ((fault : ProgramFault) × (done ≡ Err fault) × DidNotBegin fault × (new ≡ old))
    ⊎ ((closed : Closed) × EndsServer (names_of settings) closed done old new)

-- the subjects of the configuration of a path were served; or there is none, and nothing was written
abbrev pub Serves : Option (List ℕ) → Done → Option (List ℕ) → Option (List ℕ) → Type 0
Serves path done written_old written_new =
    ((config : Config) × Configures path (settings_of config) × ServesSettings (settings_of config) done written_old written_new)
    ⊎ ((fault : ProgramFault) × (done ≡ Err fault) × LacksConfig path fault × (written_new ≡ written_old))

module _ {S Rest : Type 0} (acts : Acts S Rest) where
  -- A SERVER of this configuration did not begin, and nothing was written; or it was closed, and what its close answered was told
  abbrev pub ReportsServer : Config → Done → Option (List ℕ) → Option (List ℕ) → Type 0
  ReportsServer config done old new =
      ((fault : ProgramFault) × (done ≡ Err fault) × DidNotBegin fault × (new ≡ old))
      ⊎ ((closed : Closed) × ClosesWith acts config closed × EndsServer (names_of (settings_of config)) closed done old new)

-- the lines of a configuration were written, all of them or, where the writer failed, a front of them
abbrev pub Lists : Settings → Done → Option (List ℕ) → Option (List ℕ) → Type 0
Lists settings done written_old written_new = IsShown done × Writes done written_old written_new (config_lines settings)

-- it was looked whether a server may listen at the path of a socket; without one there is nothing to look at
abbrev pub Looks : Option (List ℕ) → Done → Type 0
Looks socket done = MatchOption socket (done ≡ Ok tt) (λ _. (done ≡ Ok tt) ⊎ (done ≡ Err faults.Listen))

-- the lines of a configuration were written, and then it was looked at the path of a socket
abbrev pub ListsAndLooks : Settings → Option (List ℕ) → Done → Option (List ℕ) → Option (List ℕ) → Type 0
ListsAndLooks settings socket done written_old written_new =
    (listed : Done) × Lists settings listed written_old written_new × MatchResult listed (λ _. Looks socket done) (λ fault. done ≡ Err fault)

-- the configuration of a path was told; or there is none, or no memory to tell it, and nothing was written
abbrev pub Checks : Option (List ℕ) → Option (List ℕ) → Done → Option (List ℕ) → Option (List ℕ) → Type 0
Checks path socket done written_old written_new =
    ((config : Config) × Configures path (settings_of config) × ListsAndLooks (settings_of config) socket done written_old written_new)
    ⊎ ((fault : ProgramFault) × (done ≡ Err fault) × LacksConfig path fault × (written_new ≡ written_old))

-- a task was done; for a script and an audit nothing was told meanwhile, and to check, to serve, to follow or to look nothing was read,
-- to stop a server nothing was read or written
abbrev pub Does : Task → Done → Streams → Streams → Option (List ℕ) → Option (List ℕ) → Type 0
Does (Script path) done old new told_old told = Over (option_map (λ s. s.now) path) RunsScript done old new × (told ≡ told_old)
Does (Audit path) done old new told_old told = Over (Some path.now) RunsAudit done old new × (told ≡ told_old)
Does (Check path socket) done old new told_old told = Checks (Some path.now) (option_map (λ s. s.now) socket) done old.written new.written × (new.left ≡ old.left)
Does (Serve path socket) done old new told_old told = Serves (Some path.now) done old.written new.written × (new.left ≡ old.left)
Does (Publish socket subject text) done old new told_old told = Emits done old.written new.written
Does (Subscribe socket subscription) done old new told_old told = FollowsSubject subscription.is_json done old.written new.written × (new.left ≡ old.left)
Does (Stats socket is_json) done old new told_old told = ShowsAnswer 200 done old.written new.written × (new.left ≡ old.left)
Does (Stop socket within) done old new told_old told = Untouched old new

-- THE PROGRAM

-- what the words ask for was done, or there was no memory to read them
abbrev pub Carries : List Text → Done → Streams → Streams → Option (List ℕ) → Option (List ℕ) → Type 0
Carries words done old new told_old told =
    ((task : Task) × Asks words task × Does task done old new told_old told)
    ⊎ ((kind : ErrorKind) × IsAgainst words kind × IsHelp kind × IsShown done × (new.left ≡ old.left) × (told ≡ told_old))
    ⊎ ((done ≡ Err faults.Memory) × Untouched old new × (told ≡ told_old))

-- the words are none that the program takes, or no server would take what they name, and that is told
abbrev pub Refuses : List Text → Streams → Streams → Type 0
Refuses words old new =
    (((kind : ErrorKind) × IsAgainst words kind × ¬ IsHelp kind × (kind ≢ OutOfMemory)) ⊎ ((task : Task) × Asks words task × IsBad task)) × Untouched old new

-- what was answered to words for which an error of this kind was found: help or the version is shown, want of memory is told, or the error
abbrev pub Answers : ErrorKind → ℕ → Option (List ℕ) → Option (List ℕ) → Option (List ℕ) → Option (List ℕ) → Type 0
Answers kind status written_old written_new told_old told_new =
    (IsHelp kind × ((done : Done) × IsShown done × EndsWith done status told_old told_new))
    ⊎ ((kind ≡ OutOfMemory) × (written_new ≡ written_old) × EndsWith (Err faults.Memory) status told_old told_new)
    ⊎ (¬ IsHelp kind × (kind ≢ OutOfMemory) × (status ≡ 2) × (written_new ≡ written_old))

-- THE PROGRAM'S STATUS: 0 or 1 by how that ended which the words ask for, or 2 for other words
abbrev pub Program : List Text → ℕ → Streams → Streams → Option (List ℕ) → Option (List ℕ) → Type 0
Program words status old new told_old told_new =
    ((done : Done) × (told : Option (List ℕ)) × Carries words done old new told_old told × EndsWith done status told told_new)
    ⊎ ((status ≡ 2) × Refuses words old new)

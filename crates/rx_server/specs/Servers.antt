-- A server, and what it leaves when it is closed (this project's own rule).
use Rattle.std.specs.Prelude.{◌≡◌, ◌<◌, ◌⊎◌, ℕ, Bool, List, [], ◌∷◌, ◌++◌, length, map, Option, None, Some, slice_get}
use Rattle.std.specs.List.{All, AllZip, filter_map, sum_by, zip}
use Rattle.rx_hub.specs.Hubs.{HubView}
use Rattle.rx_mailbox.specs.Boxes.{Outgoing}
use Rattle.rx_mailbox.specs.Passes.{IsEmptied, SettledView, inbox_in}
use Rattle.rx_mailbox.specs.Rests.{ReceivesMore}
use Rattle.rx_mailbox.specs.Settling.{GotAll}
use Rattle.rx_pump.specs.declared.call_desk.ended_desk.EndedDesk.{EndedDesk}
use Rattle.rx_pump.specs.declared.out.Out.{Out}
use Rattle.rx_pump.specs.declared.pump.pump_end.PumpEnd.{PumpEnd}
use Rattle.rx_pump.specs.declared.reply.Reply.{Reply}
use Rattle.rx_pump.specs.Marks.{Marked}
use Rattle.rx_pump.specs.Pumps.{AreSame, PumpView, counted}
use Rattle.rx_mailbox.specs.PortRows.{with_bye}
use Rattle.rx_pump.specs.Serving as pump_serving
use Rattle.rx_pump.specs.Desks.{DeskView, KeepsDesk, LeavesInbox}
use Rattle.rx_sink.specs.Acts.{Acts}
use Rattle.rx_drain.specs.declared.drainer.drain_end.DrainEnd.{DrainEnd}
use Rattle.rx_drain.specs.Drainers.{DrainerView}
use Rattle.rx_drain.specs.Serving as drainer_serving
use Rattle.rx_server.specs.declared.close.close_fault.CloseCause.TheVariants.{Ended, Unsettled}
use Rattle.rx_server.specs.declared.close.close_fault.CloseFault.{CloseFault}
use Rattle.rx_config.specs.declared.config.Config.{Config}
use Rattle.rx_server.specs.declared.close.report.SubjectReport.{SubjectReport}
use Rattle.rx_server.specs.declared.close.report.Report.{Report}
use Rattle.rx_server.specs.declared.close.settled_boxes.SettledBoxes.{SettledBoxes}
use Rattle.rx_server.specs.declared.wired.start_fault.Role.{Role}
use Rattle.rx_server.specs.declared.wired.start_fault.Role.TheVariants.{Drainer, Pump, Worker}
use Rattle.rx_server.specs.Ends.{FirstStopped, AreOver}
use Rattle.rx_server.specs.Returning.{EachDeskOnce}
use Rattle.rx_server.specs.Wirings.{Wiring, IsWired, joined_parts}

-- a server: its configuration, its pumps and drainers as they were before their first turn, the ports by which the drainers are
-- told to leave, all desks that it made, those of them that were not handed out, and those of its workers, ended
pub record ServerView (S Rest : Type 0) : Type 0 where
  pub config : Config
  pub pumps : List (PumpView S)
  pub drainers : List (DrainerView S Rest)
  pub leaves : List (Outgoing (Out S))
  pub made : List (DeskView S)
  pub desks : List (DeskView S)
  pub kept : List (EndedDesk S)

-- DESKS

module _ {S : Type 0} where
  -- the desk is one of these, as its calls left it: no port of it has ended
  pub record IsDeskOf (made : List (DeskView S)) (desk : DeskView S) : Type 0 where
    pub number : ℕ
    pub one : DeskView S
    pub stood : slice_get made number ≡ Some one
    pub as_made : KeepsDesk one desk
    pub none_ended : desk.ended ≡ []

  -- what a desk left is of one of these: its ports and its inbox are those of that desk
  pub record IsEndOf (made : List (DeskView S)) (end : EndedDesk S) : Type 0 where
    pub number : ℕ
    pub one : DeskView S
    pub stood : slice_get made number ≡ Some one
    pub ports : AreSame one.ports end.ports.items
    pub box : end.inbox.box ≡ one.inbox.box
    pub count : end.inbox.ports ≡ one.inbox.ports

  -- some of these desks ended, and what they left stands behind what others left
  abbrev pub EndsMore : List (DeskView S) → List (EndedDesk S) → List (EndedDesk S) → Type 0
  EndsMore made before after = (more : List (EndedDesk S)) × (after ≡ before ++ more) × All (IsEndOf made) more

  -- what becomes of a desk that is to end: it left this, each of its ports with its Bye, and its inbox, or it was given up, which is so
  -- only where a port of it had not ended
  abbrev pub IsFateOf : DeskView S → Option (EndedDesk S) → Type 0
  IsFateOf desk (Some end) = (end.ports.items ≡ desk.ended ++ map with_bye desk.ports) × LeavesInbox desk end.inbox
  IsFateOf desk None = 0 < length desk.ports

  -- each of these desks was to end, and what they left stands in their order behind what others left
  pub record EndsEach (desks : List (DeskView S)) (before after : List (EndedDesk S)) : Type 0 where
    pub fates : List (Option (EndedDesk S))
    pub each : AllZip IsFateOf desks fates
    pub left : after ≡ before ++ filter_map (λ fate. fate) fates

module _ {S Rest : Type 0} where
  -- the server of these parts
  abbrev pub server_of : Config → List (PumpView S) → List (DrainerView S Rest) → List (Outgoing (Out S)) → List (DeskView S) → List (DeskView S) → List (EndedDesk S) → ServerView S Rest
  server_of config pumps drainers leaves made desks kept = record {
    config = config;
    pumps = pumps;
    drainers = drainers;
    leaves = leaves;
    made = made;
    desks = desks;
    kept = kept;
  }

  -- a server at every moment: it is wired as its configuration says, the desks that were handed out are the first that it made,
  -- and those that it keeps are its own
  pub record IsWhole (server : ServerView S Rest) : Type 0 where
    pub wiring : Wiring S
    pub hubs : List HubView
    pub keeps : Bool
    pub wired : IsWired server.config wiring hubs keeps (joined_parts server.pumps server.drainers server.leaves server.made)
    pub handed : List (DeskView S)
    pub parts : server.made ≡ handed ++ server.desks
    pub ended : All (IsEndOf server.made) server.kept
    pub some : 0 < length server.config.subjects.items

  -- the server before its next desk was handed out
  abbrev pub with_desk : DeskView S → ServerView S Rest → ServerView S Rest
  with_desk desk server = server_of server.config server.pumps server.drainers server.leaves server.made (desk ∷ server.desks) server.kept

  -- a new server of a configuration, with these boxes and hubs, whose drainers keep what their sinks leave or not: no desk was
  -- handed out
  pub record IsServerOf (config : Config) (w : Wiring S) (hubs : List HubView) (keeps : Bool) (server : ServerView S Rest) : Type 0 where
    pub config_is : server.config ≡ config
    pub wired : IsWired config w hubs keeps (joined_parts server.pumps server.drainers server.leaves server.made)
    pub desks_are : server.desks ≡ server.made
    pub none_kept : server.kept ≡ []
    pub each_keeps : All (λ drainer. drainer.keeps ≡ keeps) server.drainers

  -- the same configuration, pumps, drainers, leave ports and desks; some more desks may have been handed out, and some more that
  -- have ended may be kept
  pub record RunsOn (before after : ServerView S Rest) : Type 0 where
    pub config : after.config ≡ before.config
    pub pumps : after.pumps ≡ before.pumps
    pub drainers : after.drainers ≡ before.drainers
    pub leaves : after.leaves ≡ before.leaves
    pub made : after.made ≡ before.made
    pub handed : List (DeskView S)
    pub desks : before.desks ≡ handed ++ after.desks
    pub more : List (EndedDesk S)
    pub kept : after.kept ≡ before.kept ++ more
    pub ended : All (IsEndOf before.made) more

-- WHAT IS REPORTED

-- what is reported of a pump that ended
abbrev pub report_of : {S : Type 0} → PumpEnd S → SubjectReport
report_of end = record { calls = end.calls; refused = end.refused; joins = end.hub.state.joined }

module _ {S Rest : Type 0} where
  -- the report tells the counts of the pumps and of the drainers, and what their sinks left, drainer by drainer
  pub record Reports (report : Report S Rest) (pump_ends : List (PumpEnd S)) (drain_ends : List (DrainEnd S Rest)) : Type 0 where
    pub subjects : report.subjects.items ≡ map report_of pump_ends
    pub taken : report.taken ≡ counted (sum_by (λ end. end.taken) drain_ends)
    pub put_away : report.put_away.items ≡ map (λ end. end.put_away) drain_ends

-- WHAT HAS SETTLED

module _ {B : Type 0} where
  -- of the port at each place the box at that place received all that it put
  abbrev pub GotEach : List (SettledView B) → List (Outgoing B) → Type 0
  GotEach boxes ports = AllZip (λ box port. GotAll (inbox_in box) port) boxes ports

module _ {S : Type 0} where
  -- the box of the replies to a desk settled: it is that of the desk's number, which its ports have, and received beside what the
  -- desk had received only what was still on its way
  pub record AreRepliesOf (boxes : List (SettledView (Reply S))) (desk : EndedDesk S) : Type 0 where
    pub number : ℕ
    pub ports : All (λ port. port.number ≡ number) desk.ports.items
    pub box : SettledView (Reply S)
    pub stood : slice_get boxes number ≡ Some box
    pub received : ReceivesMore desk.inbox (inbox_in box)

module _ {S Rest : Type 0} where
  -- the boxes of all subjects, of all drainers and of the replies to all desks have settled: what each port put is what its box
  -- received, and nothing else came
  pub record HaveSettled (boxes : SettledBoxes S) (leaves : List (Outgoing (Out S))) (desks : List (EndedDesk S)) (pumps : List (PumpEnd S)) (drainers : List (DrainEnd S Rest)) : Type 0 where
    -- the box of a subject is the one that its pump had, the box of a drainer that which the drainer had
    pub of_pumps : AllZip (λ end box. inbox_in box ≡ end.inbox) pumps boxes.subjects.items
    pub of_drainers : AllZip (λ end box. inbox_in box ≡ end.inbox) drainers boxes.drainers.items
    pub of_desks : All (AreRepliesOf boxes.replies.items) desks
    -- each is empty
    pub subjects_empty : All IsEmptied boxes.subjects.items
    pub drainers_empty : All IsEmptied boxes.drainers.items
    pub replies_empty : All IsEmptied boxes.replies.items
    -- to the subjects sent the desks and the drainers
    pub by_desks : All (λ desk. GotEach boxes.subjects.items desk.ports.items) desks
    pub by_drainers : All (λ end. GotEach boxes.subjects.items end.ports.items) drainers
    -- to the drainers sent the pumps, and the one that told them to leave
    pub to_drainers : All (λ end. GotEach boxes.drainers.items end.drainers.items) pumps
    pub to_leave : GotEach boxes.drainers.items leaves
    -- to the desks sent the pumps
    pub to_desks : All (λ end. GotEach boxes.replies.items end.replies.items) pumps

module _ {S Rest : Type 0} (acts : Acts S Rest) where
  -- each pump and each drainer served to its end, all boxes have settled, and the report tells of it: what the sinks of a drainer
  -- left is kept there if the drainer kept it. There is one choice of marks for the letters of each subject
  pub record Closes (server : ServerView S Rest) (ended : List (EndedDesk S)) (report : Report S Rest) : Type 0 where
    pub marks : List (Marked S)
    pub pump_ends : List (PumpEnd S)
    pub drain_ends : List (DrainEnd S Rest)
    -- what the desks left that were not handed out, each of which was to end, in their order behind what was kept
    pub finished : List (EndedDesk S)
    pub each_ended : EndsEach server.desks server.kept (server.kept ++ finished)
    pub pumped : AllZip (λ pump x. pump_serving.PumpServes pump x.0 x.1) server.pumps (zip pump_ends marks)
    pub each_marked : length marks ≡ length pump_ends
    pub drained : AllZip (drainer_serving.HasDrained acts) server.drainers drain_ends
    pub of_server : All (IsEndOf server.made) finished
    pub each_desk : EachDeskOnce (length server.made) (ended ++ (server.kept ++ finished))
    pub settled : HaveSettled report.boxes (map with_bye server.leaves) (ended ++ (server.kept ++ finished)) pump_ends drain_ends
    pub reports : Reports report pump_ends drain_ends
    pub keeps : AllZip (λ drainer list. list.keeps ≡ drainer.keeps) server.drainers report.put_away.items

-- WHY NOTHING IS REPORTED

module _ {S Rest : Type 0} (acts : Acts S Rest) where
  -- each pump served to its end
  abbrev pub HavePumped : List (PumpView S) → Type 0
  HavePumped pumps = (ends : List (PumpEnd S)) × AllZip pump_serving.HasPumped pumps ends

  -- the thread is the first that stopped at a fault of its own, pumps before drainers; all threads are over
  abbrev pub IsFirst : List (PumpView S) → List (DrainerView S Rest) → Role → ℕ → Type 0
  IsFirst pumps drainers Pump index =
      FirstStopped pump_serving.HasPumped pump_serving.PumpHasFailed pumps index
      × AreOver (drainer_serving.HasDrained acts) (drainer_serving.DrainerHasFailed acts) drainers
  IsFirst pumps drainers Drainer index =
      HavePumped pumps × FirstStopped (drainer_serving.HasDrained acts) (drainer_serving.DrainerHasFailed acts) drainers index
  IsFirst pumps drainers Worker index = ⊥

  -- all threads served to their end, and yet not each desk came back once, by hand, kept by the server, or ended by its close; the
  -- first pump is named, to whose box each desk has a port
  pub record LeavesUnsettled (server : ServerView S Rest) (ended : List (EndedDesk S)) (fault : CloseFault) : Type 0 where
    pub pump_ends : List (PumpEnd S)
    pub drain_ends : List (DrainEnd S Rest)
    pub finished : List (EndedDesk S)
    pub each_ended : EndsEach server.desks server.kept (server.kept ++ finished)
    pub pumped : AllZip pump_serving.HasPumped server.pumps pump_ends
    pub drained : AllZip (drainer_serving.HasDrained acts) server.drainers drain_ends
    pub of_server : All (IsEndOf server.made) finished
    pub wanting : ¬ EachDeskOnce (length server.made) (ended ++ (server.kept ++ finished))
    pub named : fault ≡ record { thread = Pump; index = 0; cause = Unsettled }

  -- a thread stopped at a fault of its own, or all served to their end and not each desk came back once
  abbrev pub Fails : ServerView S Rest → List (EndedDesk S) → CloseFault → Type 0
  Fails server ended fault =
      ((fault.cause ≡ Ended) × IsFirst server.pumps server.drainers fault.thread fault.index) ⊎ LeavesUnsettled server ended fault

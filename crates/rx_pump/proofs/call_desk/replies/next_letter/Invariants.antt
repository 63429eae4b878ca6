use Rattle.std.proofs.Common.{◌≤◌, ◌+◌, [], vec_len, vec_capacity}
use Rattle.rx_pump.specs.Early.{Comes}
use Rattle.rx_pump.proofs.call_desk.replies.next_letter.Given as goal

-- what came so far is held aside, and there is room for what is awaited
abbrev pub invariant-loop : goal.invariant-loop
invariant-loop g l = record {
  came : Comes l.initial.inbox l.inbox l.initial.early.items l.early.items l.fn.subject [];
  room : vec_len l.early + vec_len l.awaited ≤ vec_capacity l.early;
  count : vec_len l.early + vec_len l.awaited ≤ vec_len l.initial.early + vec_len l.initial.awaited;
}

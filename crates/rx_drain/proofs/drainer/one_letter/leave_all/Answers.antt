use Rattle.std.proofs.Common.{◌≡◌, ◌≤◌, ◌+◌, ◌∙◌, sym, refl, ap, subst, ℕ, List, [], ◌++◌, length, length-append, map, true, is_some, vec_len, arith}
use Rattle.std.proofs.lemmas.List.{length-map}
use Rattle.rx_mailbox.specs.Boxes.{Outgoing}
use Rattle.rx_pump.specs.Opened.{all_opened, opened_port, opened_ports}
use Rattle.rx_mailbox.specs.PortRows.{with_bye, EndsSome}
use Rattle.rx_pump.proofs.Pumping.{AreSame-length}
use Rattle.rx_mailbox.specs.Boxes.{all_told}
use Rattle.rx_mailbox.proofs.Told.{told-length}
use Rattle.rx_pump.proofs.Asking.{opened-ended, opened-length, opened-some}
use Rattle.rx_sink.specs.declared.kept.Kept.{Kept}
use Rattle.rx_sink.specs.KeptSinks.{addressed}
use Rattle.rx_sink.specs.Rests.{HasRoomFor, RestsView}
use Rattle.rx_drain.specs.Calls.{SendsEvents, partings_of}
use Rattle.rx_drain.specs.Logs.{sent_in}
use Rattle.rx_drain.proofs.Events.{sent_none}
use Rattle.rx_drain.proofs.Standing.{same_sent, of_sent, same_ended, same_half, sent_in_part, sent_ended, sent_half, stands_left}
use Rattle.rx_drain.proofs.drainer.one_letter.leave_all.Goals as goal

-- as many ports, in other lists
room_for : {before now room room_now : ℕ} → now ≡ before → room_now ≡ room → before ≤ room → now ≤ room_now
room_for same same_room fits = omega arith

no_more : {Rest : Type 0} (rests : RestsView Rest) (kept : ℕ) → kept ≡ 0 → HasRoomFor 0 rests → HasRoomFor kept rests
no_more rests kept none fits = λ is. omega (arith, none, fits is)

counted_none : {before after left : ℕ} → after ≡ before → left ≡ 0 → after + left ≡ before
counted_none many none = omega arith

ended_counts : {ended olds after left n_ended n_olds n_news n_after n_left : ℕ} → ended ≡ n_ended → olds ≡ n_olds → after ≡ n_after → left ≡ n_left
    → n_news ≡ n_olds → n_after + n_left ≡ n_ended + n_news → after + left ≡ ended + olds
ended_counts a b c d same many = omega arith

all_ended : {X : Type 0} (ports before after : List (Outgoing X)) → after ≡ before ++ map with_bye ports → length after ≡ length before + length ports
all_ended ports before after is = omega (arith, ap length is, length-append before (map with_bye ports), length-map ports with_bye)

some_ended : {X : Type 0} (ports left before after : List (Outgoing X)) → EndsSome ports left before after → length after + length left ≡ length before + length ports
some_ended ports left before after e =
    omega (arith, ap length e.parts, length-append e.done left, ap length e.ended, length-append before (map with_bye e.done), length-map e.done with_bye)

pub returns-then-is_some-clause-fits : goal.returns-then-is_some-clause-fits
returns-then-is_some-clause-fits g c =
    let ended = c.args.hands.now.ended in
    let olds = c.args.hands.now.parts.subjects in
    let news = c.part_all-fault.new.subjects in
    let kept = c.put_all_away.new.kept in
    let same : length (all_opened news.items) ≡ length olds.items =
    AreSame-length (all_opened olds.items) (all_opened news.items)
    (same_sent c.part_all-fault.result (partings_of c.as_slice.result.now) [] (all_opened olds.items) (all_opened news.items) c.part_all-fault.ensures)
    ∙ opened-length olds.items in
    let long : vec_len ended + vec_len news ≡ vec_len ended + vec_len olds = ap (λ (n : ℕ). vec_len ended + n) (news.ok.0 ∙ sym (opened-length news.items) ∙ same ∙ sym olds.ok.0) in
    let some : is_some c.part_all-fault.result ≡ true = sym c.is_some.ensures ∙ c.if-is_some.true in
    record {
      leave_is = c.requires.leave_is ∙ sym long;
      away_room = no_more c.put_all_away.new.away (vec_len kept) (kept.ok.0 ∙ ap length c.put_all_away.ensures.kept) c.put_all_away.ensures.room;
      ended_room = room_for long refl c.requires.ended_room;
      open_ports = λ e. cc;
      ended_ports = λ left fine. let none = ap is_some fine in cc;
    }

pub returns-in-Ok-clause-fits : goal.returns-in-Ok-clause-fits
returns-in-Ok-clause-fits g c =
    let ended = c.args.hands.now.ended in
    let olds = c.args.hands.now.parts.subjects in
    let news = c.part_all-fault.new.subjects in
    let kept = c.put_all_away.new.kept in
    let after = c.finish_all.new.ended in
    let left = c.finish_all.new.ports in
    let same : length (all_opened news.items) ≡ length olds.items =
    AreSame-length (all_opened olds.items) (all_opened news.items)
    (same_sent c.part_all-fault.result (partings_of c.as_slice.result.now) [] (all_opened olds.items) (all_opened news.items) c.part_all-fault.ensures)
    ∙ opened-length olds.items in
    let none = ap length c.in-Ok.ensures.ended.1 in
    let many = all_ended (all_told news.items) ended.items after.items c.in-Ok.ensures.ended.0 in
    let same_told = told-length news.items ∙ sym (opened-length news.items) ∙ same in
    let long = ended_counts ended.ok.0 olds.ok.0 after.ok.0 left.ok.0 same_told (counted_none many none) in
    record {
      leave_is = c.requires.leave_is ∙ sym long;
      away_room = no_more c.put_all_away.new.away (vec_len kept) (kept.ok.0 ∙ ap length c.put_all_away.ensures.kept) c.put_all_away.ensures.room;
      ended_room = room_for long c.finish_all.ensures.capacity c.requires.ended_room;
      open_ports = λ e. cc;
      ended_ports = λ all fine. c.in-Ok.ensures.ended.1;
    }

pub returns-in-Err-clause-fits : goal.returns-in-Err-clause-fits
returns-in-Err-clause-fits g c =
    let ended = c.args.hands.now.ended in
    let olds = c.args.hands.now.parts.subjects in
    let news = c.part_all-fault.new.subjects in
    let kept = c.put_all_away.new.kept in
    let after = c.finish_all.new.ended in
    let left = c.finish_all.new.ports in
    let same : length (all_opened news.items) ≡ length olds.items =
    AreSame-length (all_opened olds.items) (all_opened news.items)
    (same_sent c.part_all-fault.result (partings_of c.as_slice.result.now) [] (all_opened olds.items) (all_opened news.items) c.part_all-fault.ensures)
    ∙ opened-length olds.items in
    let many = some_ended (all_told news.items) (all_told left.items) ended.items after.items c.in-Err.ensures.ended.0 in
    let same_told = told-length news.items ∙ sym (opened-length news.items) ∙ same in
    let long = ended_counts ended.ok.0 olds.ok.0 after.ok.0 (left.ok.0 ∙ sym (told-length left.items)) same_told many in
    record {
      leave_is = c.requires.leave_is ∙ sym long;
      away_room = no_more c.put_all_away.new.away (vec_len kept) (kept.ok.0 ∙ ap length c.put_all_away.ensures.kept) c.put_all_away.ensures.room;
      ended_room = room_for long c.finish_all.ensures.capacity c.requires.ended_room;
      open_ports = λ e. cc;
      ended_ports = λ all fine. cc;
    }

pub returns-then-is_some-clause-ports : goal.returns-then-is_some-clause-ports
returns-then-is_some-clause-ports g c =
    same_sent c.part_all-fault.result (partings_of c.as_slice.result.now) (opened_ports c.args.hands.now.ended.items) (all_opened c.args.hands.now.parts.subjects.items) (all_opened c.part_all-fault.new.subjects.items) c.part_all-fault.ensures

pub returns-then-is_some-clause-handles : goal.returns-then-is_some-clause-handles
returns-then-is_some-clause-handles g c =
    let ended = opened_ports c.args.hands.now.ended.items in
    let a = all_opened c.args.hands.now.parts.subjects.items in
    let leave_is : c.args.leave ≡ length (ended ++ a) = omega (arith, c.requires.leave_is, length-append ended a, length-map c.args.hands.now.ended.items opened_port, opened-length c.args.hands.now.parts.subjects.items) in
    let sends = subst (λ (kept : List (Kept _)). SendsEvents c.part_all-fault.result (partings_of kept) a (all_opened c.part_all-fault.new.subjects.items)) c.as_slice.ensures.value c.part_all-fault.ensures in (
      of_sent c.part_all-fault.result (partings_of c.args.hands.now.kept.items) a (all_opened c.part_all-fault.new.subjects.items) sends,
      λ log s. stands_left g.S.Sink.acts (length (ended ++ a)) log c.args.leave _ _ leave_is refl refl c.put_all_away.ensures.kept refl refl c.put_all_away.ensures.closes
          (λ have. sent_in_part c.part_all-fault.result (addressed (sent_in (length (ended ++ a)) log)) (partings_of c.args.hands.now.kept.items) ended a (all_opened c.part_all-fault.new.subjects.items)
          (sym c.is_some.ensures ∙ c.if-is_some.true) (ap opened_ports (c.requires.open_ports refl)) have sends) s,
    )

pub returns-in-Ok-clause-ports : goal.returns-in-Ok-clause-ports
returns-in-Ok-clause-ports g c =
    let fine = sent_none c.part_all-fault.result (partings_of c.as_slice.result.now) (all_opened c.args.hands.now.parts.subjects.items) (all_opened c.part_all-fault.new.subjects.items) (sym c.is_some.ensures ∙ c.if-is_some.false) c.part_all-fault.ensures in
    same_ended (partings_of c.as_slice.result.now) (opened_ports c.args.hands.now.ended.items) (all_opened c.args.hands.now.parts.subjects.items) (all_opened c.part_all-fault.new.subjects.items) (opened_ports c.finish_all.new.ended.items) (all_opened c.finish_all.new.ports.items)
    (ap opened_ports (c.requires.open_ports refl)) fine (opened-ended c.args.hands.now.ended.items c.finish_all.new.ended.items (all_told c.part_all-fault.new.subjects.items) c.in-Ok.ensures.ended.0) (ap all_opened c.in-Ok.ensures.ended.1)

pub returns-in-Ok-clause-handles : goal.returns-in-Ok-clause-handles
returns-in-Ok-clause-handles g c =
    let ended = opened_ports c.args.hands.now.ended.items in
    let a = all_opened c.args.hands.now.parts.subjects.items in
    let leave_is : c.args.leave ≡ length (ended ++ a) = omega (arith, c.requires.leave_is, length-append ended a, length-map c.args.hands.now.ended.items opened_port, opened-length c.args.hands.now.parts.subjects.items) in
    let sends = subst (λ (kept : List (Kept _)). SendsEvents c.part_all-fault.result (partings_of kept) a (all_opened c.part_all-fault.new.subjects.items)) c.as_slice.ensures.value c.part_all-fault.ensures in
    let fine = sent_none c.part_all-fault.result (partings_of c.args.hands.now.kept.items) a (all_opened c.part_all-fault.new.subjects.items) (sym c.is_some.ensures ∙ c.if-is_some.false) sends in (
      tt,
      λ log s. stands_left g.S.Sink.acts (length (ended ++ a)) log c.args.leave _ _ leave_is refl refl c.put_all_away.ensures.kept refl refl c.put_all_away.ensures.closes
          (λ have. sent_ended (addressed (sent_in (length (ended ++ a)) log)) (partings_of c.args.hands.now.kept.items) ended a (all_opened c.part_all-fault.new.subjects.items) (opened_ports c.finish_all.new.ended.items) (all_opened c.finish_all.new.ports.items)
          (ap opened_ports (c.requires.open_ports refl)) have fine (opened-ended c.args.hands.now.ended.items c.finish_all.new.ended.items (all_told c.part_all-fault.new.subjects.items) c.in-Ok.ensures.ended.0) (ap all_opened c.in-Ok.ensures.ended.1)) s,
    )

pub returns-in-Err-clause-ports : goal.returns-in-Err-clause-ports
returns-in-Err-clause-ports g c =
    let fine = sent_none c.part_all-fault.result (partings_of c.as_slice.result.now) (all_opened c.args.hands.now.parts.subjects.items) (all_opened c.part_all-fault.new.subjects.items) (sym c.is_some.ensures ∙ c.if-is_some.false) c.part_all-fault.ensures in
    same_half (partings_of c.as_slice.result.now) (opened_ports c.args.hands.now.ended.items) (all_opened c.args.hands.now.parts.subjects.items) (all_opened c.part_all-fault.new.subjects.items) (opened_ports c.finish_all.new.ended.items) (all_opened c.finish_all.new.ports.items)
    (ap opened_ports (c.requires.open_ports refl)) fine (opened-some (all_told c.part_all-fault.new.subjects.items) (all_told c.finish_all.new.ports.items) c.args.hands.now.ended.items c.finish_all.new.ended.items c.in-Err.ensures.ended.0)

pub returns-in-Err-clause-handles : goal.returns-in-Err-clause-handles
returns-in-Err-clause-handles g c =
    let ended = opened_ports c.args.hands.now.ended.items in
    let a = all_opened c.args.hands.now.parts.subjects.items in
    let leave_is : c.args.leave ≡ length (ended ++ a) = omega (arith, c.requires.leave_is, length-append ended a, length-map c.args.hands.now.ended.items opened_port, opened-length c.args.hands.now.parts.subjects.items) in
    let sends = subst (λ (kept : List (Kept _)). SendsEvents c.part_all-fault.result (partings_of kept) a (all_opened c.part_all-fault.new.subjects.items)) c.as_slice.ensures.value c.part_all-fault.ensures in
    let fine = sent_none c.part_all-fault.result (partings_of c.args.hands.now.kept.items) a (all_opened c.part_all-fault.new.subjects.items) (sym c.is_some.ensures ∙ c.if-is_some.false) sends in
    let place_is : c.in-Err.place ≡ length (opened_ports c.finish_all.new.ended.items) = omega (arith, c.in-Err.ensures.ended.1, c.finish_all.new.ended.ok.0, length-map c.finish_all.new.ended.items opened_port) in (
      tt,
      λ log s. stands_left g.S.Sink.acts (length (ended ++ a)) log c.args.leave _ _ leave_is refl refl c.put_all_away.ensures.kept refl refl c.put_all_away.ensures.closes
          (λ have. sent_half c.in-Err.place (addressed (sent_in (length (ended ++ a)) log)) (partings_of c.args.hands.now.kept.items) ended a (all_opened c.part_all-fault.new.subjects.items) (opened_ports c.finish_all.new.ended.items) (all_opened c.finish_all.new.ports.items)
          (ap opened_ports (c.requires.open_ports refl)) have fine (opened-some (all_told c.part_all-fault.new.subjects.items) (all_told c.finish_all.new.ports.items) c.args.hands.now.ended.items c.finish_all.new.ended.items c.in-Err.ensures.ended.0) place_is) s,
    )

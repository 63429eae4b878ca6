-- The turns of one exchange among others.
use Rattle.std.proofs.Common.{◌≡◌, ℕ, Bool, true, false, List, Option, None, Some, Result, Ok, Err, refl, sym, subst, ◌∙◌}
use Rattle.std.specs.Io.KnownBytes.{Appends}
use Rattle.rx_note.specs.Choices.{Choice}
use Rattle.rx_proto.specs.Bytes.{AppendsPrefix}
use Rattle.rx_http.specs.Answers.{answer_bytes}
use Rattle.rx_http.specs.Begins.{begin_by}
use Rattle.rx_http.specs.declared.answer.Answer.{Answer}
use Rattle.rx_http.specs.declared.request.asked.Asked.{Asked}
use Rattle.rx_http.specs.declared.request.asked.Asked.TheVariants as asks
use Rattle.rx_http.specs.declared.request.begin.Begin.{Begin}
use Rattle.rx_http.specs.declared.request.credit.Credit.{Credit}
use Rattle.rx_http.specs.declared.answer.refusal.Refusal.{Refusal}
use Rattle.rx_session.specs.declared.session_end.SessionEnd.{SessionEnd}
use Rattle.rx_session.specs.declared.session_end.SessionEnd.TheVariants as ends
use Rattle.rx_session.specs.declared.turn.Turn.{Turn}
use Rattle.rx_session.specs.declared.turn.Turn.TheVariants.{Again, Waits, Stuck, Over}
use Rattle.rx_exchange.specs.Among.{JoinsTurns, among}
use Rattle.rx_exchange.specs.Exchanges.{Answered, HasMet, IsBack, IsOpen, IsOver, Listens, OnlySends, Sits, Sitting}
use Rattle.rx_exchange.specs.Meetings.{JoinsAt, Meets, Parties}
use Rattle.rx_exchange.specs.declared.exchange.Exchange.{Exchange}
use Rattle.rx_exchange.proofs.Turning.{sits-told, tells-sent}

module _ {D W : Type 0} (p : Parties D W) where
  -- a Join
  joins-among : (desk after start : D) (subject : List ℕ) (policy : Choice) (credit : Credit) (begin : Option Begin) (writer : W) (met : Option (Answer × W))
      → JoinsAt p desk subject policy credit begin writer met after → (now : D) × JoinsAt (among p) start subject policy credit begin writer met now
  joins-among desk after start subject policy credit None writer met (same, is) = (start, (refl, is))
  joins-among desk after start subject policy credit (Some begin) writer met (joining, joins, is) = (after, (joining, (desk, joins), is))

  -- what was asked for
  meets-among : (desk after start : D) (writer : W) (asked : Result Asked Refusal) (text : List ℕ) (met : Option (Answer × W)) → Meets p desk writer asked text met after
      → (now : D) × Meets (among p) start writer asked text met now
  meets-among desk after start writer (Ok (asks.Events subject policy credit known)) text met (epoch, since, joins) =
      let other = joins-among desk after start subject policy credit (begin_by epoch known) writer met joins in
      (other.0, (epoch, (desk, since), other.1))
  meets-among desk after start writer (Ok (asks.Emission subject kind size key)) text met (emitted, emits, epoch, since, is) =
      (after, (emitted, (desk, emits), epoch, (after, since), is))
  meets-among desk after start writer (Ok (asks.Texts subject size)) text met (told, emits, epoch, since, is) =
      (after, (told, (desk, emits), epoch, (after, since), is))
  meets-among desk after start writer (Ok (asks.Request subject observer items)) text met (asked, requests, is) = (after, (asked, (desk, requests), is))
  meets-among desk after start writer (Ok (asks.Look form)) text met (shown, shows, is) = (after, (shown, (desk, shows), is))
  meets-among desk after start writer (Ok (asks.Stop within)) text met (stopped, stops, is) = (after, (stopped, (desk, stops), is))
  meets-among desk after start writer (Ok asks.Health) text met (same, well, looks, is) = (start, (refl, well, (desk, looks), is))
  meets-among desk after start writer (Err cause) text met (same, is) = (start, (refl, is))

  module _ (start : D) (first : W) (read_old read_new : Option (List ℕ)) (desk : D) (writer : W) (same : writer ≡ first) where
    met-among : (after : D) (met : Option (Answer × W)) → HasMet p desk writer read_old read_new after met → (now : D) × HasMet (among p) start first read_old read_new now met
    met-among after met has =
        let other = meets-among desk after start writer has.asked has.text met has.meets in (
          other.0,
          record {
            came = has.came;
            consumed = has.consumed;
            asked = has.asked;
            text = has.text;
            asks = has.asks;
            meets = subst (λ (w : W). Meets (among p) start w has.asked has.text met other.0) same other.1;
          },
        )

    answered-among : (after : D) (now_writer : W) (says : Option (List ℕ) → Option (List ℕ) → List ℕ → Type 0) → Answered p desk writer read_old read_new after now_writer says
        → (now : D) × Answered (among p) start first read_old read_new now now_writer says
    answered-among after now_writer says is =
        let other = met-among after (Some (is.answer, is.back)) is.met in
        (other.0, record { answer = is.answer; back = is.back; met = other.1; told = is.told })

    listens-among : (after : D) (now_writer : W) (came : List ℕ) → Listens p desk writer read_old read_new after now_writer came
        → Listens (among p) start first read_old read_new start now_writer came
    listens-among after now_writer came is = record { consumed = is.consumed; partly = is.partly; desk_is = refl; writer_is = is.writer_is ∙ same }

    open-among : (after : D) (now_writer : W) (answered : Bool) (came : List ℕ) → IsOpen p desk writer read_old read_new after now_writer answered came
        → (now : D) × IsOpen (among p) start first read_old read_new now now_writer answered came
    open-among after now_writer false came is = (start, listens-among after now_writer came is)
    open-among after now_writer true came is = answered-among after now_writer Appends is

    back-among : (after : D) (back : Option W) → IsBack back (λ w. (came : List ℕ) × Listens p desk writer read_old read_new after w came)
        → IsBack back (λ w. (came : List ℕ) × Listens (among p) start first read_old read_new start w came)
    back-among after back (w, is, (came, listens)) = (w, is, (came, listens-among after w came listens))

    over-among : (end : SessionEnd) (back : Option W) (after : D) → IsOver p end back desk writer read_old read_new after
        → (now : D) × IsOver (among p) end back start first read_old read_new now
    over-among ends.Quit back after (w, is, answered) = let other = answered-among after w Appends answered in (other.0, (w, is, other.1))
    over-among ends.HandedOver back after (none, met) = let other = met-among after None met in (other.0, (none, other.1))
    over-among ends.EndOfInput back after (at_end, is) = (start, (at_end, back-among after back is))
    over-among ends.ReadFault back after is = (start, back-among after back is)
    over-among ends.TooManyReads back after is = (start, back-among after back is)
    over-among ends.WriteFault back after (w, is, answered) = let other = answered-among after w AppendsPrefix answered in (other.0, (w, is, other.1))

    sits-among : (result : Turn W) (after : D) (exchange : Exchange) → Sits p result desk writer read_old read_new after exchange
        → (now : D) × Sits (among p) result start first read_old read_new now exchange
    sits-among (Again w) after exchange is = open-among after w exchange.answered exchange.head is
    sits-among (Waits w) after exchange is = open-among after w exchange.answered exchange.head is
    sits-among (Stuck w) after exchange is = open-among after w exchange.answered exchange.head is
    sits-among (Over end back) after exchange is = over-among end back after is

  -- from where it came to, the exchange goes on at the server as it then is
  joins : (answered : Bool) (start : D) (first : W) (read_old read_now read_new : Option (List ℕ)) (then desk desk_after : D) (writer : W) (exchange exchange_after : Exchange) (result : Turn W)
      → exchange.answered ≡ answered → IsOpen (among p) start first read_old read_now then writer answered exchange.head
      → (exchange.answered ≡ true → OnlySends p.contents result read_now read_new writer exchange_after)
      → ((from : D) (begun : W) (known : Option (List ℕ)) → Sitting p from begun known read_now desk writer exchange → Sits p result from begun known read_new desk_after exchange_after)
      → (now : D) × Sits (among p) result start first read_old read_new now exchange_after
  joins false start first read_old read_now read_new then desk desk_after writer exchange exchange_after result is listens sends turns =
      let here : IsOpen p desk writer read_old read_now desk writer exchange.answered exchange.head =
      subst (λ (b : Bool). IsOpen p desk writer read_old read_now desk writer b exchange.head) (sym is)
      (record { consumed = listens.consumed; partly = listens.partly; desk_is = refl; writer_is = refl }) in
      sits-among start first read_old read_new desk writer listens.writer_is result desk_after exchange_after (turns desk writer read_old here)
  joins true start first read_old read_now read_new then desk desk_after writer exchange exchange_after result is told sends turns =
      let only = sends is in
      let met = subst (λ (r : Option (List ℕ)). HasMet (among p) start first read_old r then (Some (told.answer, told.back))) (sym only.1) told.met in (
        then,
        sits-told (among p) start first read_old result read_new then told.back told.answer exchange_after only.2 met
            (tells-sent p.contents result told.back writer (answer_bytes told.answer) told.told only.0),
      )

  pub joins_turns : JoinsTurns p
  joins_turns start first read_old read_now read_new then desk desk_after writer exchange exchange_after result sitting sends turns =
      joins exchange.answered start first read_old read_now read_new then desk desk_after writer exchange exchange_after result refl sitting sends turns

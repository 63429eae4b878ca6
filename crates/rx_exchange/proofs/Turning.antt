-- An exchange turn by turn.
use Rattle.std.proofs.Common.{◌≡◌, ℕ, zero, suc, Bool, true, inl, inr, List, [], ◌++◌, Option, Some, Result, refl, sym, subst, append-nil}
use Rattle.std.proofs.KnownBytes.{Appends-trans, Consumes-kept, Consumes-nil, Consumes-trans}
use Rattle.std.specs.Io.KnownBytes.{Appends, Consumes, Keeps}
use Rattle.rx_http.specs.Answers.{answer_bytes}
use Rattle.rx_http.specs.Heads.{HasNoHead}
use Rattle.rx_http.specs.declared.answer.Answer.{Answer}
use Rattle.rx_http.specs.declared.request.asked.Asked.{Asked}
use Rattle.rx_http.specs.declared.answer.refusal.Refusal.{Refusal}
use Rattle.rx_proto.proofs.Writes.{Prefix-behind}
use Rattle.rx_session.specs.declared.session_end.SessionEnd.{SessionEnd}
use Rattle.rx_session.specs.declared.session_end.SessionEnd.TheVariants as ends
use Rattle.rx_session.specs.declared.turn.Turn.{Turn}
use Rattle.rx_session.specs.declared.turn.Turn.TheVariants.{Again, Waits, Stuck, Over}
use Rattle.rx_exchange.specs.Coming.{AsksFor, Brings, IsEnd, IsPartly}
use Rattle.rx_exchange.specs.Exchanges.{Begins, HasMet, IsOpen, IsOver, Listens, Sits}
use Rattle.rx_exchange.specs.Meetings.{Meets, Parties, Tells}
use Rattle.rx_exchange.specs.declared.exchange.Exchange.{Exchange}

module _ {W : Type 0} (contents : W → Option (List ℕ)) where
  -- telling behind what was told
  pub tells-behind : (result : Turn W) (writer now : W) (front rest : List ℕ) → Appends (contents writer) (contents now) front → Tells contents result now rest
      → Tells contents result writer (front ++ rest)
  tells-behind (Again after) writer now front rest told tells = tells
  tells-behind (Waits after) writer now front rest told tells = tells
  tells-behind (Stuck after) writer now front rest told tells = Appends-trans (contents writer) (contents now) (contents after) front rest told tells
  tells-behind (Over end back) writer now front rest told (after, is, inl out) =
      (after, is, inl (out.0, Appends-trans (contents writer) (contents now) (contents after) front rest told out.1))
  tells-behind (Over end back) writer now front rest told (after, is, inr fault) =
      (after, is, inr (fault.0, Prefix-behind (contents writer) (contents now) (contents after) front rest told fault.1))

  -- sending behind what was told
  pub tells-sent : (result : Turn W) (writer now : W) (bytes : List ℕ) → Appends (contents writer) (contents now) bytes → Tells contents result now [] → Tells contents result writer bytes
  tells-sent result writer now bytes told tells =
      subst (λ (l : List ℕ). Tells contents result writer l) (append-nil bytes) (tells-behind result writer now bytes [] told tells)

module _ {D W : Type 0} (p : Parties D W) (start : D) (first : W) (read_old : Option (List ℕ)) where
  -- an exchange goes on behind a read that brought no head
  pub listens-more : (read_now read_new : Option (List ℕ)) (desk : D) (writer : W) (came after : List ℕ) {says : Type 0} → Listens p start first read_old read_now desk writer came
      → Brings read_now read_new came after says → IsPartly after → Listens p start first read_old read_new desk writer after
  listens-more read_now read_new desk writer came after listens brings partly = record {
    consumed = subst (λ (l : List ℕ). Consumes read_old read_new l) (sym brings.after_is) (Consumes-trans read_old read_now read_new came brings.read listens.consumed brings.consumed);
    partly = partly;
    desk_is = listens.desk_is;
    writer_is = listens.writer_is;
  }

  -- it stays where it was behind a read that brought nothing
  pub listens-kept : (read_now read_new : Option (List ℕ)) (desk : D) (writer : W) (came after : List ℕ) → Listens p start first read_old read_now desk writer came
      → Keeps read_now read_new → after ≡ came → Listens p start first read_old read_new desk writer after
  listens-kept read_now read_new desk writer came after listens keeps same = record {
    consumed = subst (λ (l : List ℕ). Consumes read_old read_new l) (sym same) (Consumes-kept read_old read_now read_new came listens.consumed keeps);
    partly = subst IsPartly (sym same) listens.partly;
    desk_is = listens.desk_is;
    writer_is = listens.writer_is;
  }

  -- and is over where the bytes ended
  pub ends-so : (end : SessionEnd) (read_new : Option (List ℕ)) (desk : D) (writer : W) (came : List ℕ) → Listens p start first read_old read_new desk writer came → IsEnd end read_new
      → IsOver p end (Some writer) start first read_old read_new desk
  ends-so ends.EndOfInput read_new desk writer came listens is = (is, (writer, refl, (came, listens)))
  ends-so ends.ReadFault read_new desk writer came listens is = (writer, refl, (came, listens))
  ends-so ends.Quit read_new desk writer came listens is = absurd is
  ends-so ends.HandedOver read_new desk writer came listens is = absurd is
  ends-so ends.WriteFault read_new desk writer came listens is = absurd is
  ends-so ends.TooManyReads read_new desk writer came listens is = absurd is

  -- what a read brought was met
  pub has-met : (read_now read_new : Option (List ℕ)) (desk after_desk : D) (writer : W) (came after : List ℕ) (asked : Result Asked Refusal) (text : List ℕ) (met : Option (Answer × W)) {says : Type 0}
      → Listens p start first read_old read_now desk writer came → Brings read_now read_new came after says → AsksFor after asked text → Meets p desk writer asked text met after_desk
      → HasMet p start first read_old read_new after_desk met
  has-met read_now read_new desk after_desk writer came after asked text met listens brings asks meets = record {
    came = after;
    consumed = subst (λ (l : List ℕ). Consumes read_old read_new l) (sym brings.after_is) (Consumes-trans read_old read_now read_new came brings.read listens.consumed brings.consumed);
    asked = asked;
    text = text;
    asks = asks;
    meets =
        subst (λ (d : D). Meets p d first asked text met after_desk) listens.desk_is
        (subst (λ (w : W). Meets p desk w asked text met after_desk) listens.writer_is meets);
  }

  -- the answer is told, or the writer faulted
  pub sits-told : (result : Turn W) (read_new : Option (List ℕ)) (desk : D) (back : W) (answer : Answer) (exchange : Exchange) → exchange.answered ≡ true
      → HasMet p start first read_old read_new desk (Some (answer, back)) → Tells p.contents result back (answer_bytes answer)
      → Sits p result start first read_old read_new desk exchange
  sits-told (Again after) read_new desk back answer exchange is met tells = absurd tells
  sits-told (Waits after) read_new desk back answer exchange is met tells = absurd tells
  sits-told (Stuck after) read_new desk back answer exchange is met tells =
      subst (λ (b : Bool). IsOpen p start first read_old read_new desk after b exchange.head) (sym is) (record { answer = answer; back = back; met = met; told = tells })
  sits-told (Over end held) read_new desk back answer exchange is met (after, same, inl out) =
      subst (λ (e : SessionEnd). IsOver p e held start first read_old read_new desk) (sym out.0) (after, same, record { answer = answer; back = back; met = met; told = out.1 })
  sits-told (Over end held) read_new desk back answer exchange is met (after, same, inr fault) =
      subst (λ (e : SessionEnd). IsOver p e held start first read_old read_new desk) (sym fault.0) (after, same, record { answer = answer; back = back; met = met; told = fault.1 })

-- no head is among no bytes
none-empty : HasNoHead []
none-empty zero below = refl
none-empty (suc n) below = refl

module _ {D W : Type 0} (p : Parties D W) where
  -- it begins anywhere
  pub begins : Begins p
  begins desk writer known exchange new =
      subst (λ (b : Bool). IsOpen p desk writer known known desk writer b exchange.head) (sym new.answered_is) (record {
        consumed = subst (λ (l : List ℕ). Consumes known known l) (sym new.head_is) (Consumes-nil known);
        partly = inl (subst HasNoHead (sym new.head_is) none-empty);
        desk_is = refl;
        writer_is = refl;
      })

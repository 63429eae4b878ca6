-- What an exchange has come to that is served turn by turn. A turn may begin wherever the one before it ended, and all of them together
-- answer the head of the bytes that they read.
--
-- An exchange: all its turns together read bytes, and meet what the first request of these asks for, once: whether all is well, what is seen of
-- the server, that it stops, an emission of a note of that kind at the subject of that name, with just the bytes of its body as its text, by its key, if it says one, or of an item for each line of its body, or a Join there, with
-- that policy and window and from where its reader begins, by which the server has the writer; else the answer is told to the writer, all of it where the exchange ended by itself, a front of it after a fault of
-- the writer. Where the bytes end before, or reading fails, the writer is back as it was, and the server was asked nothing. A
-- turn that goes on at once or waits for bytes made a read. No turn waits, and no memory is taken. Others may call the server
-- between its turns.
use Rattle.std.specs.Prelude.{◌≡◌, ◌⊎◌, ◌+◌, ℕ, Bool, true, false, List, [], Option, None, Some, Result}
use Rattle.std.specs.Io.KnownBytes.{Appends, Consumes, IsAtEnd}
use Rattle.rx_proto.specs.Bytes.{AppendsPrefix}
use Rattle.rx_http.specs.Answers.{answer_bytes}
use Rattle.rx_http.specs.declared.answer.Answer.{Answer}
use Rattle.rx_http.specs.declared.request.asked.Asked.{Asked}
use Rattle.rx_http.specs.declared.answer.refusal.Refusal.{Refusal}
use Rattle.rx_session.specs.declared.session_end.SessionEnd.{SessionEnd}
use Rattle.rx_session.specs.declared.session_end.SessionEnd.TheVariants as ends
use Rattle.rx_session.specs.declared.turn.Turn.{Turn}
use Rattle.rx_session.specs.declared.turn.Turn.TheVariants.{Again, Waits, Stuck, Over}
use Rattle.rx_exchange.specs.Coming.{AsksFor, IsPartly}
use Rattle.rx_exchange.specs.Meetings.{Meets, Parties, Tells}
use Rattle.rx_exchange.specs.declared.exchange.Exchange.{Exchange}

-- an exchange that had no turn yet
pub record IsNew (exchange : Exchange) : Type 0 where
  pub head_is : exchange.head ≡ []
  pub answered_is : exchange.answered ≡ false

-- all the reads that may be made were made only where none is left
abbrev pub HasNoReads : SessionEnd → Exchange → Type 0
HasNoReads ends.TooManyReads before = before.reads ≡ 0
HasNoReads ends.Quit before = Unit {0}
HasNoReads ends.EndOfInput before = Unit {0}
HasNoReads ends.HandedOver before = Unit {0}
HasNoReads ends.ReadFault before = Unit {0}
HasNoReads ends.WriteFault before = Unit {0}

-- which reads a turn made: one, where another turn may be made at once, or one is to wait for bytes, so that there are only so many of
-- them
abbrev pub HasGotOn : {W : Type 0} → Turn W → Exchange → Exchange → Type 0
HasGotOn (Again writer) before after = before.reads ≡ after.reads + 1
HasGotOn (Waits writer) before after = before.reads ≡ after.reads + 1
HasGotOn (Stuck writer) before after = Unit {0}
HasGotOn (Over end back) before after = HasNoReads end before

-- a turn of an exchange whose answer was told: it only has go out what waits at the writer
abbrev pub OnlySends : {W : Type 0} → (W → Option (List ℕ)) → Turn W → Option (List ℕ) → Option (List ℕ) → W → Exchange → Type 0
OnlySends contents result read_old read_new writer after = Tells contents result writer [] × (read_new ≡ read_old) × (after.answered ≡ true)

-- the writer is back, and something is said of it
abbrev pub IsBack : {W : Type 0} → Option W → (W → Type 0) → Type 0
IsBack {W = W} back says = (writer : W) × (back ≡ Some writer) × says writer

module _ {D W : Type 0} (p : Parties D W) where
  -- no whole request is among the bytes that were read, and nothing was asked of the server or told to the writer
  pub record Listens (start : D) (first : W) (read_old read_now : Option (List ℕ)) (desk : D) (writer : W) (came : List ℕ) : Type 0 where
    pub consumed : Consumes read_old read_now came
    pub partly : IsPartly came
    pub desk_is : desk ≡ start
    pub writer_is : writer ≡ first

  -- what the bytes ask for that were read was met so
  pub record HasMet (start : D) (first : W) (read_old read_now : Option (List ℕ)) (desk : D) (met : Option (Answer × W)) : Type 0 where
    pub came : List ℕ
    pub consumed : Consumes read_old read_now came
    pub asked : Result Asked Refusal
    pub text : List ℕ
    pub asks : AsksFor came asked text
    pub meets : Meets p start first asked text met desk

  -- it was met by an answer, of which something is said by the contents of the writer before and now
  pub record Answered (start : D) (first : W) (read_old read_now : Option (List ℕ)) (desk : D) (writer : W) (says : Option (List ℕ) → Option (List ℕ) → List ℕ → Type 0) : Type 0 where
    pub answer : Answer
    pub back : W
    pub met : HasMet start first read_old read_now desk (Some (answer, back))
    pub told : says (p.contents back) (p.contents writer) (answer_bytes answer)

  -- an exchange that is under way: it listens, or its answer is told to the writer
  abbrev pub IsOpen : D → W → Option (List ℕ) → Option (List ℕ) → D → W → Bool → List ℕ → Type 0
  IsOpen start first read_old read_now desk writer false came = Listens start first read_old read_now desk writer came
  IsOpen start first read_old read_now desk writer true came = Answered start first read_old read_now desk writer Appends

  -- with its desk and its writer
  abbrev pub Sitting : D → W → Option (List ℕ) → Option (List ℕ) → D → W → Exchange → Type 0
  Sitting start first read_old read_now desk writer exchange = IsOpen start first read_old read_now desk writer exchange.answered exchange.head

  -- an exchange that is over: its answer is out, or the server has the writer; or no request came, and the writer is back as it was; or the
  -- writer faulted, and has a front of the answer
  abbrev pub IsOver : SessionEnd → Option W → D → W → Option (List ℕ) → Option (List ℕ) → D → Type 0
  IsOver ends.Quit back start first read_old read_new desk = IsBack back (λ writer. Answered start first read_old read_new desk writer Appends)
  IsOver ends.HandedOver back start first read_old read_new desk = (back ≡ None) × HasMet start first read_old read_new desk None
  IsOver ends.EndOfInput back start first read_old read_new desk =
      IsAtEnd read_new × IsBack back (λ writer. (came : List ℕ) × Listens start first read_old read_new desk writer came)
  IsOver ends.ReadFault back start first read_old read_new desk =
      IsBack back (λ writer. (came : List ℕ) × Listens start first read_old read_new desk writer came)
  IsOver ends.TooManyReads back start first read_old read_new desk =
      IsBack back (λ writer. (came : List ℕ) × Listens start first read_old read_new desk writer came)
  IsOver ends.WriteFault back start first read_old read_new desk =
      IsBack back (λ writer. Answered start first read_old read_new desk writer AppendsPrefix)

  -- THE TURN: it is under way afterwards, or it is over
  abbrev pub Sits : Turn W → D → W → Option (List ℕ) → Option (List ℕ) → D → Exchange → Type 0
  Sits (Again writer) start first read_old read_new desk exchange = Sitting start first read_old read_new desk writer exchange
  Sits (Waits writer) start first read_old read_new desk exchange = Sitting start first read_old read_new desk writer exchange
  Sits (Stuck writer) start first read_old read_new desk exchange = Sitting start first read_old read_new desk writer exchange
  Sits (Over end back) start first read_old read_new desk exchange = IsOver end back start first read_old read_new desk

  -- what a turn asked of the server: nothing, or what one request asks for
  abbrev pub AsksOnce : D → W → D → Type 0
  AsksOnce desk writer after =
      (after ≡ desk) ⊎ ((asked : Result Asked Refusal) × (text : List ℕ) × (met : Option (Answer × W)) × Meets p desk writer asked text met after)

  -- an exchange that had no turn yet is under way from where it is
  abbrev pub Begins : Type 0
  Begins = (desk : D) (writer : W) (known : Option (List ℕ)) (exchange : Exchange) → IsNew exchange → Sitting desk writer known known desk writer exchange

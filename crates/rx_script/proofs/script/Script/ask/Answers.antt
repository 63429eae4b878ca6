use Rattle.std.proofs.Common.{◌≡◌, true, false, cond, sym, ap, subst, ◌∙◌}
use Rattle.std.specs.Option.{option_map_or}
use Rattle.rx_script.specs.declared.asked.Asked.{Asked}
use Rattle.rx_script.specs.declared.told.Told.TheVariants as told
use Rattle.rx_script.specs.declared.topic.Topic.{Topic}
use Rattle.rx_proto.specs.declared.response.Response.TheVariants.{Refused}
use Rattle.rx_proto.specs.declared.word.Word.TheVariants as words
use Rattle.rx_proto.specs.Printing.{reply_line}
use Rattle.rx_proto.specs.Reading.{same_word}
use Rattle.rx_script.specs.Tellings.{CarriesOut, is_last}
use Rattle.rx_script.specs.Transcripts.{event_written, wants_memory_for}
use Rattle.rx_hub.proofs.Positions.{position-within}
use Rattle.rx_lines.proofs.Written.{Puts-as}
use Rattle.rx_script.proofs.Wanted.{event_asked, text_asked, some_asked, wants-text, wants-event}
use Rattle.rx_script.proofs.Subjects.{found_at, unknown_to, some_topic, IsIn-after, IsIn-unknown, IsIn-same, match_ok}
use Rattle.rx_script.proofs.script.Script.ask.Goals as goal

pub returns-in-Ok : goal.returns-in-Ok
returns-in-Ok g c =
    let before = c.args.self.now in
    let after = c.take.new.self in
    let name = c.name_in.result.now in
    let event = c.in-Ok.event in
    let topics = before.topics.items in
    let old = g.W.Write.contents c.args.writer.now in
    let new = g.W.Write.contents c.take.new.writer in
    let place = c.in-Some.place in
    let d = some_topic topics place (position-within (λ (topic : Topic). same_word topic.name name) topics place (sym c.in-Some.ensures)) in
    subst (λ (a : Asked). CarriesOut c.take.result before after old new a) (sym (event_asked _ name event (c.name_in.ensures before.moment) c.in-Ok.ensures))
    (λ state is_in.
    let f = (found_at topics state.subjects name place d is_in.subjects (sym c.in-Some.ensures)).1 in
    let t = c.take.ensures.took d f.subject f.stands in (
      t.0,
      λ missed. ap (λ s. option_map_or (wants_memory_for event) s false) f.is ∙ wants-event event f.subject (t.1 missed),
      Puts-as c.take.result old new before.outbox after.outbox _ _
          (ap (λ version. cond t.0 (reply_line (Refused words.Memory)) (event_written version f.subject event)) is_in.version
          ∙ ap (λ s. cond t.0 (reply_line (Refused words.Memory)) (option_map_or (λ subject. event_written state.version subject event) s (reply_line (Refused words.Subject)))) (sym f.is)) t.2,
      match_ok c.take.result (λ x. x ≡ told.More) _ c.take.ensures.more (λ x more. (
        ap is_last more,
        IsIn-after before after state name place d event t.0 t.3 is_in f t.4 c.take.ensures.moment c.take.ensures.version t.5,
      )),
    ))

pub returns-in-Err : goal.returns-in-Err
returns-in-Err g c =
    let before = c.args.self.now in
    let after = c.refuse-in-Err.new.self in
    let name = c.name_in.result.now in
    let topics = before.topics.items in
    let old = g.W.Write.contents c.args.writer.now in
    let new = g.W.Write.contents c.refuse-in-Err.new.writer in
    let place = c.in-Some.place in
    let d = some_topic topics place (position-within (λ (topic : Topic). same_word topic.name name) topics place (sym c.in-Some.ensures)) in
    let t = text_asked _ name _ (c.name_in.ensures before.moment) c.in-Err.ensures in
    subst (λ (a : Asked). CarriesOut c.refuse-in-Err.result before after old new a) (sym t.is)
    (λ state is_in.
    let f = (found_at topics state.subjects name place d is_in.subjects (sym c.in-Some.ensures)).1 in (
      true,
      λ missed. ap (λ s. option_map_or (wants_memory_for t.event) s false) f.is ∙ wants-text t.event f.subject t.text,
      c.refuse-in-Err.ensures.puts,
      match_ok c.refuse-in-Err.result (λ x. x ≡ told.More) _ c.refuse-in-Err.ensures.more (λ x more. (
        ap is_last more,
        IsIn-same before after state is_in c.refuse-in-Err.ensures.topics c.refuse-in-Err.ensures.moment c.refuse-in-Err.ensures.version,
      )),
    ))

pub returns-in_default : goal.returns-in_default
returns-in_default g c =
    let before = c.args.self.now in
    let after = c.refuse.new.self in
    let name = c.name_in.result.now in
    let old = g.W.Write.contents c.args.writer.now in
    let new = g.W.Write.contents c.refuse.new.writer in
    let a = some_asked _ name (c.name_in.ensures before.moment) in
    subst (λ (a : Asked). CarriesOut c.refuse.result before after old new a) (sym a.is)
    (λ state is_in.
    let none = unknown_to before.topics.items state.subjects name a.event is_in.subjects (sym c.in_default.ensures) in (
      false,
      λ missed. cc,
      Puts-as c.refuse.result old new before.outbox after.outbox _ _
          (ap (λ s. option_map_or (λ subject. event_written state.version subject a.event) s (reply_line (Refused words.Subject))) (sym none.0)) c.refuse.ensures.puts,
      match_ok c.refuse.result (λ x. x ≡ told.More) _ c.refuse.ensures.more (λ x more. (
        ap is_last more,
        IsIn-unknown before after state name a.event is_in none.1 c.refuse.ensures.topics c.refuse.ensures.moment c.refuse.ensures.version,
      )),
    ))

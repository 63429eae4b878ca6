use Rattle.std.proofs.Common.{◌≡◌, ◌-◌, ◌++◌, codes, take, drop, ◌∙◌, arith}
use Rattle.std.proofs.lemmas.List.{length-drop, take_all}
use Rattle.rx_http.specs.Ids.{over_word, place_digits}
use Rattle.rx_http.proofs.Plain.{id_lines}
use Rattle.rx_proto.proofs.Writes.{Writes-fault, Writes-then}
use Rattle.rx_http.proofs.stream_event.written_event.write_id.Goals as goal

pub returns-in_err-write_bytes-clause-plain : goal.returns-in_err-write_bytes-clause-plain
returns-in_err-write_bytes-clause-plain g c = id_lines c.args.epoch.now c.args.place c.args.over c.as_bytes.ensures.epoch c.put_place-start.ensures.fits

pub returns-in_err-write_bytes-2-clause-plain : goal.returns-in_err-write_bytes-2-clause-plain
returns-in_err-write_bytes-2-clause-plain g c = id_lines c.args.epoch.now c.args.place c.args.over c.as_bytes.ensures.epoch c.put_place-start.ensures.fits

pub returns-in_err-write_bytes-3-clause-plain : goal.returns-in_err-write_bytes-3-clause-plain
returns-in_err-write_bytes-3-clause-plain g c = id_lines c.args.epoch.now c.args.place c.args.over c.as_bytes.ensures.epoch c.put_place-start.ensures.fits

pub returns-clause-plain : goal.returns-clause-plain
returns-clause-plain g c = id_lines c.args.epoch.now c.args.place c.args.over c.as_bytes.ensures.epoch c.put_place-start.ensures.fits

pub returns-in_err-write_bytes-clause-bytes : goal.returns-in_err-write_bytes-clause-bytes
returns-in_err-write_bytes-clause-bytes g c =
    rw (← c.as_bytes.ensures.bytes)
    (Writes-fault c.from_residual.result _ _ c.as_bytes.result.now (codes "-" ++ (place_digits c.args.place ++ over_word c.args.over)) c.from_residual.ensures.0 c.in_err-write_bytes.ensures)

pub returns-in_err-write_bytes-2-clause-bytes : goal.returns-in_err-write_bytes-2-clause-bytes
returns-in_err-write_bytes-2-clause-bytes g c =
    let behind = place_digits c.args.place ++ over_word c.args.over in
    let result = c.from_residual-in_err-write_bytes-2.result in
    rw (← c.as_bytes.ensures.bytes)
    (Writes-then result _ _ _ c.as_bytes.result.now (codes "-" ++ behind) c.in_ok-write_bytes.ensures
    (Writes-fault result _ _ (codes "-") behind c.from_residual-in_err-write_bytes-2.ensures.0 c.in_err-write_bytes-2.ensures))

pub returns-in_err-write_bytes-3-clause-bytes : goal.returns-in_err-write_bytes-3-clause-bytes
returns-in_err-write_bytes-3-clause-bytes g c =
    let start = c.put_place-start.result in
    let behind = drop start c.put_place-start.new.digits in
    let digits = take (10 - start) behind in
    let all : digits ≡ behind = take_all (10 - start) behind (omega (arith, length-drop start c.put_place-start.new.digits)) in
    let end = over_word c.args.over in
    let result = c.from_residual-in_err-write_bytes-3.result in
    rw (← c.as_bytes.ensures.bytes, ← (all ∙ c.put_place-start.ensures.digits))
    (Writes-then result _ _ _ c.as_bytes.result.now (codes "-" ++ (digits ++ end)) c.in_ok-write_bytes.ensures
    (Writes-then result _ _ _ (codes "-") (digits ++ end) c.in_ok-write_bytes-2.ensures
    (Writes-fault result _ _ digits end c.from_residual-in_err-write_bytes-3.ensures.0 c.in_err-write_bytes-3.ensures)))

pub returns-clause-bytes : goal.returns-clause-bytes
returns-clause-bytes g c =
    let start = c.put_place-start.result in
    let behind = drop start c.put_place-start.new.digits in
    let digits = take (10 - start) behind in
    let all : digits ≡ behind = take_all (10 - start) behind (omega (arith, length-drop start c.put_place-start.new.digits)) in
    let end = c.end_of_id.result.now in
    let result = c.write_bytes-4.result in
    rw (← c.as_bytes.ensures.bytes, ← c.end_of_id.ensures, ← (all ∙ c.put_place-start.ensures.digits))
    (Writes-then result _ _ _ c.as_bytes.result.now (codes "-" ++ (digits ++ end)) c.in_ok-write_bytes.ensures
    (Writes-then result _ _ _ (codes "-") (digits ++ end) c.in_ok-write_bytes-2.ensures
    (Writes-then result _ _ _ digits end c.in_ok-write_bytes-3.ensures c.write_bytes-4.ensures)))

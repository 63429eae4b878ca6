use Rattle.rx_http.proofs.answer.written_answer.write_answer.Goals as goal

pub returns-in-Accepted : goal.returns-in-Accepted
returns-in-Accepted g c = rw c.in-Accepted.is (rw (c.as_bytes.ensures.bytes, c.accepted_body-body.ensures) at c.write_sized-in-Accepted.ensures)

pub returns-in-Placed : goal.returns-in-Placed
returns-in-Placed g c = rw c.in-Placed.is (rw (c.as_bytes-in-Placed.ensures.bytes, c.placed_body-body.ensures) at c.write_sized-in-Placed.ensures)

pub returns-in-Cut : goal.returns-in-Cut
returns-in-Cut g c =
    rw c.in-Cut.is (rw (c.as_bytes-in-Cut.ensures.bytes, c.cut_body-body.ensures, c.status.ensures, c.fields.ensures) at c.write_sized-in-Cut.ensures)

pub returns-in-Shown : goal.returns-in-Shown
returns-in-Shown g c = rw c.in-Shown.is (rw (c.as_bytes-in-Shown.ensures.bytes, c.kind_of.ensures, c.more_of.ensures) at c.write_sized-in-Shown.ensures)

use Rattle.std.proofs.Common.{◌∙◌, ◌+◌, ◌++◌, ◌≤◌, sym, ap, take, length, arith}
use Rattle.std.proofs.lemmas.List.{length-take-le}
use Rattle.hazoxe_c.proofs.Batches.{take-put_front}
use Rattle.hazoxe_c.proofs.batch.append_padded.Goals as goal

pub returns : goal.returns
returns g c =
    let used = c.args.used in
    let buffer = c.args.buffer.now in
    let copied = c.copy_from_slice.ensures.after ∙ c.as_slice.ensures in
    let few : c.args.len ≤ length c.args.bytes.now = omega (arith, c.told-bytes, c.requires.front) in
    record {
      end_is = ap (λ n. used + n) (sym (length-take-le c.args.len c.args.bytes.now few));
      front = λ fits. take-put_front buffer c.copy_from_slice.new.self used _ c.args.len c.requires.within (omega (arith, ap length copied, few))
          ∙ ap (λ t. take used buffer ++ take c.args.len t) copied;
      kept = λ past. absurd (omega (arith, past, c.if-buffer-used.false, c.requires.within, c.requires.front));
    }

use Rattle.std.proofs.Common.{◌≡◌, ◌∙◌, sym, ap, ◌+◌, ◌≤◌, ℕ, List, ◌++◌, length, take, drop, append_assoc, arith}
use Rattle.std.proofs.Math.Seq.{take-add, take-append_seam, drop-append-add}
use Rattle.std.proofs.lemmas.List.{drop-drop, take-take, length-take, length-drop, length-append}
use Rattle.rx_program.proofs.socket.gathering.move_down.Goals as goal

-- some bytes more are where they belong
moved-front : (wanted front behind rest : List ℕ) (m s : ℕ) → m + s ≤ length front → s ≤ length behind → take m front ≡ take m wanted → behind ≡ drop m wanted
    → take (m + s) ((take m front ++ (take s behind ++ rest)) ++ behind) ≡ take (m + s) wanted
moved-front wanted front behind rest m s in_front in_behind same from =
    let done = take m front ++ take s behind in
    let long : length done ≡ m + s = omega (arith, length-append (take m front) (take s behind), length-take m front, length-take s behind) in
    ap (take (m + s)) (append_assoc (take m front) (take s behind ++ rest) behind ∙ ap (λ l. take m front ++ l) (append_assoc (take s behind) rest behind) ∙ sym (append_assoc (take m front) (take s behind) (rest ++ behind)))
    ∙ ap (λ n. take n (done ++ (rest ++ behind))) (sym long)
    ∙ take-append_seam done (rest ++ behind)
    ∙ ap (λ l. l ++ take s behind) same
    ∙ ap (λ l. take m wanted ++ take s l) from
    ∙ sym (take-add m s wanted)

-- what is behind them stays
moved-behind : (front behind old : List ℕ) (n s : ℕ) → length front ≡ n → behind ≡ drop n old → drop (n + s) (front ++ behind) ≡ drop (n + s) old
moved-behind front behind old n s long from =
    ap (λ k. drop (k + s) (front ++ behind)) (sym long)
    ∙ drop-append-add front behind s
    ∙ ap (drop s) from
    ∙ drop-drop s n old
    ∙ ap (λ k. drop k old) (omega arith)

pub loop-moved-preserved : goal.loop-moved-preserved
loop-moved-preserved c =
    let (long, within, same, behind) = c.loop-moved.invariant in
    let split = c.split_at_mut-front.ensures in
    let front = c.split_at_mut-front.result.0.now in
    let back = c.split_at_mut-front.result.1.now in
    let m = c.loop-moved.moved in
    let s = c.min-some.result in
    let old = c.args.bytes.now in
    let count = c.args.count in
    let now = c.put.new.bytes in
    let rest = drop (m + length (take s back)) front in
    let in_back : s ≤ length back = omega (arith, c.min-some.ensures) in
    let in_front : m + s ≤ length front = omega (arith, c.min-some.ensures, split.front_len) in
    let long_now : length now ≡ m + count = ap length c.put.ensures ∙ omega (arith, length-append (take m front) (take s back ++ rest), length-append (take s back) rest, length-take m front, length-take s back, length-drop (m + length (take s back)) front, split.front_len, in_back, in_front) in
    let from : back ≡ drop (m + count) old = split.back ∙ behind in
    let same_front : take m front ≡ take m (drop count old) = ap (take m) split.front ∙ take-take m (m + count) c.loop-moved.bytes (omega arith) ∙ same in (
      omega (arith, length-append now back, long_now, split.back_len, long),
      omega (arith, length-append now back, long_now, in_back),
      ap (λ l. take (m + s) (l ++ back)) c.put.ensures ∙ moved-front (drop count old) front back rest m s in_front in_back same_front (from ∙ ap (λ k. drop k old) (omega arith) ∙ sym (drop-drop m count old)),
      ap (λ k. drop k (now ++ back)) (omega arith) ∙ moved-behind now back old (m + count) s long_now from ∙ ap (λ k. drop k old) (omega arith),
    )

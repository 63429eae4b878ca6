use Rattle.std.proofs.Common.{eqb, take, drop, w8, sym, ap, ◌∙◌, arith}
use Rattle.std.proofs.lemmas.Simd.{bitmask_splat, length-chunk, leading_from_mask_l, trailing_mask_l}
use lib.Count.{count_trailing_zeros}
use Rattle.rx_lines.proofs.line_feed.before_lf.Goals as goal

pub returns-then-marks-eq0 : goal.returns-then-marks-eq0
returns-then-marks-eq0 c =
    let xs = take 16 (drop c.args.at c.args.bytes.now) in
    let long = length-chunk c.args.at 16 c.args.bytes.now c.requires in
    let mask = bitmask_splat w8 eqb xs 16 10 long (omega arith) in
    sym (leading_from_mask_l (λ x. eqb x 10) xs (sym mask ∙ c.if-marks-eq0.true) ∙ long)

pub returns-else-marks-eq0 : goal.returns-else-marks-eq0
returns-else-marks-eq0 c =
    let xs = take 16 (drop c.args.at c.args.bytes.now) in
    let long = length-chunk c.args.at 16 c.args.bytes.now c.requires in
    let mask = bitmask_splat w8 eqb xs 16 10 long (omega arith) in
    ap (λ m. count_trailing_zeros 64 m) mask ∙ trailing_mask_l (λ x. eqb x 10) 64 xs (omega (arith, long)) (omega (arith, mask, c.if-marks-eq0.false))

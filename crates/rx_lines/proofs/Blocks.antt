-- Parts of a block of bytes.
use Rattle.std.proofs.Common.{◌≡◌, ℕ, ◌+◌, ◌-◌, ◌<◌, ◌≤◌, max, inl, inr, List, ◌++◌, length, take, drop, Option, Result, Ok, Err, refl, sym, ap, ◌∙◌, subst, arith}
use Rattle.std.proofs.lemmas.List.{take-take, drop-drop, drop-take, length-take-le, drop_at, take_at, take-append-le, take_rest, append-nil}
use Rattle.std.proofs.lemmas.List.Edits.{between_none, length-between}
use Rattle.std.proofs.lemmas.Slice.{between_is, take-put_mid, take-put_mid_below}
use Rattle.std.proofs.lemmas.Bool.{cases_lt}
use Rattle.std.proofs.Math.Seq.{take-add, take-append-add}
use Rattle.rx_lines.specs.declared.window.Window.TheInside.{Inside}
use borrow.Rule.Slice.PartMut.{put_mid, post_of}
use Rattle.std.specs.List.{between, copy_within}
use Rattle.rx_proto.specs.LineFeeds.{HasNoLf}
use Rattle.rx_lines.specs.Windows.{IsWindow, HasLfAt, Fills, count_of}
use Rattle.std.specs.Io.{ReadsAtMost}
use Rattle.std.specs.Io.KnownBytes.{ReadConsumes}
use Rattle.rx_proto.proofs.LineFeeds.{HasNoLf-append, HasNoLf-back}
use Rattle.rx_lines.proofs.Lfs.{HasLfAt-behind}

-- a part in two
pub between-split : (xs : List ℕ) (i m j : ℕ) → i ≤ m → m ≤ j → between i j xs ≡ between i m xs ++ between m j xs
between-split xs i m j low high =
    let whole : j - i ≡ (m - i) + (j - m) = omega arith in
    let there : i + (m - i) ≡ m = omega arith in
    ap (λ n. take n (drop i xs)) whole ∙ take-add (m - i) (j - m) (drop i xs)
    ∙ ap (λ t. between i m xs ++ take (j - m) t) (drop-drop (m - i) i xs ∙ ap (λ n. drop n xs) there)

-- the front of a part
pub between-front : (xs : List ℕ) (i j len : ℕ) → len ≤ j - i → between i (i + len) xs ≡ take len (between i j xs)
between-front xs i j len within =
    let same : (i + len) - i ≡ len = omega arith in
    ap (λ n. take n (drop i xs)) same ∙ sym (take-take len (j - i) (drop i xs) within)

-- a part without its front
pub between-dropped : (xs : List ℕ) (i j len : ℕ) → len ≤ j - i → between (i + len) j xs ≡ drop len (between i j xs)
between-dropped xs i j len within =
    let rest : j - i ≡ len + (j - (i + len)) = omega arith in
    sym (ap (λ n. drop len (take n (drop i xs))) rest ∙ drop-take len (j - (i + len)) (drop i xs) ∙ ap (λ t. take (j - (i + len)) t) (drop-drop len i xs))

-- the part of the searched bytes that is left
passed_dropped : (xs : List ℕ) (start searched len : ℕ) → start ≤ searched → HasNoLf (between start searched xs) → HasNoLf (between (start + len) (max searched (start + len)) xs)
passed_dropped xs start searched len low none =
    elim (cases_lt (start + len) searched) [
      | inl more ↦ let same : max searched (start + len) ≡ searched = omega arith in
          rw same (HasNoLf-back (between start (start + len) xs) (between (start + len) searched xs)
          (subst HasNoLf (between-split xs start (start + len) searched (omega arith) (omega arith)) none))
      | inr less ↦ let same : max searched (start + len) ≡ start + len = omega arith in rw (same, between_none) tt
    ]

-- what was searched stays searched where the front is let go
pub IsWindow-dropped : (block : List ℕ) (start searched end len : ℕ) → IsWindow block start searched end → len ≤ end - start → IsWindow block (start + len) (max searched (start + len)) end
IsWindow-dropped block start searched end len w within =
    record { ordered = omega arith; within = omega (arith, w.ordered, w.within); room = w.room; passed = passed_dropped block start searched len w.ordered w.passed }

-- the first LF of a window, where it was found behind what was searched before
pub IsWindow-found : (block : List ℕ) (start searched end ahead : ℕ) → IsWindow block start searched end → length block ≡ 8192
    → HasLfAt (between searched end block) ahead → IsWindow block start (searched + ahead) end
IsWindow-found block start searched end ahead w full at =
    let within : ahead < end - searched = omega (arith, at.within, length-between block searched end) in
    record {
      ordered = omega (arith, w.ordered);
      within = omega (arith, w.within);
      room = w.room;
      passed = rw (between-split block start searched (searched + ahead) w.ordered (omega arith))
          (HasNoLf-append _ _ w.passed (rw (between-front block searched end ahead (omega arith)) at.line.one));
    }

pub HasLfAt-found : (block : List ℕ) (start searched end ahead : ℕ) → IsWindow block start searched end → length block ≡ 8192
    → HasLfAt (between searched end block) ahead → HasLfAt (between start end block) (searched + ahead - start)
HasLfAt-found block start searched end ahead w full at =
    let place : searched + ahead - start ≡ length (between start searched block) + ahead = omega (arith, w.ordered, length-between block start searched (omega (arith, w.within, w.room))) in
    rw (place, between-split block start searched end w.ordered w.within) (HasLfAt-behind _ _ ahead w.passed at)

-- no LF in a window, where none was found behind what was searched before
pub HasNoLf-searched : (block : List ℕ) (start searched end : ℕ) → IsWindow block start searched end → HasNoLf (between searched end block) → HasNoLf (between start end block)
HasNoLf-searched block start searched end w none = rw (between-split block start searched end w.ordered w.within) (HasNoLf-append _ _ w.passed none)

pub IsWindow-searched : (block : List ℕ) (start searched end : ℕ) → IsWindow block start searched end → HasNoLf (between searched end block) → IsWindow block start end end
IsWindow-searched block start searched end w none =
    record { ordered = omega (arith, w.ordered, w.within); within = omega arith; room = w.room; passed = HasNoLf-searched block start searched end w none }

-- a part below a write stays
between_put : (xs ys : List ℕ) (a k i j : ℕ) → j ≤ a → a ≤ length xs → between i j (put_mid a k xs ys) ≡ between i j xs
between_put xs ys a k i j low within =
    between_is (put_mid a k xs ys) i j ∙ ap (λ t. drop i t) (take-put_mid_below a k xs ys j low within) ∙ sym (between_is xs i j)

-- a read behind the window
pub IsWindow-filled : (block buf : List ℕ) (start searched end k n : ℕ) → IsWindow block start searched end → length block ≡ 8192 → n ≤ k → k ≡ 8192 - end → IsWindow (put_mid end k block buf) start searched (end + n)
IsWindow-filled block buf start searched end k n w full few room =
    record {
      ordered = w.ordered;
      within = omega (arith, w.within);
      room = omega (arith, w.room);
      passed = rw (between_put block buf end k start searched w.within (omega (arith, w.room))) w.passed;
    }

-- the bytes that a read put
written : (xs ys : List ℕ) (a k n : ℕ) → a ≤ length xs → n ≤ length ys → between a (a + n) (put_mid a k xs ys) ≡ take n ys
written xs ys a k n within few =
    let same : (a + n) - a ≡ n = omega arith in
    ap (λ m. take m (drop a (put_mid a k xs ys))) same
    ∙ ap (λ t. take n t) (drop_at (take a xs) (ys ++ post_of a k xs) a (length-take-le a xs within))
    ∙ take-append-le n ys (post_of a k xs) few

-- the window behind which a read put its bytes
pub between-filled : (block buf : List ℕ) (start end k n : ℕ) → start ≤ end → end ≤ length block → n ≤ length buf → between start (end + n) (put_mid end k block buf) ≡ between start end block ++ take n buf
between-filled block buf start end k n low within few =
    between-split (put_mid end k block buf) start end (end + n) low (omega arith)
    ∙ ap (λ t. t ++ between end (end + n) (put_mid end k block buf)) (between_put block buf end k start end (omega arith) within)
    ∙ ap (λ t. between start end block ++ t) (written block buf end k n within few)

-- a block with room for a read behind its window, which holds these bytes
pub record IsReady (block : List ℕ) (start searched end : ℕ) (bytes : List ℕ) : Type 0 where
  pub window : IsWindow block start searched end
  pub full : length block ≡ 8192
  pub room : end < 8192
  pub holds : between start end block ≡ bytes

-- there is room behind a window that was moved to the front, where it does not fill the block
pub IsReady-moved : (i : Inside) (bytes moved : List ℕ)
    → IsWindow i.block i.start i.searched i.end → length i.block ≡ 8192 → between i.start i.end i.block ≡ bytes → length bytes < 8192
    → moved ≡ copy_within i.block i.start i.end 0 → length moved ≡ length i.block → IsReady moved 0 (i.searched - i.start) (i.end - i.start) bytes
IsReady-moved i bytes moved w full holds few after len =
    let size : length (between i.start i.end i.block) ≡ i.end - i.start = length-between i.block i.start i.end (omega (arith, w.room)) in
    let same_end : i.end - i.start - 0 ≡ i.end - i.start = omega arith in
    let same_searched : i.searched - i.start - 0 ≡ i.searched - i.start = omega arith in
    let front : take (i.end - i.start) moved ≡ between i.start i.end i.block =
    ap (λ t. take (i.end - i.start) t) after ∙ take_at (between i.start i.end i.block) (drop (0 + (i.end - i.start)) i.block) (i.end - i.start) size in
    let searched : take (i.searched - i.start) moved ≡ between i.start i.searched i.block =
    sym (take-take (i.searched - i.start) (i.end - i.start) moved (omega (arith, w.within)))
    ∙ ap (λ t. take (i.searched - i.start) t) front
    ∙ take-take (i.searched - i.start) (i.end - i.start) (drop i.start i.block) (omega (arith, w.within)) in
    record {
      window = record { ordered = omega arith; within = omega (arith, w.within); room = omega (arith, w.room); passed = subst HasNoLf (sym (ap (λ n. take n moved) same_searched ∙ searched)) w.passed };
      full = len ∙ full;
      room = omega (arith, size, ap length holds);
      holds = ap (λ n. take n moved) same_end ∙ front ∙ holds;
    }

-- what a read put behind the window
pub IsReady-filled : (block : List ℕ) (start searched end : ℕ) (bytes buf : List ℕ) (n to : ℕ) → IsReady block start searched end bytes
    → length buf ≡ length (between end 8192 block) → n ≤ length buf → to ≡ end + n
    → IsWindow (put_mid end (8192 - end) block buf) start searched to × (between start to (put_mid end (8192 - end) block buf) ≡ bytes ++ take n buf)
IsReady-filled block start searched end bytes buf n to ready size few place =
    let P : ℕ → Type 0 = λ t. IsWindow (put_mid end (8192 - end) block buf) start searched t × (between start t (put_mid end (8192 - end) block buf) ≡ bytes ++ take n buf) in
    let room : length buf ≡ 8192 - end = size ∙ length-between block end 8192 (omega (arith, ready.full)) in
    let w = ready.window in
    subst P (sym place) (
      IsWindow-filled block buf start searched end (8192 - end) n w ready.full (omega arith) (omega arith),
      between-filled block buf start end (8192 - end) n (omega (arith, w.ordered, w.within)) (omega (arith, w.room, ready.full)) few ∙ ap (λ t. t ++ take n buf) ready.holds,
    )

-- a read behind the window has room
pub IsReady-room : (block : List ℕ) (start searched end : ℕ) (bytes buf : List ℕ) → IsReady block start searched end bytes → length buf ≡ length (between end 8192 block) → 0 < length buf
IsReady-room block start searched end bytes buf ready size =
    omega (arith, size, length-between block end 8192 (omega (arith, ready.full)), ready.room)

-- what a read of any outcome put behind the window
pub record IsRead {E : Type 0} (result : Result ℕ E) (old new : Option (List ℕ)) (block : List ℕ) (start searched end : ℕ) (bytes buf : List ℕ) : Type 0 where
  pub window : IsWindow (put_mid end (8192 - end) block buf) start searched (end + count_of result)
  pub fills : Fills result old new bytes (between start (end + count_of result) (put_mid end (8192 - end) block buf))

pub IsReady-read : {E : Type 0} (result : Result ℕ E) (old new : Option (List ℕ)) (block : List ℕ) (start searched end : ℕ) (bytes buf : List ℕ) → IsReady block start searched end bytes
    → length buf ≡ length (between end 8192 block) → ReadsAtMost result buf → ReadConsumes old new result buf → IsRead result old new block start searched end bytes buf
IsReady-read (Ok n) old new block start searched end bytes buf ready size bound told =
    let filled = IsReady-filled block start searched end bytes buf n (end + n) ready size bound.0 refl in
    record {
      window = filled.0;
      fills = (take n buf, told.0, filled.1, length-take-le n buf bound.0, λ none. told.1 none (IsReady-room block start searched end bytes buf ready size));
    }
IsReady-read (Err fault) old new block start searched end bytes buf ready size bound told =
    let filled = IsReady-filled block start searched end bytes buf 0 (end + 0) ready size (omega arith) refl in
    record { window = filled.0; fills = (told, filled.1 ∙ append-nil bytes) }

-- the front of a block behind which some bytes were put, with the first of these
pub take-put_front : (block bytes : List ℕ) (a k len : ℕ) → a ≤ length block → len ≤ length bytes → take (a + len) (put_mid a k block bytes) ≡ take a block ++ take len bytes
take-put_front block bytes a k len within few =
    let all : take (a + length bytes) (put_mid a k block bytes) ≡ take a block ++ bytes = take-put_mid a k block bytes (a + length bytes) refl within in
    sym (take-take (a + len) (a + length bytes) (put_mid a k block bytes) (omega arith))
    ∙ ap (take (a + len)) all
    ∙ ap (λ n. take (n + len) (take a block ++ bytes)) (sym (length-take-le a block within))
    ∙ take-append-add (take a block) bytes len

-- so many bytes and then so many of the rest
pub take-on : (bytes : List ℕ) (done more : ℕ) → take (done + more) bytes ≡ take done bytes ++ take more (take (length bytes - done) (drop done bytes))
take-on bytes done more = take-add done more bytes ∙ ap (λ t. take done bytes ++ take more t) (sym (take_rest bytes done))

-- what is left of the front of a block, moved to the front
pub take-moved : (block moved : List ℕ) (len end : ℕ) → len ≤ end → end ≤ length block → moved ≡ copy_within block len end 0
    → take (end - len) moved ≡ drop len (take end block)
take-moved block moved len end within room after =
    let same : len + (end - len) ≡ end = omega arith in
    ap (λ t. take (end - len) t) after
    ∙ take_at (between len end block) (drop (0 + (end - len)) block) (end - len) (length-between block len end room)
    ∙ sym (drop-take len (end - len) block) ∙ ap (λ n. drop len (take n block)) same

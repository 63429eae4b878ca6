-- Reads into the block of a reader of heads.
use Rattle.std.proofs.Common.{◌≡◌, ℕ, ◌+◌, ◌-◌, ◌<◌, ◌≤◌, List, ◌++◌, length, take, Option, Result, Ok, Err, refl, sym, ap, ◌∙◌, subst, append-nil, arith}
use Rattle.std.proofs.lemmas.List.{length-take-le, take-append-le, take-take}
use Rattle.std.proofs.lemmas.List.Edits.{length-between}
use Rattle.std.proofs.lemmas.Slice.{take-put_mid}
use Rattle.std.proofs.Math.Seq.{take-append-add}
use Rattle.std.specs.Io.{ReadsAtMost}
use Rattle.std.specs.Io.KnownBytes.{ReadConsumes}
use Rattle.std.specs.List.{between}
use borrow.Rule.Slice.PartMut.{put_mid}
use Rattle.rx_http.specs.HeadBlocks.{IsHeadBlock}
use Rattle.rx_http.specs.Heads.{Gathers, NoneBelow, count_of, ends_empty}

-- what was searched stays searched where more comes behind it
pub none-behind : (len : ℕ) (bytes more : List ℕ) → len ≤ length bytes + 1 → NoneBelow len bytes → NoneBelow len (bytes ++ more)
none-behind len bytes more ahead none shorter below =
    let within : shorter ≤ length bytes = omega arith in
    ap ends_empty (take-append-le shorter bytes more within) ∙ none shorter below

-- the front of a block behind which some bytes were put, with the first of these
take-put : (block bytes : List ℕ) (a k len : ℕ) → a ≤ length block → len ≤ length bytes → take (a + len) (put_mid a k block bytes) ≡ take a block ++ take len bytes
take-put block bytes a k len within few =
    let all : take (a + length bytes) (put_mid a k block bytes) ≡ take a block ++ bytes = take-put_mid a k block bytes (a + length bytes) refl within in
    sym (take-take (a + len) (a + length bytes) (put_mid a k block bytes) (omega arith))
    ∙ ap (take (a + len)) all
    ∙ ap (λ n. take (n + len) (take a block ++ bytes)) (sym (length-take-le a block within))
    ∙ take-append-add (take a block) bytes len

-- what a read of any outcome put behind the bytes that came
pub record IsRead {E : Type 0} (result : Result ℕ E) (old new : Option (List ℕ)) (block : List ℕ) (len searched : ℕ) (came buf : List ℕ) : Type 0 where
  pub held : IsHeadBlock (put_mid len (8192 - len) block buf) (len + count_of result) searched
  pub gathers : Gathers result old new came (take (len + count_of result) (put_mid len (8192 - len) block buf))

module _ (block buf came : List ℕ) (len searched n : ℕ) (is : IsHeadBlock block len searched) (full : length block ≡ 8192) (holds : take len block ≡ came) (size : length buf ≡ 8192 - len) (few : n ≤ length buf) where
  put : take (len + n) (put_mid len (8192 - len) block buf) ≡ take len block ++ take n buf
  put = take-put block buf len (8192 - len) n (omega (arith, is.room, full)) few

  put_held : IsHeadBlock (put_mid len (8192 - len) block buf) (len + n) searched
  put_held = record {
    room = omega (arith, is.room);
    ahead = omega (arith, is.ahead);
    passed = subst (NoneBelow searched) (sym put) (none-behind searched (take len block) (take n buf) (omega (arith, is.ahead, is.room, length-take-le len block (omega (arith, is.room, full)))) is.passed);
  }

pub is-read : {E : Type 0} (result : Result ℕ E) (old new : Option (List ℕ)) (block buf came : List ℕ) (len searched : ℕ)
    → IsHeadBlock block len searched → length block ≡ 8192 → take len block ≡ came → length came < 8192
    → length buf ≡ length (between len 8192 block) → ReadsAtMost result buf → ReadConsumes old new result buf → IsRead result old new block len searched came buf
is-read (Ok n) old new block buf came len searched is full holds less size bound told =
    let room : length buf ≡ 8192 - len = size ∙ length-between block len 8192 (omega (arith, full)) in
    let some : 0 < length buf = omega (arith, room, ap length holds, length-take-le len block (omega (arith, is.room, full)), less) in
    record {
      held = put_held block buf came len searched n is full holds room bound.0;
      gathers = (take n buf, told.0, put block buf came len searched n is full holds room bound.0 ∙ ap (λ l. l ++ take n buf) holds, length-take-le n buf bound.0, λ none. told.1 none some);
    }
is-read (Err fault) old new block buf came len searched is full holds less size bound told =
    let room : length buf ≡ 8192 - len = size ∙ length-between block len 8192 (omega (arith, full)) in
    record {
      held = put_held block buf came len searched 0 is full holds room (omega arith);
      gathers = (told, put block buf came len searched 0 is full holds room (omega arith) ∙ ap (λ l. l ++ take 0 buf) holds ∙ append-nil came);
    }

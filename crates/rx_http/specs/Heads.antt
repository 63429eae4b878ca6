-- Where the head of a request ends among the bytes of a connection: with its first empty line (RFC 9112, section 2.1).
--
-- The head of a connection: however its reads are cut, the head that is found ends with the first empty line of all bytes
-- that came, has at most 8,192, and the bytes that are handed on of it and behind it are together what came; none is found
-- just where there is none among the first 8,192. It stays the same where more comes. Of a connection that begins with a head
-- of the grammar, before which one empty line may stand, it is that head. No memory is taken.
use Rattle.std.specs.Prelude.{◌≡◌, ◌<◌, ◌≤◌, ◌+◌, ◌||◌, ℕ, Bool, true, false, nat_eq, List, ◌++◌, length, take, codes, Result, Ok, Err, MatchResult, Option}
use Rattle.std.specs.Io.KnownBytes.{Consumes, IsAtEnd, Keeps}
use Rattle.std.specs.List.{ends_with}
use Rattle.rx_http.specs.declared.head_reader.head_found.HeadFound.{HeadFound}
use Rattle.rx_http.specs.declared.head_reader.head_found.HeadFound.TheVariants.{Whole, Partly, TooLong}

-- whether the bytes end with an empty line: behind an LF there is another one, or a CR and another one
abbrev pub ends_empty : List ℕ → Bool
ends_empty bytes = ends_with nat_eq bytes (codes "\n\n") || ends_with nat_eq bytes (codes "\n\r\n")

-- no front of the bytes that is shorter than this ends with an empty line
abbrev pub NoneBelow : ℕ → List ℕ → Type 0
NoneBelow len bytes = (shorter : ℕ) → shorter < len → ends_empty (take shorter bytes) ≡ false

-- no empty line ends among the bytes
abbrev pub HasNoHead : List ℕ → Type 0
HasNoHead bytes = NoneBelow (length bytes + 1) bytes

-- the head at the front of the bytes has this length: it ends with their first empty line
pub record IsHeadAt (len : ℕ) (bytes : List ℕ) : Type 0 where
  pub within : len ≤ length bytes
  pub ends : ends_empty (take len bytes) ≡ true
  pub first : NoneBelow len bytes

-- what was found of a head of at most 8,192 bytes
abbrev pub FindsHead : HeadFound → List ℕ → Type 0
FindsHead (Whole len) bytes = IsHeadAt len bytes × (len ≤ 8192)
FindsHead Partly bytes = HasNoHead bytes × (length bytes < 8192)
FindsHead TooLong bytes = HasNoHead bytes × (length bytes ≡ 8192)

-- how many bytes a read gave
abbrev pub count_of : {E : Type 0} → Result ℕ E → ℕ
count_of (Ok count) = count
count_of (Err fault) = 0

-- a read put what it gave behind the bytes, nothing only at the end of the connection; one that failed changed nothing
abbrev pub Gathers : {E : Type 0} → Result ℕ E → Option (List ℕ) → Option (List ℕ) → List ℕ → List ℕ → Type 0
Gathers result old new before after =
    MatchResult result (λ n. (read : List ℕ) × Consumes old new read × (after ≡ before ++ read) × (length read ≡ n) × (n ≡ 0 → IsAtEnd new))
    (λ _. Keeps old new × (after ≡ before))

-- THE HEAD OF A CONNECTION is the same however it comes: there is one at most, it stays where more comes behind it, and where none is found
-- among so many bytes, any that comes is longer
pub record HeadIsTheSame : Type 0 where
  pub one : (len other : ℕ) (bytes : List ℕ) → IsHeadAt len bytes → IsHeadAt other bytes → len ≡ other
  pub stays : (len : ℕ) (bytes more : List ℕ) → IsHeadAt len bytes → IsHeadAt len (bytes ++ more)
  pub longer : (len : ℕ) (bytes more : List ℕ) → HasNoHead bytes → IsHeadAt len (bytes ++ more) → length bytes < len

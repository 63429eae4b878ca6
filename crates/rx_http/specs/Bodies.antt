-- What the fields of a request say of its body (RFC 9112, section 6), and of the page that sent it (RFC 6454, section 7).
use Rattle.std.specs.Prelude.{◌≡◌, ℕ, List, ◌&&◌, ◌||◌, Bool, true, false, not, Option, None, Some, codes, decimal}
use Rattle.rx_proto.specs.Reading.{begins_with, rest_behind, same_word}
use Rattle.rx_http.specs.Words.{IsNumber, IsReadOf}

-- an origin is a host, by a scheme
abbrev pub is_site : List ℕ → List ℕ → List ℕ → Bool
is_site origin scheme host = begins_with origin scheme && same_word (rest_behind origin scheme) host

-- a page of another site sent it: its origin is told, and isn't the host that was asked
abbrev pub is_foreign : Option (List ℕ) → Option (List ℕ) → Bool
is_foreign None host = false
is_foreign (Some origin) None = true
is_foreign (Some origin) (Some host) = not (is_site origin (codes "http://") host || is_site origin (codes "https://") host)

-- how many bytes the body has: none where neither field stands there, and so many as `Content-Length` says, where `Transfer-Encoding`
-- doesn't say that it is cut in pieces
abbrev pub HasSize : Option (List ℕ) → Option (List ℕ) → Option ℕ → Type 0
HasSize (Some coding) length size = size ≡ None
HasSize None None size = size ≡ Some 0
HasSize None (Some word) size = IsReadOf IsNumber decimal word size

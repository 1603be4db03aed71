-- Which requests are let in: none of a page of a foreign site, also where that site's name was made to lead to this machine.
use Rattle.std.specs.Prelude.{ℕ, Bool, true, not, ◌&&◌, ◌||◌, ◌==◌, slice_index, List, [], length, drop, codes, Option, Some, None, unwrap_or, IsTrue}
use Rattle.std.specs.Char.{is_ascii_digit}
use Rattle.std.specs.List.{list_all}
use Rattle.websocket.specs.Headers.{Fields, eq_ignore_case, header_value}
use Rattle.web_opening.specs.declared.text.Letters.TheVariants.{AnyCase}
use Rattle.web_opening.specs.Text.{begins_with, has_element}

-- b':'
abbrev pub colon : ℕ
colon = 58

-- nothing, or a colon and digits (RFC 3986, 3.2.3)
abbrev pub is_port : List ℕ → Bool
is_port text = length text == 0 || (slice_index text 0 == colon && list_all is_ascii_digit (drop 1 text))

-- the host has the name, at any port
unfoldable pub is_at_any_port : List ℕ → List ℕ → Bool
is_at_any_port host name = begins_with host name && is_port (drop (length name) host)

-- the host is this machine, by a name that nobody else gives
abbrev pub is_this_machine : List ℕ → Bool
is_this_machine host =
    is_at_any_port host (codes "127.0.0.1") || is_at_any_port host (codes "localhost") || is_at_any_port host (codes "[::1]")

-- the text is one of those between the commas of the list, and not nothing
abbrev pub is_named_in : List ℕ → List ℕ → Bool
is_named_in list text = not (length text == 0) && has_element list text AnyCase

-- the host is this machine's, or one of those that are named
abbrev pub is_host_let_in : List ℕ → List ℕ → Bool
is_host_let_in hosts host = is_this_machine host || is_named_in hosts host

-- the origin is the scheme with its colon and slashes, and then the host
unfoldable pub is_origin_by : List ℕ → List ℕ → List ℕ → Bool
is_origin_by origin scheme host = begins_with origin scheme && eq_ignore_case (drop (length scheme) origin) host

-- the origin is that of a page of the very host and port (RFC 6454, 6.2), or one of those that are named
abbrev pub is_page_let_in : List ℕ → List ℕ → List ℕ → Bool
is_page_let_in origins host origin =
    is_origin_by origin (codes "http://") host || is_origin_by origin (codes "https://") host || is_named_in origins origin

-- the same, and what has no origin comes from no page
abbrev pub is_origin_let_in : List ℕ → List ℕ → Option (List ℕ) → Bool
is_origin_let_in origins host None = true
is_origin_let_in origins host (Some origin) = is_page_let_in origins host origin

-- the host that a request names
abbrev pub host_of : Fields → List ℕ
host_of fields = unwrap_or (header_value fields (codes "Host")) []

-- the request's host is let in, and so is its origin
unfoldable pub is_let_in : List ℕ → List ℕ → Fields → Bool
is_let_in hosts origins fields =
    is_host_let_in hosts (host_of fields) && is_origin_let_in origins (host_of fields) (header_value fields (codes "Origin"))

-- a request with these header lines is let in where these hosts and these origins are named
abbrev pub IsLetIn : List ℕ → List ℕ → Fields → Type 0
IsLetIn hosts origins fields = IsTrue (is_let_in hosts origins fields)

-- What a server says that refuses a connection, as RFC 6143 has it.
use Rattle.std.specs.Prelude.{ℕ, List, ◌++◌, length, codes}
use Rattle.std.specs.Int.{w32, to_be_bytes}

-- 7.1.1, A: the version in which the server decides on the security type, without hearing the client
abbrev pub version : List ℕ
version = codes "RFB 003.003\n"

-- a number of four bytes, the greatest first
abbrev pub word : ℕ → List ℕ
word n = to_be_bytes w32 n

-- 7.1.2, A: the version, the security type 0, which is that the connection failed, and why
abbrev pub refusal : List ℕ → List ℕ
refusal reason = version ++ word 0 ++ word (length reason) ++ reason

-- why
abbrev pub reason : List ℕ
reason = codes "too many viewers"

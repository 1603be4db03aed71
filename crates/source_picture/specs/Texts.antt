-- A text of a source (RFC 6143, 7.6.4).
use Rattle.std.specs.Prelude.{ℕ, ◌-◌, List, [], ◌++◌, length, take}
use Rattle.server_reader.specs.declared.step.Step.{Step}
use Rattle.server_reader.specs.declared.step.Step.TheVariants as step

-- its first bytes, and how many bytes are to come
pub record TextView : Type 0 where
  pub kept : List ℕ
  pub left : ℕ

abbrev pub longest_text : ℕ
longest_text = 65536

-- further bytes of it
abbrev pub with_bytes : (bytes : List ℕ) → TextView → TextView
with_bytes bytes t = record { kept = take longest_text (t.kept ++ take t.left bytes); left = t.left - length bytes }

-- behind a step
abbrev pub text_after : Step → TextView → TextView
text_after (step.TextBegins long) t = record { kept = []; left = long }
text_after (step.Text bytes) t = with_bytes bytes.now t
text_after _ t = t

-- The line of a screen says it.
use Rattle.std.proofs.Common.{◌≡◌, ℕ, Bool, true, false, not, cond, List, [], ◌∷◌, refl, ap, ◌∙◌, arith, Some, None, bytes_eq, codes}
use Rattle.std.specs.List.{list_any}
use Rattle.screen.specs.declared.Config.{Config}
use Rattle.recorder.specs.Words.{hex_word, name_word, is_plain_name, parts_words}
use Rattle.recorder.specs.Events.{line_of, screen_words, screen_line}
use Rattle.play_script.specs.declared.lines.Line.TheVariants.{Start}
use Rattle.play_script.specs.Lines.{config_of, name_of}
use Rattle.replay.specs.Lines.{desktop_in}
use Rattle.replay.specs.Said.{IsSoundConfig, said_config}
use Rattle.replay.specs.Claims.{IsLine}
use Rattle.replay.proofs.ReadsTests.{some_bytes}
use Rattle.replay.proofs.ReadsWords.{IsWord, AreWords, line_says}
use Rattle.replay.proofs.ReadsNumbers.{number_is_read, decimal_is_word}
use Rattle.replay.proofs.ReadsBytes.{bytes_word, bytes_are_read}

record IsPlain (name : List ℕ) : Type 0 where
  no_dash : bytes_eq name (codes "-") ≡ false
  is_word : IsWord name

plain_is : (name : List ℕ) → is_plain_name name ≡ true → IsPlain name
plain_is name h = go (bytes_eq name (codes "-")) refl (list_any parts_words name) refl h
  where
    go : (dash : Bool) → bytes_eq name (codes "-") ≡ dash → (parted : Bool) → list_any parts_words name ≡ parted → cond dash false (not parted) ≡ true → IsPlain name
    go true d parted p t = absurd cc
    go false d true p t = absurd cc
    go false d false p t = record { no_dash = d; is_word = p }

name_some : (b : ℕ) (bs : List ℕ) → name_word (b ∷ bs) ≡ b ∷ bs
name_some b bs = ap (λ (t : Bool). cond t (codes "-") (b ∷ bs)) (some_bytes b bs)

name_is_word : (name : List ℕ) → IsPlain name → IsWord (name_word name)
name_is_word [] h = refl
name_is_word (b ∷ bs) h = ap (list_any parts_words) (name_some b bs) ∙ h.is_word

said_name : (e d : Bool) (name : List ℕ) → e ≡ false → d ≡ false → cond e None (cond d (Some []) (Some name)) ≡ Some name
said_name e d name p q = rw (p, q) refl

name_is_read : (name : List ℕ) → IsPlain name → name_of (name_word name) ≡ Some name
name_is_read [] h = refl
name_is_read (b ∷ bs) h = ap name_of (name_some b bs) ∙ said_name _ _ (b ∷ bs) (some_bytes b bs) h.no_dash

screen_are_words : (w : List ℕ) (c : Config) → IsSoundConfig c → IsWord w → AreWords (screen_words w c)
screen_are_words w c h g = (decimal_is_word c.width (omega (arith, h.width)), (decimal_is_word c.height (omega (arith, h.height)), (g, (decimal_is_word c.rects_per_update (omega (arith, h.limit)), tt))))

screen_said : (w : List ℕ) (c : Config) → IsSoundConfig c → name_of w ≡ Some c.name → config_of (codes "screen" ∷ screen_words w c) ≡ Some (said_config c)
unfolding config_of
screen_said w c h e = rw (number_is_read c.width h.width, number_is_read c.height h.height, number_is_read c.rects_per_update h.limit, e) refl

desktop_said : (c : Config) → IsSoundConfig c → desktop_in (codes "desktop" ∷ screen_words (hex_word c.name) c) ≡ Some (said_config c)
unfolding desktop_in
desktop_said c h = rw (number_is_read c.width h.width, number_is_read c.height h.height, number_is_read c.rects_per_update h.limit, bytes_are_read c.name h.name) refl

-- the line of a sound configuration
pub screen_says : (c : Config) → IsSoundConfig c → IsLine (screen_line c) (Start (said_config c))
screen_says c h = go (is_plain_name c.name) refl
  where
    go : (b : Bool) → is_plain_name c.name ≡ b → IsLine (cond b (line_of (codes "screen") (screen_words (name_word c.name) c)) (line_of (codes "desktop") (screen_words (hex_word c.name) c))) (Start (said_config c))
    go true e =
        let plain = plain_is c.name e in
        line_says (codes "screen") (screen_words (name_word c.name) c) _ refl (screen_are_words (name_word c.name) c h (name_is_word c.name plain)) refl
        (rw (screen_said (name_word c.name) c h (name_is_read c.name plain)) refl)
    go false e =
        line_says (codes "desktop") (screen_words (hex_word c.name) c) _ refl (screen_are_words (hex_word c.name) c h (bytes_word c.name)) refl
        (rw (desktop_said c h) refl)

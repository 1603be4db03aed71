use Rattle.std.proofs.Common.{◌≡◌, Bool, true, false, [], ◌∷◌, refl, rules, arith}
use Rattle.pixel_translate.specs.Pixel.{flag, is_flag_set, format_bytes, server_format}
use Rattle.source_talk.specs.Requests.{packed, plain}
use Rattle.source_talk.proofs.laws.messages_are_spelled.Goals as goal

flag_back : (b : Bool) → b ≡ is_flag_set (flag b)
flag_back true = refl
flag_back false = refl

pub returns : goal.returns
returns c = record {
  format = (0 ∷ 0 ∷ 0 ∷ [], format_bytes server_format, refl, refl, refl, refl);
  packed = (0, packed, omega arith, search rules, refl, refl, refl, refl);
  plain = (0, plain, omega arith, search rules, refl, refl, refl, refl);
  request = λ incremental w h small low. (flag incremental, record { x = omega arith; y = omega arith; w = small; h = low }, refl, flag_back incremental);
  key = λ down key small. (flag down, 0, 0, small, refl, flag_back down);
  pointer = λ mask x y small low. (small, low, refl);
}

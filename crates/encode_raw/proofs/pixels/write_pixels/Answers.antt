use Rattle.std.proofs.Common.{rules, ◌≡◌, sym, ◌∙◌}
use Rattle.pixel_translate.specs.Pixel.{pixel, server_format, HasServerComponents}
use Rattle.pixel_translate.specs.declared.PixelFormat.{PixelFormat}
use Rattle.encode_raw.proofs.pixels.write_pixels.Goals as goal

pub returns-then-has_server_components : goal.returns-then-has_server_components
returns-then-has_server_components c =
    let format : PixelFormat = c.format-format.result in
    let same : HasServerComponents format = search rules in
    rw (← c.format-format.ensures) (c.write_pixels.ensures (pixel format) (λ v r small answers.
    let given : r ≡ pixel server_format v = search rules in
    given ∙ c.server_pixels_are_colours.ensures.itself v ∙ sym (c.server_pixels_are_colours.ensures.components format v same)))

pub returns-else-has_server_components : goal.returns-else-has_server_components
returns-else-has_server_components c = rw (← c.format-format.ensures) (c.write_pixels-else-has_server_components.ensures (pixel c.format-format.result) (λ v r small answers. search rules))

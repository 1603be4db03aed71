-- Worked lines and scripts.
use Rattle.std.specs.Prelude.{◌≡◌, [], ◌∷◌, ◌++◌, codes, replicate, pos, negsuc, refl, true, false, Some, None}
use Rattle.std.specs.Fmt.{digits}
use Rattle.messages.specs.declared.Input.TheVariants as input
use Rattle.messages.specs.declared.Fault.TheVariants as fault
use Rattle.screen.specs.declared.History.TheVariants.{NotKept}
use Rattle.screen.specs.declared.Event.TheVariants.{Paint, Mark, DoCopy, Bell, CutText, Resize, Connect, Hear}
use Rattle.play_script.specs.declared.lines.Line.TheVariants.{Skipped, Start, Do, Bad}
use Rattle.play_script.specs.Words.{lines_of, words_of, number, viewer_number, hex_bytes, hex_colours}
use Rattle.play_script.specs.Lines.{line_of, config_of, places_of, pixels_of, corners_of, move_of, size_in, hear_of}
use Rattle.play_script.specs.Texts.{closed, input_line}
use Rattle.play_script.specs.Transcript.{transcript, status_of}

-- Lines and words.

two_lines : lines_of (codes "cut 1\n\ncut 2") ≡ codes "cut 1" ∷ [] ∷ codes "cut 2" ∷ []
two_lines = refl

last_line_feed : lines_of (codes "cut 1\n") ≡ codes "cut 1" ∷ [] ∷ []
last_line_feed = refl

doubled_blank : words_of (codes "cut  1 ") ≡ codes "cut" ∷ [] ∷ codes "1" ∷ [] ∷ []
doubled_blank = refl

-- Numbers.

leading_zeros : number (codes "0007") ≡ Some 7
leading_zeros = refl

largest_number : number (codes "2147483647") ≡ Some 2147483647
largest_number = refl

too_large : number (codes "2147483648") ≡ None
too_large = refl

signed : number (codes "+5") ≡ None
signed = refl

no_digits : number [] ≡ None
no_digits = refl

largest_viewer : viewer_number (codes "18446744073709551615") ≡ Some 0xffff_ffff_ffff_ffff
largest_viewer = refl

too_large_viewer : viewer_number (codes "18446744073709551616") ≡ None
too_large_viewer = refl

-- Bytes and colours.

no_bytes : hex_bytes (codes "-") ≡ Some []
no_bytes = refl

both_cases : hex_bytes (codes "0aFf") ≡ Some (10 ∷ 255 ∷ [])
both_cases = refl

odd_digits : hex_bytes (codes "0g") ≡ None
odd_digits = refl

half_a_byte : hex_bytes (codes "123") ≡ None
half_a_byte = refl

colours : hex_colours (codes "ff8000000001") ≡ Some (0xff8000 ∷ 1 ∷ [])
colours = refl

-- Lines.

empty_line : line_of [] ≡ Skipped
empty_line = refl

comment : line_of (codes "# cut 1") ≡ Skipped
comment = refl

blank_line : line_of (codes " ") ≡ Bad
blank_line = refl

screen_line : line_of (codes "screen 4 3 demo") ≡ Start (record { width = 4; height = 3; name = codes "demo"; rects_per_update = 50; history = NotKept })
unfolding config_of
screen_line = refl

screen_with_limit : line_of (codes "screen 9 1 - 2") ≡ Start (record { width = 9; height = 1; name = []; rects_per_update = 2; history = NotKept })
unfolding config_of
screen_with_limit = refl

paint_line : line_of (codes "paint 2 1 1 1 ff8000") ≡ Do (Paint (record { x1 = pos 2; y1 = pos 1; x2 = pos 3; y2 = pos 2 }) (0xff8000 ∷ []))
unfolding pixels_of places_of
paint_line = refl

one_colour : line_of (codes "paint 0 0 2 2 00000a") ≡ Do (Paint (record { x1 = pos 0; y1 = pos 0; x2 = pos 2; y2 = pos 2 }) (10 ∷ 10 ∷ 10 ∷ 10 ∷ []))
unfolding pixels_of places_of
one_colour = refl

one_colour_for_none : line_of (codes "paint 0 0 0 2 00000a") ≡ Do (Paint (record { x1 = pos 0; y1 = pos 0; x2 = pos 0; y2 = pos 2 }) [])
unfolding pixels_of places_of
one_colour_for_none = refl

far_away : line_of (codes "paint 2147483647 0 1 1 -") ≡ Bad
unfolding pixels_of places_of
far_away = refl

hear_line : line_of (codes "hear 007 1f-") ≡ Bad
unfolding hear_of
hear_line = refl

hear_nothing : line_of (codes "hear 007 -") ≡ Do (Hear 7 [])
unfolding hear_of
hear_nothing = refl

mark_line : line_of (codes "mark 1 -1 0 -0") ≡ Do (Mark (record { x1 = pos 1; y1 = negsuc 0; x2 = pos 0; y2 = pos 0 } ∷ []))
unfolding corners_of
mark_line = refl

copy_line : line_of (codes "docopy 1 0 4 1 -2147483647 0") ≡ Do (DoCopy (record { x1 = pos 1; y1 = pos 0; x2 = pos 4; y2 = pos 1 } ∷ []) (negsuc 2147483646) (pos 0))
unfolding corners_of move_of
copy_line = refl

too_far : line_of (codes "schedule 1 0 4 1 -2147483648 0") ≡ Bad
unfolding corners_of move_of
too_far = refl

resize_line : line_of (codes "resize 6 2") ≡ Do (Resize 6 2)
unfolding size_in
resize_line = refl

no_rows : line_of (codes "resize 6") ≡ Bad
no_rows = refl

-- a refused size, behind which the script goes on
refused_size : transcript (codes "screen 4 1 demo\nresize 0 1\nresize 2 1\n") ≡ codes "ok\nrefused 1 BadSize\nok\n"
unfolding config_of size_in
refused_size = refl

two_signs : line_of (codes "schedule 1 0 4 1 --1 0") ≡ Bad
unfolding corners_of move_of
two_signs = refl

bell_line : line_of (codes "bell") ≡ Do Bell
bell_line = refl

bell_for_one : line_of (codes "bell 1") ≡ Bad
bell_for_one = refl

text_line : line_of (codes "cuttext 6869") ≡ Do (CutText (codes "hi"))
text_line = refl

connect_line : line_of (codes "connect 01") ≡ Do (Connect 1)
connect_line = refl

cut_with_blank : line_of (codes "cut 1 ") ≡ Bad
cut_with_blank = refl

close_with_return : line_of (codes "close 1\r") ≡ Bad
close_with_return = refl

-- Texts.

key : input_line 1 (input.Key true 0xff0d) ≡ codes "key 1 1 0000ff0d\n"
unfolding digits
key = refl

pointer : input_line 1 (input.Pointer 1 2 1) ≡ codes "pointer 1 01 2 1\n"
unfolding digits
pointer = refl

text : input_line 1 (input.Text (codes "hi") false) ≡ codes "text 1 0 6869\n"
unfolding digits
text = refl

unknown_message : closed 1 (Some (fault.UnknownMessage 7)) ≡ codes "closed 1 3 UnknownMessage 7\n"
unfolding digits
unknown_message = refl

-- Scripts.

mistyped : transcript (codes "screen 4 1 demo\npant 1\n") ≡ codes "ok\nbad line 2\n"
unfolding config_of digits
mistyped = refl

mistyped_status : status_of (codes "screen 4 1 demo\npant 1\n") ≡ 1
unfolding config_of
mistyped_status = refl

no_size : transcript (codes "screen 0 1 demo\ncut 1\n") ≡ codes "refused 1 BadSize\n"
unfolding config_of
no_size = refl

no_size_status : status_of (codes "screen 0 1 demo\ncut 1\n") ≡ 1
unfolding config_of
no_size_status = refl

-- an opening in version 3.8, a request of all, and a painted place
one_viewer : transcript (codes "screen 4 3 demo\nconnect 1\nhear 1 524642203030332e3030380a0101\nhear 1 03000000000000040003\ncut 1\nhear 1 03010000000000040003\ncut 1\npaint 2 1 1 1 ff8000\ncut 1\ncut 1\n")
    ≡ codes "ok\nconnect 1 524642203030332e3030380a\nhear 1 010100000000000400032018000100ff00ff00ff1008000000000000000464656d6f\nhear 1 -\ncut 1 00000001000000000004000300000000" ++ replicate 96 48 ++ codes "\nhear 1 -\ncut 1 -\nok\ncut 1 000000010002000100010001000000000080ff00\ncut 1 -\n"
unfolding config_of pixels_of places_of hear_of digits
one_viewer = refl

-- the stored run: two viewers, of which one uses CopyRect
stored_run : transcript (codes "screen 4 1 demo\npaint 0 0 4 1 000001000002000003000004\nconnect 1\nconnect 2\nhear 1 524642203030332e3030380a0101\nhear 2 524642203030332e3030380a0101\nhear 1 020000020000000100000000\nhear 1 03000000000000040001\nhear 2 03000000000000040001\ncut 1\ncut 2\ndocopy 1 0 4 1 1 0\nhear 1 03010000000000040001\nhear 2 03010000000000040001\ncut 1\ncut 2\n")
    ≡ codes "ok\nok\nconnect 1 524642203030332e3030380a\nconnect 2 524642203030332e3030380a\nhear 1 010100000000000400012018000100ff00ff00ff1008000000000000000464656d6f\nhear 2 010100000000000400012018000100ff00ff00ff1008000000000000000464656d6f\nhear 1 -\nhear 1 -\nhear 2 -\ncut 1 0000000100000000000400010000000001000000020000000300000004000000\ncut 2 0000000100000000000400010000000001000000020000000300000004000000\nok\nhear 1 -\nhear 2 -\ncut 1 00000001000100000003000100000001" ++ codes "00000000\ncut 2 00000001000100000003000100000000010000000200000003000000\n"
unfolding config_of pixels_of places_of corners_of move_of hear_of digits
stored_run = refl

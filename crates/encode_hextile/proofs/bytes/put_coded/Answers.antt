use Rattle.std.proofs.Common.{◌≡◌, ◌+◌, ◌*◌, ◌++◌, ◌∷◌, ℕ, List, length, arith, sym, ap, ◌∙◌, append_assoc, length-append}
use Rattle.pixel_translate.specs.Pixel.{bytes_per_pixel}
use Rattle.subrectangles.specs.Subrectangles.{rows_of, subrectangles}
use Rattle.encode_hextile.specs.declared.TilePixels.{TilePixels}
use Rattle.encode_hextile.specs.Hextile.{Coded, tile, coded, raw_tile, bits_of, said_bytes, list_bytes}
use Rattle.encode_hextile.proofs.Cuts.{concat_rows}
use Rattle.encode_hextile.proofs.Coding.{tile_short, tile_long}
use Rattle.encode_hextile.proofs.bytes.put_coded.Goals as goal
use Rattle.encode_hextile.proofs.bytes.put_coded.Goals.{else-put_list-via-then-put_list+else-len-raw_len, else-put_list-via-else-put_list}

pub returns-then-len-raw_len-clause-next : goal.returns-then-len-raw_len-clause-next
returns-then-len-raw_len-clause-next c =
    let f = c.args.format.now in
    let ps : List ℕ = c.args.pixels.now.values.now in
    let rows : List (List ℕ) = rows_of c.args.pixels.now.width c.args.pixels.now.height ps in
    let b : ℕ = c.args.palette.background in
    let others : TilePixels = c.args.palette.others in
    let said : List ℕ = said_bytes f c.args.carried b others in
    let list : List ℕ = list_bytes f (subrectangles b rows) others in
    let joined : c.put_list.new.front.items ++ c.put_list.new.list.items ≡ (bits_of c.args.carried b others ∷ said) ++ list =
    c.put_list.ensures.yes c.if-put_list.true ∙ ap (λ (t : List ℕ). t ++ list) c.put_front.ensures.items in
    let len : c.len.result + c.len-then-put_list.result ≡ 1 + length (said ++ list) =
    omega (arith, c.len.ensures.value, c.len-then-put_list.ensures.value, length-append c.put_list.new.front.items c.put_list.new.list.items, ap (length {A = ℕ}) joined) in
    let is : tile f c.args.carried rows ≡ coded f c.args.carried b (subrectangles b rows) others =
    tile_short f c.args.carried rows ps b others (concat_rows c.args.pixels.now.width c.args.pixels.now.height ps c.args.pixels.now.whole) c.requires.stands.0 c.requires.stands.1
    (omega (arith, len, c.if-len-raw_len.true, ap (λ (p : ℕ). length ps * p) c.bytes_per_pixel.ensures)) in
    c.next_of.ensures ∙ sym (ap (λ (t : Coded). t.next) is)

pub returns-then-len-raw_len-clause-ok : goal.returns-then-len-raw_len-clause-ok
returns-then-len-raw_len-clause-ok c =
    let f = c.args.format.now in
    let ps : List ℕ = c.args.pixels.now.values.now in
    let rows : List (List ℕ) = rows_of c.args.pixels.now.width c.args.pixels.now.height ps in
    let b : ℕ = c.args.palette.background in
    let others : TilePixels = c.args.palette.others in
    let said : List ℕ = said_bytes f c.args.carried b others in
    let list : List ℕ = list_bytes f (subrectangles b rows) others in
    let joined : c.put_list.new.front.items ++ c.put_list.new.list.items ≡ (bits_of c.args.carried b others ∷ said) ++ list =
    c.put_list.ensures.yes c.if-put_list.true ∙ ap (λ (t : List ℕ). t ++ list) c.put_front.ensures.items in
    let len : c.len.result + c.len-then-put_list.result ≡ 1 + length (said ++ list) =
    omega (arith, c.len.ensures.value, c.len-then-put_list.ensures.value, length-append c.put_list.new.front.items c.put_list.new.list.items, ap (length {A = ℕ}) joined) in
    let is : tile f c.args.carried rows ≡ coded f c.args.carried b (subrectangles b rows) others =
    tile_short f c.args.carried rows ps b others (concat_rows c.args.pixels.now.width c.args.pixels.now.height ps c.args.pixels.now.whole) c.requires.stands.0 c.requires.stands.1
    (omega (arith, len, c.if-len-raw_len.true, ap (λ (p : ℕ). length ps * p) c.bytes_per_pixel.ensures)) in
    c.in_ok-extend_from_slice-2.ensures.items
    ∙ ap (λ (t : List ℕ). c.extend_from_slice.new.self.items ++ t) c.deref-then-len-raw_len.ensures.0
    ∙ ap (λ (t : List ℕ). t ++ c.put_list.new.list.items) (c.in_ok-extend_from_slice.ensures.items ∙ ap (λ (t : List ℕ). c.args.out.now.items ++ t) c.deref.ensures.0)
    ∙ append_assoc c.args.out.now.items c.put_list.new.front.items c.put_list.new.list.items
    ∙ ap (λ (t : List ℕ). c.args.out.now.items ++ t) joined
    ∙ sym (ap (λ (t : Coded). c.args.out.now.items ++ t.bits ∷ t.bytes) is)

pub returns-clause-next : goal.returns-clause-next
returns-clause-next c =
    let f = c.args.format.now in
    let ps : List ℕ = c.args.pixels.now.values.now in
    let rows : List (List ℕ) = rows_of c.args.pixels.now.width c.args.pixels.now.height ps in
    let b : ℕ = c.args.palette.background in
    let others : TilePixels = c.args.palette.others in
    let said : List ℕ = said_bytes f c.args.carried b others in
    let list : List ℕ = list_bytes f (subrectangles b rows) others in
    let raw : length ps * c.bytes_per_pixel.result ≡ length ps * bytes_per_pixel f = ap (λ (p : ℕ). length ps * p) c.bytes_per_pixel.ensures in
    let is : tile f c.args.carried rows ≡ raw_tile f ps =
    tile_long f c.args.carried rows ps b others (concat_rows c.args.pixels.now.width c.args.pixels.now.height ps c.args.pixels.now.whole) c.requires.stands.0 c.requires.stands.1
    (elim c.else-put_list.branch [
      | else-put_list-via-then-put_list+else-len-raw_len w ↦
          let joined : c.put_list.new.front.items ++ c.put_list.new.list.items ≡ (bits_of c.args.carried b others ∷ said) ++ list =
          c.put_list.ensures.yes w.if-put_list.true ∙ ap (λ (t : List ℕ). t ++ list) c.put_front.ensures.items in
          omega (arith, w.len.ensures.value, w.len-then-put_list.ensures.value, length-append c.put_list.new.front.items c.put_list.new.list.items, ap (length {A = ℕ}) joined, w.if-len-raw_len.false, raw)
      | else-put_list-via-else-put_list w ↦ omega (arith, c.put_list.ensures.no w.if-put_list.false, length-append said list)
    ]) in
    sym (ap (λ (t : Coded). t.next) is)

pub returns-clause-ok : goal.returns-clause-ok
returns-clause-ok c =
    let f = c.args.format.now in
    let ps : List ℕ = c.args.pixels.now.values.now in
    let rows : List (List ℕ) = rows_of c.args.pixels.now.width c.args.pixels.now.height ps in
    let b : ℕ = c.args.palette.background in
    let others : TilePixels = c.args.palette.others in
    let said : List ℕ = said_bytes f c.args.carried b others in
    let list : List ℕ = list_bytes f (subrectangles b rows) others in
    let raw : length ps * c.bytes_per_pixel.result ≡ length ps * bytes_per_pixel f = ap (λ (p : ℕ). length ps * p) c.bytes_per_pixel.ensures in
    let is : tile f c.args.carried rows ≡ raw_tile f ps =
    tile_long f c.args.carried rows ps b others (concat_rows c.args.pixels.now.width c.args.pixels.now.height ps c.args.pixels.now.whole) c.requires.stands.0 c.requires.stands.1
    (elim c.else-put_list.branch [
      | else-put_list-via-then-put_list+else-len-raw_len w ↦
          let joined : c.put_list.new.front.items ++ c.put_list.new.list.items ≡ (bits_of c.args.carried b others ∷ said) ++ list =
          c.put_list.ensures.yes w.if-put_list.true ∙ ap (λ (t : List ℕ). t ++ list) c.put_front.ensures.items in
          omega (arith, w.len.ensures.value, w.len-then-put_list.ensures.value, length-append c.put_list.new.front.items c.put_list.new.list.items, ap (length {A = ℕ}) joined, w.if-len-raw_len.false, raw)
      | else-put_list-via-else-put_list w ↦ omega (arith, c.put_list.ensures.no w.if-put_list.false, length-append said list)
    ]) in
    c.in_ok-put_raw.ensures.ok ∙ sym (ap (λ (t : Coded). c.args.out.now.items ++ t.bits ∷ t.bytes) is)

-- What a viewer shows behind a piece of its bytes.
use Rattle.std.proofs.Common.{◌≡◌, ℕ, ◌+◌, ◌*◌, ◌<◌, ◌≤◌, ◌^◌, ◌⊎◌, inl, inr, get_or, Bool, true, false, cond, ◌&&◌, List, [], ◌∷◌, ◌++◌, length, Option, Some, None, refl, sym, ap, subst, ◌∙◌, arith}
use Rattle.std.specs.Prelude.{ℤ, pos, negsuc, nat_abs, nat_lt, min, ◌||◌, ◌≤ℤ◌}
use Rattle.std.proofs.lemmas.Bool.{and_parts}
use Rattle.std.proofs.lemmas.Bool.Decides.{nat_tests}
use Rattle.std.specs.Int.{w16, to_be_bytes, from_be_bytes}
use Rattle.std.proofs.lemmas.Int.{ints}
use Rattle.std.proofs.lemmas.Nat.{from_be_bytes-to_be_bytes_2, from_be_bytes-to_be_bytes_4}
use Rattle.pixel_translate.specs.declared.Area.{Area}
use Rattle.pixel_translate.specs.Pixel.{server_format, is_colour_map}
use Rattle.region.specs.declared.Rect.{Rect}
use Rattle.region.specs.Region.{in_rect, on_screen}
use Rattle.region.specs.Places.{longest_side}
use Rattle.encode_raw.specs.Reading.{◌>>=◌, bytes_at, Shown, is_inside}
use Rattle.messages.specs.declared.Encoding.{Encoding}
use Rattle.messages.specs.declared.Encoding.TheVariants as encoding
use Rattle.messages.specs.declared.Version.TheVariants.{V33, V37, V38}
use Rattle.messages.specs.declared.Item.{Item}
use Rattle.messages.specs.declared.Item.TheVariants as item
use Rattle.messages.specs.declared.Phase.{Phase}
use Rattle.messages.specs.declared.Phase.TheVariants as phase
use Rattle.messages.specs.Grammar.{after}
use Rattle.messages.specs.Reading.{heard, new_items, is_open_phase}
use Rattle.messages.specs.Server.{server_init, answer, answers}
use Rattle.messages.specs.Grammar.{desktop_size}
use Rattle.copy_schedule.specs.Marks.{Marks, asked_at, asked_for}
use Rattle.region.specs.Places.{by_place}
use Rattle.region.specs.PlaceLemmas.{value_on}
use Rattle.viewer_picture.specs.Messages.{may_come}
use Rattle.viewer_picture.specs.Encodings.{number_of, taken}
use Rattle.viewer_picture.specs.Opening.{Init, init_at}
use Rattle.viewer_picture.specs.Pictures.{dot_at}
use Rattle.viewer_picture.specs.MessageLemmas.{bytes-read}
use Rattle.viewer_picture.specs.MarkLemmas.{Shows, uncopied-shows, allowed, asked-shows, forgotten-shows}
use Rattle.viewer_picture.specs.ComeLemmas.{Comes, Come, phase_after, Following, following}
use Rattle.scene.specs.declared.Config.{Config}
use Rattle.updates.specs.declared.sizes.Size.{Size}
use Rattle.viewer.specs.Viewer.{Viewer, area_places, view_by, view_of, in_view, after_item}
use Rattle.scene.specs.Alone.{hearing}
use Rattle.viewer.specs.Hearing.{after_items}
use Rattle.scene.specs.Pictures.{IsServers}
use Rattle.scene.specs.Shown.{Watching, forgotten, item_at, items_at, all_read, or_nothing, after_piece}

-- the limits of a screen, as far as they are used
pub record Limits (c : Config) : Type 0 where
  pub width : c.width ≤ longest_side
  pub height : c.height ≤ longest_side
  pub name : length c.name < 2 ^ 32
  pub limit : c.rects_per_update ≤ 1000

-- A viewer reads pixels in its format, and shows its picture; before it is open its format is the server's, and from then on it
-- goes by the size that it was told. It asks only for what it sees of the screen. What it is sent may come by what it listed. Where
-- its format has a colour map that isn't owed, it has the server's. It shows its picture where T holds.
pub record Follows (T : Type 0) (c : Config) (colour : ℤ → ℤ → ℕ) (p : Phase) (v : Viewer (List ℕ)) (s : Watching) : Type 0 where
  pub format : s.agreed.format ≡ v.format
  pub early : is_open_phase p ≡ false → (v.format ≡ server_format) × (v.told ≡ None)
  pub told : is_open_phase p ≡ true → v.told ≡ Some (record { width = s.agreed.width; height = s.agreed.height })
  pub encoding : may_come s.agreed.listed (number_of v.encoding) ≡ true
  pub copyrect : v.uses_copyrect ≡ true → may_come s.agreed.listed (pos 1) ≡ true
  pub sizes : v.takes_sizes ≡ true → may_come s.agreed.listed desktop_size ≡ true
  pub asked : (x y : ℤ) → asked_at v.marks x y ≡ true → in_view c.width c.height v x y ≡ true
  pub width : v.marks.width ≡ c.width
  pub height : v.marks.height ≡ c.height
  pub map : is_colour_map v.format ≡ true → v.map_owed ≡ false → IsServers s.colours
  pub shows : Shows T (may_come s.agreed.listed (pos 1) ≡ true) colour v.marks s.shown

-- ---- the ServerInit

init-read : (w h : ℕ) (name more : List ℕ) → length name < 2 ^ 32
    → init_at (server_init w h name ++ more) ≡ Some (record { width = from_be_bytes w16 (to_be_bytes w16 w); height = from_be_bytes w16 (to_be_bytes w16 h); format = server_format }, more)
init-read w h name more small =
    let init : Init = record { width = from_be_bytes w16 (to_be_bytes w16 w); height = from_be_bytes w16 (to_be_bytes w16 h); format = server_format } in
    ap (λ (n : ℕ). bytes_at n (name ++ more) >>= λ (t : List ℕ × List ℕ). Some (init, t.1)) (from_be_bytes-to_be_bytes_4 (length name) small)
    ∙ ap (λ (o : Option (List ℕ × List ℕ)). o >>= λ t. Some (init, t.1)) (bytes-read name more)

-- ---- what is asked for anew

-- what is seen of a screen: the places of the screen that are within a size too
seen-of : (sw sh w h : ℕ) (x y : ℤ) → on_screen w h x y ≡ true → on_screen (min sw w) (min sh h) x y ≡ (nat_lt (nat_abs x) sw && nat_lt (nat_abs y) sh)
seen-of sw sh w h (negsuc x) y on = absurd cc
seen-of sw sh w h (pos x) (negsuc y) on = grind (arith, ints, nat_tests)
seen-of sw sh w h (pos x) (pos y) on = grind (arith, ints, nat_tests)

not-inside : (a : Area) (w h width height : ℕ) (shown : Shown) (x y : ℤ) → on_screen w h x y ≡ true → area_places (min width w) (min height h) a x y ≡ false
    → cond (is_inside a (nat_abs x) (nat_abs y) && nat_lt (nat_abs x) width && nat_lt (nat_abs y) height) None (dot_at shown x y) ≡ dot_at shown x y
not-inside a w h width height shown x y on out = ap (λ b. cond b None (dot_at shown x y)) here
  where
    number : (w h : ℕ) (x y : ℤ) → on_screen w h x y ≡ true → (x ≡ pos (nat_abs x)) × (y ≡ pos (nat_abs y))
    number w h x y on = let low = left w h x y on in let high = top w h x y on in (omega (arith, ints, low), omega (arith, ints, high))
      where
        left : (w h : ℕ) (x y : ℤ) → on_screen w h x y ≡ true → pos 0 ≤ℤ x
        left w h x y on = grind (arith, ints)

        top : (w h : ℕ) (x y : ℤ) → on_screen w h x y ≡ true → pos 0 ≤ℤ y
        top w h x y on = grind (arith, ints)

    assoc : (a b d : Bool) → (a && b && d) ≡ (a && (b && d))
    assoc true b d = refl
    assoc false b d = refl

    here : (is_inside a (nat_abs x) (nat_abs y) && nat_lt (nat_abs x) width && nat_lt (nat_abs y) height) ≡ false
    here =
        let at = number w h x y on in
        let rect : Rect = record { x1 = pos a.x; y1 = pos a.y; x2 = pos (a.x + a.w); y2 = pos (a.y + a.h) } in
        let within : Bool = nat_lt (nat_abs x) width && nat_lt (nat_abs y) height in
        assoc (is_inside a (nat_abs x) (nat_abs y)) (nat_lt (nat_abs x) width) (nat_lt (nat_abs y) height)
        ∙ ap (λ z. in_rect rect z (pos (nat_abs y)) && within) (sym at.0) ∙ ap (λ z. in_rect rect x z && within) (sym at.1)
        ∙ ap (λ b. in_rect rect x y && b) (sym (seen-of width height w h x y on)) ∙ out

-- what is asked for anew
asked-anew : (set : ℤ → ℤ → Bool) (m : Marks) (x y : ℤ) → asked_at (asked_for set m) x y ≡ true → (asked_at m x y ≡ true) ⊎ (set x y ≡ true)
asked-anew set m x y e = go (on_screen m.width m.height x y) refl
  where
    either : (a b : Bool) → (a || b) ≡ true → (a ≡ true) ⊎ (b ≡ true)
    either true b e = inl refl
    either false b e = inr e

    go : (t : Bool) → on_screen m.width m.height x y ≡ t → (asked_at m x y ≡ true) ⊎ (set x y ≡ true)
    go true on = either (asked_at m x y) (set x y) (sym (value_on false m.width m.height (λ x y. asked_at m x y || set x y) x y on) ∙ e)
    go false off = absurd (never (sym (ap (λ b. cond b (get_or (by_place m.width m.height (λ x y. asked_at m x y || set x y)) (nat_abs y * m.width + nat_abs x) false) false) off) ∙ e))
      where
        never : false ≡ true → ⊥
        never k = cc

-- so it is seen, where that is a part of what is seen
asked-seen : (view : Size) (a : Area) (m : Marks) → ((x y : ℤ) → asked_at m x y ≡ true → on_screen view.width view.height x y ≡ true)
    → (x y : ℤ) → asked_at (asked_for (area_places view.width view.height a) m) x y ≡ true → on_screen view.width view.height x y ≡ true
asked-seen view a m seen x y e = elim (asked-anew (area_places view.width view.height a) m x y e) [
  | inl before ↦ seen x y before
  | inr now ↦ (and_parts (in_rect (record { x1 = pos a.x; y1 = pos a.y; x2 = pos (a.x + a.w); y2 = pos (a.y + a.h) }) x y) (on_screen view.width view.height x y) now).1
]

-- ---- one item

-- what it does to the viewer, and to the one who watches
record Item-read (T : Type 0) (c : Config) (colour : ℤ → ℤ → ℕ) (p : Phase) (i : Item) (v : Viewer (List ℕ)) (s : Watching) (more : List ℕ) : Type 0 where
  next : Watching
  read : item_at p i s (answer (server_init c.width c.height c.name) p i ++ more) ≡ Some (next, more)
  said : next.said ≡ s.said
  legal : next.legal ≡ s.legal
  notices : (after_item c.width c.height i v).notices ≡ v.notices
  heard : (after_item c.width c.height i v).heard ≡ v.heard
  follows : Follows T c colour (after p i) (after_item c.width c.height i v) next

-- the same viewer, in another phase before it is open
same-phase : (T : Type 0) (c : Config) (colour : ℤ → ℤ → ℕ) (p q : Phase) (v : Viewer (List ℕ)) (s : Watching) → is_open_phase p ≡ false → is_open_phase q ≡ false → Follows T c colour p v s → Follows T c colour q v s
same-phase T c colour p q v s shut then-shut f = record {
  format = f.format;
  early = λ e. f.early shut;
  told = λ e. absurd (never (sym then-shut ∙ e));
  encoding = f.encoding;
  copyrect = f.copyrect;
  sizes = f.sizes;
  asked = f.asked;
  width = f.width;
  height = f.height;
  map = f.map;
  shows = f.shows;
}
  where
    never : false ≡ true → ⊥
    never e = cc

-- what is taken may come
preferred-comes : (e : Encoding) (copyrect resize : Bool) → may_come (taken e copyrect resize) (number_of e) ≡ true
preferred-comes encoding.Raw copyrect resize = refl
preferred-comes encoding.Rre copyrect resize = refl
preferred-comes encoding.Hextile copyrect resize = refl

copyrect-comes : (e : Encoding) (resize : Bool) → may_come (taken e true resize) (pos 1) ≡ true
copyrect-comes encoding.Raw resize = refl
copyrect-comes encoding.Rre resize = refl
copyrect-comes encoding.Hextile resize = refl

sizes-come : (e : Encoding) (copyrect resize : Bool) → resize ≡ true → may_come (taken e copyrect resize) desktop_size ≡ true
sizes-come e copyrect false is = absurd cc
sizes-come encoding.Raw true true is = refl
sizes-come encoding.Raw false true is = refl
sizes-come encoding.Rre true true is = refl
sizes-come encoding.Rre false true is = refl
sizes-come encoding.Hextile true true is = refl
sizes-come encoding.Hextile false true is = refl

size-told : (n : ℕ) → n ≤ longest_side → from_be_bytes w16 (to_be_bytes w16 n) ≡ n
size-told n small = from_be_bytes-to_be_bytes_2 n (omega (arith, small))

abbrev size : ℕ → ℕ → Size
size w h = record { width = w; height = h }

unowed : true ≡ false → ⊥
unowed e = cc

item-read : (T : Type 0) (c : Config) (colour : ℤ → ℤ → ℕ) → Limits c → (p : Phase) (i : Item) → Comes p i → (v : Viewer (List ℕ)) (s : Watching) (more : List ℕ) → Follows T c colour p v s → Item-read T c colour p i v s more
item-read T c colour ok phase.Version (item.Version V33) comes v s more f = record { next = s; read = refl; said = refl; legal = refl; notices = refl; heard = refl; follows = same-phase T c colour phase.Version (phase.Init V33) v s refl refl f }
item-read T c colour ok phase.Version (item.Version V37) comes v s more f = record { next = s; read = refl; said = refl; legal = refl; notices = refl; heard = refl; follows = same-phase T c colour phase.Version (phase.Choice V37) v s refl refl f }
item-read T c colour ok phase.Version (item.Version V38) comes v s more f = record { next = s; read = refl; said = refl; legal = refl; notices = refl; heard = refl; follows = same-phase T c colour phase.Version (phase.Choice V38) v s refl refl f }
item-read T c colour ok (phase.Choice V33) item.Choice comes v s more f = record { next = s; read = refl; said = refl; legal = refl; notices = refl; heard = refl; follows = same-phase T c colour (phase.Choice V33) (phase.Init V33) v s refl refl f }
item-read T c colour ok (phase.Choice V37) item.Choice comes v s more f = record { next = s; read = refl; said = refl; legal = refl; notices = refl; heard = refl; follows = same-phase T c colour (phase.Choice V37) (phase.Init V37) v s refl refl f }
item-read T c colour ok (phase.Choice V38) item.Choice comes v s more f = record { next = s; read = refl; said = refl; legal = refl; notices = refl; heard = refl; follows = same-phase T c colour (phase.Choice V38) (phase.Init V38) v s refl refl f }
item-read T c colour ok (phase.Init w) (item.Init shared) comes v s more f = record {
  next = record s { agreed = record s.agreed { width = from_be_bytes w16 (to_be_bytes w16 c.width); height = from_be_bytes w16 (to_be_bytes w16 c.height); format = server_format } };
  read = ap (λ (o : Option (Init × List ℕ)). o >>= λ init. Some (record s { agreed = record s.agreed { width = init.0.width; height = init.0.height; format = init.0.format } }, init.1)) (init-read c.width c.height c.name more ok.name);
  said = refl;
  legal = refl;
  notices = refl;
  heard = refl;
  follows = record {
    format = sym (f.early refl).0;
    early = λ e. absurd cc;
    told = λ e. sym (ap (λ (n : ℕ). Some (size n (from_be_bytes w16 (to_be_bytes w16 c.height)))) (size-told c.width ok.width) ∙ ap (λ (n : ℕ). Some (size c.width n)) (size-told c.height ok.height));
    encoding = f.encoding;
    copyrect = f.copyrect;
    sizes = f.sizes;
    asked = λ x y e. sym (ap (λ (t : Option Size). on_screen (view_by c.width c.height t).width (view_by c.width c.height t).height x y) (f.early refl).1) ∙ f.asked x y e;
    width = f.width;
    height = f.height;
    map = f.map;
    shows = f.shows;
  };
}
item-read T c colour ok (phase.Open w) (item.Format g) comes v s more f = record {
  next = record s { agreed = record s.agreed { format = g } };
  read = refl;
  said = refl;
  legal = refl;
  notices = refl;
  heard = refl;
  follows = record { format = refl; early = λ e. absurd cc; told = f.told; encoding = f.encoding; copyrect = f.copyrect; sizes = f.sizes; asked = f.asked; width = f.width; height = f.height; map = λ is paid. absurd (unowed (sym is ∙ paid)); shows = f.shows };
}
item-read T c colour ok (phase.Open w) (item.Encodings preferred true resize) comes v s more f = record {
  next = record s { agreed = record s.agreed { listed = taken preferred true resize } };
  read = refl;
  said = refl;
  legal = refl;
  notices = refl;
  heard = refl;
  follows = record {
    format = f.format;
    early = λ e. absurd cc;
    told = f.told;
    encoding = preferred-comes preferred true resize;
    copyrect = λ e. copyrect-comes preferred resize;
    sizes = sizes-come preferred true resize;
    asked = f.asked;
    width = f.width;
    height = f.height;
    map = f.map;
    shows = allowed (may_come s.agreed.listed (pos 1) ≡ true) (may_come (taken preferred true resize) (pos 1) ≡ true) colour v.marks s.shown (copyrect-comes preferred resize) f.shows;
  };
}
item-read T c colour ok (phase.Open w) (item.Encodings preferred false resize) comes v s more f = record {
  next = record s { agreed = record s.agreed { listed = taken preferred false resize } };
  read = refl;
  said = refl;
  legal = refl;
  notices = refl;
  heard = refl;
  follows = record {
    format = f.format;
    early = λ e. absurd cc;
    told = f.told;
    encoding = preferred-comes preferred false resize;
    copyrect = λ e. absurd cc;
    sizes = sizes-come preferred false resize;
    asked = f.asked;
    width = f.width;
    height = f.height;
    map = f.map;
    shows = uncopied-shows (may_come s.agreed.listed (pos 1) ≡ true) (may_come (taken preferred false resize) (pos 1) ≡ true) colour v.marks s.shown f.shows;
  };
}
item-read T c colour ok (phase.Open w) (item.Request true area) comes v s more f = record {
  next = s;
  read = refl;
  said = refl;
  legal = refl;
  notices = refl;
  heard = refl;
  follows = record {
    format = f.format;
    early = λ e. absurd cc;
    told = f.told;
    encoding = f.encoding;
    copyrect = f.copyrect;
    sizes = f.sizes;
    asked = asked-seen (view_of c.width c.height v) area v.marks f.asked;
    width = f.width;
    height = f.height;
    map = f.map;
    shows = asked-shows _ colour (area_places (view_of c.width c.height v).width (view_of c.width c.height v).height area) v.marks s.shown f.shows;
  };
}
item-read T c colour ok (phase.Open w) (item.Request false area) comes v s more f = record {
  next = forgotten area s;
  read = refl;
  said = refl;
  legal = refl;
  notices = refl;
  heard = refl;
  follows = record {
    format = f.format;
    early = λ e. absurd cc;
    told = f.told;
    encoding = f.encoding;
    copyrect = f.copyrect;
    sizes = f.sizes;
    asked = asked-seen (view_of c.width c.height v) area v.marks f.asked;
    width = f.width;
    height = f.height;
    map = f.map;
    shows = forgotten-shows _ colour (area_places (view_of c.width c.height v).width (view_of c.width c.height v).height area) _ s.shown (forgotten area s).shown
        (λ x y on out. not-inside area c.width c.height s.agreed.width s.agreed.height s.shown x y (sym (ap (λ n. on_screen n v.marks.height x y) f.width ∙ ap (λ n. on_screen c.width n x y) f.height) ∙ on)
        (sym (ap (λ (t : Option Size). area_places (view_by c.width c.height t).width (view_by c.width c.height t).height area x y) (f.told refl)) ∙ out))
        (asked-shows _ colour (area_places (view_of c.width c.height v).width (view_of c.width c.height v).height area) v.marks s.shown f.shows);
  };
}
item-read T c colour ok (phase.Open w) (item.Input input) comes v s more f = record {
  next = s;
  read = refl;
  said = refl;
  legal = refl;
  notices = refl;
  heard = refl;
  follows = record { format = f.format; early = λ e. absurd cc; told = f.told; encoding = f.encoding; copyrect = f.copyrect; sizes = f.sizes; asked = f.asked; width = f.width; height = f.height; map = f.map; shows = f.shows };
}
item-read T c colour ok p i comes v s more f = absurd comes

-- ---- the items of a piece

record Items-read (T : Type 0) (c : Config) (colour : ℤ → ℤ → ℕ) (p : Phase) (items : List Item) (v : Viewer (List ℕ)) (s : Watching) : Type 0 where
  next : Watching
  read : items_at p items s (answers (server_init c.width c.height c.name) p items) ≡ Some (next, [])
  said : next.said ≡ s.said
  legal : next.legal ≡ s.legal
  notices : (after_items c.width c.height items v).notices ≡ v.notices
  heard : (after_items c.width c.height items v).heard ≡ v.heard
  follows : Follows T c colour (phase_after p items) (after_items c.width c.height items v) next

items-read : (T : Type 0) (c : Config) (colour : ℤ → ℤ → ℕ) → Limits c → (p : Phase) (items : List Item) → Come p items → (v : Viewer (List ℕ)) (s : Watching) → Follows T c colour p v s → Items-read T c colour p items v s
items-read T c colour ok p [] come v s f = record { next = s; read = refl; said = refl; legal = refl; notices = refl; heard = refl; follows = f }
items-read T c colour ok p (i ∷ items) come v s f =
    let init : List ℕ = server_init c.width c.height c.name in
    let one = item-read T c colour ok p i come.0 v s (answers init (after p i) items) f in
    let rest = items-read T c colour ok (after p i) items come.1 (after_item c.width c.height i v) one.next one.follows in
    record {
      next = rest.next;
      read = ap (λ (o : Option (Watching × List ℕ)). o >>= λ first. items_at (after p i) items first.0 first.1) one.read ∙ rest.read;
      said = rest.said ∙ one.said;
      legal = rest.legal ∙ one.legal;
      notices = rest.notices ∙ one.notices;
      heard = rest.heard ∙ one.heard;
      follows = rest.follows;
    }

-- ---- a piece

pub record Piece-read (T : Type 0) (c : Config) (colour : ℤ → ℤ → ℕ) (piece : List ℕ) (v : Viewer (List ℕ)) (s : Watching) : Type 0 where
  pub said : (after_piece piece (hearing c piece v).1.bytes s).said ≡ (hearing c piece v).0.heard
  pub legal : (after_piece piece (hearing c piece v).1.bytes s).legal ≡ true
  pub notices : (hearing c piece v).0.notices ≡ v.notices
  pub follows : Follows T c colour (heard (hearing c piece v).0.heard).phase (hearing c piece v).0 (after_piece piece (hearing c piece v).1.bytes s)

pub piece-read : (T : Type 0) (c : Config) (colour : ℤ → ℤ → ℕ) → Limits c → (piece : List ℕ) (v : Viewer (List ℕ)) (s : Watching) → s.said ≡ v.heard → s.legal ≡ true → Follows T c colour (heard v.heard).phase v s → Piece-read T c colour piece v s
piece-read T c colour ok piece v s same legal f = record {
  said = ap (λ (t : Watching). t.said) result ∙ all.said ∙ ap (λ (l : List ℕ). l ++ piece) same ∙ sym all.heard;
  legal = ap (λ (t : Watching). t.legal) result ∙ all.legal ∙ legal;
  notices = all.notices;
  follows = subst (λ (t : Watching). Follows T c colour (heard (hearing c piece v).0.heard).phase (hearing c piece v).0 t) (sym result)
      (subst (λ (q : Phase). Follows T c colour q (after_items c.width c.height items later) all.next) (sym (ap (λ (l : List ℕ). (heard l).phase) all.heard ∙ now.phase)) all.follows);
}
  where
    items : List Item
    items = new_items v.heard piece

    later : Viewer (List ℕ)
    later = record v { heard = v.heard ++ piece }

    begun : Watching
    begun = record s { said = s.said ++ piece }

    now : Following v.heard piece
    now = following v.heard piece

    start : Follows T c colour (heard v.heard).phase later begun
    start = record { format = f.format; early = f.early; told = f.told; encoding = f.encoding; copyrect = f.copyrect; sizes = f.sizes; asked = f.asked; width = f.width; height = f.height; map = f.map; shows = f.shows }

    all : Items-read T c colour (heard v.heard).phase items later begun
    all = items-read T c colour ok (heard v.heard).phase items now.come later begun start

    bytes : List ℕ
    bytes = answers (server_init c.width c.height c.name) (heard v.heard).phase items

    result : after_piece piece bytes s ≡ all.next
    result = ap (λ (b : Bool). cond b (or_nothing begun (items_at (heard s.said).phase (new_items s.said piece) begun bytes >>= all_read)) begun) legal
        ∙ ap (λ (l : List ℕ). or_nothing begun (items_at (heard l).phase (new_items l piece) begun bytes >>= all_read)) same
        ∙ ap (λ (o : Option (Watching × List ℕ)). or_nothing begun (o >>= all_read)) all.read

-- What a viewer shows as events come: the steps of the one viewer's machine.
use Rattle.std.proofs.Common.{◌≡◌, ℕ, zero, suc, ◌+◌, ◌*◌, ◌<◌, ◌≤◌, ◌^◌, Bool, true, false, cond, not, ◌&&◌, List, [], ◌++◌, length, get_or, Option, Some, None, refl, sym, ap, subst, ◌∙◌, arith}
use Rattle.std.specs.Prelude.{ℤ, pos, nat_abs, nat_le, nat_lt, min, option_map, replicate}
use Rattle.std.specs.List.{AllByRecursion}
use Rattle.std.proofs.lemmas.Int.{ints}
use Rattle.std.proofs.lemmas.Bool.Decides.{nat_tests}
use Rattle.std.proofs.lemmas.Nat.{mul-add-lt}
use Rattle.std.proofs.lemmas.List.{append-nil, get_or-replicate}
use Rattle.pixel_translate.specs.declared.PixelFormat.{PixelFormat}
use Rattle.pixel_translate.specs.Pixel.{is_colour_map}
use Rattle.region.specs.Region.{on_screen}
use Rattle.messages.specs.declared.Phase.{Phase}
use Rattle.messages.specs.declared.Phase.TheVariants as phase
use Rattle.messages.specs.Grammar.{End}
use Rattle.messages.specs.Reading.{heard, is_open_phase}
use Rattle.messages.specs.Server.{server_version}
use Rattle.copy_schedule.specs.declared.Mark.TheVariants.{Clean, Copied, Owed}
use Rattle.copy_schedule.specs.Marks.{Marks, mark_at, asked_at, has_asked, new_marks, copies_of, pixels_of, after_sending, pending, cut_of}
use Rattle.region.specs.PlaceLemmas.{is_place}
use Rattle.region.specs.Places.{at_place, longest_side}
use Rattle.framebuffer.specs.Picture.{colour_at}
use Rattle.encode_raw.specs.Reading.{Shown}
use Rattle.framebuffer.specs.Frame.{Frame}
use Rattle.viewer_picture.specs.Messages.{Agreed, ColourMap, Display, nothing_shown, messages_in, may_come}
use Rattle.viewer_picture.specs.Claims.{RectanglesAreRead}
use Rattle.viewer_picture.specs.MessageLemmas.{display, Reads, size-read}
use Rattle.viewer_picture.specs.MapLemmas.{all-there}
use Rattle.viewer_picture.specs.MarkLemmas.{Shows}
use Rattle.viewer_picture.specs.CutLemmas.{update_of, cut-shows}
use Rattle.scene.specs.declared.Config.{Config}
use Rattle.scene.specs.declared.Event.{Event}
use Rattle.scene.specs.declared.Event.TheVariants.{Write, Paint, Mark as MarkEvent, ScheduleCopy, DoCopy, Bell, CutText, Resize, Connect, Hear, Cut, Close}
use Rattle.scene.specs.declared.ScreenError.TheVariants as refusals
use Rattle.updates.specs.Short.{IsShort}
use Rattle.updates.specs.declared.sizes.Size.{Size}
use Rattle.viewer.specs.Viewer.{Viewer, new_viewer, view_by, is_open, is_open_viewer}
use Rattle.updates.specs.Bytes.{bytes_of, size_bytes}
use Rattle.viewer.specs.Sending.{front_bytes, tells_size, with_size, with_update, sending_open, sending}
use Rattle.scene.specs.Alone.{own_step, at_size, config_refusal, drawing_refusal, drawn, is_size, hearing}
use Rattle.scene.specs.Pictures.{IsServers}
use Rattle.scene.specs.Shown.{Watching, after_version, or_nothing, after_messages, after_piece, watched_unless_refused}
use Rattle.scene.proofs.Watched.{Limits, Follows, piece-read}
use Rattle.scene.proofs.Told.{colours_after, front-read, whole-read}

-- ---- the limits

size-limits : (w h : ℕ) → is_size w h ≡ true → (w ≤ longest_side) × (h ≤ longest_side)
size-limits w h e = (wide w h e, high w h e)
  where
    wide : (w h : ℕ) → is_size w h ≡ true → w ≤ longest_side
    wide w h e = grind (arith, nat_tests)

    high : (w h : ℕ) → is_size w h ≡ true → h ≤ longest_side
    high w h e = grind (arith, nat_tests)

pub limits : (c : Config) → config_refusal c ≡ None → Limits c
limits c e =
    let parts = accepted (is_size c.width c.height) (nat_lt 255 (length c.name)) (nat_le 1 c.rects_per_update && nat_le c.rects_per_update 1000) e in
    let size = size-limits c.width c.height parts.0 in
    record { width = size.0; height = size.1; name = short (length c.name) parts.1; limit = few c.rects_per_update parts.2 }
  where
    accepted : (a b d : Bool) → cond (not a) (Some refusals.BadSize) (cond b (Some refusals.BadName) (cond (not d) (Some refusals.BadRectLimit) None)) ≡ None → (a ≡ true) × (b ≡ false) × (d ≡ true)
    accepted true false true e = (refl, refl, refl)
    accepted true false false e = absurd cc
    accepted true true d e = absurd cc
    accepted false b d e = absurd cc

    short : (n : ℕ) → nat_lt 255 n ≡ false → n < 2 ^ 32
    short n e = let h : n ≤ 255 = grind (arith, nat_tests) in omega arith

    few : (n : ℕ) → (nat_le 1 n && nat_le n 1000) ≡ true → n ≤ 1000
    few n e = grind (arith, nat_tests)

-- a drawing call that is not refused leaves a screen within the limits
pub limits-drawn : (c : Config) (f : Frame) (e : Event) → Limits (at_size f c) → drawing_refusal (at_size f c) e ≡ None → Limits (at_size (drawn e f) c)
limits-drawn c f (Resize w h) ok accepted = let size = size-limits w h (sized (is_size w h) accepted) in record { width = size.0; height = size.1; name = ok.name; limit = ok.limit }
  where
    sized : (b : Bool) → cond b None (Some refusals.BadSize) ≡ None → b ≡ true
    sized true e = refl
    sized false e = absurd cc
limits-drawn c f (Write r colours) ok accepted = ok
limits-drawn c f (Paint r colours) ok accepted = ok
limits-drawn c f (MarkEvent rects) ok accepted = ok
limits-drawn c f (ScheduleCopy rects dx dy) ok accepted = ok
limits-drawn c f (DoCopy rects dx dy) ok accepted = ok
limits-drawn c f Bell ok accepted = ok
limits-drawn c f (CutText text) ok accepted = ok
limits-drawn c f (Connect n) ok accepted = ok
limits-drawn c f (Hear n piece) ok accepted = ok
limits-drawn c f (Cut n) ok accepted = ok
limits-drawn c f (Close n) ok accepted = ok

-- ---- a viewer that is watched

pub record Watches (T : Type 0) (c : Config) (picture : List ℕ) (v : Viewer (List ℕ)) (s : Watching) : Type 0 where
  pub said : s.said ≡ v.heard
  pub legal : s.legal ≡ true
  pub short : AllByRecursion IsShort v.notices
  pub follows : Follows T c (colour_at c.width c.height picture) (heard v.heard).phase v s

abbrev pub WatchesIf : Type 0 → Config → List ℕ → Option (Viewer (List ℕ)) → Watching → Type 0
WatchesIf T c picture None s = Unit {0}
WatchesIf T c picture (Some v) s = Watches T c picture v s

-- the screen of the marks is the screen
pub on-it : (c : Config) (m : Marks) → m.width ≡ c.width → m.height ≡ c.height → (x y : ℤ) → on_screen m.width m.height x y ≡ true → on_screen c.width c.height x y ≡ true
on-it c m wide high x y on = sym (ap (λ n. on_screen n m.height x y) wide ∙ ap (λ n. on_screen c.width n x y) high) ∙ on

-- ---- at connecting

-- nothing is asked for where nothing was
none-asked : (w h : ℕ) (n : ℕ) (x y : ℤ) → at_place false w h (replicate n false) x y ≡ true → ⊥
none-asked w h n x y e = never (on_screen w h x y) (sym e)
  where
    nothing : (n k : ℕ) → get_or (replicate n false) k false ≡ false
    nothing zero k = refl
    nothing (suc n) zero = refl
    nothing (suc n) (suc k) = nothing n k

    never : (on : Bool) → true ≡ cond on (get_or (replicate n false) (nat_abs y * w + nat_abs x) false) false → ⊥
    never true e = untrue (e ∙ nothing n (nat_abs y * w + nat_abs x))
      where
        untrue : true ≡ false → ⊥
        untrue k = cc
    never false e = cc

-- every place of new marks is owed, so nothing is shown yet
pub all-owed-shows : (T P : Type 0) (w h : ℕ) (asked : List Bool) (colour : ℤ → ℤ → ℕ) (shown : Shown) → Shows T P colour (record (new_marks w h) { asked = asked }) shown
all-owed-shows T P w h asked colour shown = record {
  clean = λ t x y on e. absurd (owed-clean (sym (all-owed x y on) ∙ e));
  copied = λ t x y on e. absurd (owed-copied (sym (all-owed x y on) ∙ e));
  may = λ x y on e. absurd (owed-copied (sym (all-owed x y on) ∙ e));
}
  where
    owed-clean : Owed ≡ Clean → ⊥
    owed-clean e = cc

    owed-copied : Owed ≡ Copied → ⊥
    owed-copied e = cc

    numbers : (w h : ℕ) (x y : ℤ) → on_screen w h x y ≡ true → (nat_abs x < w) × (nat_abs y < h)
    numbers w h x y on = let p = is_place w h x y on in let a = p.left in let b = p.right in let d = p.top in let e = p.bottom in (omega (arith, ints, a, b), omega (arith, ints, d, e))

    all-owed : (x y : ℤ) → on_screen w h x y ≡ true → mark_at (record (new_marks w h) { asked = asked }) x y ≡ Owed
    all-owed x y on =
        let n = numbers w h x y on in
        ap (λ b. cond b (get_or (replicate (w * h) Owed) (nat_abs y * w + nat_abs x) Clean) Clean) on
        ∙ get_or-replicate (w * h) (nat_abs y * w + nat_abs x) Owed Clean (mul-add-lt (nat_abs y) w (nat_abs x) h n.1 n.0)

connected : (T : Type 0) (c : Config) (picture : List ℕ) → Watches T c picture (new_viewer c.width c.height) (after_version server_version)
connected T c picture = record {
  said = refl;
  legal = refl;
  short = tt;
  follows = record {
    format = refl;
    early = λ e. (refl, refl);
    told = λ e. absurd cc;
    encoding = refl;
    copyrect = λ e. absurd cc;
    sizes = λ e. absurd cc;
    asked = λ x y e. absurd (none-asked c.width c.height (c.width * c.height) x y e);
    width = refl;
    height = refl;
    map = λ is paid. absurd cc;
    shows = all-owed-shows T _ c.width c.height (replicate (c.width * c.height) false) (colour_at c.width c.height picture) nothing_shown;
  };
}

-- ---- a piece of its bytes

heard-watched : (T : Type 0) (c : Config) → Limits c → (picture : List ℕ) (piece : List ℕ) (v : Viewer (List ℕ)) (s : Watching) → Watches T c picture v s
    → Watches T c picture (hearing c piece v).0 (after_piece piece (hearing c piece v).1.bytes s)
heard-watched T c ok picture piece v s h =
    let r = piece-read T c (colour_at c.width c.height picture) ok piece v s h.said h.legal h.follows in
    record { said = r.said; legal = r.legal; short = subst (AllByRecursion IsShort) (sym r.notices) h.short; follows = r.follows }

-- ---- a sending step

-- what a viewer has of what it was sent
abbrev has : Watching → Display
has s = record { agreed = s.agreed; shown = s.shown; colours = s.colours }

abbrev having : Watching → Display → Watching
having s d = record s { agreed = d.agreed; shown = d.shown; colours = d.colours }

-- messages that were read to their end
told : (s : Watching) → s.legal ≡ true → (bytes : List ℕ) (after : Display) → Reads (length bytes) (has s) bytes after [] → after_messages bytes s ≡ having s after
unfolding messages_in
told s legal bytes after r =
    ap (λ (b : Bool). cond b (or_nothing s (option_map (having s) (messages_in (length bytes) (has s) bytes))) s) legal
    ∙ ap (λ (o : Option Display). or_nothing s (option_map (having s) o)) r.is ∙ ap (λ (o : Option Display). or_nothing s (option_map (having s) o)) (done r.left)
  where
    done : (n : ℕ) → messages_in n after [] ≡ Some after
    done n = refl

same-colour : (c : Config) (picture : List ℕ) (m : Marks) → m.width ≡ c.width → m.height ≡ c.height → colour_at m.width m.height picture ≡ colour_at c.width c.height picture
same-colour c picture m wide high = ap (λ w. colour_at w m.height picture) wide ∙ ap (λ h. colour_at c.width h picture) high

module _ (reads : RectanglesAreRead) (T : Type 0) (c : Config) (ok : Limits c) (picture : List ℕ) where
  -- where the map was owed and is sent, and where it was there
  mapped-then : (f : PixelFormat) (owed : Bool) (colours : ColourMap) → (is_colour_map f ≡ true → owed ≡ false → IsServers colours) → is_colour_map f ≡ true → IsServers (colours_after owed colours)
  mapped-then f true colours there is = all-there colours
  mapped-then f false colours there is = there is refl

  -- behind the map and the notices
  front-watched : (v : Viewer (List ℕ)) (s : Watching) → Watches T c picture v s → Watches T c picture (record v { map_owed = false; notices = [] }) (record s { colours = colours_after v.map_owed s.colours })
  front-watched v s h = record {
    said = h.said;
    legal = h.legal;
    short = tt;
    follows = record {
      format = h.follows.format;
      early = h.follows.early;
      told = h.follows.told;
      encoding = h.follows.encoding;
      copyrect = h.follows.copyrect;
      sizes = h.follows.sizes;
      asked = h.follows.asked;
      width = h.follows.width;
      height = h.follows.height;
      map = λ is paid. mapped-then v.format v.map_owed s.colours h.follows.map is;
      shows = h.follows.shows;
    };
  }

  -- what is asked for is within the viewer's size
  asked-held : (v : Viewer (List ℕ)) (s : Watching) → Watches T c picture v s → is_open_phase (heard v.heard).phase ≡ true → (x y : ℤ) → asked_at v.marks x y ≡ true → on_screen s.agreed.width s.agreed.height x y ≡ true
  asked-held v s h opened x y e =
      part-of s.agreed.width s.agreed.height c.width c.height x y
      (sym (ap (λ (t : Option Size). on_screen (view_by c.width c.height t).width (view_by c.width c.height t).height x y) (h.follows.told opened)) ∙ h.follows.asked x y e)
    where
      part-of : (a b w h : ℕ) (x y : ℤ) → on_screen (min a w) (min b h) x y ≡ true → on_screen a b x y ≡ true
      part-of a b w h x y e = grind (arith, ints, nat_tests)

  -- the bytes of a step that tells no size, by whether something is wanted
  sent-watched : (v : Viewer (List ℕ)) (s : Watching) → Watches T c picture v s → is_open_phase (heard v.heard).phase ≡ true → (b : Bool) →
      let step = with_update c.width c.height picture v (cond b (Some (record { copies = copies_of c.rects_per_update v.marks; offset = v.marks.offset; pixels = pixels_of c.rects_per_update v.marks; after = after_sending (copies_of c.rects_per_update v.marks) (pixels_of c.rects_per_update v.marks) v.marks })) None) in
      Watches T c picture step.1 (after_messages step.0 s)
  sent-watched v s h opened false =
      let bytes : List ℕ = front_bytes v in
      let after : Display = display s.agreed s.shown (colours_after v.map_owed s.colours) in
      let read : Reads (length bytes) (has s) bytes after [] =
      subst (λ (l : List ℕ). Reads (length l) (has s) l after []) (append-nil bytes) (front-read v.map_owed v.notices h.short (length (bytes ++ [])) (has s) [] (omega arith)) in
      subst (Watches T c picture (record v { map_owed = false; notices = [] })) (sym (told s h.legal bytes after read)) (front-watched v s h)
  sent-watched v s h opened true =
      let f = h.follows in
      let m : Marks = v.marks in
      let g : Agreed = s.agreed in
      let may : Type 0 = may_come g.listed (pos 1) ≡ true in
      let limit : ℕ = c.rects_per_update in
      let front : List ℕ = front_bytes v in
      let colours : ColourMap = colours_after v.map_owed s.colours in
      let rest : List ℕ = bytes_of m.width m.height picture v.encoding g.format (copies_of limit m) m.offset (pixels_of limit m) in
      let between : Display = display g s.shown colours in
      let after : Display = display g (update_of limit g.format picture m s.shown) colours in
      let first : Reads (length (front ++ rest)) (has s) (front ++ rest) between rest = front-read v.map_owed v.notices h.short (length (front ++ rest)) (has s) rest (omega arith) in
      let second : Reads first.left between rest after [] =
      whole-read reads g m (asked-held v s h opened) (let e = f.width in let k = ok.width in omega arith) (let e = f.height in let k = ok.height in omega arith) f.shows.may
      v.encoding f.encoding picture limit ok.limit first.left s.shown colours first.room in
      let read : Reads (length (front ++ rest)) (has s) (front ++ rest) after [] = record { left = second.left; room = second.room; is = first.is ∙ second.is } in
      let bytes-are : front ++ bytes_of c.width c.height picture v.encoding v.format (copies_of limit m) m.offset (pixels_of limit m) ≡ front ++ rest =
      sym (ap (λ (w : ℕ). front ++ bytes_of w m.height picture v.encoding g.format (copies_of limit m) m.offset (pixels_of limit m)) f.width
      ∙ ap (λ (k : ℕ). front ++ bytes_of c.width k picture v.encoding g.format (copies_of limit m) m.offset (pixels_of limit m)) f.height
      ∙ ap (λ (p : PixelFormat). front ++ bytes_of c.width c.height picture v.encoding p (copies_of limit m) m.offset (pixels_of limit m)) f.format) in
      let sent : Marks = after_sending (copies_of limit m) (pixels_of limit m) m in
      let same = same-colour c picture m f.width f.height in
      let now : Shows T may (colour_at c.width c.height picture) sent after.shown =
      subst (λ (colour : ℤ → ℤ → ℕ). Shows T may colour sent after.shown) same (cut-shows may limit g.format picture m s.shown (subst (λ (colour : ℤ → ℤ → ℕ). Shows T may colour m s.shown) (sym same) f.shows)) in
      subst (Watches T c picture (record v { map_owed = false; notices = []; marks = sent })) (sym (ap (λ (l : List ℕ). after_messages l s) bytes-are ∙ told s h.legal (front ++ rest) after read))
      (record {
        said = h.said;
        legal = h.legal;
        short = tt;
        follows = record {
          format = f.format;
          early = f.early;
          told = f.told;
          encoding = f.encoding;
          copyrect = f.copyrect;
          sizes = f.sizes;
          asked = λ x y e. absurd (none-asked m.width m.height (m.width * m.height) x y e);
          width = f.width;
          height = f.height;
          map = (front-watched v s h).follows.map;
          shows = now;
        };
      })

  -- a step that tells the size
  sized-watched : (v : Viewer (List ℕ)) (s : Watching) → Watches T c picture v s → is_open_phase (heard v.heard).phase ≡ true → v.takes_sizes ≡ true → let step = with_size c.width c.height v in Watches T c picture step.1 (after_messages step.0 s)
  sized-watched v s h opened takes =
      let f = h.follows in
      let front : List ℕ = front_bytes v in
      let colours : ColourMap = colours_after v.map_owed s.colours in
      let rest : List ℕ = size_bytes c.width c.height in
      let between : Display = display s.agreed s.shown colours in
      let after : Display = display (record s.agreed { width = c.width; height = c.height }) nothing_shown colours in
      let first : Reads (length (front ++ rest)) (has s) (front ++ rest) between rest = front-read v.map_owed v.notices h.short (length (front ++ rest)) (has s) rest (omega arith) in
      let second : Reads first.left between rest after [] =
      subst (λ (l : List ℕ). Reads first.left between l after []) (append-nil rest)
      (size-read first.left between c.width c.height [] (let k = ok.width in omega arith) (let k = ok.height in omega arith) (f.sizes takes) (subst (λ (l : List ℕ). length l ≤ first.left) (sym (append-nil rest)) first.room)) in
      let read : Reads (length (front ++ rest)) (has s) (front ++ rest) after [] = record { left = second.left; room = second.room; is = first.is ∙ second.is } in
      subst (Watches T c picture (with_size c.width c.height v).1) (sym (told s h.legal (front ++ rest) after read))
      (record {
        said = h.said;
        legal = h.legal;
        short = tt;
        follows = record {
          format = f.format;
          early = λ e. absurd (shut (sym opened ∙ e));
          told = λ e. refl;
          encoding = f.encoding;
          copyrect = f.copyrect;
          sizes = f.sizes;
          asked = λ x y e. absurd (none-asked c.width c.height (c.width * c.height) x y e);
          width = refl;
          height = refl;
          map = (front-watched v s h).follows.map;
          shows = all-owed-shows T _ c.width c.height (replicate (c.width * c.height) false) (colour_at c.width c.height picture) nothing_shown;
        };
      })
    where
      shut : true ≡ false → ⊥
      shut e = cc

  cut-watched : (v : Viewer (List ℕ)) (s : Watching) → Watches T c picture v s → Watches T c picture (sending c.width c.height c.rects_per_update picture v).1 (after_messages (sending c.width c.height c.rects_per_update picture v).0 s)
  cut-watched v s h = by-open (is_open_viewer v) refl
    where
      open-phase : (p : Phase) (e : End) → is_open p e ≡ true → is_open_phase p ≡ true
      open-phase (phase.Open w) e k = refl
      open-phase phase.Version e k = absurd cc
      open-phase (phase.Choice w) e k = absurd cc
      open-phase (phase.Init w) e k = absurd cc

      takes : (a b d : Bool) → (a && (b && d)) ≡ true → b ≡ true
      takes true true d e = refl
      takes true false d e = absurd cc
      takes false b d e = absurd cc

      by-size : (b : Bool) → tells_size c.width c.height v ≡ b → is_open_phase (heard v.heard).phase ≡ true
          → let step = cond b (with_size c.width c.height v) (with_update c.width c.height picture v (cut_of c.rects_per_update v.marks)) in Watches T c picture step.1 (after_messages step.0 s)
      by-size true tells opened = sized-watched v s h opened (takes (has_asked v.marks) v.takes_sizes _ tells)
      by-size false tells opened = sent-watched v s h opened (pending v.marks)

      by-open : (b : Bool) → is_open_viewer v ≡ b → let step = cond b (sending_open c.width c.height c.rects_per_update picture v) ([], v) in Watches T c picture step.1 (after_messages step.0 s)
      by-open true e = by-size (tells_size c.width c.height v) refl (open-phase (heard v.heard).phase (heard v.heard).end e)
      by-open false e = subst (Watches T c picture v) (sym (told s h.legal [] (has s) (record { left = 0; room = omega arith; is = refl }))) h

  -- ---- the viewer's own events

  pub own-watched : (f : Frame) → f.colours ≡ picture → (e : Event) (o : Option (Viewer (List ℕ))) (s : Watching) → WatchesIf T c picture o s
      → let step = own_step c e (record { picture = f; viewer = o }) o in WatchesIf T c picture step.0.viewer (watched_unless_refused e step.1 s)
  own-watched f is (Connect n) None s h = connected T c picture
  own-watched f is (Connect n) (Some v) s h = h
  own-watched f is (Hear n piece) (Some v) s h = heard-watched T c ok picture piece v s h
  own-watched f is (Hear n piece) None s h = tt
  own-watched f is (Cut n) (Some v) s h =
      subst (λ (l : List ℕ). let step = sending c.width c.height c.rects_per_update l v in Watches T c picture step.1 (after_messages step.0 s)) (sym is) (cut-watched v s h)
  own-watched f is (Cut n) None s h = tt
  own-watched f is (Close n) (Some v) s h = tt
  own-watched f is (Close n) None s h = tt
  own-watched f is (Paint r colours) (Some v) s h = h
  own-watched f is (Paint r colours) None s h = tt
  own-watched f is (Write r colours) (Some v) s h = h
  own-watched f is (Write r colours) None s h = tt
  own-watched f is (MarkEvent rects) (Some v) s h = h
  own-watched f is (MarkEvent rects) None s h = tt
  own-watched f is (ScheduleCopy rects dx dy) (Some v) s h = h
  own-watched f is (ScheduleCopy rects dx dy) None s h = tt
  own-watched f is (DoCopy rects dx dy) (Some v) s h = h
  own-watched f is (DoCopy rects dx dy) None s h = tt
  own-watched f is Bell (Some v) s h = h
  own-watched f is Bell None s h = tt
  own-watched f is (CutText text) (Some v) s h = h
  own-watched f is (CutText text) None s h = tt
  own-watched f is (Resize w k) (Some v) s h = h
  own-watched f is (Resize w k) None s h = tt

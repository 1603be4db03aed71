-- An opening that the RFC reads is open.
use Rattle.std.proofs.Common.{◌≡◌, ℕ, zero, suc, ◌+◌, ◌<◌, ◌≤◌, ◌==◌, inl, inr, Bool, true, false, cond, List, [], ◌∷◌, ◌++◌, length, take, drop, slice_index, Option, None, Some, refl, sym, ap, subst, ◌∙◌, arith}
use Rattle.std.specs.Int.{w8, w16, w32, from_be_bytes}
use Rattle.std.specs.List.{list_any}
use Rattle.std.proofs.Math.Seq.{drop-cons, take-append_seam}
use Rattle.std.proofs.lemmas.Bool.{le-ltb, eqb-true}
use Rattle.std.proofs.lemmas.Bool.Decides.{eqb_tells}
use Rattle.std.proofs.lemmas.List.{length-drop, length-append, drop-drop}
use Rattle.pixel_translate.specs.declared.PixelFormat.{PixelFormat}
use Rattle.pixel_translate.specs.Pixel.{be16_at, be32_at, format_of}
use Rattle.encode_raw.specs.Reading.{◌>>=◌, bytes_at, number_at}
use Rattle.messages.specs.declared.Version.{Version}
use Rattle.messages.specs.declared.Version.TheVariants.{V33, V37, V38}
use Rattle.messages.proofs.ListLemmas.{drop-append_at}
use Rattle.viewer_picture.specs.Opening as read
use Rattle.viewer_picture.specs.Opening.{security_at, result_at, init_at, told_format}
use Rattle.source_talk.specs.declared.opening.Heard.{Heard}
use Rattle.source_talk.specs.declared.opening.Heard.TheVariants as heard
use Rattle.source_talk.specs.Opening.{init_from, result_from, decision_from, is_none_type, list_from, security_from, version_in}
use Rattle.source_talk.specs.Readings.{opening_is_read}

-- ---- what a reading that gives something read

record Bound {A B : Type 0} (o : Option A) (f : A → Option B) (z : B) : Type 0 where
  pub value : A
  pub is : o ≡ Some value
  pub behind : f value ≡ Some z

bound : {A B : Type 0} (o : Option A) (f : A → Option B) (z : B) → (o >>= f) ≡ Some z → Bound o f z
bound None f z e = absurd cc
bound (Some x) f z e = record { value = x; is = refl; behind = e }

same_some : {A : Type 0} (x y : A) → Some x ≡ Some y → x ≡ y
same_some x y e = cc

record Parts (n : ℕ) (bytes : List ℕ) (p : List ℕ × List ℕ) : Type 0 where
  pub long : n ≤ length bytes
  pub front : p.0 ≡ take n bytes
  pub rest : p.1 ≡ drop n bytes

parts : (n : ℕ) (bytes : List ℕ) (p : List ℕ × List ℕ) → bytes_at n bytes ≡ Some p → Parts n bytes p
parts zero bytes p e =
    let q = same_some {A = List ℕ × List ℕ} ([], bytes) p e in
    record { long = omega arith; front = ap (λ (t : List ℕ × List ℕ). t.0) (sym q); rest = ap (λ (t : List ℕ × List ℕ). t.1) (sym q) }
parts (suc n) [] p e = absurd cc
parts (suc n) (b ∷ bytes) p e =
    let s = bound (bytes_at n bytes) (λ (t : List ℕ × List ℕ). Some (b ∷ t.0, t.1)) p e in
    let q = same_some {A = List ℕ × List ℕ} (b ∷ s.value.0, s.value.1) p s.behind in
    let others = parts n bytes s.value s.is in
    record {
      long = omega (arith, others.long);
      front = ap (λ (t : List ℕ × List ℕ). t.0) (sym q) ∙ ap (λ (l : List ℕ). b ∷ l) others.front;
      rest = ap (λ (t : List ℕ × List ℕ). t.1) (sym q) ∙ others.rest;
    }

-- ---- numbers at a place

cell : (said : List ℕ) (i j : ℕ) → j ≡ suc i → i < length said → drop i said ≡ slice_index said i ∷ drop j said
cell said i j e lt = rw e (drop-cons said i 0 lt)

one_of : (said : List ℕ) (i : ℕ) → i + 1 ≤ length said → take 1 (drop i said) ≡ slice_index said i ∷ []
one_of said i long = ap (λ (l : List ℕ). take 1 l) (cell said i (i + 1) (omega arith) (omega (arith, long)))

two_of : (said : List ℕ) (i : ℕ) → i + 2 ≤ length said → take 2 (drop i said) ≡ slice_index said i ∷ slice_index said (i + 1) ∷ []
two_of said i long =
    ap (λ (l : List ℕ). take 2 l) (cell said i (i + 1) (omega arith) (omega (arith, long)))
    ∙ ap (λ (l : List ℕ). slice_index said i ∷ take 1 l) (cell said (i + 1) (i + 2) (omega arith) (omega (arith, long)))

four_of : (said : List ℕ) (i : ℕ) → i + 4 ≤ length said → take 4 (drop i said) ≡ slice_index said i ∷ slice_index said (i + 1) ∷ slice_index said (i + 2) ∷ slice_index said (i + 3) ∷ []
four_of said i long =
    ap (λ (l : List ℕ). take 4 l) (cell said i (i + 1) (omega arith) (omega (arith, long)))
    ∙ ap (λ (l : List ℕ). slice_index said i ∷ take 3 l) (cell said (i + 1) (i + 2) (omega arith) (omega (arith, long)))
    ∙ ap (λ (l : List ℕ). slice_index said i ∷ slice_index said (i + 1) ∷ take 2 l) (cell said (i + 2) (i + 3) (omega arith) (omega (arith, long)))
    ∙ ap (λ (l : List ℕ). slice_index said i ∷ slice_index said (i + 1) ∷ slice_index said (i + 2) ∷ take 1 l) (cell said (i + 3) (i + 4) (omega arith) (omega (arith, long)))

-- a number of so many bytes was read at a place
record IsAt (said : List ℕ) (i size number : ℕ) (p : ℕ × List ℕ) : Type 0 where
  pub long : i + size ≤ length said
  pub is : p.0 ≡ number
  pub rest : p.1 ≡ drop (i + size) said

at1 : (said : List ℕ) (i : ℕ) (p : ℕ × List ℕ) → number_at w8 (drop i said) ≡ Some p → IsAt said i 1 (slice_index said i) p
at1 said i p e =
    let s = bound (bytes_at 1 (drop i said)) (λ (n : List ℕ × List ℕ). Some (from_be_bytes w8 n.0, n.1)) p e in
    let r = parts 1 (drop i said) s.value s.is in
    let q = same_some {A = ℕ × List ℕ} (from_be_bytes w8 s.value.0, s.value.1) p s.behind in
    let long : i + 1 ≤ length said = omega (arith, r.long, length-drop i said) in
    record {
      long = long;
      is = ap (λ (t : ℕ × List ℕ). t.0) (sym q) ∙ ap (λ (l : List ℕ). from_be_bytes w8 l) (r.front ∙ one_of said i long);
      rest = ap (λ (t : ℕ × List ℕ). t.1) (sym q) ∙ r.rest ∙ drop-drop 1 i said;
    }

at2 : (said : List ℕ) (i : ℕ) (p : ℕ × List ℕ) → number_at w16 (drop i said) ≡ Some p → IsAt said i 2 (be16_at said i) p
at2 said i p e =
    let s = bound (bytes_at 2 (drop i said)) (λ (n : List ℕ × List ℕ). Some (from_be_bytes w16 n.0, n.1)) p e in
    let r = parts 2 (drop i said) s.value s.is in
    let q = same_some {A = ℕ × List ℕ} (from_be_bytes w16 s.value.0, s.value.1) p s.behind in
    let long : i + 2 ≤ length said = omega (arith, r.long, length-drop i said) in
    record {
      long = long;
      is = ap (λ (t : ℕ × List ℕ). t.0) (sym q) ∙ ap (λ (l : List ℕ). from_be_bytes w16 l) (r.front ∙ two_of said i long);
      rest = ap (λ (t : ℕ × List ℕ). t.1) (sym q) ∙ r.rest ∙ drop-drop 2 i said;
    }

at4 : (said : List ℕ) (i : ℕ) (p : ℕ × List ℕ) → number_at w32 (drop i said) ≡ Some p → IsAt said i 4 (be32_at said i) p
at4 said i p e =
    let s = bound (bytes_at 4 (drop i said)) (λ (n : List ℕ × List ℕ). Some (from_be_bytes w32 n.0, n.1)) p e in
    let r = parts 4 (drop i said) s.value s.is in
    let q = same_some {A = ℕ × List ℕ} (from_be_bytes w32 s.value.0, s.value.1) p s.behind in
    let long : i + 4 ≤ length said = omega (arith, r.long, length-drop i said) in
    record {
      long = long;
      is = ap (λ (t : ℕ × List ℕ). t.0) (sym q) ∙ ap (λ (l : List ℕ). from_be_bytes w32 l) (r.front ∙ four_of said i long);
      rest = ap (λ (t : ℕ × List ℕ). t.1) (sym q) ∙ r.rest ∙ drop-drop 4 i said;
    }

-- ---- ServerInit

abbrev with_name : ℕ → ℕ → PixelFormat → ℕ × List ℕ → Option (read.Init × List ℕ)
with_name w h f long = bytes_at long.0 long.1 >>= λ (name : List ℕ × List ℕ). Some (record { width = w; height = h; format = f }, name.1)

abbrev with_long : ℕ → ℕ → List ℕ → PixelFormat → Option (read.Init × List ℕ)
with_long w h rest f = number_at w32 rest >>= with_name w h f

abbrev with_format : ℕ → ℕ → List ℕ × List ℕ → Option (read.Init × List ℕ)
with_format w h sixteen = told_format (format_of sixteen.0) >>= with_long w h sixteen.1

abbrev with_height : ℕ → ℕ × List ℕ → Option (read.Init × List ℕ)
with_height w height = bytes_at 16 height.1 >>= with_format w height.0

abbrev with_width : ℕ × List ℕ → Option (read.Init × List ℕ)
with_width width = number_at w16 width.1 >>= with_height width.0

init_read : (v : Version) (said : List ℕ) (i : ℕ) (init : read.Init) (more : List ℕ) → init_at (drop i said) ≡ Some (init, more)
    → (name : ℕ) × (init_from v said i ≡ heard.Open v (record { width = init.width; height = init.height; name = name }))
init_read v said i init more e =
    let z : read.Init × List ℕ = (init, more) in
    let a = bound (number_at w16 (drop i said)) with_width z e in
    let p = at2 said i a.value a.is in
    let w : ℕ = a.value.0 in
    let b = bound (number_at w16 (drop (i + 2) said)) (with_height w) z (subst (λ (l : List ℕ). (number_at w16 l >>= with_height w) ≡ Some z) p.rest a.behind) in
    let q = at2 said (i + 2) b.value b.is in
    let h : ℕ = b.value.0 in
    let c = bound (bytes_at 16 (drop (i + 2 + 2) said)) (with_format w h) z (subst (λ (l : List ℕ). (bytes_at 16 l >>= with_format w h) ≡ Some z) q.rest b.behind) in
    let r = parts 16 (drop (i + 2 + 2) said) c.value c.is in
    let d = bound (told_format (format_of c.value.0)) (with_long w h c.value.1) z c.behind in
    let at : c.value.1 ≡ drop (i + 20) said = r.rest ∙ drop-drop 16 (i + 2 + 2) said ∙ ap (λ (k : ℕ). drop k said) (let k : i + 2 + 2 + 16 ≡ i + 20 = omega arith in k) in
    let f = bound (number_at w32 (drop (i + 20) said)) (with_name w h d.value) z (subst (λ (l : List ℕ). (number_at w32 l >>= with_name w h d.value) ≡ Some z) at d.behind) in
    let t = at4 said (i + 20) f.value f.is in
    let g = bound (bytes_at f.value.0 f.value.1) (λ (name : List ℕ × List ℕ). Some (record { width = w; height = h; format = d.value }, name.1)) z f.behind in
    let made = same_some {A = read.Init × List ℕ} (record { width = w; height = h; format = d.value }, g.value.1) z g.behind in
    let width : init.width ≡ be16_at said i = ap (λ (o : read.Init × List ℕ). o.0.width) (sym made) ∙ p.is in
    let height : init.height ≡ be16_at said (i + 2) = ap (λ (o : read.Init × List ℕ). o.0.height) (sym made) ∙ q.is in
    (be32_at said (i + 20), rw (le-ltb (length said) (i + 24) (omega (arith, t.long)), width, height) refl)

-- ---- what comes of the choice

-- a reading that goes on where something holds
record Accepted (b : Bool) (x y : List ℕ) : Type 0 where
  pub holds : b ≡ true
  pub same : y ≡ x

accepted : (b : Bool) (x y : List ℕ) → cond b (Some x) None ≡ Some y → Accepted b x y
accepted true x y e = record { holds = refl; same = sym (same_some x y e) }
accepted false x y e = absurd cc

-- what is read up to a place, and what is heard from there on
record LeadsTo (said left : List ℕ) (x : Heard) (y : ℕ → Heard) : Type 0 where
  pub place : ℕ
  pub rest : left ≡ drop place said
  pub same : x ≡ y place

result_read : (v : Version) (said : List ℕ) (i : ℕ) (rest : List ℕ) → result_at v (drop i said) ≡ Some rest → LeadsTo said rest (result_from v said i) (init_from v said)
result_read V33 said i rest e = record { place = i; rest = sym (same_some (drop i said) rest e); same = refl }
result_read V37 said i rest e = record { place = i; rest = sym (same_some (drop i said) rest e); same = refl }
result_read V38 said i rest e =
    let a = bound (number_at w32 (drop i said)) (λ (result : ℕ × List ℕ). cond (result.0 == 0) (Some result.1) None) rest e in
    let p = at4 said i a.value a.is in
    let y = accepted (a.value.0 == 0) a.value.1 rest a.behind in
    let none : be32_at said i ≡ 0 = sym p.is ∙ eqb-true a.value.0 0 y.holds in
    record { place = i + 4; rest = y.same ∙ p.rest; same = rw (le-ltb (length said) (i + 4) p.long, none) refl }

decision_read : (said : List ℕ) (i : ℕ) (rest : List ℕ) → security_at V33 (drop i said) ≡ Some rest → LeadsTo said rest (decision_from said i) (result_from V33 said)
decision_read said i rest e =
    let a = bound (number_at w32 (drop i said)) (λ (kind : ℕ × List ℕ). cond (kind.0 == 1) (Some kind.1) None) rest e in
    let p = at4 said i a.value a.is in
    let y = accepted (a.value.0 == 1) a.value.1 rest a.behind in
    let one : be32_at said i ≡ 1 = sym p.is ∙ eqb-true a.value.0 1 y.holds in
    record { place = i + 4; rest = y.same ∙ p.rest; same = rw (le-ltb (length said) (i + 4) p.long, one) refl }

abbrev listed_types : List ℕ → Option (List ℕ)
listed_types bytes = number_at w8 bytes >>= λ (count : ℕ × List ℕ). bytes_at count.0 count.1 >>= λ (kinds : List ℕ × List ℕ). cond (list_any is_none_type kinds.0) (Some kinds.1) None

-- an empty list has no None
some_types : (n : ℕ) (l : List ℕ) → list_any is_none_type (take n l) ≡ true → (n == 0) ≡ false
some_types zero l e = absurd cc
some_types (suc n) l e = elim (eqb_tells (suc n) 0) [ inl x ↦ absurd (omega arith) | inr x ↦ x.0 ]

list_read : (v : Version) (said : List ℕ) (i : ℕ) (rest : List ℕ) → listed_types (drop i said) ≡ Some rest → LeadsTo said rest (list_from v said i) (result_from v said)
list_read v said i rest e =
    let taken : List ℕ → ℕ → Option (List ℕ) = λ (l : List ℕ) (n : ℕ). bytes_at n l >>= λ (kinds : List ℕ × List ℕ). cond (list_any is_none_type kinds.0) (Some kinds.1) None in
    let a = bound (number_at w8 (drop i said)) (λ (count : ℕ × List ℕ). taken count.1 count.0) rest e in
    let p = at1 said i a.value a.is in
    let n : ℕ = slice_index said i in
    let read : taken (drop (i + 1) said) n ≡ Some rest = subst (λ (l : List ℕ). taken l n ≡ Some rest) p.rest (subst (λ (k : ℕ). taken a.value.1 k ≡ Some rest) p.is a.behind) in
    let b = bound (bytes_at n (drop (i + 1) said)) (λ (kinds : List ℕ × List ℕ). cond (list_any is_none_type kinds.0) (Some kinds.1) None) rest read in
    let q = parts n (drop (i + 1) said) b.value b.is in
    let y = accepted (list_any is_none_type b.value.0) b.value.1 rest b.behind in
    let offered : list_any is_none_type (take n (drop (i + 1) said)) ≡ true = subst (λ (l : List ℕ). list_any is_none_type l ≡ true) q.front y.holds in
    let long : i + 1 + n ≤ length said = omega (arith, p.long, q.long, length-drop (i + 1) said) in
    record {
      place = i + 1 + n;
      rest = y.same ∙ q.rest ∙ drop-drop n (i + 1) said;
      same = rw (le-ltb (length said) (i + 1) p.long, some_types n (drop (i + 1) said) offered, le-ltb (length said) (i + 1 + n) long, offered) refl;
    }

security_read : (v : Version) (said : List ℕ) (i : ℕ) (rest : List ℕ) → security_at v (drop i said) ≡ Some rest → LeadsTo said rest (security_from v said i) (result_from v said)
security_read V33 said i rest e = decision_read said i rest e
security_read V37 said i rest e = list_read V37 said i rest e
security_read V38 said i rest e = list_read V38 said i rest e

pub reads_openings : opening_is_read
reads_openings front rest chosen more init form long secure done accept begun =
    let said : List ℕ = front ++ rest in
    let v : Version = version_in front in
    let behind : drop 12 said ≡ rest = drop-append_at 12 0 front rest (omega (arith, long)) in
    let before : take 12 said ≡ front = ap (λ (n : ℕ). take n said) (sym long) ∙ take-append_seam front rest in
    let a = security_read v said 12 chosen (subst (λ (l : List ℕ). security_at v l ≡ Some chosen) (sym behind) secure) in
    let b = result_read v said a.place done (subst (λ (l : List ℕ). result_at v l ≡ Some done) a.rest accept) in
    let c = init_read v said b.place init more (subst (λ (l : List ℕ). init_at l ≡ Some (init, more)) b.rest begun) in
    let enough : 12 ≤ length said = omega (arith, long, length-append front rest) in
    (c.0, rw (le-ltb (length said) 12 enough, before, form) (a.same ∙ b.same ∙ c.1))

-- What was heard, once more bytes came behind it.
use Rattle.std.proofs.Common.{◌≡◌, ℕ, ◌+◌, ◌<◌, ◌≤◌, ◌==◌, nat_lt, inl, inr, Bool, true, false, cond, min, List, ◌++◌, length, take, drop, slice_index, refl, sym, ap, ◌∙◌, arith}
use Rattle.std.specs.List.{list_any}
use Rattle.std.proofs.lemmas.Bool.{cases_lt, lt-ltb, le-ltb}
use Rattle.std.proofs.lemmas.List.{length-append, length-drop, take_all, get_or_append_left, take-append-le, drop-append-le}
use Rattle.pixel_translate.specs.Pixel.{be16_at, be32_at}
use Rattle.messages.specs.declared.Version.{Version}
use Rattle.messages.specs.declared.Version.TheVariants.{V33, V37, V38}
use Rattle.messages.specs.Reading.{is_version}
use Rattle.source_talk.specs.declared.opening.Answered.{Answered}
use Rattle.source_talk.specs.declared.opening.Answered.TheVariants as answered
use Rattle.source_talk.specs.declared.opening.OpeningEnd.TheVariants as end
use Rattle.source_talk.specs.declared.opening.Heard.{Heard}
use Rattle.source_talk.specs.declared.opening.Heard.TheVariants as heard
use Rattle.source_talk.specs.Opening.{answers, most_told, reason_from, init_in, init_from, verdict_from, result_from, decision_from, is_none_type, kinds_from, list_from, security_from, version_in, heard_by, is_awaited, answered_by}

-- ---- numbers in bytes that others stand behind

byte : (said more : List ℕ) (i : ℕ) → i < length said → slice_index (said ++ more) i ≡ slice_index said i
byte said more i lt = get_or_append_left said more 0 i lt

two : (said more : List ℕ) (i : ℕ) → i + 2 ≤ length said → be16_at (said ++ more) i ≡ be16_at said i
two said more i le = rw (byte said more i (omega (arith, le)), byte said more (i + 1) (omega (arith, le))) refl

four : (said more : List ℕ) (i : ℕ) → i + 4 ≤ length said → be32_at (said ++ more) i ≡ be32_at said i
four said more i le =
    rw (byte said more i (omega (arith, le)), byte said more (i + 1) (omega (arith, le)), byte said more (i + 2) (omega (arith, le)), byte said more (i + 3) (omega (arith, le))) refl

part : (said more : List ℕ) (i count : ℕ) → i + count ≤ length said → take count (drop i (said ++ more)) ≡ take count (drop i said)
part said more i count le =
    ap (λ (l : List ℕ). take count l) (drop-append-le i said more (omega (arith, le)))
    ∙ take-append-le count (drop i said) more (omega (arith, le, length-drop i said))

-- ---- what was answered

abbrev pub Begins : List ℕ → List ℕ → Type 0
Begins xs ys = xs ≡ take (length xs) ys

begins_itself : (xs : List ℕ) → Begins xs xs
begins_itself xs = sym (take_all (length xs) xs (omega arith))

-- what is heard was answered this, and maybe more
abbrev pub IsBehind : Answered → Heard → Type 0
IsBehind a x = Begins (answers a) (answers (answered_by x))

either : (P : Heard → Type 0) (b : Bool) (x y : Heard) → P x → P y → P (cond b x y)
either P true x y p q = p
either P false x y p q = q

reason_behind : (before : Answered) (said : List ℕ) (i : ℕ) → IsBehind before (reason_from before said i)
reason_behind before said i =
    let P : Heard → Type 0 = IsBehind before in
    let same = begins_itself (answers before) in
    either P (nat_lt (length said) (i + 4)) _ _ same (either P (nat_lt (length said) (i + 4 + min (be32_at said i) most_told)) _ _ same same)

init_behind : (a : Answered) (v : Version) (said : List ℕ) (i : ℕ) → Begins (answers a) (answers (answered.Init v)) → IsBehind a (init_from v said i)
init_behind a v said i h = either (IsBehind a) (nat_lt (length said) (i + 24)) _ _ h h

-- a reason that is told after a later answer
reason_behind_later : (a before : Answered) (said : List ℕ) (i : ℕ) → Begins (answers a) (answers before) → IsBehind a (reason_from before said i)
reason_behind_later a before said i h =
    either (IsBehind a) (nat_lt (length said) (i + 4)) _ _ h (either (IsBehind a) (nat_lt (length said) (i + 4 + min (be32_at said i) most_told)) _ _ h h)

verdict_behind : (a : Answered) (said : List ℕ) (i : ℕ) → Begins (answers a) (answers answered.Choice) → Begins (answers a) (answers (answered.Init V38)) → IsBehind a (verdict_from said i)
verdict_behind a said i h k =
    either (IsBehind a) (nat_lt (length said) (i + 4)) _ _ h
    (either (IsBehind a) (be32_at said i == 0) _ _ (init_behind a V38 said (i + 4) k) (reason_behind_later a answered.Choice said (i + 4) h))

result_behind : (v : Version) (said : List ℕ) (i : ℕ) → IsBehind (answered.Version v) (result_from v said i)
result_behind V33 said i = init_behind (answered.Version V33) V33 said i refl
result_behind V37 said i = init_behind (answered.Version V37) V37 said i refl
result_behind V38 said i = verdict_behind (answered.Version V38) said i refl refl

decision_behind : (said : List ℕ) (i : ℕ) → IsBehind (answered.Version V33) (decision_from said i)
decision_behind said i =
    let P : Heard → Type 0 = IsBehind (answered.Version V33) in
    either P (nat_lt (length said) (i + 4)) _ _ refl
    (either P (be32_at said i == 0) _ _ (reason_behind (answered.Version V33) said (i + 4))
    (either P (be32_at said i == 1) _ _ (init_behind (answered.Version V33) V33 said (i + 4) refl) refl))

kinds_behind : (v : Version) (said : List ℕ) (i count : ℕ) → IsBehind (answered.Version v) (kinds_from v said i count)
kinds_behind v said i count =
    let P : Heard → Type 0 = IsBehind (answered.Version v) in
    let same = begins_itself (answers (answered.Version v)) in
    either P (nat_lt (length said) (i + count)) _ _ same
    (either P (list_any is_none_type (take count (drop i said))) _ _ (result_behind v said (i + count)) same)

-- ---- what is heard, once more came

-- what was heard, and what is heard now
pub record Grows (x y : Heard) : Type 0 where
  pub stays : is_awaited x ≡ false → y ≡ x
  pub begins : Begins (answers (answered_by x)) (answers (answered_by y))

same : (x y : Heard) → y ≡ x → Grows x y
same x y e = record { stays = λ _. e; begins = begins_itself (answers (answered_by x)) ∙ ap (λ (h : Heard). take (length (answers (answered_by x))) (answers (answered_by h))) (sym e) }

-- where too few came, nothing is over
gate : (said more : List ℕ) (n : ℕ) (a : Answered) (x y : Heard) → (n ≤ length said → Grows x y) → IsBehind a y
    → Grows (cond (nat_lt (length said) n) (heard.Awaits a) x) (cond (nat_lt (length (said ++ more)) n) (heard.Awaits a) y)
gate said more n a x y grows behind =
    elim (cases_lt (length said) n) [
      | inl lt ↦ rw (lt-ltb (length said) n lt) (record {
        stays = λ e. absurd cc;
        begins = either (IsBehind a) (nat_lt (length (said ++ more)) n) (heard.Awaits a) y (begins_itself (answers a)) behind;
      })
      | inr le ↦ rw (le-ltb (length said) n le, le-ltb (length (said ++ more)) n (omega (arith, le, length-append said more))) (grows le)
    ]

choice : (b : Bool) (x y z w : Heard) → Grows x z → Grows y w → Grows (cond b x y) (cond b z w)
choice true x y z w g h = g
choice false x y z w g h = h

-- a reason of so many bytes
reason_of : Answered → List ℕ → ℕ → ℕ → Heard
reason_of before said i long = cond (nat_lt (length said) (i + 4 + min long most_told)) (heard.Awaits before) (heard.Ends before (end.Refused (i + 4) (min long most_told)))

pub reason_grows : (before : Answered) (said more : List ℕ) (i : ℕ) → Grows (reason_from before said i) (reason_from before (said ++ more) i)
unfolding reason_of
reason_grows before said more i =
    gate said more (i + 4) before (reason_of before said i (be32_at said i)) (reason_of before (said ++ more) i (be32_at (said ++ more) i))
    (λ le. rw (four said more i le) (gate said more (i + 4 + min (be32_at said i) most_told) before _ _ (λ _. same _ _ refl) (begins_itself (answers before))))
    (either (IsBehind before) (nat_lt (length (said ++ more)) (i + 4 + min (be32_at (said ++ more) i) most_told)) _ _ (begins_itself (answers before)) (begins_itself (answers before)))

pub init_grows : (v : Version) (said more : List ℕ) (i : ℕ) → Grows (init_from v said i) (init_from v (said ++ more) i)
init_grows v said more i =
    gate said more (i + 24) (answered.Init v) (heard.Open v (init_in said i)) (heard.Open v (init_in (said ++ more) i))
    (λ le. same _ _ (rw (two said more i (omega (arith, le)), two said more (i + 2) (omega (arith, le)), four said more (i + 20) (omega (arith, le))) refl))
    (begins_itself (answers (answered.Init v)))

-- a verdict of this number
verdict_of : List ℕ → ℕ → ℕ → Heard
verdict_of said i n = cond (n == 0) (init_from V38 said (i + 4)) (reason_from answered.Choice said (i + 4))

verdict_grows : (said more : List ℕ) (i : ℕ) → Grows (verdict_from said i) (verdict_from (said ++ more) i)
unfolding verdict_of
verdict_grows said more i =
    gate said more (i + 4) answered.Choice (verdict_of said i (be32_at said i)) (verdict_of (said ++ more) i (be32_at (said ++ more) i))
    (λ le. rw (four said more i le) (choice (be32_at said i == 0) _ _ _ _ (init_grows V38 said more (i + 4)) (reason_grows answered.Choice said more (i + 4))))
    (either (IsBehind answered.Choice) (be32_at (said ++ more) i == 0) _ _ (init_behind answered.Choice V38 (said ++ more) (i + 4) refl) (reason_behind answered.Choice (said ++ more) (i + 4)))

result_grows : (v : Version) (said more : List ℕ) (i : ℕ) → Grows (result_from v said i) (result_from v (said ++ more) i)
result_grows V33 said more i = init_grows V33 said more i
result_grows V37 said more i = init_grows V37 said more i
result_grows V38 said more i = verdict_grows said more i

-- a decision on this number
decision_of : List ℕ → ℕ → ℕ → Heard
decision_of said i n =
    cond (n == 0) (reason_from (answered.Version V33) said (i + 4)) (cond (n == 1) (init_from V33 said (i + 4)) (heard.Ends (answered.Version V33) (end.SecurityType n)))

decision_of_behind : (said : List ℕ) (i n : ℕ) → IsBehind (answered.Version V33) (decision_of said i n)
unfolding decision_of
decision_of_behind said i n =
    let P : Heard → Type 0 = IsBehind (answered.Version V33) in
    either P (n == 0) _ _ (reason_behind (answered.Version V33) said (i + 4)) (either P (n == 1) _ _ (init_behind (answered.Version V33) V33 said (i + 4) refl) refl)

decision_grows : (said more : List ℕ) (i : ℕ) → Grows (decision_from said i) (decision_from (said ++ more) i)
unfolding decision_of
decision_grows said more i =
    gate said more (i + 4) (answered.Version V33) (decision_of said i (be32_at said i)) (decision_of (said ++ more) i (be32_at (said ++ more) i))
    (λ le. rw (four said more i le)
    (choice (be32_at said i == 0) _ _ _ _ (reason_grows (answered.Version V33) said more (i + 4)) (choice (be32_at said i == 1) _ _ _ _ (init_grows V33 said more (i + 4)) (same _ _ refl))))
    (decision_of_behind (said ++ more) i (be32_at (said ++ more) i))

-- where None is offered or not
kinds_of : Version → List ℕ → ℕ → ℕ → Bool → Heard
kinds_of v said i count offered = cond offered (result_from v said (i + count)) (heard.Ends (answered.Version v) (end.SecurityTypes i count))

offered_in : List ℕ → ℕ → ℕ → Bool
offered_in said i count = list_any is_none_type (take count (drop i said))

kinds_grows : (v : Version) (said more : List ℕ) (i count : ℕ) → Grows (kinds_from v said i count) (kinds_from v (said ++ more) i count)
unfolding kinds_of offered_in
kinds_grows v said more i count =
    gate said more (i + count) (answered.Version v) (kinds_of v said i count (offered_in said i count)) (kinds_of v (said ++ more) i count (offered_in (said ++ more) i count))
    (λ le. rw (part said more i count le) (choice (offered_in said i count) _ _ _ _ (result_grows v said more (i + count)) (same _ _ refl)))
    (either (IsBehind (answered.Version v)) (offered_in (said ++ more) i count) _ _ (result_behind v (said ++ more) (i + count)) (begins_itself (answers (answered.Version v))))

-- a list that begins with this number
list_of : Version → List ℕ → ℕ → ℕ → Heard
list_of v said i n = cond (n == 0) (reason_from (answered.Version v) said (i + 1)) (kinds_from v said (i + 1) n)

list_of_behind : (v : Version) (said : List ℕ) (i n : ℕ) → IsBehind (answered.Version v) (list_of v said i n)
unfolding list_of
list_of_behind v said i n = either (IsBehind (answered.Version v)) (n == 0) _ _ (reason_behind (answered.Version v) said (i + 1)) (kinds_behind v said (i + 1) n)

list_grows : (v : Version) (said more : List ℕ) (i : ℕ) → Grows (list_from v said i) (list_from v (said ++ more) i)
unfolding list_of
list_grows v said more i =
    gate said more (i + 1) (answered.Version v) (list_of v said i (slice_index said i)) (list_of v (said ++ more) i (slice_index (said ++ more) i))
    (λ le. rw (byte said more i (omega (arith, le)))
    (choice (slice_index said i == 0) _ _ _ _ (reason_grows (answered.Version v) said more (i + 1)) (kinds_grows v said more (i + 1) (slice_index said i))))
    (list_of_behind v (said ++ more) i (slice_index (said ++ more) i))

security_grows : (v : Version) (said more : List ℕ) (i : ℕ) → Grows (security_from v said i) (security_from v (said ++ more) i)
security_grows V33 said more i = decision_grows said more i
security_grows V37 said more i = list_grows V37 said more i
security_grows V38 said more i = list_grows V38 said more i

-- what these twelve bytes make of all
front_of : List ℕ → List ℕ → Heard
front_of said front = cond (is_version front) (security_from (version_in front) said 12) (heard.Ends answered.Nothing end.NoVersion)

pub heard_grows : (said more : List ℕ) → Grows (heard_by said) (heard_by (said ++ more))
unfolding front_of
heard_grows said more =
    gate said more 12 answered.Nothing (front_of said (take 12 said)) (front_of (said ++ more) (take 12 (said ++ more)))
    (λ le. let front : take 12 (said ++ more) ≡ take 12 said = take-append-le 12 said more le in
    rw front (choice (is_version (take 12 said)) _ _ _ _ (security_grows (version_in (take 12 said)) said more 12) (same _ _ refl)))
    refl

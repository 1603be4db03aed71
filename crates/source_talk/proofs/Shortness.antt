-- An opening of which more is awaited is short.
use Rattle.std.proofs.Common.{◌≡◌, ℕ, ◌+◌, ◌<◌, ◌≤◌, ◌^◌, ◌==◌, nat_lt, inl, inr, Bool, true, false, cond, min, All, List, length, take, drop, slice_index, arith}
use Rattle.std.specs.List.{list_any}
use Rattle.std.proofs.lemmas.Bool.{cases_lt, le-ltb, false≢true}
use Rattle.pixel_translate.specs.Pixel.{be32_at}
use Rattle.messages.specs.declared.Version.{Version}
use Rattle.messages.specs.declared.Version.TheVariants.{V33, V37, V38}
use Rattle.messages.specs.Reading.{is_version}
use Rattle.source_talk.specs.declared.opening.Answered.{Answered}
use Rattle.source_talk.specs.declared.opening.Answered.TheVariants as answered
use Rattle.source_talk.specs.declared.opening.OpeningEnd.TheVariants as end
use Rattle.source_talk.specs.declared.opening.Heard.{Heard}
use Rattle.source_talk.specs.declared.opening.Heard.TheVariants as heard
use Rattle.source_talk.specs.Opening.{most_told, reason_from, init_in, init_from, verdict_from, result_from, decision_from, is_none_type, kinds_from, list_from, security_from, version_in, heard_by, is_awaited}

abbrev IsShort : List ℕ → Heard → Type 0
IsShort said x = is_awaited x ≡ true → length said < 531

gate : (said : List ℕ) (n : ℕ) (a : Answered) (x : Heard) → n ≤ 531 → (n ≤ length said → IsShort said x) → IsShort said (cond (nat_lt (length said) n) (heard.Awaits a) x)
gate said n a x few short =
    elim (cases_lt (length said) n) [
      | inl lt ↦ λ e. omega (arith, lt, few)
      | inr le ↦ rw (le-ltb (length said) n le) (short le)
    ]

choice : (said : List ℕ) (b : Bool) (x y : Heard) → IsShort said x → IsShort said y → IsShort said (cond b x y)
choice said true x y g h = g
choice said false x y g h = h

reason_short : (before : Answered) (said : List ℕ) (i : ℕ) → i ≤ 272 → IsShort said (reason_from before said i)
reason_short before said i few =
    gate said (i + 4) before _ (omega (arith, few)) (λ _.
    gate said (i + 4 + min (be32_at said i) most_told) before (heard.Ends before (end.Refused (i + 4) (min (be32_at said i) most_told))) (omega (arith, few)) (λ _ e. absurd (false≢true e)))

init_short : (v : Version) (said : List ℕ) (i : ℕ) → i ≤ 507 → IsShort said (init_from v said i)
init_short v said i few = gate said (i + 24) (answered.Init v) (heard.Open v (init_in said i)) (omega (arith, few)) (λ _ e. absurd (false≢true e))

verdict_short : (said : List ℕ) (i : ℕ) → i ≤ 268 → IsShort said (verdict_from said i)
verdict_short said i few =
    gate said (i + 4) answered.Choice _ (omega (arith, few)) (λ _.
    choice said (be32_at said i == 0) _ _ (init_short V38 said (i + 4) (omega (arith, few))) (reason_short answered.Choice said (i + 4) (omega (arith, few))))

result_short : (v : Version) (said : List ℕ) (i : ℕ) → i ≤ 268 → IsShort said (result_from v said i)
result_short V33 said i few = init_short V33 said i (omega (arith, few))
result_short V37 said i few = init_short V37 said i (omega (arith, few))
result_short V38 said i few = verdict_short said i few

decision_short : (said : List ℕ) (i : ℕ) → i ≤ 268 → IsShort said (decision_from said i)
decision_short said i few =
    gate said (i + 4) (answered.Version V33) _ (omega (arith, few)) (λ _.
    choice said (be32_at said i == 0) _ _ (reason_short (answered.Version V33) said (i + 4) (omega (arith, few)))
    (choice said (be32_at said i == 1) _ _ (init_short V33 said (i + 4) (omega (arith, few))) (λ e. absurd (false≢true e))))

kinds_short : (v : Version) (said : List ℕ) (i count : ℕ) → i + count ≤ 268 → IsShort said (kinds_from v said i count)
kinds_short v said i count few =
    gate said (i + count) (answered.Version v) _ (omega (arith, few)) (λ _.
    choice said (list_any is_none_type (take count (drop i said))) _ _ (result_short v said (i + count) few) (λ e. absurd (false≢true e)))

list_short : (v : Version) (said : List ℕ) → All (λ byte. byte < 2 ^ 8) said → IsShort said (list_from v said 12)
list_short v said bytes =
    gate said 13 (answered.Version v) _ (omega arith) (λ some.
    let small : slice_index said 12 < 2 ^ 8 = bytes 12 0 (omega (arith, some)) in
    choice said (slice_index said 12 == 0) _ _ (reason_short (answered.Version v) said 13 (omega arith)) (kinds_short v said 13 (slice_index said 12) (omega (arith, small))))

security_short : (v : Version) (said : List ℕ) → All (λ byte. byte < 2 ^ 8) said → IsShort said (security_from v said 12)
security_short V33 said bytes = decision_short said 12 (omega arith)
security_short V37 said bytes = list_short V37 said bytes
security_short V38 said bytes = list_short V38 said bytes

pub heard_short : (said : List ℕ) → All (λ byte. byte < 2 ^ 8) said → IsShort said (heard_by said)
heard_short said bytes =
    gate said 12 answered.Nothing _ (omega arith) (λ _.
    choice said (is_version (take 12 said)) _ _ (security_short (version_in (take 12 said)) said bytes) (λ e. absurd (false≢true e)))

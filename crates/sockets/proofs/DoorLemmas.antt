-- When listeners are asked again.
use Rattle.std.proofs.Common.{◌≡◌, ◌≤◌, ◌<◌, ◌-◌, ◌+◌, ℕ, List, [], ◌∷◌, ◌++◌, Option, None, Some, length, map, take, drop, All, ap, ◌∙◌, sym, subst, arith, slice_index_or, slice_set}
use Rattle.std.specs.Prelude.{IfSome, IsSomeAnd, MatchOption}
use Rattle.std.specs.Duration.{as_nanos}
use Rattle.std.specs.Time.{instant_nanos}
use Rattle.std.specs.declared.time.Duration.{Duration}
use Rattle.std.specs.declared.time.Instant.{Instant}
use Rattle.std.proofs.lemmas.List.{take_all, take_more}
use Rattle.std.proofs.lemmas.List.Elements.{All-nil, All-cons, All-append, All-weaker}
use Rattle.std.proofs.lemmas.List.Edits.{map_over_more}
use Rattle.sockets.specs.declared.door.Door.{Door}
use Rattle.sockets.specs.Doors.{IsAskedBy}

-- one time is no longer than another, where that has an end
abbrev IsNoLonger : Option Duration → Option Duration → Type 0
IsNoLonger new wait = IfSome wait (λ time. IsSomeAnd new (λ w. as_nanos w ≤ as_nanos time))

within : (most : ℕ) (wait new : Option Duration) → IsNoLonger new wait → IsSomeAnd wait (λ w. as_nanos w ≤ most) → IsSomeAnd new (λ w. as_nanos w ≤ most)
within most None new shorter still = absurd still
within most (Some w) None shorter still = absurd shorter
within most (Some w) (Some v) shorter still = omega arith

-- a listener is asked by a shorter time, too
asked_still : (now : ℕ) (retry : Option Instant) (wait new : Option Duration) → IsNoLonger new wait
    → IfSome retry (λ time. IsSomeAnd wait (λ w. as_nanos w ≤ instant_nanos time - now)) → IfSome retry (λ time. IsSomeAnd new (λ w. as_nanos w ≤ instant_nanos time - now))
asked_still now None wait new shorter still = tt
asked_still now (Some time) wait new shorter still = within (instant_nanos time - now) wait new shorter still

exactly : (most : ℕ) (wait : Option Duration) → IsSomeAnd wait (λ w. as_nanos w ≡ most) → IsSomeAnd wait (λ w. as_nanos w ≤ most)
exactly most None just = absurd just
exactly most (Some w) just = omega arith

-- by its own time
asked_itself : (now : ℕ) (retry : Option Instant) (own new : Option Duration) → IsNoLonger new own
    → MatchOption retry (own ≡ None) (λ time. IsSomeAnd own (λ w. as_nanos w ≡ instant_nanos time - now)) → IfSome retry (λ time. IsSomeAnd new (λ w. as_nanos w ≤ instant_nanos time - now))
asked_itself now None own new shorter just = tt
asked_itself now (Some time) own new shorter just = within (instant_nanos time - now) own new shorter (exactly (instant_nanos time - now) own just)

-- one listener more is asked by a time that is no longer than its own
pub asked_more : (now : ℕ) (doors : List Door) (i : ℕ) (door : Door) (wait own new : Option Duration) → i < length doors → door ≡ slice_index_or doors i door
    → All (IsAskedBy now wait) (take i doors)
    → MatchOption door.retry (own ≡ None) (λ time. IsSomeAnd own (λ w. as_nanos w ≡ instant_nanos time - now))
    → IsNoLonger new wait → IsNoLonger new own → All (IsAskedBy now new) (take (i + 1) doors)
asked_more now doors i door wait own new inside there before just first second =
    let front : All (IsAskedBy now new) (take i doors) =
    All-weaker (IsAskedBy now wait) (IsAskedBy now new) (λ d h. asked_still now d.retry wait new first h) (take i doors) before in
    let here : IsAskedBy now new door = asked_itself now door.retry own new second just in
    let last : All (IsAskedBy now new) (slice_index_or doors i door ∷ []) = All-cons (IsAskedBy now new) (slice_index_or doors i door) [] (subst (IsAskedBy now new) there here) (All-nil (IsAskedBy now new)) in
    subst (All (IsAskedBy now new)) (sym (take_more doors i door inside)) (All-append (IsAskedBy now new) (take i doors) (slice_index_or doors i door ∷ []) front last)

-- all of them
pub asked_all : (now : ℕ) (doors : List Door) (i : ℕ) (wait : Option Duration) → length doors ≤ i → All (IsAskedBy now wait) (take i doors) → All (IsAskedBy now wait) doors
asked_all now doors i wait whole asked = subst (All (IsAskedBy now wait)) (take_all i doors whole) asked

-- a loop over listeners changed one more of them
pub changed_more : (f : Door → Door) (doors changed : List Door) (i : ℕ) (door new : Door) → i < length doors → changed ≡ map f (take i doors) ++ drop i doors
    → door ≡ slice_index_or changed i door → new ≡ f door → slice_set changed i new ≡ map f (take (i + 1) doors) ++ drop (i + 1) doors
changed_more f doors changed i door new inside so_far there is = ap (slice_set changed i) is ∙ map_over_more f doors changed i door inside so_far there

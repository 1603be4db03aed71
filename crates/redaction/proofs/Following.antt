-- What a redactor keeps behind a piece.
use Rattle.std.proofs.Common.{◌≡◌, ℕ, Bool, true, false, cond, eqb, List, [], ◌∷◌, ◌++◌, length, replicate, Option, Some, None, refl, sym, ap, ◌∙◌, inl, inr, arith}
use Rattle.std.specs.Prelude.{option_map}
use Rattle.std.specs.Ordering.{nat_cmp}
use Rattle.std.specs.BTreeMap.{is_at}
use Rattle.std.proofs.lemmas.Bool.{cases_lt, lt-ltb, le-ltb, eqb-true}
use Rattle.std.proofs.lemmas.Bool.Decides.{eqb_tells}
use Rattle.std.proofs.lemmas.List.Sums.{fold-append}
use Rattle.messages.specs.Reading.{Conversation, hear}
use Rattle.scene.specs.declared.Event.{Event}
use Rattle.scene.specs.declared.Event.TheVariants as event
use Rattle.redaction.specs.Places.{Spot, spot_of, spot_behind, hidden_by}
use Rattle.redaction.specs.Sessions.{heard_next, conversation_of, redacted_piece}
use Rattle.redaction.specs.Following.{spot_at, Follows}
use Rattle.redaction.proofs.Spots.{after_bytes, hidden_bytes}

-- a viewer that is there
pub redacted_there : (o : Option Conversation) (s : Spot) (piece : List ℕ) → option_map spot_of o ≡ Some s → hidden_by s piece ≡ redacted_piece o piece
redacted_there None s piece e = absurd (cc)
redacted_there (Some h) s piece e = let same : s ≡ spot_of h = cc in ap (λ (t : Spot). hidden_by t piece) same ∙ hidden_bytes h piece

kept_there : (o : Option Conversation) (s : Spot) (piece : List ℕ) → option_map spot_of o ≡ Some s → Some (spot_behind s piece) ≡ option_map spot_of (option_map (λ h. hear h piece) o)
kept_there None s piece e = absurd (cc)
kept_there (Some h) s piece e = let same : s ≡ spot_of h = cc in ap (λ (t : Spot). Some (spot_behind t piece)) same ∙ ap (λ (t : Spot). Some t) (after_bytes h piece)

-- and one that isn't
pub redacted_away : (o : Option Conversation) (piece : List ℕ) → option_map spot_of o ≡ None → replicate (length piece) 0 ≡ redacted_piece o piece
redacted_away None piece e = refl
redacted_away (Some h) piece e = absurd (cc)

kept_away : (o : Option Conversation) (piece : List ℕ) → option_map spot_of o ≡ None → option_map spot_of o ≡ option_map spot_of (option_map (λ h. hear h piece) o)
kept_away None piece e = refl
kept_away (Some h) piece e = absurd (cc)

-- the key of a viewer
at_number : (n v : ℕ) → is_at (nat_cmp n) v ≡ eqb n v
at_number n v =
    elim (eqb_tells n v) [
      | inl e ↦ rw (le-ltb n v (omega arith), e.0) refl
      | inr e ↦ elim (cases_lt n v) [ inl lt ↦ rw (lt-ltb n v lt, e.0) refl | inr le ↦ rw (le-ltb n v le, e.0) refl ]
    ]

-- a viewer that is there hears a piece
pub follows_there : (old new : List (ℕ × Spot)) (es : List Event) (n : ℕ) (piece : List ℕ) (s : Spot) → Follows old es → spot_at old n ≡ Some s
    → ((q : ℕ) → spot_at new q ≡ cond (is_at (nat_cmp n) q) (Some (spot_behind s piece)) (spot_at old q)) → Follows new (es ++ event.Hear n piece ∷ [])
follows_there old new es n piece s f e u v =
    u v ∙ ap (λ b. cond b (Some (spot_behind s piece)) (spot_at old v)) (at_number n v) ∙ go (eqb n v) refl
    ∙ ap (option_map spot_of) (sym (fold-append (heard_next v) None es (event.Hear n piece ∷ [])))
  where
    go : (b : Bool) → eqb n v ≡ b → cond b (Some (spot_behind s piece)) (spot_at old v) ≡ option_map spot_of (cond b (option_map (λ h. hear h piece) (conversation_of v es)) (conversation_of v es))
    go true h = kept_there (conversation_of v es) s piece (sym (f v) ∙ ap (spot_at old) (sym (eqb-true n v h)) ∙ e)
    go false h = f v

-- and one that isn't there
pub follows_away : (old new : List (ℕ × Spot)) (es : List Event) (n : ℕ) (piece : List ℕ) → Follows old es → spot_at old n ≡ None
    → ((q : ℕ) → spot_at new q ≡ spot_at old q) → Follows new (es ++ event.Hear n piece ∷ [])
follows_away old new es n piece f e u v =
    u v ∙ f v ∙ go (eqb n v) refl ∙ ap (option_map spot_of) (sym (fold-append (heard_next v) None es (event.Hear n piece ∷ [])))
  where
    go : (b : Bool) → eqb n v ≡ b → option_map spot_of (conversation_of v es) ≡ option_map spot_of (cond b (option_map (λ h. hear h piece) (conversation_of v es)) (conversation_of v es))
    go true h = kept_away (conversation_of v es) piece (sym (f v) ∙ ap (spot_at old) (sym (eqb-true n v h)) ∙ e)
    go false h = refl

-- What is known of a viewer by what is known of its connection, over the steps of its turn.
use Rattle.std.proofs.Common.{◌≡◌, ℕ, Bool, true, false, List, [], ◌∷◌, ◌++◌, Some, refl, sym, ap, ◌∙◌, append-nil, true≢false}
use Rattle.std.specs.Prelude.{◌==◌, ◌&&◌}
use Rattle.std.proofs.lemmas.Bool.Decides.{Decides-eqb}
use Rattle.screen.specs.declared.Config.{Config}
use Rattle.screen.specs.declared.Event.{Event}
use Rattle.screen.specs.declared.Event.TheVariants.{Hear, Cut}
use Rattle.screen.specs.Alone.{One, step, owner_of}
use Rattle.screen.specs.Answers.{is_owner, viewer_of}
use Rattle.screen.specs.Refusals.{held_as_alone}
use Rattle.screen.specs.State.{state}
use Rattle.connections.specs.Drawing.{Surface, IsDrawnFrom, is_asking_on}
use Rattle.connection.specs.Known.{Known}
use Rattle.connections.specs.Attending.{asks, is_owed, next_bytes, IsSettled}
use Rattle.connections.specs.Turns.{Knows}
use Rattle.connections.proofs.Seen.{seen, seen-other, next-seen, asks-drawings, owed-drawings, asks-cut, owed-cut, cut-nothing, quiet-next, asks-held}

-- ---- whether there is nothing to send

pub settled-seen : (c : Config) (es fs : List Event) (a b : Surface) (u : ℕ) → seen c u fs ≡ seen c u es → b.drawn ≡ a.drawn → b.noticed ≡ a.noticed → IsSettled c es a u → IsSettled c fs b u
settled-seen c es fs a b u same drawn noticed h = record {
  sent = λ fine. next-seen c u fs ∙ ap (λ (o : One). (step c (Cut u) o).1.bytes) same ∙ sym (next-seen c u es) ∙ h.sent (sym drawn ∙ fine);
  quiet = λ fine. ap (λ (o : One). is_owed o.viewer) same ∙ h.quiet (sym noticed ∙ fine);
}

pub settled-same : (c : Config) (es : List Event) (a b : Surface) (u : ℕ) → b.drawn ≡ a.drawn → b.noticed ≡ a.noticed → IsSettled c es a u → IsSettled c es b u
settled-same c es a b u drawn noticed h = settled-seen c es es a b u refl drawn noticed h

apart-from : (v u : ℕ) → (v ≡ u → ⊥) → (v == u) ≡ false
apart-from v u apart = go (v == u) refl
  where
    go : (b : Bool) → (v == u) ≡ b → (v == u) ≡ false
    go true is = absurd (apart ((Decides-eqb v u).0 is))
    go false is = is

-- another viewer's event
pub settled-other : (c : Config) (es : List Event) (a b : Surface) (v u : ℕ) (e : Event) → (v ≡ u → ⊥) → owner_of e ≡ Some v → b.drawn ≡ a.drawn → b.noticed ≡ a.noticed → IsSettled c es a u → IsSettled c (es ++ e ∷ []) b u
settled-other c es a b v u e apart own drawn noticed h = settled-seen c es (es ++ e ∷ []) a b u (seen-other c u es e (ap (is_owner u) own ∙ apart-from v u apart)) drawn noticed h

pub settled-drawn : (c : Config) (es : List Event) (a b : Surface) (u : ℕ) → (d : IsDrawnFrom c es a b) → IsSettled c es a u → IsSettled c (es ++ d.calls) b u
settled-drawn c es a b u d h = record {
  sent = λ fine. let none = d.none fine in ap (λ l. next_bytes c u (es ++ l)) none.1 ∙ ap (next_bytes c u) (append-nil es) ∙ h.sent none.0;
  quiet = λ fine. let mute = d.quiet fine in owed-drawings c u es d.calls d.drawings mute.1 (h.quiet mute.0);
}

-- the viewers were looked at
pub settled-looked : (c : Config) (es : List Event) (a b : Surface) (u : ℕ) → asks (viewer_of c u es) ≡ false → a.noticed ≡ false → IsSettled c es a u → IsSettled c es b u
settled-looked c es a b u none mute h = record {
  sent = λ fine. quiet-next c u es none (h.quiet mute);
  quiet = λ fine. h.quiet mute;
}

-- ---- what is known

pub knows-known : (c : Config) (before list : List Event) (v : ℕ) (since a b : Surface) (known after : Known) → b ≡ a → after.may_cut ≡ known.may_cut → after.may_ask ≡ known.may_ask
    → Knows c before list v since a known → Knows c before list v since b after
knows-known c before list v since a b known after still cut ask k = record {
  answered = λ h. k.answered (sym ask ∙ h);
  settled = λ h. settled-same c list a b v (ap (λ (x : Surface). x.drawn) still) (ap (λ (x : Surface). x.noticed) still) (k.settled (sym cut ∙ h));
  others = λ u apart h. settled-same c list a b u (ap (λ (x : Surface). x.drawn) still) (ap (λ (x : Surface). x.noticed) still) (k.others u apart h);
}

-- an update may be there to be cut
pub knows-looked : (c : Config) (before list : List Event) (v : ℕ) (since a : Surface) (known after : Known) → after.may_cut ≡ true → after.may_ask ≡ known.may_ask
    → Knows c before list v since a known → Knows c before list v since a after
knows-looked c before list v since a known after cut ask k = record {
  answered = λ h. k.answered (sym ask ∙ h);
  settled = λ h. absurd (true≢false (sym cut ∙ h));
  others = k.others;
}

pub knows-drawn : (c : Config) (before list : List Event) (v : ℕ) (since a b : Surface) (known : Known) → (d : IsDrawnFrom c list a b) → Knows c before list v since a known → Knows c before (list ++ d.calls) v since b known
knows-drawn c before list v since a b known d k = record {
  answered = λ h. asks-drawings c v list d.calls d.drawings (k.answered h);
  settled = λ h. settled-drawn c list a b v d (k.settled h);
  others = λ u apart h. settled-drawn c list a b u d (k.others u apart h);
}

pub knows-heard : (c : Config) (before list : List Event) (v : ℕ) (since a b : Surface) (known after : Known) (piece : List ℕ) → b.drawn ≡ a.drawn → b.noticed ≡ a.noticed → after.may_cut ≡ true → after.may_ask ≡ true
    → Knows c before list v since a known → Knows c before (list ++ Hear v piece ∷ []) v since b after
knows-heard c before list v since a b known after piece drawn noticed cut ask k = record {
  answered = λ h. absurd (true≢false (sym ask ∙ h));
  settled = λ h. absurd (true≢false (sym cut ∙ h));
  others = λ u apart h. settled-other c list a b v u (Hear v piece) apart refl drawn noticed (k.others u apart h);
}

-- there is nothing to send
pub knows-none : (c : Config) (before list : List Event) (v : ℕ) (since a b : Surface) (known after : Known) → b.drawn ≡ a.drawn → b.noticed ≡ a.noticed → after.may_ask ≡ known.may_ask → next_bytes c v list ≡ []
    → Knows c before list v since a known → Knows c before (list ++ Cut v ∷ []) v since b after
knows-none c before list v since a b known after drawn noticed ask none k =
    let nothing = cut-nothing c v list none in
    record {
      answered = λ h. asks-cut c v list (k.answered (sym ask ∙ h));
      settled = λ h. record { sent = λ fine. nothing.0; quiet = λ fine. nothing.1 };
      others = λ u apart h. settled-other c list a b v u (Cut v) apart refl drawn noticed (k.others u apart h);
    }

neither : (x y : Bool) → (x && y) ≡ false → (P : Type 0) → (x ≡ false → P) → (y ≡ false → P) → P
neither false y h P left right = left refl
neither true y h P left right = right h

-- an update is cut: where it leaves no request, there is nothing to send
pub knows-cut : held_as_alone → (c : Config) (before list : List Event) (v : ℕ) (since a b : Surface) (known after : Known) → b.drawn ≡ a.drawn → b.noticed ≡ a.noticed → b.screen ≡ state c (list ++ Cut v ∷ [])
    → after.may_cut ≡ is_asking_on b.screen v → after.may_ask ≡ (known.may_ask && is_asking_on b.screen v) → Knows c before list v since a known → Knows c before (list ++ Cut v ∷ []) v since b after
knows-cut held c before list v since a b known after drawn noticed screen cut ask k =
    let unasked : is_asking_on b.screen v ≡ false → asks (viewer_of c v (list ++ Cut v ∷ [])) ≡ false = λ none. sym (asks-held held c v (list ++ Cut v ∷ [])) ∙ ap (λ s. is_asking_on s v) (sym screen) ∙ none in
    let mute = owed-cut c v list in record {
      answered = λ h. neither known.may_ask (is_asking_on b.screen v) (sym ask ∙ h) (asks (viewer_of c v (list ++ Cut v ∷ [])) ≡ false) (λ none. asks-cut c v list (k.answered none)) unasked;
      settled = λ h. record { sent = λ fine. quiet-next c v (list ++ Cut v ∷ []) (unasked (sym cut ∙ h)) mute; quiet = λ fine. mute };
      others = λ u apart h. settled-other c list a b v u (Cut v) apart refl drawn noticed (k.others u apart h);
    }

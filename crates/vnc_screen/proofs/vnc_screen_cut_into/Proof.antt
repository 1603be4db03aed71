-- `vnc_screen_cut_into` lends the desk at its pointer, and the update at the other, to `cut_into` for the call.
use Rattle.vnc_screen.proofs.Steps.{ℕ, List, [], ◌∷◌, ◌++◌, refl, vptr, w32, w64, proved, full_share, id⊢, ftrue, fex, flft, flent, named, tables, ‵, raw, ◌⊛◌, some, later, prop, ◌$◌, ◌∵◌, !, qed, done, move, keep, drop, use1, use2, use3, split, join, fsplit, fjoin, fpack, pick, await, regoal, suffices, group, enter, of_opd, addr, stop, no_more, and_then, returns, alloc_all, pass_all, free_all, look_at, get, through, sets, lands_as, lft_new, lft_end, u64, i32, yes, lends_ref, ref_back, Body, mem, uint_vals, uint_Tells, sint_Lawful, Ptr, RawPtr, block_ptr, in_a_block, rawptr_vals, rawptr_Tells, MutRef, plain, nothing, peeks, shows, Is, owns, types_at, calls_at, lasts, Lasts, triple_of, Stays, walk_of, stay_dropped, Goes-dropped, ends_at, framed, WpFn}
use contract.Monad.{fact}
use denote.Steps.{heard}
use Rattle.vnc_screen.specs.Lying.{desk_row, update_row, holds, holds_update, holds_both}
use Rattle.c_screen.specs.Calls.{CutsInto}
use Rattle.vnc_screen.specs.contracts.vnc_screen_cut_into as f
use Rattle.vnc_screen.proofs.vnc_screen_cut_into.Statement.{statement}
use Rattle.vnc_screen.proofs.vnc_screen_cut_into.Code as code
use Rattle.c_screen.specs.contracts.desk.Desk.cut_into as g
use Rattle.c_screen.proofs.desk.Desk.cut_into.Met.{met}

abbrev stayed : Stays f.ended.signature.params f.ended.kept
stayed = (stay_dropped _ yes, (stay_dropped _ yes, (stay_dropped _ yes, tt)))

pub vnc_screen_cut_into_spec : {M : Type 1} → statement M
vnc_screen_cut_into_spec 𝓤 𝓛 𝓜 𝓡 wired =
    let c = f.clauses 𝓛 𝓜.mem 𝓡.returns in let W = walk_of 𝓛 f.ended stayed c in let 𝓣 = tables 𝓤 𝓛.H 𝓜 𝓡 𝓡.env in
    proved 𝓛 f.ended stayed c 𝓜 𝓡 (Goes-dropped 𝓛 0 (plain (λ _. RawPtr)) yes (λ κs x w. refl), (Goes-dropped 𝓛 0 (plain (λ _. u64)) yes (λ κs x w. refl), (Goes-dropped 𝓛 0 (plain (λ _. RawPtr)) yes (λ κs x w. refl), tt)))
    f.Key.name code.function (code.unfolded 𝓤 𝓛.H 𝓜 𝓡 wired)
    (λ κs. (rawptr_vals, (uint_vals w64, (rawptr_vals, tt)))) (λ κs. (rawptr_Tells, (uint_Tells w64, (rawptr_Tells, tt)))) (λ κs qs bounds a s are.
    let y : Ptr → Ptr → W.Ghost = λ p q. ((κs, qs, bounds, (p, (a.1.0, (q, tt))), (rawptr_vals p, (uint_vals w64 a.1.0, (rawptr_vals q, tt)))), s) in
    qed 𝓛 (((‵ ftrue) ⊛ ‵ (owns (types_at f.signature.params κs) a (y a.0 a.1.1.0).0.4)) ∷ ‵ (holds_both a.0 a.1.1.0 s.0 s.1) ∷ []) ∵
    split ! $ move ! (1 ∷ []) $ fsplit ! $ drop ! $ fsplit ! $ move ! (1 ∷ []) $ fsplit ! $ drop ! $ move ! (3 ∷ []) $ fsplit ! $
    -- [the desk; the update; no further parameter; the number; the tokens]
    in_a_block ! a.0 (λ p. holds p s.0) (id⊢ 𝓤 _) (λ b o e.
    regoal ! (λ p. prop (WpFn 𝓤 𝓛.H 𝓣.C 𝓣.Λ code.function (rawptr_vals p ++ (uint_vals w64 a.1.0 ++ (rawptr_vals a.1.1.0 ++ []))) (W.post (y p a.1.1.0)))) e refl $ move ! (1 ∷ []) $
    in_a_block ! a.1.1.0 (λ q. holds_update q s.1) (id⊢ 𝓤 _) (λ d i h.
    regoal ! (λ q. prop (WpFn 𝓤 𝓛.H 𝓣.C 𝓣.Λ code.function (rawptr_vals (block_ptr b o) ++ (uint_vals w64 a.1.0 ++ (rawptr_vals q ++ []))) (W.post (y (block_ptr b o) q)))) h refl $ move ! (1 ∷ 0 ∷ []) $
    -- [the desk; the update; no further parameter; the number; the tokens]
    enter ! _ _ _ _ _ $ alloc_all ! (λ l. pass_all ! refl ((tt, tt), ((tt, record { fits = are.1.0.1 }), ((tt, tt), tt))) $
    sets ! (of_opd ! (get ! refl)) refl (tt, tt) $
    sets ! (addr ! (through ! refl (stop !))) refl (tt, tt) $
    sets ! (of_opd ! (get ! refl)) refl (tt, tt) $
    sets ! (addr ! (through ! refl (stop !))) refl (tt, tt) $
    lft_new ! tt (λ α. move ! (1 ∷ []) $ let κ : List ℕ = α ∷ [] in
    use1 𝓛 (later (some (λ (γ : ℕ). ‵ ((MutRef (named 0) κ desk_row).own_val (record { ref_ptr = (b, o); ghost_name = γ; now = s.0 }) (vptr b o ∷ [])) ⊛ ‵ (flent κ (Body (mem desk_row) b o γ)))))
    (lends_ref 𝓛 desk_row (named 0) κ s.0 b o) $ await ! tt $ pick ! (λ γ. split ! $
    -- [the desk's loan; what its lender keeps; the token of α; the update; no further parameter; the number; the tokens]
    lft_new ! tt (λ β. move ! (4 ∷ []) $ let ι : List ℕ = β ∷ [] in
    use1 𝓛 (later (some (λ (δ : ℕ). ‵ ((MutRef (named 1) ι update_row).own_val (record { ref_ptr = (d, i); ghost_name = δ; now = s.1 }) (vptr d i ∷ [])) ⊛ ‵ (flent ι (Body (mem update_row) d i δ)))))
    (lends_ref 𝓛 update_row (named 1) ι s.1 d i) $ await ! tt $ pick ! (λ δ. split ! $
    -- [the update's loan; what its lender keeps; the token of β; the desk's loan; what its lender keeps; the token of α; no further parameter; the number; the tokens]
    let G = triple_of 𝓛 g.signature (g.spec 𝓛 𝓜.mem 𝓡.returns) in
    let z : G.Ghost = (((κ, (ι, κs)), (full_share, (full_share, qs)), tt, (record { ref_ptr = (b, o); ghost_name = γ; now = s.0 }, (a.1.0, (record { ref_ptr = (d, i); ghost_name = δ; now = s.1 }, tt))), (vptr b o ∷ [], (uint_vals w64 a.1.0, (vptr d i ∷ [], tt)))), tt) in
    move ! (0 ∷ 6 ∷ []) $ fjoin ! $ move ! (6 ∷ 0 ∷ []) $ fjoin ! $ move ! (3 ∷ 0 ∷ []) $ fjoin ! $
    -- [what it is given; what the update's lender keeps; the token of β; what the desk's lender keeps; the token of α; the tokens]
    move ! (2 ∷ 5 ∷ []) $ join ! $ move ! (4 ∷ 0 ∷ []) $ join ! $ join ! $ nothing ! $ move ! (1 ∷ 0 ∷ []) $ use2 𝓛 (raw (G.pre z)) (id⊢ 𝓤 _) $
    calls_at ! (framed 𝓤 𝓛.H 𝓜 (tables 𝓤 𝓛.H 𝓜 𝓡 𝓡.env)) G (met 𝓤 𝓛 𝓜 𝓡 (code.calls-c_screen::desk::Desk::cut_into 𝓡.env wired)) z
    (and_then ! (get ! refl) (and_then ! (get ! refl) (and_then ! (get ! refl) (no_more !)))) (λ v.
    use1 𝓛 (later (some (λ (r : i32.Denot). ((‵ (flft κ full_share) ⊛ (‵ (flft ι full_share) ⊛ ‵ ftrue)) ⊛ ‵ (i32.own_val r (v ∷ []))) ⊛ some (λ (ws : Lasts g.ended z.0.0 z.0.3). ‵ (lasts g.ended z.0.0 z.0.3 ws) ⊛ raw (fact 𝓤 (CutsInto a.1.0 s.0 ws.0 s.1 ws.1.1.0 r)))))) (id⊢ 𝓤 _) $
    await ! tt $ pick ! (λ r. split ! $ split ! $ split ! $ lft_end ! tt $ move ! (1 ∷ []) $ split ! $ lft_end ! tt $
    -- [β is over; the tokens; α is over; the result; what the callee left; what the update's lender keeps; what the desk's lender keeps]
    move ! (4 ∷ []) $ pick ! (λ ws. split ! $ move ! (1 ∷ []) $ heard ! _ (λ so. fsplit ! $ fsplit ! $ move ! (2 ∷ []) $ fsplit ! $ move ! (1 ∷ []) $ fsplit ! $ fsplit ! $
    -- [the update's last value; its borrow; nothing; the number's; the desk's; its borrow; β is over; the tokens; α is over; the result; what the update's lender keeps; what the desk's lender keeps]
    move ! (6 ∷ 10 ∷ 0 ∷ []) $
    use3 𝓛 (later (‵ ((mem update_row).own_at ws.1.1.0 d i))) (ref_back 𝓛 update_row ι δ ws.1.1.0 d i) $ await ! tt $
    -- [the update; its borrow; nothing; the number's last value; the desk's; its borrow; the tokens; α is over; the result; what the desk's lender keeps]
    move ! (7 ∷ 9 ∷ 4 ∷ []) $
    use3 𝓛 (later (‵ ((mem desk_row).own_at ws.0 b o))) (ref_back 𝓛 desk_row κ γ ws.0 b o) $ await ! tt $
    -- [the desk; the update; its borrow; nothing; the number's last value; the desk's borrow; the tokens; the result]
    move ! (7 ∷ []) $ peeks ! i32 (Is i32) (shows 𝓛 i32) r (v ∷ []) (λ is. lands_as ! refl refl ((sint_Lawful 𝓛 w32).typed r _ is).0 $
    returns ! (look_at ! 0 refl) $ free_all ! refl $ keep ! (1 ∷ 2 ∷ 7 ∷ 4 ∷ 5 ∷ 0 ∷ []) $
    suffices ! _ (ends_at 𝓛 f.ended stayed c (y (block_ptr b o) (block_ptr d i)) v r (tt, (ws.1.0, (tt, tt))) (tt, (tt, (tt, tt)))) $
    fjoin ! $
    fpack ! (CutsInto a.1.0 s.0 ws.0 s.1 ws.1.1.0 r) (λ _. holds_both (block_ptr b o) (block_ptr d i) ws.0 ws.1.1.0) so $
    fpack ! update_row.Denot (λ u. fex (CutsInto a.1.0 s.0 ws.0 s.1 u r) (λ _. holds_both (block_ptr b o) (block_ptr d i) ws.0 u)) ws.1.1.0 $
    fpack ! desk_row.Denot (λ t. fex update_row.Denot (λ u. fex (CutsInto a.1.0 s.0 t s.1 u r) (λ _. holds_both (block_ptr b o) (block_ptr d i) t u))) ws.0 $
    -- [what is served; the tokens; nothing; the number's last value; the result]
    move ! (2 ∷ []) $ nothing ! $ fjoin ! $ move ! (3 ∷ 0 ∷ []) $ fjoin ! $ nothing ! $ fjoin ! $ move ! (2 ∷ 0 ∷ 3 ∷ []) $ group ! 3 $ done !)))))))))))))

-- `vnc_waker_init` lends the desk at its pointer for a call that makes a waker, and writes that to the room at the other pointer.
use base.Fml.{fsep}
use Rattle.vnc_server.proofs.Steps.{◌≡◌, ℕ, List, [], ◌∷◌, ◌++◌, refl, vunit, vptr, proved, full_share, id⊢, ftrue, fex, flft, flent, named, tables, ‵, raw, ◌⊛◌, some, later, prop, ◌$◌, ◌∵◌, !, qed, done, move, keep, drop, use1, use2, use3, split, join, fsplit, fjoin, fpack, feq_i, pick, await, regoal, suffices, group, enter, of_opd, unit_lit, addr, stop, init, no_more, and_then, assigns, returns, alloc_all, pass_all, free_all, look_at, get, through, sets, lands_as, lft_new, lft_end, yes, lends_ref, ref_back, Body, mem, Ptr, RawPtr, block_ptr, lies_at, room_at, in_a_block, rawptr_vals, rawptr_Tells, MutRef, plain, nothing, peeks, shows, Is, owns, types_at, calls_at, lasts, Lasts, triple_of, Stays, walk_of, stay_dropped, Goes-dropped, ends_at, framed, WpFn}
use contract.Monad.{fact}
use denote.Steps.{heard}
use borrow.Table.OneValue.{part_in}
use Rattle.c_server.proofs.waker.ServerWaker.TheLaws.{the_row_laws}
use Rattle.vnc_server.specs.Lying.{desk_row, waker_row, holds}
use Rattle.vnc_server.specs.contracts.vnc_waker_init as f
use Rattle.vnc_server.proofs.vnc_waker_init.Statement.{statement}
use Rattle.vnc_server.proofs.vnc_waker_init.Code as code
use Rattle.c_server.specs.contracts.desk.ServerDesk.waker as g
use Rattle.c_server.proofs.desk.ServerDesk.waker.Met.{met}

abbrev stayed : Stays f.ended.signature.params f.ended.kept
stayed = (stay_dropped _ yes, (stay_dropped _ yes, tt))

pub vnc_waker_init_spec : {M : Type 1} → statement M
vnc_waker_init_spec 𝓤 𝓛 𝓜 𝓡 wired =
    let c = f.clauses 𝓛 𝓜.mem 𝓡.returns in let W = walk_of 𝓛 f.ended stayed c in let 𝓣 = tables 𝓤 𝓛.H 𝓜 𝓡 𝓡.env in
    proved 𝓛 f.ended stayed c 𝓜 𝓡 (Goes-dropped 𝓛 0 (plain (λ _. RawPtr)) yes (λ κs x w. refl), (Goes-dropped 𝓛 0 (plain (λ _. RawPtr)) yes (λ κs x w. refl), tt))
    f.Key.name code.function (code.unfolded 𝓤 𝓛.H 𝓜 𝓡 wired)
    (λ κs. (rawptr_vals, (rawptr_vals, tt))) (λ κs. (rawptr_Tells, (rawptr_Tells, tt))) (λ κs qs bounds a s are.
    let y : Ptr → Ptr → W.Ghost = λ p q. ((κs, qs, bounds, (p, (q, tt)), (rawptr_vals p, (rawptr_vals q, tt))), s) in
    qed 𝓛 (((‵ ftrue) ⊛ ‵ (owns (types_at f.signature.params κs) a (y a.0 a.1.0).0.4)) ∷ ‵ (fsep (holds a.0 s) (room_at waker_row a.1.0)) ∷ []) ∵ split ! $ move ! (1 ∷ []) $ fsplit ! $ drop ! $ fsplit ! $ drop ! $ move ! (2 ∷ []) $ fsplit ! $
    -- [the desk; the room; no other parameter; the tokens]
    in_a_block ! a.0 (λ p. holds p s) (id⊢ 𝓤 _) (λ b o e.
    regoal ! (λ p. prop (WpFn 𝓤 𝓛.H 𝓣.C 𝓣.Λ code.function (rawptr_vals p ++ (rawptr_vals a.1.0 ++ [])) (W.post (y p a.1.0)))) e refl $ move ! (1 ∷ []) $
    in_a_block ! a.1.0 (λ q. room_at waker_row q) (id⊢ 𝓤 _) (λ d i h.
    regoal ! (λ q. prop (WpFn 𝓤 𝓛.H 𝓣.C 𝓣.Λ code.function (rawptr_vals (block_ptr b o) ++ (rawptr_vals q ++ [])) (W.post (y (block_ptr b o) q)))) h refl $ move ! (1 ∷ 2 ∷ 3 ∷ 0 ∷ []) $
    -- [the desk; no other parameter; the tokens; the room]
    enter ! _ _ _ _ _ $ alloc_all ! (λ l. pass_all ! refl ((tt, tt), ((tt, tt), tt)) $
    sets ! (of_opd ! (get ! refl)) refl (tt, tt) $
    sets ! (of_opd ! (get ! refl)) refl (tt, tt) $
    sets ! (addr ! (through ! refl (stop !))) refl (tt, tt) $
    lft_new ! tt (λ α. move ! (1 ∷ []) $ let κ : List ℕ = α ∷ [] in
    use1 𝓛 (later (some (λ (γ : ℕ). ‵ ((MutRef (named 0) κ desk_row).own_val (record { ref_ptr = (b, o); ghost_name = γ; now = s }) (vptr b o ∷ [])) ⊛ ‵ (flent κ (Body (mem desk_row) b o γ)))))
    (lends_ref 𝓛 desk_row (named 0) κ s b o) $ await ! tt $ pick ! (λ γ. split ! $
    -- [the loan; what the lender keeps; the token of α; no other parameter; the tokens; the room]
    let G = triple_of 𝓛 g.signature (g.spec 𝓛 𝓜.mem 𝓡.returns) in
    let z : G.Ghost = (((κ, tt), (full_share, tt), tt, (record { ref_ptr = (b, o); ghost_name = γ; now = s }, tt), (vptr b o ∷ [], tt)), tt) in
    move ! (0 ∷ 3 ∷ []) $ fjoin ! $ move ! (2 ∷ 3 ∷ 0 ∷ []) $ join ! $ join ! $ nothing ! $ move ! (1 ∷ 0 ∷ []) $ use2 𝓛 (raw (G.pre z)) (id⊢ 𝓤 _) $
    calls_at ! (framed 𝓤 𝓛.H 𝓜 (tables 𝓤 𝓛.H 𝓜 𝓡 𝓡.env)) G (met 𝓤 𝓛 𝓜 𝓡 (code.calls-c_server::desk::ServerDesk::waker 𝓡.env wired)) z
    (and_then ! (get ! refl) (no_more !)) (λ v.
    use1 𝓛 (later (some (λ (r : waker_row.Denot). ((‵ (flft κ full_share) ⊛ (‵ ftrue)) ⊛ ‵ (waker_row.own_val r (v ∷ []))) ⊛ some (λ (ws : Lasts g.ended z.0.0 z.0.3). ‵ (lasts g.ended z.0.0 z.0.3 ws) ⊛ raw (fact 𝓤 (ws.0 ≡ s)))))) (id⊢ 𝓤 _) $
    await ! tt $ pick ! (λ r. split ! $ split ! $ split ! $ lft_end ! tt $
    -- [α is over; the tokens; the result; what the callee left; what the lender keeps; the room]
    move ! (3 ∷ []) $ pick ! (λ ws. split ! $ move ! (1 ∷ []) $ heard ! _ (λ so. fsplit ! $ fsplit ! $
    -- [the desk's last value; its borrow; nothing; α is over; the tokens; the result; what the lender keeps; the room]
    move ! (3 ∷ 6 ∷ 0 ∷ []) $
    use3 𝓛 (later (‵ ((mem desk_row).own_at ws.0 b o))) (ref_back 𝓛 desk_row κ γ ws.0 b o) $ await ! tt $
    -- [the desk; its borrow; nothing; the tokens; the result; the room]
    move ! (4 ∷ []) $ peeks ! waker_row (Is waker_row) (shows 𝓛 waker_row) r (v ∷ []) (λ is. let ok = ((the_row_laws.lawful 𝓛).typed r _ is).0 in lands_as ! refl refl ok $
    -- [the waker; the desk; its borrow; nothing; the tokens; the room]
    assigns ! (of_opd ! (get ! refl)) (through ! refl (stop !)) (init ! 5 refl ok) $
    sets ! (of_opd ! (unit_lit !)) refl (tt, tt) $
    returns ! (look_at ! 0 refl) $ free_all ! refl $ keep ! (5 ∷ 0 ∷ 1 ∷ []) $
    use2 𝓛 (‵ (lies_at waker_row full_share (block_ptr d i) r)) (part_in 𝓛 waker_row refl full_share r d i v) $
    suffices ! _ (ends_at 𝓛 f.ended stayed c (y (block_ptr b o) (block_ptr d i)) vunit tt (tt, (tt, tt)) (tt, (tt, tt))) $
    fpack ! waker_row.Denot (λ w. lies_at waker_row full_share (block_ptr d i) w) r $ move ! (1 ∷ []) $
    fpack ! (ws.0 ≡ s) (λ _. holds (block_ptr b o) ws.0) so $
    fpack ! desk_row.Denot (λ t. fex (t ≡ s) (λ _. holds (block_ptr b o) t)) ws.0 $ fjoin ! $
    feq_i ! _ (vunit ∷ []) _ refl $ nothing ! $ nothing ! $ join ! $ nothing ! $ join ! $ nothing ! $ group ! 3 $ done !)))))))))))

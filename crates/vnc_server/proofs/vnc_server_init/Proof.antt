-- `vnc_server_init` writes a desk that is shut to the room at the pointer.
use Rattle.vnc_server.proofs.Steps.{[], ◌∷◌, ◌++◌, ◌≡◌, refl, proved, full_share, id⊢, ftrue, vunit, tables, ‵, raw, ◌⊛◌, some, later, prop, ◌$◌, ◌∵◌, !, qed, done, move, drop, keep, use1, use2, split, join, fsplit, fpack, feq_i, pick, await, regoal, suffices, group, enter, of_opd, unit_lit, stop, init, no_more, and_then, assigns, returns, alloc_all, pass_all, free_all, look_at, get, through, sets, lands_as, yes, Ptr, RawPtr, block_ptr, room_at, in_a_block, rawptr_vals, rawptr_Tells, plain, owns, types_at, nothing, peeks, Is, calls_at, lasts, Lasts, triple_of, Stays, walk_of, stay_dropped, Goes-dropped, ends_at, framed, shows, WpFn}
use contract.Monad.{fact}
use denote.Steps.{heard}
use borrow.Table.OneValue.{part_in}
use base.Fml.{fex}
use Rattle.std.specs.contracts.alloc.Global as heap
use Rattle.std.proofs.alloc.Global.TheLaws as heap_laws
use Rattle.c_server.specs.Desk.{nothing_there}
use Rattle.c_server.proofs.desk.ServerDesk.TheLaws.{the_row_laws}
use Rattle.vnc_server.specs.Lying.{desk_row, holds}
use Rattle.vnc_server.specs.contracts.vnc_server_init as f
use Rattle.vnc_server.proofs.vnc_server_init.Statement.{statement}
use Rattle.vnc_server.proofs.vnc_server_init.Code as code
use Rattle.c_server.specs.contracts.desk.ServerDesk.new as g
use Rattle.c_server.proofs.desk.ServerDesk.new.Met.{met}

abbrev stayed : Stays f.ended.signature.params f.ended.kept
stayed = (stay_dropped _ yes, (stay_dropped _ yes, tt))

pub vnc_server_init_spec : {M : Type 1} → statement M
vnc_server_init_spec 𝓤 𝓛 𝓜 𝓡 wired =
    let c = f.clauses 𝓛 𝓜.mem 𝓡.returns in let W = walk_of 𝓛 f.ended stayed c in let 𝓣 = tables 𝓤 𝓛.H 𝓜 𝓡 𝓡.env in
    proved 𝓛 f.ended stayed c 𝓜 𝓡 (Goes-dropped 𝓛 0 (plain (λ _. RawPtr)) yes (λ κs x w. refl), (Goes-dropped 𝓛 0 (plain (λ _. heap.the_row)) yes (λ κs x w. refl), tt))
    f.Key.name code.function (code.unfolded 𝓤 𝓛.H 𝓜 𝓡 wired)
    (λ κs. (rawptr_vals, ((λ d. heap_laws.lowers.lowered d ∷ []), tt))) (λ κs. (rawptr_Tells, (heap_laws.lowers.val_is, tt))) (λ κs qs bounds a _ are.
    let y : Ptr → W.Ghost = λ p. ((κs, qs, bounds, (p, a.1), (rawptr_vals p, (heap_laws.lowers.lowered a.1.0 ∷ [], tt))), tt) in
    qed 𝓛 (((‵ ftrue) ⊛ ‵ (owns (types_at f.signature.params κs) a (y a.0).0.4)) ∷ ‵ (room_at desk_row a.0) ∷ []) ∵ split ! $ move ! (1 ∷ []) $ fsplit ! $ drop ! $ move ! (2 ∷ []) $
    -- [the room; the other parameter; the tokens]
    in_a_block ! a.0 (λ p. room_at desk_row p) (id⊢ 𝓤 _) (λ b o e.
    regoal ! (λ p. prop (WpFn 𝓤 𝓛.H 𝓣.C 𝓣.Λ code.function (rawptr_vals p ++ ((heap_laws.lowers.lowered a.1.0 ∷ []) ++ [])) (W.post (y p)))) e refl $
    enter ! _ _ _ _ _ $ alloc_all ! (λ l. pass_all ! refl ((tt, tt), (((heap_laws.the_row_laws.lawful 𝓛).typed a.1.0 _ are.1.0).0, tt)) $
    sets ! (of_opd ! (get ! refl)) refl (tt, tt) $
    let G = triple_of 𝓛 g.signature (g.spec 𝓛 𝓜.mem 𝓡.returns) in
    let z : G.Ghost = ((tt, tt, tt, (a.1.0, tt), (heap_laws.lowers.lowered a.1.0 ∷ [], tt)), tt) in
    move ! (2 ∷ 1 ∷ []) $ join ! $ nothing ! $ move ! (1 ∷ 0 ∷ []) $ use2 𝓛 (raw (G.pre z)) (id⊢ 𝓤 _) $
    calls_at ! (framed 𝓤 𝓛.H 𝓜 (tables 𝓤 𝓛.H 𝓜 𝓡 𝓡.env)) G (met 𝓤 𝓛 𝓜 𝓡 (code.calls-c_server::desk::ServerDesk::new 𝓡.env wired)) z (and_then ! (get ! refl) (no_more !)) (λ v.
    use1 𝓛 (later (some (λ (r : desk_row.Denot). (‵ ftrue ⊛ ‵ (desk_row.own_val r (v ∷ []))) ⊛ some (λ (ws : Lasts g.ended tt (a.1.0, tt)). ‵ (lasts g.ended tt (a.1.0, tt) ws) ⊛ raw (fact 𝓤 (r ≡ nothing_there)))))) (id⊢ 𝓤 _) $
    await ! tt $ pick ! (λ r. split ! $ split ! $ drop ! $ move ! (1 ∷ []) $ pick ! (λ ws. split ! $ drop ! $ heard ! _ (λ made.
    -- [the desk; the room]
    peeks ! desk_row (Is desk_row) (shows 𝓛 desk_row) r (v ∷ []) (λ is. let ok = ((the_row_laws.lawful 𝓛).typed r _ is).0 in lands_as ! refl refl ok $
    assigns ! (of_opd ! (get ! refl)) (through ! refl (stop !)) (init ! 1 refl ok) $
    sets ! (of_opd ! (unit_lit !)) refl (tt, tt) $
    returns ! (look_at ! 0 refl) $ free_all ! refl $ keep ! (1 ∷ 0 ∷ []) $
    use2 𝓛 (‵ (holds (block_ptr b o) r)) (part_in 𝓛 desk_row refl full_share r b o v) $
    suffices ! _ (ends_at 𝓛 f.ended stayed c (y (block_ptr b o)) vunit tt (tt, (tt, tt)) (tt, (tt, tt))) $
    fpack ! (r ≡ nothing_there) (λ _. holds (block_ptr b o) r) made $
    fpack ! desk_row.Denot (λ t. fex (t ≡ nothing_there) (λ _. holds (block_ptr b o) t)) r $
    feq_i ! _ (vunit ∷ []) _ refl $ nothing ! $ nothing ! $ join ! $ nothing ! $ join ! $ nothing ! $ group ! 3 $ done !))))))))

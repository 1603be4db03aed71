-- `vnc_update_init` writes an update that holds nothing to the room at the pointer.
use Rattle.vnc_screen.proofs.Steps.{[], ◌∷◌, ◌++◌, ◌≡◌, refl, proved, full_share, id⊢, ftrue, vunit, tables, ‵, raw, ◌⊛◌, some, later, prop, ◌$◌, ◌∵◌, !, qed, done, move, drop, keep, use1, use2, split, join, fsplit, fpack, feq_i, pick, await, regoal, suffices, group, enter, of_opd, unit_lit, stop, init, no_more, assigns, returns, alloc_all, pass_all, free_all, look_at, get, through, sets, lands_as, yes, Ptr, RawPtr, block_ptr, room_at, in_a_block, rawptr_vals, rawptr_Tells, plain, owns, types_at, nothing, peeks, Is, calls_at, lasts, Lasts, triple_of, Stays, walk_of, stay_dropped, Goes-dropped, ends_at, framed, shows, WpFn}
use contract.Monad.{fact}
use denote.Steps.{heard}
use borrow.Table.OneValue.{part_in}
use base.Fml.{fex}
use Rattle.c_screen.proofs.update.DeskUpdate.TheLaws.{the_row_laws}
use Rattle.vnc_screen.specs.Lying.{update_row, holds_update}
use Rattle.vnc_screen.specs.contracts.vnc_update_init as f
use Rattle.vnc_screen.proofs.vnc_update_init.Statement.{statement}
use Rattle.vnc_screen.proofs.vnc_update_init.Code as code
use Rattle.c_screen.specs.contracts.update.DeskUpdate.new as g
use Rattle.c_screen.proofs.update.DeskUpdate.new.Met.{met}

abbrev stayed : Stays f.ended.signature.params f.ended.kept
stayed = (stay_dropped _ yes, tt)

pub vnc_update_init_spec : {M : Type 1} → statement M
vnc_update_init_spec 𝓤 𝓛 𝓜 𝓡 wired =
    let c = f.clauses 𝓛 𝓜.mem 𝓡.returns in let W = walk_of 𝓛 f.ended stayed c in let 𝓣 = tables 𝓤 𝓛.H 𝓜 𝓡 𝓡.env in
    proved 𝓛 f.ended stayed c 𝓜 𝓡 (Goes-dropped 𝓛 0 (plain (λ _. RawPtr)) yes (λ κs x w. refl), tt)
    f.Key.name code.function (code.unfolded 𝓤 𝓛.H 𝓜 𝓡 wired)
    (λ κs. (rawptr_vals, tt)) (λ κs. (rawptr_Tells, tt)) (λ κs qs bounds a _ are.
    let y : Ptr → W.Ghost = λ p. ((κs, qs, bounds, (p, a.1), (rawptr_vals p, tt)), tt) in
    qed 𝓛 (((‵ ftrue) ⊛ ‵ (owns (types_at f.signature.params κs) a (y a.0).0.4)) ∷ ‵ (room_at update_row a.0) ∷ []) ∵ split ! $ move ! (1 ∷ []) $ fsplit ! $ drop ! $ move ! (2 ∷ []) $
    -- [the room; no other parameter; the tokens]
    in_a_block ! a.0 (λ p. room_at update_row p) (id⊢ 𝓤 _) (λ b o e.
    regoal ! (λ p. prop (WpFn 𝓤 𝓛.H 𝓣.C 𝓣.Λ code.function (rawptr_vals p ++ []) (W.post (y p)))) e refl $
    enter ! _ _ _ _ _ $ alloc_all ! (λ l. pass_all ! refl ((tt, tt), tt) $
    sets ! (of_opd ! (get ! refl)) refl (tt, tt) $
    let G = triple_of 𝓛 g.signature (g.spec 𝓛 𝓜.mem 𝓡.returns) in
    let z : G.Ghost = ((tt, tt, tt, tt, tt), tt) in
    move ! (2 ∷ 1 ∷ []) $ join ! $ nothing ! $ move ! (1 ∷ 0 ∷ []) $ use2 𝓛 (raw (G.pre z)) (id⊢ 𝓤 _) $
    calls_at ! (framed 𝓤 𝓛.H 𝓜 (tables 𝓤 𝓛.H 𝓜 𝓡 𝓡.env)) G (met 𝓤 𝓛 𝓜 𝓡 (code.calls-c_screen::update::DeskUpdate::new 𝓡.env wired)) z (no_more !) (λ v.
    use1 𝓛 (later (some (λ (r : update_row.Denot). (‵ ftrue ⊛ ‵ (update_row.own_val r (v ∷ []))) ⊛ some (λ (ws : Lasts g.ended tt tt). ‵ (lasts g.ended tt tt ws) ⊛ raw (fact 𝓤 (r ≡ [])))))) (id⊢ 𝓤 _) $
    await ! tt $ pick ! (λ r. split ! $ split ! $ drop ! $ move ! (1 ∷ []) $ pick ! (λ ws. split ! $ drop ! $ heard ! _ (λ made.
    -- [the update; the room]
    peeks ! update_row (Is update_row) (shows 𝓛 update_row) r (v ∷ []) (λ is. let ok = ((the_row_laws.lawful 𝓛).typed r _ is).0 in lands_as ! refl refl ok $
    assigns ! (of_opd ! (get ! refl)) (through ! refl (stop !)) (init ! 1 refl ok) $
    sets ! (of_opd ! (unit_lit !)) refl (tt, tt) $
    returns ! (look_at ! 0 refl) $ free_all ! refl $ keep ! (1 ∷ 0 ∷ []) $
    use2 𝓛 (‵ (holds_update (block_ptr b o) r)) (part_in 𝓛 update_row refl full_share r b o v) $
    suffices ! _ (ends_at 𝓛 f.ended stayed c (y (block_ptr b o)) vunit tt (tt, tt) (tt, tt)) $
    fpack ! (r ≡ []) (λ _. holds_update (block_ptr b o) r) made $
    fpack ! update_row.Denot (λ t. fex (t ≡ []) (λ _. holds_update (block_ptr b o) t)) r $
    feq_i ! _ (vunit ∷ []) _ refl $ nothing ! $ nothing ! $ join ! $ nothing ! $ group ! 3 $ done !))))))))

-- `vnc_screen_write_pixels` lends the desk at its pointer to `write_pixels` for the call, and passes on what else it was given. Made by c/tools/walks.py.
use Rattle.vnc_screen.proofs.Steps.{◌≡◌, ℕ, List, [], ◌∷◌, ◌++◌, refl, vint, vptr, of_z, w8, w16, w32, w64, proved, full_share, id⊢, ftrue, fex, flft, flent, named, tables, ‵, raw, ◌⊛◌, some, later, prop, ◌$◌, ◌∵◌, !, qed, done, move, keep, drop, use1, use2, use3, split, join, fsplit, fjoin, fpick, fpack, pick, await, regoal, suffices, group, enter, of_opd, addr, stop, no_more, and_then, returns, alloc_all, pass_all, free_all, look_at, get, through, sets, lands_as, lft_new, lft_end, u8, u16, u32, u64, usize, i32, i64, yes, lends_ref, ref_back, Body, mem, uint_vals, uint_Tells, uint_Lawful, sint_Tells, sint_Lawful, shr_slice_vals, shr_slice_Tells, mut_slice_vals, mut_slice_Tells, Ptr, RawPtr, block_ptr, lies_at, in_a_block, rawptr_vals, rawptr_Tells, MutRef, plain, shr_slice_of, nothing, peeks, shows, Is, owns, types_at, calls_at, lasts, Lasts, triple_of, Stays, walk_of, stay_dropped, Goes-dropped, gave_slice, Goes-gave_slice, at_exit, ends_at, from, fld, hop, look_in_at, sub, whole, agg, get_in, feq_l, framed, WpFn}
use contract.Monad.{fact}
use denote.Steps.{heard}
use Rattle.vnc_screen.specs.Lying.{desk_row, holds, leaves}
use Rattle.std.specs.Mem.{type_size}
use Rattle.std.specs.Prelude.{◌≡◌, ◌∷◌, [], ◌^◌, pos, map, min, length, is_some}
use Rattle.screen.specs.Reading.{fault_in_rest, is_open_rest}
use Rattle.screen.specs.Viewer.{is_asking}
use Rattle.screen.specs.declared.Event.{Event}
use Rattle.screen.specs.State.{viewer_at}
use Rattle.c_screen.specs.Codes as codes
use Rattle.c_screen.specs.Calls.{Opens, Draws, DrawsRegion, Connects, Hears, Cuts, CutsInto, Closes, TellsPending, Gives, GivesHeld, Fetches, Shows, ShowsSettings, ShowsText, TakesPixels, Tells, numbers_of, of_viewer, colour_at}
use Rattle.c_screen.specs.Desk.{nothing_there, rect_of, config_of}
use Rattle.c_screen.specs.Pixels.{format_of, source_from}
use Rattle.source_pixels.specs.declared.formats.SourceFormat.TheVariants as format
use Rattle.vnc_screen.specs.contracts.vnc_screen_write_pixels as f
use Rattle.vnc_screen.proofs.vnc_screen_write_pixels.Statement.{statement}
use Rattle.vnc_screen.proofs.vnc_screen_write_pixels.Code as code
use Rattle.c_screen.specs.contracts.desk.DeskDrawByCode.write_pixels as g
use Rattle.c_screen.proofs.desk.DeskDrawByCode.write_pixels.Met.{met}

abbrev stayed : Stays f.ended.signature.params f.ended.kept
stayed = (stay_dropped _ yes, (stay_dropped _ yes, (stay_dropped _ yes, (stay_dropped _ yes, (stay_dropped _ yes, (stay_dropped _ yes, tt))))))

pub vnc_screen_write_pixels_spec : {M : Type 1} → statement M
vnc_screen_write_pixels_spec 𝓤 𝓛 𝓜 𝓡 wired =
    let c = f.clauses 𝓛 𝓜.mem 𝓡.returns in let W = walk_of 𝓛 f.ended stayed c in let 𝓣 = tables 𝓤 𝓛.H 𝓜 𝓡 𝓡.env in
    proved 𝓛 f.ended stayed c 𝓜 𝓡 (Goes-dropped 𝓛 1 (plain (λ _. RawPtr)) yes (λ κs x w. refl), (Goes-dropped 𝓛 1 (plain (λ _. i32)) yes (λ κs x w. refl), (Goes-dropped 𝓛 1 (plain (λ _. i32)) yes (λ κs x w. refl), (Goes-dropped 𝓛 1 (plain (λ _. i32)) yes (λ κs x w. refl), (Goes-dropped 𝓛 1 (plain (λ _. i32)) yes (λ κs x w. refl), (Goes-dropped 𝓛 1 (shr_slice_of (0 ∷ []) tt (plain (λ _. u32))) yes (λ κs x w. refl), tt))))))
    f.Key.name code.function (code.unfolded 𝓤 𝓛.H 𝓜 𝓡 wired)
    (λ κs. (rawptr_vals, ((λ z. vint w32 (of_z w32 z) ∷ []), ((λ z. vint w32 (of_z w32 z) ∷ []), ((λ z. vint w32 (of_z w32 z) ∷ []), ((λ z. vint w32 (of_z w32 z) ∷ []), (shr_slice_vals, tt))))))) (λ κs. (rawptr_Tells, (sint_Tells w32, (sint_Tells w32, (sint_Tells w32, (sint_Tells w32, (shr_slice_Tells (named 0) κs.0 u32, tt))))))) (λ κs qs bounds a s are.
    let y : Ptr → W.Ghost = λ p. ((κs, qs, bounds, (p, a.1), (rawptr_vals p, (vint w32 (of_z w32 a.1.0) ∷ [], (vint w32 (of_z w32 a.1.1.0) ∷ [], (vint w32 (of_z w32 a.1.1.1.0) ∷ [], (vint w32 (of_z w32 a.1.1.1.1.0) ∷ [], (shr_slice_vals a.1.1.1.1.1.0, tt))))))), s) in
    qed 𝓛 (((‵ (flft κs.0 qs.0) ⊛ ‵ ftrue) ⊛ ‵ (owns (types_at f.signature.params κs) a (y a.0).0.4)) ∷ ‵ (holds a.0 s) ∷ []) ∵ split ! $ move ! (1 ∷ []) $ fsplit ! $ drop ! $ move ! (2 ∷ []) $
    -- [what lies at the pointer; the other parameters; the tokens]
    in_a_block ! a.0 (λ p. holds p s) (id⊢ 𝓤 _) (λ b o e.
    regoal ! (λ p. prop (WpFn 𝓤 𝓛.H 𝓣.C 𝓣.Λ code.function (rawptr_vals p ++ ((vint w32 (of_z w32 a.1.0) ∷ []) ++ ((vint w32 (of_z w32 a.1.1.0) ∷ []) ++ ((vint w32 (of_z w32 a.1.1.1.0) ∷ []) ++ ((vint w32 (of_z w32 a.1.1.1.1.0) ∷ []) ++ ((shr_slice_vals a.1.1.1.1.1.0) ++ [])))))) (W.post (y p)))) e refl $
    enter ! _ _ _ _ _ $ alloc_all ! (λ l. pass_all ! refl ((tt, tt), (((sint_Lawful 𝓛 w32).typed a.1.0 _ are.1.0).0, (((sint_Lawful 𝓛 w32).typed a.1.1.0 _ are.1.1.0).0, (((sint_Lawful 𝓛 w32).typed a.1.1.1.0 _ are.1.1.1.0).0, (((sint_Lawful 𝓛 w32).typed a.1.1.1.1.0 _ are.1.1.1.1.0).0, ((tt, (tt, (record { fits = are.1.1.1.1.1.0.0.1.0 }, tt))), tt)))))) $
    sets ! (of_opd ! (get ! refl)) refl (tt, tt) $
    sets ! (addr ! (through ! refl (stop !))) refl (tt, tt) $
    lft_new ! tt (λ α. move ! (1 ∷ []) $ let κ : List ℕ = α ∷ [] in
    use1 𝓛 (later (some (λ (γ : ℕ). ‵ ((MutRef (named 0) κ desk_row).own_val (record { ref_ptr = (b, o); ghost_name = γ; now = s }) (vptr b o ∷ [])) ⊛ ‵ (flent κ (Body (mem desk_row) b o γ)))))
    (lends_ref 𝓛 desk_row (named 0) κ s b o) $ await ! tt $ pick ! (λ γ. split ! $
    -- [the loan; what the lender keeps; the token of α; the other parameters; the tokens]
    let G = triple_of 𝓛 g.signature (g.spec 𝓛 𝓜.mem 𝓡.returns) in
    let z : G.Ghost = (((κ, κs), (full_share, qs), tt, (record { ref_ptr = (b, o); ghost_name = γ; now = s }, a.1), (vptr b o ∷ [], (y a.0).0.4.1)), tt) in
    move ! (0 ∷ 3 ∷ []) $ fjoin ! $ move ! (2 ∷ 3 ∷ 0 ∷ []) $ join ! $ join ! $ nothing ! $ move ! (1 ∷ 0 ∷ []) $ use2 𝓛 (raw (G.pre z)) (id⊢ 𝓤 _) $
    calls_at ! (framed 𝓤 𝓛.H 𝓜 (tables 𝓤 𝓛.H 𝓜 𝓡 𝓡.env)) G (met 𝓤 𝓛 𝓜 𝓡 (code.calls-c_screen::desk::DeskDrawByCode::write_pixels 𝓡.env wired)) z
    (and_then ! (get ! refl) (and_then ! (get ! refl) (and_then ! (get ! refl) (and_then ! (get ! refl) (and_then ! (get ! refl) (and_then ! (get ! refl) (no_more !))))))) (λ v.
    use1 𝓛 (later (some (λ (r : i32.Denot). ((‵ (flft κ full_share) ⊛ (‵ (flft κs.0 qs.0) ⊛ ‵ ftrue)) ⊛ ‵ (i32.own_val r (v ∷ []))) ⊛ some (λ (ws : Lasts g.ended z.0.0 z.0.3). ‵ (lasts g.ended z.0.0 z.0.3 ws) ⊛ raw (fact 𝓤 (Draws (Event.Write (record { x1 = a.1.0; y1 = a.1.1.0; x2 = a.1.1.1.0; y2 = a.1.1.1.1.0 }) a.1.1.1.1.1.0.now) s ws.0 r)))))) (id⊢ 𝓤 _) $
    await ! tt $ pick ! (λ r. split ! $ split ! $ split ! $ lft_end ! tt $
    -- [α is over; the tokens; the result; what the callee left; what the lender keeps]
    move ! (3 ∷ []) $ pick ! (λ ws. split ! $ move ! (1 ∷ []) $ heard ! _ (λ so. fsplit ! $ fsplit ! $
    -- [the desk's last value; its borrow; the others' last values; α is over; the tokens; the result; what the lender keeps]
    move ! (3 ∷ 6 ∷ 0 ∷ []) $
    use3 𝓛 (later (‵ ((mem desk_row).own_at ws.0 b o))) (ref_back 𝓛 desk_row κ γ ws.0 b o) $ await ! tt $
    -- [the desk; its borrow; the others' last values; the tokens; the result]
    move ! (4 ∷ []) $ peeks ! i32 (Is i32) (shows 𝓛 i32) r (v ∷ []) (λ is. lands_as ! refl refl ((sint_Lawful 𝓛 w32).typed r _ is).0 $
    returns ! (look_at ! 0 refl) $ free_all ! refl $ keep ! (1 ∷ 4 ∷ 3 ∷ 0 ∷ []) $
    suffices ! _ (ends_at 𝓛 f.ended stayed c (y (block_ptr b o)) v r (tt, ws.1) (tt, (tt, (tt, (tt, (tt, (tt, tt))))))) $
    fpack ! (Draws (Event.Write (record { x1 = a.1.0; y1 = a.1.1.0; x2 = a.1.1.1.0; y2 = a.1.1.1.1.0 }) a.1.1.1.1.1.0.now) s ws.0 r) (λ _. holds (block_ptr b o) ws.0) so $
    fpack ! desk_row.Denot (λ t. fex (Draws (Event.Write (record { x1 = a.1.0; y1 = a.1.1.0; x2 = a.1.1.1.0; y2 = a.1.1.1.1.0 }) a.1.1.1.1.1.0.now) s t r) (λ _. holds (block_ptr b o) t)) ws.0 $
    -- [what is served; the tokens; the others' last values; the result]
    move ! (2 ∷ []) $ nothing ! $ fjoin ! $ move ! (2 ∷ 0 ∷ 3 ∷ []) $ group ! 3 $ done !))))))))))

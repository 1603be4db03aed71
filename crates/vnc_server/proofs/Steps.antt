-- What the walks cite.
pub use Rattle.std.proofs.Common.{◌≡◌, ℕ, List, [], ◌∷◌, ◌++◌, refl, w8, w16, w32, w64}
pub use Rattle.std.proofs.raw_atomic.Walks.{proved}
pub use base.Fraction.{full_share}
pub use base.Logic.{id⊢}
pub use base.Fml.{Fml, ftrue, flft, flent, fsep, fex}
pub use mir.Syntax.{named}
pub use mir.Val.{Val, vunit, vint, vptr, of_z}
pub use contract.Running.{tables}
pub use prog.Wp.{WpFn}
pub use types.Kit.{‵, raw, ◌⊛◌, some, later, prop, ◌$◌, ◌∵◌, !, qed, done, move, keep, drop, use1, use2, use3, split, join, fsplit, fjoin, fpick, fpack, feq_i, feq_l, pick, await, regoal, suffices, group}
pub use types.Run.{enter, of_opd, unit_lit, addr, init, stop, fld, hop, from, no_more, and_then, assigns, returns}
pub use types.ByLocal.{alloc_all, pass_all, free_all, look_at, get, get_in, look_in_at, through, sets, lands_as}
pub use types.SemTy.{Body}
pub use types.Tokens.{lft_new, lft_end}
pub use denote.Builtin.{u8, u16, u32, u64, usize, i32, i64}
pub use denote.Exit.{yes}
pub use denote.Laws.{Is, shows}
pub use denote.Lend.{lends_ref, ref_back}
pub use denote.Memory.{mem}
pub use denote.Plain.{uint_vals, uint_Tells, uint_Lawful}
pub use denote.RattleType.{owns}
pub use denote.RawPtr.{Ptr, RawPtr, block_ptr, lies_at, room_at, in_a_block, rawptr_vals, rawptr_Tells}
pub use denote.Ref.{MutRef, mut_vals, mut_Tells}
pub use denote.Signature.{plain, shr_slice_of, types_at}
pub use denote.Signed.{sint_Tells, sint_Lawful}
pub use denote.Slice.{shr_slice_vals, shr_slice_Tells, mut_slice_vals, mut_slice_Tells}
pub use denote.Steps.{nothing, peeks}
pub use denote.Triple.Call.{calls_at}
pub use denote.Triple.Clauses.{Lasts, lasts, at_exit}
pub use denote.Triple.Entry.{on_entry}
pub use denote.Triple.Spec.{triple_of}
pub use denote.Triple.Walked.{Stays, walk_of, stay_dropped, Goes-dropped, gave_slice, Goes-gave_slice, ends_at}
pub use denote.Triple.Table.{framed}
pub use types.Part.{agg, sub, whole}

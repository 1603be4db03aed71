-- What a walk over two lists of bands has made beside them.
use Rattle.std.proofs.Common.{◌≡◌, ◌+◌, ◌<◌, ◌&&◌, List, [], sym, ◌∙◌, ap, subst, arith, Option, Some, None}
use Rattle.std.specs.Prelude.{ℤ, ◌<ℤ◌, ◌||◌}
use Rattle.region_bands.specs.declared.Rows.{Rows}
use Rattle.region_bands.specs.Bands.{Band, Bands, Reading, first_row, nothing, reading}
use Rattle.region_rows.specs.declared.Keep.{Keep}
use Rattle.region_rows.specs.Rows.{IsRow, row_has, keeps_place}
use Rattle.region_sets.specs.declared.strips.Strip.{Strip}
use Rattle.region_sets.specs.Sets.{in_rows, has, AreBands, EndBy, IsKept}
use Rattle.region_sets.specs.Strips.{next_strip, start_of, later, first_rows_of}
use Rattle.region_sets.specs.StripLemmas.{IsStrip, strip_is, no_strip, IsStart, starts, edges_left, edges_less}
use Rattle.region_sets.specs.KeepLemmas.{BandState, state_begins, state_more, state_done, row_of_first}
use Rattle.region_sets.specs.WholeLemmas.{part, part_has, part_row}

pub record Merging (k : Keep) (whole_a whole_b a b : Reading) (now : Bands) (y : ℤ) : Type 0 where
  pub state : BandState k whole_a.bands whole_b.bands now.above y a.bands b.bands
  pub same : now ≡ record nothing { above = now.above; spare = now.spare }
  pub read_a : a ≡ reading a.bands
  pub read_b : b ≡ reading b.bands

pub merging_begins : (k : Keep) (a b : Reading) (now : Bands) (y : ℤ) (first second : Option Rows) → now ≡ nothing → AreBands a.bands → AreBands b.bands → a.left ≡ first_row a.bands → b.left ≡ first_row b.bands
    → first ≡ first_rows_of a.bands → second ≡ first_rows_of b.bands → y ≡ start_of first second → Merging k a b a b now y
merging_begins k a b now y first second none h h' e e' f f' is =
    let at : y ≡ start_of (first_rows_of a.bands) (first_rows_of b.bands) = is ∙ ap (λ u. start_of u second) f ∙ ap (start_of (first_rows_of a.bands)) f' in
    let start = starts a.bands b.bands h h' in
    let B : List Band → Type 0 = λ l. BandState k a.bands b.bands l y a.bands b.bands in
    record {
      state = subst B (sym (ap (λ (u : Bands). u.above) none)) (state_begins k a.bands b.bands y h h' (subst (λ n. IsStart n a.bands) (sym at) start.0) (subst (λ n. IsStart n b.bands) (sym at) start.1));
      same = none ∙ ap (λ (u : Bands). record nothing { above = u.above; spare = u.spare }) (sym none);
      read_a = ap (λ l. record a { left = l }) e;
      read_b = ap (λ l. record b { left = l }) e';
    }

module _ (k : Keep) (whole_a whole_b a b : Reading) (now : Bands) (y : ℤ) (h : Merging k whole_a whole_b a b now y) where
  left_a : a.left ≡ first_row a.bands
  left_a = ap (λ (u : Reading). u.left) h.read_a

  left_b : b.left ≡ first_row b.bands
  left_b = ap (λ (u : Reading). u.left) h.read_b

  pub merging_done : next_strip y (first_rows_of a.bands) (first_rows_of b.bands) ≡ None → IsKept k whole_a.bands whole_b.bands now.above
  merging_done is =
      let ends = no_strip y a.bands b.bands is in
      record { are_bands = h.state.are_bands; has = state_done k whole_a.bands whole_b.bands now.above y a.bands b.bands h.state ends.0 ends.1 }

  pub merging_row : now.row ≡ []
  merging_row = ap (λ (u : Bands). u.row) h.same

  module _ (s : Strip) (found : next_strip y (first_rows_of a.bands) (first_rows_of b.bands) ≡ Some s) where
    pub strip_there : IsStrip y a.bands b.bands s
    strip_there = strip_is y a.bands b.bands s h.state.bands_a h.state.bands_b h.state.ahead_a h.state.ahead_b found

    pub merging_after : y <ℤ s.bottom
    merging_after = strip_there.edge_a.after

    module _ (in_a in_b : Reading) (a_is : in_a ≡ record a { left = part s.in_first a.left }) (b_is : in_b ≡ record b { left = part s.in_second b.left }) where
      pub merging_row_a : IsRow in_a.left
      merging_row_a = subst IsRow (sym (ap (λ (u : Reading). u.left) a_is)) (part_row s.in_first a.left (subst IsRow (sym left_a) (row_of_first a.bands h.state.bands_a)))

      pub merging_row_b : IsRow in_b.left
      merging_row_b = subst IsRow (sym (ap (λ (u : Reading). u.left) b_is)) (part_row s.in_second b.left (subst IsRow (sym left_b) (row_of_first b.bands h.state.bands_b)))

      has_a : (x : ℤ) → row_has in_a.left x ≡ (s.in_first && row_has (first_row a.bands) x)
      has_a x = ap (λ l. row_has l x) (ap (λ (u : Reading). u.left) a_is ∙ ap (part s.in_first) left_a) ∙ part_has s.in_first (first_row a.bands) x

      has_b : (x : ℤ) → row_has in_b.left x ≡ (s.in_second && row_has (first_row b.bands) x)
      has_b x = ap (λ l. row_has l x) (ap (λ (u : Reading). u.left) b_is ∙ ap (part s.in_second) left_b) ∙ part_has s.in_second (first_row b.bands) x

      module _ (p q a' b' : Reading) (p_is : p ≡ record in_a { left = [] }) (q_is : q ≡ record in_b { left = [] }) (bottom : ℤ) (bottom_is : bottom ≡ s.bottom) (a'_is : a' ≡ reading (later bottom p.bands)) (b'_is : b' ≡ reading (later bottom q.bands)) where
        rest_a : a' ≡ reading (later s.bottom a.bands)
        rest_a = a'_is ∙ ap (λ (u : Reading). reading (later bottom u.bands)) (p_is ∙ ap (λ (u : Reading). record u { left = [] }) a_is) ∙ ap (λ n. reading (later n a.bands)) bottom_is

        rest_b : b' ≡ reading (later s.bottom b.bands)
        rest_b = b'_is ∙ ap (λ (u : Reading). reading (later bottom u.bands)) (q_is ∙ ap (λ (u : Reading). record u { left = [] }) b_is) ∙ ap (λ n. reading (later n b.bands)) bottom_is

        bands_a : a'.bands ≡ later s.bottom a.bands
        bands_a = ap (λ (u : Reading). u.bands) rest_a

        bands_b : b'.bands ≡ later s.bottom b.bands
        bands_b = ap (λ (u : Reading). u.bands) rest_b

        pub merging_fewer : edges_left bottom a'.bands + edges_left bottom b'.bands < edges_left y a.bands + edges_left y b.bands
        merging_fewer =
            let first : edges_left bottom a'.bands ≡ edges_left s.bottom (later s.bottom a.bands) = ap (edges_left bottom) bands_a ∙ ap (λ n. edges_left n (later s.bottom a.bands)) bottom_is in
            let second : edges_left bottom b'.bands ≡ edges_left s.bottom (later s.bottom b.bands) = ap (edges_left bottom) bands_b ∙ ap (λ n. edges_left n (later s.bottom b.bands)) bottom_is in
            omega (arith, first, second, edges_less y a.bands b.bands s h.state.bands_a h.state.bands_b strip_there)

        pub merging_more : (rows : Rows) (w : Bands) → rows ≡ record { top = y; bottom = s.bottom } → AreBands w.above → EndBy rows.bottom w.above
            → ((x z : ℤ) → has w.above x z ≡ (has now.above x z || (in_rows rows z && keeps_place k (row_has in_a.left x) (row_has in_b.left x)))) → w ≡ record now { above = w.above; spare = w.spare } → Merging k whole_a whole_b a' b' w bottom
        merging_more rows w rows_is are_bands ends has_is w_is =
            let state = state_more k whole_a.bands whole_b.bands now.above y a.bands b.bands s w.above rows h.state strip_there rows_is are_bands (subst (λ (r : Rows). EndBy r.bottom w.above) rows_is ends)
            (λ x z. has_is x z ∙ ap (λ t. has now.above x z || (in_rows rows z && keeps_place k t (row_has in_b.left x))) (has_a x) ∙ ap (λ t. has now.above x z || (in_rows rows z && keeps_place k (s.in_first && row_has (first_row a.bands) x) t)) (has_b x)) in
            let A : List Band → Type 0 = λ l. BandState k whole_a.bands whole_b.bands w.above s.bottom l (later s.bottom b.bands) in
            let B : List Band → Type 0 = λ l. BandState k whole_a.bands whole_b.bands w.above s.bottom a'.bands l in
            let Y : ℤ → Type 0 = λ z. BandState k whole_a.bands whole_b.bands w.above z a'.bands b'.bands in
            record {
              state = subst Y (sym bottom_is) (subst B (sym bands_b) (subst A (sym bands_a) state));
              same = w_is ∙ ap (λ (u : Bands). record u { above = w.above; spare = w.spare }) h.same;
              read_a = rest_a ∙ ap reading (sym bands_a);
              read_b = rest_b ∙ ap reading (sym bands_b);
            }

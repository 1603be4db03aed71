use Rattle.std.proofs.Common.{◌≡◌, ◌≤◌, ◌+◌, ◌%◌, ℕ, List, take, get_or, set, arith, refl, sym, subst, ◌∙◌}
use Rattle.std.proofs.lemmas.List.{get_or-replicate, length-set}
use Rattle.subrectangles.specs.Subrectangles.{times}
use Rattle.encode_hextile.proofs.Palettes.{bucket_more, bucket_few}
use Rattle.encode_hextile.proofs.palette.buckets_of.Goals as goal

pub loop-pixel-init : goal.loop-pixel-init
loop-pixel-init c = record {
  len = refl;
  counted = λ q. omega arith;
  few = λ k lt. omega (arith, get_or-replicate {A = ℕ} 251 k 0 0 lt);
}

pub loop-pixel-preserved : goal.loop-pixel-preserved
loop-pixel-preserved c =
    let bs : List ℕ = c.loop-pixel.buckets in
    let i : ℕ = c.loop-pixel.pixel-index in
    let p : ℕ = get_or c.args.pixels.now i 0 in
    let e : c.bucket_of.result ≡ p % 251 = c.bucket_of.ensures.value in
    record {
      len = length-set bs c.bucket_of.result (get_or bs c.bucket_of.result 0 + 1) ∙ c.loop-pixel.invariant.len;
      counted = λ q. subst (λ (k : ℕ). times q (take (i + 1) c.args.pixels.now) ≤ get_or (set bs k (get_or bs k 0 + 1)) (q % 251) 0) (sym e)
          (bucket_more c.args.pixels.now i bs q c.loop-pixel-test.true (omega (arith, e, c.bucket_of.ensures.inside, c.loop-pixel.invariant.len)) (c.loop-pixel.invariant.counted q));
      few = λ k lt. bucket_few bs c.bucket_of.result i k (omega (arith, c.bucket_of.ensures.inside, c.loop-pixel.invariant.len)) c.loop-pixel.invariant.few c.bucket_of.ensures.inside lt;
    }

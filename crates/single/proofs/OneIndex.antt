-- The same index everywhere is how a block of one value is written.
use mathlib.Core.Path.{◌≡◌, sym, ap}
use mathlib.Core.Bool.{Bool, false}
use lib.Ieee.{Float, nan}
use Rattle.index_list.specs.Layout.{packed}
use Rattle.index_list.proofs.Laws.{filled_same}
use Rattle.block.specs.Samples.{pixel_at, per_pixel}
use Rattle.block.proofs.Fill.{get_d_tabulate}
use Rattle.palette.specs.declared.Kind.{Kind}
use Rattle.coding.specs.Coding.{rule_of, ended, ends_in, coded}
use Rattle.single.specs.Single.{around}

pub around_written : (kind : Kind) (v : Float) (snorm : Bool) → (around kind v snorm).bytes ≡ (coded kind (per_pixel (λ i. v)) snorm false (record { 0 = v; 1 = v })).bytes
unfolding around ended
around_written kind v snorm =
    let e = ends_in kind snorm (record { 0 = v; 1 = v }) in
    ap (packed e.c0 e.c1)
    (filled_same (λ i. (rule_of kind e v).index) (λ i. (rule_of kind e (pixel_at (per_pixel (λ i. v)) i)).index) 16
    (λ k h. sym (ap (λ (x : Float). (rule_of kind e x).index) (get_d_tabulate (λ i. v) nan h))))

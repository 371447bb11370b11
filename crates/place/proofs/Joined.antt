-- Pieces of one length, joined: how long they are, what stands in a piece, and one piece more. For the blocks of a row, and the rows of a tile.
use mathlib.Core.Path.{◌≡◌, refl, sym, ap, ◌∙◌}
use mathlib.Core.List.{List, ◌++◌, append_assoc, append-nil}
use mathlib.Core.Logic.{⊎_elim}
use Prim.Native.Nat.{ℕ, zero, suc, ◌+◌, ◌*◌, ◌-◌, ◌<◌, ◌≤◌}
use native.Mathlib.Nat.{add-zero, zero-mul, suc-mul, eq-or-lt_of_le}
use native.Mathlib.Numerals.{add-one}
use native.Mathlib.Omega.{arith}
use lib.ListN.{length, take, drop, length-append, length-drop, drop_of_length-le}
use lib.Seq.{take_all, take-length, take_at, drop_at, drop-drop, take-append-le, drop-append-le, drop-append-add}
use borrow.Rule.Slice.PartMut.{put_mid}
use Rattle.place.specs.Place.{along, block_at, joined, row_bytes, all_bytes}
use Rattle.place.proofs.Places.{fits, block_place}

-- m bytes that lie in the first of two lists
pub in_first : (a b : List ℕ) (m at : ℕ) → at + m ≤ length a → take m (drop at (a ++ b)) ≡ take m (drop at a)
in_first a b m at h =
    let p : at ≤ length a = omega arith in
    let q : m ≤ length (drop at a) = simp length-drop (omega arith) in
    ap (take m) (drop-append-le at a b p) ∙ take-append-le m (drop at a) b q

pub joined_ext : (piece other : ℕ → List ℕ) (n : ℕ) → ((k : ℕ) → k < n → piece k ≡ other k) → joined piece n ≡ joined other n
unfolding joined
joined_ext piece other zero same = refl
joined_ext piece other (suc n) same = rw (joined_ext piece other n (λ k h. same k (omega arith)), same n (omega arith))

pub all_ext : (block other : ℕ → ℕ → List ℕ) (width height : ℕ) → ((column row : ℕ) → column < along width → row < along height → block column row ≡ other column row)
    → all_bytes block width height ≡ all_bytes other width height
all_ext block other width height same = joined_ext _ _ (along height) (λ row k. joined_ext _ _ (along width) (λ column h. same column row h k))

module _ (piece : ℕ → List ℕ) (size : ℕ) (each : (k : ℕ) → length (piece k) ≡ size) where
  pub joined_length : (n : ℕ) → length (joined piece n) ≡ n * size
  unfolding joined
  joined_length zero = sym (zero-mul size)
  joined_length (suc n) = simp (length-append, joined_length n, each n) (omega (arith, suc-mul n size))

  -- m bytes within piece k
  pub joined_at : (n k m at : ℕ) → k < n → at + m ≤ size → take m (drop (k * size + at) (joined piece n)) ≡ take m (drop at (piece k))
  unfolding joined
  joined_at zero k m at h r = absurd (omega arith)
  joined_at (suc n) k m at h r =
      let q : k ≤ n = omega arith in
      ⊎_elim
      (λ (e : k ≡ n). rw (e, ← joined_length n, drop-append-add (joined piece n) (piece n) at) refl)
      (λ (l : k < n). in_first (joined piece n) (piece n) m (k * size + at) (omega (arith, joined_length n, fits k n size l)) ∙ joined_at n k m at l r)
      (eq-or-lt_of_le q)

-- a copy as long as what it is copied to
pub all_copied : (new old : List ℕ) → length old ≤ length new → take (length new) new ++ drop (length new) old ≡ new
all_copied new old h = rw (take-length new, drop_of_length-le old h) (append-nil new)

-- ---- a loop that puts piece after piece into its place: k are there, and the rest is as it was
pub record Grown (piece : ℕ → List ℕ) (size : ℕ) (old out : List ℕ) (k : ℕ) : Type 0 where
  pub same : out ≡ joined piece k ++ drop (k * size) old
  pub long : length out ≡ length old

module _ {piece : ℕ → List ℕ} {size : ℕ} {old : List ℕ} where
  pub grown_start : Grown piece size old old 0
  unfolding joined
  grown_start = record { same = rw (zero-mul size); long = refl }

  -- where the next pieces go, all is as it was
  pub grown_rest : {out : List ℕ} {k : ℕ} → ((k : ℕ) → length (piece k) ≡ size) → Grown piece size old out k → (at : ℕ) → at ≡ k * size → drop at out ≡ drop at old
  grown_rest {out} {k} each g at a = rw (a, g.same) (drop_at (joined piece k) (drop (k * size) old) (k * size) (joined_length piece size each k))

  -- `at` is where the next piece goes; its place was lent, and came back as `new`
  pub grown_step : {out : List ℕ} {k : ℕ} → ((k : ℕ) → length (piece k) ≡ size) → Grown piece size old out k → (at m : ℕ) (new : List ℕ)
      → at ≡ k * size → m ≡ size → new ≡ piece k → at + size ≤ length old → Grown piece size old (put_mid at m out new) (k + 1)
  unfolding joined
  grown_step {out} {k} each g at m new a e n room =
      let done = joined piece k in
      let long : length done ≡ k * size = joined_length piece size each k in
      let made : put_mid at m out new ≡ joined piece (k + 1) ++ drop ((k + 1) * size) old =
      rw (add-one k, suc-mul k size, ← n, g.same, a, e, take_at done (drop (k * size) old) (k * size) long, drop_at done (drop (k * size) old) (k * size) long, drop-drop size (k * size) old)
      (sym (append_assoc done new (drop (k * size + size) old))) in
      record { same = made; long = rw made (simp (length-append, length-drop, joined_length piece size each) (omega (arith, a, suc-mul k size, room))) }

module _ (block : ℕ → ℕ → List ℕ) (size width : ℕ) (each : (column row : ℕ) → length (block column row) ≡ size) where
  pub row_length : (row : ℕ) → length (row_bytes block width row) ≡ along width * size
  row_length row = joined_length (λ column. block column row) size (λ column. each column row) (along width)

  pub all_length : (height : ℕ) → length (all_bytes block width height) ≡ along height * (along width * size)
  all_length height = joined_length (row_bytes block width) (along width * size) row_length (along height)

  -- Each block stands at its place.
  pub block_stands : (height column row : ℕ) → column < along width → row < along height
      → take size (drop (block_at size width column row) (all_bytes block width height)) ≡ block column row
  block_stands height column row h k =
      let place : block_at size width column row ≡ row * (along width * size) + (column * size + 0) = rw (block_place size width column row, add-zero (column * size)) in
      rw place
      (joined_at (row_bytes block width) (along width * size) row_length (along height) row size (column * size + 0) k (omega (arith, fits column (along width) size h))
      ∙ joined_at (λ c. block c row) size (λ c. each c row) (along width) column size 0 h (omega arith)
      ∙ take_all size (block column row) (omega (arith, each column row)))

-- The order of floats. `lt` is a strict weak order off `nan`: it is irreflexive and transitive on every Float, and where x < z, any y that is no NaN has x < y or y < z.
-- `le` is then `lt` the other way round, denied. What else is wanted of the two follows from these by cases on Bool. Nothing here asks that a value fits a format.
-- A fact is an equation with true or false, as a test of the code gives it.
use Rattle.std.proofs.Common.{◌≡◌, ℕ, ◌*◌, Bool, true, false, not, T, eqb, ◌⊎◌, sym, refl, ap, ◌∙◌, inl, inr, ⊎_elim, true≢false}
use lib.Ieee.{Float, nan, inf, fin, up, down, level, lt, le, eq, ne, is_nan}
use lib.Ieee.Fits.{down_pos, and_i}
use lib.Dec.{eqb_refl}
use lib.Ieee.Bits.{is_true}
use Rattle.floats.proofs.Tests.{so, clash, either, iff}
use Rattle.floats.proofs.Fractions.{below_trans, below_cotrans, below_irrefl, le_plain, le_flip, le_mix, le_over}

-- ---- `lt`, on every Float
pub lt_irrefl : (x : Float) → lt x x ≡ false
unfolding lt
lt_irrefl nan = refl
lt_irrefl (inf true) = refl
lt_irrefl (inf false) = refl
lt_irrefl (fin s m e) = iff _ false (below_irrefl s (m * up e * down e)) (λ b. absurd b)

t_trans : (x y z : Float) → T (lt x y) → T (lt y z) → T (lt x z)
unfolding lt
t_trans nan y z h k = absurd h
t_trans (inf s) nan z h k = absurd h
t_trans (inf true) (inf true) z h k = absurd h
t_trans (inf true) (inf false) z h k = no z k
  where
    no : (z : Float) → T (lt (inf false) z) → T (lt (inf true) z)
    no nan k = absurd k
    no (inf true) k = absurd k
    no (inf false) k = absurd k
    no (fin u n d) k = absurd k
t_trans (inf false) (inf t) z h k = absurd h
t_trans (inf false) (fin t n d) z h k = absurd h
t_trans (inf true) (fin t n d) nan h k = absurd k
t_trans (inf true) (fin t n d) (inf true) h k = absurd k
t_trans (inf true) (fin t n d) (inf false) h k = tt
t_trans (inf true) (fin t n d) (fin u o f) h k = tt
t_trans (fin s m e) nan z h k = absurd h
t_trans (fin s m e) (inf true) z h k = absurd h
t_trans (fin s m e) (inf false) nan h k = absurd k
t_trans (fin s m e) (inf false) (inf u) h k = absurd k
t_trans (fin s m e) (inf false) (fin u o f) h k = absurd k
t_trans (fin s m e) (fin t n d) nan h k = absurd k
t_trans (fin s m e) (fin t n d) (inf u) h k = k
t_trans (fin s m e) (fin t n d) (fin u o f) h k = below_trans (m * up e) (down e) (n * up d) (down d) (o * up f) (down f) (down_pos e) (down_pos d) (down_pos f) s t u h k

t_cotrans : (x y z : Float) → is_nan y ≡ false → T (lt x z) → T (lt x y) ⊎ T (lt y z)
unfolding lt is_nan
t_cotrans nan y z n h = absurd h
t_cotrans (inf s) nan z n h = absurd (true≢false n)
t_cotrans (inf true) (inf true) nan n h = absurd h
t_cotrans (inf true) (inf true) (inf u) n h = inr h
t_cotrans (inf true) (inf true) (fin u o f) n h = inr tt
t_cotrans (inf true) (inf false) z n h = inl tt
t_cotrans (inf true) (fin t m d) z n h = inl tt
t_cotrans (inf false) (inf t) nan n h = absurd h
t_cotrans (inf false) (inf t) (inf u) n h = absurd h
t_cotrans (inf false) (inf t) (fin u o f) n h = absurd h
t_cotrans (inf false) (fin t m d) nan n h = absurd h
t_cotrans (inf false) (fin t m d) (inf u) n h = absurd h
t_cotrans (inf false) (fin t m d) (fin u o f) n h = absurd h
t_cotrans (fin s m e) nan z n h = absurd (true≢false n)
t_cotrans (fin s m e) (inf true) nan n h = absurd h
t_cotrans (fin s m e) (inf true) (inf u) n h = inr h
t_cotrans (fin s m e) (inf true) (fin u o f) n h = inr tt
t_cotrans (fin s m e) (inf false) z n h = inl tt
t_cotrans (fin s m e) (fin t k d) nan n h = absurd h
t_cotrans (fin s m e) (fin t k d) (inf u) n h = inr h
t_cotrans (fin s m e) (fin t k d) (fin u o f) n h = below_cotrans (m * up e) (down e) (k * up d) (down d) (o * up f) (down f) (down_pos e) (down_pos d) (down_pos f) s t u h

pub lt_trans : (x y z : Float) → lt x y ≡ true → lt y z ≡ true → lt x z ≡ true
lt_trans x y z h k = is_true _ (t_trans x y z (so h) (so k))

pub lt_asym : (x y : Float) → lt x y ≡ true → lt y x ≡ false
lt_asym x y h = ⊎_elim (λ k. clash (lt_trans x y x h k) (lt_irrefl x)) (λ k. k) (either (lt y x))

pub lt_cotrans : (x y z : Float) → is_nan y ≡ false → lt x z ≡ true → (lt x y ≡ true) ⊎ (lt y z ≡ true)
lt_cotrans x y z n h = ⊎_elim (λ t. inl (is_true _ t)) (λ t. inr (is_true _ t)) (t_cotrans x y z n (so h))

pub lt_left : (x y : Float) → lt x y ≡ true → is_nan x ≡ false
unfolding lt is_nan
lt_left nan y h = sym h
lt_left (inf s) y h = refl
lt_left (fin s m e) y h = refl

pub lt_right : (x y : Float) → lt x y ≡ true → is_nan y ≡ false
unfolding lt is_nan
lt_right nan y h = clash h refl
lt_right (inf s) nan h = clash h refl
lt_right (inf s) (inf t) h = refl
lt_right (inf s) (fin t n d) h = refl
lt_right (fin s m e) nan h = clash h refl
lt_right (fin s m e) (inf t) h = refl
lt_right (fin s m e) (fin t n d) h = refl

-- ---- `le` off `nan`: y is not below x
pub le_is : (x y : Float) → is_nan x ≡ false → is_nan y ≡ false → le x y ≡ not (lt y x)
unfolding le lt is_nan
le_is nan y p q = clash refl p
le_is (inf s) nan p q = clash refl q
le_is (inf true) (inf true) p q = refl
le_is (inf true) (inf false) p q = refl
le_is (inf false) (inf true) p q = refl
le_is (inf false) (inf false) p q = refl
le_is (inf true) (fin t n d) p q = refl
le_is (inf false) (fin t n d) p q = refl
le_is (fin s m e) nan p q = clash refl q
le_is (fin s m e) (inf true) p q = refl
le_is (fin s m e) (inf false) p q = refl
le_is (fin false m e) (fin false n d) p q = le_plain (m * up e * down d) (n * up d * down e)
le_is (fin false m e) (fin true n d) p q = le_mix (m * up e * down d) (n * up d * down e)
le_is (fin true m e) (fin false n d) p q = le_over (m * up e * down d) (n * up d * down e)
le_is (fin true m e) (fin true n d) p q = le_flip (m * up e * down d) (n * up d * down e)

-- ---- what follows of `le`
pub le_left : (x y : Float) → le x y ≡ true → is_nan x ≡ false
unfolding le lt is_nan
le_left nan y h = sym h
le_left (inf s) y h = refl
le_left (fin s m e) y h = refl

pub le_right : (x y : Float) → le x y ≡ true → is_nan y ≡ false
unfolding le lt is_nan
le_right nan y h = clash h refl
le_right (inf s) nan h = clash h refl
le_right (inf s) (inf t) h = refl
le_right (inf s) (fin t n d) h = refl
le_right (fin s m e) nan h = clash h refl
le_right (fin s m e) (inf t) h = refl
le_right (fin s m e) (fin t n d) h = refl

-- y below x, or x at most y
pub le_of_not : (x y : Float) → is_nan x ≡ false → is_nan y ≡ false → lt y x ≡ false → le x y ≡ true
le_of_not x y p q h = le_is x y p q ∙ ap not h

pub not_of_le : (x y : Float) → le x y ≡ true → lt y x ≡ false
not_of_le x y h = ⊎_elim (λ k. clash h (le_is x y (le_left x y h) (le_right x y h) ∙ ap not k)) (λ k. k) (either (lt y x))

pub lt_of_not : (x y : Float) → is_nan x ≡ false → is_nan y ≡ false → le y x ≡ false → lt x y ≡ true
lt_of_not x y p q h = ⊎_elim (λ k. k) (λ k. clash (le_of_not y x q p k) h) (either (lt x y))

pub le_of_lt : (x y : Float) → lt x y ≡ true → le x y ≡ true
le_of_lt x y h = le_of_not x y (lt_left x y h) (lt_right x y h) (lt_asym x y h)

pub le_refl : (x : Float) → is_nan x ≡ false → le x x ≡ true
le_refl x p = le_of_not x x p p (lt_irrefl x)

pub le_total : (x y : Float) → is_nan x ≡ false → is_nan y ≡ false → (le x y ≡ true) ⊎ (lt y x ≡ true)
le_total x y p q = ⊎_elim inr (λ k. inl (le_of_not x y p q k)) (either (lt y x))

pub lt_le_trans : (x y z : Float) → lt x y ≡ true → le y z ≡ true → lt x z ≡ true
lt_le_trans x y z h k = ⊎_elim (λ a. a) (λ a. clash a (not_of_le y z k)) (lt_cotrans x z y (le_right y z k) h)

pub le_lt_trans : (x y z : Float) → le x y ≡ true → lt y z ≡ true → lt x z ≡ true
le_lt_trans x y z h k = ⊎_elim (λ a. clash a (not_of_le x y h)) (λ a. a) (lt_cotrans y x z (le_left x y h) k)

pub le_trans : (x y z : Float) → le x y ≡ true → le y z ≡ true → le x z ≡ true
le_trans x y z h k =
    le_of_not x z (le_left x y h) (le_right y z k)
    (⊎_elim (λ a. clash (le_lt_trans y z x k a) (not_of_le x y h)) (λ a. a) (either (lt z x)))

-- ---- a NaN is what differs from itself
pub ne_self : (x : Float) → ne x x ≡ is_nan x
unfolding ne eq is_nan
ne_self nan = refl
ne_self (inf true) = refl
ne_self (inf false) = refl
ne_self (fin s m e) = ap not (is_true (level s (m * up e * down e) s (m * up e * down e)) (same s (m * up e * down e)))
  where
    same : (s : Bool) (n : ℕ) → T (level s n s n)
    same true n = and_i (eqb n n) true (eqb_refl n) tt
    same false n = and_i (eqb n n) true (eqb_refl n) tt

pub is_nan_lem : (x : Float) → is_nan x ≡ true → x ≡ nan
unfolding is_nan
is_nan_lem nan h = refl
is_nan_lem (inf s) h = clash h refl
is_nan_lem (fin s m e) h = clash h refl

-- Signed bytes: their order, which for the bytes of levels is the levels' order.
use Rattle.std.proofs.Common.{◌≡◌, ℕ, ◌+◌, ◌-◌, ◌%◌, ◌<◌, ◌≤◌, Bool, true, false, cond, not, T, ltb, pos, negsuc, sym, ◌∙◌, arith, ltb→lt, lt→ltb, nltb→le, ltb-true, le-ltb, lt-ltb}
use lib.Signed.{lt_z}
use Rattle.floats.proofs.Tests.{iff}
use Rattle.values.specs.Values.{steps, from_norm, level_byte, signed_of, byte_below}

-- the test b < 128 with what it says, either way
data Half (b : ℕ) : Bool → Type 0 where
  low : b < 128 → Half b true
  high : 128 ≤ b → Half b false

half : (b : ℕ) → Half b (ltb b 128)
half b = go (ltb b 128) (ltb→lt b 128) (nltb→le b 128)
  where
    go : (t : Bool) → (T t → b < 128) → (T (not t) → 128 ≤ b) → Half b t
    go true k l = low (k tt)
    go false k l = high (l tt)

same_tests : (a b c d : ℕ) → (a < b → c < d) → (c < d → a < b) → ltb a b ≡ ltb c d
same_tests a b c d f g = iff _ _ (λ t. lt→ltb c d (f (ltb→lt a b t))) (λ t. lt→ltb a b (g (ltb→lt c d t)))

-- signed order is that of the bytes moved by 128
pub signed_order : (b c : ℕ) → b < 256 → c < 256 → lt_z (signed_of b) (signed_of c) ≡ ltb ((b + 128) % 256) ((c + 128) % 256)
signed_order b c B C = go (ltb b 128) (half b) (ltb c 128) (half c)
  where
    go : (t : Bool) → Half b t → (u : Bool) → Half c u → lt_z (cond t (pos b) (negsuc (255 - b))) (cond u (pos c) (negsuc (255 - c))) ≡ ltb ((b + 128) % 256) ((c + 128) % 256)
    go true (low h) true (low k) = same_tests b c ((b + 128) % 256) ((c + 128) % 256) (λ x. omega arith) (λ x. omega arith)
    go true (low h) false (high k) = sym (le-ltb ((b + 128) % 256) ((c + 128) % 256) (omega arith))
    go false (high h) true (low k) = sym (lt-ltb ((b + 128) % 256) ((c + 128) % 256) (omega arith))
    go false (high h) false (high k) = same_tests (255 - c) (255 - b) ((b + 128) % 256) ((c + 128) % 256) (λ x. omega arith) (λ x. omega arith)

-- the bytes of two levels are in the levels' order
pub level_order : (snorm : Bool) (m n : ℕ) → m < n → n ≤ steps snorm → byte_below (level_byte m snorm) (level_byte n snorm) snorm ≡ true
level_order true m n h k = signed_order (from_norm m) (from_norm n) (omega arith) (omega arith) ∙ lt-ltb ((from_norm m + 128) % 256) ((from_norm n + 128) % 256) (omega arith)
level_order false m n h k = lt-ltb m n h

-- of two bytes not each is below the other
ltb_asym : (a b : ℕ) → ltb a b ≡ true → ltb b a ≡ false
ltb_asym a b h = le-ltb b a (omega (arith, ltb-true a b h))

pub byte_below_asym : (snorm : Bool) (b c : ℕ) → b < 256 → c < 256 → byte_below b c snorm ≡ true → byte_below c b snorm ≡ false
byte_below_asym true b c B C h = signed_order c b C B ∙ ltb_asym ((b + 128) % 256) ((c + 128) % 256) (sym (signed_order b c B C) ∙ h)
byte_below_asym false b c B C h = ltb_asym b c h

-- Once the checks of a call on two channels passed, BC4's own checks of each half do.
use mathlib.Core.Path.{◌≡◌, ap}
use mathlib.Core.Bool.{not, false}
use mathlib.Core.List.{List}
use Prim.Native.Nat.{ℕ}
use native.Mathlib.Omega.{arith}
use lib.ListN.{length, length-take, length-drop}
use lib.Ieee.{Float}
use borrow.Author.Tests.{eq-eqb}
use Rattle.options.specs.declared.Options.{Options}
use Rattle.place.specs.Place.{bc4_size, bc5_size}
use Rattle.std.specs.declared.result.Result.TheVariants.{Ok}
use Rattle.refusal.specs.Refusals.{first_of, count_check, nan_check, decode_checks as one_decode_checks, encode_checks as one_encode_checks, error_checks as one_error_checks, resend_checks as one_resend_checks}
use Rattle.refusal.proofs.Firsts.{first_clear, clear_passed, same_of}
use Rattle.bc5.specs.Checks.{encode_checks, decode_checks, error_checks, resend_checks}
use Rattle.bc5.specs.Calls.{first_half, second_half}

abbrev Eight : List ℕ → Type 0
Eight half = length half ≡ bc4_size

halves_eight : (encoded : List ℕ) → length encoded ≡ bc5_size → Eight (first_half encoded) × Eight (second_half encoded)
halves_eight encoded long = (simp length-take (omega arith), simp (length-take, length-drop) (omega arith))

-- ---- one channel
one_decode : (half : List ℕ) → Eight half → first_of (one_decode_checks half) ≡ Ok tt
one_decode half long = clear_passed (one_decode_checks half) (ap not (eq-eqb _ _ long), tt)

module _ (s : List Float) (count : (count_check s 16).applies ≡ false) (real : (nan_check s).applies ≡ false) where
  one_encode : first_of (one_encode_checks s) ≡ Ok tt
  one_encode = clear_passed (one_encode_checks s) (count, (real, tt))

  one_error : (half : List ℕ) → Eight half → first_of (one_error_checks s half) ≡ Ok tt
  one_error half long = clear_passed (one_error_checks s half) (count, (ap not (eq-eqb _ _ long), (real, tt)))

  one_resend : (half : List ℕ) → Eight half → (o : Options) → o.dither ≡ false → first_of (one_resend_checks s half o) ≡ Ok tt
  one_resend half long o plain = clear_passed (one_resend_checks s half o) (count, (ap not (eq-eqb _ _ long), (plain, (real, tt))))

-- ---- both, by call
pub decode_each : (encoded : List ℕ) → first_of (decode_checks encoded) ≡ Ok tt
    → (first_of (one_decode_checks (first_half encoded)) ≡ Ok tt) × (first_of (one_decode_checks (second_half encoded)) ≡ Ok tt)
decode_each encoded passed =
    let eight = halves_eight encoded (same_of _ _ (first_clear (decode_checks encoded) passed).0) in
    (one_decode (first_half encoded) eight.0, one_decode (second_half encoded) eight.1)

module _ (first second : List Float) where
  pub encode_each : first_of (encode_checks first second) ≡ Ok tt → (first_of (one_encode_checks first) ≡ Ok tt) × (first_of (one_encode_checks second) ≡ Ok tt)
  encode_each passed =
      let c = first_clear (encode_checks first second) passed in
      (one_encode first c.0 c.1.1.0, one_encode second c.1.0 c.1.1.1.0)

  -- and the other way round
  pub encode_both : first_of (one_encode_checks first) ≡ Ok tt → first_of (one_encode_checks second) ≡ Ok tt → first_of (encode_checks first second) ≡ Ok tt
  encode_both p q =
      let c = first_clear (one_encode_checks first) p in
      let d = first_clear (one_encode_checks second) q in
      clear_passed (encode_checks first second) (c.0, (d.0, (c.1.0, (d.1.0, tt))))

  pub error_each : (encoded : List ℕ) → first_of (error_checks first second encoded) ≡ Ok tt
      → (first_of (one_error_checks first (first_half encoded)) ≡ Ok tt) × (first_of (one_error_checks second (second_half encoded)) ≡ Ok tt)
  error_each encoded passed =
      let c = first_clear (error_checks first second encoded) passed in
      let eight = halves_eight encoded (same_of _ _ c.1.1.0) in
      (one_error first c.0 c.1.1.1.0 (first_half encoded) eight.0, one_error second c.1.0 c.1.1.1.1.0 (second_half encoded) eight.1)

  pub resend_each : (held : List ℕ) (o : Options) → first_of (resend_checks first second held o) ≡ Ok tt
      → (first_of (one_resend_checks first (first_half held) o) ≡ Ok tt) × (first_of (one_resend_checks second (second_half held) o) ≡ Ok tt)
  resend_each held o passed =
      let c = first_clear (resend_checks first second held o) passed in
      let eight = halves_eight held (same_of _ _ c.1.1.0) in
      let plain = c.1.1.1.0 in
      (one_resend first c.0 c.1.1.1.1.0 (first_half held) eight.0 o plain, one_resend second c.1.0 c.1.1.1.1.1.0 (second_half held) eight.1 o plain)

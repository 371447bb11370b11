-- Document 01, "Values worked by hand", as one statement.
use Rattle.std.specs.Prelude.{◌≡◌, List, [], ◌∷◌, true, false, ◌⊎◌, ℕ, ◌<◌, drop, Float}
use Rattle.std.specs.Float.{nan}
use Rattle.floats.specs.Arithmetic.{f0, f1}
use Rattle.values.specs.Values.{from_norm}
use Rattle.index_list.specs.Indexes.{set_at, filled_to}
use Rattle.index_list.specs.Layout.{packed, bytes_of}
use Rattle.block.specs.Samples.{pixel_at, per_pixel}
use Rattle.block.specs.Block.{bc4_min_value, min_max_with_threshold}
use Rattle.end_points.specs.declared.EndPoints.{EndPoints}
use Rattle.end_points.specs.EndPoints.{inter6}
use Rattle.options.specs.declared.Options.{Options}
use Rattle.encode.specs.Encoder.{searches, compressed}

-- the endpoint bytes are c0 and c1
abbrev pub Bytes : EndPoints → ℕ → ℕ → Type 0
Bytes e c0 c1 = (e.c0 ≡ c0) × (e.c1 ≡ c1)

-- the six bytes of an index list, as they stand in a block
abbrev pub index_bytes : ℕ → List ℕ
index_bytes d = drop 2 (bytes_of (packed 0 0 d))

pub record WorkedValues : Type 0 where
  -- 1: endpoint byte from 0, 127, 254
  pub value_1 : (from_norm 0 ≡ 129) × (from_norm 127 ≡ 0) × (from_norm 254 ≡ 127)
  -- 2: unsigned six-value (0,0)
  pub value_2 : Bytes (inter6 f0 f0 false) 1 0
  -- 3: unsigned (1,1)
  pub value_3 : Bytes (inter6 f1 f1 false) 255 254
  -- 4: signed (0,0)
  pub value_4 : Bytes (inter6 f0 f0 true) 0x82 0x81
  -- 5: signed (1,1)
  pub value_5 : Bytes (inter6 f1 f1 true) 0x7f 0x7e
  -- 6: unsigned (NaN,NaN)
  pub value_6 : Bytes (inter6 nan nan false) 255 0
  -- 7: index 5 at pixel 2, rest 0
  pub value_7 : index_bytes (set_at 0 2 5) ≡ 0x40 ∷ 0x01 ∷ 0 ∷ 0 ∷ 0 ∷ 0 ∷ []
  -- 8: all indexes 7
  pub value_8 : index_bytes (filled_to (λ i. 7) 16) ≡ 0xff ∷ 0xff ∷ 0xff ∷ 0xff ∷ 0xff ∷ 0xff ∷ []
  -- 9: all 0, unsigned, no search
  pub value_9 : (o : Options) → o.snorm ≡ false → searches o ≡ false → bytes_of (compressed (per_pixel (λ i. f0)) o) ≡ 0 ∷ 0 ∷ 0 ∷ 0 ∷ 0 ∷ 0 ∷ 0 ∷ 0 ∷ []
  -- 10: all 1, unsigned, no search
  pub value_10 : (o : Options) → o.snorm ≡ false → searches o ≡ false → bytes_of (compressed (per_pixel (λ i. f1)) o) ≡ 0xff ∷ 0 ∷ 0 ∷ 0 ∷ 0 ∷ 0 ∷ 0 ∷ 0 ∷ []
  -- 11: all 0, signed
  pub value_11 : (o : Options) → o.snorm ≡ true → bytes_of (compressed (per_pixel (λ i. f0)) o) ≡ 0x81 ∷ 0x81 ∷ 0 ∷ 0 ∷ 0 ∷ 0 ∷ 0 ∷ 0 ∷ []
  -- 12: only 0.0 and 1.0 present, both
  pub value_12 : (b : List Float) → ((i : ℕ) → i < 16 → (pixel_at b i ≡ f0) ⊎ (pixel_at b i ≡ f1)) → min_max_with_threshold b bc4_min_value ≡ record { 0 = f1; 1 = f0 }

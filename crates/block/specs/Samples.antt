-- Sixteen samples as a list, pixel 0 first.
use Rattle.std.specs.Prelude.{List, [], ◌∷◌, ℕ, zero, suc, get_or, Float}
use Rattle.std.specs.Float.{nan}

-- the sample of pixel i
abbrev pub pixel_at : List Float → ℕ → Float
pixel_at b i = get_or b i nan

-- f at i, i + 1, .., n in all
unfoldable pub tabulate : {A : Type 0} → (ℕ → A) → ℕ → ℕ → List A
tabulate f i zero = []
tabulate f i (suc n) = f i ∷ tabulate f (suc i) n

-- one for each pixel
abbrev pub per_pixel : {A : Type 0} → (ℕ → A) → List A
per_pixel f = tabulate f 0 16

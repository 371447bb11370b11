-- Document 02, 3/12: which conditions each call on two channels looks at, and in which order. They are those of one channel, with encoded lengths doubled;
-- 2 and 7 are looked for in the first channel and then in the second, and say which.
use Rattle.std.specs.Prelude.{◌≡◌, true, List, [], ◌∷◌, ◌++◌, ℕ, ◌*◌, ◌<◌, length, Float}
use Rattle.options.specs.declared.Options.{Options}
use Rattle.refusal.specs.declared.Refusal.TheVariants.{EncodedLength, OutputLength, DitheredResend, NoSuchBlock, InChannel}
use Rattle.refusal.specs.declared.Channel.TheVariants.{First, Second}
use Rattle.refusal.specs.declared.Fault.TheVariants.{Count, Nan, TileNan}
use Rattle.demands.specs.Exactly.{Condition, When, WhenUnequal}
use Rattle.demands.specs.Conditions.{Missing, SizeRefuses, WhenNanSaid, WhenTileNanSaid}

-- ---- 2 and 7
abbrev pub BothCounts : List Float → List Float → ℕ → List Condition
BothCounts first second n = WhenUnequal (InChannel (Count First)) (length first) n ∷ WhenUnequal (InChannel (Count Second)) (length second) n ∷ []

-- the lowest index of the channel that is named
abbrev pub BothReal : List Float → List Float → List Condition
BothReal first second = WhenNanSaid (λ i. InChannel (Nan First i)) first ∷ WhenNanSaid (λ i. InChannel (Nan Second i)) second ∷ []

abbrev pub BothTilesReal : List Float → List Float → ℕ → ℕ → List Condition
BothTilesReal first second width height =
    WhenTileNanSaid (λ spot. InChannel (TileNan First spot)) first width height ∷ WhenTileNanSaid (λ spot. InChannel (TileNan Second spot)) second width height ∷ []

-- ---- encode: 2, 7
abbrev pub PairEncodeRefuses : List Float → List Float → List Condition
PairEncodeRefuses first second = BothCounts first second 16 ++ BothReal first second

-- decode: 3
abbrev pub PairDecodeRefuses : List ℕ → List Condition
PairDecodeRefuses encoded = WhenUnequal EncodedLength (length encoded) 16 ∷ []

-- block error: 2, 3, 7
abbrev pub PairErrorRefuses : List Float → List Float → List ℕ → List Condition
PairErrorRefuses first second encoded = BothCounts first second 16 ++ WhenUnequal EncodedLength (length encoded) 16 ∷ BothReal first second

-- resend: 2, 3, 5, 7
abbrev pub PairResendRefuses : List Float → List Float → List ℕ → Options → List Condition
PairResendRefuses first second held o =
    BothCounts first second 16 ++ WhenUnequal EncodedLength (length held) 16 ∷ When DitheredResend (o.dither ≡ true) ∷ BothReal first second

-- encode tile: 1, 9, 10, 2, 4, 7
abbrev pub PairTileRefuses : List Float → List Float → ℕ → ℕ → List ℕ → List Condition
PairTileRefuses first second width height out =
    SizeRefuses width height ++ (BothCounts first second (width * height) ++ When OutputLength (length out < width * height) ∷ BothTilesReal first second width height)

-- view: 1, 9, 10, 3, 6
abbrev pub PairViewRefuses : List ℕ → ℕ → ℕ → ℕ → ℕ → List Condition
PairViewRefuses tile width height column row =
    SizeRefuses width height ++ WhenUnequal EncodedLength (length tile) (width * height) ∷ When NoSuchBlock (Missing width height column row) ∷ []

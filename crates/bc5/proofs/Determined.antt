-- A promise leaves no choice, for each call of `bc5`: two outcomes that its contract allows are equal.
use mathlib.Core.Path.{sym, ◌∙◌}
use mathlib.Core.List.{List}
use Prim.Native.Nat.{ℕ}
use lib.Ieee.{Float}
use Rattle.refusal.specs.Refusals.{Answer, Checked}
use Rattle.refusal.proofs.Outcomes.{One-answer, One-outcome}
use Rattle.bc5.proofs.bytes.Kinds as bytes-kinds
use Rattle.bc5.proofs.bytes.Reads as bytes
use Rattle.bc5.proofs.encode_block.Kinds as encode-block-kinds
use Rattle.bc5.proofs.encode_block.Reads as encode-block
use Rattle.bc5.proofs.decode_block.Kinds as decode-block-kinds
use Rattle.bc5.proofs.decode_block.Reads as decode-block
use Rattle.bc5.proofs.block_error.Kinds as block-error-kinds
use Rattle.bc5.proofs.block_error.Reads as block-error
use Rattle.bc5.proofs.resend.Kinds as resend-kinds
use Rattle.bc5.proofs.resend.Reads as resend
use Rattle.bc5.proofs.encode_tile.Kinds as encode-tile-kinds
use Rattle.bc5.proofs.encode_tile.Reads as encode-tile
use Rattle.bc5.proofs.block_view.Kinds as block-view-kinds
use Rattle.bc5.proofs.block_view.Reads as Block-view
use Rattle.bc5.proofs.view_refusal.Kinds as view-refusal-kinds
use Rattle.bc5.proofs.view_refusal.Reads as view-refusal
use Rattle.bc5.proofs.word.encode_block.Kinds as word-encode-block-kinds
use Rattle.bc5.proofs.word.encode_block.Reads as word-encode-block
use Rattle.bc5.proofs.word.resend.Kinds as word-resend-kinds
use Rattle.bc5.proofs.word.resend.Reads as word-resend
use Rattle.bc5.proofs.word.encode_tile.Kinds as word-encode-tile-kinds
use Rattle.bc5.proofs.word.encode_tile.Reads as word-encode-tile

pub bytes_determined : One-answer 0 bytes-kinds.ps bytes-kinds.r bytes.Post
bytes_determined κs a x y s t p q = p ∙ sym q

pub encode_determined : One-answer 2 encode-block-kinds.ps encode-block-kinds.r encode-block.Post
encode_determined κs a x y s t p q = p ∙ sym q

pub error_determined : One-answer 3 block-error-kinds.ps block-error-kinds.r block-error.Post
error_determined κs a x y s t p q = p ∙ sym q

pub resend_determined : One-answer 3 resend-kinds.ps resend-kinds.r resend.Post
resend_determined κs a x y s t p q = p ∙ sym q

pub refusal_determined : One-answer 1 view-refusal-kinds.ps view-refusal-kinds.r view-refusal.Post
refusal_determined κs a x y s t p q = p ∙ sym q

-- decode: the answer, and the sixteen samples of each channel
pub decode_determined : One-outcome 3 decode-block-kinds.ps decode-block-kinds.r decode-block.Post (Checked × List Float × List Float)
    (λ κs x s. (x, s.1.1.0.now, s.1.1.1.0.now))
decode_determined κs a x y s t p q = cc

-- encode tile: the answer, and every byte of the output
pub tile_determined : One-outcome 3 encode-tile-kinds.ps encode-tile-kinds.r encode-tile.Post (Answer ℕ × List ℕ) (λ κs x s. (x, s.1.1.1.1.1.0.now))
tile_determined κs a x y s t p q = cc

-- the same calls with a word for the options
pub word_encode_determined : One-answer 2 word-encode-block-kinds.ps word-encode-block-kinds.r word-encode-block.Post
word_encode_determined κs a x y s t p q = p ∙ sym q

pub word_resend_determined : One-answer 3 word-resend-kinds.ps word-resend-kinds.r word-resend.Post
word_resend_determined κs a x y s t p q = p ∙ sym q

pub word_tile_determined : One-outcome 3 word-encode-tile-kinds.ps word-encode-tile-kinds.r word-encode-tile.Post (Answer ℕ × List ℕ)
    (λ κs x s. (x, s.1.1.1.1.1.0.now))
word_tile_determined κs a x y s t p q = cc

-- block view: the bytes of the part. Which part it is, where two blocks of a tile are alike, the contract of a slice does not say.
pub view_determined : One-outcome 1 block-view-kinds.ps block-view-kinds.r Block-view.Post (List ℕ) (λ κs x s. x.now)
view_determined κs a x y s t p q = p ∙ sym q

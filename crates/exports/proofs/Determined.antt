-- A promise leaves no choice, for the calls that cross to C: two outcomes that a call's contract allows, of one call, have the same number and leave the same
-- in all memory that was lent.
use mathlib.Core.Path.{sym, ◌∙◌}
use mathlib.Core.List.{List}
use Prim.Native.Nat.{ℕ}
use lib.Ieee.{Float}
use Rattle.refusal.proofs.Outcomes.{One-answer, One-outcome}
use Rattle.exports.proofs.bc4_version.Kinds as version-kinds
use Rattle.exports.proofs.bc4_version.Reads as version
use Rattle.exports.proofs.bc4_encode_block.Kinds as encode-kinds
use Rattle.exports.proofs.bc4_encode_block.Reads as encode
use Rattle.exports.proofs.bc4_decode_block.Kinds as decode-kinds
use Rattle.exports.proofs.bc4_decode_block.Reads as decode
use Rattle.exports.proofs.bc4_block_error.Kinds as error-kinds
use Rattle.exports.proofs.bc4_block_error.Reads as error
use Rattle.exports.proofs.bc4_resend.Kinds as resend-kinds
use Rattle.exports.proofs.bc4_resend.Reads as resend
use Rattle.exports.proofs.bc4_encode_tile.Kinds as tile-kinds
use Rattle.exports.proofs.bc4_encode_tile.Reads as tile
use Rattle.exports.proofs.bc4_block_view.Kinds as view-kinds
use Rattle.exports.proofs.bc4_block_view.Reads as view
use Rattle.exports.proofs.channels.bc5_encode_block.Kinds as pair-encode-kinds
use Rattle.exports.proofs.channels.bc5_encode_block.Reads as pair_encode
use Rattle.exports.proofs.channels.bc5_decode_block.Kinds as pair-decode-kinds
use Rattle.exports.proofs.channels.bc5_decode_block.Reads as pair_decode
use Rattle.exports.proofs.channels.bc5_block_error.Kinds as pair-error-kinds
use Rattle.exports.proofs.channels.bc5_block_error.Reads as pair_error_lem
use Rattle.exports.proofs.channels.bc5_resend.Kinds as pair-resend-kinds
use Rattle.exports.proofs.channels.bc5_resend.Reads as pair_resend
use Rattle.exports.proofs.channels.bc5_encode_tile.Kinds as pair-tile-kinds
use Rattle.exports.proofs.channels.bc5_encode_tile.Reads as pair_tile
use Rattle.exports.proofs.channels.bc5_block_view.Kinds as pair-view-kinds
use Rattle.exports.proofs.channels.bc5_block_view.Reads as pair_view
use Rattle.exports.proofs.bc4_write_dds.Kinds as write-dds-kinds
use Rattle.exports.proofs.bc4_write_dds.Reads as write_dds
use Rattle.exports.proofs.bc4_read_dds.Kinds as read-dds-kinds
use Rattle.exports.proofs.bc4_read_dds.Reads as read_dds
use Rattle.exports.proofs.messages.bc4_receive.Kinds as receive-kinds
use Rattle.exports.proofs.messages.bc4_receive.Reads as receive
use Rattle.exports.proofs.messages.bc4_clear.Kinds as clear-kinds
use Rattle.exports.proofs.messages.bc4_clear.Reads as clear

pub version_determined : One-answer 0 version-kinds.ps version-kinds.r version.Post
version_determined κs a x y s t p q = p ∙ sym q

-- number, block and detail
pub encode_determined : One-outcome 3 encode-kinds.ps encode-kinds.r encode.Post (ℕ × List ℕ × List ℕ) (λ κs x s. (x, s.1.1.0.now, s.1.1.1.0.now))
encode_determined κs a x y s t p q = cc

-- number, samples and detail
pub decode_determined : One-outcome 3 decode-kinds.ps decode-kinds.r decode.Post (ℕ × List Float × List ℕ) (λ κs x s. (x, s.1.1.0.now, s.1.1.1.0.now))
decode_determined κs a x y s t p q = cc

-- number, error and detail
pub error_determined : One-outcome 4 error-kinds.ps error-kinds.r error.Post (ℕ × Float × List ℕ) (λ κs x s. (x, s.1.1.1.0.now, s.1.1.1.1.0.now))
error_determined κs a x y s t p q = cc

-- number, block, flag and detail
pub resend_determined : One-outcome 5 resend-kinds.ps resend-kinds.r resend.Post (ℕ × List ℕ × ℕ × List ℕ)
    (λ κs x s. (x, s.1.1.1.0.now, s.1.1.1.1.0.now, s.1.1.1.1.1.0.now))
resend_determined κs a x y s t p q = cc

-- number, every byte of the output, count and detail
pub tile_determined : One-outcome 4 tile-kinds.ps tile-kinds.r tile.Post (ℕ × List ℕ × ℕ × List ℕ)
    (λ κs x s. (x, s.1.1.1.1.0.now, s.1.1.1.1.1.0.now, s.1.1.1.1.1.1.0.now))
tile_determined κs a x y s t p q = cc

-- number, offset and detail
pub view_determined : One-outcome 3 view-kinds.ps view-kinds.r view.Post (ℕ × ℕ × List ℕ) (λ κs x s. (x, s.1.1.1.1.1.0.now, s.1.1.1.1.1.1.0.now))
view_determined κs a x y s t p q = cc

-- number, every byte of the output, count and detail
pub write_dds_determined : One-outcome 4 write-dds-kinds.ps write-dds-kinds.r write_dds.Post (ℕ × List ℕ × ℕ × List ℕ)
    (λ κs x s. (x, s.1.1.1.1.0.now, s.1.1.1.1.1.0.now, s.1.1.1.1.1.1.0.now))
write_dds_determined κs a x y s t p q = cc

-- number, width, height, format, offset and detail
pub read_dds_determined : One-outcome 6 read-dds-kinds.ps read-dds-kinds.r read_dds.Post (ℕ × ℕ × ℕ × ℕ × ℕ × List ℕ)
    (λ κs x s. (x, s.1.0.now, s.1.1.0.now, s.1.1.1.0.now, s.1.1.1.1.0.now, s.1.1.1.1.1.0.now))
read_dds_determined κs a x y s t p q = cc

-- ---- two channels. Number, block and detail
pub pair_encode_determined : One-outcome 4 pair-encode-kinds.ps pair-encode-kinds.r pair_encode.Post (ℕ × List ℕ × List ℕ)
    (λ κs x s. (x, s.1.1.1.0.now, s.1.1.1.1.0.now))
pair_encode_determined κs a x y s t p q = cc

-- number, samples of both channels and detail
pub pair_decode_determined : One-outcome 4 pair-decode-kinds.ps pair-decode-kinds.r pair_decode.Post (ℕ × List Float × List Float × List ℕ)
    (λ κs x s. (x, s.1.1.0.now, s.1.1.1.0.now, s.1.1.1.1.0.now))
pair_decode_determined κs a x y s t p q = cc

-- number, both errors and detail
pub pair_error_determined : One-outcome 5 pair-error-kinds.ps pair-error-kinds.r pair_error_lem.Post (ℕ × List Float × List ℕ)
    (λ κs x s. (x, s.1.1.1.1.0.now, s.1.1.1.1.1.0.now))
pair_error_determined κs a x y s t p q = cc

-- number, block, both flags and detail
pub pair_resend_determined : One-outcome 6 pair-resend-kinds.ps pair-resend-kinds.r pair_resend.Post (ℕ × List ℕ × List ℕ × List ℕ)
    (λ κs x s. (x, s.1.1.1.1.0.now, s.1.1.1.1.1.0.now, s.1.1.1.1.1.1.0.now))
pair_resend_determined κs a x y s t p q = cc

-- number, every byte of the output, count and detail
pub pair_tile_determined : One-outcome 5 pair-tile-kinds.ps pair-tile-kinds.r pair_tile.Post (ℕ × List ℕ × ℕ × List ℕ)
    (λ κs x s. (x, s.1.1.1.1.1.0.now, s.1.1.1.1.1.1.0.now, s.1.1.1.1.1.1.1.0.now))
pair_tile_determined κs a x y s t p q = cc

-- number, offset and detail
pub pair_view_determined : One-outcome 3 pair-view-kinds.ps pair-view-kinds.r pair_view.Post (ℕ × ℕ × List ℕ)
    (λ κs x s. (x, s.1.1.1.1.1.0.now, s.1.1.1.1.1.1.0.now))
pair_view_determined κs a x y s t p q = cc

-- ---- the receiving side. Number, every byte of the tile, every entry of the record, outcome and detail
pub receive_determined : One-outcome 5 receive-kinds.ps receive-kinds.r receive.Post (ℕ × List ℕ × List ℕ × ℕ × List ℕ)
    (λ κs x s. (x, s.0.now, s.1.0.now, s.1.1.1.1.1.1.1.1.0.now, s.1.1.1.1.1.1.1.1.1.0.now))
receive_determined κs a x y s t p q = cc

-- every entry of the record
pub clear_determined : One-outcome 1 clear-kinds.ps clear-kinds.r clear.Post (List ℕ) (λ κs x s. s.0.now)
clear_determined κs a x y s t p q = cc

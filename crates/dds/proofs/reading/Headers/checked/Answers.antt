-- Where the checks so far refuse nothing, the next ones answer.
use Rattle.std.specs.Prelude.{◌++◌}
use Rattle.refusal.proofs.Firsts.{passes, refused_first, passed_first, refused_last}
use Rattle.dds.specs.Checks.{cut_checks, mark_checks, format_checks, picture_checks, side_checks, body_checks}
use Rattle.dds.proofs.reading.Headers.checked.Goals as goal

pub returns-in_err-headers-clause-refusal : goal.returns-in_err-headers-clause-refusal
returns-in_err-headers-clause-refusal c = refused_first (cut_checks _) _ c.from_residual.result c.from_residual.ensures.1 c.in_err-headers.ensures.refusal

pub returns-in_err-mark-clause-refusal : goal.returns-in_err-mark-clause-refusal
returns-in_err-mark-clause-refusal c =
    rw (← passed_first (cut_checks _) _ c.in_ok-headers.ensures.refusal, ← c.in_ok-headers.ensures.file)
    (refused_first (mark_checks _) _ c.from_residual-in_err-mark.result c.from_residual-in_err-mark.ensures.1 c.in_err-mark.ensures)

pub returns-in_err-format-clause-refusal : goal.returns-in_err-format-clause-refusal
returns-in_err-format-clause-refusal c =
    rw (← passed_first (cut_checks _) _ c.in_ok-headers.ensures.refusal, ← c.in_ok-headers.ensures.file, ← passed_first (mark_checks _) _ (passes _ c.in_ok-mark.ensures))
    (let f = c.in_ok-headers.headers.file.now in refused_first (format_checks f) (picture_checks f ++ side_checks f ++ body_checks f) c.from_residual-in_err-format.result c.from_residual-in_err-format.ensures.1 c.in_err-format.ensures)

pub returns-in_err-pictures-clause-refusal : goal.returns-in_err-pictures-clause-refusal
returns-in_err-pictures-clause-refusal c =
    rw (← passed_first (cut_checks _) _ c.in_ok-headers.ensures.refusal, ← c.in_ok-headers.ensures.file, ← passed_first (mark_checks _) _ (passes _ c.in_ok-mark.ensures), ← passed_first (format_checks _) _ (passes _ c.in_ok-format.ensures))
    (let f = c.in_ok-headers.headers.file.now in refused_first (picture_checks f) (side_checks f ++ body_checks f) c.from_residual-in_err-pictures.result c.from_residual-in_err-pictures.ensures.1 c.in_err-pictures.ensures)

pub returns-in_err-body_length-clause-refusal : goal.returns-in_err-body_length-clause-refusal
returns-in_err-body_length-clause-refusal c =
    rw (← passed_first (cut_checks _) _ c.in_ok-headers.ensures.refusal, ← c.in_ok-headers.ensures.file, ← passed_first (mark_checks _) _ (passes _ c.in_ok-mark.ensures), ← passed_first (format_checks _) _ (passes _ c.in_ok-format.ensures), ← passed_first (picture_checks _) _ (passes _ c.in_ok-pictures.ensures))
    (refused_last _ c.from_residual-in_err-body_length.result c.from_residual-in_err-body_length.ensures.1 c.in_err-body_length.ensures)

pub returns-clause-refusal : goal.returns-clause-refusal
returns-clause-refusal c =
    rw (← passed_first (cut_checks _) _ c.in_ok-headers.ensures.refusal, ← c.in_ok-headers.ensures.file, ← passed_first (mark_checks _) _ (passes _ c.in_ok-mark.ensures), ← passed_first (format_checks _) _ (passes _ c.in_ok-format.ensures), ← passed_first (picture_checks _) _ (passes _ c.in_ok-pictures.ensures))
    (passes _ c.in_ok-body_length.ensures)

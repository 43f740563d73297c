use Rattle.std.proofs.Common.{ℕ, ◌∙◌, ap}
use Rattle.std.specs.Prelude.{is_some}
use Rattle.pp_recorded.specs.Claims.{known_of}
use Rattle.pp_recorded.specs.Provings.{has_peaks}
use Rattle.pp_recorded.proofs.Peaks.{each_peak}
use Rattle.pp_recorded.proofs.proving.has_peaks.Goals as goal

pub returns : goal.returns
returns c =
    each_peak c.chunks.result (λ p. is_some (known_of c.args.claims.now p.layer p.offset)) c.peaks-peaks.result.items c.deref.result.now c.are_known.result
    c.deref.ensures.0 c.peaks-peaks.ensures c.are_known.ensures
    ∙ ap (λ (n : ℕ). has_peaks n (known_of c.args.claims.now)) c.chunks.ensures.chunks

use Rattle.pp_recorded.specs.Claims.{known_of}
use Rattle.pp_recorded.proofs.Provings.{root_from}
use Rattle.pp_recorded.proofs.proving.leads_to_root.Goals as goal

pub returns : goal.returns
returns c =
    root_from c.args.claims.now.descriptor.now (known_of c.args.claims.now) c.is_same.result c.climb_last.result c.root.result c.saturating_sub-layers.result c.height.result
    c.last_peak-last.result.layer c.chunks.result c.is_same.ensures c.root.ensures.root c.climb_last.ensures c.saturating_sub-layers.ensures c.height.ensures.height
    c.last_peak-last.ensures.layer c.chunks.ensures.chunks

use Rattle.std.proofs.Common.{◌&&◌, length}
use Rattle.sha2.specs.Sha256.{sha256}
use Rattle.pp_terms.specs.format.Descriptor.{chunks_of}
use Rattle.pp_terms.specs.tree.Content.{chunk_length}
use Rattle.pp_recorded.specs.Claims.{known_of}
use Rattle.pp_recorded.specs.Provings.{has_peaks, leads_up, leads_to_root}
use Rattle.pp_recorded.proofs.Provings.{other_length}
use Rattle.pp_recorded.proofs.proving.proves_chunk.Goals as goal

pub returns-else-content-chunk_len : goal.returns-else-content-chunk_len
returns-else-content-chunk_len c =
    let d = c.args.claims.now.descriptor.now in
    let known = known_of c.args.claims.now in
    other_length (length c.args.content.now) (chunk_length d.size d.chunk c.args.chunk) c.chunk_len.result
    (has_peaks (chunks_of d) known && (leads_up (chunks_of d) known c.args.chunk (sha256 c.args.content.now) && leads_to_root d known))
    c.if-content-chunk_len.false c.chunk_len.ensures.len

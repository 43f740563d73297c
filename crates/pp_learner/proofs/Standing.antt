-- The descriptor that stands for a swarm's.
use Rattle.std.proofs.Common.{◌≡◌, ℕ, ◌+◌, ◌-◌, ◌*◌, ◌/◌, ◌^◌, ◌∙◌, ap, arith}
use Rattle.std.proofs.lemmas.Nat.{div-mul-add}
use Rattle.pp_terms.specs.tree.Content.{IsChunkSize}
use Rattle.pp_terms.specs.format.Descriptor.{chunks_of}
use Rattle.pp_targets.specs.Target.{SwarmName}
use Rattle.pp_learner.specs.Standing.{stand_in}
use Rattle.pp_learner.proofs.Readings.{chunk_some}

-- is one of 2 ^ 20 chunks
pub stand_chunks : (name : SwarmName) → IsChunkSize name.chunk → chunks_of (stand_in name) ≡ 2 ^ 20
stand_chunks name size =
    let some = chunk_some name.chunk size in
    let same : 1048576 * name.chunk + name.chunk - 1 ≡ 1048576 * name.chunk + (name.chunk - 1) = omega arith in
    ap (λ (n : ℕ). n / name.chunk) same ∙ div-mul-add 1048576 name.chunk (name.chunk - 1) (omega arith)

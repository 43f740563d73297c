use Rattle.std.proofs.Common.{take}
use Rattle.pp_terms.specs.format.Descriptor.{chunks_of}
use Rattle.pp_tree.specs.Node.{node_of}
use Rattle.pp_recorded.specs.Claims.{proven_claims, claims_of}
use Rattle.pp_recorded.specs.Entries.{past, life_of}
use Rattle.pp_recorded.specs.Parts.{all}
use Rattle.pp_recorded.proofs.Claimings.{newest_is, latest_then, latest_else}
use Rattle.pp_recorded.proofs.claims.Claims.digest.Goals as goal

pub returns-then-newest-lt-MOST_CLAIMS : goal.returns-then-newest-lt-MOST_CLAIMS
returns-then-newest-lt-MOST_CLAIMS c =
    let self = c.args.self.now in
    latest_then (node_of c.args.node) (claims_of self) c.newest_in_front-newest.result
    (newest_is (chunks_of self.descriptor.now) (node_of c.args.node) (take self.count (all self.descriptor.now self.bytes.now)) (proven_claims self.descriptor.now (life_of self.life) (past self.entries.now))
    c.newest_proven-proven.result c.newest_in_front-newest.result c.newest_proven-proven.ensures c.newest_in_front-newest.ensures) c.if-newest-lt-MOST_CLAIMS.true

pub returns-else-newest-lt-MOST_CLAIMS : goal.returns-else-newest-lt-MOST_CLAIMS
returns-else-newest-lt-MOST_CLAIMS c =
    let self = c.args.self.now in
    latest_else (node_of c.args.node) (claims_of self) c.newest_in_front-newest.result
    (newest_is (chunks_of self.descriptor.now) (node_of c.args.node) (take self.count (all self.descriptor.now self.bytes.now)) (proven_claims self.descriptor.now (life_of self.life) (past self.entries.now))
    c.newest_proven-proven.result c.newest_in_front-newest.result c.newest_proven-proven.ensures c.newest_in_front-newest.ensures) c.if-newest-lt-MOST_CLAIMS.false

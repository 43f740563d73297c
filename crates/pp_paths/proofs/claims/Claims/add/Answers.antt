use Rattle.std.proofs.Common.{◌∙◌, ap, ◌∷◌, take}
use Rattle.std.specs.Prelude.{map}
use Rattle.pp_paths.specs.declared.claims.Claim.{Claim}
use Rattle.pp_paths.specs.Claim.{claimed_of}
use Rattle.pp_paths.proofs.Claiming.{added_is, added_digests}
use Rattle.pp_paths.proofs.claims.Claims.add.Goals as goal

pub returns : goal.returns
returns c =
    let claim : Claim = record { node = c.args.node; digest = c.args.digest } in
    ap (λ kept. map claimed_of kept.items) c.push_front.ensures.items
    ∙ added_is claim c.self.inside.kept.items c.self.inside.kept.capacity c.self.invariant.0
    ∙ ap (λ claims. take 128 (claimed_of claim ∷ claims)) c.self.view_is

pub invariant_of-self : goal.invariant_of-self
invariant_of-self c =
    let claim : Claim = record { node = c.args.node; digest = c.args.digest } in (
      ap (λ kept. kept.capacity) c.push_front.ensures.items ∙ c.self.invariant.0,
      added_digests claim c.self.inside.kept.items c.push_front.new.self.items c.self.inside.kept.capacity c.bytes.ensures.len
          c.self.invariant.1 (ap (λ kept. kept.items) c.push_front.ensures.items),
    )

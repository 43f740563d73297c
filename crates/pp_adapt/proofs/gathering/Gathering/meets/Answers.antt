use Rattle.std.proofs.Common.{subst, ap, ◌∙◌, sym, ℕ, List, arith}
use Rattle.std.specs.Prelude.{IsSome}
use Rattle.std.proofs.lemmas.Bool.{OnTrue_from, OnFalse_from, OnTrue_at, OnFalse_at}
use Rattle.pp_terms.specs.disk.Store.{IsWithin}
use Rattle.pp_adapt.specs.declared.extents.Extent.{Extent}
use Rattle.pp_adapt.specs.Extents.{is_covered}
use Rattle.pp_adapt.specs.Gathered.{Gathered, IsFree, byte_at}
use Rattle.pp_adapt.proofs.Pieces.{free_in, met_in}
use Rattle.pp_adapt.proofs.gathering.Gathering.meets.Goals as goal

pub returns-clause-free : goal.returns-clause-free
returns-clause-free c = OnFalse_from _ _ (λ none.
    let free = OnFalse_at none c.meets.ensures.free in
    subst (λ (g : Gathered). IsFree g.pieces c.args.place c.args.len) c.self.view_is
    (free_in c.self.inside.base c.self.inside.bytes.items c.self.inside.extents.items c.args.place c.args.len c.self.invariant.apart (omega arith)
    (λ i from below. ap (λ (es : List Extent). is_covered es i) (sym c.deref.ensures.value) ∙ free i (omega arith) (omega arith))))

pub returns-clause-met : goal.returns-clause-met
returns-clause-met c = OnTrue_from _ _ (λ some.
    let met = OnTrue_at some c.meets.ensures.met in
    subst (λ (g : Gathered). (k : ℕ) × IsWithin c.args.place c.args.len k × IsSome (byte_at g.pieces k)) c.self.view_is
    (met_in c.self.inside.base c.self.inside.bytes.items c.self.inside.extents.items c.args.place c.args.len met.0 c.self.invariant.apart (omega arith)
    (omega (arith, met.1)) (omega (arith, met.2)) (ap (λ (es : List Extent). is_covered es met.0) (sym c.deref.ensures.value) ∙ met.3)))

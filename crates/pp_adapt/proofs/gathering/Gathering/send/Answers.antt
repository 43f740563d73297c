use Rattle.std.proofs.Common.{◌≡◌, ap, sym, ◌∙◌, subst, List, ℕ}
use Rattle.pp_adapt.specs.declared.extents.Extent.{Extent}
use Rattle.pp_adapt.specs.Extents.{AreApart}
use Rattle.pp_adapt.specs.Gathered.{Gathered, pieces_of}
use Rattle.pp_adapt.proofs.Joins.{nothing}
use Rattle.pp_adapt.proofs.Pieces.{apart_at, taken_more}
use Rattle.pp_adapt.proofs.gathering.Gathering.send.Goals as goal

pub send_piece-requires-clause-some : goal.send_piece-requires-clause-some
send_piece-requires-clause-some g c =
    (apart_at 0 c.deref-extent-items.result.now c.loop-extent.extent-index nothing (subst (AreApart 0) (sym c.deref-extent-items.ensures.value) c.self.invariant.apart) c.loop-extent-test.true).0

pub send_piece-requires-clause-within : goal.send_piece-requires-clause-within
send_piece-requires-clause-within g c =
    (apart_at 0 c.deref-extent-items.result.now c.loop-extent.extent-index nothing (subst (AreApart 0) (sym c.deref-extent-items.ensures.value) c.self.invariant.apart) c.loop-extent-test.true).1

pub loop-extent-preserved : goal.loop-extent-preserved
loop-extent-preserved g c =
    let are : pieces_of c.self.inside.base c.deref.result.now c.deref-extent-items.result.now ≡ c.args.self.now.pieces =
    ap (λ (bytes : List ℕ). pieces_of c.self.inside.base bytes c.deref-extent-items.result.now) c.deref.ensures.value
    ∙ ap (λ (es : List Extent). pieces_of c.self.inside.base c.self.inside.bytes.items es) c.deref-extent-items.ensures.value
    ∙ ap (λ (v : Gathered). v.pieces) c.self.view_is in
    taken_more c.self.inside.base c.deref.result.now c.deref-extent-items.result.now c.loop-extent.extent-index nothing c.args.self.now.pieces
    (g.O.Outlet.taken c.args.outlet.now) (g.O.Outlet.taken c.loop-extent.outlet) (g.O.Outlet.taken c.send_piece.new.outlet)
    c.loop-extent-test.true are c.loop-extent.invariant c.in_ok-send_piece.ensures.ok

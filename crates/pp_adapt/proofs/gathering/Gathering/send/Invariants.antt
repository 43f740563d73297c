use Rattle.std.proofs.Common.{◌≡◌, take}
use Rattle.pp_adapt.specs.Gathered.{with_taken}
use Rattle.pp_adapt.proofs.gathering.Gathering.send.Given as goal

abbrev pub invariant-loop-extent : goal.invariant-loop-extent
invariant-loop-extent g l =
    g.O.Outlet.taken l.outlet ≡ with_taken (g.O.Outlet.taken l.initial.outlet) (take l.extent-index l.self.pieces)

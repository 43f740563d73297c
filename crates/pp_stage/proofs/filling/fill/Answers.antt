use Rattle.std.proofs.Common.{refl, sym, ◌∙◌}
use Rattle.pp_stage.proofs.Fills.{filled}
use Rattle.pp_stage.proofs.filling.fill.Goals as goal

pub returns : goal.returns
returns c =
    filled _ c.args.content.now c.in_ok-disk.disk c.fill_watched-disk.result.disk c.in_ok-disk.ensures.state c.in_ok-disk.ensures.nothing_ordered
    (sym c.short.ensures ∙ (c.in_ok-enough.ensures).0 refl) c.fill_watched-disk.ensures.since
    (c.fill_watched-disk.ensures.store c.if-not-is_done.false)

use Rattle.std.proofs.Common.{◌∙◌, sym}
use Rattle.pp_traffic.specs.Past.{now}
use Rattle.pp_promises.specs.Answered.{wrote_lately, KeepsUp}
use Rattle.pp_recorded.specs.Entries.{past}
use Rattle.pp_audit.specs.Channels.{each_plain}
use Rattle.pp_audit.proofs.ChannelSearch.{search_finds_all}
use Rattle.pp_audit.proofs.TurnEnds.{ends_decided}
use Rattle.pp_audit.proofs.answered.keeps_up_but.Goals as goal

pub returns : goal.returns
returns c =
    let d = c.args.descriptor.now in
    let exact = ends_decided d (λ past. each_plain (λ life. wrote_lately d life (now past) past) d past) (KeepsUp d)
    (λ past. search_finds_all (λ life. wrote_lately d life (now past) past) d past) c.args.refusals (past c.args.entries.now) in
    (λ e. exact.0 (sym c.fails_few.ensures ∙ e), λ is. c.fails_few.ensures ∙ exact.1 is)

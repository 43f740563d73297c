use Rattle.std.proofs.Common.{not, ◌||◌, sym, ◌∙◌}
use Rattle.pp_terms.specs.format.Descriptor.{chunks_of}
use Rattle.pp_promises.specs.Asked.{AsksOffered}
use Rattle.pp_recorded.specs.Entries.{past}
use Rattle.pp_audit.specs.Channels.{each_plain}
use Rattle.pp_recorded.specs.Offers.{may_be_asked, asks_offered}
use Rattle.pp_audit.proofs.AskedTests.{asks_decided}
use Rattle.pp_audit.proofs.TurnEnds.{ends_decided}
use Rattle.pp_audit.proofs.asked.asks_but.Goals as goal

pub returns : goal.returns
returns c = λ reads is.
    let d = c.args.descriptor.now in
    let held = c.args.held.now in
    let exact = ends_decided d (λ past. each_plain (λ life. not (may_be_asked d past life) || asks_offered held d past life) d past)
    (AsksOffered d (chunks_of d) reads) (λ past. asks_decided d reads held is past) c.args.refusals (past c.args.entries.now) in
    (λ e. exact.0 (sym c.fails_few.ensures ∙ e), λ but. c.fails_few.ensures ∙ exact.1 but)

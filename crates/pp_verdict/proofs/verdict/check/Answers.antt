use Rattle.std.proofs.Common.{sym, ◌∙◌, ap, Option}
use Rattle.std.specs.Prelude.{is_some}
use Rattle.pp_tree.specs.Book.{entry}
use Rattle.pp_traffic.specs.Serving.{window_of}
use Rattle.pp_recorded.specs.Entries.{record_of}
use Rattle.pp_verdict.specs.Chunks.{SentChunk}
use Rattle.pp_verdict.proofs.Chunks.{bare_serves, has_is_some}
use Rattle.pp_verdict.proofs.verdict.check.Goals as goal

pub returns-in-None-part_of : goal.returns-in-None-part_of
returns-in-None-part_of c = λ past settled.
    let is = sym c.in-Some.ensures.is in (
      c.in-None-part_of.ensures past (record_of c.args.entry.now) is settled,
      sym (has_is_some c.args.descriptor.now (record_of c.args.entry.now) ∙ ap (λ (o : Option SentChunk). is_some o) is),
    )

pub returns-in-None : goal.returns-in-None
returns-in-None c = λ past settled.
    let is = sym c.in-None.ensures.is in (
      bare_serves c.args.descriptor.now (entry c.args.book.now) (window_of c.args.descriptor.now) past (record_of c.args.entry.now) is,
      sym (has_is_some c.args.descriptor.now (record_of c.args.entry.now) ∙ ap (λ (o : Option SentChunk). is_some o) is),
    )

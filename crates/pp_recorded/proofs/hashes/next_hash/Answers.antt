use Rattle.std.proofs.Common.{◌-◌, Option, take, sym, ◌∙◌, ap}
use Rattle.pp_terms.specs.tree.Range.{Span}
use Rattle.pp_promises.specs.Datagrams.{hash_spans}
use Rattle.pp_wire.specs.Views.{message_of}
use Rattle.pp_recorded.specs.Parts.{rest}
use Rattle.pp_recorded.specs.Plans.{with_span}
use Rattle.pp_recorded.proofs.HashSpans.{spans_more, no_hash}
use Rattle.pp_recorded.proofs.hashes.next_hash.Goals as goal

pub returns-in-Some-hash_span : goal.returns-in-Some-hash_span
returns-in-Some-hash_span c = record {
  within = c.in-Some.ensures.within;
  spans = c.messages.invariant.same
      ∙ spans_more c.args.descriptor.now c.args.bytes.now c.messages.at c.messages.left c.in-Some.next (message_of c.in-Some.message) c.messages-test.true c.in-Some.ensures.before
      ∙ ap (λ (o : Option Span). with_span o (hash_spans (take (c.messages.left - 1) (rest c.args.descriptor.now c.args.bytes.now c.in-Some.next)))) (sym c.in-Some-hash_span.ensures);
}

pub messages-preserved : goal.messages-preserved
messages-preserved c = record {
  within = c.in-Some.ensures.within;
  same = c.messages.invariant.same
      ∙ spans_more c.args.descriptor.now c.args.bytes.now c.messages.at c.messages.left c.in-Some.next (message_of c.in-Some.message) c.messages-test.true c.in-Some.ensures.before
      ∙ ap (λ (o : Option Span). with_span o (hash_spans (take (c.messages.left - 1) (rest c.args.descriptor.now c.args.bytes.now c.in-Some.next))))
      (sym (no_hash c.hash_span.result (message_of c.in-Some.message) c.in_default.not-Some c.hash_span.ensures));
}

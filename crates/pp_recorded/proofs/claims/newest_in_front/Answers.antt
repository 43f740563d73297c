use Rattle.std.proofs.Common.{◌-◌, take, sym, ◌∙◌, ap}
use Rattle.pp_terms.specs.format.Descriptor.{chunks_of}
use Rattle.pp_tree.specs.Node.{node_of}
use Rattle.pp_wire.specs.Views.{message_of}
use Rattle.pp_recorded.specs.declared.claims.Newest.{Newest}
use Rattle.pp_recorded.specs.Claims.{newest_after, newest_by}
use Rattle.pp_recorded.specs.Parts.{rest}
use Rattle.std.proofs.Common.{ℕ}
use Rattle.pp_recorded.proofs.Claimings.{front_more}
use Rattle.pp_recorded.proofs.claims.newest_in_front.Goals as goal

pub messages-preserved : goal.messages-preserved
messages-preserved c =
    record {
      within = c.in-Some.ensures.within;
      same = c.messages.invariant.same
          ∙ front_more (chunks_of c.args.descriptor.now) (node_of c.args.at) (rest c.args.descriptor.now c.args.bytes.now c.messages.place) (rest c.args.descriptor.now c.args.bytes.now c.in-Some.next)
          (message_of c.in-Some.message) c.messages.left c.messages.newest c.messages-test.true c.in-Some.ensures.before
          ∙ ap (λ (n : ℕ). newest_after (chunks_of c.args.descriptor.now) (node_of c.args.at) (take (c.messages.left - 1) (rest c.args.descriptor.now c.args.bytes.now c.in-Some.next))
          (newest_by n (node_of c.args.at) (message_of c.in-Some.message) c.messages.newest)) (sym c.chunks-chunks.ensures.chunks)
          ∙ ap (λ (n : Newest). newest_after (chunks_of c.args.descriptor.now) (node_of c.args.at) (take (c.messages.left - 1) (rest c.args.descriptor.now c.args.bytes.now c.in-Some.next)) n)
          (sym c.newest_by-newest.ensures);
    }

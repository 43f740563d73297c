use Rattle.std.proofs.Common.{◌≡◌, [], take, sym, ◌∙◌, arith}
use Rattle.pp_tree.specs.Book.{entry}
use Rattle.pp_wire.specs.Views.{message_of}
use Rattle.pp_recorded.specs.Entries.{past, life_of}
use Rattle.pp_recorded.specs.Parts.{all, rest}
use Rattle.pp_audit.specs.Storings.{is_stored, each_stored, known_behind}
use Rattle.pp_recorded.proofs.Sendings.{on_next}
use Rattle.pp_audit.proofs.Storings.{pass_one}
use Rattle.pp_audit.proofs.storing.each_stored.Goals as goal

pub messages-preserved : goal.messages-preserved
messages-preserved c =
    let later = c.in-Some.ensures.later in
    let few = c.messages.invariant.few in
    let one = pass_one (λ f m. is_stored c.args.descriptor.now (entry c.args.book.now) c.args.held.now (known_behind c.args.descriptor.now (life_of c.args.life) (past c.args.before.now) f) m)
    (take c.messages.count (all c.args.descriptor.now c.args.bytes.now)) (rest c.args.descriptor.now c.args.bytes.now c.in-Some.next) (message_of c.in-Some.message)
    (sym c.is_from.ensures ∙ c.if-is_from.false) (sym c.is_stored.ensures ∙ c.if-not-is_stored.false) in
    record {
      within = c.in-Some.ensures.within;
      few = omega arith;
      on = on_next (λ front part.
          each_stored (λ f m. is_stored c.args.descriptor.now (entry c.args.book.now) c.args.held.now (known_behind c.args.descriptor.now (life_of c.args.life) (past c.args.before.now) f) m) front part
          ≡ each_stored (λ f m. is_stored c.args.descriptor.now (entry c.args.book.now) c.args.held.now (known_behind c.args.descriptor.now (life_of c.args.life) (past c.args.before.now) f) m) []
          (all c.args.descriptor.now c.args.bytes.now))
          (all c.args.descriptor.now c.args.bytes.now) (rest c.args.descriptor.now c.args.bytes.now c.messages.at) (rest c.args.descriptor.now c.args.bytes.now c.in-Some.next)
          (message_of c.in-Some.message) c.messages.count c.messages.invariant.on c.in-Some.ensures.before (λ s. sym one ∙ s) (λ s. one ∙ s);
    }

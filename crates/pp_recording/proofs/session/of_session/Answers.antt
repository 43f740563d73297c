use Rattle.std.proofs.Common.{ℕ, List, sym, subst, ◌∙◌, ap}
use Rattle.hex.specs.Hex.{IsBytes}
use Rattle.pp_outside.specs.MemoryLink.{in_order}
use Rattle.pp_tree.specs.Book.{entry}
use Rattle.pp_recording.specs.Recording.{IsWithin}
use Rattle.pp_recording.specs.State.{recorded}
use Rattle.pp_recording.specs.declared.session.Size.{Size}
use Rattle.pp_recording.proofs.Sessions.{IsMade, made, oversize, within}
use Rattle.pp_recording.proofs.session.of_session.Goals as goal
use Rattle.pp_recording.proofs.session.of_session.Goals.{After-fits}

abbrev size : After-fits → Size
size c = record { records = c.len.result; nodes = c.copy_all-nodes.result; bytes = c.len-2.result }

made_here : (c : After-fits) → IsMade c.args.descriptor.now (entry c.args.book.now) (entry c.copy_all-nodes.new.to) (in_order c.args.link.now)
    c.in-Ok.traffic (size c)
made_here c =
    made c.args.descriptor.now (entry c.args.book.now) _ (entry c.copy_all-nodes.new.to) (in_order c.args.link.now) c.in-Ok.traffic (size c)
    c.in-Ok-text_of.text.items c.root.ensures.valid (subst (λ (xs : List ℕ). IsBytes xs) c.root.ensures.root c.tell_digest.ensures.bytes)
    c.copy_all-nodes.ensures.digests c.copy_all-nodes.ensures.copied c.in-Ok.ensures c.copy_all-nodes.ensures.count
    c.deref.result.now c.deref-2.result.now c.deref.ensures.value c.deref-2.ensures.value c.in-Ok-text_of.ensures
    (c.len.ensures ∙ c.in-Ok.traffic.entries.ok.0) (c.len-2.ensures ∙ c.in-Ok-text_of.text.ok.0)

pub returns-then-not-fits-clause-fault : goal.returns-then-not-fits-clause-fault
returns-then-not-fits-clause-fault c =
    oversize c.args.descriptor.now (entry c.args.book.now) (entry c.copy_all-nodes.new.to) (in_order c.args.link.now) c.in-Ok.traffic
    (size c.before.before.before.before.before) (made_here c.before.before.before.before.before)
    (λ small. let told = c.fits.ensures.1 small in let refused = c.if-not-fits.true in cc)

pub new-requires : goal.new-requires
new-requires c =
    let is = made_here c.before.before in record {
      book = c.copy_all-nodes.ensures.prepared;
      filled = c.in-Ok.ensures.filled;
      within = subst (λ r. IsWithin r) (sym is.same) (within c.args.descriptor.now (entry c.args.book.now) (entry c.copy_all-nodes.new.to) _
          c.in-Ok.traffic.is_kept (size c.before.before) is.copy (c.fits.ensures.0 c.if-not-fits.false));
    }

pub returns-clause-ok : goal.returns-clause-ok
returns-clause-ok c =
    let is = made_here c.before.before.before.before in record {
      is = ap (λ r. recorded r) c.new.ensures.is ∙ is.same;
      within = within c.args.descriptor.now (entry c.args.book.now) (entry c.copy_all-nodes.new.to) _ c.in-Ok.traffic.is_kept
          (size c.before.before.before.before) is.copy (c.fits.ensures.0 c.if-not-fits.false);
      same = λ k j at. ap (λ r. entry r.book k j) c.new.ensures.is ∙ c.copy_all-nodes.ensures.copied.within k j at;
      none = λ k j not. ap (λ r. entry r.book k j) c.new.ensures.is ∙ c.copy_all-nodes.ensures.copied.others k j not ∙ c.in-Ok-blank.ensures.absent k j;
    }

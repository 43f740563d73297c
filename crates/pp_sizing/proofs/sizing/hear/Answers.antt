use Rattle.std.proofs.Common.{inl, inr, take, refl, subst, Result}
use Rattle.pp_outside.specs.Outside.{DoesNext}
use Rattle.pp_outside.specs.declared.link.Event.{Event}
use Rattle.pp_outside.specs.declared.link.LinkFault.{LinkFault}
use Rattle.pp_sizing.proofs.Hearing.{bytes_fit, gained_event}
use Rattle.pp_sizing.proofs.sizing.hear.Goals as goal

pub returns-in-Ok : goal.returns-in-Ok
returns-in-Ok c old new does =
    let next = subst (λ (r : Result Event LinkFault). DoesNext {E = LinkFault} old c.args.buffer.now r new) c.in-Ok.is does in
    record {
      nexts = next.nexts;
      bound = next.bound;
      later = next.cause.later;
      does = inl (record {
        event = c.in-Ok.event;
        bytes = take c.size.result c.args.buffer.now;
        is = bytes_fit c.in-Ok.event c.args.buffer.now c.size.result c.size.ensures c.requires.room next.fits;
        absorbs = c.absorb.ensures.exact;
        gained = gained_event c.in-Ok.event c.args.buffer.now c.size.result c.size.ensures old new next.gained;
      });
    }

pub returns-in-Err : goal.returns-in-Err
returns-in-Err c old new does =
    let next = subst (λ (r : Result Event LinkFault). DoesNext {E = LinkFault} old c.args.buffer.now r new) c.in-Err.is does in
    record {
      nexts = next.nexts;
      bound = next.bound;
      later = next.cause.later;
      does = inr (record { none = refl; counted = c.refused.ensures; traffic = next.refused; risen = next.cause.risen refl });
    }

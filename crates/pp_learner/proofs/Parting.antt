-- What a learner sends when it closes its channels: closing handshakes alone.
use Rattle.std.proofs.Common.{◌≡◌, ℕ, zero, suc, Bool, true, false, Option, Some, None, [], ◌∷◌, ◌++◌, sym, ◌∙◌, ap, subst, append_assoc}
use Rattle.std.specs.Prelude.{if◌then◌else◌, option_map}
use Rattle.std.specs.List.{AllByRecursion}
use Rattle.pp_terms.specs.format.Descriptor.{Descriptor}
use Rattle.pp_terms.specs.format.Messages as plain
use Rattle.pp_terms.specs.format.Messages.{Datagram, Message}
use Rattle.pp_terms.specs.format.Traffic.{Sent}
use Rattle.pp_terms.proofs.Risings.{gains_nothing, gains_twice}
use Rattle.pp_traffic.specs.Life.{closes}
use Rattle.pp_traffic.specs.Turns.{is_closing}
use Rattle.pp_outside.specs.Outside.{address_of}
use Rattle.pp_counts.specs.declared.note.Note.TheVariants as counts
use Rattle.pp_channels.specs.Seats.{channel_at}
use Rattle.pp_channels.specs.declared.channel.Channel.{Channel}
use Rattle.pp_lives.specs.Reading.{is_proven, is_waiting}
use Rattle.pp_draft.specs.Datagrams.{IsDatagram}
use Rattle.pp_draft.specs.declared.note.Note.TheVariants.{Close}
use Rattle.pp_targets.specs.Names.{name_of}
use Rattle.pp_targets.specs.declared.target.SwarmName.{SwarmName}
use Rattle.pp_learner.specs.Following.{AreTallied}
use Rattle.pp_learner.specs.Laws.{CloseParts, PartsAll, Speaks}
use Rattle.pp_learner.specs.Learners.{IsWhole, LearnerState}
use Rattle.pp_learner.specs.Sending.{EachBelow, PartsAt, Scene, SendsDue, SendsOn, after_sending, farewell_of, on_channel, on_proven}
use Rattle.pp_learner.specs.Standing.{stand_in}
use Rattle.pp_learner.proofs.Modest.{all_both}
use Rattle.pp_learner.proofs.Speaking.{alone_same, alone_twice, due_alone, said_speaks, whole_after}
use Rattle.pp_learner.proofs.Tallying.{other_tallied, sent_tallied}

-- ---- one step behind another

-- a step keeps a learner whole
record Parts (old new : Scene) : Type 0 where
  whole : IsWhole new.parts
  all : PartsAll old new

parts_none : (old new : Scene) → new ≡ old → IsWhole old.parts → Parts old new
parts_none old new same whole = record {
  whole = subst (λ (x : Scene). IsWhole x.parts) (sym same) whole;
  all = record {
    added = [];
    gained = gains_nothing old.link.traffic new.link.traffic (ap (λ (x : Scene). x.link.traffic) same);
    tallies = λ refused past a. subst (λ (x : Scene). AreTallied refused x.parts.counts past) (sym same) a;
    closing = tt;
    speaks = tt;
    name = ap (λ (x : Scene). x.parts.name) same;
    alone = alone_same old.link new.link (ap (λ (x : Scene). x.link) same);
  };
}

parts_then : (a b c : Scene) → PartsAll a b → PartsAll b c → PartsAll a c
parts_then a b c x y = record {
  added = y.added ++ x.added;
  gained = gains_twice a.link.traffic b.link.traffic c.link.traffic x.added y.added x.gained y.gained;
  tallies = λ refused past k. subst (AreTallied refused c.parts.counts) (sym (append_assoc y.added x.added past)) (y.tallies refused (x.added ++ past) (x.tallies refused past k));
  closing = all_both (λ r. is_closing (stand_in (name_of a.parts.name)) r ≡ true) y.added x.added
      (subst (λ (n : SwarmName). AllByRecursion (λ r. is_closing (stand_in (name_of n)) r ≡ true) y.added) x.name y.closing) x.closing;
  speaks = all_both (Speaks (stand_in (name_of a.parts.name))) y.added x.added
      (subst (λ (n : SwarmName). AllByRecursion (Speaks (stand_in (name_of n))) y.added) x.name y.speaks) x.speaks;
  name = y.name ∙ x.name;
  alone = alone_twice a.link b.link c.link x.alone y.alone;
}

-- ---- a closing handshake

module _ (old new : Scene) (moment seat : ℕ) (whole : IsWhole old.parts) where
  -- it was sent, or refused
  close_parts_with : (c : Channel) (sent : Bool) → SendsDue old.parts.outbox (on_channel c Close) moment sent old.link new.link
      → new.parts ≡ after_sending seat (on_channel c Close) sent old.parts → Parts old new
  close_parts_with c true sends is = record {
    whole = subst IsWhole (sym is) (whole_after seat (on_channel c Close) old.parts whole);
    all = record {
      added = Sent moment (address_of c.address) sends.bytes ∷ [];
      gained = sends.sends.outcome;
      tallies = λ refused past a. subst (λ (p : LearnerState). AreTallied refused p.counts (Sent moment (address_of c.address) sends.bytes ∷ past)) (sym is)
          (sent_tallied refused moment (address_of c.address) sends.bytes past old.parts.counts a);
      closing = (closing_it, tt);
      speaks = (said_speaks old.parts (on_channel c Close) moment true old.link new.link whole tt sends, tt);
      name = ap (λ (p : LearnerState). p.name) is;
      alone = due_alone old.parts.outbox (on_channel c Close) moment true old.link new.link sends;
    };
  }
    where
      closing_it : closes (plain.datagram (stand_in (name_of old.parts.name)).method (stand_in (name_of old.parts.name)).chunk sends.bytes).messages.read ≡ true
      closing_it =
          let w = subst (λ (x : Descriptor). IsDatagram x (on_channel c Close).to.channel sends.messages sends.bytes) whole.swarm sends.written in
          ap (λ (x : Datagram). closes x.messages.read) w.read ∙ ap closes sends.said
  close_parts_with c false sends is = record {
    whole = subst IsWhole (sym is) (record { size = whole.size; swarm = whole.swarm; seats = whole.seats });
    all = record {
      added = [];
      gained = gains_nothing old.link.traffic new.link.traffic sends.sends.outcome.0;
      tallies = λ refused past a. subst (λ (p : LearnerState). AreTallied refused p.counts past) (sym is) (other_tallied refused past counts.SendFault old.parts.counts tt a);
      closing = tt;
      speaks = tt;
      name = ap (λ (p : LearnerState). p.name) is;
      alone = due_alone old.parts.outbox (on_channel c Close) moment false old.link new.link sends;
    };
  }

  proven_parts : (c : Channel) (b : Bool) → SendsOn (if b then option_map (on_channel c) (Some Close) else None) seat moment old new → Parts old new
  proven_parts c true sends = close_parts_with c sends.0 sends.1 sends.2
  proven_parts c false sends = parts_none old new sends whole

  waiting_parts : (c : Channel) (b : Bool) → SendsOn (if b then None else on_proven c (Some Close)) seat moment old new → Parts old new
  waiting_parts c true sends = parts_none old new sends whole
  waiting_parts c false sends = proven_parts c (is_proven c) sends

  seat_parts : (o : Option Channel) → SendsOn (farewell_of o) seat moment old new → Parts old new
  seat_parts None sends = parts_none old new sends whole
  seat_parts (Some c) sends = waiting_parts c (is_waiting c) sends

-- ---- all seats

each_parts : (n moment : ℕ) (old new : Scene) → IsWhole old.parts → EachBelow n (PartsAt moment) old new → Parts old new
unfolding EachBelow
each_parts zero moment old new whole each = parts_none old new each whole
each_parts (suc n) moment old new whole each =
    let before = each_parts n moment old each.0 whole each.1 in
    let last = seat_parts each.0 new moment n before.whole (channel_at each.0.parts.lives n) each.2 in
    record { whole = last.whole; all = parts_then old each.0 new before.all last.all }

pub close_parts : CloseParts
close_parts moment old new whole each = (each_parts 64 moment old new whole each).all

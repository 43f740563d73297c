use Rattle.std.proofs.Common.{sym, ◌∙◌, ap, subst}
use Rattle.std.proofs.lemmas.Bool.{false≢true}
use Rattle.pp_terms.specs.format.Descriptor.{Descriptor}
use Rattle.pp_counts.specs.declared.counts.Counts.{Counts}
use Rattle.pp_counts.specs.declared.note.Note.{Note}
use Rattle.std.specs.Prelude.{Option}
use Rattle.pp_lives.specs.Arriving.{Arrives}
use Rattle.pp_targets.specs.Names.{name_of}
use Rattle.pp_learner.specs.Standing.{stand_in}
use Rattle.pp_learner.specs.Reading.{after_some}
use Rattle.pp_learner.specs.Absorbing.{after_arrival, learned_from}
use Rattle.pp_learner.proofs.Arrivals.{on_proven, opens_none, learned_so}
use Rattle.pp_learner.proofs.parts.Parts.take_datagram.Goals as goal

pub returns-clause-takes : goal.returns-clause-takes
returns-clause-takes c =
    let arrives = subst (λ (d : Descriptor). Arrives d c.args.self.now.lives c.args.from.now c.args.self.now.moment c.args.bytes.now c.arrive-arrival.result c.arrive-arrival.new.self)
    (c.descriptor-descriptor.ensures ∙ c.requires.swarm) c.arrive-arrival.ensures.exact in record {
      zero = λ e. absurd (false≢true (sym c.if-is_for_zero.false ∙ c.is_for_zero.ensures ∙ e));
      other = λ e. record {
        arrival = c.arrive-arrival.result;
        table = c.arrive-arrival.new.self;
        arrives = arrives;
        opens_none = opens_none (stand_in (name_of c.args.self.now.name)) c.args.self.now.lives c.args.from.now c.args.self.now.moment c.args.bytes.now c.arrive-arrival.result c.arrive-arrival.new.self e arrives;
        proven = on_proven c.arrive-arrival.result c.arrive-arrival.new.self c.arrive-arrival.ensures.proven;
        after = c.take_arrival.ensures.exact
            ∙ ap (λ (k : Counts). after_arrival c.arrive-arrival.result c.args.bytes.now (record c.args.self.now { lives = c.arrive-arrival.new.self; counts = k }))
            (c.count.ensures ∙ ap (λ (o : Option Note). after_some o c.args.self.now.counts) c.note_of.ensures);
        answers = c.take_arrival.ensures.learned
            ∙ ap (λ (k : Counts). learned_from c.arrive-arrival.result c.args.bytes.now (record c.args.self.now { lives = c.arrive-arrival.new.self; counts = k }))
            (c.count.ensures ∙ ap (λ (o : Option Note). after_some o c.args.self.now.counts) c.note_of.ensures);
        learned = learned_so c.arrive-arrival.result c.args.bytes.now c.args.self.now c.arrive-arrival.new.self c.count.new.counts c.take_arrival.result
            c.requires.seats c.arrive-arrival.ensures.seated c.take_arrival.ensures.learned c.take_arrival.ensures.tells;
      };
    }

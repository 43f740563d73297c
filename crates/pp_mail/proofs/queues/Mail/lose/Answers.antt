use Rattle.std.proofs.Common.{◌≡◌, false, [], drop, map, sym, ◌∙◌, ap, subst}
use Rattle.std.specs.Prelude.{is_some}
use Rattle.std.proofs.lemmas.List.{drop-map}
use Rattle.pp_mail.specs.Letters.{letter_at, mail_of, times_in, StandOnce, keys_of}
use Rattle.pp_mail.specs.Mail.{with_queue}
use Rattle.pp_mail.proofs.Letters.{first_held, once-lost, mail-lost}
use Rattle.pp_mail.proofs.Kept.{in_keys, keys_at, keys-set, mail-set, once-set, none_of}
use Rattle.pp_mail.proofs.queues.Mail.lose.Goals as goal

-- ---- one waits

pub remove-requires : goal.remove-requires
remove-requires c =
    let within = in_keys c.self.inside c.args.self.now c.self.view_is c.args.peer c.requires in
    first_held c.self.inside.letters (keys_of c.self.inside) c.self.invariant c.args.peer c.in-Some.key c.pop_front.new.self.items within
    (keys_at c.self.inside c.args.self.now c.self.view_is c.args.peer c.requires c.from.result c.from.ensures
    c.index_mut.result.now c.index_mut.ensures.value ∙ c.in-Some.ensures.items)

pub invariant_of-self : goal.invariant_of-self
invariant_of-self c =
    let within = in_keys c.self.inside c.args.self.now c.self.view_is c.args.peer c.requires in
    subst (StandOnce c.remove.new.self)
    (sym (keys-set c.self.inside c.args.self.now c.self.view_is c.args.peer c.requires c.from.result c.from.ensures c.pop_front.new.self))
    (once-lost c.self.inside.letters (keys_of c.self.inside) c.self.invariant c.remove.new.self c.in-Some.key c.args.peer within
    c.pop_front.new.self.items
    (keys_at c.self.inside c.args.self.now c.self.view_is c.args.peer c.requires c.from.result c.from.ensures
    c.index_mut.result.now c.index_mut.ensures.value ∙ c.in-Some.ensures.items)
    c.remove.ensures.updates)

pub returns-in-Some : goal.returns-in-Some
returns-in-Some c =
    let within = in_keys c.self.inside c.args.self.now c.self.view_is c.args.peer c.requires in
    ap (mail_of c.remove.new.self)
    (keys-set c.self.inside c.args.self.now c.self.view_is c.args.peer c.requires c.from.result c.from.ensures c.pop_front.new.self)
    ∙ mail-lost c.self.inside.letters c.remove.new.self (keys_of c.self.inside) c.self.invariant c.in-Some.key c.args.peer within
    c.pop_front.new.self.items
    (keys_at c.self.inside c.args.self.now c.self.view_is c.args.peer c.requires c.from.result c.from.ensures
    c.index_mut.result.now c.index_mut.ensures.value ∙ c.in-Some.ensures.items)
    c.remove.ensures.updates
    ∙ ap (with_queue c.args.peer (drop 1)) c.self.view_is

-- ---- none waits

pub invariant_of-self-in_default : goal.invariant_of-self-in_default
invariant_of-self-in_default c =
    let queue = c.index_mut.result.now in
    let nothing : is_some c.pop_front.result ≡ false = ap is_some c.in_default.is in
    let none : queue.items ≡ [] = none_of queue.items queue.len queue.ok.0 (λ h. let some = c.pop_front.ensures.variant.1 h in cc) in
    once-set c.self.inside c.args.self.now c.self.view_is c.args.peer c.requires c.from.result c.from.ensures queue c.index_mut.ensures.value
    c.pop_front.new.self
    (λ key. ap (times_in key) (c.pop_front.ensures.rest ∙ ap (drop 1) none ∙ sym none)) c.self.invariant

pub returns-in_default : goal.returns-in_default
returns-in_default c =
    mail-set c.self.inside c.args.self.now c.self.view_is c.args.peer c.requires c.from.result c.from.ensures
    c.index_mut.result.now c.index_mut.ensures.value c.pop_front.new.self (drop 1)
    (ap (map (letter_at c.self.inside.letters)) c.pop_front.ensures.rest
    ∙ sym (drop-map (letter_at c.self.inside.letters) 1 c.index_mut.result.now.items))

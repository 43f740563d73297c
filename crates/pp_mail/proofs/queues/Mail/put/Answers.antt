use Rattle.std.proofs.Common.{ℕ, ◌++◌, ◌∷◌, [], Some, List, map, refl, sym, ◌∙◌, ap, subst, set}
use Rattle.slab.specs.Slab.{Slab as Slots, Updates}
use Rattle.pp_mail.specs.declared.queues.Letter.{Letter}
use Rattle.pp_mail.specs.Letters.{queued, letter_at, mail_of, times_in, StandOnce, keys_of}
use Rattle.pp_mail.specs.Mail.{with_queue}
use Rattle.pp_mail.proofs.Letters.{once-put, mail-put}
use Rattle.pp_mail.proofs.Kept.{items_of, in_keys, keys_at, keys-set, mail-set, once-set, once-kept, mail-kept, unchanged, on_err}
use Rattle.pp_mail.proofs.queues.Mail.put.Goals as goal

-- ---- no memory for the key

pub invariant_of-self-in_err-push_back : goal.invariant_of-self-in_err-push_back
invariant_of-self-in_err-push_back c =
    once-kept c.self.inside.letters c.reserve.new.self (map items_of (set c.self.inside.queues.items c.from.result c.push_back.new.self))
    (ap (λ (s : Slots Letter). s.slots) c.reserve.ensures.rest_kept)
    (once-set c.self.inside c.args.self.now c.self.view_is c.args.peer c.requires c.from.result c.from.ensures
    c.index_mut.result.now c.index_mut.ensures.value c.push_back.new.self
    (λ key. ap (times_in key) c.in_err-push_back.ensures.items) c.self.invariant)

pub returns-in_err-push_back-clause-err : goal.returns-in_err-push_back-clause-err
returns-in_err-push_back-clause-err c =
    on_err c.from_residual-in_err-push_back.result
    (mail-kept c.self.inside.letters c.reserve.new.self (map items_of (set c.self.inside.queues.items c.from.result c.push_back.new.self))
    (ap (λ (s : Slots Letter). s.slots) c.reserve.ensures.rest_kept)
    ∙ mail-set c.self.inside c.args.self.now c.self.view_is c.args.peer c.requires c.from.result c.from.ensures
    c.index_mut.result.now c.index_mut.ensures.value c.push_back.new.self (λ q. q)
    (ap (map (letter_at c.self.inside.letters)) c.in_err-push_back.ensures.items)
    ∙ sym (unchanged c.args.peer (λ q. q) c.args.self.now refl))

-- ---- the letter is put

pub invariant_of-self-2 : goal.invariant_of-self-2
invariant_of-self-2 c =
    let key = c.vacant_key-key.result in
    let slots = ap (λ (s : Slots Letter). s.slots) c.reserve.ensures.rest_kept in
    let same = c.insert_reserved.ensures.key ∙ sym c.vacant_key-key.ensures.value in
    let updates = subst (λ (k : ℕ). Updates c.reserve.new.self c.insert_reserved.new.self k (Some c.args.letter)) same
    c.insert_reserved.ensures.updates in
    let queue = keys_at c.self.inside c.args.self.now c.self.view_is c.args.peer c.requires c.from.result c.from.ensures
    c.index_mut.result.now c.index_mut.ensures.value in
    subst (StandOnce c.insert_reserved.new.self)
    (sym (keys-set c.self.inside c.args.self.now c.self.view_is c.args.peer c.requires c.from.result c.from.ensures c.push_back.new.self
    ∙ ap (set (keys_of c.self.inside) c.args.peer) (c.in_ok-push_back.ensures.items ∙ ap (λ (q : List ℕ). q ++ key ∷ []) (sym queue))))
    (once-put c.reserve.new.self (keys_of c.self.inside)
    (once-kept c.self.inside.letters c.reserve.new.self (keys_of c.self.inside) slots c.self.invariant)
    c.insert_reserved.new.self key c.args.peer (in_keys c.self.inside c.args.self.now c.self.view_is c.args.peer c.requires)
    c.args.letter c.vacant_key-key.ensures.vacant updates)

pub returns-clause-ok : goal.returns-clause-ok
returns-clause-ok c =
    let key = c.vacant_key-key.result in
    let slots = ap (λ (s : Slots Letter). s.slots) c.reserve.ensures.rest_kept in
    let same = c.insert_reserved.ensures.key ∙ sym c.vacant_key-key.ensures.value in
    let updates = subst (λ (k : ℕ). Updates c.reserve.new.self c.insert_reserved.new.self k (Some c.args.letter)) same
    c.insert_reserved.ensures.updates in
    let queue = keys_at c.self.inside c.args.self.now c.self.view_is c.args.peer c.requires c.from.result c.from.ensures
    c.index_mut.result.now c.index_mut.ensures.value in
    ap (mail_of c.insert_reserved.new.self)
    (keys-set c.self.inside c.args.self.now c.self.view_is c.args.peer c.requires c.from.result c.from.ensures c.push_back.new.self
    ∙ ap (set (keys_of c.self.inside) c.args.peer) (c.in_ok-push_back.ensures.items ∙ ap (λ (q : List ℕ). q ++ key ∷ []) (sym queue)))
    ∙ mail-put c.reserve.new.self c.insert_reserved.new.self (keys_of c.self.inside)
    (once-kept c.self.inside.letters c.reserve.new.self (keys_of c.self.inside) slots c.self.invariant)
    key c.args.peer (in_keys c.self.inside c.args.self.now c.self.view_is c.args.peer c.requires)
    c.args.letter c.vacant_key-key.ensures.vacant updates
    ∙ ap (with_queue c.args.peer (λ queue. queue ++ queued c.args.letter ∷ []))
    (mail-kept c.self.inside.letters c.reserve.new.self (keys_of c.self.inside) slots ∙ c.self.view_is)

use Rattle.std.proofs.Common.{◌≡◌, ◌++◌, [], take, drop, map, sym, ◌∙◌, ap, arith}
use borrow.Author.Tests.{eqb-true}
use Rattle.pp_mail.specs.Letters.{letter_at, times_in}
use Rattle.pp_mail.proofs.Letters.{times_in-delayed, map-delayed}
use Rattle.pp_mail.proofs.Kept.{mail-set, once-set, none_of}
use Rattle.pp_mail.proofs.queues.Mail.delay.Goals as goal

pub returns-then-is_empty : goal.returns-then-is_empty
returns-then-is_empty c =
    let queue = c.index_mut-queue.result.now in
    let zero : queue.len ≡ 0 = eqb-true queue.len 0 (sym c.is_empty.ensures ∙ c.if-is_empty.true) in
    let none : queue.items ≡ [] = none_of queue.items queue.len queue.ok.0 (λ h. omega arith) in
    mail-set c.self.inside c.args.self.now c.self.view_is c.args.peer c.requires c.from.result c.from.ensures queue c.index_mut-queue.ensures.value
    queue (λ q. drop 1 q ++ take 1 q)
    (ap (map (letter_at c.self.inside.letters)) none
    ∙ ap (λ keys. drop 1 (map (letter_at c.self.inside.letters) keys) ++ take 1 (map (letter_at c.self.inside.letters) keys)) (sym none))

pub invariant_of-self-2 : goal.invariant_of-self-2
invariant_of-self-2 c =
    once-set c.self.inside c.args.self.now c.self.view_is c.args.peer c.requires c.from.result c.from.ensures
    c.index_mut-queue.result.now c.index_mut-queue.ensures.value c.rotate_left.new.self
    (λ key. ap (times_in key) c.rotate_left.ensures.items ∙ times_in-delayed key c.index_mut-queue.result.now.items) c.self.invariant

pub returns : goal.returns
returns c =
    mail-set c.self.inside c.args.self.now c.self.view_is c.args.peer c.requires c.from.result c.from.ensures
    c.index_mut-queue.result.now c.index_mut-queue.ensures.value c.rotate_left.new.self (λ q. drop 1 q ++ take 1 q)
    (ap (map (letter_at c.self.inside.letters)) c.rotate_left.ensures.items
    ∙ map-delayed (letter_at c.self.inside.letters) c.index_mut-queue.result.now.items)

use Rattle.std.proofs.Common.{◌≡◌, ◌<◌, List, ℕ, ◌∷◌, [], ◌++◌, length, ◌∙◌, ap, subst, arith}
use Rattle.std.specs.Prelude.{OnOk}
use Rattle.pp_outside.specs.Outside as outside
use Rattle.pp_terms.specs.format.Traffic.{Address}
use Rattle.pp_world.specs.World.{Queued, address_of}
use Rattle.pp_mail.specs.Mail.{queue_of, with_queue}
use Rattle.pp_mail.proofs.Kept.{length-kept, length-waiting}
use Rattle.pp_mail.proofs.Delivered.{delivered-elsewhere, delivered-full, delivered-there}
use Rattle.pp_mail.proofs.queues.Mail.deliver.Goals as goal

pub returns-in_default-clause-ok : goal.returns-in_default-clause-ok
returns-in_default-clause-ok c =
    let peers : c.len.result ≡ length c.args.self.now =
    c.len.ensures ∙ c.self.inside.queues.ok.0 ∙ length-kept c.self.inside c.args.self.now c.self.view_is in
    delivered-elsewhere c.args.sender (outside.address_of c.args.to.now) c.args.bytes.now c.args.self.now
    (λ p h. c.in_default.ensures.none p (omega arith))

pub returns-then-len-ge-MOST_QUEUED-clause-ok : goal.returns-then-len-ge-MOST_QUEUED-clause-ok
returns-then-len-ge-MOST_QUEUED-clause-ok c =
    let within : c.in-Some.peer < length c.args.self.now =
    subst (λ n. c.in-Some.peer < n)
    (c.len.ensures ∙ c.self.inside.queues.ok.0 ∙ length-kept c.self.inside c.args.self.now c.self.view_is) c.in-Some.ensures.within in
    let waits : length (queue_of c.in-Some.peer c.args.self.now) ≡ c.index.result.now.len =
    length-waiting c.self.inside c.args.self.now c.self.view_is c.in-Some.peer within c.from.result c.from.ensures
    c.index.result.now c.index.ensures in
    delivered-full c.args.sender (outside.address_of c.args.to.now) c.args.bytes.now c.args.self.now c.in-Some.peer within c.in-Some.ensures.same
    (omega arith)

-- a datagram more in a queue
abbrev joined : ℕ → List (List Queued) → List ℕ → Address → List (List Queued)
joined peer mail bytes sender = with_queue peer (λ queue. queue ++ record { sender = sender; bytes = bytes } ∷ []) mail

pub returns-clause-ok : goal.returns-clause-ok
returns-clause-ok c =
    let within : c.in-Some.peer < length c.args.self.now =
    subst (λ n. c.in-Some.peer < n)
    (c.len.ensures ∙ c.self.inside.queues.ok.0 ∙ length-kept c.self.inside c.args.self.now c.self.view_is) c.in-Some.ensures.within in
    let waits : length (queue_of c.in-Some.peer c.args.self.now) ≡ c.index.result.now.len =
    length-waiting c.self.inside c.args.self.now c.self.view_is c.in-Some.peer within c.from.result c.from.ensures
    c.index.result.now c.index.ensures in
    subst (λ (mail : List (List Queued)). OnOk c.put.result (c.put.new.self ≡ mail))
    (ap (joined c.in-Some.peer c.args.self.now c.in_ok-bytes.bytes.items) c.address_of-sender.ensures
    ∙ ap (λ (bytes : List ℕ). joined c.in-Some.peer c.args.self.now bytes (address_of c.args.sender)) c.in_ok-bytes.ensures.items
    ∙ delivered-there c.args.sender (outside.address_of c.args.to.now) c.args.bytes.now c.args.self.now c.in-Some.peer within c.in-Some.ensures.same
    (omega arith))
    c.put.ensures.ok

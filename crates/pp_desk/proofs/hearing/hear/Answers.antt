use Rattle.std.proofs.Common.{⊎_elim}
use Rattle.pp_desk.proofs.Heard.{idle_goes}
use Rattle.pp_desk.proofs.hearing.hear.Goals as goal

pub returns-in-Have-clause-hears : goal.returns-in-Have-clause-hears
returns-in-Have-clause-hears c = rw c.in-Have.is (c.hear_have.ensures.hears c.args.now)

pub returns-in-Integrity-clause-hears : goal.returns-in-Integrity-clause-hears
returns-in-Integrity-clause-hears c = rw c.in-Integrity.is (c.hear_integrity.ensures.hears c.args.now)

pub returns-in-Request-clause-hears : goal.returns-in-Request-clause-hears
returns-in-Request-clause-hears c = rw c.in-Request.is (c.hear_request.ensures.hears c.args.now)

pub returns-in-Cancel-clause-hears : goal.returns-in-Cancel-clause-hears
returns-in-Cancel-clause-hears c = rw c.in-Cancel.is (c.hear_cancel.ensures.hears c.args.now)

pub returns-in-Choke-clause-hears : goal.returns-in-Choke-clause-hears
returns-in-Choke-clause-hears c = rw c.in-Choke.is (c.hear_choke.ensures.hears c.args.now)

pub returns-in-Unchoke-clause-hears : goal.returns-in-Unchoke-clause-hears
returns-in-Unchoke-clause-hears c = rw c.in-Unchoke.is (c.hear_unchoke.ensures.hears c.args.now)

pub returns-in-Handshake-clause-goes : goal.returns-in-Handshake-clause-goes
returns-in-Handshake-clause-goes c = idle_goes _ _ _ (λ n. ⊎_elim
    (λ handshake. rw handshake.2 tt)
    (⊎_elim
    (λ chunk. absurd (rw chunk.3 at c.requires.other))
    (⊎_elim (λ address. rw address.2 tt) (⊎_elim (λ question. rw question tt) (λ address. rw address.2 tt))))
    c.in-Handshake.is)

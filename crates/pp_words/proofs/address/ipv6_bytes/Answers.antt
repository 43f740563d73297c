use Rattle.std.proofs.Common.{sym, ◌∙◌}
use Rattle.std.proofs.lemmas.Bool.{true≢false}
use Rattle.pp_words.proofs.AddressTexts.{no_point, library_groups, own_groups}
use Rattle.pp_words.proofs.address.ipv6_bytes.Goals as goal

pub returns-then-contains : goal.returns-then-contains
returns-then-contains c = λ groups is.
    let clean = no_point c.args.inner.now groups is in
    true≢false (sym c.if-contains.true ∙ c.contains.ensures.value ∙ clean)

pub returns-in-Ok : goal.returns-in-Ok
returns-in-Ok c =
    let clean = sym c.contains.ensures.value ∙ c.if-contains.false in
    (c.in-Ok.address.segments, own_groups c.args.inner.now c.in-Ok.address.segments clean c.in-Ok.ensures, c.octets.ensures)

pub returns-in-Err : goal.returns-in-Err
returns-in-Err c = λ groups is. c.in-Err.ensures (record { segments = groups }) (library_groups c.args.inner.now groups is)

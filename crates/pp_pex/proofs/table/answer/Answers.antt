use Rattle.std.proofs.Common.{◌++◌, [], ◌∷◌, ◌∙◌, sym, ap, cond, take, get_or, List}
use Rattle.std.proofs.lemmas.Grind.{take_at_read}
use Rattle.pp_outside.specs.declared.link.Address.{Address}
use Rattle.pp_outside.specs.declared.link.Address.TheVariants.{V4}
use Rattle.pp_pex.specs.declared.table.Contact.{Contact}
use Rattle.pp_pex.specs.Exchange.{is_told, answers}
use Rattle.pp_pex.proofs.Tables.{answers_more}
use Rattle.pp_pex.proofs.table.answer.Goals as goal

pub loop-contact-preserved : goal.loop-contact-preserved
loop-contact-preserved c =
    let contact : Contact = get_or c.args.table.now c.loop-contact.contact-index (record { address = V4 [] 0; moment = 0 }) in
    let front = take c.loop-contact.contact-index c.args.table.now in
    c.tell.ensures
    ∙ ap (λ (xs : List Address). cond (is_told c.args.asker c.args.now contact) (take 16 (xs ++ contact.address ∷ [])) xs) c.loop-contact.invariant
    ∙ sym (answers_more front contact c.args.asker c.args.now)
    ∙ ap (λ (xs : List Contact). answers xs c.args.asker c.args.now)
    (sym (take_at_read c.args.table.now c.loop-contact.contact-index (record { address = V4 [] 0; moment = 0 }) c.loop-contact-test.true).1)

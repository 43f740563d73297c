use Rattle.std.proofs.Common.{◌≡◌, inl, [], sym, ◌∙◌, ap, subst, arith}
use Rattle.pp_terms.specs.disk.Disk.{History}
use Rattle.pp_store.specs.Sound.{StaysSound}
use Rattle.pp_tree.specs.Book.{entry}
use Rattle.pp_tree.proofs.Rootedness.{book_alone}
use Rattle.pp_terms.proofs.Knowing.{known_on}
use Rattle.pp_scan.proofs.Reading.{len_keeps, no_bytes}
use Rattle.pp_scan.proofs.Finding.{found_after, only_after}
use Rattle.pp_scan.proofs.Holds.{root_known}
use Rattle.pp_store.proofs.Opening.{fresh_found, goes_on_same, goes_on_synced, goes_on_empty, sound_synced, syncs_after}
use Rattle.pp_store.proofs.keeping.open_file.Goals as goal

pub returns-in-Ok-eq0-clause-found : goal.returns-in-Ok-eq0-clause-found
returns-in-Ok-eq0-clause-found g c =
    fresh_found c.args.descriptor.now (g.D.Disk.state c.args.disk.now) (g.D.Disk.state c.len.new.self) (g.D.Disk.state c.begin.new.disk) (entry c.args.book.now) c.in-Ok-eq0.field-0 c.args.set c.begin.result
    c.in-Ok-eq0.ensures c.in-Ok-eq0.field-0-test c.requires.valid c.requires.alone c.requires.none c.begin.ensures.same c.begin.ensures.fault

pub returns-in-Ok-eq0-clause-book : goal.returns-in-Ok-eq0-clause-book
returns-in-Ok-eq0-clause-book g c = book_alone c.args.descriptor.now c.args.book.now c.requires.valid.root_length c.requires.descriptor c.requires.alone

pub returns-in-Ok-clause-found : goal.returns-in-Ok-clause-found
returns-in-Ok-clause-found g c =
    found_after c.args.descriptor.now (g.D.Disk.state c.args.disk.now) (g.D.Disk.state c.len.new.self) (g.D.Disk.state c.scan_into.new.disk) (entry c.scan_into.new.book)
    c.scan_into.result (len_keeps _ _ _ c.len.ensures) c.scan_into.ensures.found

pub returns-in-Err-clause-book : goal.returns-in-Err-clause-book
returns-in-Err-clause-book g c = book_alone c.args.descriptor.now c.args.book.now c.requires.valid.root_length c.requires.descriptor c.requires.alone

pub returns-in-Ok-eq0-clause-goes_on : goal.returns-in-Ok-eq0-clause-goes_on
returns-in-Ok-eq0-clause-goes_on g c known =
    goes_on_empty c.args.descriptor.now (g.D.Disk.state c.args.disk.now) (g.D.Disk.state c.begin.new.disk) c.in-Ok-eq0.field-0 (g.D.Disk.state c.len.new.self) c.requires.valid
    (g.met.D.Disk.whole c.args.disk.now known) c.in-Ok-eq0.ensures c.in-Ok-eq0.field-0-test known

pub returns-in-Ok-clause-goes_on : goal.returns-in-Ok-clause-goes_on
returns-in-Ok-clause-goes_on g c known =
    goes_on_synced c.args.descriptor.now (g.D.Disk.state c.args.disk.now).history (g.D.Disk.state c.len.new.self).history (g.D.Disk.state c.scan_into.new.disk).history
    (g.met.D.Disk.whole c.args.disk.now known) c.len.ensures.same
    (c.scan_into.ensures.looks.either (known_on (g.D.Disk.state c.args.disk.now) (g.D.Disk.state c.len.new.self) c.len.ensures.call.tells c.len.ensures.call.honest known))

pub returns-in-Err-clause-goes_on : goal.returns-in-Err-clause-goes_on
returns-in-Err-clause-goes_on g c known =
    goes_on_same c.args.descriptor.now (g.D.Disk.state c.args.disk.now).history (g.D.Disk.state c.len.new.self).history c.len.ensures.same

pub returns-in-Ok-eq0-clause-only : goal.returns-in-Ok-eq0-clause-only
returns-in-Ok-eq0-clause-only g c known = root_known c.args.descriptor.now _ (entry c.args.book.now) c.requires.alone

pub returns-in-Err-clause-only : goal.returns-in-Err-clause-only
returns-in-Err-clause-only g c known = root_known c.args.descriptor.now _ (entry c.args.book.now) c.requires.alone

pub returns-in-Ok-clause-only : goal.returns-in-Ok-clause-only
returns-in-Ok-clause-only g c =
    only_after c.args.descriptor.now (g.D.Disk.state c.args.disk.now) (g.D.Disk.state c.len.new.self) (entry c.scan_into.new.book) (len_keeps _ _ _ c.len.ensures) c.scan_into.ensures.only

pub returns-in-Ok-clause-unwritten : goal.returns-in-Ok-clause-unwritten
returns-in-Ok-clause-unwritten g c known some =
    syncs_after (g.D.Disk.state c.args.disk.now).history (g.D.Disk.state c.len.new.self).history (g.D.Disk.state c.scan_into.new.disk).history c.len.ensures.same
    (c.scan_into.ensures.looks.either (known_on (g.D.Disk.state c.args.disk.now) (g.D.Disk.state c.len.new.self) c.len.ensures.call.tells c.len.ensures.call.honest known))

pub returns-in-Ok-eq0-clause-unwritten : goal.returns-in-Ok-eq0-clause-unwritten
returns-in-Ok-eq0-clause-unwritten g c known some =
    absurd (omega (arith, some, c.in-Ok-eq0.ensures.counted known, c.in-Ok-eq0.field-0-test))

pub returns-in-Err-clause-unwritten : goal.returns-in-Err-clause-unwritten
returns-in-Err-clause-unwritten g c known some = inl c.len.ensures.same

pub returns-in-Ok-clause-sound : goal.returns-in-Ok-clause-sound
returns-in-Ok-clause-sound g c known =
    sound_synced c.args.descriptor.now (g.D.Disk.state c.args.disk.now).history (g.D.Disk.state c.len.new.self).history (g.D.Disk.state c.scan_into.new.disk).history
    (g.met.D.Disk.whole c.args.disk.now known) c.len.ensures.same
    (c.scan_into.ensures.looks.either (known_on (g.D.Disk.state c.args.disk.now) (g.D.Disk.state c.len.new.self) c.len.ensures.call.tells c.len.ensures.call.honest known))

pub returns-in-Ok-eq0-clause-sound : goal.returns-in-Ok-eq0-clause-sound
returns-in-Ok-eq0-clause-sound g c known =
    let old = g.D.Disk.state c.args.disk.now in
    let mid = g.D.Disk.state c.len.new.self in
    let empty : old.history.reads ≡ [] = no_bytes old.history.reads (sym (c.in-Ok-eq0.ensures.counted known) ∙ c.in-Ok-eq0.field-0-test) in
    subst (λ (h : History). StaysSound c.args.descriptor.now h (g.D.Disk.state c.begin.new.disk).history) c.len.ensures.same
    (c.begin.ensures.sound c.requires.valid (known_on old mid c.len.ensures.call.tells c.len.ensures.call.honest known)
    (ap (λ (h : History). h.reads) c.len.ensures.same ∙ empty))

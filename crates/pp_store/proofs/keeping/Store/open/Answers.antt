use Rattle.std.proofs.Common.{◌*◌, ℕ, ap, ◌∙◌, true, false, replicate}
use Rattle.pp_tree.specs.Book.{entry}
use Rattle.pp_tree.proofs.Rootedness.{book_alone}
use Rattle.pp_scan.proofs.Holds.{root_known}
use Rattle.pp_store.proofs.Opening.{opened_begins, opened_stands}
use Rattle.pp_store.proofs.Gated.{opened_gated}
use Rattle.pp_store.proofs.Marking.{none_size, slot_low}
use Rattle.pp_store.proofs.Beginnings.{opened_sized, opened_knows, opened_agrees, opened_taken, opened_one}
use Rattle.pp_store.proofs.keeping.Store.open.Goals as goal

pub returns-in-Ok-open_file-clause-begins : goal.returns-in-Ok-open_file-clause-begins
returns-in-Ok-open_file-clause-begins g c known =
    opened_begins c.args.descriptor.now (g.D.Disk.state c.args.disk.now) (g.D.Disk.state c.open_file.new.disk) (entry c.open_file.new.book) c.in-Ok-open_file.committed c.chunks.ensures.valid
    c.in-Ok-open_file.ensures.found known (c.in-Ok-open_file.ensures.opened known)

pub returns-in-Ok-open_file-clause-stands : goal.returns-in-Ok-open_file-clause-stands
returns-in-Ok-open_file-clause-stands g c known =
    opened_stands c.args.descriptor.now (g.D.Disk.state c.args.disk.now) (g.D.Disk.state c.open_file.new.disk) (entry c.open_file.new.book) c.in-Ok-open_file.committed c.chunks.ensures.valid
    c.in-Ok-open_file.ensures.found known (c.in-Ok-open_file.ensures.opened known)

pub returns-in-Err-none-clause-book : goal.returns-in-Err-none-clause-book
returns-in-Err-none-clause-book g c =
    book_alone c.args.descriptor.now c.args.book.now c.chunks.ensures.valid.root_length c.requires.descriptor c.requires.alone

pub returns-in-Err-none-clause-only : goal.returns-in-Err-none-clause-only
returns-in-Err-none-clause-only g c known = root_known c.args.descriptor.now _ (entry c.args.book.now) c.requires.alone

pub invariant_of-result : goal.invariant_of-result
invariant_of-result g c =
    opened_sized c.args.descriptor.now (g.D.Disk.state c.args.disk.now) (entry c.open_file.new.book) c.in-Ok-open_file.committed c.in-Ok.set c.find_pairs.new.pairs
    c.chunks.ensures.valid c.in-Ok-open_file.ensures.book.rooted c.in-Ok-open_file.ensures.found (c.in-Ok.ensures ∙ ap (λ (n : ℕ). replicate n false) c.chunks.ensures.chunks)
    c.find_pairs.ensures.found (c.find_pairs.ensures.len ∙ none_size c.in-Ok-new.bits _ c.in-Ok-new.ensures ∙ ap (λ (n : ℕ). 2 * n) c.chunks-3.ensures.chunks)

pub returns-in-Ok-open_file-clause-one : goal.returns-in-Ok-open_file-clause-one
returns-in-Ok-open_file-clause-one g c known =
    opened_one c.args.descriptor.now (g.D.Disk.state c.args.disk.now).history (g.D.Disk.state c.open_file.new.disk).history (c.in-Ok-open_file.ensures.opened known)

pub returns-in-Ok-open_file-clause-agrees : goal.returns-in-Ok-open_file-clause-agrees
returns-in-Ok-open_file-clause-agrees g c known =
    opened_agrees c.args.descriptor.now (g.D.Disk.state c.args.disk.now) (entry c.open_file.new.book) c.in-Ok-open_file.committed c.in-Ok.set c.find_pairs.new.pairs
    c.chunks.ensures.valid c.in-Ok-open_file.ensures.book.rooted c.in-Ok-open_file.ensures.found (c.in-Ok.ensures ∙ ap (λ (n : ℕ). replicate n false) c.chunks.ensures.chunks)
    c.find_pairs.ensures.found (c.find_pairs.ensures.len ∙ none_size c.in-Ok-new.bits _ c.in-Ok-new.ensures ∙ ap (λ (n : ℕ). 2 * n) c.chunks-3.ensures.chunks)
    (g.D.Disk.state c.open_file.new.disk).history true known (c.in-Ok-open_file.ensures.opened known)

pub returns-in-Ok-open_file-clause-taken : goal.returns-in-Ok-open_file-clause-taken
returns-in-Ok-open_file-clause-taken g c known =
    opened_taken c.args.descriptor.now (g.D.Disk.state c.args.disk.now) (entry c.open_file.new.book) c.in-Ok-open_file.committed c.in-Ok.set c.find_pairs.new.pairs
    c.chunks.ensures.valid c.in-Ok-open_file.ensures.book.rooted c.in-Ok-open_file.ensures.found (c.in-Ok.ensures ∙ ap (λ (n : ℕ). replicate n false) c.chunks.ensures.chunks)
    c.find_pairs.ensures.found (c.find_pairs.ensures.len ∙ none_size c.in-Ok-new.bits _ c.in-Ok-new.ensures ∙ ap (λ (n : ℕ). 2 * n) c.chunks-3.ensures.chunks)
    known (g.met.D.Disk.whole c.args.disk.now known)

pub returns-in-Ok-open_file-clause-knows : goal.returns-in-Ok-open_file-clause-knows
returns-in-Ok-open_file-clause-knows g c =
    opened_knows c.args.descriptor.now (g.D.Disk.state c.args.disk.now) (entry c.open_file.new.book) c.in-Ok-open_file.committed c.in-Ok.set c.find_pairs.new.pairs
    c.chunks.ensures.valid c.in-Ok-open_file.ensures.book.rooted c.in-Ok-open_file.ensures.found (c.in-Ok.ensures ∙ ap (λ (n : ℕ). replicate n false) c.chunks.ensures.chunks)
    c.find_pairs.ensures.found (c.find_pairs.ensures.len ∙ none_size c.in-Ok-new.bits _ c.in-Ok-new.ensures ∙ ap (λ (n : ℕ). 2 * n) c.chunks-3.ensures.chunks) true

pub returns-in-Ok-open_file-clause-marked : goal.returns-in-Ok-open_file-clause-marked
returns-in-Ok-open_file-clause-marked g c k j inner covers =
    c.find_pairs.ensures.found k j inner (slot_low c.args.descriptor.now k j c.chunks.ensures.valid inner covers)

pub returns-in-Err-new-clause-book : goal.returns-in-Err-new-clause-book
returns-in-Err-new-clause-book g c =
    book_alone c.args.descriptor.now c.args.book.now c.chunks.ensures.valid.root_length c.requires.descriptor c.requires.alone

pub returns-in-Err-new-clause-only : goal.returns-in-Err-new-clause-only
returns-in-Err-new-clause-only g c known = root_known c.args.descriptor.now _ (entry c.args.book.now) c.requires.alone

pub returns-in-Ok-open_file-clause-gated : goal.returns-in-Ok-open_file-clause-gated
returns-in-Ok-open_file-clause-gated g c known =
    opened_gated c.args.descriptor.now (g.D.Disk.state c.args.disk.now) (g.D.Disk.state c.open_file.new.disk).history (entry c.open_file.new.book) c.in-Ok-open_file.committed
    c.chunks.ensures.valid c.in-Ok-open_file.ensures.found known (c.in-Ok-open_file.ensures.opened known)

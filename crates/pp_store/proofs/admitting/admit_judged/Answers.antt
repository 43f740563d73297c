use Rattle.pp_tree.specs.Book.{entry}
use Rattle.pp_terms.specs.format.Descriptor.{chunks_of}
use Rattle.pp_store.proofs.Answering.{peaks_kept}
use Rattle.pp_store.proofs.admitting.admit_judged.Goals as goal

pub returns-in-Fits-clause-peaks : goal.returns-in-Fits-clause-peaks
returns-in-Fits-clause-peaks c =
    peaks_kept (entry c.args.book.now) (entry c.judge_and_adopt.new.book) (chunks_of c.args.descriptor.now) c.judge_and_adopt.ensures.kept c.requires.peaks

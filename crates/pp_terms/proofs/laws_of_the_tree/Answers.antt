use Rattle.pp_terms.proofs.Heights.{height_is}
use Rattle.pp_terms.proofs.Peaks.{peaks_topmost}
use Rattle.pp_terms.proofs.PeakBooks.{peaks_all, none_absent}
use Rattle.pp_terms.proofs.laws_of_the_tree.Goals as goal

pub returns-clause-height : goal.returns-clause-height
returns-clause-height c = height_is

pub returns-clause-peaks : goal.returns-clause-peaks
returns-clause-peaks c = peaks_topmost

pub returns-clause-books : goal.returns-clause-books
returns-clause-books c = λ book n. (peaks_all book n, none_absent book n)

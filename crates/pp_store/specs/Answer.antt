-- What a store answers to bytes that came as a chunk, and what its book has afterwards (RFC 7574, sections 5.3 and 5.6).
use Rattle.std.specs.Prelude.{ℕ, ◌==◌, Bool, true, false, cond, List, length}
use Rattle.sha2.specs.Sha256.{sha256}
use Rattle.pp_terms.specs.tree.Content.{chunk_length}
use Rattle.pp_terms.specs.tree.Book.{LookUp}
use Rattle.pp_terms.specs.format.Descriptor.{Descriptor, chunks_of, height_of}
use Rattle.pp_tree.specs.declared.node.Node.{Node}
use Rattle.pp_paths.specs.declared.judging.Verdict as verdict
use Rattle.pp_paths.specs.declared.judging.Verdict.TheVariants as judged_as
use Rattle.pp_paths.specs.declared.settling.Settled as settling
use Rattle.pp_paths.specs.declared.settling.Settled.TheVariants as settled_as
use Rattle.pp_paths.specs.Climb.{or_else, path}
use Rattle.pp_paths.specs.Ends.{end_of}
use Rattle.pp_paths.specs.Judge.{judged}
use Rattle.pp_paths.specs.Settle.{settled, climb_of_peaks, path_of_peaks}
use Rattle.pp_store.specs.declared.admitting.Put.{Put}
use Rattle.pp_store.specs.declared.admitting.Put.TheVariants.{Stored, Held, Missing, Wrong, Length}

-- the book with the settled peaks
abbrev pub peaked : Descriptor → LookUp → LookUp → LookUp
peaked d book claims = or_else book (path_of_peaks (chunks_of d) book claims)

-- the same answer as the verdict
abbrev pub by_verdict : verdict.Verdict → Put
by_verdict judged_as.Fits = Stored
by_verdict (judged_as.Missing at) = Missing at
by_verdict (judged_as.Wrong at found kept) = Wrong at found kept
by_verdict (judged_as.Length found want) = Length found want

-- The peaks come before the verdict. Two digests that differ are those of the node at which the climb from the last peak
-- ends.
abbrev pub by_peaks : settling.Settled → Node → Put → Put
by_peaks settled_as.Known at rest = rest
by_peaks (settled_as.Missing peak) at rest = Missing peak
by_peaks (settled_as.Wrong found kept) at rest = Wrong at found kept

-- The answer for a chunk that is neither committed nor pending: its length comes first, then the peaks, then the verdict by
-- the book with the settled peaks.
abbrev pub admitted : Descriptor → LookUp → LookUp → ℕ → List ℕ → Put
admitted d book claims i bytes =
    let want = chunk_length d.size d.chunk i in
    cond (length bytes == want)
    (by_peaks (settled (chunks_of d) book claims) (end_of (climb_of_peaks (chunks_of d) book claims))
    (by_verdict (judged d (peaked d book claims) claims i bytes)))
    (Length (length bytes) want)

-- the same for any chunk
abbrev pub put_answer : Bool → Descriptor → LookUp → LookUp → ℕ → List ℕ → Put
put_answer true d book claims i bytes = Held
put_answer false d book claims i bytes = admitted d book claims i bytes

-- a chunk that fits brings the digests on its way to the root
abbrev pub with_path : verdict.Verdict → LookUp → LookUp → LookUp
with_path judged_as.Fits book way = or_else book way
with_path (judged_as.Missing at) book way = book
with_path (judged_as.Wrong at found kept) book way = book
with_path (judged_as.Length found want) book way = book

abbrev pub with_peaks : settling.Settled → LookUp → LookUp → LookUp
with_peaks settled_as.Known book more = more
with_peaks (settled_as.Missing at) book more = book
with_peaks (settled_as.Wrong found kept) book more = book

-- The book afterwards: with the peaks where they are settled, and with the way of a chunk that fits.
abbrev pub learned : Descriptor → LookUp → LookUp → ℕ → List ℕ → LookUp
learned d book claims i bytes =
    cond (length bytes == chunk_length d.size d.chunk i)
    (with_peaks (settled (chunks_of d) book claims) book
    (with_path (judged d (peaked d book claims) claims i bytes) (peaked d book claims)
    (path claims (height_of d) 0 i (sha256 bytes))))
    book

abbrev pub put_learned : Bool → Descriptor → LookUp → LookUp → ℕ → List ℕ → LookUp
put_learned true d book claims i bytes = book
put_learned false d book claims i bytes = learned d book claims i bytes

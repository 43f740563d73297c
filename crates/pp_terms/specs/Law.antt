-- Laws of the disk and of trees, which the functions of this crate state.
use Rattle.std.specs.Prelude.{◌≡◌, ◌↔◌, ℕ, ◌^◌, ◌<◌, ◌≤◌, true, not, ◌&&◌, None, is_some, List, length}
use Rattle.std.specs.List.{list_all}
use Rattle.pp_terms.specs.tree.Tree.{Node, height, IsHeight, is_full, peaks, is_peak}
use Rattle.pp_terms.specs.tree.Book.{LookUp, has_peaks}
use Rattle.pp_terms.specs.tree.Proves.{first_absent}
use Rattle.pp_terms.specs.tree.Bins.{parent_of}
use Rattle.pp_terms.specs.format.Descriptor.{Descriptor, chunks_of}
use Rattle.pp_terms.specs.disk.Store.{AreApart, Has, HasHeader}
use Rattle.pp_terms.specs.disk.Image.{holds, is_open, is_found}
use Rattle.pp_terms.specs.disk.Sound.{IsSound}
use Rattle.pp_terms.specs.disk.Disk.{History, MayLeave, Throughout, moment_of, after_write, settled}

-- Bytes that stand throughout at a place stand on after a write elsewhere, though it may be torn.
abbrev pub WriteElsewhereKeeps : Type 0
WriteElsewhereKeeps = (h : History) (moment place at : ℕ) (bytes kept : List ℕ) → AreApart at (length kept) place (length bytes)
    → Throughout h moment (Has at kept) → Throughout (after_write h place bytes) moment (Has at kept)

-- After a sync a crash leaves what reads gave, and nothing else.
abbrev pub SyncLeavesOne : Type 0
SyncLeavesOne = (h : History) (image : List ℕ) → MayLeave (settled h h.reads) image → image ≡ h.reads

-- Bytes that stood throughout, and stand in what reads gave, stand throughout after a sync.
abbrev pub SyncKeeps : Type 0
SyncKeeps = (h : History) (moment at : ℕ) (kept : List ℕ) → moment ≤ moment_of h
    → Throughout h moment (Has at kept) → Has at kept h.reads → Throughout (settled h h.reads) moment (Has at kept)

-- What an opening finds in a sound image is what the image holds behind open gates.
abbrev pub FoundIsHeld : Type 0
FoundIsHeld = (d : Descriptor) (image : List ℕ) (i : ℕ) → i < chunks_of d → HasHeader d image → IsSound d image
    → is_found d image i ≡ (is_open d image i && holds d image i)

-- The height of a tree is the least that holds its leaves.
abbrev pub HeightIsLeast : Type 0
HeightIsLeast = (n : ℕ) → 0 < n → n ≤ 2 ^ 20 → IsHeight n (height n)

-- A book has all peaks where it has each node of their list, and where none of them is absent.
abbrev pub PeaksOfBooks : Type 0
PeaksOfBooks = (book : LookUp) (n : ℕ) → (has_peaks book n ≡ list_all (λ at. is_some (book at.layer at.offset)) (peaks n))
    × ((first_absent book n ≡ None) ↔ (has_peaks book n ≡ true))

-- The peaks are the full nodes whose parent isn't full.
abbrev pub PeaksAreTopmost : Type 0
PeaksAreTopmost = (n : ℕ) (at : Node) → n < 2 ^ 21 → is_peak n at ≡ (is_full n at && not (is_full n (parent_of at)))

-- A store's header for a name, byte by byte, and what the first bytes of a file tell.
use Rattle.std.proofs.Common.{◌≡◌, ℕ, ◌+◌, ◌-◌, ◌*◌, ◌^◌, ◌<◌, ◌≤◌, List, ◌++◌, length, get_or, take, drop, replicate, codes, Option, Some, None, Result, Ok, Err, lit<, zero-add, refl, sym, ◌∙◌, ap, subst, inl, inr, arith}
use Rattle.std.proofs.lemmas.List.{get_or_append_left, get_or-append_right, get_or-drop, get_or-take, get_or_past, length-take, length-drop}
use Rattle.std.proofs.lemmas.Nat.{be_bytes_8}
use Rattle.std.proofs.lemmas.Bool.{cases_eq, cases_lt}
use Rattle.std.specs.Int.{w32, w64, to_be_bytes, from_be_bytes}
use Rattle.pp_terms.specs.tree.Content.{chunk_length, IsContentSize}
use Rattle.pp_terms.specs.format.Descriptor.{Descriptor, chunks_of, IsDescriptor}
use Rattle.pp_terms.specs.disk.Disk.{DiskState, IsKnown, IsRead}
use Rattle.pp_terms.specs.disk.Store.{header, HasHeader}
use Rattle.pp_scan.specs.Look.{KeepsAll}
use Rattle.pp_scan.proofs.Reading.{known_after}
use Rattle.pp_targets.specs.Target.{SwarmName, IsOfName, last_length}
use Rattle.pp_named.specs.Front.{sized, size_in, IsFixed, IsNoSize, IsFixedDifference}
use Rattle.pp_named.specs.Told.{HasTold}
use Rattle.pp_named.specs.Judged.{IsFitting, IsFirstOther, IsJudged}
use Rattle.pp_named.specs.declared.probing.NameFault.{NameFault}
use Rattle.pp_named.specs.declared.probing.NameFault.TheVariants.{NotAStore, Size, Disk}

-- what stands in front of the size, and behind it
abbrev front_of : SwarmName → List ℕ
front_of name = codes "PPSTORE2" ++ to_be_bytes w32 name.chunk

abbrev rest_of : SwarmName → List ℕ
rest_of name = name.root ++ replicate 12 0

header_parts : (name : SwarmName) (size : ℕ) → header (sized name size) ≡ front_of name ++ (to_be_bytes w64 size ++ rest_of name)
unfolding header
header_parts name size = refl

-- a byte in front of the size, one of the size's, and one behind it
in_front : (name : SwarmName) (size k : ℕ) → k < 12 → get_or (header (sized name size)) k 0 ≡ get_or (front_of name) k 0
in_front name size k lt =
    ap (λ xs. get_or xs k 0) (header_parts name size) ∙ get_or_append_left (front_of name) (to_be_bytes w64 size ++ rest_of name) 0 k lt

from_size : (name : SwarmName) (size k : ℕ) → 12 ≤ k
    → get_or (header (sized name size)) k 0 ≡ get_or (to_be_bytes w64 size ++ rest_of name) (k - 12) 0
from_size name size k ge =
    ap (λ xs. get_or xs k 0) (header_parts name size)
    ∙ get_or-append_right (front_of name) (to_be_bytes w64 size ++ rest_of name) 12 k 0 refl ge

in_size : (name : SwarmName) (size k : ℕ) → 12 ≤ k → k < 20 → get_or (header (sized name size)) k 0 ≡ get_or (to_be_bytes w64 size) (k - 12) 0
in_size name size k ge lt =
    let low : k - 12 < 8 = omega arith in
    from_size name size k ge ∙ get_or_append_left (to_be_bytes w64 size) (rest_of name) 0 (k - 12) low

behind : (name : SwarmName) (size k : ℕ) → 20 ≤ k → get_or (header (sized name size)) k 0 ≡ get_or (rest_of name) (k - 12 - 8) 0
behind name size k ge =
    from_size name size k (omega arith) ∙ get_or-append_right (to_be_bytes w64 size) (rest_of name) 8 (k - 12) 0 refl (omega arith)

-- the other bytes are the same for every size
pub header_fixed : (name : SwarmName) (a b k : ℕ) → IsFixed k → get_or (header (sized name a)) k 0 ≡ get_or (header (sized name b)) k 0
header_fixed name a b k (inl lt) = in_front name a k lt ∙ sym (in_front name b k lt)
header_fixed name a b k (inr ge) = behind name a k ge ∙ sym (behind name b k ge)

pub first_other : (name : SwarmName) (bytes wanted : List ℕ) (at found want : ℕ) → wanted ≡ header (sized name 1)
    → IsFixedDifference bytes wanted at found want → IsFirstOther name bytes at found want
first_other name bytes wanted at found want wanted_is is = record {
  within = is.within;
  fixed = is.fixed;
  differ = is.differ;
  wanted = λ size. is.want_is ∙ ap (λ xs. get_or xs at 0) wanted_is ∙ header_fixed name 1 size at is.fixed;
  found_is = is.found_is;
  first = λ k size lt fixed. is.first k lt fixed ∙ ap (λ xs. get_or xs k 0) wanted_is ∙ header_fixed name 1 size k fixed;
}

-- a number of eight bytes, by these bytes
number_same : (xs ys : List ℕ) → ((i : ℕ) → i < 8 → get_or xs i 0 ≡ get_or ys i 0) → from_be_bytes w64 xs ≡ from_be_bytes w64 ys
number_same xs ys same =
    omega (
      arith,
      same 0 (lit< tt),
      same 1 (lit< tt),
      same 2 (lit< tt),
      same 3 (lit< tt),
      same 4 (lit< tt),
      same 5 (lit< tt),
      same 6 (lit< tt),
      same 7 (lit< tt),
    )

-- the size that bytes tell is written as these bytes
size_bytes : (bytes : List ℕ) → length bytes ≡ 64 → ((i : ℕ) → get_or bytes i 0 < 256) → to_be_bytes w64 (size_in bytes) ≡ take 8 (drop 12 bytes)
unfolding size_in
size_bytes bytes long small =
    let eight : length (take 8 (drop 12 bytes)) ≡ 8 = length-take 8 (drop 12 bytes) ∙ omega (arith, length-drop 12 bytes) in
    be_bytes_8 (take 8 (drop 12 bytes)) (size_in bytes) eight part_small
    (number_same (drop 12 bytes) (take 8 (drop 12 bytes)) (λ i lt. sym (get_or-take 8 (drop 12 bytes) i 0 lt)))
  where
    part_small : (i : ℕ) → get_or (take 8 (drop 12 bytes)) i 0 < 256
    part_small i = elim (cases_lt i 8) [
      | inl lt ↦
          let at : get_or (take 8 (drop 12 bytes)) i 0 ≡ get_or bytes (12 + i) 0 =
          get_or-take 8 (drop 12 bytes) i 0 lt ∙ get_or-drop 12 bytes i 0 in
          let low = small (12 + i) in omega arith
      | inr ge ↦
          let none : get_or (take 8 (drop 12 bytes)) i 0 ≡ 0 =
          get_or_past (take 8 (drop 12 bytes)) i 0 (omega (arith, length-take 8 (drop 12 bytes))) in
          omega arith
    ]

-- bytes that have the other bytes of the name's header have the header with the size that they tell
pub header_told : (name : SwarmName) (bytes : List ℕ) → length bytes ≡ 64 → ((i : ℕ) → get_or bytes i 0 < 256)
    → ((k : ℕ) → k < 64 → IsFixed k → get_or bytes k 0 ≡ get_or (header (sized name 1)) k 0) → HasHeader (sized name (size_in bytes)) bytes
header_told name bytes long small same k lt = elim (cases_lt k 12) [
  | inl front ↦ same k lt (inl front) ∙ header_fixed name 1 (size_in bytes) k (inl front)
  | inr ge ↦ elim (cases_lt k 20) [
    | inl within ↦
        let low : k - 12 < 8 = omega arith in
        let at : 12 + (k - 12) ≡ k = omega arith in
        sym (in_size name (size_in bytes) k ge within ∙ ap (λ xs. get_or xs (k - 12) 0) (size_bytes bytes long small)
        ∙ get_or-take 8 (drop 12 bytes) (k - 12) 0 low ∙ get_or-drop 12 bytes (k - 12) 0 ∙ ap (λ (i : ℕ). get_or bytes i 0) at)
    | inr past ↦ same k lt (inr past) ∙ header_fixed name 1 (size_in bytes) k (inr past)
  ]
]

-- the length of the last chunk of a descriptor, as the code asks for it
last_chunk : (d : Descriptor) (count len : ℕ) → count ≡ chunks_of d → len ≡ chunk_length d.size d.chunk (count - 1)
    → len ≡ last_length d.size d.chunk
last_chunk d count len count_is len_is = len_is ∙ ap (λ (n : ℕ). chunk_length d.size d.chunk (n - 1)) count_is

-- a size whose last chunk has 64 bytes is no descriptor's, any other that a content may have is
pub last_64 : (name : SwarmName) (size : ℕ) (d : Descriptor) (count len : ℕ) → d ≡ sized name size → count ≡ chunks_of d
    → len ≡ chunk_length d.size d.chunk (count - 1) → len ≡ 64 → IsNoSize name size
last_64 name size d count len is count_is len_is whole =
    inr (inr (ap (λ (e : Descriptor). last_length e.size e.chunk) (sym is) ∙ sym (last_chunk d count len count_is len_is) ∙ whole))

pub last_other : (name : SwarmName) (size : ℕ) (d : Descriptor) (count len : ℕ) → d ≡ sized name size → count ≡ chunks_of d
    → len ≡ chunk_length d.size d.chunk (count - 1) → (len ≡ 64 → ⊥) → IsOfName name d
last_other name size d count len is count_is len_is other = record {
  root = ap (λ (e : Descriptor). e.root) is;
  chunk = ap (λ (e : Descriptor). e.chunk) is;
  method = ap (λ (e : Descriptor). e.method) is;
  last = λ whole. other (last_chunk d count len count_is len_is ∙ whole);
}

pub no_content_size : (name : SwarmName) (size : ℕ) → (IsContentSize name.chunk size → ⊥) → IsNoSize name size
no_content_size name size none = elim (cases_eq size 0) [
  | inl zero_is ↦ inl zero_is
  | inr other ↦ elim (cases_lt (2 ^ 20 * name.chunk) size) [
    | inl more ↦ inr (inl more)
    | inr le ↦ absurd (none (record { some = omega arith; within = le }))
  ]
]

-- what the size comes to is what the bytes tell
pub judged : (name : SwarmName) (bytes : List ℕ) (size : ℕ) (result : Result (Option Descriptor) NameFault) → size ≡ size_in bytes
    → HasHeader (sized name (size_in bytes)) bytes → IsFitting name size result → IsJudged name bytes result
judged name bytes size (Ok None) size_is begins fits = fits
judged name bytes size (Ok (Some e)) size_is begins (is, valid, of) =
    let is' : e ≡ sized name (size_in bytes) = is ∙ ap (λ (n : ℕ). sized name n) size_is in
    (valid, of, subst (λ (d : Descriptor). HasHeader d bytes) (sym is') begins, ap (λ (d : Descriptor). d.size) is')
judged name bytes size (Err (NotAStore at found want)) size_is begins fits = absurd fits
judged name bytes size (Err (Size size')) size_is begins (is, none) = (
  subst (λ (n : ℕ). IsNoSize name n) (sym is) none,
  subst (λ (n : ℕ). HasHeader (sized name n) bytes) (sym (is ∙ size_is)) begins,
  is ∙ size_is,
)
judged name bytes size (Err Disk) size_is begins fits = fits

-- a byte that was read of a file, and the size that these bytes tell
byte_read : (reads bytes : List ℕ) → length bytes ≡ 64 → IsRead reads 0 bytes → (k : ℕ) → k < 64 → get_or bytes k 0 ≡ get_or reads k 0
byte_read reads bytes long read k lt = read k (omega (arith, long, lt)) ∙ ap (λ (i : ℕ). get_or reads i 0) (zero-add k)

size_read : (reads bytes : List ℕ) → length bytes ≡ 64 → IsRead reads 0 bytes → size_in bytes ≡ size_in reads
unfolding size_in
size_read reads bytes long read =
    number_same (drop 12 bytes) (drop 12 reads) (λ i lt.
    get_or-drop 12 bytes i 0 ∙ byte_read reads bytes long read (12 + i) (omega (arith, lt)) ∙ sym (get_or-drop 12 reads i 0))

header_read : (d : Descriptor) (reads bytes : List ℕ) → length bytes ≡ 64 → IsRead reads 0 bytes → HasHeader d bytes → HasHeader d reads
header_read d reads bytes long read begins k lt = sym (byte_read reads bytes long read k lt) ∙ begins k lt

-- such a size is no descriptor's
no_descriptor : (name : SwarmName) (size : ℕ) → IsNoSize name size → (e : Descriptor) → IsDescriptor e → IsOfName name e → e.size ≡ size → ⊥
no_descriptor name size (inl zero_is) e valid of is = let some = valid.content_size.some in omega arith
no_descriptor name size (inr (inl more)) e valid of is =
    let within : e.size ≤ 2 ^ 20 * name.chunk = subst (λ (c : ℕ). e.size ≤ 2 ^ 20 * c) of.chunk valid.content_size.within in omega arith
no_descriptor name size (inr (inr last)) e valid of is =
    of.last (ap (λ (n : ℕ). last_length n e.chunk) is ∙ ap (λ (c : ℕ). last_length size c) of.chunk ∙ last)

-- what was read of a file is what the file is
pub judged_told : (name : SwarmName) (old new : DiskState) (bytes : List ℕ) (result : Result (Option Descriptor) NameFault)
    → (IsKnown old → 0 < length old.history.reads) → (IsKnown old → IsRead old.history.reads 0 bytes) → length bytes ≡ 64
    → IsJudged name bytes result → HasTold name old new result
judged_told name old new bytes (Ok None) some read long is = absurd is
judged_told name old new bytes (Ok (Some e)) some read long (valid, of, begins, size) = record {
  valid = valid;
  of = of;
  some = some;
  begins = λ known. header_read e old.history.reads bytes long (read known) begins;
  size = λ known. size ∙ size_read old.history.reads bytes long (read known);
}
judged_told name old new bytes (Err (NotAStore at found want)) some read long is = record {
  within = is.within;
  fixed = is.fixed;
  differ = is.differ;
  wanted = is.wanted;
  some = some;
  found_is = λ known. is.found_is ∙ byte_read old.history.reads bytes long (read known) at is.within;
  first = λ known k size lt fixed.
      sym (byte_read old.history.reads bytes long (read known) k (omega (arith, is.within, lt))) ∙ is.first k size lt fixed;
}
judged_told name old new bytes (Err (Size size)) some read long (cause, begins, size_is) = record {
  cause = cause;
  none = no_descriptor name size cause;
  some = some;
  begins = λ known. header_read (sized name size) old.history.reads bytes long (read known) begins;
  size_is = λ known. size_is ∙ size_read old.history.reads bytes long (read known);
}
judged_told name old new bytes (Err Disk) some read long is = absurd is

-- what is found after a call that only read was so before it
pub told_before : (name : SwarmName) (old mid new : DiskState) (result : Result (Option Descriptor) NameFault) → KeepsAll old mid
    → HasTold name mid new result → HasTold name old new result
told_before name old mid new (Ok None) keeps told = λ known. ap (λ h. h.reads) (sym keeps.same) ∙ told (known_after old mid keeps known)
told_before name old mid new (Ok (Some e)) keeps told =
    let reads : mid.history.reads ≡ old.history.reads = ap (λ h. h.reads) keeps.same in
    record {
      valid = told.valid;
      of = told.of;
      some = λ known. subst (λ (xs : List ℕ). 0 < length xs) reads (told.some (known_after old mid keeps known));
      begins = λ known. subst (λ (xs : List ℕ). HasHeader e xs) reads (told.begins (known_after old mid keeps known));
      size = λ known. told.size (known_after old mid keeps known) ∙ ap (λ (xs : List ℕ). size_in xs) reads;
    }
told_before name old mid new (Err (NotAStore at found want)) keeps told =
    let reads : mid.history.reads ≡ old.history.reads = ap (λ h. h.reads) keeps.same in
    record {
      within = told.within;
      fixed = told.fixed;
      differ = told.differ;
      wanted = told.wanted;
      some = λ known. subst (λ (xs : List ℕ). 0 < length xs) reads (told.some (known_after old mid keeps known));
      found_is = λ known. told.found_is (known_after old mid keeps known) ∙ ap (λ (xs : List ℕ). get_or xs at 0) reads;
      first = λ known k size lt fixed.
          ap (λ (xs : List ℕ). get_or xs k 0) (sym reads) ∙ told.first (known_after old mid keeps known) k size lt fixed;
    }
told_before name old mid new (Err (Size size)) keeps told =
    let reads : mid.history.reads ≡ old.history.reads = ap (λ h. h.reads) keeps.same in
    record {
      cause = told.cause;
      none = told.none;
      some = λ known. subst (λ (xs : List ℕ). 0 < length xs) reads (told.some (known_after old mid keeps known));
      begins = λ known. subst (λ (xs : List ℕ). HasHeader (sized name size) xs) reads (told.begins (known_after old mid keeps known));
      size_is = λ known. told.size_is (known_after old mid keeps known) ∙ ap (λ (xs : List ℕ). size_in xs) reads;
    }
told_before name old mid new (Err Disk) keeps told = λ below. omega (arith, keeps.faults, told below)

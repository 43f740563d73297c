-- A store, its book and its disk go on.
use Rattle.std.proofs.Common.{◌≡◌, inl, ℕ, ◌≤◌, Bool, true, false, List, get_or, refl, sym, ◌∙◌, ap, subst, arith}
use Rattle.std.proofs.lemmas.Bool.{or_left}
use Rattle.pp_terms.specs.tree.Book.{LookUp, IsRooted}
use Rattle.pp_terms.specs.format.Descriptor.{Descriptor}
use Rattle.pp_terms.specs.disk.Disk.{DiskState, History, IsKnown, IsImage, Throughout, moment_of}
use Rattle.pp_terms.specs.disk.Image.{StandsIn}
use Rattle.pp_paths.specs.Judge.{KeepsEntries}
use Rattle.pp_scan.specs.Look.{KeepsAll}
use Rattle.pp_store.specs.Keep.{KeepsDisk}
use Rattle.pp_store.specs.Behind.{KeepsBehind}
use Rattle.pp_store.specs.Pairs.{GoesOnSince}
use Rattle.pp_store.specs.Sound.{IsGated, StaysGated, StaysSound}
use Rattle.pp_store.specs.Store.{StoreState, is_committed, is_held, AgreesWith, HoldsIn, HoldsAll, AllStand, HasCommitted}
use Rattle.pp_terms.proofs.Knowing.{known_on}
use Rattle.pp_store.proofs.Ends.{disk_more}
use Rattle.pp_store.proofs.Writings.{behind_keeps}
use Rattle.pp_store.proofs.Gated.{gated_more}
use Rattle.pp_store.proofs.Committing.{held_after}
use Rattle.pp_store.proofs.Sealing.{throughout_later}
use Rattle.pp_holding.specs.Stock.{Stock, may_be_open, IsKept, Advances}
use Rattle.pp_holding.proofs.Images.{Lengthens, same_lengthens, stays_sound}

pub known_kept : (old new : DiskState) → KeepsDisk old new → IsKnown old → IsKnown new
known_kept old new keeps known = known_on old new keeps.tells keeps.honest known

keeps_none : (disk : DiskState) → KeepsDisk disk disk
keeps_none disk = record {
  tells = refl;
  honest = refl;
  later = omega arith;
  attachment = λ known. record { start = refl; first = refl; found = refl; names = refl };
  faults = omega arith;
  hard = omega arith;
}

pub advances_none : (s : Stock) → Advances s s
advances_none s = record {
  descriptor = refl;
  committed = λ i at. at;
  held = λ i at. at;
  entries = λ k j digest at. at;
  disk = keeps_none s.disk;
  goes_on = λ known i at moment le all. all;
  kept = λ since kept. kept;
  sound = λ since kept moment le all. all;
}

pub advances_twice : (a b c : Stock) → Advances a b → Advances b c → Advances a c
advances_twice a b c one two = record {
  descriptor = two.descriptor ∙ one.descriptor;
  committed = λ i at. two.committed i (one.committed i at);
  held = λ i at. two.held i (one.held i at);
  entries = λ k j digest at. two.entries k j digest (one.entries k j digest at);
  disk = disk_more a.disk b.disk c.disk one.disk two.disk;
  goes_on = λ known i at moment le all.
      subst (λ (d : Descriptor). GoesOnSince d i b.disk.history c.disk.history) one.descriptor
      (two.goes_on (known_on a.disk b.disk one.disk.tells one.disk.honest known) i (one.committed i at)) moment (omega (arith, le, one.disk.later))
      (one.goes_on known i at moment le all);
  kept = λ since kept. two.kept since (one.kept since kept);
  sound = λ since kept moment le all.
      subst (λ (d : Descriptor). StaysSound d b.disk.history c.disk.history) one.descriptor
      (two.sound since (one.kept since kept)) moment (omega (arith, le, one.disk.later)) (one.sound since kept moment le all);
}

looks_keep : (old new : DiskState) → KeepsAll old new → KeepsDisk old new
looks_keep old new looks = record {
  tells = looks.tells;
  honest = looks.honest;
  later = (let same = ap moment_of looks.same in omega (arith, same));
  attachment = λ known. record {
    start = ap (λ (h : History). h.start) looks.same;
    first = ap (λ (h : History). h.first) looks.same;
    found = ap (λ (h : History). h.found) looks.same;
    names = ap (λ (h : History). h.names) looks.same;
  };
  faults = looks.faults;
  hard = looks.hard;
}

-- a reading of the disk
pub advances_reading : (s : Stock) (disk : DiskState) → KeepsAll s.disk disk → Advances s (record s { disk = disk })
advances_reading s disk looks = record {
  descriptor = refl;
  committed = λ i at. at;
  held = λ i at. at;
  entries = λ k j digest at. at;
  disk = looks_keep s.disk disk looks;
  goes_on = λ known i at. subst (λ (h : History). GoesOnSince s.store.descriptor i s.disk.history h) (sym looks.same) (λ moment le all. all);
  kept = λ since kept. record {
    known = known_on s.disk disk looks.tells looks.honest kept.known;
    past = subst (λ (h : History). since ≤ moment_of h) (sym looks.same) kept.past;
    agrees = subst (λ (h : History). AgreesWith s.store s.book h.reads) (sym looks.same) kept.agrees;
    holds = subst (λ (h : History). s.store.live ≡ true → HoldsAll s.store h.reads) (sym looks.same) kept.holds;
    gated = subst (λ (h : History). Throughout h since (IsGated s.store.descriptor (may_be_open s.store))) (sym looks.same) kept.gated;
    stands = subst (λ (h : History). AllStand s.store.descriptor s.store.committed h) (sym looks.same) kept.stands;
  };
  sound = λ since kept. subst (λ (h : History). StaysSound s.store.descriptor s.disk.history h) (sym looks.same) (λ moment le all. all);
}

-- ---- which gates may be open

pub committed_open : (s : StoreState) (i : ℕ) → is_committed s i ≡ true → may_be_open s i ≡ true
committed_open s i at = pick s.live
  where
    pick : (live : Bool) → may_be_open (record s { live = live }) i ≡ true
    pick true = at
    pick false = or_left (is_committed s i) (get_or s.pending i false) at

open_live : (s : StoreState) (i : ℕ) → s.live ≡ true → may_be_open s i ≡ true → is_committed s i ≡ true
open_live s i live at = ap (λ (b : Bool). may_be_open (record s { live = b }) i) (sym live) ∙ at

-- ---- a put

module _ (s s' : StoreState) (book book' : LookUp) (disk disk' : DiskState) (live : s.live ≡ true) (descriptor : s'.descriptor ≡ s.descriptor)
    (same : s'.committed ≡ s.committed) (held : (i : ℕ) → is_held s i ≡ true → is_held s' i ≡ true) (entries : KeepsEntries book book')
    (behind : KeepsBehind disk disk')
    (goes_on : IsKnown disk → (l : ℕ) → get_or s.committed l false ≡ true → GoesOnSince s.descriptor l disk.history disk'.history)
    (gated : IsKnown disk → StaysGated s.descriptor (is_committed s) (is_committed s) disk.history disk'.history)
    (agrees : IsKnown disk → AgreesWith s book disk.history.reads → AgreesWith s' book' disk'.history.reads)
    (holds : IsKnown disk → AgreesWith s book disk.history.reads → HoldsAll s' disk'.history.reads) where
  committed_same : (i : ℕ) → is_committed s' i ≡ is_committed s i
  committed_same i = ap (λ (xs : List Bool). get_or xs i false) same

  gates_before : (since : ℕ) → IsKept since (record { store = s; book = book; disk = disk }) → Throughout disk.history since (IsGated s.descriptor (is_committed s))
  gates_before since kept image at = gated_more s.descriptor (may_be_open s) (is_committed s) image (λ i. open_live s i live) (kept.gated image at)

  put_kept : (since : ℕ) → IsKept since (record { store = s; book = book; disk = disk }) → IsKept since (record { store = s'; book = book'; disk = disk' })
  put_kept since kept = record {
    known = known_on disk disk' behind.tells behind.honest kept.known;
    past = omega (arith, kept.past, behind.later);
    agrees = agrees kept.known kept.agrees;
    holds = λ _. holds kept.known kept.agrees;
    gated = subst (λ (d : Descriptor). Throughout disk'.history since (IsGated d (may_be_open s'))) (sym descriptor)
        (λ image at. gated_more s.descriptor (is_committed s) (may_be_open s') image (λ i is. committed_open s' i (committed_same i ∙ is))
        (gated kept.known since kept.past (gates_before since kept) image at));
    stands = λ i at.
        let at' : is_committed s i ≡ true = sym (committed_same i) ∙ at in
        subst (λ (d : Descriptor). Throughout disk'.history (moment_of disk'.history) (λ image. StandsIn d image i)) (sym descriptor)
        (throughout_later disk'.history (moment_of disk.history) (moment_of disk'.history) (λ image. StandsIn s.descriptor image i) behind.later
        (goes_on kept.known i at' (moment_of disk.history) (omega arith) (kept.stands i at')));
  }

  pub put_advances : Advances (record { store = s; book = book; disk = disk }) (record { store = s'; book = book'; disk = disk' })
  put_advances = record {
    descriptor = descriptor;
    committed = λ i at. committed_same i ∙ at;
    held = held;
    entries = entries;
    disk = behind_keeps disk disk' behind;
    goes_on = goes_on;
    kept = put_kept;
    sound = λ since kept.
        stays_sound s.descriptor (is_committed s) disk.history disk'.history (same_lengthens disk.history disk'.history (behind.behind kept.known).past)
        (gated kept.known (moment_of disk.history) (omega arith)
        (throughout_later disk.history since (moment_of disk.history) (IsGated s.descriptor (is_committed s)) kept.past (gates_before since kept)));
  }

-- ---- a commit

module _ (s s' : StoreState) (book : LookUp) (disk disk' : DiskState) (live : s.live ≡ true)
    (apart : (i : ℕ) → get_or s.pending i false ≡ true → get_or s.committed i false ≡ false) (rooted : IsRooted s.descriptor book)
    (keeps : KeepsDisk disk disk') (longer : IsKnown disk → Lengthens disk.history disk'.history)
    (goes_on : IsKnown disk → (l : ℕ) → get_or s.pending l false ≡ false → GoesOnSince s.descriptor l disk.history disk'.history)
    (agrees : IsKnown disk → (book : LookUp) → IsRooted s.descriptor book → AgreesWith s book disk.history.reads → AgreesWith s' book disk'.history.reads)
    (gated : IsKnown disk → HoldsAll s disk.history.reads → StaysGated s.descriptor (is_committed s) (is_held s) disk.history disk'.history) where
  not_pending : (i : ℕ) → is_committed s i ≡ true → get_or s.pending i false ≡ false
  not_pending i at = pick (get_or s.pending i false) refl
    where
      pick : (b : Bool) → get_or s.pending i false ≡ b → b ≡ false
      pick true is = let out = apart i is in cc
      pick false is = refl

  on : IsKnown disk → (i : ℕ) → is_committed s i ≡ true → GoesOnSince s.descriptor i disk.history disk'.history
  on known i at = goes_on known i (not_pending i at)

  gates_then : (since : ℕ) → IsKept since (record { store = s; book = book; disk = disk }) → (moment : ℕ) → since ≤ moment → moment ≤ moment_of disk.history
      → Throughout disk'.history moment (IsGated s.descriptor (is_held s))
  gates_then since kept moment from le = gated kept.known (kept.holds live) moment le
      (throughout_later disk.history since moment (IsGated s.descriptor (is_committed s)) from
      (λ image at. gated_more s.descriptor (may_be_open s) (is_committed s) image (λ i. open_live s i live) (kept.gated image at)))

  sounds : (since : ℕ) → IsKept since (record { store = s; book = book; disk = disk }) → StaysSound s.descriptor disk.history disk'.history
  sounds since kept = stays_sound s.descriptor (is_held s) disk.history disk'.history (longer kept.known)
      (gates_then since kept (moment_of disk.history) kept.past (omega arith))

  -- refused
  pub refused_advances : s' ≡ record s { live = false } → Advances (record { store = s; book = book; disk = disk }) (record { store = s'; book = book; disk = disk' })
  refused_advances dead =
      let descriptor : s'.descriptor ≡ s.descriptor = ap (λ (x : StoreState). x.descriptor) dead in
      let opens : (i : ℕ) → may_be_open s' i ≡ is_held s i = λ i. ap (λ (x : StoreState). may_be_open x i) dead in
      let committed : (i : ℕ) → is_committed s' i ≡ is_committed s i = λ i. ap (λ (x : StoreState). is_committed x i) dead in
      record {
        descriptor = descriptor;
        committed = λ i at. committed i ∙ at;
        held = λ i at. ap (λ (x : StoreState). is_held x i) dead ∙ at;
        entries = λ k j digest at. at;
        disk = keeps;
        goes_on = on;
        kept = λ since kept. record {
          known = known_on disk disk' keeps.tells keeps.honest kept.known;
          past = omega (arith, kept.past, keeps.later);
          agrees = agrees kept.known book rooted kept.agrees;
          holds = λ is. let no : s'.live ≡ false = ap (λ (x : StoreState). x.live) dead in absurd cc;
          gated = subst (λ (d : Descriptor). Throughout disk'.history since (IsGated d (may_be_open s'))) (sym descriptor)
              (λ image at. gated_more s.descriptor (is_held s) (may_be_open s') image (λ i is. opens i ∙ is) (gates_then since kept since (omega arith) kept.past image at));
          stands = λ i at.
              let at' : is_committed s i ≡ true = sym (committed i) ∙ at in
              subst (λ (d : Descriptor). Throughout disk'.history (moment_of disk'.history) (λ image. StandsIn d image i)) (sym descriptor)
              (throughout_later disk'.history (moment_of disk.history) (moment_of disk'.history) (λ image. StandsIn s.descriptor image i) keeps.later
              (on kept.known i at' (moment_of disk.history) (omega arith) (kept.stands i at')));
        };
        sound = sounds;
      }

  module _ (done : HasCommitted s s') (whole : IsKnown disk' → IsImage disk'.history.epoch disk'.history.reads)
      (stands : IsKnown disk → HoldsAll s disk.history.reads → AllStand s.descriptor s.committed disk.history → AllStand s.descriptor s'.committed disk'.history) where
    descriptor : s'.descriptor ≡ s.descriptor
    descriptor = ap (λ (x : StoreState). x.descriptor) done.others

    -- each chunk that is held now was committed
    only_committed : (i : ℕ) → is_held s' i ≡ true → is_committed s' i ≡ true
    only_committed i at = done.each i ∙ sym (held_after s s' done i) ∙ at

    stand : (since : ℕ) → IsKept since (record { store = s; book = book; disk = disk }) → AllStand s.descriptor s'.committed disk'.history
    stand since kept = stands kept.known (kept.holds live) kept.stands

    pub commit_advances : Advances (record { store = s; book = book; disk = disk }) (record { store = s'; book = book; disk = disk' })
    commit_advances = record {
      descriptor = descriptor;
      committed = λ i at. done.each i ∙ or_left (is_committed s i) (get_or s.pending i false) at;
      held = λ i at. held_after s s' done i ∙ at;
      entries = λ k j digest at. at;
      disk = keeps;
      goes_on = on;
      kept = λ since kept.
          let known' = known_on disk disk' keeps.tells keeps.honest kept.known in
          record {
            known = known';
            past = omega (arith, kept.past, keeps.later);
            agrees = agrees kept.known book rooted kept.agrees;
            holds = λ _ i at.
                let it = stand since kept i (only_committed i at) disk'.history.reads (inl (whole known')) in
                subst (λ (d : Descriptor). HoldsIn d disk'.history.reads i) (sym descriptor) (record { begins = it.begins; within = it.within; held = it.held });
            gated = subst (λ (d : Descriptor). Throughout disk'.history since (IsGated d (may_be_open s'))) (sym descriptor)
                (λ image at. gated_more s.descriptor (is_held s) (may_be_open s') image (λ i is. committed_open s' i (done.each i ∙ is))
                (gates_then since kept since (omega arith) kept.past image at));
            stands = subst (λ (d : Descriptor). AllStand d s'.committed disk'.history) (sym descriptor) (stand since kept);
          };
      sound = sounds;
    }

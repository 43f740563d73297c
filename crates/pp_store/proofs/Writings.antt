-- Calls of a disk one after the other, of which none syncs.
use Rattle.std.proofs.Common.{◌≡◌, inl, inr, ℕ, ◌+◌, ◌<◌, ◌≤◌, List, length, Result, Ok, Err, refl, sym, ◌∙◌, ap, subst, arith}
use Rattle.pp_terms.specs.Count.{HasCause}
use Rattle.pp_terms.specs.disk.Disk.{DiskState, History, IsKnown, IsRefusedWrite, DoesWrite, Throughout, written, pends, after_write}
use Rattle.pp_terms.specs.disk.Store.{Has}
use Rattle.pp_terms.proofs.Knowing.{known_on}
use Rattle.pp_terms.proofs.Images.{written_outside, throughout_write_elsewhere}
use Rattle.pp_store.specs.Keep.{KeepsDisk}
use Rattle.pp_store.specs.Behind.{IsBehind, KeepsBehind, DoesBehind, DoesPut}

pub behind_same : (h : History) → IsBehind h h
behind_same h = record { past = refl; attachment = record { start = refl; first = refl; found = refl; names = refl }; header = λ k lt. refl; front = λ moment at bytes le all. all }

pub behind_more : (old mid new : History) → IsBehind old mid → IsBehind mid new → IsBehind old new
behind_more old mid new one two = record {
  past = two.past ∙ one.past;
  attachment = record {
    start = two.attachment.start ∙ one.attachment.start;
    first = two.attachment.first ∙ one.attachment.first;
    found = two.attachment.found ∙ one.attachment.found;
    names = two.attachment.names ∙ one.attachment.names;
  };
  header = λ k lt. two.header k lt ∙ one.header k lt;
  front = λ moment at bytes le all. two.front moment at bytes le (one.front moment at bytes le all);
}

pub keeps_same : (state : DiskState) → KeepsBehind state state
keeps_same state = record {
  tells = refl;
  honest = refl;
  later = omega arith;
  behind = λ known. behind_same state.history;
  faults = omega arith;
  hard = omega arith;
}

pub keeps_more : (old mid new : DiskState) → KeepsBehind old mid → KeepsBehind mid new → KeepsBehind old new
keeps_more old mid new one two = record {
  tells = two.tells ∙ one.tells;
  honest = two.honest ∙ one.honest;
  later = omega (arith, one.later, two.later);
  behind = λ known. behind_more old.history mid.history new.history (one.behind known) (two.behind (known_on old mid one.tells one.honest known));
  faults = omega (arith, one.faults, two.faults);
  hard = omega (arith, one.hard, two.hard);
}

-- a count that rose later rose
pub cause_later : {T E : Type 0} (before mid now : ℕ) (result : Result T E) → before ≤ mid → HasCause mid now result → HasCause before now result
cause_later before mid now result le two = record {
  later = omega (arith, le, two.later);
  risen = λ err below. let r : mid < now = two.risen err below in omega (arith, le, r);
}

pub does_later : {T E : Type 0} (old mid new : DiskState) (result : Result T E) → KeepsBehind old mid → DoesBehind mid result new → DoesBehind old result new
does_later old mid new result one two = record {
  keeps = keeps_more old mid new one two.keeps;
  cause = cause_later old.faults mid.faults new.faults result one.faults two.cause;
  hard_cause = cause_later old.hard mid.hard new.hard result one.hard two.hard_cause;
}

-- a call that was done
pub does_done : {T E : Type 0} (old new : DiskState) (x : T) → KeepsBehind old new → DoesBehind {E = E} old (Ok x) new
does_done old new x keeps = record {
  keeps = keeps;
  cause = record { later = keeps.faults; risen = λ err. absurd cc };
  hard_cause = record { later = keeps.hard; risen = λ err. absurd cc };
}

-- a fault handed on
pub does_fault : {T U E F : Type 0} (old new : DiskState) (x : E) (y : F) → DoesBehind {T = T} old (Err x) new → DoesBehind {T = U} old (Err y) new
does_fault old new x y one = record {
  keeps = one.keeps;
  cause = record { later = one.cause.later; risen = λ err. one.cause.risen refl };
  hard_cause = record { later = one.hard_cause.later; risen = λ err. one.hard_cause.risen refl };
}

-- it was honest and told before
pub known_back : (old new : DiskState) → KeepsBehind old new → IsKnown new → IsKnown old
known_back old new keeps known = known_on new old (sym keeps.tells) (sym keeps.honest) known

-- a write behind the header, done or refused
front_pending : (old : History) (place : ℕ) (bytes reads : List ℕ) → 64 ≤ place → (moment at : ℕ) (kept : List ℕ) → at + length kept ≤ 64
    → Throughout old moment (Has at kept) → Throughout (record old { reads = reads; epoch = pends old.epoch place bytes }) moment (Has at kept)
front_pending old place bytes reads far moment at kept le all = throughout_write_elsewhere old moment place at bytes kept (inl (omega arith)) all

written_behind : (old : History) (place : ℕ) (bytes : List ℕ) → 64 ≤ place → IsBehind old (after_write old place bytes)
written_behind old place bytes far = record {
  past = refl;
  attachment = record { start = refl; first = refl; found = refl; names = refl };
  header = λ k lt. written_outside old.reads place bytes k (λ w. omega (arith, w.0));
  front = front_pending old place bytes old.reads far;
}

refused_behind : (old : History) (place : ℕ) (bytes : List ℕ) (new : History) → 64 ≤ place → IsRefusedWrite old place bytes new → IsBehind old new
refused_behind old place bytes new far (inl same) = subst (λ (h : History). IsBehind old h) (sym same) (behind_same old)
refused_behind old place bytes new far (inr (torn, is, same)) = subst (λ (h : History). IsBehind old h) (sym same) (record {
  past = refl;
  attachment = record { start = refl; first = refl; found = refl; names = refl };
  header = λ k lt. is.outside k (λ w. omega (arith, w.0));
  front = front_pending old place bytes torn far;
})

-- one write behind the header
pub write_puts : {E : Type 0} (old new : DiskState) (place : ℕ) (bytes : List ℕ) (result : Result (Unit {0}) E) → 64 ≤ place
    → DoesWrite old place bytes result new → DoesPut old place bytes result new
write_puts old new place bytes (Ok u) far does = record {
  does = record {
    keeps = record {
      tells = does.call.tells;
      honest = does.call.honest;
      later = does.call.later;
      behind = λ known. subst (λ (h : History). IsBehind old.history h) (sym (does.done known)) (written_behind old.history place bytes far);
      faults = does.call.cause.later;
      hard = does.hard_cause.later;
    };
    cause = does.call.cause;
    hard_cause = does.hard_cause;
  };
  put = λ known. ap (λ (h : History). h.reads) (does.done known);
}
write_puts old new place bytes (Err fault) far does = record {
  does = record {
    keeps = record {
      tells = does.call.tells;
      honest = does.call.honest;
      later = does.call.later;
      behind = λ known. refused_behind old.history place bytes new.history far (does.refused known);
      faults = does.call.cause.later;
      hard = does.hard_cause.later;
    };
    cause = does.call.cause;
    hard_cause = does.hard_cause;
  };
  put = λ known. tt;
}

pub behind_keeps : (old new : DiskState) → KeepsBehind old new → KeepsDisk old new
behind_keeps old new does = record {
  tells = does.tells;
  honest = does.honest;
  later = does.later;
  attachment = λ known. (does.behind known).attachment;
  faults = does.faults;
  hard = does.hard;
}

-- what a piece's write leaves to be read
pub put_reads : {T E : Type 0} (old new : DiskState) (place : ℕ) (bytes : List ℕ) (x : T) → DoesPut {E = E} old place bytes (Ok x) new
    → IsKnown new → IsKnown old × (new.history.reads ≡ written old.history.reads place bytes)
put_reads old new place bytes x puts known =
    let before = known_back old new puts.does.keeps known in (before, puts.put before)

-- A sync, and then bytes at the front are kept.
use Rattle.std.proofs.Common.{◌≡◌, ⊎_elim, ℕ, ◌<◌, List, Result, Ok, Err, ◌∙◌, subst, arith}
use Rattle.pp_terms.specs.Count.{HasCause}
use Rattle.pp_terms.specs.disk.Disk.{DiskState, History, IsKnown, IsRefusedWrite, DoesSync, after_write}
use Rattle.pp_terms.proofs.Knowing.{known_on}
use Rattle.pp_store.specs.Keep.{DoesKeep, kept}
use Rattle.pp_scan.specs.Look.{synced}
use Rattle.pp_store.specs.Front.{DoesFront, unsynced, front_refused, front_unsynced, front_kept}

pub not_synced : {E : Type 0} (bytes : List ℕ) (old new : DiskState) (fault : E)
    → DoesSync old (Err fault) new → DoesFront bytes old (Err fault) new
not_synced bytes old new fault does = record {
  tells = does.call.tells;
  honest = does.call.honest;
  later = does.call.later;
  done = λ known. tt;
  leaves = λ known. unsynced new.history (does.refused known);
  cause = does.call.cause;
  hard_cause = does.hard_cause;
}

-- a call that answered Ok, and one behind it
both : {T U E F : Type 0} {before mid now : ℕ} {first : Result T E} {second : Result U F} → HasCause before mid first → HasCause mid now second → HasCause before now second
both {before = before} {mid = mid} {now = now} one two = record {
  later = omega (arith, one.later, two.later);
  risen = λ err below. let r : mid < now = two.risen err below in omega (arith, one.later, r);
}

module _ {E : Type 0} (bytes : List ℕ) (old mid new : DiskState) (u : Unit {0}) (first : DoesSync {E = E} old (Ok u) mid) where
  known_mid : IsKnown old → IsKnown mid
  known_mid = known_on old mid first.call.tells first.call.honest

  -- the history in the middle
  from_mid : IsKnown old → (P : History → Type 0) → P mid.history → P (synced old.history)
  from_mid known P p = subst P (first.done known) p

  pub front_kept_by : (result : Result (Unit {0}) E) → DoesKeep mid 0 bytes result new → DoesFront bytes old result new
  front_kept_by (Ok v) second = record {
    tells = second.tells ∙ first.call.tells;
    honest = second.honest ∙ first.call.honest;
    later = omega (arith, first.call.later, second.later);
    done = done;
    leaves = λ known. front_kept new.history (done known);
    cause = both first.call.cause second.cause;
    hard_cause = both first.hard_cause second.hard_cause;
  }
    where
      done : IsKnown old → new.history ≡ kept (synced old.history) 0 bytes
      done known = from_mid known (λ (h : History). new.history ≡ kept h 0 bytes) (second.done (known_mid known))
  front_kept_by (Err fault) second = record {
    tells = second.tells ∙ first.call.tells;
    honest = second.honest ∙ first.call.honest;
    later = omega (arith, first.call.later, second.later);
    done = λ known. tt;
    leaves = λ known. ⊎_elim
        (λ r. front_refused new.history (from_mid known (λ (h : History). IsRefusedWrite h 0 bytes new.history) r))
        (λ r. front_unsynced new.history (from_mid known (λ (h : History). new.history ≡ after_write h 0 bytes) r))
        (second.refused (known_mid known));
    cause = both first.call.cause second.cause;
    hard_cause = both first.hard_cause second.hard_cause;
  }

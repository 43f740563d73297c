-- For the induction over turns.
use Rattle.std.proofs.Common.{◌≡◌, ◌⊎◌, inl, inr, ⊎_elim, ℕ, zero, suc, ◌+◌, ◌<◌, leb, eqb, Bool, true, false, cond, not, ◌&&◌, List, [], ◌∷◌, ◌++◌, length, refl, subst, arith}
use Rattle.std.proofs.lemmas.Bool.{or_cases, or_left, or_right, le-leb, ne_eqb}
use Rattle.std.specs.List.{AllByRecursion}
use Rattle.pp_terms.specs.tree.Book.{LookUp}
use Rattle.pp_terms.specs.tree.Claims.{Contradicts}
use Rattle.pp_terms.specs.format.Traffic.{Record, Received, Quiet, Sent}
use Rattle.pp_terms.specs.format.Descriptor.{Descriptor}
use Rattle.pp_traffic.specs.Past.{now, is_event, EachRecord}
use Rattle.pp_traffic.specs.Life.{Life, greets}
use Rattle.pp_traffic.specs.Story.{told, story}
use Rattle.pp_traffic.specs.Laws.{Extends}
use Rattle.pp_traffic.specs.Plain.{IsPlainNow}
use Rattle.pp_traffic.specs.Turns.{in_turns, AtTurnEndsBut, AtEndsOfTurnsBut}
use Rattle.pp_promises.specs.LastTurn.{earlier}
use Rattle.pp_promises.specs.ReadStory.{with_unread, is_replied, is_read, read_story}
use Rattle.pp_promises.specs.Announced.{is_acknowledged, IsFirst, AcknowledgesFirst, AcknowledgesAll}
use Rattle.pp_promises.specs.Laws.{ReadsGrow}

-- ---- ends of turns: more may be left out; a turn more ends as it should, or adds one that is left out; what is sent adds none

pub ends_stay : (P : List Record → Type 0) (r more : ℕ) (past : List Record) → AtTurnEndsBut r P past → AtTurnEndsBut (r + more) P past
ends_stay P r more [] e = e
ends_stay P r more (Received at sender bytes ∷ b) (inl both) = inl (both.0, ends_stay P r more b both.1)
ends_stay P r more (Received at sender bytes ∷ b) (inr (k, is, rest)) = inr (k + more, omega (arith, is), ends_stay P k more b rest)
ends_stay P r more (Quiet at ∷ b) (inl both) = inl (both.0, ends_stay P r more b both.1)
ends_stay P r more (Quiet at ∷ b) (inr (k, is, rest)) = inr (k + more, omega (arith, is), ends_stay P k more b rest)
ends_stay P r more (Sent moment receiver bytes ∷ b) e = ends_stay P r more b e

pub ends_last : (P : List Record → Type 0) (r more : ℕ) (past : List Record) → AtTurnEndsBut r P past → P past ⊎ (0 < more)
    → AtEndsOfTurnsBut (r + more) P past
ends_last P r more past e (inl here) = inl (here, ends_stay P r more past e)
ends_last P r zero past e (inr some) = absurd (omega (arith, some))
ends_last P r (suc more) past e (inr some) = inr (r + more, omega arith, ends_stay P r more past e)

pub ends_event : (P : List Record → Type 0) (r more : ℕ) (event : Record) (past : List Record) → is_event event ≡ true → AtTurnEndsBut r P past
    → P past ⊎ (0 < more) → AtTurnEndsBut (r + more) P (event ∷ past)
ends_event P r more (Received at sender bytes) past is e here = ends_last P r more past e here
ends_event P r more (Quiet at) past is e here = ends_last P r more past e here
ends_event P r more (Sent moment receiver bytes) past is e here = absurd cc

pub ends_sent : (P : List Record → Type 0) (r : ℕ) (sent past : List Record) → AllByRecursion (λ x. is_event x ≡ false) sent → AtTurnEndsBut r P past
    → AtTurnEndsBut r P (sent ++ past)
ends_sent P r [] past all e = e
ends_sent P r (Received at sender bytes ∷ sent) past all e = absurd (let never : true ≡ false = all.0 in cc)
ends_sent P r (Quiet at ∷ sent) past all e = absurd (let never : true ≡ false = all.0 in cc)
ends_sent P r (Sent moment receiver bytes ∷ sent) past all e = ends_sent P r sent past all.1 e

turns_follow : (P Q : List Record → Type 0) (r : ℕ) (past : List Record) → ((x : List Record) → P x → Q x) → AtTurnEndsBut r P past → AtTurnEndsBut r Q past
turns_follow P Q r [] f e = e
turns_follow P Q r (Received at sender bytes ∷ b) f (inl both) = inl (f b both.0, turns_follow P Q r b f both.1)
turns_follow P Q r (Received at sender bytes ∷ b) f (inr (k, is, rest)) = inr (k, is, turns_follow P Q k b f rest)
turns_follow P Q r (Quiet at ∷ b) f (inl both) = inl (f b both.0, turns_follow P Q r b f both.1)
turns_follow P Q r (Quiet at ∷ b) f (inr (k, is, rest)) = inr (k, is, turns_follow P Q k b f rest)
turns_follow P Q r (Sent moment receiver bytes ∷ b) f e = turns_follow P Q r b f e

pub ends_follow : (P Q : List Record → Type 0) (r : ℕ) (past : List Record) → ((x : List Record) → P x → Q x) → AtEndsOfTurnsBut r P past → AtEndsOfTurnsBut r Q past
ends_follow P Q r past f (inl both) = inl (f past both.0, turns_follow P Q r past f both.1)
ends_follow P Q r past f (inr (k, is, rest)) = inr (k, is, turns_follow P Q k past f rest)

-- ---- books

pub contradictions_stay : (book larger meets : LookUp) → Extends book larger → Contradicts book meets → Contradicts larger meets
contradictions_stay book larger meets extends c = record {
  layer = c.layer;
  offset = c.offset;
  digest = c.digest;
  kept = c.kept;
  is_met = c.is_met;
  here = extends c.layer c.offset c.kept c.here;
  other = c.other;
}

each_follows : (P Q : List Record → Record → Type 0) (past : List Record) → ((b : List Record) (r : Record) → P b r → Q b r) → EachRecord P past → EachRecord Q past
each_follows P Q [] f e = e
each_follows P Q (r ∷ b) f e = (f b r e.0, each_follows P Q b f e.1)

pub acknowledged_stays : (d : Descriptor) (book larger : LookUp) (past : List Record) → Extends book larger → AcknowledgesAll d book past → AcknowledgesAll d larger past
acknowledged_stays d book larger past extends all = ends_follow (AcknowledgesFirst d book) (AcknowledgesFirst d larger) 0 (in_turns d past) at_end all
  where
    less : (life : Life) (b : List Record) (r : Record) (i : ℕ) (bytes : List ℕ) → IsFirst d larger life b r i bytes → IsFirst d book life b r i bytes
    less life b r i bytes first = record {
      brings = first.brings;
      proved = first.proved;
      agrees = λ c. first.agrees (contradictions_stay book larger _ extends c);
      none_before = first.none_before;
      none_in_front = first.none_in_front;
    }

    at_end : (past : List Record) → AcknowledgesFirst d book past → AcknowledgesFirst d larger past
    at_end past acknowledges quiet = each_follows
        (λ b r. (life : Life) (i : ℕ) (bytes : List ℕ) → IsFirst d book life b r i bytes → IsPlainNow d life past → is_acknowledged i (story d life past) ≡ true)
        (λ b r. (life : Life) (i : ℕ) (bytes : List ℕ) → IsFirst d larger life b r i bytes → IsPlainNow d life past → is_acknowledged i (story d life past) ≡ true)
        (earlier past) (λ b r here life i bytes first. here life i bytes (less life b r i bytes first)) (acknowledges quiet)

-- ---- what is read

-- a record more of a life that has begun
pub begun : (d : Descriptor) (life : Life) (r : Record) (past : List Record) → life.opening < length past
    → read_story d life (r ∷ past) ≡ cond (is_read d life (r ∷ past)) (told d life false (now (r ∷ past)) r (read_story d life past)) (with_unread d life false (now (r ∷ past)) r (read_story d life past))
begun d life r past lt = pick (leb life.opening (length past)) (eqb life.opening (length past)) (le-leb life.opening (length past) (omega (arith, lt)))
    (ne_eqb life.opening (length past) (λ e. omega (arith, e, lt)))
  where
    pick : (x y : Bool) → x ≡ true → y ≡ false
        → cond x (cond (is_read d life (r ∷ past)) (told d life y (now (r ∷ past)) r (read_story d life past)) (with_unread d life y (now (r ∷ past)) r (read_story d life past))) []
        ≡ cond (is_read d life (r ∷ past)) (told d life false (now (r ∷ past)) r (read_story d life past)) (with_unread d life false (now (r ∷ past)) r (read_story d life past))
    pick true false e e' = refl
    pick true true e e' = absurd cc
    pick false y e e' = absurd cc

read_on : (d : Descriptor) (life : Life) (r : Record) (past : List Record) (x : Bool) → life.opening < length past → is_read d life (r ∷ past) ≡ x
    → read_story d life (r ∷ past) ≡ cond x (told d life false (now (r ∷ past)) r (read_story d life past)) (with_unread d life false (now (r ∷ past)) r (read_story d life past))
read_on d life r past x lt is =
    subst (λ (y : Bool). read_story d life (r ∷ past) ≡ cond y (told d life false (now (r ∷ past)) r (read_story d life past)) (with_unread d life false (now (r ∷ past)) r (read_story d life past)))
    is (begun d life r past lt)

reads_stay : (d : Descriptor) (life : Life) (r : Record) (past : List Record) → is_read d life past ≡ true → is_read d life (r ∷ past) ≡ true
reads_stay d life r past e = ⊎_elim
    (λ l. or_left (not life.is_dialled) (is_replied d life (r ∷ past)) l)
    (λ l. or_right (not life.is_dialled) (is_replied d life (r ∷ past)) (or_right (leb life.opening (length past) && greets d life r) (is_replied d life past) l))
    (or_cases (not life.is_dialled) (is_replied d life past) e)

pub reads_grow : ReadsGrow
reads_grow = record {
  read = λ d life r past lt is. read_on d life r past true lt is;
  unread = λ d life r past lt is. read_on d life r past false lt is;
  stays = reads_stay;
}

-- What is sure of a chunk that a trusty session sent behind some messages: these close no channel, and are hashes of its book, few and
-- of nodes that cover chunks.
use Rattle.std.proofs.Common.{◌≡◌, ℕ, ◌^◌, ◌<◌, ◌≤◌, ◌==◌, Bool, false, ◌||◌, Option, List, [], ◌∷◌, ◌++◌, length, map, refl, sym, ◌∙◌, ap, subst, arith, append_assoc, length-append}
use Rattle.std.specs.List.{AllByRecursion, list_any}
use Rattle.std.proofs.lemmas.Bool.{or_parts}
use Rattle.pp_terms.specs.format.Descriptor.{Descriptor, chunks_of}
use Rattle.pp_terms.specs.format.Messages.{Message, Handshake, Data}
use Rattle.pp_terms.specs.format.Traffic.{Address, Record, Sent}
use Rattle.pp_terms.specs.tree.Book.{LookUp, IsBacked}
use Rattle.pp_terms.specs.tree.Range.{Span, leaves_of}
use Rattle.pp_traffic.specs.Hashes.{Carries}
use Rattle.pp_traffic.specs.Laws.{plan}
use Rattle.pp_traffic.specs.Life.{closes}
use Rattle.pp_traffic.specs.Past.{read, EachRecord}
use Rattle.pp_traffic.specs.Serving.{Window, ServesChunk, ServesFrom, Serves, window_of}
use Rattle.pp_traffic.specs.Turns.{is_closing}
use Rattle.pp_promises.specs.Datagrams.{hash_spans, is_read_told, PlansPeer, PlansFrom, Plans}
use Rattle.pp_promises.specs.Promises.{IsSafe}
use Rattle.pp_shipments.proofs.Plans.{plan_covers, plan_inside, few_planned}

-- ---- one record of a list

pub record_there : (P : List Record → Record → Type 0) (after : List Record) (r : Record) (past : List Record) → EachRecord P (after ++ r ∷ past) → P past r
record_there P [] r past each = each.0
record_there P (x ∷ after) r past each = record_there P after r past each.1

none_there : (p : Record → Bool) (after : List Record) (r : Record) (past : List Record) → list_any p (after ++ r ∷ past) ≡ false → p r ≡ false
none_there p [] r past e = (or_parts (p r) (list_any p past) e).0
none_there p (x ∷ after) r past e = none_there p after r past (or_parts (p x) (list_any p (after ++ r ∷ past)) e).1

-- ---- the messages before the chunk

front_closes : (front : List Message) (m : Message) → closes (front ++ m ∷ []) ≡ false → closes front ≡ false
front_closes [] m e = refl
front_closes (Handshake source options ∷ front) m e =
    let parts = or_parts (source == 0) (closes (front ++ m ∷ [])) e in
    let rest = front_closes front m parts.1 in
    ap (λ (b : Bool). b || closes front) parts.0 ∙ rest
front_closes (x ∷ front) m e = front_closes front m e

longer : (behind front : List Message) (m : Message) → (behind ++ m ∷ []) ++ front ≡ behind ++ m ∷ front
longer behind front m = append_assoc behind (m ∷ []) front

alone : (behind : List Message) → behind ++ [] ≡ behind
alone [] = refl
alone (m ∷ ms) = ap (λ (xs : List Message). m ∷ xs) (alone ms)

module _ (d : Descriptor) (window : Window) (past : List Record) (receiver : Address) (channel : Option ℕ) (i sent_at : ℕ) (bytes : List ℕ) where
  -- it is served with all of them in front
  serves_at : (book : LookUp) (behind front : List Message) → ServesFrom d book window past receiver channel behind (front ++ Data i sent_at bytes ∷ [])
      → ServesChunk d book window past receiver channel (behind ++ front) i bytes []
  serves_at book behind [] s = subst (λ (ms : List Message). ServesChunk d book window past receiver channel ms i bytes []) (sym (alone behind)) s
  serves_at book behind (Data j at other ∷ front) s =
      let none : length (front ++ Data i sent_at bytes ∷ []) ≡ 0 = ap length s.last in
      let sum = length-append front (Data i sent_at bytes ∷ []) in
      absurd (omega (arith, none, sum))
  serves_at book behind (m ∷ front) s =
      subst (λ (ms : List Message). ServesChunk d book window past receiver channel ms i bytes []) (longer behind front m)
      (serves_at book (behind ++ m ∷ []) front s)

  -- and planned so
  plans_at : (behind front : List Message) → PlansFrom d window past receiver channel behind (front ++ Data i sent_at bytes ∷ [])
      → PlansPeer d window past receiver channel i (behind ++ front)
  plans_at behind [] p = subst (λ (ms : List Message). PlansPeer d window past receiver channel i ms) (sym (alone behind)) p.0
  plans_at behind (Data j at other ∷ front) p =
      subst (λ (ms : List Message). PlansPeer d window past receiver channel i ms) (longer behind front (Data j at other))
      (plans_at (behind ++ Data j at other ∷ []) front p.1)
  plans_at behind (m ∷ front) p =
      subst (λ (ms : List Message). PlansPeer d window past receiver channel i ms) (longer behind front m) (plans_at (behind ++ m ∷ []) front p)

-- ---- the whole

-- What is sure of the chunk and of the messages before it.
pub record IsSureOf (d : Descriptor) (book : LookUp) (i : ℕ) (bytes : List ℕ) (front : List Message) : Type 0 where
  pub backed : IsBacked d book i bytes
  pub hashes : AllByRecursion (Carries book) front
  pub covers : AllByRecursion (λ (s : Span). s.first < chunks_of d) (hash_spans front)
  pub inside : AllByRecursion (λ (s : Span). s.last < chunks_of d) (hash_spans front)
  pub few : length (hash_spans front) ≤ 128
  pub open_still : closes front ≡ false

pub sure_of : (d : Descriptor) (book : LookUp) (after past : List Record) (moment : ℕ) (to : Address) (datagram : List ℕ) (i sent_at : ℕ) (bytes : List ℕ)
    (front : List Message) → chunks_of d ≤ 2 ^ 20 → IsSafe d book (after ++ Sent moment to datagram ∷ past)
    → list_any (is_closing d) (after ++ Sent moment to datagram ∷ past) ≡ false
    → (read d (Sent moment to datagram)).messages.read ≡ front ++ Data i sent_at bytes ∷ [] → IsSureOf d book i bytes front
sure_of d book after past moment to datagram i sent_at bytes front most safe closes_none messages =
    let r : Record = Sent moment to datagram in
    let served : Serves d book (window_of d) past r = record_there (Serves d book (window_of d)) after r past safe.serves in
    let planned : Plans d (window_of d) past r = record_there (Plans d (window_of d)) after r past safe.plans in
    let serves = serves_at d (window_of d) past to (read d r).channel i sent_at bytes book [] front
    (subst (λ (ms : List Message). ServesFrom d book (window_of d) past to (read d r).channel [] ms) messages served) in
    let plans = plans_at d (window_of d) past to (read d r).channel i sent_at bytes [] front
    (subst (λ (ms : List Message). PlansFrom d (window_of d) past to (read d r).channel [] ms) messages planned) in
    let exact : hash_spans front ≡ map leaves_of (plan (chunks_of d) (is_read_told d plans.life past) i) = plans.plans.exact in record {
      backed = serves.backed;
      hashes = serves.hashes;
      covers = subst (AllByRecursion (λ (s : Span). s.first < chunks_of d)) (sym exact)
          (plan_covers (chunks_of d) (is_read_told d plans.life past) i most serves.backed.within);
      inside = subst (AllByRecursion (λ (s : Span). s.last < chunks_of d)) (sym exact)
          (plan_inside (chunks_of d) (is_read_told d plans.life past) i most serves.backed.within);
      few = let few = few_planned (chunks_of d) (is_read_told d plans.life past) i most serves.backed.within in
          subst (λ (ss : List Span). length ss ≤ 128) (sym exact) few;
      open_still = front_closes front (Data i sent_at bytes)
          (ap closes (sym messages) ∙ none_there (is_closing d) after r past closes_none);
    }

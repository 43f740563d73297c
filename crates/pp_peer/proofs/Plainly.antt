-- Records of notes: they bring no chunk, and what they announce is committed.
use Rattle.std.proofs.Common.{◌≡◌, ℕ, ◌+◌, ◌≤◌, Bool, true, false, cond, ◌||◌, List, [], ◌∷◌, ◌++◌, map, length, refl, sym, ◌∙◌, ap, subst, arith}
use Rattle.std.specs.List.{AllByRecursion, list_any}
use Rattle.std.proofs.lemmas.List.Folds.{list_any-append}
use Rattle.std.proofs.lemmas.Bool.{or_left, or_right}
use Rattle.pp_terms.specs.Count.{capped}
use Rattle.pp_terms.specs.format.Descriptor.{Descriptor}
use Rattle.pp_terms.specs.format.Messages as plain
use Rattle.pp_terms.specs.format.Messages.{Message, Datagram}
use Rattle.pp_terms.specs.format.Traffic.{Record, Received, Quiet, Sent}
use Rattle.pp_terms.specs.tree.Range.{Span}
use Rattle.pp_tree.specs.Book.{entry}
use Rattle.pp_traffic.specs.Past.{read}
use Rattle.pp_traffic.specs.Committed.{has_request, requests}
use Rattle.pp_traffic.specs.Meter.{lets_send}
use Rattle.pp_traffic.specs.Serving.{ServesAll}
use Rattle.pp_traffic.specs.Keeping.{announces, EachAnnounced}
use Rattle.pp_traffic.specs.Tallied.{came, came_short, went}
use Rattle.pp_promises.specs.Datagrams.{PlansAll}
use Rattle.pp_promises.specs.Served.{is_announced}
use Rattle.pp_counts.specs.declared.counts.Counts.{Counts}
use Rattle.pp_store.specs.Store.{is_committed}
use Rattle.pp_draft.specs.declared.note.Note.{Note}
use Rattle.pp_draft.specs.declared.note.Note.TheVariants.{KeepAlive, Handshake, Close, Choke, Unchoke, Ack, Have, Request, Cancel, PexReq, Pex4, Pex6}
use Rattle.pp_draft.specs.Notes.{Says, SayAll}
use Rattle.pp_holding.specs.Holding.{HoldingState}
use Rattle.pp_desk.specs.Hearing.{IsNoData}
use Rattle.pp_desk.specs.Delivers.{Way, Batch, At, DeliversEach, notes_of}
use Rattle.pp_desk.specs.Laws.{records_of}
use Rattle.pp_peer.specs.declared.parts.Parts.{Parts}
use Rattle.pp_seats.specs.Sending.{requested}
use Rattle.pp_peer.specs.Standing.{Beginning, Ledger}
use Rattle.pp_peer.specs.Flushing.{IsOurs}
use Rattle.pp_peer.proofs.Flushed.{all_both, serves_plain, plans_plain}

-- ---- messages without a chunk

messages_both : (xs ys : List Message) → AllByRecursion IsNoData xs → AllByRecursion IsNoData ys → AllByRecursion IsNoData (xs ++ ys)
messages_both [] ys a b = b
messages_both (x ∷ xs) ys a b = (a.0, messages_both xs ys a.1 b)

mapped : (make : Span → Message) (spans : List Span) → ((span : Span) → IsNoData (make span)) → AllByRecursion IsNoData (map make spans)
mapped make [] f = tt
mapped make (x ∷ xs) f = (f x, mapped make xs f)

one_bare : (d : Descriptor) (note : Note) (ms : List Message) → Says d note ms → AllByRecursion IsNoData ms
one_bare d KeepAlive ms says = subst (λ (x : List Message). AllByRecursion IsNoData x) (sym says) tt
one_bare d (Handshake source) ms says = subst (λ (x : List Message). AllByRecursion IsNoData x) (sym says) (tt, tt)
one_bare d Close ms says = subst (λ (x : List Message). AllByRecursion IsNoData x) (sym says) (tt, tt)
one_bare d Choke ms says = subst (λ (x : List Message). AllByRecursion IsNoData x) (sym says) (tt, tt)
one_bare d Unchoke ms says = subst (λ (x : List Message). AllByRecursion IsNoData x) (sym says) (tt, tt)
one_bare d (Ack range delay) ms says = subst (λ (x : List Message). AllByRecursion IsNoData x) (sym says.messages) (mapped _ says.spans (λ span. tt))
one_bare d (Have range) ms says = subst (λ (x : List Message). AllByRecursion IsNoData x) (sym says.messages) (mapped _ says.spans (λ span. tt))
one_bare d (Request range) ms says = subst (λ (x : List Message). AllByRecursion IsNoData x) (sym says.messages) (mapped _ says.spans (λ span. tt))
one_bare d (Cancel range) ms says = subst (λ (x : List Message). AllByRecursion IsNoData x) (sym says.messages) (mapped _ says.spans (λ span. tt))
one_bare d PexReq ms says = subst (λ (x : List Message). AllByRecursion IsNoData x) (sym says) (tt, tt)
one_bare d (Pex4 address port) ms says = subst (λ (x : List Message). AllByRecursion IsNoData x) (sym says) (tt, tt)
one_bare d (Pex6 address port) ms says = subst (λ (x : List Message). AllByRecursion IsNoData x) (sym says) (tt, tt)

all_bare : (d : Descriptor) (notes : List Note) (ms : List Message) → SayAll d notes ms → AllByRecursion IsNoData ms
all_bare d [] ms says = subst (λ (x : List Message). AllByRecursion IsNoData x) (sym says) tt
all_bare d (n ∷ notes) ms says = subst (λ (x : List Message). AllByRecursion IsNoData x) (sym says.4)
    (messages_both says.0 says.1 (one_bare d n says.0 says.2) (all_bare d notes says.1 says.3))

-- ---- records

-- A datagram without a chunk was sent.
abbrev pub IsBare : Descriptor → (moment : ℕ) → Record → Type 0
IsBare d moment (Sent at receiver bytes) = (at ≡ moment) × AllByRecursion IsNoData (read d (Sent at receiver bytes)).messages.read
IsBare d moment _ = ⊥

pub records_bare : (w : Way) (bs : List Batch) (old new : At) → DeliversEach w bs old new → AllByRecursion (IsBare w.d w.moment) (records_of w bs)
records_bare w [] old new h = tt
records_bare w (b ∷ bs) old new h =
    all_both (IsBare w.d w.moment) (records_of w bs) _ (records_bare w bs h.0 new h.2)
    (of b.sent (subst (λ (x : Datagram). AllByRecursion IsNoData x.messages.read) (sym h.1.written.read) (all_bare w.d b.notes b.messages h.1.said)))
  where
    of : (sent : Bool) → AllByRecursion IsNoData (read w.d (Sent w.moment w.receiver b.bytes)).messages.read
        → AllByRecursion (IsBare w.d w.moment) (cond sent (Sent w.moment w.receiver b.bytes ∷ []) [])
    of true bare = ((refl, bare), tt)
    of false bare = tt

pub records_ours : (w : Way) (bs : List Batch) (old new : At) → DeliversEach w bs old new → AllByRecursion (IsOurs w.d w.moment) (records_of w bs)
records_ours w [] old new h = tt
records_ours w (b ∷ bs) old new h = all_both (IsOurs w.d w.moment) (records_of w bs) _ (records_ours w bs h.0 new h.2) (of b.sent)
  where
    of : (sent : Bool) → AllByRecursion (IsOurs w.d w.moment) (cond sent (Sent w.moment w.receiver b.bytes ∷ []) [])
    of true = (record { receiver = w.receiver; bytes = b.bytes; is = refl; channel = w.channel; messages = b.messages; written = h.1.written }, tt)
    of false = tt

-- ---- records that ask for nothing

asks_append : (xs ys : List Message) → has_request xs ≡ false → has_request ys ≡ false → has_request (xs ++ ys) ≡ false
asks_append [] ys a b = b
asks_append (plain.Handshake source options ∷ xs) ys a b = asks_append xs ys a b
asks_append (plain.Data i sent_at bytes ∷ xs) ys a b = asks_append xs ys a b
asks_append (plain.Ack span delay ∷ xs) ys a b = asks_append xs ys a b
asks_append (plain.Have span ∷ xs) ys a b = asks_append xs ys a b
asks_append (plain.Integrity span digest ∷ xs) ys a b = asks_append xs ys a b
asks_append (plain.Pex4 address port ∷ xs) ys a b = asks_append xs ys a b
asks_append (plain.PexReq ∷ xs) ys a b = asks_append xs ys a b
asks_append (plain.Request span ∷ xs) ys a b = absurd cc
asks_append (plain.Cancel span ∷ xs) ys a b = asks_append xs ys a b
asks_append (plain.Choke ∷ xs) ys a b = asks_append xs ys a b
asks_append (plain.Unchoke ∷ xs) ys a b = asks_append xs ys a b
asks_append (plain.Pex6 address port ∷ xs) ys a b = asks_append xs ys a b

mapped_asks : (make : Span → Message) (spans : List Span) → ((span : Span) (ms : List Message) → has_request (make span ∷ ms) ≡ has_request ms)
    → has_request (map make spans) ≡ false
mapped_asks make [] f = refl
mapped_asks make (x ∷ xs) f = f x (map make xs) ∙ mapped_asks make xs f

one_asks : (d : Descriptor) (note : Note) (notes : List Note) (ms : List Message) → requested (note ∷ notes) ≡ [] → Says d note ms → has_request ms ≡ false
one_asks d KeepAlive notes ms none says = ap has_request says
one_asks d (Handshake source) notes ms none says = ap has_request says
one_asks d Close notes ms none says = ap has_request says
one_asks d Choke notes ms none says = ap has_request says
one_asks d Unchoke notes ms none says = ap has_request says
one_asks d (Ack range delay) notes ms none says = ap has_request says.messages ∙ mapped_asks _ says.spans (λ span ms. refl)
one_asks d (Have range) notes ms none says = ap has_request says.messages ∙ mapped_asks _ says.spans (λ span ms. refl)
one_asks d (Request range) notes ms none says = absurd cc
one_asks d (Cancel range) notes ms none says = ap has_request says.messages ∙ mapped_asks _ says.spans (λ span ms. refl)
one_asks d PexReq notes ms none says = ap has_request says
one_asks d (Pex4 address port) notes ms none says = ap has_request says
one_asks d (Pex6 address port) notes ms none says = ap has_request says

rest_none : (note : Note) (notes : List Note) → requested (note ∷ notes) ≡ [] → requested notes ≡ []
rest_none KeepAlive notes e = e
rest_none (Handshake source) notes e = e
rest_none Close notes e = e
rest_none Choke notes e = e
rest_none Unchoke notes e = e
rest_none (Ack range delay) notes e = e
rest_none (Have range) notes e = e
rest_none (Request range) notes e = absurd cc
rest_none (Cancel range) notes e = e
rest_none PexReq notes e = e
rest_none (Pex4 address port) notes e = e
rest_none (Pex6 address port) notes e = e

all_asks : (d : Descriptor) (notes : List Note) (ms : List Message) → requested notes ≡ [] → SayAll d notes ms → has_request ms ≡ false
all_asks d [] ms none says = ap has_request says
all_asks d (n ∷ notes) ms none says = ap has_request says.4
    ∙ asks_append says.0 says.1 (one_asks d n notes says.0 none says.2) (all_asks d notes says.1 (rest_none n notes none) says.3)

none_both : (xs ys : List Note) → requested (xs ++ ys) ≡ [] → (requested xs ≡ []) × (requested ys ≡ [])
none_both [] ys e = (refl, e)
none_both (x ∷ xs) ys e = let r = none_both xs ys (rest_none x (xs ++ ys) e) in (first x e r.0, r.1)
  where
    first : (n : Note) → requested (n ∷ (xs ++ ys)) ≡ [] → requested xs ≡ [] → requested (n ∷ xs) ≡ []
    first KeepAlive e r = r
    first (Handshake source) e r = r
    first Close e r = r
    first Choke e r = r
    first Unchoke e r = r
    first (Ack range delay) e r = r
    first (Have range) e r = r
    first (Request range) e r = absurd cc
    first (Cancel range) e r = r
    first PexReq e r = r
    first (Pex4 address port) e r = r
    first (Pex6 address port) e r = r

pub records_ask_none : (w : Way) (bs : List Batch) (old new : At) → requested (notes_of bs) ≡ [] → DeliversEach w bs old new → list_any (requests w.d) (records_of w bs) ≡ false
records_ask_none w [] old new none h = refl
records_ask_none w (b ∷ bs) old new none h =
    let parts = none_both b.notes (notes_of bs) none in
    list_any-append (requests w.d) (records_of w bs) _
    ∙ ap (λ (x : Bool). x || list_any (requests w.d) (cond b.sent (Sent w.moment w.receiver b.bytes ∷ []) [])) (records_ask_none w bs h.0 new parts.1 h.2)
    ∙ of b.sent (ap (λ (x : Datagram). has_request x.messages.read) h.1.written.read ∙ all_asks w.d b.notes b.messages parts.0 h.1.said)
  where
    of : (sent : Bool) → has_request (read w.d (Sent w.moment w.receiver b.bytes)).messages.read ≡ false
        → list_any (requests w.d) (cond sent (Sent w.moment w.receiver b.bytes ∷ []) []) ≡ false
    of true e = ap (λ (x : Bool). x || false) e
    of false e = refl

went_more : (d : Descriptor) (moment : ℕ) (rs past : List Record) → AllByRecursion (IsBare d moment) rs → went (rs ++ past) ≡ went past + length rs
went_more d moment [] past a = omega arith
went_more d moment (Received at sender bytes ∷ rs) past a = absurd a.0
went_more d moment (Quiet at ∷ rs) past a = absurd a.0
went_more d moment (Sent at receiver bytes ∷ rs) past a = let e = went_more d moment rs past a.1 in omega (arith, e)

came_same : (d : Descriptor) (moment : ℕ) (rs past : List Record) → AllByRecursion (IsBare d moment) rs
    → (came (rs ++ past) ≡ came past) × (came_short (rs ++ past) ≡ came_short past)
came_same d moment [] past a = (refl, refl)
came_same d moment (Received at sender bytes ∷ rs) past a = absurd a.0
came_same d moment (Quiet at ∷ rs) past a = absurd a.0
came_same d moment (Sent at receiver bytes ∷ rs) past a = came_same d moment rs past a.1

module _ (b : Beginning) (p : Parts) (moment : ℕ) (past : List Record) where
  serves_more : (rs : List Record) → AllByRecursion (IsBare b.d moment) rs → ServesAll b.d (entry p.holding.book) (lets_send b.d.chunk) past
      → ServesAll b.d (entry p.holding.book) (lets_send b.d.chunk) (rs ++ past)
  serves_more [] a s = s
  serves_more (Received at sender bytes ∷ rs) a s = absurd a.0
  serves_more (Quiet at ∷ rs) a s = absurd a.0
  serves_more (Sent at receiver bytes ∷ rs) a s =
      (serves_plain b.d (entry p.holding.book) (lets_send b.d.chunk) (rs ++ past) receiver _ [] _ a.0.1, serves_more rs a.1 s)

  plans_more : (rs : List Record) → AllByRecursion (IsBare b.d moment) rs → PlansAll b.d (lets_send b.d.chunk) past
      → PlansAll b.d (lets_send b.d.chunk) (rs ++ past)
  plans_more [] a s = s
  plans_more (Received at sender bytes ∷ rs) a s = absurd a.0
  plans_more (Quiet at ∷ rs) a s = absurd a.0
  plans_more (Sent at receiver bytes ∷ rs) a s = (plans_plain b.d (lets_send b.d.chunk) (rs ++ past) receiver _ [] _ a.0.1, plans_more rs a.1 s)

  -- what is announced by then is committed
  abbrev AllHeld : List Record → Type 0
  AllHeld rs = (i : ℕ) → is_announced b.d i (rs ++ past) ≡ true → is_committed p.holding.store i ≡ true

  announced_more : (rs : List Record) → AllByRecursion (IsBare b.d moment) rs → AllHeld rs → b.since ≤ moment
      → EachAnnounced b.d (λ at i. (is_committed p.holding.store i ≡ true) × (b.since ≤ at)) past
      → EachAnnounced b.d (λ at i. (is_committed p.holding.store i ≡ true) × (b.since ≤ at)) (rs ++ past)
  announced_more [] a held since e = e
  announced_more (Received at sender bytes ∷ rs) a held since e = absurd a.0
  announced_more (Quiet at ∷ rs) a held since e = absurd a.0
  announced_more (Sent at receiver bytes ∷ rs) a held since e = (
    λ i is. (
      held i (or_left (announces i (read b.d (Sent at receiver bytes)).messages.read) (is_announced b.d i (rs ++ past)) is),
      subst (λ (n : ℕ). b.since ≤ n) (sym a.0.0) since,
    ),
    announced_more rs a.1 (λ i is. held i (or_right (announces i (read b.d (Sent at receiver bytes)).messages.read) (is_announced b.d i (rs ++ past)) is)) since e,
  )

-- So many datagrams were counted as sent, and no other count that the records tell changed.
pub record CountsMany (times : ℕ) (old new : Counts) : Type 0 where
  pub datagrams : new.datagrams ≡ old.datagrams
  pub short : new.short ≡ old.short
  pub sent : new.sent ≡ capped (old.sent + times)

capped_many : (n m : ℕ) → capped (capped n + m) ≡ capped (n + m)
capped_many n m = omega arith

pub ledger_bare : (b : Beginning) (old new : Parts) (moment : ℕ) (rs past : List Record) → AllByRecursion (IsBare b.d moment) rs → new.holding ≡ old.holding
    → CountsMany (length rs) old.counts new.counts → ((i : ℕ) → is_announced b.d i (rs ++ past) ≡ true → is_committed old.holding.store i ≡ true)
    → b.since ≤ moment → Ledger b old past → Ledger b new (rs ++ past)
ledger_bare b old new moment rs past bare same counts held since l = record {
  swarm = ap (λ (h : HoldingState). h.store.descriptor) same ∙ l.swarm;
  served = subst (λ (h : HoldingState). ServesAll b.d (entry h.book) (lets_send b.d.chunk) (rs ++ past)) (sym same) (serves_more b old moment past rs bare l.served);
  plans = plans_more b old moment past rs bare l.plans;
  announced = subst (λ (h : HoldingState). EachAnnounced b.d (λ at i. (is_committed h.store i ≡ true) × (b.since ≤ at)) (rs ++ past)) (sym same)
      (announced_more b old moment past rs bare held since l.announced);
  tied = record {
    datagrams = counts.datagrams ∙ l.tied.datagrams ∙ ap capped (sym (came_same b.d moment rs past bare).0);
    short = counts.short ∙ l.tied.short ∙ ap capped (sym (came_same b.d moment rs past bare).1);
    sent = counts.sent ∙ ap (λ (n : ℕ). capped (n + length rs)) l.tied.sent ∙ capped_many (went past) (length rs)
        ∙ ap capped (sym (went_more b.d moment rs past bare));
  };
}

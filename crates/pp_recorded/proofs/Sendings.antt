-- What is sent, message by message and record by record.
use Rattle.std.proofs.Common.{◌≡◌, ◌↔◌, ℕ, suc, ◌+◌, ◌-◌, ◌<◌, ◌≤◌, Bool, true, false, Option, List, [], ◌∷◌, ◌++◌, length, get_or, take, refl, sym, ◌∙◌, ap, subst, arith, append_assoc}
use Rattle.std.specs.List.{AllByRecursion}
use Rattle.pp_terms.specs.format.Traffic.{Address, Record}
use Rattle.pp_terms.specs.format.Descriptor.{Descriptor}
use Rattle.pp_terms.specs.tree.Book.{LookUp, IsBacked}
use Rattle.pp_terms.specs.format.Messages.{Message}
use Rattle.pp_traffic.specs.Past.{EachRecord}
use Rattle.pp_traffic.specs.Serving.{Window, AnswersPeer, ServesChunk, ServesFrom}
use Rattle.pp_traffic.specs.Hashes.{Carries}
use Rattle.pp_wire.specs.Views.{message_of}
use Rattle.pp_wire.specs.declared.message.Message as code
use Rattle.pp_wire.specs.declared.message.Message.TheVariants as variants
use Rattle.pp_recorded.specs.declared.entry.Entry.{Entry}
use Rattle.pp_recorded.specs.Entries.{record_of, past}
use Rattle.pp_recorded.proofs.Pasts.{first, one_more, first_all}

-- ---- the front of a datagram, and the rest

-- So many messages were passed, and what is left has S behind them exactly where the whole has it.
pub record IsOn (S : List Message → List Message → Type 0) (whole : List Message) (count : ℕ) (part : List Message) : Type 0 where
  pub parts : whole ≡ take count whole ++ part
  pub long : length (take count whole) ≡ count
  pub forward : S [] whole → S (take count whole) part
  pub back : S (take count whole) part → S [] whole

pub on_first : (S : List Message → List Message → Type 0) (whole part : List Message) → whole ≡ part → IsOn S whole 0 part
on_first S whole part e = record {
  parts = e;
  long = refl;
  forward = λ s. subst (λ (ms : List Message). S [] ms) e s;
  back = λ s. subst (λ (ms : List Message). S [] ms) (sym e) s;
}

take_front : (front : List Message) (m : Message) (ms : List Message) → take (length front + 1) (front ++ m ∷ ms) ≡ front ++ m ∷ []
take_front [] m ms = refl
take_front (x ∷ front) m ms =
    ap (λ (n : ℕ). take n (x ∷ front ++ m ∷ ms)) (let e : suc (length front) + 1 ≡ suc (length front + 1) = omega arith in e)
    ∙ ap (λ (xs : List Message). x ∷ xs) (take_front front m ms)

length_more : (front : List Message) (m : Message) → length (front ++ m ∷ []) ≡ length front + 1
length_more [] m = refl
length_more (x ∷ front) m = ap (λ (n : ℕ). suc n) (length_more front m) ∙ (let e : suc (length front + 1) ≡ suc (length front) + 1 = omega arith in e)

-- one message more, by what S says of it behind those that were passed
pub on_next : (S : List Message → List Message → Type 0) (whole ms rest : List Message) (m : Message) (count : ℕ) → IsOn S whole count ms → ms ≡ m ∷ rest
    → (S (take count whole) (m ∷ rest) → S (take count whole ++ m ∷ []) rest) → (S (take count whole ++ m ∷ []) rest → S (take count whole) (m ∷ rest))
    → IsOn S whole (count + 1) rest
on_next S whole ms rest m count on e to from =
    let split : whole ≡ take count whole ++ m ∷ rest = on.parts ∙ ap (λ (xs : List Message). take count whole ++ xs) e in
    let front : take (count + 1) whole ≡ take count whole ++ m ∷ [] =
    ap (λ (n : ℕ). take (n + 1) whole) (sym on.long) ∙ ap (λ (xs : List Message). take (length (take count whole) + 1) xs) split ∙ take_front (take count whole) m rest in
    record {
      parts = split ∙ sym (append_assoc (take count whole) (m ∷ []) rest) ∙ ap (λ (xs : List Message). xs ++ rest) (sym front);
      long = ap (λ (xs : List Message). length xs) front ∙ length_more (take count whole) m ∙ ap (λ (n : ℕ). n + 1) on.long;
      forward = λ s. subst (λ (xs : List Message). S xs rest) (sym front) (to (subst (λ (xs : List Message). S (take count whole) xs) e (on.forward s)));
      back = λ s. on.back (subst (λ (xs : List Message). S (take count whole) xs) (sym e) (from (subst (λ (xs : List Message). S xs rest) front s)));
    }

pub on_more : (S : List Message → List Message → Type 0) (whole ms rest : List Message) (m : Message) (count : ℕ) → IsOn S whole count ms → ms ≡ m ∷ rest
    → ((front : List Message) → S front (m ∷ rest) → S (front ++ m ∷ []) rest) → ((front : List Message) → S (front ++ m ∷ []) rest → S front (m ∷ rest))
    → IsOn S whole (count + 1) rest
on_more S whole ms rest m count on e to from = on_next S whole ms rest m count on e (to (take count whole)) (from (take count whole))

pub on_one : (S : List Message → List Message → Type 0) (whole ms rest : List Message) (m : Message) (count : ℕ) (b : Bool) → IsOn S whole count ms → ms ≡ m ∷ rest
    → ((b ≡ true) ↔ S (take count whole) (m ∷ rest)) → (b ≡ true) ↔ S [] whole
on_one S whole ms rest m count b on e iff = (
  λ t. on.back (subst (λ (xs : List Message). S (take count whole) xs) (sym e) (iff.0 t)),
  λ s. iff.1 (subst (λ (xs : List Message). S (take count whole) xs) e (on.forward s)),
)

pub on_end : (S : List Message → List Message → Type 0) (whole ms : List Message) (count : ℕ) → IsOn S whole count ms → ms ≡ [] → ((front : List Message) → S front [])
    → (◌≡◌ {A = Bool} true true) ↔ S [] whole
on_end S whole ms count on e ends = (λ t. on.back (subst (λ (xs : List Message). S (take count whole) xs) (sym e) (ends (take count whole))), λ s. refl)

-- a message that is no DATA is passed
pub passes : (d : Descriptor) (book : LookUp) (window : Window) (before : List Record) (receiver : Address) (channel : Option ℕ) (rest : List Message) (m : code.Message)
    → ((chunk sent_at : ℕ) (bytes : _) → m ≡ variants.Data chunk sent_at bytes → ⊥) → (front : List Message)
    → ServesFrom d book window before receiver channel front (message_of m ∷ rest) → ServesFrom d book window before receiver channel (front ++ message_of m ∷ []) rest
passes d book window before receiver channel rest (variants.Handshake source options) none front s = s
passes d book window before receiver channel rest (variants.Data chunk sent_at bytes) none front s = absurd (none chunk sent_at bytes refl)
passes d book window before receiver channel rest (variants.Ack span delay) none front s = s
passes d book window before receiver channel rest (variants.Have span) none front s = s
passes d book window before receiver channel rest (variants.Integrity span digest) none front s = s
passes d book window before receiver channel rest (variants.Pex4 address port) none front s = s
passes d book window before receiver channel rest variants.PexReq none front s = s
passes d book window before receiver channel rest (variants.Request span) none front s = s
passes d book window before receiver channel rest (variants.Cancel span) none front s = s
passes d book window before receiver channel rest variants.Choke none front s = s
passes d book window before receiver channel rest variants.Unchoke none front s = s
passes d book window before receiver channel rest (variants.Pex6 address port) none front s = s

pub passed : (d : Descriptor) (book : LookUp) (window : Window) (before : List Record) (receiver : Address) (channel : Option ℕ) (rest : List Message) (m : code.Message)
    → ((chunk sent_at : ℕ) (bytes : _) → m ≡ variants.Data chunk sent_at bytes → ⊥) → (front : List Message)
    → ServesFrom d book window before receiver channel (front ++ message_of m ∷ []) rest → ServesFrom d book window before receiver channel front (message_of m ∷ rest)
passed d book window before receiver channel rest (variants.Handshake source options) none front s = s
passed d book window before receiver channel rest (variants.Data chunk sent_at bytes) none front s = absurd (none chunk sent_at bytes refl)
passed d book window before receiver channel rest (variants.Ack span delay) none front s = s
passed d book window before receiver channel rest (variants.Have span) none front s = s
passed d book window before receiver channel rest (variants.Integrity span digest) none front s = s
passed d book window before receiver channel rest (variants.Pex4 address port) none front s = s
passed d book window before receiver channel rest variants.PexReq none front s = s
passed d book window before receiver channel rest (variants.Request span) none front s = s
passed d book window before receiver channel rest (variants.Cancel span) none front s = s
passed d book window before receiver channel rest variants.Choke none front s = s
passed d book window before receiver channel rest variants.Unchoke none front s = s
passed d book window before receiver channel rest (variants.Pex6 address port) none front s = s

-- ---- one chunk

fails : (P : Type 0) → (P → ⊥) → (◌≡◌ {A = Bool} false true) ↔ P
fails P none = (λ e. absurd cc, λ p. absurd (none p))

-- a fact that a test denies
denied : (b : Bool) (P : Type 0) → ((b ≡ true) ↔ P) → b ≡ false → P → ⊥
denied b P iff is p = let t = iff.1 p in absurd cc

pub served : (d : Descriptor) (book : LookUp) (window : Window) (before : List Record) (receiver : Address) (channel : Option ℕ) (front : List Message) (i : ℕ) (bytes : List ℕ) (rest : List Message)
    (b : Bool) → rest ≡ [] → IsBacked d book i bytes → AllByRecursion (Carries book) front
    → ((b ≡ true) ↔ AnswersPeer d window before receiver channel i front) → (b ≡ true) ↔ ServesChunk d book window before receiver channel front i bytes rest
served d book window before receiver channel front i bytes rest b last backed hashes iff =
    (λ e. record { last = last; backed = backed; hashes = hashes; peer = iff.0 e }, λ s. iff.1 s.peer)

-- ---- the records, from the newest to the oldest

-- Those from a place on were looked at.
pub record AreOn (P : List Record → Record → Type 0) (xs : List Entry) (place : ℕ) : Type 0 where
  pub within : place ≤ length xs
  pub forward : EachRecord P (past xs) → EachRecord P (first place xs)
  pub back : EachRecord P (first place xs) → EachRecord P (past xs)

pub are_on-none : (P : List Record → Record → Type 0) (xs : List Entry) (n : ℕ) → n ≡ length xs → AreOn P xs n
are_on-none P xs n e =
    let same : first n xs ≡ past xs = first_all xs n (omega arith) in
    record {
      within = omega arith;
      forward = λ s. subst (λ (rs : List Record). EachRecord P rs) (sym same) s;
      back = λ s. subst (λ (rs : List Record). EachRecord P rs) same s;
    }

newest : (xs : List Entry) (place : ℕ) (x : Entry) → 0 < place → place ≤ length xs → x ≡ get_or xs (place - 1) x → first place xs ≡ record_of x ∷ first (place - 1) xs
newest xs place x some le is =
    ap (λ (n : ℕ). first n xs) (let e : place ≡ place - 1 + 1 = omega arith in e) ∙ one_more xs (place - 1) x (omega arith) is

pub are_on-more : (P : List Record → Record → Type 0) (xs : List Entry) (place : ℕ) (x : Entry) (b : Bool) → AreOn P xs place → 0 < place → x ≡ get_or xs (place - 1) x
    → ((b ≡ true) ↔ P (first (place - 1) xs) (record_of x)) → b ≡ true → AreOn P xs (place - 1)
are_on-more P xs place x b on some is iff e =
    let split = newest xs place x some on.within is in
    record {
      within = (let le = on.within in omega arith);
      forward = λ s. (subst (λ (rs : List Record). EachRecord P rs) split (on.forward s)).1;
      back = λ s. on.back (subst (λ (rs : List Record). EachRecord P rs) (sym split) (iff.0 e, s));
    }

pub are_on-stop : (P : List Record → Record → Type 0) (xs : List Entry) (place : ℕ) (x : Entry) (b : Bool) → AreOn P xs place → 0 < place → x ≡ get_or xs (place - 1) x
    → ((b ≡ true) ↔ P (first (place - 1) xs) (record_of x)) → b ≡ false → (◌≡◌ {A = Bool} false true) ↔ EachRecord P (past xs)
are_on-stop P xs place x b on some is iff e =
    let split = newest xs place x some on.within is in
    fails _ (λ s. denied b (P (first (place - 1) xs) (record_of x)) iff e (subst (λ (rs : List Record). EachRecord P rs) split (on.forward s)).0)

pub are_on-all : (P : List Record → Record → Type 0) (xs : List Entry) (place : ℕ) → AreOn P xs place → place ≤ 0 → (◌≡◌ {A = Bool} true true) ↔ EachRecord P (past xs)
are_on-all P xs place on none = (λ t. on.back (subst (λ (n : ℕ). EachRecord P (first n xs)) (let e : 0 ≡ place = omega arith in e) tt), λ s. refl)

-- What holds of all notes that are due, by what holds of each kind.
use Rattle.std.proofs.Common.{◌≡◌, ℕ, Bool, true, false, cond, ◌&&◌, ◌||◌, List, [], ◌∷◌, ◌++◌, map, refl, ◌∙◌, Option, Some, None}
use Rattle.std.specs.List.{AllByRecursion, list_any}
use Rattle.std.proofs.lemmas.List.Folds.{list_any-append}
use Rattle.pp_terms.specs.tree.Range.{Span}
use Rattle.pp_outside.specs.declared.link.Address.{Address}
use Rattle.pp_outside.specs.declared.link.Address.TheVariants.{V4, V6}
use Rattle.pp_draft.specs.declared.note.Note.{Note}
use Rattle.pp_draft.specs.declared.note.Note.TheVariants as notes
use Rattle.pp_seat.specs.Seats.{SeatState}
use Rattle.pp_seat.specs.Turns.{due_turn}
use Rattle.pp_seat.specs.declared.service.Turn.{Turn}
use Rattle.pp_seat.specs.declared.service.Turn.TheVariants.{Choke, Unchoke}
use Rattle.pp_agenda.specs.declared.agenda.Due.{Due}
use Rattle.pp_agenda.specs.Agendas.{only, turn_notes, ack_note, have_note, request_note, cancel_note, address_note, parts_below, spoken_notes, or_keep_alive}

-- ---- a fact of each note

pub all_both : {X : Type 0} (P : X → Type 0) (xs ys : List X) → AllByRecursion P xs → AllByRecursion P ys → AllByRecursion P (xs ++ ys)
all_both P [] ys a b = b
all_both P (x ∷ xs) ys a b = (a.0, all_both P xs ys a.1 b)

pub all_mapped : {X : Type 0} (P : Note → Type 0) (f : X → Note) (xs : List X) → AllByRecursion (λ x. P (f x)) xs → AllByRecursion P (map f xs)
all_mapped P f [] a = tt
all_mapped P f (x ∷ xs) a = (a.0, all_mapped P f xs a.1)

pub all_same : {X : Type 0} (P : X → Type 0) (xs : List X) → ((x : X) → P x) → AllByRecursion P xs
all_same P [] h = tt
all_same P (x ∷ xs) h = (h x, all_same P xs h)

pub all_turned : {X : Type 0} (P Q : X → Type 0) (xs : List X) → ((x : X) → P x → Q x) → AllByRecursion P xs → AllByRecursion Q xs
all_turned P Q [] h a = tt
all_turned P Q (x ∷ xs) h a = (h x a.0, all_turned P Q xs h a.1)

pub all_only : (P : Note → Type 0) (b : Bool) (xs : List Note) → AllByRecursion P xs → AllByRecursion P (only b xs)
all_only P true xs a = a
all_only P false xs a = tt

pub all_turn : (P : Note → Type 0) (b : Bool) (turn : Option Turn) → P notes.Choke → P notes.Unchoke → AllByRecursion P (turn_notes b turn)
all_turn P b None one two = tt
all_turn P b (Some Choke) one two = (one, tt)
all_turn P true (Some Unchoke) one two = (two, tt)
all_turn P false (Some Unchoke) one two = tt

-- KEEPALIVE is there instead of nothing
pub kept : (P : List Note → Type 0) (b : Bool) (xs : List Note) → P (notes.KeepAlive ∷ []) → P xs → P (or_keep_alive b xs)
kept P true [] alive is = alive
kept P false [] alive is = is
kept P b (x ∷ xs) alive is = is

-- what holds of each note of each kind
pub record OfEach (P : Note → Type 0) (s : SeatState) (due : Due) (rows cancels : List Span) : Type 0 where
  pub choke : P notes.Choke
  pub unchoke : P notes.Unchoke
  pub acks : AllByRecursion (λ x. P (ack_note x)) due.acknowledgements.now
  pub news : AllByRecursion (λ x. P (have_note x)) (parts_below s.cursor due.news.now)
  pub told : AllByRecursion (λ x. P (have_note x)) rows
  pub asked : AllByRecursion (λ x. P (request_note x)) due.requests.now
  pub dropped : AllByRecursion (λ x. P (cancel_note x)) cancels
  pub question : P notes.PexReq
  pub answers : AllByRecursion (λ x. P (address_note x)) due.addresses.now

pub all_spoken : (P : Note → Type 0) (s : SeatState) (due : Due) (rows cancels : List Span) → OfEach P s due rows cancels → AllByRecursion P (spoken_notes s due rows cancels)
all_spoken P s due rows cancels o =
    all_both P _ _ (all_both P _ _ (all_both P _ _ (all_both P _ _ (all_both P _ _ (all_both P _ _ (all_both P _ _
    (all_turn P s.proven (due_turn s) o.choke o.unchoke)
    (all_only P s.proven _ (all_mapped P ack_note due.acknowledgements.now o.acks)))
    (all_only P (due.tells && s.proven) _ (all_mapped P have_note (parts_below s.cursor due.news.now) o.news)))
    (all_mapped P have_note rows o.told))
    (all_only P s.proven _ (all_mapped P request_note due.requests.now o.asked)))
    (all_mapped P cancel_note cancels o.dropped))
    (all_only P (s.proven && due.asks_addresses) (notes.PexReq ∷ []) (o.question, tt)))
    (all_only P s.proven _ (all_mapped P address_note due.addresses.now o.answers))

-- ---- whether some note passes a test

pub none_passes : (p : Note → Bool) (xs : List Note) → AllByRecursion (λ x. p x ≡ false) xs → list_any p xs ≡ false
none_passes p [] a = refl
none_passes p (x ∷ xs) a = λ t. a.0 t || none_passes p xs a.1 t

pub none_mapped : {X : Type 0} (p : Note → Bool) (f : X → Note) (b : Bool) (xs : List X) → ((x : X) → p (f x) ≡ false) → list_any p (only b (map f xs)) ≡ false
none_mapped p f b xs h = none_passes p (only b (map f xs)) (all_only (λ x. p x ≡ false) b (map f xs) (all_mapped (λ x. p x ≡ false) f xs (all_same (λ x. p (f x) ≡ false) xs h)))

pub any_kept : (p : Note → Bool) (b : Bool) (xs : List Note) → p notes.KeepAlive ≡ false → list_any p (or_keep_alive b xs) ≡ list_any p xs
any_kept p true [] alive = λ t. alive t || false
any_kept p false [] alive = refl
any_kept p b (x ∷ xs) alive = refl

-- the test, kind by kind
pub any_spoken : (p : Note → Bool) (s : SeatState) (due : Due) (rows cancels : List Span) (t a n r q c x y : Bool)
    → list_any p (turn_notes s.proven (due_turn s)) ≡ t
    → list_any p (only s.proven (map ack_note due.acknowledgements.now)) ≡ a
    → list_any p (only (due.tells && s.proven) (map have_note (parts_below s.cursor due.news.now))) ≡ n
    → list_any p (map have_note rows) ≡ r
    → list_any p (only s.proven (map request_note due.requests.now)) ≡ q
    → list_any p (map cancel_note cancels) ≡ c
    → list_any p (only (s.proven && due.asks_addresses) (notes.PexReq ∷ [])) ≡ x
    → list_any p (only s.proven (map address_note due.addresses.now)) ≡ y
    → list_any p (spoken_notes s due rows cancels) ≡ (t || a || n || r || q || c || x || y)
any_spoken p s due rows cancels t a n r q c x y et ea en er eq ec ex ey =
    more _ _ _ _ (more _ _ _ _ (more _ _ _ _ (more _ _ _ _ (more _ _ _ _ (more _ _ _ _ (more _ _ _ _ et ea) en) er) eq) ec) ex) ey
  where
    more : (xs ys : List Note) (b d : Bool) → list_any p xs ≡ b → list_any p ys ≡ d → list_any p (xs ++ ys) ≡ (b || d)
    more xs ys b d eb ed = list_any-append p xs ys ∙ (λ t. eb t || ed t)

-- a fact of an address's note
pub address_is : (P : Note → Type 0) → ((bytes : List ℕ) (port : ℕ) → P (notes.Pex4 bytes port)) → ((bytes : List ℕ) (port : ℕ) → P (notes.Pex6 bytes port))
    → (address : Address) → P (address_note address)
address_is P four six (V4 bytes port) = four bytes port
address_is P four six (V6 bytes port) = six bytes port

-- ---- lists that are read of the notes

pub read_kept : {X : Type 0} (f : List Note → List X) (b : Bool) (xs : List Note) → f (notes.KeepAlive ∷ []) ≡ f [] → f (or_keep_alive b xs) ≡ f xs
read_kept f true [] alive = alive
read_kept f false [] alive = refl
read_kept f b (x ∷ xs) alive = refl

pub read_only : {X : Type 0} (f : List Note → List X) (b : Bool) (xs : List Note) (ys : List X) → f [] ≡ [] → f xs ≡ ys → f (only b xs) ≡ cond b ys []
read_only f true xs ys none is = is
read_only f false xs ys none is = none

-- kind by kind
pub read_spoken : {X : Type 0} (f : List Note → List X) → ((xs ys : List Note) → f (xs ++ ys) ≡ f xs ++ f ys) → (s : SeatState) (due : Due) (rows cancels : List Span) (t a n r q c x y : List X)
    → f (turn_notes s.proven (due_turn s)) ≡ t
    → f (only s.proven (map ack_note due.acknowledgements.now)) ≡ a
    → f (only (due.tells && s.proven) (map have_note (parts_below s.cursor due.news.now))) ≡ n
    → f (map have_note rows) ≡ r
    → f (only s.proven (map request_note due.requests.now)) ≡ q
    → f (map cancel_note cancels) ≡ c
    → f (only (s.proven && due.asks_addresses) (notes.PexReq ∷ [])) ≡ x
    → f (only s.proven (map address_note due.addresses.now)) ≡ y
    → f (spoken_notes s due rows cancels) ≡ t ++ a ++ n ++ r ++ q ++ c ++ x ++ y
read_spoken {X = X} f both s due rows cancels t a n r q c x y et ea en er eq ec ex ey =
    more _ _ _ _ (more _ _ _ _ (more _ _ _ _ (more _ _ _ _ (more _ _ _ _ (more _ _ _ _ (more _ _ _ _ et ea) en) er) eq) ec) ex) ey
  where
    more : (xs ys : List Note) (b d : List X) → f xs ≡ b → f ys ≡ d → f (xs ++ ys) ≡ b ++ d
    more xs ys b d eb ed = both xs ys ∙ (λ i. eb i ++ ed i)

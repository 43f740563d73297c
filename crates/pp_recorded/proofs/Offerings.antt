-- What the peer of a channel offers, whether it chokes, and what it was asked for long ago, by its story and by the records.
use Rattle.std.proofs.Common.{◌≡◌, ⊎_elim, ℕ, ◌+◌, ◌<◌, ◌≤◌, leb, eqb, Bool, true, false, cond, ◌&&◌, ◌||◌, List, [], ◌∷◌, length, refl, sym, ◌∙◌, ap, subst, arith}
use Rattle.std.specs.List.{list_any}
use Rattle.std.proofs.lemmas.Bool.{cases_lt, le-leb, lt-leb}
use Rattle.pp_terms.specs.format.Traffic.{Record, Received, Quiet, Sent}
use Rattle.pp_terms.specs.format.Descriptor.{Descriptor}
use Rattle.pp_terms.specs.format.Messages.{Message, Handshake, Data, Ack, Have, Integrity, Pex4, PexReq, Request, Cancel, Choke, Unchoke, Pex6}
use Rattle.pp_traffic.specs.Past as traffic
use Rattle.pp_traffic.specs.Life.{Life}
use Rattle.pp_traffic.specs.Story.{Line, Heard, Said, Taken, hear, say, heard_in, said_in, told, story}
use Rattle.pp_promises.specs.OwnSide.{has_in, is_offered, is_choked_by_peer, is_old, has_old_request, waiting_time}
use Rattle.pp_recorded.proofs.Sayings.{swap}
use Rattle.pp_recorded.specs.Sorts.{is_request}
use Rattle.pp_recorded.specs.Offers.{brought, has_heard, chokes_after, chokes_since, asked_long}

-- the newest record, where it isn't before the opening or is
pub by_opening : (place at : ℕ) (X : Bool → Type 0) → (leb at place ≡ true → X true) → (leb at place ≡ false → place < at → X false) → X (leb at place)
by_opening place at X inside outside = ⊎_elim
    (λ lt. let e = lt-leb at place lt in subst (λ (b : Bool). X b) (sym e) (outside e lt))
    (λ le. let e = le-leb at place le in subst (λ (b : Bool). X b) (sym e) (inside e))
    (cases_lt place at)

-- ---- what came

abbrev pub hears_any : (Message → Bool) → List Line → Bool
hears_any test [] = false
hears_any test (Heard now m ∷ before) = test m || hears_any test before
hears_any test (Said now m ∷ before) = hears_any test before
hears_any test (Taken now ∷ before) = hears_any test before

hears_each : (test : Message → Bool) (at : ℕ) (ms : List Message) (lines : List Line) → hears_any test (hear at ms lines) ≡ (list_any test ms || hears_any test lines)
hears_each test at [] lines = refl
hears_each test at (m ∷ ms) lines = hears_each test at ms (Heard at m ∷ lines) ∙ swap (list_any test ms) (test m) (hears_any test lines)

says_none : (test : Message → Bool) (at : ℕ) (ms : List Message) (lines : List Line) → hears_any test (say at ms lines) ≡ hears_any test lines
says_none test at [] lines = refl
says_none test at (m ∷ ms) lines = says_none test at ms (Said at m ∷ lines)

hears_told : (test : Message → Bool) (d : Descriptor) (life : Life) (is_opening : Bool) (moment : ℕ) (r : Record) (lines : List Line)
    → hears_any test (told d life is_opening moment r lines) ≡ (list_any test (brought d life is_opening r) || hears_any test lines)
hears_told test d life is_opening moment (Received at sender bytes) lines = hears_each test moment (heard_in d life is_opening (Received at sender bytes)) lines
hears_told test d life is_opening moment (Quiet at) lines = refl
hears_told test d life is_opening moment (Sent at receiver bytes) lines = says_none test moment (said_in d life (Sent at receiver bytes)) lines

none_heard : (test : Message → Bool) (d : Descriptor) (life : Life) (past : List Record) → length past ≤ life.opening → has_heard test d life past ≡ false
none_heard test d life [] le = refl
none_heard test d life (r ∷ past) le =
    rw (lt-leb life.opening (length past) (omega (arith, le))) (none_heard test d life past (omega (arith, le)))

hears_story : (test : Message → Bool) (d : Descriptor) (life : Life) (past : List Record) → hears_any test (story d life past) ≡ has_heard test d life past
hears_story test d life [] = refl
hears_story test d life (r ∷ before) = by_opening (length before) life.opening
    (λ b. hears_any test (cond b (told d life (eqb life.opening (length before)) (traffic.now (r ∷ before)) r (story d life before)) [])
    ≡ ((b && list_any test (brought d life (eqb life.opening (length before)) r)) || has_heard test d life before))
    (λ e. hears_told test d life (eqb life.opening (length before)) (traffic.now (r ∷ before)) r (story d life before)
    ∙ ap (λ (b : Bool). list_any test (brought d life (eqb life.opening (length before)) r) || b) (hears_story test d life before))
    (λ e lt. sym (none_heard test d life before (omega (arith, lt))))

offered_any : (i : ℕ) (lines : List Line) → is_offered i lines ≡ hears_any (has_in i) lines
offered_any i [] = refl
offered_any i (Heard now m ∷ before) = ap (λ (b : Bool). has_in i m || b) (offered_any i before)
offered_any i (Said now m ∷ before) = offered_any i before
offered_any i (Taken now ∷ before) = offered_any i before

pub offered_heard : (d : Descriptor) (life : Life) (i : ℕ) (past : List Record) → is_offered i (story d life past) ≡ has_heard (has_in i) d life past
offered_heard d life i past = offered_any i (story d life past) ∙ hears_story (has_in i) d life past

-- ---- chokes

chokes_each : (at : ℕ) (ms : List Message) (lines : List Line) → is_choked_by_peer (hear at ms lines) ≡ chokes_after ms (is_choked_by_peer lines)
chokes_each at [] lines = refl
chokes_each at (m ∷ ms) lines = chokes_each at ms (Heard at m ∷ lines)

chokes_said : (at : ℕ) (ms : List Message) (lines : List Line) → is_choked_by_peer (say at ms lines) ≡ is_choked_by_peer lines
chokes_said at [] lines = refl
chokes_said at (m ∷ ms) lines = chokes_said at ms (Said at m ∷ lines)

chokes_told : (d : Descriptor) (life : Life) (is_opening : Bool) (moment : ℕ) (r : Record) (lines : List Line)
    → is_choked_by_peer (told d life is_opening moment r lines) ≡ chokes_after (brought d life is_opening r) (is_choked_by_peer lines)
chokes_told d life is_opening moment (Received at sender bytes) lines = chokes_each moment (heard_in d life is_opening (Received at sender bytes)) lines
chokes_told d life is_opening moment (Quiet at) lines = refl
chokes_told d life is_opening moment (Sent at receiver bytes) lines = chokes_said moment (said_in d life (Sent at receiver bytes)) lines

pub chokes_heard : (d : Descriptor) (life : Life) (past : List Record) → is_choked_by_peer (story d life past) ≡ chokes_since d life past
chokes_heard d life [] = refl
chokes_heard d life (r ∷ before) = by_opening (length before) life.opening
    (λ b. is_choked_by_peer (cond b (told d life (eqb life.opening (length before)) (traffic.now (r ∷ before)) r (story d life before)) [])
    ≡ cond b (chokes_after (brought d life (eqb life.opening (length before)) r) (chokes_since d life before)) false)
    (λ e. chokes_told d life (eqb life.opening (length before)) (traffic.now (r ∷ before)) r (story d life before)
    ∙ ap (λ (b : Bool). chokes_after (brought d life (eqb life.opening (length before)) r) b) (chokes_heard d life before))
    (λ e lt. refl)

-- ---- requests of long ago

old_request : (latest at : ℕ) (m : Message) → is_old latest at m ≡ (is_request m && leb (at + waiting_time) latest)
old_request latest at (Handshake source options) = refl
old_request latest at (Data chunk sent_at bytes) = refl
old_request latest at (Ack span delay) = refl
old_request latest at (Have span) = refl
old_request latest at (Integrity span digest) = refl
old_request latest at (Pex4 address port) = refl
old_request latest at PexReq = refl
old_request latest at (Request span) = refl
old_request latest at (Cancel span) = refl
old_request latest at Choke = refl
old_request latest at Unchoke = refl
old_request latest at (Pex6 address port) = refl

both_old : (x y t z : Bool) → ((x && t) || ((y && t) || z)) ≡ (((y || x) && t) || z)
both_old true true true z = refl
both_old true true false z = refl
both_old true false true z = refl
both_old true false false z = refl
both_old false true true z = refl
both_old false true false z = refl
both_old false false true z = refl
both_old false false false z = refl

old_said : (latest at : ℕ) (ms : List Message) (lines : List Line)
    → has_old_request latest (say at ms lines) ≡ ((list_any is_request ms && leb (at + waiting_time) latest) || has_old_request latest lines)
old_said latest at [] lines = refl
old_said latest at (m ∷ ms) lines =
    old_said latest at ms (Said at m ∷ lines)
    ∙ ap (λ (b : Bool). (list_any is_request ms && leb (at + waiting_time) latest) || (b || has_old_request latest lines)) (old_request latest at m)
    ∙ both_old (list_any is_request ms) (is_request m) (leb (at + waiting_time) latest) (has_old_request latest lines)

old_heard : (latest at : ℕ) (ms : List Message) (lines : List Line) → has_old_request latest (hear at ms lines) ≡ has_old_request latest lines
old_heard latest at [] lines = refl
old_heard latest at (m ∷ ms) lines = old_heard latest at ms (Heard at m ∷ lines)

old_told : (d : Descriptor) (life : Life) (is_opening : Bool) (latest moment : ℕ) (r : Record) (lines : List Line)
    → has_old_request latest (told d life is_opening moment r lines)
    ≡ ((list_any is_request (said_in d life r) && leb (moment + waiting_time) latest) || has_old_request latest lines)
old_told d life is_opening latest moment (Received at sender bytes) lines = old_heard latest moment (heard_in d life is_opening (Received at sender bytes)) lines
old_told d life is_opening latest moment (Quiet at) lines = refl
old_told d life is_opening latest moment (Sent at receiver bytes) lines = old_said latest moment (said_in d life (Sent at receiver bytes)) lines

none_asked : (d : Descriptor) (life : Life) (latest : ℕ) (past : List Record) → length past ≤ life.opening → asked_long d life latest past ≡ false
none_asked d life latest [] le = refl
none_asked d life latest (r ∷ past) le =
    rw (lt-leb life.opening (length past) (omega (arith, le))) (none_asked d life latest past (omega (arith, le)))

pub asked_long_ago : (d : Descriptor) (life : Life) (latest : ℕ) (past : List Record) → has_old_request latest (story d life past) ≡ asked_long d life latest past
asked_long_ago d life latest [] = refl
asked_long_ago d life latest (r ∷ before) = by_opening (length before) life.opening
    (λ b. has_old_request latest (cond b (told d life (eqb life.opening (length before)) (traffic.now (r ∷ before)) r (story d life before)) [])
    ≡ ((b && (list_any is_request (said_in d life r) && leb (traffic.now (r ∷ before) + waiting_time) latest)) || asked_long d life latest before))
    (λ e. old_told d life (eqb life.opening (length before)) latest (traffic.now (r ∷ before)) r (story d life before)
    ∙ ap (λ (b : Bool). (list_any is_request (said_in d life r) && leb (traffic.now (r ∷ before) + waiting_time) latest) || b) (asked_long_ago d life latest before))
    (λ e lt. sym (none_asked d life latest before (omega (arith, lt))))

-- Where a datagram leaves no known channel there was none before, and where it begins one.
use Rattle.std.proofs.Common.{◌≡◌, ⊎_elim, ℕ, zero, suc, Bool, true, false, ◌&&◌, Option, Some, None, option_map, List, [], ◌∷◌, map, take, refl, sym, ◌∙◌, ap}
use Rattle.std.specs.Prelude.{is_none, if◌then◌else◌}
use Rattle.std.proofs.Math.ListN.{set}
use Rattle.std.proofs.lemmas.Bool.{cases_eq}
use Rattle.std.proofs.lemmas.List.Quantifiers.{position-Some}
use Rattle.std.specs.Int.{w32, from_be_bytes}
use Rattle.pp_terms.specs.format.Descriptor.{Descriptor}
use Rattle.pp_outside.specs.declared.link.Address.{Address}
use Rattle.pp_channels.specs.Seats.{Seats, at_seat, channel_at, changed, closed, with_channel, with_channel_at, free_seat, after_drop, unreplied, is_dialled}
use Rattle.pp_channels.specs.declared.channel.Channel.{Channel}
use Rattle.pp_channels.specs.declared.channel.State.TheVariants.{Proven}
use Rattle.pp_channels.specs.declared.channel.Opening.{Opening}
use Rattle.pp_channels.specs.declared.channel.Opening.TheVariants.{Dialled, Answered}
use Rattle.pp_channels.specs.Timing.{is_greeted}
use Rattle.pp_lives.specs.Reading.{is_waiting}
use Rattle.pp_lives.specs.Fars.{far_of}
use Rattle.pp_terms.specs.format.Options as plain
use Rattle.pp_traffic.specs.Life.{fits}
use Rattle.pp_lives.specs.Arriving.{Arrives, Greets, Welcomes, Meets, Answers, Awaited, Comes, Numbered, is_waiting_at}
use Rattle.pp_lives.specs.declared.arriving.Arrival.{Arrival}
use Rattle.pp_lives.specs.declared.arriving.Arrival.TheVariants as arrivals

-- Where no peer is known afterwards, none was before.
abbrev pub FarStays : Seats → Seats → Type 0
FarStays t new = (n : ℕ) → far_of (channel_at new n) ≡ None → far_of (channel_at t n) ≡ None

far_set : (xs : List (Option Channel)) (k : ℕ) (o : Option Channel) → (far_of o ≡ None → far_of (at_seat xs k) ≡ None)
    → (n : ℕ) → far_of (at_seat (set xs k o) n) ≡ None → far_of (at_seat xs n) ≡ None
far_set [] k o f n e = e
far_set (x ∷ xs) zero o f zero e = f e
far_set (x ∷ xs) zero o f (suc n) e = e
far_set (x ∷ xs) (suc k) o f zero e = e
far_set (x ∷ xs) (suc k) o f (suc n) e = far_set xs k o f n e

far_dropped : (d o : Option Channel) → far_of (after_drop d o) ≡ far_of o
far_dropped d None = refl
far_dropped d (Some c) = refl

pub far_map : (d : Option Channel) (xs : List (Option Channel)) (n : ℕ) → far_of (at_seat (map (after_drop d) xs) n) ≡ far_of (at_seat xs n)
far_map d [] n = refl
far_map d (x ∷ xs) zero = far_dropped d x
far_map d (x ∷ xs) (suc n) = far_map d xs n

same_far : (t new : Seats) → new ≡ t → FarStays t new
same_far t new e n far = ap (λ (s : Seats). far_of (channel_at s n)) (sym e) ∙ far

changed_far : (t new : Seats) (seat : ℕ) (f : Channel → Channel) → new ≡ changed t seat f
    → (far_of (option_map f (channel_at t seat)) ≡ None → far_of (channel_at t seat) ≡ None) → FarStays t new
changed_far t new seat f e keeps n far =
    far_set t.channels seat (option_map f (channel_at t seat)) keeps n (ap (λ (s : Seats). far_of (channel_at s n)) (sym e) ∙ far)

pub closed_far : (t new : Seats) (seat : ℕ) → new ≡ closed t seat → (n : ℕ) → far_of (channel_at new n) ≡ None
    → (far_of (channel_at t seat) ≡ None) → far_of (channel_at t n) ≡ None
closed_far t new seat e n far waits =
    far_set t.channels seat None (λ none. waits) n (sym (far_map (channel_at t seat) (set t.channels seat None) n) ∙ ap (λ (s : Seats). far_of (channel_at s n)) (sym e) ∙ far)

-- ---- one channel

if_none : {X : Type 0} (b : Bool) (x : X) → (if b then None else Some x) ≡ None → b ≡ true
if_none true x e = refl
if_none false x e = absurd cc

none_if : {X : Type 0} (b : Bool) (x : X) → b ≡ true → (if b then None else Some x) ≡ None
none_if b x e = ap (λ (c : Bool). if c then None else Some x) e

-- a channel that waits for its reply has no known peer, and one without a known peer waits
far_waits : (c : Channel) → far_of (Some c) ≡ None → is_waiting c ≡ true
far_waits c e = if_none (is_waiting c) _ e

waits_none : (c : Channel) → is_waiting c ≡ true → far_of (Some c) ≡ None
waits_none c e = none_if (is_waiting c) _ e

pub waits_far : (o : Option Channel) → is_waiting_at o ≡ true → far_of o ≡ None
waits_far None e = refl
waits_far (Some c) e = waits_none c e

never : (b : Bool) → (b && false) ≡ true → ⊥
never true e = absurd cc
never false e = absurd cc

unreplied_dialled : (o : Opening) → is_dialled (unreplied o) ≡ is_dialled o
unreplied_dialled (Dialled handshakes) = refl
unreplied_dialled (Answered reply) = refl

again_far : (o : Option Channel) → far_of (option_map (λ (c : Channel). record c { opening = unreplied c.opening }) o) ≡ None → far_of o ≡ None
again_far None far = refl
again_far (Some c) far = waits_none c (sym (ap (λ (b : Bool). b && is_greeted c.state) (unreplied_dialled c.opening))
    ∙ far_waits (record c { opening = unreplied c.opening }) far)

proven_far : (o : Option Channel) → far_of (option_map (λ (c : Channel). record c { state = Proven }) o) ≡ None → far_of o ≡ None
proven_far None far = refl
proven_far (Some c) far = absurd (never (is_dialled c.opening) (far_waits (record c { state = Proven }) far))

replied_far : (source : ℕ) (o : Option Channel) → far_of (option_map (λ (c : Channel). record c { remote = Some source; state = Proven }) o) ≡ None → far_of o ≡ None
replied_far source None far = refl
replied_far source (Some c) far = absurd (never (is_dialled c.opening) (far_waits (record c { remote = Some source; state = Proven }) far))

heard_far : (now : ℕ) (o : Option Channel) → far_of (option_map (λ (c : Channel). record c { heard = now }) o) ≡ None → far_of o ≡ None
heard_far now None far = refl
heard_far now (Some c) far = waits_none c (far_waits (record c { heard = now }) far)

-- ---- what each meaning of a datagram does

meets_far : (t new : Seats) (seat : ℕ) (result : Arrival) → Meets t seat result new → FarStays t new
meets_far t new seat (arrivals.Again k) m = changed_far t new seat _ m.2 (again_far (channel_at t seat))
meets_far t new seat (arrivals.Late k) m = same_far t new m.2
meets_far t new seat arrivals.Short m = absurd m
meets_far t new seat arrivals.NoGreeting m = absurd m
meets_far t new seat arrivals.Unwelcome m = absurd m
meets_far t new seat arrivals.Unseated m = absurd m
meets_far t new seat (arrivals.Opened k next) m = absurd m
meets_far t new seat arrivals.NoChannel m = absurd m
meets_far t new seat (arrivals.NoReply k) m = absurd m
meets_far t new seat (arrivals.Cut k) m = absurd m
meets_far t new seat (arrivals.Differs k) m = absurd m
meets_far t new seat (arrivals.Given k) m = absurd m
meets_far t new seat (arrivals.Replied k) m = absurd m
meets_far t new seat (arrivals.Heard k) m = absurd m

none_is : (o : Option Channel) → is_none o ≡ true → far_of o ≡ None
none_is None e = refl
none_is (Some c) e = absurd cc

free_far : (t : Seats) (seat : ℕ) → free_seat t ≡ Some seat → far_of (channel_at t seat) ≡ None
free_far t seat free = none_is (channel_at t seat) (position-Some is_none t.channels seat None free).1

made_far : (t new : Seats) (seat : ℕ) (make : ℕ → Channel) → free_seat t ≡ Some seat → new ≡ with_channel make t → FarStays t new
made_far t new seat make free e n far =
    far_set t.channels seat _ (λ x. free_far t seat free) n
    (ap (λ (o : Option ℕ). far_of (channel_at (with_channel_at o make t) n)) (sym free) ∙ ap (λ (s : Seats). far_of (channel_at s n)) (sym e) ∙ far)

welcomes_far : (t new : Seats) (sender : Address) (source next now : ℕ) (result : Arrival) → Welcomes t sender source next now result new → FarStays t new
welcomes_far t new sender source next now arrivals.Unseated w = same_far t new w.2
welcomes_far t new sender source next now (arrivals.Opened seat behind) w = made_far t new seat _ w.1 w.3
welcomes_far t new sender source next now arrivals.Short w = meets_far t new w.0 arrivals.Short w.2
welcomes_far t new sender source next now arrivals.NoGreeting w = meets_far t new w.0 arrivals.NoGreeting w.2
welcomes_far t new sender source next now arrivals.Unwelcome w = meets_far t new w.0 arrivals.Unwelcome w.2
welcomes_far t new sender source next now (arrivals.Again k) w = meets_far t new w.0 (arrivals.Again k) w.2
welcomes_far t new sender source next now (arrivals.Late k) w = meets_far t new w.0 (arrivals.Late k) w.2
welcomes_far t new sender source next now arrivals.NoChannel w = meets_far t new w.0 arrivals.NoChannel w.2
welcomes_far t new sender source next now (arrivals.NoReply k) w = meets_far t new w.0 (arrivals.NoReply k) w.2
welcomes_far t new sender source next now (arrivals.Cut k) w = meets_far t new w.0 (arrivals.Cut k) w.2
welcomes_far t new sender source next now (arrivals.Differs k) w = meets_far t new w.0 (arrivals.Differs k) w.2
welcomes_far t new sender source next now (arrivals.Given k) w = meets_far t new w.0 (arrivals.Given k) w.2
welcomes_far t new sender source next now (arrivals.Replied k) w = meets_far t new w.0 (arrivals.Replied k) w.2
welcomes_far t new sender source next now (arrivals.Heard k) w = meets_far t new w.0 (arrivals.Heard k) w.2

opened_far : (t new : Seats) (sender : Address) (source next now seat behind : ℕ) → Welcomes t sender source next now (arrivals.Opened seat behind) new
    → far_of (channel_at t seat) ≡ None
opened_far t new sender source next now seat behind w = free_far t seat w.1

greets_far : (d : Descriptor) (t new : Seats) (sender : Address) (now : ℕ) (bytes : List ℕ) (result : Arrival) → Greets d t sender now bytes result new → FarStays t new
greets_far d t new sender now bytes arrivals.NoGreeting g = same_far t new g.2
greets_far d t new sender now bytes arrivals.Unwelcome g = same_far t new g.1
greets_far d t new sender now bytes arrivals.Short g = welcomes_far t new sender g.source g.next now arrivals.Short g.does
greets_far d t new sender now bytes (arrivals.Again k) g = welcomes_far t new sender g.source g.next now (arrivals.Again k) g.does
greets_far d t new sender now bytes (arrivals.Late k) g = welcomes_far t new sender g.source g.next now (arrivals.Late k) g.does
greets_far d t new sender now bytes arrivals.Unseated g = welcomes_far t new sender g.source g.next now arrivals.Unseated g.does
greets_far d t new sender now bytes (arrivals.Opened k next) g = welcomes_far t new sender g.source g.next now (arrivals.Opened k next) g.does
greets_far d t new sender now bytes arrivals.NoChannel g = welcomes_far t new sender g.source g.next now arrivals.NoChannel g.does
greets_far d t new sender now bytes (arrivals.NoReply k) g = welcomes_far t new sender g.source g.next now (arrivals.NoReply k) g.does
greets_far d t new sender now bytes (arrivals.Cut k) g = welcomes_far t new sender g.source g.next now (arrivals.Cut k) g.does
greets_far d t new sender now bytes (arrivals.Differs k) g = welcomes_far t new sender g.source g.next now (arrivals.Differs k) g.does
greets_far d t new sender now bytes (arrivals.Given k) g = welcomes_far t new sender g.source g.next now (arrivals.Given k) g.does
greets_far d t new sender now bytes (arrivals.Replied k) g = welcomes_far t new sender g.source g.next now (arrivals.Replied k) g.does
greets_far d t new sender now bytes (arrivals.Heard k) g = welcomes_far t new sender g.source g.next now (arrivals.Heard k) g.does

twice_far : (a b c : Seats) → FarStays a b → FarStays b c → FarStays a c
twice_far a b c one two n far = one n (two n far)

-- a channel that waited was dropped, or its reply came
answers_far : (t new : Seats) (seat source now : ℕ) (sender : Address) (fit : Bool) (result : Arrival) → far_of (channel_at t seat) ≡ None
    → Answers t seat sender now source fit result new → FarStays t new
answers_far t new seat source now sender fit (arrivals.Differs k) waits a = λ n far. closed_far t new seat a.2 n far waits
answers_far t new seat source now sender fit (arrivals.Given k) waits a = λ n far. closed_far t new seat a.3 n far waits
answers_far t new seat source now sender fit (arrivals.Replied k) waits a = twice_far t (changed t seat (λ c. record c { remote = Some source; state = Proven })) new
    (changed_far t (changed t seat (λ c. record c { remote = Some source; state = Proven })) seat _ refl (λ far. waits))
    (changed_far (changed t seat (λ c. record c { remote = Some source; state = Proven })) new seat _ a.3
    (heard_far now (channel_at (changed t seat (λ c. record c { remote = Some source; state = Proven })) seat)))
answers_far t new seat source now sender fit arrivals.Short waits a = absurd a
answers_far t new seat source now sender fit arrivals.NoGreeting waits a = absurd a
answers_far t new seat source now sender fit arrivals.Unwelcome waits a = absurd a
answers_far t new seat source now sender fit (arrivals.Again k) waits a = absurd a
answers_far t new seat source now sender fit (arrivals.Late k) waits a = absurd a
answers_far t new seat source now sender fit arrivals.Unseated waits a = absurd a
answers_far t new seat source now sender fit (arrivals.Opened k next) waits a = absurd a
answers_far t new seat source now sender fit arrivals.NoChannel waits a = absurd a
answers_far t new seat source now sender fit (arrivals.NoReply k) waits a = absurd a
answers_far t new seat source now sender fit (arrivals.Cut k) waits a = absurd a
answers_far t new seat source now sender fit (arrivals.Heard k) waits a = absurd a

abbrev fitting : Descriptor → plain.Options → Bool
fitting d o = fits d true o

awaited_far : (d : Descriptor) (t new : Seats) (seat now : ℕ) (sender : Address) (bytes : List ℕ) (result : Arrival) → far_of (channel_at t seat) ≡ None
    → Awaited d t seat sender now bytes result new → FarStays t new
awaited_far d t new seat now sender bytes (arrivals.NoReply k) waits a = same_far t new a.3
awaited_far d t new seat now sender bytes (arrivals.Cut k) waits a = same_far t new a.2
awaited_far d t new seat now sender bytes (arrivals.Differs k) waits a = answers_far t new seat a.source now sender (fitting d a.options) (arrivals.Differs k) waits a.does
awaited_far d t new seat now sender bytes (arrivals.Given k) waits a = answers_far t new seat a.source now sender (fitting d a.options) (arrivals.Given k) waits a.does
awaited_far d t new seat now sender bytes (arrivals.Replied k) waits a = answers_far t new seat a.source now sender (fitting d a.options) (arrivals.Replied k) waits a.does
awaited_far d t new seat now sender bytes arrivals.Short waits a = absurd a.does
awaited_far d t new seat now sender bytes arrivals.NoGreeting waits a = absurd a.does
awaited_far d t new seat now sender bytes arrivals.Unwelcome waits a = absurd a.does
awaited_far d t new seat now sender bytes (arrivals.Again k) waits a = absurd a.does
awaited_far d t new seat now sender bytes (arrivals.Late k) waits a = absurd a.does
awaited_far d t new seat now sender bytes arrivals.Unseated waits a = absurd a.does
awaited_far d t new seat now sender bytes (arrivals.Opened k next) waits a = absurd a.does
awaited_far d t new seat now sender bytes arrivals.NoChannel waits a = absurd a.does
awaited_far d t new seat now sender bytes (arrivals.Heard k) waits a = absurd a.does

comes_far : (d : Descriptor) (t new : Seats) (seat now : ℕ) (sender : Address) (bytes : List ℕ) (result : Arrival) → Comes d t seat sender now bytes result new → FarStays t new
comes_far d t new seat now sender bytes (arrivals.Heard k) c = twice_far t (changed t seat (λ c. record c { state = Proven })) new
    (changed_far t (changed t seat (λ c. record c { state = Proven })) seat _ refl (proven_far (channel_at t seat)))
    (changed_far (changed t seat (λ c. record c { state = Proven })) new seat _ c.2 (heard_far now (channel_at (changed t seat (λ c. record c { state = Proven })) seat)))
comes_far d t new seat now sender bytes arrivals.Short c = awaited_far d t new seat now sender bytes arrivals.Short (waits_far (channel_at t seat) c.0) c.1
comes_far d t new seat now sender bytes arrivals.NoGreeting c = awaited_far d t new seat now sender bytes arrivals.NoGreeting (waits_far (channel_at t seat) c.0) c.1
comes_far d t new seat now sender bytes arrivals.Unwelcome c = awaited_far d t new seat now sender bytes arrivals.Unwelcome (waits_far (channel_at t seat) c.0) c.1
comes_far d t new seat now sender bytes (arrivals.Again k) c = awaited_far d t new seat now sender bytes (arrivals.Again k) (waits_far (channel_at t seat) c.0) c.1
comes_far d t new seat now sender bytes (arrivals.Late k) c = awaited_far d t new seat now sender bytes (arrivals.Late k) (waits_far (channel_at t seat) c.0) c.1
comes_far d t new seat now sender bytes arrivals.Unseated c = awaited_far d t new seat now sender bytes arrivals.Unseated (waits_far (channel_at t seat) c.0) c.1
comes_far d t new seat now sender bytes (arrivals.Opened k next) c = awaited_far d t new seat now sender bytes (arrivals.Opened k next) (waits_far (channel_at t seat) c.0) c.1
comes_far d t new seat now sender bytes arrivals.NoChannel c = awaited_far d t new seat now sender bytes arrivals.NoChannel (waits_far (channel_at t seat) c.0) c.1
comes_far d t new seat now sender bytes (arrivals.NoReply k) c = awaited_far d t new seat now sender bytes (arrivals.NoReply k) (waits_far (channel_at t seat) c.0) c.1
comes_far d t new seat now sender bytes (arrivals.Cut k) c = awaited_far d t new seat now sender bytes (arrivals.Cut k) (waits_far (channel_at t seat) c.0) c.1
comes_far d t new seat now sender bytes (arrivals.Differs k) c = awaited_far d t new seat now sender bytes (arrivals.Differs k) (waits_far (channel_at t seat) c.0) c.1
comes_far d t new seat now sender bytes (arrivals.Given k) c = awaited_far d t new seat now sender bytes (arrivals.Given k) (waits_far (channel_at t seat) c.0) c.1
comes_far d t new seat now sender bytes (arrivals.Replied k) c = awaited_far d t new seat now sender bytes (arrivals.Replied k) (waits_far (channel_at t seat) c.0) c.1

numbered_far : (d : Descriptor) (t new : Seats) (number now : ℕ) (sender : Address) (bytes : List ℕ) (result : Arrival) → Numbered d t number sender now bytes result new → FarStays t new
numbered_far d t new number now sender bytes arrivals.Short n = comes_far d t new n.seat now sender bytes arrivals.Short n.does
numbered_far d t new number now sender bytes arrivals.NoGreeting n = comes_far d t new n.seat now sender bytes arrivals.NoGreeting n.does
numbered_far d t new number now sender bytes arrivals.Unwelcome n = comes_far d t new n.seat now sender bytes arrivals.Unwelcome n.does
numbered_far d t new number now sender bytes (arrivals.Again k) n = comes_far d t new n.seat now sender bytes (arrivals.Again k) n.does
numbered_far d t new number now sender bytes (arrivals.Late k) n = comes_far d t new n.seat now sender bytes (arrivals.Late k) n.does
numbered_far d t new number now sender bytes arrivals.Unseated n = comes_far d t new n.seat now sender bytes arrivals.Unseated n.does
numbered_far d t new number now sender bytes (arrivals.Opened k next) n = comes_far d t new n.seat now sender bytes (arrivals.Opened k next) n.does
numbered_far d t new number now sender bytes arrivals.NoChannel n = same_far t new n.1
numbered_far d t new number now sender bytes (arrivals.NoReply k) n = comes_far d t new n.seat now sender bytes (arrivals.NoReply k) n.does
numbered_far d t new number now sender bytes (arrivals.Cut k) n = comes_far d t new n.seat now sender bytes (arrivals.Cut k) n.does
numbered_far d t new number now sender bytes (arrivals.Differs k) n = comes_far d t new n.seat now sender bytes (arrivals.Differs k) n.does
numbered_far d t new number now sender bytes (arrivals.Given k) n = comes_far d t new n.seat now sender bytes (arrivals.Given k) n.does
numbered_far d t new number now sender bytes (arrivals.Replied k) n = comes_far d t new n.seat now sender bytes (arrivals.Replied k) n.does
numbered_far d t new number now sender bytes (arrivals.Heard k) n = comes_far d t new n.seat now sender bytes (arrivals.Heard k) n.does

pub arrives_far : (d : Descriptor) (t new : Seats) (sender : Address) (now : ℕ) (bytes : List ℕ) (result : Arrival) → Arrives d t sender now bytes result new → FarStays t new
arrives_far d t new sender now bytes arrivals.Short a = same_far t new a.1
arrives_far d t new sender now bytes arrivals.NoGreeting a = ⊎_elim (λ e. greets_far d t new sender now bytes arrivals.NoGreeting (a.zero e))
    (λ ne. numbered_far d t new (from_be_bytes w32 (take 4 bytes)) now sender bytes arrivals.NoGreeting (a.other ne)) (cases_eq (from_be_bytes w32 (take 4 bytes)) 0)
arrives_far d t new sender now bytes arrivals.Unwelcome a = ⊎_elim (λ e. greets_far d t new sender now bytes arrivals.Unwelcome (a.zero e))
    (λ ne. numbered_far d t new (from_be_bytes w32 (take 4 bytes)) now sender bytes arrivals.Unwelcome (a.other ne)) (cases_eq (from_be_bytes w32 (take 4 bytes)) 0)
arrives_far d t new sender now bytes (arrivals.Again k) a = ⊎_elim (λ e. greets_far d t new sender now bytes (arrivals.Again k) (a.zero e))
    (λ ne. numbered_far d t new (from_be_bytes w32 (take 4 bytes)) now sender bytes (arrivals.Again k) (a.other ne)) (cases_eq (from_be_bytes w32 (take 4 bytes)) 0)
arrives_far d t new sender now bytes (arrivals.Late k) a = ⊎_elim (λ e. greets_far d t new sender now bytes (arrivals.Late k) (a.zero e))
    (λ ne. numbered_far d t new (from_be_bytes w32 (take 4 bytes)) now sender bytes (arrivals.Late k) (a.other ne)) (cases_eq (from_be_bytes w32 (take 4 bytes)) 0)
arrives_far d t new sender now bytes arrivals.Unseated a = ⊎_elim (λ e. greets_far d t new sender now bytes arrivals.Unseated (a.zero e))
    (λ ne. numbered_far d t new (from_be_bytes w32 (take 4 bytes)) now sender bytes arrivals.Unseated (a.other ne)) (cases_eq (from_be_bytes w32 (take 4 bytes)) 0)
arrives_far d t new sender now bytes (arrivals.Opened k next) a = ⊎_elim (λ e. greets_far d t new sender now bytes (arrivals.Opened k next) (a.zero e))
    (λ ne. numbered_far d t new (from_be_bytes w32 (take 4 bytes)) now sender bytes (arrivals.Opened k next) (a.other ne)) (cases_eq (from_be_bytes w32 (take 4 bytes)) 0)
arrives_far d t new sender now bytes arrivals.NoChannel a = ⊎_elim (λ e. greets_far d t new sender now bytes arrivals.NoChannel (a.zero e))
    (λ ne. numbered_far d t new (from_be_bytes w32 (take 4 bytes)) now sender bytes arrivals.NoChannel (a.other ne)) (cases_eq (from_be_bytes w32 (take 4 bytes)) 0)
arrives_far d t new sender now bytes (arrivals.NoReply k) a = ⊎_elim (λ e. greets_far d t new sender now bytes (arrivals.NoReply k) (a.zero e))
    (λ ne. numbered_far d t new (from_be_bytes w32 (take 4 bytes)) now sender bytes (arrivals.NoReply k) (a.other ne)) (cases_eq (from_be_bytes w32 (take 4 bytes)) 0)
arrives_far d t new sender now bytes (arrivals.Cut k) a = ⊎_elim (λ e. greets_far d t new sender now bytes (arrivals.Cut k) (a.zero e))
    (λ ne. numbered_far d t new (from_be_bytes w32 (take 4 bytes)) now sender bytes (arrivals.Cut k) (a.other ne)) (cases_eq (from_be_bytes w32 (take 4 bytes)) 0)
arrives_far d t new sender now bytes (arrivals.Differs k) a = ⊎_elim (λ e. greets_far d t new sender now bytes (arrivals.Differs k) (a.zero e))
    (λ ne. numbered_far d t new (from_be_bytes w32 (take 4 bytes)) now sender bytes (arrivals.Differs k) (a.other ne)) (cases_eq (from_be_bytes w32 (take 4 bytes)) 0)
arrives_far d t new sender now bytes (arrivals.Given k) a = ⊎_elim (λ e. greets_far d t new sender now bytes (arrivals.Given k) (a.zero e))
    (λ ne. numbered_far d t new (from_be_bytes w32 (take 4 bytes)) now sender bytes (arrivals.Given k) (a.other ne)) (cases_eq (from_be_bytes w32 (take 4 bytes)) 0)
arrives_far d t new sender now bytes (arrivals.Replied k) a = ⊎_elim (λ e. greets_far d t new sender now bytes (arrivals.Replied k) (a.zero e))
    (λ ne. numbered_far d t new (from_be_bytes w32 (take 4 bytes)) now sender bytes (arrivals.Replied k) (a.other ne)) (cases_eq (from_be_bytes w32 (take 4 bytes)) 0)
arrives_far d t new sender now bytes (arrivals.Heard k) a = ⊎_elim (λ e. greets_far d t new sender now bytes (arrivals.Heard k) (a.zero e))
    (λ ne. numbered_far d t new (from_be_bytes w32 (take 4 bytes)) now sender bytes (arrivals.Heard k) (a.other ne)) (cases_eq (from_be_bytes w32 (take 4 bytes)) 0)

-- A channel begins where no peer was known.
pub opens_far : (d : Descriptor) (t new : Seats) (sender : Address) (now seat next : ℕ) (bytes : List ℕ) → Arrives d t sender now bytes (arrivals.Opened seat next) new
    → far_of (channel_at t seat) ≡ None
opens_far d t new sender now seat next bytes a = ⊎_elim
    (λ e. let g = a.zero e in opened_far t new sender g.source g.next now seat next g.does)
    (λ ne. absurd ((a.other ne).does.1.does)) (cases_eq (from_be_bytes w32 (take 4 bytes)) 0)

pub replies_far : (d : Descriptor) (t new : Seats) (sender : Address) (now seat : ℕ) (bytes : List ℕ) → Arrives d t sender now bytes (arrivals.Replied seat) new
    → far_of (channel_at t seat) ≡ None
replies_far d t new sender now seat bytes a = ⊎_elim
    (λ e. absurd ((a.zero e).does.2))
    (λ ne. let n = a.other ne in ap (λ (k : ℕ). far_of (channel_at t k)) n.does.1.does.0 ∙ waits_far (channel_at t n.seat) n.does.0) (cases_eq (from_be_bytes w32 (take 4 bytes)) 0)

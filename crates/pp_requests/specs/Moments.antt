-- Own requests: which chunks were asked for, when, and which of them others overtook.
use Rattle.std.specs.Prelude.{◌≡◌, ℕ, ◌+◌, ◌<◌, ◌≤◌, ◌==◌, min, nat_lt, nat_le, Bool, true, false, ◌&&◌, if◌then◌else◌, cond, Option, Some, None, option_map, List, [], ◌∷◌}
use Rattle.pp_requests.specs.declared.asking.Asking.{Asking}

-- when a chunk was asked for
abbrev pub asked_at : List Asking → ℕ → Option ℕ
asked_at [] i = None
asked_at (x ∷ xs) i = cond (x.chunk == i) (Some x.moment) (asked_at xs i)

-- The chunks rise from a number on, so that each stands once.
abbrev pub IsRisingFrom : ℕ → List Asking → Type 0
IsRisingFrom low [] = Unit {0}
IsRisingFrom low (x ∷ xs) = (low ≤ x.chunk) × IsRisingFrom (x.chunk + 1) xs

-- A chunk's request was entered or taken out, and all others stay.
abbrev pub Changes : ℕ → Option ℕ → List Asking → List Asking → Type 0
Changes i moment old new = (j : ℕ) → asked_at new j ≡ cond (i == j) moment (asked_at old j)

-- The chunk was asked for 10 seconds ago or longer, and no lesser one was.
pub record IsLeastExpired (list : List Asking) (now i : ℕ) : Type 0 where
  pub moment : ℕ
  pub asked : asked_at list i ≡ Some moment
  pub expired : moment + 10_000_000 ≤ now
  pub least : (j m : ℕ) → asked_at list j ≡ Some m → m + 10_000_000 ≤ now → i ≤ j

-- No chunk was asked for so long ago.
abbrev pub NoneExpired : List Asking → ℕ → Type 0
NoneExpired list now = (j m : ℕ) → asked_at list j ≡ Some m → now < m + 10_000_000

-- ---- requests that others overtook

-- the entry of a chunk
abbrev pub entry_of : List Asking → ℕ → Option Asking
entry_of [] i = None
entry_of (x ∷ xs) i = cond (x.chunk == i) (Some x) (entry_of xs i)

-- A chunk's entry was entered, changed or taken out, and all others stay.
abbrev pub ChangesEntry : ℕ → Option Asking → List Asking → List Asking → Type 0
ChangesEntry i entry old new = (j : ℕ) → entry_of new j ≡ cond (i == j) entry (entry_of old j)

-- Three that overtook a request show that it, or its answer, was lost on the way.
abbrev pub is_lost : Asking → Bool
is_lost x = nat_le 3 x.overtaken

-- An answer counts where its request is younger than 10 seconds and wasn't taken for lost.
abbrev pub is_timely : (now : ℕ) → Asking → Bool
is_timely now x = nat_lt now (x.moment + 10_000_000) && nat_lt x.overtaken 3

abbrev pub timely : (now : ℕ) → Option Asking → Option Asking
timely now None = None
timely now (Some x) = if is_timely now x then Some x else None

-- The request of a greater chunk, sent no earlier, was answered first: it overtook this one. Three are counted.
abbrev pub overtaken_by : (answered x : Asking) → Asking
overtaken_by answered x =
    if nat_lt x.chunk answered.chunk && nat_le x.moment answered.moment
    then record { chunk = x.chunk; moment = x.moment; overtaken = min (x.overtaken + 1) 3 }
    else x

-- A chunk came: its entry is gone, and where that was timely it overtook others.
abbrev pub passed_by : Option Asking → Option Asking → Option Asking
passed_by None x = x
passed_by (Some answered) x = option_map (overtaken_by answered) x

abbrev pub Answers : (now i : ℕ) → List Asking → List Asking → Type 0
Answers now i old new = (j : ℕ) → entry_of new j ≡ cond (i == j) None (passed_by (timely now (entry_of old i)) (entry_of old j))

-- The chunk's request is lost, and that of no lesser one is.
pub record IsLeastLost (list : List Asking) (i : ℕ) : Type 0 where
  pub entry : Asking
  pub there : entry_of list i ≡ Some entry
  pub lost : is_lost entry ≡ true
  pub least : (j : ℕ) (x : Asking) → entry_of list j ≡ Some x → is_lost x ≡ true → i ≤ j

-- No request is lost.
abbrev pub NoneLost : List Asking → Type 0
NoneLost list = (j : ℕ) (x : Asking) → entry_of list j ≡ Some x → is_lost x ≡ false

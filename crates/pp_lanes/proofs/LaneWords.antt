-- Operations on vectors of n lanes, lane by lane.
use Rattle.std.proofs.Common.{◌≡◌, ℕ, ◌-◌, ◌*◌, ◌/◌, ◌%◌, ◌^◌, ◌<◌, List, length, replicate, slice_index, bit_and, bit_or, bit_xor, w32, refl, sym, ◌∙◌, arith}
use Rattle.std.proofs.lemmas.Simd.{Each1-get_or, get_or-replicate, get_or-zip2, length-replicate, length-zip2}
use Rattle.std.specs.Int.{rotate_right}
use Rattle.sha2.specs.Sha256.{ch, maj}
use Rattle.pp_lanes.proofs.ChMaj.{ch_short, maj_short}
use lib.Lanes.{Each1, zip2}
use mir.Val.{Fits}

length_zip : (f : ℕ → ℕ → ℕ) (n : ℕ) (a b : List ℕ) → length a ≡ n → length b ≡ n → length (zip2 f a b) ≡ n
length_zip f n a b la lb = length-zip2 f a b (la ∙ sym lb) ∙ la

zip_lane : (f : ℕ → ℕ → ℕ) (n : ℕ) (a b : List ℕ) → length a ≡ n → length b ≡ n → (j : ℕ) → j < n
    → slice_index (zip2 f a b) j ≡ f (slice_index a j) (slice_index b j)
zip_lane f n a b la lb j h = get_or-zip2 f a b j 0 0 0 (omega arith) (omega arith)

pub splat_lane : (n k j : ℕ) → j < n → slice_index (replicate n k) j ≡ k
splat_lane n k j h = get_or-replicate n j k 0 h

pub lane_lt : (n : ℕ) (a : List ℕ) → length a ≡ n → Each1 (Fits w32) a → (j : ℕ) → j < n → slice_index a j < 2 ^ 32
lane_lt n a la fits j h = (Each1-get_or (Fits w32) a j 0 (omega arith) fits).fits

pub ch_lane : (n : ℕ) (x y z : List ℕ) → length x ≡ n → length y ≡ n → length z ≡ n → Each1 (Fits w32) x → Each1 (Fits w32) y → Each1 (Fits w32) z
    → (j : ℕ) → j < n → slice_index (zip2 bit_xor z (zip2 bit_and x (zip2 bit_xor y z))) j ≡ ch (slice_index x j) (slice_index y j) (slice_index z j)
ch_lane n x y z lx ly lz fx fy fz j h =
    let lyz = length_zip bit_xor n y z ly lz in
    let lxyz = length_zip bit_and n x (zip2 bit_xor y z) lx lyz in
    rw (
      zip_lane bit_xor n z (zip2 bit_and x (zip2 bit_xor y z)) lz lxyz j h,
      zip_lane bit_and n x (zip2 bit_xor y z) lx lyz j h,
      zip_lane bit_xor n y z ly lz j h,
    )
    (ch_short w32 (slice_index x j) (slice_index y j) (slice_index z j) (lane_lt n x lx fx j h) (lane_lt n y ly fy j h) (lane_lt n z lz fz j h))

pub maj_lane : (n : ℕ) (x y z : List ℕ) → length x ≡ n → length y ≡ n → length z ≡ n → (j : ℕ) → j < n
    → slice_index (zip2 bit_xor y (zip2 bit_and (zip2 bit_xor x y) (zip2 bit_xor y z))) j ≡ maj (slice_index x j) (slice_index y j) (slice_index z j)
maj_lane n x y z lx ly lz j h =
    let lxy = length_zip bit_xor n x y lx ly in
    let lyz = length_zip bit_xor n y z ly lz in
    let both = length_zip bit_and n (zip2 bit_xor x y) (zip2 bit_xor y z) lxy lyz in
    rw (
      zip_lane bit_xor n y (zip2 bit_and (zip2 bit_xor x y) (zip2 bit_xor y z)) ly both j h,
      zip_lane bit_and n (zip2 bit_xor x y) (zip2 bit_xor y z) lxy lyz j h,
      zip_lane bit_xor n x y lx ly j h,
      zip_lane bit_xor n y z ly lz j h,
    )
    (maj_short (slice_index x j) (slice_index y j) (slice_index z j))

pub shift_lane : (n : ℕ) (x : List ℕ) (k : ℕ) → length x ≡ n → (j : ℕ) → j < n
    → slice_index (zip2 (λ x i. x / 2 ^ i) x (replicate n k)) j ≡ slice_index x j / 2 ^ k
shift_lane n x k lx j h =
    let lk = length-replicate n k in
    rw (zip_lane (λ x i. x / 2 ^ i) n x (replicate n k) lx lk j h, splat_lane n k j h) refl

pub rotate_lane : (n : ℕ) (x : List ℕ) (k : ℕ) → 0 < k → k < 32 → length x ≡ n → (j : ℕ) → j < n
    → slice_index (zip2 bit_or (zip2 (λ x i. x / 2 ^ i) x (replicate n k)) (zip2 (λ x i. x * 2 ^ i % 2 ^ 32) x (replicate n (32 - k)))) j ≡ rotate_right w32 (slice_index x j) k
rotate_lane n x k above below lx j h =
    let right : k % 32 ≡ k = omega arith in
    let left : (32 - k) % 32 ≡ 32 - k = omega arith in
    let lk = length-replicate n k in
    let lm = length-replicate n (32 - k) in
    let low = length_zip (λ x i. x / 2 ^ i) n x (replicate n k) lx lk in
    let high = length_zip (λ x i. x * 2 ^ i % 2 ^ 32) n x (replicate n (32 - k)) lx lm in
    rw (
      zip_lane bit_or n (zip2 (λ x i. x / 2 ^ i) x (replicate n k)) (zip2 (λ x i. x * 2 ^ i % 2 ^ 32) x (replicate n (32 - k))) low high j h,
      zip_lane (λ x i. x * 2 ^ i % 2 ^ 32) n x (replicate n (32 - k)) lx lm j h,
      zip_lane (λ x i. x / 2 ^ i) n x (replicate n k) lx lk j h,
      splat_lane n k j h,
      splat_lane n (32 - k) j h,
      right,
      left,
    )
    refl

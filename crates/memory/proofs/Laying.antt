-- Bytes laid into the mailbox and copied out of it, one by one; the bytes of a frame to be sent.
use Prim.Native.Nat.{ℕ, zero, suc, ◌+◌, ◌-◌, ◌*◌, ◌/◌, ◌%◌, ◌≤◌, ◌<◌, min}
use mathlib.Core.Bool.{Bool, true, false}
use mathlib.Core.List.{List, [], ◌∷◌, ◌++◌, append_assoc}
use mathlib.Core.Path.{◌≡◌, refl, ap, ◌∙◌, sym}
use native.Mathlib.Nat.{add-zero, sub-zero}
use native.Mathlib.Omega.{arith}
use borrow.Author.Tests.{eq-eqb, ne_eqb, le-leb, lt-leb, leb-true, leb-false}
use lib.Dec.{leb}
use lib.ListN.{length, get_or, set, take, drop, replicate, drop_of_length-le, length-drop}
use lib.Seq.{sets, take_at, take_all}
use Rattle.line.specs.Bits.{bits}
use Rattle.line.specs.Check.{check}
use Rattle.line.specs.Frame.{Frame, byte_bits, covered}
use Rattle.line.proofs.Laws.{next, header_bits}
use Rattle.rules.specs.Definitions.Channels.{base, buffer_of, twelve}
use Rattle.rules.specs.Definitions.Mailbox.{mailbox_at, status_byte, laid_from, places_filled, stored, mailbox_bytes, data_in, frame_with, asks_reply, sent_frame, coded_bytes, coded}
use Rattle.rules.proofs.Mailbox.{mailbox_length}
use Rattle.rules.specs.declared.Buffer.{Buffer}
use Rattle.rules.specs.declared.Coded.{Coded}

-- ---- into the mailbox

pub lay_next : (m bytes : List ℕ) (pointer k : ℕ) → k < length bytes →
    laid_from m pointer (k + 1) (drop k bytes) ≡ laid_from (set m (mailbox_at pointer (k + 1)) (get_or bytes k 0)) pointer (k + 1 + 1) (drop (k + 1) bytes)
unfolding laid_from
lay_next m bytes pointer k h = rw (next bytes k h)

pub lay_end : (m bytes : List ℕ) (pointer i k : ℕ) → length bytes ≤ k → laid_from m pointer i (drop k bytes) ≡ m
unfolding laid_from
lay_end m bytes pointer i k h = rw (drop_of_length-le bytes h)

-- ---- out of the mailbox

pub copy_next : (bytes m : List ℕ) (pointer n k : ℕ) → k < n →
    sets bytes (k + 2) (mailbox_bytes m pointer (k + 1) (n - k))
    ≡ sets (set bytes (k + 2) (get_or m (mailbox_at pointer (k + 1)) 0)) (k + 1 + 2) (mailbox_bytes m pointer (k + 1 + 1) (n - (k + 1)))
unfolding mailbox_bytes
copy_next bytes m pointer n k h =
    let e : n - k ≡ suc (n - (k + 1)) = omega arith in
    let f : k + 1 + 2 ≡ suc (k + 2) = omega arith in
    rw (e, f)

pub copy_end : (bytes m : List ℕ) (pointer n k i j : ℕ) → n ≤ k → sets bytes i (mailbox_bytes m pointer j (n - k)) ≡ bytes
unfolding mailbox_bytes
copy_end bytes m pointer n k i j h =
    let e : n - k ≡ 0 = omega arith in
    rw e

-- ---- a frame's bytes

-- behind two bytes, in the place of zeros
sets_behind : (a b : ℕ) (l : List ℕ) (i : ℕ) (vs : List ℕ) → sets (a ∷ b ∷ l) (suc (suc i)) vs ≡ a ∷ b ∷ sets l i vs
sets_behind a b l i [] = refl
sets_behind a b l i (v ∷ vs) = sets_behind a b (set l i v) (suc i) vs

sets_behind_one : (a : ℕ) (l : List ℕ) (i : ℕ) (vs : List ℕ) → sets (a ∷ l) (suc i) vs ≡ a ∷ sets l i vs
sets_behind_one a l i [] = refl
sets_behind_one a l i (v ∷ vs) = sets_behind_one a (set l i v) (suc i) vs

sets_zeros : (k : ℕ) (vs : List ℕ) → length vs ≤ k → sets (replicate k 0) 0 vs ≡ vs ++ replicate (k - length vs) 0
sets_zeros k [] h = rw (sub-zero k)
sets_zeros zero (v ∷ vs) h = absurd (omega arith)
sets_zeros (suc k) (v ∷ vs) h =
    let e : suc k - suc (length vs) ≡ k - length vs = omega arith in
    sets_behind_one v (replicate k 0) 0 vs ∙ ap (λ (l : List ℕ). v ∷ l) (sets_zeros k vs (omega arith) ∙ ap (λ (n : ℕ). vs ++ replicate n 0) (sym e))

set_two : (vs z : List ℕ) (n x y u w : ℕ) → length vs ≡ n → set (set (vs ++ (u ∷ w ∷ z)) n x) (n + 1) y ≡ vs ++ (x ∷ y ∷ z)
set_two [] z zero x y u w e = refl
set_two [] z (suc n) x y u w e = absurd (omega arith)
set_two (v ∷ vs) z zero x y u w e = absurd (omega arith)
set_two (v ∷ vs) z (suc n) x y u w e =
    let f : suc n + 1 ≡ suc (n + 1) = omega arith in
    rw f (ap (λ (l : List ℕ). v ∷ l) (set_two vs z n x y u w (omega arith)))

-- header and data as bytes carry the bits that the check covers
pub covered_bytes : (f : Frame) → f.command < 16 →
    byte_bits ((f.identifier / 16) ∷ (f.identifier % 16 * 16 + f.command) ∷ f.bytes) ≡ covered f
unfolding byte_bits covered
covered_bytes f h =
    sym (append_assoc (bits 8 (f.identifier / 16)) (bits 8 (f.identifier % 16 * 16 + f.command)) (byte_bits f.bytes))
    ∙ ap (λ (l : List ℕ). l ++ byte_bits f.bytes) (header_bits f.identifier f.command h)
    ∙ append_assoc (bits 12 f.identifier) (bits 4 f.command) (byte_bits f.bytes)

-- header, data and check, one behind the other
pub sealed_bytes : (f : Frame) (t : List ℕ) (n : ℕ) → f.command < 16 → length f.bytes ≡ n → n ≤ 30 →
    t ≡ sets ((f.identifier / 16) ∷ (f.identifier % 16 * 16 + f.command) ∷ replicate 32 0) 2 f.bytes →
    set (set t (n + 2) (check (byte_bits (take (n + 2) t)) / 128)) (n + 3) (check (byte_bits (take (n + 2) t)) % 128 * 2) ≡ coded_bytes f
unfolding coded_bytes
sealed_bytes f t n h l b e =
    let high : ℕ = f.identifier / 16 in
    let low : ℕ = f.identifier % 16 * 16 + f.command in
    let d : 32 - length f.bytes ≡ suc (suc (30 - length f.bytes)) = omega arith in
    let z : List ℕ = 0 ∷ 0 ∷ replicate (30 - length f.bytes) 0 in
    let g : t ≡ high ∷ low ∷ (f.bytes ++ z) =
    e ∙ sets_behind high low (replicate 32 0) 0 f.bytes
    ∙ ap (λ (r : List ℕ). high ∷ low ∷ r) (sets_zeros 32 f.bytes (omega arith) ∙ ap (λ (k : ℕ). f.bytes ++ replicate k 0) d) in
    let p : n + 2 ≡ suc (suc n) = omega arith in
    let q : n + 3 ≡ suc (suc (n + 1)) = omega arith in
    let s : take (n + 2) t ≡ high ∷ low ∷ f.bytes = rw (g, p) (ap (λ (r : List ℕ). high ∷ low ∷ r) (take_at f.bytes z n l)) in
    let w : check (byte_bits (take (n + 2) t)) ≡ check (covered f) = ap (λ (r : List ℕ). check (byte_bits r)) s ∙ ap check (covered_bytes f h) in
    rw (w, g, p, q)
    (ap (λ (r : List ℕ). high ∷ low ∷ r) (set_two f.bytes (replicate (30 - length f.bytes) 0) n (check (covered f) / 128) (check (covered f) % 128 * 2) 0 0 l))

coded_is : (f : Frame) (n : ℕ) (bytes : List ℕ) → n ≡ length f.bytes → bytes ≡ coded_bytes f → ◌≡◌ {A = Coded} (record { n = n; bytes = bytes }) (coded f)
unfolding coded
coded_is f n bytes p q = rw (p, q)

-- a frame with a channel's data, from its header, its data and its check
pub with_coded : (m : List ℕ) (c high low n : ℕ) (b : Buffer) (t₀ t r : List ℕ) → b ≡ buffer_of m c → n ≤ 30
    → t₀ ≡ (twelve high low / 16) ∷ (twelve high low % 16 * 16 + low % 16) ∷ replicate 32 0
    → t ≡ sets t₀ 2 (mailbox_bytes m b.pointer 1 n)
    → r ≡ set (set t (n + 2) (check (byte_bits (take (n + 2) t)) / 128)) (n + 3) (check (byte_bits (take (n + 2) t)) % 128 * 2)
    → ◌≡◌ {A = Coded} (record { n = n; bytes = r }) (coded (frame_with m c high low n))
unfolding frame_with
with_coded m c high low n b t₀ t r q h u v w =
    let f : Frame = frame_with m c high low n in
    let l : length f.bytes ≡ n = mailbox_length m (buffer_of m c).pointer 1 n in
    let g : t ≡ sets ((f.identifier / 16) ∷ (f.identifier % 16 * 16 + f.command) ∷ replicate 32 0) 2 f.bytes = v ∙ rw (u, q) in
    coded_is f n r (sym l) (w ∙ sealed_bytes f t n (omega arith) l h g)

-- the frame of a channel: a request has no data
pub sent_request : (m : List ℕ) (c at : ℕ) (r : Coded) → at ≡ base c → get_or m (at + 1) 0 % 4 ≡ 3
    → r ≡ coded (frame_with m c (get_or m (at + 0) 0) (get_or m (at + 1) 0) 0) → r ≡ coded (sent_frame m c)
unfolding sent_frame asks_reply
sent_request m c at r p e h = h ∙ rw (add-zero at, p) (simp (eq-eqb (get_or m (base c + 1) 0 % 4) 3 (rw (← p) e)))

pub sent_data : (m : List ℕ) (c at n : ℕ) (r : Coded) → at ≡ base c → (get_or m (at + 1) 0 % 4 ≡ 3 → ⊥) → n ≡ data_in (buffer_of m c).length
    → r ≡ coded (frame_with m c (get_or m (at + 0) 0) (get_or m (at + 1) 0) n) → r ≡ coded (sent_frame m c)
unfolding sent_frame asks_reply
sent_data m c at n r p e d h = h ∙ rw (add-zero at, p, d) (simp (ne_eqb (get_or m (base c + 1) 0 % 4) 3 (rw (← p) e)))

-- ---- a frame in the mailbox

pub filled_spare : (len n : ℕ) → n + 3 ≤ len → n + 2 ≡ places_filled len n
unfolding places_filled
filled_spare len n h = simp (le-leb (n + 3) len h)

pub filled_tight : (len n : ℕ) → len < n + 3 → n ≡ places_filled len n
unfolding places_filled
filled_tight len n h = simp (lt-leb (n + 3) len h)

pub stored_is : (m bytes : List ℕ) (pointer len n at status filled k : ℕ) (r : List ℕ) → at ≡ mailbox_at pointer 0 → status ≡ status_byte (get_or bytes 1 0) n → filled ≡ places_filled len n
    → take k (drop 2 bytes) ≡ take filled (drop 2 bytes) → r ≡ laid_from (set m at status) pointer 1 (take k (drop 2 bytes)) → r ≡ stored m pointer len bytes n
unfolding stored laid_from
stored_is m bytes pointer len n at status filled k r p q f e h = h ∙ rw (p, q, e, f)

-- no more than 32 bytes are there
pub all_taken : (bytes : List ℕ) (n e : ℕ) → length bytes ≡ 34 → e ≡ min (2 + n) 34 → take (e - 2) (drop 2 bytes) ≡ take n (drop 2 bytes)
all_taken bytes n e l h = go (leb n 32) refl
  where
    d : length (drop 2 bytes) ≡ 32
    d = length-drop 2 bytes ∙ rw l

    go : (b : Bool) → leb n 32 ≡ b → take (e - 2) (drop 2 bytes) ≡ take n (drop 2 bytes)
    go true t = let f = leb-true n 32 t in let k : e - 2 ≡ n = omega arith in rw k
    go false t = let f = leb-false n 32 t in take_all (e - 2) (drop 2 bytes) (omega (arith, d)) ∙ sym (take_all n (drop 2 bytes) (omega (arith, d)))

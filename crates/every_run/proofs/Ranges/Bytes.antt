-- Rows of bytes stay rows of bytes, and what they say stays in its range.
--   at_below, set_below, .. == reading and writing a row        fits_sent, setting_small == the frame that a channel sends and MR
--   stored_below, cher_below, .. == what is written to the memory map        buffer_limits, winner_limits, ready_named == who takes a frame, who sends
use Prim.Native.Nat.{ℕ, zero, suc, ◌+◌, ◌-◌, ◌%◌, ◌≤◌, ◌<◌}
use mathlib.Core.Bool.{Bool, true, false, not, false≢true}
use mathlib.Core.List.{List}
use mathlib.Core.Path.{◌≡◌, refl, sym}
use native.Mathlib.Omega.{arith}
use borrow.Author.Tests.{leb-true, ne_eqb, eqb-true}
use lib.Dec.{eqb, leb}
use lib.ListN.{get_or, set, take, drop, replicate}
use Rattle.std.specs.Prelude.{Option, None, Some}
use Rattle.line.specs.Bits.{pick, Below, none, one}
use Rattle.line.specs.Frame.{Fits}
use Rattle.line.proofs.Laws.{picked}
use Rattle.rules.specs.Definitions.Registers.{both, transmit_control, read_only, reset_values, retry_setting}
use Rattle.rules.specs.Definitions.Longest.{capacity}
use Rattle.rules.specs.Definitions.Channels.{base, buffer_of, twelve, with_cher, with_chtx, with_chrx, channels, channel_at, length_of, no_buffer, own_buffer, linked_buffer, nobody, winner_of, lowest, lowest_listening, won, winner_for, takes, asks_to_send, sendable, ready, lowest_ready, status_bits, immediate_reply, settles_reply, if_replies, replier_for, cher, request_detection, matches}
use Rattle.rules.specs.Definitions.Mailbox.{mailbox_at, status_byte, laid_from, places_filled, stored, mailbox_bytes, data_in, frame_with, asks_reply, sent_frame, reply_frame, retagged, rows_written, marked_cher, marked_chtx, marked_chrx, reset_memory}
use Rattle.rules.proofs.Logic.{both_true}
use Rattle.rules.proofs.Mailbox.{mailbox_length}
use Rattle.rules.proofs.Matching.Lowest.{found}
use Rattle.every_run.proofs.Ranges.Limits.{WinnerLimits}
use Rattle.rules.specs.declared.Buffer.{Buffer}

-- ---- rows

pub at_below : {xs : List ℕ} → Below 256 xs → (k : ℕ) → get_or xs k 0 < 256
at_below none k = omega arith
at_below (one h b) zero = h
at_below (one h b) (suc k) = at_below b k

pub set_below : {xs : List ℕ} → Below 256 xs → (k v : ℕ) → v < 256 → Below 256 (set xs k v)
set_below none k v h = none
set_below (one g b) zero v h = one h b
set_below (one g b) (suc k) v h = one g (set_below b k v h)

pub take_below : {xs : List ℕ} → Below 256 xs → (n : ℕ) → Below 256 (take n xs)
take_below b zero = none
take_below none (suc n) = none
take_below (one h b) (suc n) = one h (take_below b n)

pub drop_below : {xs : List ℕ} → Below 256 xs → (n : ℕ) → Below 256 (drop n xs)
drop_below b zero = b
drop_below none (suc n) = none
drop_below (one h b) (suc n) = drop_below b n

pub zeros_below : (n : ℕ) → Below 256 (replicate n 0)
zeros_below zero = none
zeros_below (suc n) = one {x = 0} (omega arith) (zeros_below n)

-- ---- the frame that a channel sends, and the retry setting

pub data_small : (l : ℕ) → data_in l ≤ capacity
unfolding data_in
data_small l = picked (λ x. x ≤ capacity) (eqb l 0) 0 ((l - 1) % (capacity + 1)) (λ e. omega arith) (λ e. omega arith)

pub mailbox_below : {m : List ℕ} → Below 256 m → (p k n : ℕ) → Below 256 (mailbox_bytes m p k n)
unfolding mailbox_bytes
mailbox_below b p k zero = none
mailbox_below b p k (suc n) = one (at_below b (mailbox_at p k)) (mailbox_below b p (k + 1) n)

pub fits_with : {longest : ℕ} (m : List ℕ) (c high low n : ℕ) → Below 256 m → high < 256 → low < 256 → n ≤ longest → Fits longest (frame_with m c high low n)
unfolding frame_with twelve
fits_with m c high low n b h l s =
    let long = mailbox_length m (buffer_of m c).pointer 1 n in
    record { identifier = omega arith; command = omega arith; size = omega arith; bytes = mailbox_below b (buffer_of m c).pointer 1 n }

sent_small : (b : Bool) (l longest : ℕ) → data_in l ≤ longest → pick b 0 (data_in l) ≤ longest
sent_small true l longest h = omega arith
sent_small false l longest h = h

pub fits_sent : (m : List ℕ) (c : ℕ) → Below 256 m → Fits capacity (sent_frame m c)
unfolding sent_frame
fits_sent m c b =
    fits_with m c _ _ _ b (at_below b (base c)) (at_below b (base c + 1)) (sent_small (asks_reply (get_or m (base c + 1) 0)) (buffer_of m c).length capacity (data_small (buffer_of m c).length))

-- a channel that is ready has no more data bytes than may be sent
ready_data : (l longest : ℕ) → l ≤ longest + 1 → data_in l ≤ longest
unfolding data_in
ready_data l longest h = picked (λ x. x ≤ longest) (eqb l 0) 0 ((l - 1) % (capacity + 1)) (λ e. omega arith) (λ e. omega arith)

ready_small : (m : List ℕ) (longest c : ℕ) → sendable (buffer_of m c) longest ≡ true → data_in (buffer_of m c).length ≤ longest
unfolding sendable
ready_small m longest c e =
    let d = both_true (buffer_of m c).legal _ e in
    ready_data (buffer_of m c).length longest (leb-true (buffer_of m c).length (longest + 1) d.1)

pub fits_ready : (m : List ℕ) (longest c : ℕ) → Below 256 m → ready m longest c ≡ true → Fits longest (sent_frame m c)
unfolding ready sent_frame
fits_ready m longest c b e =
    let s = both_true (asks_to_send (channel_at m c)) _ e in
    fits_with m c _ _ _ b (at_below b (base c)) (at_below b (base c + 1)) (sent_small (asks_reply (get_or m (base c + 1) 0)) (buffer_of m c).length longest (ready_small m longest c s.1))

-- and so has one that replies
settles_sendable : (a b c d : Bool) → both a (pick b c d) ≡ true → b ≡ false → d ≡ true
settles_sendable true true c d e n = absurd (false≢true (sym n))
settles_sendable true false c d e n = e
settles_sendable false b c d e n = absurd (false≢true e)

-- 1,0,0,0 is not 1,0,1,0
not_detecting : (bits : ℕ) → immediate_reply bits ≡ true → request_detection bits ≡ false
unfolding immediate_reply request_detection
not_detecting bits e = ne_eqb bits 0b1010 (λ i. omega (arith, eqb-true bits 0b1000 e))

replier_settles : (m : List ℕ) (x : Option ℕ) (c : ℕ) → if_replies m x ≡ Some c → (x ≡ Some c) × (immediate_reply (status_bits (channel_at m c)) ≡ true)
unfolding if_replies
replier_settles m None c e = absurd (let z : ◌≡◌ {A = ℕ} 0 1 = cc in omega arith)
replier_settles m (Some d) c e = go (immediate_reply (status_bits (channel_at m d))) refl e
  where
    go : (b : Bool) → immediate_reply (status_bits (channel_at m d)) ≡ b → pick b (Some d) None ≡ Some c → (Some d ≡ Some c) × (immediate_reply (status_bits (channel_at m c)) ≡ true)
    go true i n = let k : d ≡ c = cc in (n, rw (← k) i)
    go false i n = absurd (let z : ◌≡◌ {A = ℕ} 0 1 = cc in omega arith)

replier_sendable : (m : List ℕ) (longest high low c : ℕ) → settles_reply m longest high low c ≡ true → immediate_reply (status_bits (channel_at m c)) ≡ true → sendable (buffer_of m c) longest ≡ true
unfolding settles_reply
replier_sendable m longest high low c f i =
    let n : Bool = not (cher (channel_at m c).status) in
    let q : Bool = sendable (buffer_of m c) longest in
    let g : both (immediate_reply (status_bits (channel_at m c))) (both n q) ≡ true = settles_sendable (matches (twelve (channel_at m c).high (channel_at m c).low) (twelve (channel_at m c).mask_high (channel_at m c).mask_low) (twelve high low)) (request_detection (status_bits (channel_at m c))) (buffer_of m c).legal (both (immediate_reply (status_bits (channel_at m c))) (both n q)) f (not_detecting (status_bits (channel_at m c)) i) in
    (both_true n q (both_true (immediate_reply (status_bits (channel_at m c))) (both n q) g).1).1

pub fits_reply : (m : List ℕ) (longest high low c : ℕ) → Below 256 m → high < 256 → low < 256 → replier_for m longest high low ≡ Some c → Fits longest (reply_frame m c high low)
unfolding replier_for reply_frame
fits_reply m longest high low c b h l e =
    let r : (lowest (settles_reply m longest high low) channels 0 ≡ Some c) × (immediate_reply (status_bits (channel_at m c)) ≡ true) = replier_settles m (lowest (settles_reply m longest high low) channels 0) c e in
    let f : settles_reply m longest high low c ≡ true = (found (settles_reply m longest high low) channels 0 c r.0).0 in
    fits_with m c high low _ b h l (ready_small m longest c (replier_sendable m longest high low c f r.1))

pub setting_small : (m : List ℕ) → Below 256 m → retry_setting (get_or m transmit_control 0) ≤ 15
unfolding retry_setting
setting_small m b = omega (arith, at_below b transmit_control)

-- ---- what is written to the memory map

pub laid_below : {m bs : List ℕ} → Below 256 m → Below 256 bs → (p k : ℕ) → Below 256 (laid_from m p k bs)
unfolding laid_from
laid_below b none p k = b
laid_below {m = m} b (one {x = x} {xs = xs} h bs) p k = laid_below {m = set {A = ℕ} m (mailbox_at p k) x} (set_below b (mailbox_at p k) x h) bs p (k + 1)

pub stored_below : {m bs : List ℕ} → Below 256 m → Below 256 bs → (p len n : ℕ) → Below 256 (stored m p len bs n)
unfolding stored status_byte
stored_below {bs = bs} b g p len n =
    laid_below b (one {x = status_byte (get_or bs 1 0) n} (omega arith) (take_below (drop_below g 2) (places_filled len n))) p 0

pub retagged_below : {m : List ℕ} → Below 256 m → (c high low : ℕ) → high < 256 → low < 256 → Below 256 (retagged m c high low)
unfolding retagged
retagged_below b c high low h l = set_below (set_below b (base c) high h) (base c + 1) _ (omega arith)

pub cher_below : {m : List ℕ} → Below 256 m → (c : ℕ) → Below 256 (marked_cher m c)
unfolding marked_cher with_cher
cher_below b c = let h = at_below b (base c + 3) in set_below b (base c + 3) _ (omega arith)

pub chtx_below : {m : List ℕ} → Below 256 m → (c : ℕ) → Below 256 (marked_chtx m c)
unfolding marked_chtx with_chtx
chtx_below b c = let h = at_below b (base c + 3) in set_below b (base c + 3) _ (omega arith)

pub chrx_below : {m : List ℕ} → Below 256 m → (c : ℕ) → Below 256 (marked_chrx m c)
unfolding marked_chrx with_chrx
chrx_below b c = let h = at_below b (base c + 3) in set_below b (base c + 3) _ (omega arith)

pub reset_below : {m : List ℕ} → Below 256 m → Below 256 (reset_memory m)
unfolding reset_memory rows_written reset_values read_only
reset_below b =
    set_below (set_below (set_below (set_below b _ _ (omega arith)) _ _ (omega arith)) _ _ (omega arith)) _ _ (omega arith)

-- ---- a channel's buffer

pub record BufferLimits (b : Buffer) : Type 0 where
  pub pointer : b.pointer ≤ 127
  pub length : b.length ≤ 31

no_buffer_limits : BufferLimits no_buffer
unfolding no_buffer
no_buffer_limits = record { pointer = omega arith; length = omega arith }

own_buffer_limits : {m : List ℕ} → Below 256 m → (c : ℕ) → BufferLimits (own_buffer (channel_at m c))
unfolding own_buffer channel_at length_of
own_buffer_limits {m} b c =
    let h = at_below b (base c + 3) in
    picked BufferLimits (eqb (length_of (channel_at m c).status) 0) no_buffer _ (λ e. no_buffer_limits) (λ e. record { pointer = omega arith; length = omega arith })

linked_buffer_limits : {m : List ℕ} → Below 256 m → (c link : ℕ) → BufferLimits (linked_buffer m c link)
unfolding linked_buffer
linked_buffer_limits {m} b c link =
    picked BufferLimits (leb channels link) no_buffer _ (λ e. no_buffer_limits)
    (λ e. picked BufferLimits (eqb link c) no_buffer _ (λ d. no_buffer_limits) (λ d. own_buffer_limits b link))

pub buffer_limits : {m : List ℕ} → Below 256 m → (c : ℕ) → BufferLimits (buffer_of m c)
unfolding buffer_of
buffer_limits {m} b c =
    picked BufferLimits (eqb (length_of (channel_at m c).status) 0) (linked_buffer m c ((channel_at m c).pointer % 16)) (own_buffer (channel_at m c))
    (λ e. linked_buffer_limits b c _) (λ e. own_buffer_limits b c)

-- ---- who takes a frame, who sends

-- a channel that is found is one of the fourteen
pub data Named : Option ℕ → Type 0 where
  nothing : Named None
  channel : {c : ℕ} → c ≤ 13 → Named (Some c)

lowest_named : (passes : ℕ → Bool) (left c : ℕ) → c + left ≤ channels → Named (lowest passes left c)
unfolding lowest
lowest_named passes zero c h = nothing
lowest_named passes (suc left) c h =
    picked Named (passes c) (Some c) (lowest passes left (c + 1)) (λ e. channel (omega arith)) (λ e. lowest_named passes left (c + 1) (omega arith))

pub ready_named : (m : List ℕ) (longest : ℕ) → Named (lowest_ready m longest)
unfolding lowest_ready
ready_named m longest = lowest_named (ready m longest) channels 0 (omega arith)

listening_named : (m : List ℕ) (high low : ℕ) → Named (lowest_listening m high low)
unfolding lowest_listening
listening_named m high low = lowest_named (λ c. takes m c high low) channels 0 (omega arith)

pub replier_named : (m : List ℕ) (longest high low : ℕ) → Named (replier_for m longest high low)
unfolding replier_for
replier_named m longest high low = go (lowest (settles_reply m longest high low) channels 0) (lowest_named (settles_reply m longest high low) channels 0 (omega arith))
  where
    go : (x : Option ℕ) → Named x → Named (if_replies m x)
    go None n = unfold if_replies in nothing
    go (Some c) (channel h) = unfold if_replies in picked Named (immediate_reply (status_bits (channel_at m c))) (Some c) None (λ e. channel h) (λ e. nothing)

pub nobody_limits : WinnerLimits nobody
unfolding nobody
nobody_limits = record { channel = omega arith; pointer = omega arith; length = omega arith }

won_limits : {m : List ℕ} → Below 256 m → {x : Option ℕ} → Named x → WinnerLimits (won m x)
unfolding won winner_of
won_limits b nothing = nobody_limits
won_limits b (channel {c = c} h) = let l = buffer_limits b c in record { channel = h; pointer = l.pointer; length = l.length }

pub winner_limits : {m : List ℕ} → Below 256 m → (high low : ℕ) → WinnerLimits (winner_for m high low)
unfolding winner_for
winner_limits {m} b high low = won_limits b (listening_named m high low)

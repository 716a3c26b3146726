-- The frame that the bytes hold, and the bits that carry a frame.
use Prim.Native.Nat.{ℕ, suc, ◌+◌, ◌-◌, ◌*◌, ◌/◌, ◌%◌, ◌^◌, ◌≤◌, ◌<◌}
use mathlib.Core.Bool.{Bool, true, false}
use mathlib.Core.List.{List, [], ◌∷◌, ◌++◌, append_assoc, append-nil}
use mathlib.Core.Path.{◌≡◌, refl, ap, ◌∙◌, sym}
use native.Mathlib.Omega.{arith}
use lib.Dec.{leb}
use lib.ListN.{length, get_or, take, drop, replicate, length-append, length-drop, length-replicate, take-append-drop}
use lib.Seq.{take_at, drop_at, take-append-add, length-take-le, drop-cons}
use Rattle.line.specs.Bits.{pick, bits, bits_value, Below, none, one}
use Rattle.line.specs.Check.{check}
use Rattle.line.specs.Frame.{Frame, Fits, byte_bits, covered, carried}
use Rattle.line.proofs.Laws.{bits_length, bits_split, bits_mod, value_bits, check_below, byte_bits_append, covered_length, carried_length, header_bits, byte_bits_length}
use Rattle.rules.specs.Definitions.Longest.{capacity}
use Rattle.rules.specs.Definitions.Mailbox.{places_filled, check_bytes, coded_bytes}
use Rattle.rules.specs.Definitions.Reception.{data_count}
use Rattle.rules.specs.Definitions.Hearing.{check_received}
use Rattle.every_run.proofs.Ranges.Bytes.{at_below, take_below, drop_below, zeros_below}
use Rattle.every_run.specs.Valid.{high, low}
use Rattle.every_run.proofs.Sending.Frames.{coded_bits}
use Rattle.every_run.proofs.Receiving.Rows.{take_half, cons_eq, Padded, zeros_bits}
use Rattle.every_run.proofs.Receiving.Invariant.{frame_held}
use Rattle.rules.specs.declared.Reception.{Reception}

-- ---- the check

check_bits : (d e c : ℕ) → e < 16 → bits 15 (d * 128 + e * 8 + c % 8) ≡ bits 8 d ++ (bits 4 e ++ bits 3 c)
check_bits d e c h =
    let x : ℕ = d * 128 + e * 8 + c % 8 in
    let q : (d * 128 + e * 8 + c % 8) / 128 ≡ d = omega arith in
    let p : (d * 128 + e * 8 + c % 8) / 8 % 16 ≡ e % 16 = omega arith in
    let m : (d * 128 + e * 8 + c % 8) % 8 ≡ c % 8 = omega arith in
    let four : bits 4 (x / 8) ≡ bits 4 e = sym (bits_mod 4 (x / 8)) ∙ ap (λ (t : ℕ). bits 4 t) p ∙ bits_mod 4 e in
    let three : bits 3 x ≡ bits 3 c = sym (bits_mod 3 x) ∙ ap (λ (t : ℕ). bits 3 t) m ∙ bits_mod 3 c in
    bits_split 8 7 x ∙ rw (bits_split 4 3 x, four, three, q)

-- ---- the bytes

cut_two : (k : ℕ) (s : List ℕ) → k + 2 ≤ length s → s ≡ (take k s ++ (get_or s k 0 ∷ [])) ++ (get_or s (k + 1) 0 ∷ drop (k + 2) s)
cut_two k s h =
    let a : drop k s ≡ get_or s k 0 ∷ drop (suc k) s = drop-cons s k 0 (omega arith) in
    let b : drop (suc k) s ≡ get_or s (suc k) 0 ∷ drop (suc (suc k)) s = drop-cons s (suc k) 0 (omega arith) in
    let e : suc k ≡ k + 1 = omega arith in
    let d : suc (suc k) ≡ k + 2 = omega arith in
    sym (take-append-drop k s) ∙ ap (λ (t : List ℕ). take k s ++ t) (a ∙ ap (λ (t : List ℕ). get_or s k 0 ∷ t) b) ∙ rw (d, e) (sym (append_assoc (take k s) (get_or s k 0 ∷ []) (get_or s (k + 1) 0 ∷ drop (k + 2) s)))

module _ (bytes : List ℕ) (n : ℕ) (long : length bytes ≡ capacity + 4) (below : Below 256 bytes) (small : n ≤ capacity) where
  -- whole nibbles and three bits more: the bytes that the check covers, and the check
  pub row_held : (m c : ℕ) → m ≡ 28 + 8 * n → take m (byte_bits bytes) ++ bits 3 c ≡ byte_bits (take (n + 2) bytes) ++ bits 15 (check_received bytes n c)
  unfolding check_received byte_bits
  row_held m c e =
      let d : ℕ = get_or bytes (n + 2) 0 in
      let g : ℕ = get_or bytes (n + 2 + 1) 0 in
      let g-is : g ≡ get_or bytes (n + 3) 0 = ap (λ (k : ℕ). get_or bytes k 0) (omega arith) in
      let b = at_below below (n + 3) in
      let p : List ℕ = take (n + 2) bytes ++ (d ∷ []) in
      let l : length p ≡ n + 3 = length-append (take (n + 2) bytes) (d ∷ []) ∙ rw (length-take-le (n + 2) bytes (omega arith)) (omega arith) in
      let half : take m (byte_bits bytes) ≡ byte_bits p ++ bits 4 (g / 16) = ap (λ (t : List ℕ). take m (byte_bits t)) (cut_two (n + 2) bytes (omega arith)) ∙ take_half p g (drop (n + 2 + 2) bytes) m (omega arith) in
      rw (half, check_bits d (get_or bytes (n + 3) 0 / 16) c (omega arith), byte_bits_append (take (n + 2) bytes) (d ∷ []), g-is)
      (simp append_assoc)

  two : bytes ≡ get_or bytes 0 0 ∷ get_or bytes 1 0 ∷ drop 2 bytes
  two = cut_two 0 bytes (omega arith)

  pub take_two : take (n + 2) bytes ≡ get_or bytes 0 0 ∷ get_or bytes 1 0 ∷ take n (drop 2 bytes)
  take_two = let e : n + 2 ≡ suc (suc n) = omega arith in rw e (ap (λ (t : List ℕ). take (suc (suc n)) t) two)

  -- four nibbles and more
  pub header_held : (j : ℕ) → 4 ≤ j → take (4 * j) (byte_bits bytes) ≡ bits 8 (get_or bytes 0 0) ++ (bits 8 (get_or bytes 1 0) ++ take (4 * j - 16) (byte_bits (drop 2 bytes)))
  unfolding byte_bits
  header_held j h =
      let b₀ : ℕ = get_or bytes 0 0 in
      let b₁ : ℕ = get_or bytes 1 0 in
      let rest : List ℕ = byte_bits (drop 2 bytes) in
      let e : 4 * j ≡ length (bits 8 b₀) + (length (bits 8 b₁) + (4 * j - 16)) = rw (bits_length, bits_length) (omega arith) in
      ap (λ (t : List ℕ). take (4 * j) (byte_bits t)) two
      ∙ ap (λ (k : ℕ). take k (bits 8 b₀ ++ (bits 8 b₁ ++ rest))) e
      ∙ take-append-add (bits 8 b₀) (bits 8 b₁ ++ rest) (length (bits 8 b₁) + (4 * j - 16))
      ∙ ap (λ (t : List ℕ). bits 8 b₀ ++ t) (take-append-add (bits 8 b₁) rest (4 * j - 16))

-- ---- the frame held

module _ {longest : ℕ} (r : Reception) (long : length r.bytes ≡ capacity + 4) (below : Below 256 r.bytes) (most : longest ≤ capacity) (small : data_count r.nibbles ≤ longest) where
  pub held_high : (a : Bool) → get_or r.bytes 0 0 ≡ high (frame_held r a)
  unfolding high frame_held
  held_high a = let h = at_below below 1 in omega arith

  pub held_low : (a : Bool) → get_or r.bytes 1 0 ≡ low (frame_held r a)
  unfolding low frame_held
  held_low a = let h = at_below below 1 in omega arith

  pub held_length : (a : Bool) → data_count r.nibbles ≡ length (frame_held r a).bytes
  unfolding frame_held
  held_length a = sym (length-take-le (data_count r.nibbles) (drop 2 r.bytes) (omega (arith, length-drop 2 r.bytes)))

  pub held_fits : (a : Bool) → Fits longest (frame_held r a)
  unfolding frame_held
  held_fits a =
      let h₀ = at_below below 0 in
      let h₁ = at_below below 1 in
      record {
        identifier = omega arith;
        command = omega arith;
        size = rw (← (held_length a)) small;
        bytes = take_below (drop_below below 2) (data_count r.nibbles);
      }

  pub held_covered : (a : Bool) → covered (frame_held r a) ≡ byte_bits (take (data_count r.nibbles + 2) r.bytes)
  unfolding covered frame_held byte_bits
  held_covered a =
      let b₀ : ℕ = get_or r.bytes 0 0 in
      let b₁ : ℕ = get_or r.bytes 1 0 in
      let i : ℕ = b₀ * 16 + b₁ / 16 in
      let h = at_below below 1 in
      let p : i / 16 ≡ b₀ = omega arith in
      let q : i % 16 * 16 + b₁ % 16 ≡ b₁ = omega arith in
      let e : bits 8 b₀ ++ bits 8 b₁ ≡ bits 12 i ++ bits 4 (b₁ % 16) = rw (p, q) at (header_bits i (b₁ % 16) (omega arith)) in
      let data' : List ℕ = byte_bits (take (data_count r.nibbles) (drop 2 r.bytes)) in
      sym
      (ap byte_bits (take_two r.bytes (data_count r.nibbles) long below (omega arith))
      ∙ sym (append_assoc (bits 8 b₀) (bits 8 b₁) data')
      ∙ ap (λ (t : List ℕ). t ++ data') e
      ∙ append_assoc (bits 12 i) (bits 4 (b₁ % 16)) data')

-- ---- the bits that carry a frame

pub bits_same : (w x y : ℕ) (s t : List ℕ) → x < 2 ^ w → y < 2 ^ w → bits w x ++ s ≡ bits w y ++ t → (x ≡ y) × (s ≡ t)
bits_same w x y s t h g e =
    let b : bits w x ≡ bits w y = sym (take_at (bits w x) s w (bits_length w x)) ∙ ap (λ (l : List ℕ). take w l) e ∙ take_at (bits w y) t w (bits_length w y) in
    let d : s ≡ t = sym (drop_at (bits w x) s w (bits_length w x)) ∙ ap (λ (l : List ℕ). drop w l) e ∙ drop_at (bits w y) t w (bits_length w y) in
    (sym (value_bits w x h) ∙ ap bits_value b ∙ value_bits w y g, d)

module _ {longest : ℕ} (f : Frame) (fits : Fits longest f) where
  pub carried_header : carried f ≡ bits 8 (high f) ++ (bits 8 (low f) ++ (byte_bits f.bytes ++ bits 15 (check (covered f))))
  unfolding carried covered high low
  carried_header =
      let c : List ℕ = bits 15 (check (bits 12 f.identifier ++ (bits 4 f.command ++ byte_bits f.bytes))) in
      let e = header_bits f.identifier f.command (omega (arith, fits.command)) in
      simp append_assoc
      (sym
      (sym (append_assoc (bits 8 (f.identifier / 16)) (bits 8 (f.identifier % 16 * 16 + f.command)) (byte_bits f.bytes ++ c))
      ∙ ap (λ (t : List ℕ). t ++ (byte_bits f.bytes ++ c)) e
      ∙ append_assoc (bits 12 f.identifier) (bits 4 f.command) (byte_bits f.bytes ++ c)))

  high_below : high f < 256
  unfolding high
  high_below = omega (arith, fits.identifier)

  low_below : low f < 256
  unfolding low
  low_below = omega (arith, fits.command)

  -- bits that begin with two bytes
  pub header_same : (b₀ b₁ : ℕ) (s : List ℕ) → b₀ < 256 → b₁ < 256 → carried f ≡ bits 8 b₀ ++ (bits 8 b₁ ++ s) → (b₀ ≡ high f) × (b₁ ≡ low f)
  header_same b₀ b₁ s h g e =
      let rest : List ℕ = byte_bits f.bytes ++ bits 15 (check (covered f)) in
      let a = bits_same 8 b₀ (high f) (bits 8 b₁ ++ s) (bits 8 (low f) ++ rest) h high_below (sym e ∙ carried_header) in
      let b = bits_same 8 b₁ (low f) s rest g low_below a.1 in
      (a.0, b.0)

  -- bits that end with a check
  pub check_same : (p : List ℕ) (c : ℕ) → c < 2 ^ 15 → length p ≡ 16 + 8 * length f.bytes → carried f ≡ p ++ bits 15 c → (p ≡ covered f) × (c ≡ check p)
  unfolding carried
  check_same p c h l e =
      let m = covered_length f in
      let n : ℕ = 16 + 8 * length f.bytes in
      let q : p ≡ covered f = sym (take_at p (bits 15 c) n l) ∙ ap (λ (t : List ℕ). take n t) (sym e) ∙ take_at (covered f) (bits 15 (check (covered f))) n m in
      let d : bits 15 c ≡ bits 15 (check (covered f)) = sym (drop_at p (bits 15 c) n l) ∙ ap (λ (t : List ℕ). drop n t) (sym e) ∙ drop_at (covered f) (bits 15 (check (covered f))) n m in
      let k : c ≡ check (covered f) = sym (value_bits 15 c h) ∙ ap bits_value d ∙ value_bits 15 (check (covered f)) (check_below (covered f)) in
      (q, k ∙ ap check (sym q))

-- ---- the bytes of a frame

pub bytes_same : (s t : List ℕ) → Below 256 s → Below 256 t → byte_bits s ≡ byte_bits t → s ≡ t
unfolding byte_bits
bytes_same [] [] b d e = refl
bytes_same [] (y ∷ t) b d e = absurd (omega (arith, ap length e, byte_bits_length (y ∷ t)))
bytes_same (x ∷ s) [] b d e = absurd (omega (arith, ap length e, byte_bits_length (x ∷ s)))
bytes_same (x ∷ s) (y ∷ t) (one h b) (one g d) e =
    let k = bits_same 8 x y (byte_bits s) (byte_bits t) h g e in
    cons_eq k.0 (bytes_same s t b d k.1)

append_below : {s t : List ℕ} → Below 256 s → Below 256 t → Below 256 (s ++ t)
append_below none d = d
append_below (one h b) d = one h (append_below b d)

module _ (f : Frame) (fits : Fits capacity f) where
  pub coded_below : Below 256 (coded_bytes f)
  unfolding coded_bytes
  coded_below =
      let i = fits.identifier in
      let c = fits.command in
      let k = check_below (covered f) in
      one {x = f.identifier / 16} (omega arith) (one {x = f.identifier % 16 * 16 + f.command} (omega arith)
      (append_below fits.bytes (one {x = check (covered f) / 128} (omega arith) (one {x = check (covered f) % 128 * 2} (omega arith) (zeros_below (capacity - length f.bytes))))))

  pub coded_length : length (coded_bytes f) ≡ capacity + 4
  unfolding coded_bytes
  coded_length =
      let l = fits.size in
      rw (length-append f.bytes, length-replicate) (omega arith)

  -- bytes whose bits are those that carry the frame, with zeros behind them
  pub coded_same : (bytes : List ℕ) → Below 256 bytes → length bytes ≡ capacity + 4 → Padded (carried f ++ (0 ∷ [])) (byte_bits bytes) → bytes ≡ coded_bytes f
  coded_same bytes b l p =
      let n : ℕ = length f.bytes in
      let m = fits.size in
      let cl = carried_length f in
      let bl = byte_bits_length bytes in
      let long : length (byte_bits bytes) ≡ 32 + 8 * n + p.0 = ap length p.1 ∙ rw (length-append (carried f ++ (0 ∷ [])), length-append (carried f), length-replicate) (omega arith) in
      let z : p.0 ≡ 8 * (capacity - n) = omega arith in
      let e : byte_bits (coded_bytes f) ≡ carried f ++ (0 ∷ replicate (8 * (capacity - n)) 0) = coded_bits f fits ∙ ap (λ (t : List ℕ). carried f ++ (0 ∷ t)) (zeros_bits (capacity - n)) in
      bytes_same bytes (coded_bytes f) b coded_below (p.1 ∙ rw z (append_assoc (carried f) (0 ∷ []) (replicate (8 * (capacity - n)) 0)) ∙ sym e)

  -- and the frame that they hold is that frame
  pub held_same : (r : Reception) → r.bytes ≡ coded_bytes f → data_count r.nibbles ≡ length f.bytes → frame_held r f.acknowledge ≡ f
  unfolding frame_held coded_bytes
  held_same r e d =
      let c = fits.command in
      let n : ℕ = length f.bytes in
      let behind : List ℕ = (check (covered f) / 128) ∷ (check (covered f) % 128 * 2) ∷ replicate (capacity - n) 0 in
      let i : f.identifier / 16 * 16 + (f.identifier % 16 * 16 + f.command) / 16 ≡ f.identifier = omega arith in
      let k : (f.identifier % 16 * 16 + f.command) % 16 ≡ f.command = omega arith in
      rw (e, d, i, k, take_at f.bytes behind n refl)

-- data and check as they stand in a frame's bytes
pub places_hold : (f : Frame) (len : ℕ) → take (places_filled len (length f.bytes)) (drop 2 (coded_bytes f)) ≡ f.bytes ++ pick (leb (length f.bytes + 3) len) (check_bytes f) []
unfolding places_filled coded_bytes
places_hold f len = go (leb (length f.bytes + 3) len)
  where
    n : ℕ
    n = length f.bytes

    z : List ℕ
    z = replicate (capacity - n) 0

    go : (b : Bool) → take (pick b (n + 2) n) (f.bytes ++ (check_bytes f ++ z)) ≡ f.bytes ++ pick b (check_bytes f) []
    go true = ap (λ (l : List ℕ). take (n + 2) l) (sym (append_assoc f.bytes (check_bytes f) z)) ∙ take_at (f.bytes ++ check_bytes f) z (n + 2) (length-append f.bytes (check_bytes f))
    go false = take_at f.bytes (check_bytes f ++ z) n refl ∙ sym (append-nil f.bytes)

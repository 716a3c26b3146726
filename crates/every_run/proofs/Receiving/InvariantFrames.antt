-- Samples that open a frame's slots: the reception holds that frame as far as it has come.
use Prim.Native.Nat.{ℕ, ◌+◌, ◌-◌, ◌*◌, ◌%◌, ◌≤◌}
use mathlib.Core.Bool.{true}
use mathlib.Core.List.{List, ◌∷◌, ◌++◌, append_assoc}
use mathlib.Core.Path.{◌≡◌, refl, ap, ◌∙◌, sym}
use native.Mathlib.Omega.{arith}
use lib.ListN.{length, get_or, take, drop, replicate, length-append, length-replicate}
use lib.Seq.{length-take-le}
use Rattle.line.specs.Bits.{bits}
use Rattle.line.specs.LineCode.{line_code}
use Rattle.line.specs.Check.{check}
use Rattle.line.specs.Frame.{Frame, Fits, byte_bits, covered, carried, start, end_of_data, end_of_frame, acknowledge_slots, slots}
use Rattle.line.proofs.Laws.{bits_length, code_length, carried_length, acknowledge_length}
use Rattle.rules.specs.Definitions.Reception.{data_count}
use Rattle.every_run.proofs.Ranges.Bytes.{at_below}
use Rattle.every_run.specs.Valid.{high, low}
use Rattle.every_run.proofs.Receiving.Invariant.{frame_held, InStart, InBody, Carried, InAcknowledge, InEnd}
use Rattle.every_run.proofs.Receiving.Rows.{nibbles_length, nibbles_slots, cancel, Opens, opens, same_code}
use Rattle.every_run.proofs.Receiving.Held.{header_held, held_high, held_low, held_length, carried_header, header_same}
use Rattle.rules.specs.declared.Reception.{Reception}

-- ---- how many samples

start_length : length start ≡ 10
unfolding start
start_length = refl

data_length : length end_of_data ≡ 2
unfolding end_of_data
data_length = refl

pub held_slots : {longest : ℕ} (r : Reception) → Carried longest r → length (line_code (carried (frame_held r true))) ≡ 38 + 10 * data_count r.nibbles
held_slots r c = rw (code_length, carried_length, ← (held_length r c.long c.below c.most c.count true)) (omega arith)

module _ {longest : ℕ} (r : Reception) (s : List ℕ) where
  pub start_long : InStart longest r s → length s ≡ r.place.at
  start_long t = rw t.samples (length-take-le r.place.at start (omega (arith, t.within, start_length)))

  pub body_long : InBody longest r s → length s ≡ 10 + 5 * r.nibbles + r.place.at
  body_long t =
      rw (t.samples, length-append start, length-append (line_code (take (4 * r.nibbles) (byte_bits r.bytes))), nibbles_slots r.bytes r.nibbles t.long (omega (arith, t.most, t.nibbles)), bits_length, start_length) (omega arith)

  pub acknowledge_long : InAcknowledge longest r s → length s ≡ 50 + 10 * data_count r.nibbles + r.place.at
  acknowledge_long t =
      rw (t.samples, length-append start, length-append (line_code (carried (frame_held r true))), length-append end_of_data, held_slots r t.held, bits_length, start_length, data_length) (omega arith)

  pub end_long : InEnd longest r s → length s ≡ 52 + 10 * data_count r.nibbles + r.place.at
  end_long t =
      rw (t.samples, length-append start, length-append (line_code (carried (frame_held r true))), length-append end_of_data, length-append (acknowledge_slots t.acknowledged), acknowledge_length, length-replicate, held_slots r t.held, start_length, data_length) (omega arith)

-- ---- the frame that they open

unfoldable pub closing : Frame → List ℕ
closing f = acknowledge_slots f.acknowledge ++ end_of_frame

pub closing_length : (f : Frame) → length (closing f) ≡ 10
unfolding closing end_of_frame
closing_length f = length-append (acknowledge_slots f.acknowledge) (replicate 8 1) ∙ rw acknowledge_length refl

module _ (f : Frame) where
  behind_start : (y x : List ℕ) → (start ++ y) ++ x ≡ slots f → y ++ x ≡ line_code (carried f) ++ (0 ∷ 0 ∷ closing f)
  unfolding slots end_of_data closing
  behind_start y x e = cancel start (sym (append_assoc start y x) ∙ e)

  four : length (carried f) % 4 ≡ 3
  four = omega (arith, carried_length f)

  pub record Same (r : Reception) (y x : List ℕ) : Type 0 where
    pub rest : y ++ x ≡ closing f
    pub count : data_count r.nibbles ≡ length f.bytes
    pub high_is : get_or r.bytes 0 0 ≡ high f
    pub low_is : get_or r.bytes 1 0 ≡ low f

module _ {longest : ℕ} (f : Frame) where
  pub body_opens : (r : Reception) (s : List ℕ) → InBody longest r s → (x : List ℕ) → s ++ x ≡ slots f
      → Opens (take (4 * r.nibbles) (byte_bits r.bytes)) (carried f) (bits r.place.at r.bits ++ x) (closing f)
  body_opens r s t x e =
      let b : List ℕ = take (4 * r.nibbles) (byte_bits r.bytes) in
      let y : List ℕ = bits r.place.at r.bits in
      let whole-nibbles : length b % 4 ≡ 0 = rw (nibbles_length r.bytes r.nibbles t.long (omega (arith, t.most, t.nibbles))) (omega arith) in
      opens b (carried f) (y ++ x) (closing f) whole-nibbles (four f)
      (sym (append_assoc (line_code b) y x) ∙ behind_start f (line_code b ++ y) x (rw t.samples at e))

  same_held : Fits longest f → (r : Reception) → Carried longest r → (y x : List ℕ) → (start ++ (line_code (carried (frame_held r true)) ++ (end_of_data ++ y))) ++ x ≡ slots f → Same f r y x
  unfolding end_of_data
  same_held fits r c y x e =
      let g : Frame = frame_held r true in
      let gl = carried_length g in
      let fl = carried_length f in
      let n = held_length r c.long c.below c.most c.count true in
      let k = same_code (carried g) (carried f) (y ++ x) (closing f) (omega arith) (four f) (sym (append_assoc (line_code (carried g)) (0 ∷ 0 ∷ y) x) ∙ behind_start f (line_code (carried g) ++ (0 ∷ 0 ∷ y)) x e) in
      let l : length (carried g) ≡ length (carried f) = ap length k.0 in
      let b₀ = at_below c.below 0 in
      let b₁ = at_below c.below 1 in
      let hh = held_high r c.long c.below c.most c.count true in
      let hl = held_low r c.long c.below c.most c.count true in
      let h = header_same f fits (high g) (low g) (byte_bits g.bytes ++ bits 15 (check (covered g))) (omega arith) (omega arith) (sym k.0 ∙ carried_header g c.fits) in
      record { rest = k.1; count = omega arith; high_is = hh ∙ h.0; low_is = hl ∙ h.1 }

  pub acknowledge_same : Fits longest f → (r : Reception) (s : List ℕ) → InAcknowledge longest r s → (x : List ℕ) → s ++ x ≡ slots f → Same f r (bits r.place.at r.bits) x
  acknowledge_same fits r s t x e = same_held fits r t.held (bits r.place.at r.bits) x (rw t.samples at e)

  pub end_same : Fits longest f → (r : Reception) (s : List ℕ) (t : InEnd longest r s) (x : List ℕ) → s ++ x ≡ slots f → Same f r (acknowledge_slots t.acknowledged ++ replicate r.place.at 1) x
  end_same fits r s t x e = same_held fits r t.held (acknowledge_slots t.acknowledged ++ replicate r.place.at 1) x (rw t.samples at e)

  -- identifier and command
  pub body_header : Fits longest f → (r : Reception) (s : List ℕ) → InBody longest r s → 4 ≤ r.nibbles → (x : List ℕ) → s ++ x ≡ slots f → (get_or r.bytes 0 0 ≡ high f) × (get_or r.bytes 1 0 ≡ low f)
  body_header fits r s t h x e =
      let k = body_opens r s t x e in
      let b₀ : ℕ = get_or r.bytes 0 0 in
      let b₁ : ℕ = get_or r.bytes 1 0 in
      let m : List ℕ = take (4 * r.nibbles - 16) (byte_bits (drop 2 r.bytes)) in
      header_same f fits b₀ b₁ (m ++ k.rest) (at_below t.below 0) (at_below t.below 1)
      (k.bits_are ∙ rw (header_held r.bytes 0 t.long t.below (omega arith) r.nibbles h) (simp append_assoc))

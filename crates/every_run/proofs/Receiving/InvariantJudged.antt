-- A sample of a frame's slots is judged as that slot.
use Prim.Native.Nat.{ℕ, suc, ◌+◌, ◌-◌, ◌*◌, ◌/◌, ◌%◌, ◌^◌, ◌≤◌, ◌<◌}
use mathlib.Core.Bool.{Bool, true, false, not, false≢true}
use mathlib.Core.List.{List, [], ◌∷◌, ◌++◌}
use mathlib.Core.Path.{◌≡◌, refl, ap, ◌∙◌, sym, subst}
use native.Mathlib.Omega.{arith}
use borrow.Author.Tests.{eq-eqb, ne_eqb, lt-ltb, le-ltb, le-leb, eqb-false, ltb-false}
use lib.Dec.{eqb, ltb}
use lib.ListN.{length, get_or, take, replicate, length-append, length-replicate, get_or-replicate, get_or-append}
use lib.Seq.{get_or_at, get_or-append-add, length-take-le}
use Rattle.line.specs.Bits.{pick, bits, Below}
use Rattle.line.specs.LineCode.{line_code}
use Rattle.line.specs.Check.{check}
use Rattle.line.specs.Frame.{Frame, Fits, byte_bits, carried, start, end_of_data, end_of_frame, acknowledge_slots, slots}
use Rattle.line.proofs.Laws.{bits_length, carried_length, picked, byte_bits_length, acknowledge_length}
use Rattle.rules.specs.Definitions.Registers.{both, FV, CV}
use Rattle.rules.specs.Definitions.Channels.{acknowledge_asked}
use Rattle.rules.specs.Definitions.Reception.{data_count}
use Rattle.rules.specs.Definitions.Longest.{most_nibbles}
use Rattle.rules.specs.Definitions.Hearing.{whole, reply_request, check_received, check_due, hear_end_of_data, hear_second_half, hear_body, hear_start, acknowledges, acknowledge_wrong, hear_acknowledge}
use Rattle.every_run.proofs.Ranges.Bytes.{at_below}
use Rattle.every_run.specs.Valid.{Valid, low, owes}
use Rattle.every_run.proofs.Receiving.Invariant.{InStart, InBody, InAcknowledge, InEnd}
use Rattle.every_run.proofs.Receiving.Rows.{nibbles_length, cons_head, cons_tail, cons_eq, Opens}
use Rattle.every_run.proofs.Receiving.Held.{row_held, check_same}
use Rattle.every_run.proofs.Receiving.InvariantFrames.{start_long, closing, closing_length, body_opens, Same, acknowledge_same, end_same, body_header}
use Rattle.rules.specs.declared.Reception.{Reception}
use Rattle.rules.specs.declared.Hearing.{Hearing}
use Rattle.rules.specs.declared.Hearing.TheVariants.{Follows, Fault}

-- ---- the start

pub start_goes : {longest : ℕ} (f : Frame) (r : Reception) (s : List ℕ) → InStart longest r s → (v : ℕ) (x : List ℕ) → s ++ (v ∷ x) ≡ slots f → hear_start r.place.at v ≡ Follows
unfolding hear_start slots
start_goes f r s t v x e =
    let l = start_long r s t in
    let rest : List ℕ = line_code (carried f) ++ (end_of_data ++ (acknowledge_slots f.acknowledge ++ end_of_frame)) in
    let d : v ≡ get_or start r.place.at 1 = sym (get_or_at s v x 1 r.place.at l) ∙ ap (λ (y : List ℕ). get_or y r.place.at 1) e ∙ get_or-append start rest 1 r.place.at (unfold start in omega (arith, t.within)) in
    rw (eq-eqb v (get_or start r.place.at 1) d)

-- ---- a second half

-- the halves of a pair: the pair 00, behind the last three bits; or a bit and its opposite
data Pair (b v : ℕ) (d : List ℕ) : Type 0 where
  ends : v ≡ b % 2 → v ≡ 0 → d ≡ bits 3 (b / 2) → Pair b v d
  closes : (v ≡ b % 2 → ⊥) → 4 ≤ length d → Pair b v d

half_8 : (b : ℕ) → b / 8 % 2 ≡ b / 2 / 4 % 2
half_8 b = omega arith

half_4 : (b : ℕ) → b / 4 % 2 ≡ b / 2 / 2 % 2
half_4 b = omega arith

half_2 : (b : ℕ) → b / 2 % 2 ≡ b / 2 / 1 % 2
half_2 b = omega arith

pair : (b v : ℕ) (x d t : List ℕ) → length d % 4 ≡ 3 → bits 4 b ++ (v ∷ x) ≡ line_code d ++ (0 ∷ 0 ∷ t) → Pair b v d
unfolding bits line_code
pair b v x [] t h e = absurd (omega arith)
pair b v x (p ∷ []) t h e = absurd (omega arith)
pair b v x (p ∷ q ∷ []) t h e = absurd (omega arith)
pair b v x (p ∷ q ∷ r ∷ []) t h e =
    let p-is : b / 8 % 2 ≡ p = cons_head e in
    let q-is : b / 4 % 2 ≡ q = cons_head (cons_tail e) in
    let r-is : b / 2 % 2 ≡ r = cons_head (cons_tail (cons_tail e)) in
    let first : b / 1 % 2 ≡ 0 = cons_head (cons_tail (cons_tail (cons_tail e))) in
    let second : v ≡ 0 = cons_head (cons_tail (cons_tail (cons_tail (cons_tail e)))) in
    ends (omega (arith, first, second)) second (cons_eq (sym p-is ∙ half_8 b) (cons_eq (sym q-is ∙ half_4 b) (cons_eq (sym r-is ∙ half_2 b) refl)))
pair b v x (p ∷ q ∷ r ∷ y ∷ d) t h e =
    let first : b / 1 % 2 ≡ y = cons_head (cons_tail (cons_tail (cons_tail e))) in
    let second : v ≡ 1 - y = cons_head (cons_tail (cons_tail (cons_tail (cons_tail e)))) in
    closes (λ same. omega arith) (omega arith)

-- the count of a frame's nibbles
count_whole : (longest j n : ℕ) → j ≡ 7 + 2 * n → n ≤ longest → (whole j longest ≡ true) × (data_count j ≡ n)
unfolding whole data_count
count_whole longest j n e h =
    (rw (eq-eqb (j % 2) 1 (omega arith), le-leb 7 j (omega arith)) (le-leb j (most_nibbles longest) (omega arith)), rw (le-ltb j 7 (omega arith)) (omega arith))

received_below : (bytes : List ℕ) (n c : ℕ) → Below 256 bytes → check_received bytes n c < 2 ^ 15
unfolding check_received
received_below bytes n c b =
    let h = at_below b (n + 2) in
    let g = at_below b (n + 3) in
    omega arith

module _ {longest : ℕ} (f : Frame) (fits : Fits longest f) (request : reply_request (low f) ≡ true → length f.bytes ≡ 0) (r : Reception) (s : List ℕ) (t : InBody longest r s) where
  -- the check, and no data in a reply request
  end_follows : (x : List ℕ) → s ++ x ≡ slots f → carried f ≡ take (4 * r.nibbles) (byte_bits r.bytes) ++ bits 3 (r.bits / 2) → hear_end_of_data r longest ≡ Follows
  unfolding hear_end_of_data check_due
  end_follows x e c =
      let n : ℕ = length f.bytes in
      let l : length (carried f) ≡ 4 * r.nibbles + 3 = ap length c ∙ rw (length-append (take (4 * r.nibbles) (byte_bits r.bytes)), nibbles_length r.bytes r.nibbles t.long (omega (arith, t.most, t.nibbles)), bits_length) refl in
      let fl = carried_length f in
      let j : r.nibbles ≡ 7 + 2 * n = omega arith in
      let w = count_whole longest r.nibbles n j fits.size in
      let h = body_header f fits r s t (omega arith) x e in
      let row = row_held r.bytes n t.long t.below (omega (arith, fits.size, t.most)) (4 * r.nibbles) (r.bits / 2) (omega arith) in
      let p : List ℕ = byte_bits (take (n + 2) r.bytes) in
      let pl : length p ≡ 16 + 8 * n = byte_bits_length (take (n + 2) r.bytes) ∙ rw (length-take-le (n + 2) r.bytes (omega (arith, t.long, fits.size, t.most))) (omega arith) in
      let k = check_same f fits p (check_received r.bytes n (r.bits / 2)) (received_below r.bytes n (r.bits / 2) t.below) pl (c ∙ row) in
      rw (w.0, w.1, h.1, no_data (reply_request (low f)) request, eq-eqb (check_received r.bytes n (r.bits / 2)) (check p) k.1)
    where
      no_data : (b : Bool) → (b ≡ true → length f.bytes ≡ 0) → both b (ltb 0 (length f.bytes)) ≡ false
      no_data true h = le-ltb 0 (length f.bytes) (omega (arith, h refl))
      no_data false h = refl

  second_goes : r.place.at ≡ 4 → (v : ℕ) (x : List ℕ) → s ++ (v ∷ x) ≡ slots f → hear_second_half r longest v ≡ Follows
  unfolding hear_second_half
  second_goes l v x e =
      let k : Opens (take (4 * r.nibbles) (byte_bits r.bytes)) (carried f) (bits 4 r.bits ++ (v ∷ x)) (closing f) = rw l at (body_opens f r s t (v ∷ x) e) in
      go k.rest k.bits_are (pair r.bits v x k.rest (closing f) k.long k.slots_are)
    where
      go : (d : List ℕ) → carried f ≡ take (4 * r.nibbles) (byte_bits r.bytes) ++ d → Pair r.bits v d
          → pick (eqb v (r.bits % 2)) (pick (eqb v 0) (hear_end_of_data r longest) (Fault CV)) (pick (ltb r.nibbles (most_nibbles longest)) Follows (Fault CV)) ≡ Follows
      go d c (ends same zero' three) = rw (eq-eqb v (r.bits % 2) same, eq-eqb v 0 zero') (end_follows (v ∷ x) e (rw three at c))
      go d c (closes other long) =
          let m : length (carried f) ≡ 4 * r.nibbles + length d = ap length c ∙ rw (length-append (take (4 * r.nibbles) (byte_bits r.bytes)), nibbles_length r.bytes r.nibbles t.long (omega (arith, t.most, t.nibbles))) refl in
          let fl = carried_length f in
          let fs = fits.size in
          rw (ne_eqb v (r.bits % 2) other, lt-ltb r.nibbles (most_nibbles longest) (omega arith))

  pub body_goes : (v : ℕ) (x : List ℕ) → s ++ (v ∷ x) ≡ slots f → hear_body r longest v ≡ Follows
  unfolding hear_body
  body_goes v x e =
      picked (λ (h : Hearing). h ≡ Follows) (ltb r.place.at 4) Follows (hear_second_half r longest v) (λ d. refl)
      (λ d. let l = ltb-false r.place.at 4 d in second_goes (omega (arith, t.within)) v x e)

-- ---- the acknowledge

pair_is : (a : Bool) (b v : ℕ) (x y : List ℕ) → bits 1 b ++ (v ∷ x) ≡ acknowledge_slots a ++ y → (b % 2 ≡ 1) × (v ≡ pick a 0 1)
unfolding bits acknowledge_slots
pair_is true b v x y e = let d : b / 1 % 2 ≡ 1 = cons_head e in (omega arith, cons_head (cons_tail e))
pair_is false b v x y e = let d : b / 1 % 2 ≡ 1 = cons_head e in (omega arith, cons_head (cons_tail e))

module _ {longest : ℕ} (f : Frame) (fits : Fits longest f) (r : Reception) (valid : Valid r.winner f) (s : List ℕ) (t : InAcknowledge longest r s) where
  wrong : (v : ℕ) (x : List ℕ) → Same f r (bits 1 r.bits) (v ∷ x) → acknowledge_wrong (acknowledge_asked (get_or r.bytes 1 0)) (acknowledges r) (r.bits % 2) v ≡ false
  unfolding acknowledge_wrong
  wrong v x k =
      let d = pair_is f.acknowledge r.bits v x end_of_frame (unfold closing in k.rest) in
      rw (ne_eqb (r.bits % 2) 0 (λ z. omega arith)) (go f.acknowledge refl d.1)
    where
      owes_same : owes r.winner f ≡ acknowledges r
      owes_same = unfold owes acknowledges in rw (k.count, k.low_is)

      silent : f.acknowledge ≡ false → (b : Bool) → acknowledges r ≡ b → b ≡ false
      silent a true e = absurd (false≢true (sym a ∙ valid.driven (owes_same ∙ e)))
      silent a false e = refl

      go : (a : Bool) → f.acknowledge ≡ a → v ≡ pick a 0 1 → pick (eqb v 0) (not (acknowledge_asked (get_or r.bytes 1 0))) (acknowledges r) ≡ false
      go true e d = rw (eq-eqb v 0 d, k.low_is, valid.asked e)
      go false e d = rw (ne_eqb v 0 (λ z. omega arith)) (silent e (acknowledges r) refl)

  pub acknowledge_goes : (v : ℕ) (x : List ℕ) → s ++ (v ∷ x) ≡ slots f → hear_acknowledge r v ≡ Follows
  unfolding hear_acknowledge
  acknowledge_goes v x e =
      picked (λ (h : Hearing). h ≡ Follows) (eqb r.place.at 0) Follows (pick (acknowledge_wrong (acknowledge_asked (get_or r.bytes 1 0)) (acknowledges r) (r.bits % 2) v) (Fault FV) Follows)
      (λ d. refl)
      (λ d.
      let o = eqb-false r.place.at 0 d in
      let l : r.place.at ≡ 1 = omega (arith, t.within) in
      rw (wrong v x (subst (λ (n : ℕ). Same f r (bits n r.bits) (v ∷ x)) l (acknowledge_same f fits r s t (v ∷ x) e))))

-- ---- the end of the frame

module _ {longest : ℕ} (f : Frame) (fits : Fits longest f) (r : Reception) (s : List ℕ) (t : InEnd longest r s) where
  pub end_placed : (v : ℕ) (x : List ℕ) → s ++ (v ∷ x) ≡ slots f → (v ≡ 1) × (r.place.at + length x ≡ 7)
  unfolding closing end_of_frame
  end_placed v x e =
      let at : ℕ = r.place.at in
      let a : List ℕ = acknowledge_slots t.acknowledged in
      let b : List ℕ = acknowledge_slots f.acknowledge in
      let p : List ℕ = a ++ replicate at 1 in
      let k = end_same f fits r s t (v ∷ x) e in
      let pl : length p ≡ 2 + at = length-append a (replicate at 1) ∙ rw (acknowledge_length, length-replicate) refl in
      let l : 2 + at + suc (length x) ≡ 10 = rw (length-append p, pl, closing_length) at (ap length k.rest) in
      let i : 2 + at ≡ length b + at = rw acknowledge_length refl in
      let w : v ≡ 1 = sym (get_or_at p v x 1 (2 + at) pl) ∙ ap (λ (y : List ℕ). get_or y (2 + at) 1) k.rest ∙ ap (λ (m : ℕ). get_or (b ++ replicate 8 1) m 1) i ∙ get_or-append-add b (replicate 8 1) at 1 ∙ get_or-replicate 8 at 1 1 (omega arith) in
      (w, omega arith)

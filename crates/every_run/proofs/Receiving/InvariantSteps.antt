-- A sample that follows: the reception tells the samples with it, phase by phase.
use Prim.Native.Nat.{ℕ, ◌+◌, ◌-◌, ◌*◌, ◌/◌, ◌%◌, ◌≤◌, ◌<◌}
use mathlib.Core.Bool.{Bool, true, false, not, false≢true}
use mathlib.Core.List.{List, [], ◌∷◌, ◌++◌, append_assoc, append-nil}
use mathlib.Core.Path.{◌≡◌, refl, ap, ◌∙◌, sym, subst}
use native.Mathlib.Omega.{arith}
use native.Mathlib.Numerals.{add-one}
use borrow.Author.Tests.{lt-ltb, le-ltb, eqb-true, eqb-false, ltb-true, ltb-false, leb-true, not-false}
use lib.Dec.{eqb, ltb, leb}
use lib.ListN.{length, get_or, take, replicate, replicate-append-replicate}
use lib.Seq.{take-suc}
use Rattle.line.specs.Bits.{pick, bits}
use Rattle.line.specs.LineCode.{line_code}
use Rattle.line.specs.Frame.{byte_bits, carried, start, end_of_data, acknowledge_slots}
use Rattle.line.proofs.Laws.{bits_split, code_append, picked}
use Rattle.rules.specs.Definitions.Registers.{both, FV, CV, FCSE}
use Rattle.rules.specs.Definitions.Channels.{acknowledge_asked}
use Rattle.rules.specs.Definitions.Mailbox.{coded_bytes}
use Rattle.rules.specs.Definitions.Reception.{at_place, moved, entered, bit_taken, with_nibble, more_nibbles, bits_laid, data_ended, nibble_taken, follow_start, follow_body, follow_acknowledge, follow_end, follow_in, followed, data_count}
use Rattle.rules.specs.Definitions.Longest.{capacity, most_nibbles}
use Rattle.rules.specs.Definitions.Hearing.{whole, reply_request, check_received, check_due, hear_end_of_data, hear_second_half, hear_body, hear_start, acknowledges, acknowledge_wrong, hear_acknowledge, hear_end, hear_in, hear_frame}
use Rattle.every_run.proofs.Ranges.Bytes.{zeros_below}
use Rattle.every_run.specs.Valid.{low, owes}
use Rattle.every_run.proofs.Receiving.Invariant.{frame_held, InStart, InBody, Carried, InAcknowledge, InEnd, InvariantIn, Invariant}
use Rattle.every_run.proofs.Sending.Frames.{wider}
use Rattle.every_run.proofs.Receiving.Rows.{nibbles_length, nibble_added, Padded, zeros_bits, nibble_padded, nibble_long, nibble_below, nibble_slots, bit_added}
use Rattle.every_run.proofs.Receiving.Held.{row_held, held_covered, held_fits, held_low, held_length, coded_same, held_same}
use Rattle.rules.specs.declared.Phase.{Phase}
use Rattle.rules.specs.declared.Phase.TheVariants.{Quiet, Start, Body, Acknowledge, End}
use Rattle.rules.specs.declared.Reception.{Reception}
use Rattle.rules.specs.declared.Hearing.{Hearing}
use Rattle.rules.specs.declared.Hearing.TheVariants.{Silent, Follows, Fault, Good}

-- ---- judgements that differ

pub fault_follows : {code : ℕ} → Fault code ≡ Follows → ⊥
fault_follows e = let z : ◌≡◌ {A = ℕ} 0 1 = cc in omega arith

pub fault_good : {code : ℕ} → Fault code ≡ Good → ⊥
fault_good e = let z : ◌≡◌ {A = ℕ} 0 1 = cc in omega arith

pub good_follows : Good ≡ Follows → ⊥
good_follows e = let z : ◌≡◌ {A = ℕ} 0 1 = cc in omega arith

pub silent_follows : Silent ≡ Follows → ⊥
silent_follows e = let z : ◌≡◌ {A = ℕ} 0 1 = cc in omega arith

-- a test that a sample passed
pub passes : (t : Bool) (y : Hearing) (code : ℕ) → pick t y (Fault code) ≡ Follows → (t ≡ true) × (y ≡ Follows)
passes true y code e = (refl, e)
passes false y code e = absurd (fault_follows e)

pub spared : (t : Bool) (y : Hearing) (code : ℕ) → pick t (Fault code) y ≡ Follows → (t ≡ false) × (y ≡ Follows)
spared true y code e = absurd (fault_follows e)
spared false y code e = (refl, e)

-- a whole count of nibbles is that of a frame
pub whole_count : (longest j : ℕ) → whole j longest ≡ true → (j ≡ 7 + 2 * data_count j) × (data_count j ≤ longest)
unfolding whole data_count
whole_count longest j e = go (eqb (j % 2) 1) refl (leb 7 j) refl e
  where
    go : (a : Bool) → eqb (j % 2) 1 ≡ a → (b : Bool) → leb 7 j ≡ b → both a (both b (leb j (most_nibbles longest))) ≡ true → (j ≡ 7 + 2 * pick (ltb j 7) 0 ((j - 7) / 2)) × (pick (ltb j 7) 0 ((j - 7) / 2) ≤ longest)
    go true p true q e =
        let o = eqb-true (j % 2) 1 p in
        let l = leb-true 7 j q in
        let m = leb-true j (most_nibbles longest) e in
        rw (le-ltb j 7 l) (omega arith, omega arith)
    go true p false q e = absurd (false≢true e)
    go false p b q e = absurd (false≢true e)

-- ---- the start

module _ {longest : ℕ} (r : Reception) (s : List ℕ) (v : ℕ) (small : v < 2) where
  start_step : r.place.phase ≡ Start → InStart longest r s → hear_start r.place.at v ≡ Follows → Invariant longest (follow_start r) (s ++ (v ∷ []))
  unfolding hear_start follow_start
  start_step p t h =
      picked (λ (x : Reception). Invariant longest x (s ++ (v ∷ []))) (ltb r.place.at 9) (moved r) (entered r Body)
      (λ e. let l = ltb-true r.place.at 9 e in on l) (λ e. let l = ltb-false r.place.at 9 e in over (omega (arith, t.within)))
    where
      v_is : v ≡ get_or start r.place.at 1
      v_is = eqb-true v (get_or start r.place.at 1) (passes (eqb v (get_or start r.place.at 1)) Follows CV h).0

      next : s ++ (v ∷ []) ≡ take (r.place.at + 1) start
      next = rw (t.samples, v_is, add-one) (sym (take-suc start r.place.at 1 (unfold start in omega (arith, t.within))))

      on : r.place.at < 9 → Invariant longest (moved r) (s ++ (v ∷ []))
      on l =
          record {
            holds = unfold InvariantIn moved at_place in
                rw p (record { most = t.most; some = omega arith; within = omega arith; nibbles = t.nibbles; bytes = t.bytes; samples = next });
          }

      over : r.place.at ≡ 9 → Invariant longest (entered r Body) (s ++ (v ∷ []))
      over l =
          record {
            holds = unfold InvariantIn entered at_place in
                record {
                  most = t.most;
                  within = omega arith;
                  nibbles = omega (arith, t.nibbles);
                  long = rw t.bytes refl;
                  below = rw t.bytes (zeros_below 34);
                  padded = rw (t.bytes, t.nibbles) (272, zeros_bits 34);
                  samples = next ∙ rw (l, t.nibbles) (unfold start line_code bits in refl);
                };
          }

  -- ---- a plain bit or a first half

  bit_step : r.place.phase ≡ Body → InBody longest r s → r.place.at < 4 → Invariant longest (bit_taken r v) (s ++ (v ∷ []))
  unfolding InvariantIn bit_taken moved at_place
  bit_step p t l =
      let code : List ℕ = line_code (take (4 * r.nibbles) (byte_bits r.bytes)) in
      let old : List ℕ = bits r.place.at r.bits in
      record {
        holds = rw p
            (record {
              most = t.most;
              within = omega arith;
              nibbles = t.nibbles;
              long = t.long;
              below = t.below;
              padded = t.padded;
              samples = rw (t.samples, bit_added r.place.at r.bits v (omega arith) small)
                  (append_assoc start (code ++ old) (v ∷ []) ∙ ap (λ (x : List ℕ). start ++ x) (append_assoc code old (v ∷ [])));
            });
      }

  -- ---- a second half unlike the first

  nibble_step : InBody longest r s → r.place.at ≡ 4 → (v ≡ r.bits % 2 → ⊥) → r.nibbles < most_nibbles longest → Invariant longest (nibble_taken r) (s ++ (v ∷ []))
  unfolding InvariantIn nibble_taken bits_laid entered more_nibbles at_place
  nibble_step t l d n =
      let before : List ℕ = take (4 * r.nibbles) (byte_bits r.bytes) in
      let four : length before % 4 ≡ 0 = rw (nibbles_length r.bytes r.nibbles t.long (omega (arith, t.most, t.nibbles))) (omega arith) in
      let code : line_code (before ++ bits 4 r.bits) ≡ line_code before ++ (bits 4 r.bits ++ (v ∷ [])) = code_append before (bits 4 r.bits) four ∙ ap (λ (x : List ℕ). line_code before ++ x) (nibble_slots r.bits v small d) in
      record {
        holds = rw (lt-ltb r.nibbles (most_nibbles capacity) (omega (arith, t.most)))
            (record {
              most = t.most;
              within = omega arith;
              nibbles = omega arith;
              long = nibble_long r.bytes r.nibbles r.bits t.long;
              below = nibble_below t.below r.nibbles r.bits;
              padded = rw (nibble_added r.bytes r.nibbles r.bits t.long (omega (arith, t.most))) (nibble_padded r.bytes r.nibbles r.bits t.long (omega (arith, t.most)) t.padded);
              samples = rw (t.samples, l, nibble_added r.bytes r.nibbles r.bits t.long (omega (arith, t.most)), code) (unfold bits in simp (append_assoc, append-nil));
            });
      }

  -- ---- the end of data

  -- the last whole nibble and the three bits behind it end a frame that was carried whole
  carried_held : InBody longest r s → data_count r.nibbles ≤ longest → r.nibbles ≡ 7 + 2 * data_count r.nibbles
      → check_received r.bytes (data_count r.nibbles) (r.bits / 2) ≡ check_due r.bytes (data_count r.nibbles)
      → carried (frame_held r true) ≡ take (4 * r.nibbles) (byte_bits r.bytes) ++ bits 3 (r.bits / 2)
  unfolding carried check_due
  carried_held t n j c =
      rw (held_covered r t.long t.below t.most n true, ← c)
      (sym (row_held r.bytes (data_count r.nibbles) t.long t.below (omega (arith, t.most)) (4 * r.nibbles) (r.bits / 2) (omega arith)))

  -- and the bytes with them are that frame's
  ended_coded : InBody longest r s → r.bits % 2 ≡ 0 → data_count r.nibbles ≤ longest → r.nibbles ≡ 7 + 2 * data_count r.nibbles
      → check_received r.bytes (data_count r.nibbles) (r.bits / 2) ≡ check_due r.bytes (data_count r.nibbles)
      → with_nibble r.bytes r.nibbles r.bits ≡ coded_bytes (frame_held r true)
  ended_coded t z n j c =
      let f = held_fits r t.long t.below t.most n true in
      let last : bits 1 r.bits ≡ 0 ∷ [] = unfold bits in (let e : r.bits / 1 % 2 ≡ 0 = omega arith in rw e) in
      let row : take (4 * r.nibbles) (byte_bits r.bytes) ++ bits 4 r.bits ≡ carried (frame_held r true) ++ (0 ∷ []) = rw (carried_held t n j c, bits_split 3 1 r.bits, last) (simp append_assoc) in
      coded_same (frame_held r true) (wider t.most f) (with_nibble r.bytes r.nibbles r.bits) (nibble_below t.below r.nibbles r.bits) (nibble_long r.bytes r.nibbles r.bits t.long)
      (subst (λ (b : List ℕ). Padded b (byte_bits (with_nibble r.bytes r.nibbles r.bits))) row (nibble_padded r.bytes r.nibbles r.bits t.long (omega (arith, t.most, t.nibbles)) t.padded))

  end_step : InBody longest r s → r.place.at ≡ 4 → v ≡ r.bits % 2 → v ≡ 0 → data_count r.nibbles ≤ longest → r.nibbles ≡ 7 + 2 * data_count r.nibbles
      → (reply_request (get_or r.bytes 1 0) ≡ true → data_count r.nibbles ≡ 0)
      → check_received r.bytes (data_count r.nibbles) (r.bits / 2) ≡ check_due r.bytes (data_count r.nibbles)
      → Invariant longest (data_ended r) (s ++ (v ∷ []))
  unfolding InvariantIn data_ended bits_laid entered at_place frame_held
  end_step t l d z n j q c =
      let before : List ℕ = take (4 * r.nibbles) (byte_bits r.bytes) in
      let four : length before % 4 ≡ 0 = rw (nibbles_length r.bytes r.nibbles t.long (omega (arith, t.most, t.nibbles))) (omega arith) in
      let three : line_code (bits 3 (r.bits / 2)) ≡ bits 3 (r.bits / 2) = unfold line_code bits in refl in
      let code : line_code (carried (frame_held r true)) ≡ line_code before ++ bits 3 (r.bits / 2) = ap line_code (carried_held t n j c) ∙ code_append before (bits 3 (r.bits / 2)) four ∙ ap (λ (x : List ℕ). line_code before ++ x) three in
      let last : bits 1 r.bits ≡ 0 ∷ [] = unfold bits in (let e : r.bits / 1 % 2 ≡ 0 = omega arith in rw e) in
      let coded = ended_coded t (omega arith) n j c in
      let f = held_fits r t.long t.below t.most n true in
      let same : frame_held (data_ended r) true ≡ frame_held r true = held_same (frame_held r true) (wider t.most f) (data_ended r) (unfold data_ended bits_laid entered in coded) (unfold data_ended bits_laid entered in held_length r t.long t.below t.most n true) in
      let second : get_or (with_nibble r.bytes r.nibbles r.bits) 1 0 ≡ get_or r.bytes 1 0 = ap (λ (x : List ℕ). get_or x 1 0) coded ∙ unfold coded_bytes low in sym (held_low r t.long t.below t.most n true) in
      record {
        holds =
            record {
              within = omega arith;
              held = record {
                most = t.most;
                fits = rw same f;
                long = nibble_long r.bytes r.nibbles r.bits t.long;
                below = nibble_below t.below r.nibbles r.bits;
                count = n;
                coded = rw same coded;
                request = rw second q;
              };
              samples = rw (same, t.samples, l, code, bits_split 3 1 r.bits, last, z) (unfold bits end_of_data in simp append_assoc);
            };
      }

  body_step : r.place.phase ≡ Body → InBody longest r s → hear_body r longest v ≡ Follows → Invariant longest (follow_body r v) (s ++ (v ∷ []))
  unfolding hear_body hear_second_half hear_end_of_data follow_body
  body_step p t = plain (ltb r.place.at 4) refl
    where
      n : ℕ
      n = data_count r.nibbles

      request : Bool
      request = reply_request (get_or r.bytes 1 0)

      right : Bool
      right = eqb (check_received r.bytes n (r.bits / 2)) (check_due r.bytes n)

      no_data : (a b : Bool) → ltb 0 n ≡ b → both a b ≡ false → a ≡ true → n ≡ 0
      no_data true true l e d = absurd (false≢true (sym e))
      no_data true false l e d = let h = ltb-false 0 n l in omega arith
      no_data false b l e d = absurd (false≢true d)

      ended : r.place.at ≡ 4 → v ≡ r.bits % 2 → v ≡ 0 → pick (whole r.nibbles longest) (pick (both request (ltb 0 n)) (Fault CV) (pick right Follows (Fault FCSE))) (Fault CV) ≡ Follows → Invariant longest (data_ended r) (s ++ (v ∷ []))
      ended l d z h =
          let w = passes (whole r.nibbles longest) (pick (both request (ltb 0 n)) (Fault CV) (pick right Follows (Fault FCSE))) CV h in
          let q = spared (both request (ltb 0 n)) (pick right Follows (Fault FCSE)) CV w.1 in
          let c = passes right Follows FCSE q.1 in
          let k = whole_count longest r.nibbles w.0 in
          end_step t l d z k.1 k.0 (no_data request (ltb 0 n) refl q.0) (eqb-true (check_received r.bytes n (r.bits / 2)) (check_due r.bytes n) c.0)

      second : r.place.at ≡ 4 → (b : Bool) → eqb v (r.bits % 2) ≡ b
          → pick b (pick (eqb v 0) (pick (whole r.nibbles longest) (pick (both request (ltb 0 n)) (Fault CV) (pick right Follows (Fault FCSE))) (Fault CV)) (Fault CV)) (pick (ltb r.nibbles (most_nibbles longest)) Follows (Fault CV)) ≡ Follows
          → Invariant longest (pick b (data_ended r) (nibble_taken r)) (s ++ (v ∷ []))
      second l true e h =
          let z = passes (eqb v 0) (pick (whole r.nibbles longest) (pick (both request (ltb 0 n)) (Fault CV) (pick right Follows (Fault FCSE))) (Fault CV)) CV h in
          ended l (eqb-true v (r.bits % 2) e) (eqb-true v 0 z.0) z.1
      second l false e h =
          let z = passes (ltb r.nibbles (most_nibbles longest)) Follows CV h in
          nibble_step t l (eqb-false v (r.bits % 2) e) (ltb-true r.nibbles (most_nibbles longest) z.0)

      plain : (b : Bool) → ltb r.place.at 4 ≡ b
          → pick b Follows (pick (eqb v (r.bits % 2)) (pick (eqb v 0) (pick (whole r.nibbles longest) (pick (both request (ltb 0 n)) (Fault CV) (pick right Follows (Fault FCSE))) (Fault CV)) (Fault CV)) (pick (ltb r.nibbles (most_nibbles longest)) Follows (Fault CV))) ≡ Follows
          → Invariant longest (pick b (bit_taken r v) (pick (eqb v (r.bits % 2)) (data_ended r) (nibble_taken r))) (s ++ (v ∷ []))
      plain true e h = bit_step p t (ltb-true r.place.at 4 e)
      plain false e h = let l = ltb-false r.place.at 4 e in second (omega (arith, t.within)) (eqb v (r.bits % 2)) refl h

  -- ---- the acknowledge

  first_step : r.place.phase ≡ Acknowledge → InAcknowledge longest r s → r.place.at ≡ 0 → Invariant longest (bit_taken r v) (s ++ (v ∷ []))
  unfolding InvariantIn bit_taken moved at_place frame_held
  first_step p t l =
      let code : List ℕ = line_code (carried (frame_held r true)) in
      let old : List ℕ = bits r.place.at r.bits in
      record {
        holds = rw p
            (record {
              within = omega arith;
              held = record { most = t.held.most; fits = t.held.fits; long = t.held.long; below = t.held.below; count = t.held.count; coded = t.held.coded; request = t.held.request };
              samples = rw (t.samples, bit_added r.place.at r.bits v (omega arith) small) (simp append_assoc);
            });
      }

module _ {longest : ℕ} (r : Reception) (c : Carried longest r) (a : Bool) where
  pub owes_held : owes r.winner (frame_held r a) ≡ acknowledges r
  unfolding owes acknowledges
  owes_held = rw (← (held_low r c.long c.below c.most c.count a), ← (held_length r c.long c.below c.most c.count a))

  pub held_request : reply_request (low (frame_held r a)) ≡ true → length (frame_held r a).bytes ≡ 0
  held_request = rw (← (held_low r c.long c.below c.most c.count a), ← (held_length r c.long c.below c.most c.count a)) c.request

unfoldable second_slot : Bool → ℕ
second_slot true = 0
second_slot false = 1

slots_are : (x v : ℕ) (a : Bool) → x % 2 ≡ 1 → v ≡ second_slot a → bits 1 x ++ (v ∷ []) ≡ acknowledge_slots a
unfolding bits acknowledge_slots second_slot
slots_are x v true o e = let d : x / 1 % 2 ≡ 1 = omega arith in rw (d, e)
slots_are x v false o e = let d : x / 1 % 2 ≡ 1 = omega arith in rw (d, e)

ones_added : (n one : ℕ) → replicate n one ++ (one ∷ []) ≡ replicate (n + 1) one
ones_added n one = replicate-append-replicate n 1 one

module _ {longest : ℕ} (r : Reception) (s : List ℕ) (v : ℕ) (small : v < 2) where
  second_step : InAcknowledge longest r s → r.place.at ≡ 1 → (a : Bool) → (bits 1 r.bits ++ (v ∷ []) ≡ acknowledge_slots a)
      → (a ≡ true → acknowledge_asked (get_or r.bytes 1 0) ≡ true) → (acknowledges r ≡ true → a ≡ true) → Invariant longest (entered r End) (s ++ (v ∷ []))
  unfolding InvariantIn entered at_place frame_held
  second_step t l a e asked drove =
      let c = t.held in
      record {
        holds =
            record {
              within = omega arith;
              held = record { most = c.most; fits = c.fits; long = c.long; below = c.below; count = c.count; coded = c.coded; request = c.request };
              acknowledged = a;
              valid = record {
                request = held_request r c a;
                asked = λ d. rw (← (held_low r c.long c.below c.most c.count a)) (asked d);
                driven = rw (owes_held r c a) drove;
              };
              samples = rw (t.samples, l, ← e) (simp (append_assoc, append-nil));
            };
      }

  acknowledge_step : r.place.phase ≡ Acknowledge → InAcknowledge longest r s → hear_acknowledge r v ≡ Follows → Invariant longest (follow_acknowledge r v) (s ++ (v ∷ []))
  unfolding hear_acknowledge acknowledge_wrong follow_acknowledge second_slot
  acknowledge_step p t = go (eqb r.place.at 0) refl
    where
      asked : Bool
      asked = acknowledge_asked (get_or r.bytes 1 0)

      judged : r.place.at ≡ 1 → (f z k d : Bool) → eqb (r.bits % 2) 0 ≡ f → eqb v 0 ≡ z → asked ≡ k → acknowledges r ≡ d
          → pick f true (pick z (not k) d) ≡ false → Invariant longest (entered r End) (s ++ (v ∷ []))
      judged l true z k d ef ez ek ed h = absurd (false≢true (sym h))
      judged l false true k d ef ez ek ed h =
          let o = eqb-false (r.bits % 2) 0 ef in
          let e = eqb-true v 0 ez in
          second_step t l true (slots_are r.bits v true (omega arith) e) (λ x. ek ∙ not-false k h) (λ x. refl)
      judged l false false k d ef ez ek ed h =
          let o = eqb-false (r.bits % 2) 0 ef in
          let w = eqb-false v 0 ez in
          let e : v ≡ 1 = omega arith in
          second_step t l false (slots_are r.bits v false (omega arith) e) (λ x. absurd (false≢true x)) (λ x. absurd (false≢true (sym h ∙ sym ed ∙ x)))

      go : (b : Bool) → eqb r.place.at 0 ≡ b → pick b Follows (pick (pick (eqb (r.bits % 2) 0) true (pick (eqb v 0) (not asked) (acknowledges r))) (Fault FV) Follows) ≡ Follows
          → Invariant longest (pick b (bit_taken r v) (entered r End)) (s ++ (v ∷ []))
      go true e h = first_step r s v small p t (eqb-true r.place.at 0 e)
      go false e h =
          let o = eqb-false r.place.at 0 e in
          let w = spared (pick (eqb (r.bits % 2) 0) true (pick (eqb v 0) (not asked) (acknowledges r))) Follows FV h in
          judged (omega (arith, t.within)) (eqb (r.bits % 2) 0) (eqb v 0) asked (acknowledges r) refl refl refl refl w.0

  -- ---- the end of the frame

  end_of_frame_step : r.place.phase ≡ End → InEnd longest r s → hear_end r.place.at v ≡ Follows → Invariant longest (follow_end r) (s ++ (v ∷ []))
  unfolding hear_end follow_end
  end_of_frame_step p t h = go (eqb v 0) refl (ltb r.place.at 7) refl h
    where
      on : v ≡ 1 → r.place.at < 7 → Invariant longest (moved r) (s ++ (v ∷ []))
      on o l =
          record {
            holds = unfold InvariantIn moved at_place frame_held in
                (let c = t.held in
                rw p
                (record {
                  within = omega arith;
                  held = record { most = c.most; fits = c.fits; long = c.long; below = c.below; count = c.count; coded = c.coded; request = c.request };
                  acknowledged = t.acknowledged;
                  valid = t.valid;
                  samples = rw (t.samples, o, ← (ones_added r.place.at 1)) (simp append_assoc);
                }));
          }

      go : (z : Bool) → eqb v 0 ≡ z → (b : Bool) → ltb r.place.at 7 ≡ b → pick z (Fault CV) (pick b Follows Good) ≡ Follows → Invariant longest (pick b (moved r) r) (s ++ (v ∷ []))
      go true e b d h = absurd (fault_follows h)
      go false e true d h = let w = eqb-false v 0 e in on (omega arith) (ltb-true r.place.at 7 d)
      go false e false d h = absurd (good_follows h)

-- ---- every phase

module _ (longest : ℕ) (r : Reception) (s : List ℕ) (v : ℕ) (small : v < 2) where
  step_in : (p : Phase) → r.place.phase ≡ p → InvariantIn longest p r s → hear_in p r longest v ≡ Follows → Invariant longest (follow_in p r v) (s ++ (v ∷ []))
  unfolding InvariantIn hear_in follow_in
  step_in Quiet e t h = absurd t
  step_in Start e t h = start_step r s v small e t h
  step_in Body e t h = body_step r s v small e t h
  step_in Acknowledge e t h = acknowledge_step r s v small e t h
  step_in End e t h = end_of_frame_step r s v small e t h

  pub step_invariant : Invariant longest r s → hear_frame r longest v ≡ Follows → Invariant longest (followed r v) (s ++ (v ∷ []))
  unfolding hear_frame followed
  step_invariant t h = step_in r.place.phase refl t.holds h

-- The reception tells the samples, sample by sample; and so what it judges is what the samples are.
--   invariant_begun, invariant_step, invariant_named == it goes on telling them        invariant_good, invariant_acknowledges == what a good frame and a driven acknowledge say of the samples
--   invariant_last, invariant_goes, invariant_fault, invariant_open == what the samples of a frame are judged as        invariant_command, invariant_kept, invariant_header == identifier and command
use Prim.Native.Nat.{ℕ, suc, ◌+◌, ◌*◌, ◌/◌, ◌%◌, ◌≤◌, ◌<◌}
use mathlib.Core.Bool.{Bool, true, false, not, false≢true}
use mathlib.Core.List.{List, [], ◌∷◌, ◌++◌, append_assoc}
use mathlib.Core.Path.{◌≡◌, refl, ap, ◌∙◌, sym, subst}
use native.Mathlib.Omega.{arith}
use borrow.Author.Tests.{eq-eqb, ne_eqb, lt-ltb, le-ltb, eqb-true, eqb-false, ltb-true, ltb-false}
use lib.Dec.{eqb, ltb}
use lib.ListN.{length, get_or, set, take, length-append}
use lib.Seq.{take_at, get_or-set_other}
use Rattle.line.specs.Bits.{pick, bits, Below}
use Rattle.line.specs.LineCode.{line_code}
use Rattle.line.specs.Frame.{Frame, Fits, covered, carried, start, end_of_data, end_of_frame, acknowledge_slots, slots, size}
use Rattle.line.specs.Layout.{in_five}
use Rattle.line.proofs.Laws.{bits_length, slots_length}
use Rattle.rules.specs.Definitions.Registers.{both, FV, CV, FCSE}
use Rattle.rules.specs.Definitions.Channels.{acknowledge_asked}
use Rattle.rules.specs.Definitions.Mailbox.{coded_bytes}
use Rattle.rules.specs.Definitions.Reception.{begun, quiet, at_place, under_way, is_under_way, is_body, in_body, behind, command_ended, moved, entered, bit_taken, with_nibble, bits_laid, data_ended, nibble_taken, follow_start, follow_body, follow_acknowledge, follow_end, follow_in, followed, winner_taken, data_count}
use Rattle.rules.specs.Definitions.Longest.{capacity, most_nibbles}
use Rattle.rules.specs.Definitions.Hearing.{whole, reply_request, check_received, check_due, hear_end_of_data, hear_second_half, hear_body, hear_start, fits, acknowledges, acknowledge_wrong, hear_acknowledge, hear_end, hear_in, hear_frame, acknowledge_level, receiver_in, receiver_level}
use Rattle.every_run.specs.Valid.{Valid, high, low}
use Rattle.rules.proofs.Logic.{left}
use Rattle.every_run.proofs.Receiving.Invariant.{frame_held, InBody, InAcknowledge, InEnd, InvariantIn, Invariant, Whole, Owed}
use Rattle.every_run.proofs.Receiving.Held.{held_high, held_low, held_length, held_fits}
use Rattle.every_run.proofs.Receiving.InvariantSteps.{fault_follows, fault_good, good_follows, step_invariant, owes_held, held_request}
use Rattle.every_run.proofs.Receiving.InvariantFrames.{start_long, body_long, acknowledge_long, end_long, held_slots, closing_length, body_opens, acknowledge_same, end_same, body_header}
use Rattle.every_run.proofs.Receiving.InvariantJudged.{start_goes, body_goes, acknowledge_goes, end_placed}
use Rattle.rules.specs.declared.Phase.{Phase}
use Rattle.rules.specs.declared.Phase.TheVariants.{Quiet, Start, Body, Acknowledge, End}
use Rattle.rules.specs.declared.Reception.{Reception}
use Rattle.rules.specs.declared.Hearing.{Hearing}
use Rattle.rules.specs.declared.Hearing.TheVariants.{Silent, Follows, Fault, Good}

pub invariant_begun : {longest : ℕ} → longest ≤ capacity → Invariant longest begun (0 ∷ [])
unfolding InvariantIn begun quiet at_place start
invariant_begun most = record { holds = record { most = most; some = omega arith; within = omega arith; nibbles = refl; bytes = refl; samples = refl } }

-- ---- what a judgement is not

-- a judgement with a frame under way: no silence, and good only at the end
unfoldable is_silent : Hearing → Bool
is_silent Silent = true
is_silent Follows = false
is_silent (Fault code) = false
is_silent Good = false

unfoldable is_good : Hearing → Bool
is_good Silent = false
is_good Follows = false
is_good (Fault code) = false
is_good Good = true

end_of_data_is : (f : Hearing → Bool) → f Follows ≡ false → ((code : ℕ) → f (Fault code) ≡ false) → (r : Reception) (longest : ℕ) → f (hear_end_of_data r longest) ≡ false
unfolding hear_end_of_data
end_of_data_is f e h r longest =
    left f (whole r.nibbles longest) _ (Fault CV) false
    (left f (both (reply_request (get_or r.bytes 1 0)) (ltb 0 (data_count r.nibbles))) (Fault CV) _ false (h CV)
    (left f (eqb (check_received r.bytes (data_count r.nibbles) (r.bits / 2)) (check_due r.bytes (data_count r.nibbles))) Follows (Fault FCSE) false e (h FCSE)))
    (h CV)

before_end : (f : Hearing → Bool) → f Follows ≡ false → ((code : ℕ) → f (Fault code) ≡ false) → (longest : ℕ) (r : Reception) (v : ℕ)
    → (f (hear_start r.place.at v) ≡ false) × (f (hear_body r longest v) ≡ false) × (f (hear_acknowledge r v) ≡ false)
unfolding hear_start hear_body hear_second_half hear_acknowledge
before_end f e h longest r v = (
  left f (eqb v (get_or start r.place.at 1)) Follows (Fault CV) false e (h CV),
  left f (ltb r.place.at 4) Follows _ false e
      (left f (eqb v (r.bits % 2)) _ _ false (left f (eqb v 0) (hear_end_of_data r longest) (Fault CV) false (end_of_data_is f e h r longest) (h CV)) (left f (ltb r.nibbles (most_nibbles longest)) Follows (Fault CV) false e (h CV))),
  left f (eqb r.place.at 0) Follows _ false e (left f (acknowledge_wrong (acknowledge_asked (get_or r.bytes 1 0)) (acknowledges r) (r.bits % 2) v) (Fault FV) Follows false (h FV) e),
)

not_good : {h : Hearing} → is_good h ≡ false → h ≡ Good → ⊥
unfolding is_good
not_good e d = false≢true (sym e ∙ ap is_good d)

not_silent : {h : Hearing} → is_silent h ≡ false → h ≡ Silent → ⊥
unfolding is_silent
not_silent e d = false≢true (sym e ∙ ap is_silent d)

module _ (longest : ℕ) (r : Reception) (v : ℕ) where
  body_not_good : (hear_start r.place.at v ≡ Good → ⊥) × (hear_body r longest v ≡ Good → ⊥) × (hear_acknowledge r v ≡ Good → ⊥)
  unfolding is_good
  body_not_good =
      let k = before_end is_good refl (λ code. refl) longest r v in
      (not_good k.0, not_good k.1, not_good k.2)

  silent_in : (p : Phase) (s : List ℕ) → InvariantIn longest p r s → is_silent (hear_in p r longest v) ≡ false
  unfolding InvariantIn hear_in is_silent hear_end
  silent_in Quiet s t = absurd t
  silent_in Start s t = (before_end is_silent refl (λ code. refl) longest r v).0
  silent_in Body s t = (before_end is_silent refl (λ code. refl) longest r v).1
  silent_in Acknowledge s t = (before_end is_silent refl (λ code. refl) longest r v).2
  silent_in End s t = left is_silent (eqb v 0) (Fault CV) _ false refl (left is_silent (ltb r.place.at 7) Follows Good false refl refl)

-- ---- by phase

one_bit : (b : ℕ) → bits 1 b ≡ (b % 2) ∷ []
unfolding bits
one_bit b = let e : b / 1 % 2 ≡ b % 2 = omega arith in rw e

module _ (longest : ℕ) (r : Reception) (s : List ℕ) where
  under_way_in : (p : Phase) → InvariantIn longest p r s → is_under_way p ≡ true
  unfolding InvariantIn is_under_way
  under_way_in Quiet t = absurd t
  under_way_in Start t = refl
  under_way_in Body t = refl
  under_way_in Acknowledge t = refl
  under_way_in End t = refl

  winner_in : (p : Phase) → InvariantIn longest p r s → (v : ℕ) → (follow_in p r v).winner ≡ r.winner
  unfolding InvariantIn follow_in follow_start follow_body follow_acknowledge follow_end moved entered bit_taken nibble_taken data_ended bits_laid
  winner_in Quiet t v = absurd t
  winner_in Start t v = left (λ (x : Reception). x.winner) (ltb r.place.at 9) (moved r) (entered r Body) r.winner refl refl
  winner_in Body t v =
      left (λ (x : Reception). x.winner) (ltb r.place.at 4) (bit_taken r v) _ r.winner refl
      (left (λ (x : Reception). x.winner) (eqb v (r.bits % 2)) (data_ended r) (nibble_taken r) r.winner refl refl)
  winner_in Acknowledge t v = left (λ (x : Reception). x.winner) (eqb r.place.at 0) (bit_taken r v) (entered r End) r.winner refl refl
  winner_in End t v = left (λ (x : Reception). x.winner) (ltb r.place.at 7) (moved r) r r.winner refl refl

  command_in : (p : Phase) → InvariantIn longest p r s → both (is_body p) (both (eqb r.nibbles 4) (eqb r.place.at 0)) ≡ eqb (length s) 30
  unfolding InvariantIn is_body
  command_in Quiet t = absurd t
  command_in Start t =
      sym (ne_eqb (length s) 30 (λ e. omega (arith, start_long r s t, t.within)))
  command_in Body t = go (eqb r.place.at 0) refl (eqb r.nibbles 4) refl
    where
      elsewhere : (r.place.at ≡ 0 → ⊥) → false ≡ eqb (length s) 30
      elsewhere x = let l = body_long r s t in let w = t.within in sym (ne_eqb (length s) 30 (λ e. x (omega arith)))

      go : (a : Bool) → eqb r.place.at 0 ≡ a → (b : Bool) → eqb r.nibbles 4 ≡ b → both b a ≡ eqb (length s) 30
      go true p true q =
          let l = body_long r s t in
          let x = eqb-true r.place.at 0 p in
          let y = eqb-true r.nibbles 4 q in
          sym (eq-eqb (length s) 30 (omega arith))
      go true p false q =
          let l = body_long r s t in
          let x = eqb-true r.place.at 0 p in
          let y = eqb-false r.nibbles 4 q in
          sym (ne_eqb (length s) 30 (λ e. y (omega arith)))
      go false p true q = elsewhere (eqb-false r.place.at 0 p)
      go false p false q = elsewhere (eqb-false r.place.at 0 p)
  command_in Acknowledge t =
      sym (ne_eqb (length s) 30 (λ e. omega (arith, acknowledge_long r s t)))
  command_in End t =
      sym (ne_eqb (length s) 30 (λ e. omega (arith, end_long r s t)))

  named_in : (p : Phase) → r.place.phase ≡ p → InvariantIn longest p r s → is_body p ≡ true → (m : List ℕ) → Invariant longest (winner_taken r m) s
  unfolding is_body
  named_in Quiet e t b m = absurd (false≢true b)
  named_in Start e t b m = absurd (false≢true b)
  named_in Body e t b m =
      record { holds = unfold InvariantIn winner_taken in rw e (record { most = t.most; within = t.within; nibbles = t.nibbles; long = t.long; below = t.below; padded = t.padded; samples = t.samples }) }
  named_in Acknowledge e t b m = absurd (false≢true b)
  named_in End e t b m = absurd (false≢true b)

  kept : (k : ℕ) → k < 2 → 4 ≤ r.nibbles → r.nibbles ≤ most_nibbles capacity → (x : ℕ) → get_or (with_nibble r.bytes r.nibbles x) k 0 ≡ get_or r.bytes k 0
  unfolding with_nibble
  kept k h a b x =
      let i : ℕ = r.nibbles / 2 % 34 in
      left (λ (y : List ℕ). get_or y k 0) (eqb (r.nibbles % 2) 0) (set r.bytes i (x % 16 * 16)) (set r.bytes i (get_or r.bytes i 0 / 16 * 16 + x % 16)) (get_or r.bytes k 0)
      (get_or-set_other r.bytes i k (x % 16 * 16) 0 (λ e. omega arith)) (get_or-set_other r.bytes i k (get_or r.bytes i 0 / 16 * 16 + x % 16) 0 (λ e. omega arith))

  kept_in : (p : Phase) → InvariantIn longest p r s → 30 ≤ length s → (v k : ℕ) → k < 2 → get_or (follow_in p r v).bytes k 0 ≡ get_or r.bytes k 0
  unfolding InvariantIn follow_in follow_start follow_body follow_acknowledge follow_end moved entered bit_taken nibble_taken data_ended bits_laid
  kept_in Quiet t h v k l = absurd t
  kept_in Start t h v k l = left (λ (x : Reception). get_or x.bytes k 0) (ltb r.place.at 9) (moved r) (entered r Body) (get_or r.bytes k 0) refl refl
  kept_in Body t h v k l =
      let n = body_long r s t in
      let w = t.within in
      left (λ (x : Reception). get_or x.bytes k 0) (ltb r.place.at 4) (bit_taken r v) _ (get_or r.bytes k 0) refl
      (left (λ (x : Reception). get_or x.bytes k 0) (eqb v (r.bits % 2)) (data_ended r) (nibble_taken r) (get_or r.bytes k 0) (kept k l (omega arith) (omega (arith, t.most, t.nibbles)) r.bits) (kept k l (omega arith) (omega (arith, t.most, t.nibbles)) r.bits))
  kept_in Acknowledge t h v k l = left (λ (x : Reception). get_or x.bytes k 0) (eqb r.place.at 0) (bit_taken r v) (entered r End) (get_or r.bytes k 0) refl refl
  kept_in End t h v k l = left (λ (x : Reception). get_or x.bytes k 0) (ltb r.place.at 7) (moved r) r (get_or r.bytes k 0) refl refl

  header_in : (p : Phase) → InvariantIn longest p r s → 30 ≤ length s → (f : Frame) → Fits longest f → (x : List ℕ) → s ++ x ≡ slots f → (get_or r.bytes 0 0 ≡ high f) × (get_or r.bytes 1 0 ≡ low f)
  unfolding InvariantIn
  header_in Quiet t h f fits x e = absurd t
  header_in Start t h f fits x e = absurd (omega (arith, start_long r s t, t.within))
  header_in Body t h f fits x e =
      let n = body_long r s t in
      let w = t.within in
      body_header f fits r s t (omega arith) x e
  header_in Acknowledge t h f fits x e = let k = acknowledge_same f fits r s t x e in (k.high_is, k.low_is)
  header_in End t h f fits x e = let k = end_same f fits r s t x e in (k.high_is, k.low_is)

  -- ---- a good frame

  slots_held : (t : InEnd longest r s) → r.place.at ≡ 7 → s ++ (1 ∷ []) ≡ slots (frame_held r t.acknowledged)
  unfolding slots frame_held carried covered end_of_frame
  slots_held t l = rw (t.samples, l) (simp append_assoc)

  whole_held : (t : InEnd longest r s) → r.place.at ≡ 7 → Whole longest r (s ++ (1 ∷ []))
  whole_held t l =
      let c = t.held in
      record {
        frame = frame_held r t.acknowledged;
        fits = held_fits r c.long c.below c.most c.count t.acknowledged;
        slots_are = slots_held t l;
        valid = t.valid;
        high_is = held_high r c.long c.below c.most c.count t.acknowledged;
        low_is = held_low r c.long c.below c.most c.count t.acknowledged;
        count_is = held_length r c.long c.below c.most c.count t.acknowledged;
        coded_is = unfold frame_held coded_bytes covered in c.coded;
      }

  good_in : (p : Phase) → InvariantIn longest p r s → (v : ℕ) → v < 2 → hear_in p r longest v ≡ Good → Whole longest r (s ++ (v ∷ []))
  unfolding InvariantIn hear_in
  good_in Quiet t v h e = absurd t
  good_in Start t v h e = absurd ((body_not_good longest r v).0 e)
  good_in Body t v h e = absurd ((body_not_good longest r v).1 e)
  good_in Acknowledge t v h e = absurd ((body_not_good longest r v).2 e)
  good_in End t v h e = unfold hear_end in go (eqb v 0) refl (ltb r.place.at 7) refl e
    where
      go : (z : Bool) → eqb v 0 ≡ z → (b : Bool) → ltb r.place.at 7 ≡ b → pick z (Fault CV) (pick b Follows Good) ≡ Good → Whole longest r (s ++ (v ∷ []))
      go true p b q d = absurd (fault_good d)
      go false p true q d = absurd (good_follows (sym d))
      go false p false q d =
          let x = eqb-false v 0 p in
          let y = ltb-false r.place.at 7 q in
          let w = t.within in
          let o : v ≡ 1 = omega arith in
          rw o (whole_held t (omega arith))

  -- ---- the acknowledge that the model drives

  acknowledges_asked : acknowledges r ≡ true → acknowledge_asked (get_or r.bytes 1 0) ≡ true
  unfolding acknowledges
  acknowledges_asked e = go r.winner.matched (fits r.winner (data_count r.nibbles)) (acknowledge_asked (get_or r.bytes 1 0)) e
    where
      go : (a b c : Bool) → both a (both b (both c (not r.winner.no_acknowledge))) ≡ true → c ≡ true
      go true true true e = refl
      go true true false e = absurd (false≢true e)
      go true false c e = absurd (false≢true e)
      go false b c e = absurd (false≢true e)

  before_acknowledge : (t : InAcknowledge longest r s) → r.place.at ≡ 1 → s ≡ take (50 + 10 * length (frame_held r true).bytes) (slots (frame_held r true)) ++ ((r.bits % 2) ∷ [])
  unfolding slots
  before_acknowledge t l =
      let c = t.held in
      let f : Frame = frame_held r true in
      let code : List ℕ = line_code (carried f) in
      let p : List ℕ = start ++ (code ++ end_of_data) in
      let n = held_length r c.long c.below c.most c.count true in
      let k : length p ≡ 50 + 10 * length f.bytes = length-append start (code ++ end_of_data) ∙ rw (length-append code end_of_data, held_slots r c) (unfold start end_of_data in omega arith) in
      let q : start ++ (code ++ (end_of_data ++ (acknowledge_slots f.acknowledge ++ end_of_frame))) ≡ p ++ (acknowledge_slots f.acknowledge ++ end_of_frame) = simp append_assoc in
      rw (q, take_at p (acknowledge_slots f.acknowledge ++ end_of_frame) (50 + 10 * length f.bytes) k, t.samples, l, one_bit r.bits) (simp append_assoc)

  owed_held : InAcknowledge longest r s → r.place.at ≡ 1 → acknowledges r ≡ true → Owed longest r s
  owed_held t l e =
      let c = t.held in
      record {
        frame = frame_held r true;
        fits = c.fits;
        valid = record {
          request = held_request r c true;
          asked = λ d. rw (← (held_low r c.long c.below c.most c.count true)) (acknowledges_asked e);
          driven = λ d. unfold frame_held in refl;
        };
        owed = owes_held r c true ∙ e;
        high_is = held_high r c.long c.below c.most c.count true;
        low_is = held_low r c.long c.below c.most c.count true;
        first = r.bits % 2;
        samples = before_acknowledge t l;
      }

  acknowledges_in : (p : Phase) → InvariantIn longest p r s → receiver_in p r ≡ 0 → Owed longest r s
  unfolding InvariantIn receiver_in
  acknowledges_in Quiet t e = absurd t
  acknowledges_in Start t e = absurd (omega arith)
  acknowledges_in Body t e = absurd (omega arith)
  acknowledges_in Acknowledge t e = unfold acknowledge_level in go (eqb r.place.at 0) refl (acknowledges r) refl e
    where
      go : (a : Bool) → eqb r.place.at 0 ≡ a → (b : Bool) → acknowledges r ≡ b → pick {A = ℕ} a 1 (pick b 0 1) ≡ 0 → Owed longest r s
      go true p b q d = absurd (omega arith)
      go false p true q d = let x = eqb-false r.place.at 0 p in let w = t.within in owed_held t (omega arith) q
      go false p false q d = absurd (omega arith)
  acknowledges_in End t e = absurd (omega arith)

  -- ---- the samples of a frame

  last_in : (p : Phase) → InvariantIn longest p r s → (f : Frame) → Fits longest f → (v : ℕ) → s ++ (v ∷ []) ≡ slots f → hear_in p r longest v ≡ Good
  unfolding InvariantIn hear_in
  last_in Quiet t f fits v e = absurd t
  last_in Start t f fits v e =
      let k : length s + 1 ≡ 60 + 10 * length f.bytes = sym (length-append s (v ∷ [])) ∙ ap length e ∙ slots_length f ∙ unfold size in refl in
      let l = start_long r s t in
      let w = t.within in
      absurd (omega arith)
  last_in Body t f fits v e =
      let k = body_opens f r s t (v ∷ []) e in
      let y : List ℕ = bits r.place.at r.bits in
      let w = t.within in
      let l : r.place.at + 1 ≡ length (line_code k.rest) + suc (suc 10) = rw (length-append y, bits_length, length-append (line_code k.rest), closing_length) at (ap length k.slots_are) in
      absurd (omega arith)
  last_in Acknowledge t f fits v e =
      let k = acknowledge_same f fits r s t (v ∷ []) e in
      let y : List ℕ = bits r.place.at r.bits in
      let w = t.within in
      let l : r.place.at + 1 ≡ 10 = rw (length-append y, bits_length, closing_length) at (ap length k.rest) in
      absurd (omega arith)
  last_in End t f fits v e =
      let k = end_placed f fits r s t v [] e in
      unfold hear_end in rw (k.0, le-ltb r.place.at 7 (omega (arith, k.1))) refl

  goes_in : (p : Phase) → InvariantIn longest p r s → (f : Frame) → Fits longest f → Valid r.winner f → (v x : ℕ) (rest : List ℕ) → s ++ (v ∷ x ∷ rest) ≡ slots f → hear_in p r longest v ≡ Follows
  unfolding InvariantIn hear_in
  goes_in Quiet t f fits valid v x rest e = absurd t
  goes_in Start t f fits valid v x rest e = start_goes f r s t v (x ∷ rest) e
  goes_in Body t f fits valid v x rest e = body_goes f fits valid.request r s t v (x ∷ rest) e
  goes_in Acknowledge t f fits valid v x rest e = acknowledge_goes f fits r valid s t v (x ∷ rest) e
  goes_in End t f fits valid v x rest e =
      let k = end_placed f fits r s t v (x ∷ rest) e in
      unfold hear_end in rw (k.0, lt-ltb r.place.at 7 (omega (arith, k.1))) refl

  open_in : (p : Phase) → InvariantIn longest p r s → (f : Frame) → Fits longest f → (rest : List ℕ) → s ++ rest ≡ slots f → 10 ≤ length s → length s < 50 + 10 * length f.bytes → in_five (length s) < 4 → (v : ℕ) → hear_in p r longest v ≡ Follows
  unfolding InvariantIn hear_in in_five
  open_in Quiet t f fits rest e a b c v = absurd t
  open_in Start t f fits rest e a b c v = absurd (omega (arith, start_long r s t, t.within))
  open_in Body t f fits rest e a b c v =
      let l = body_long r s t in
      let w = t.within in
      unfold hear_body in rw (lt-ltb r.place.at 4 (omega arith)) refl
  open_in Acknowledge t f fits rest e a b c v =
      let k = acknowledge_same f fits r s t rest e in
      absurd (omega (arith, acknowledge_long r s t, k.count))
  open_in End t f fits rest e a b c v =
      let k = end_same f fits r s t rest e in
      absurd (omega (arith, end_long r s t, k.count))

-- ---- how far the frame has come

end_within : (at : ℕ) (a b : Bool) → ltb at 7 ≡ b → pick a (Fault CV) (pick b Follows Good) ≡ Follows → at < 7
end_within at true b d e = absurd (fault_follows e)
end_within at false true d e = ltb-true at 7 d
end_within at false false d e = absurd (good_follows e)

module _ (longest : ℕ) (r : Reception) (s : List ℕ) where
  as_body : InvariantIn longest Body r s → InBody longest r s
  unfolding InvariantIn
  as_body t = t

  short_in : (v : ℕ) (p : Phase) → InvariantIn longest p r s → hear_in p r longest v ≡ Follows → length s + 1 < size longest
  unfolding InvariantIn hear_in hear_end size
  short_in v Quiet t e = absurd t
  short_in v Start t e = omega (arith, start_long r s t, t.within)
  short_in v Body t e = omega (arith, body_long r s t, t.within, t.nibbles)
  short_in v Acknowledge t e = omega (arith, acknowledge_long r s t, t.within, t.held.count)
  short_in v End t e = let i = end_within r.place.at (eqb v 0) (ltb r.place.at 7) refl e in omega (arith, end_long r s t, t.held.count)

-- ---- the laws

module _ {longest : ℕ} (r : Reception) (s : List ℕ) (t : Invariant longest r s) where
  invariant_in : InvariantIn longest r.place.phase r s
  invariant_in = t.holds

  pub invariant_under_way : under_way r.place ≡ true
  unfolding under_way
  invariant_under_way = under_way_in longest r s r.place.phase invariant_in

  pub invariant_winner : (v : ℕ) → (followed r v).winner ≡ r.winner
  unfolding followed
  invariant_winner v = winner_in longest r s r.place.phase invariant_in v

  -- the last command slot is the thirtieth
  pub invariant_command : command_ended r ≡ eqb (length s) 30
  unfolding command_ended behind in_body
  invariant_command = command_in longest r s r.place.phase invariant_in

  pub invariant_named : command_ended r ≡ true → (m : List ℕ) → Invariant longest (winner_taken r m) s
  unfolding command_ended behind in_body
  invariant_named e m = go (is_body r.place.phase) refl e
    where
      go : (a : Bool) → is_body r.place.phase ≡ a → both a (both (eqb r.nibbles 4) (eqb r.place.at 0)) ≡ true → Invariant longest (winner_taken r m) s
      go true b d = named_in longest r s r.place.phase refl invariant_in b m
      go false b d = absurd (false≢true d)

  -- from then on identifier and command stay
  pub invariant_kept : 30 ≤ length s → (v : ℕ) → (get_or (followed r v).bytes 0 0 ≡ get_or r.bytes 0 0) × (get_or (followed r v).bytes 1 0 ≡ get_or r.bytes 1 0)
  unfolding followed
  invariant_kept h v = (kept_in longest r s r.place.phase invariant_in h v 0 (omega arith), kept_in longest r s r.place.phase invariant_in h v 1 (omega arith))

  -- and are those of every frame that the samples open
  pub invariant_header : 30 ≤ length s → (f : Frame) → Fits longest f → (rest : List ℕ) → s ++ rest ≡ slots f → (get_or r.bytes 0 0 ≡ high f) × (get_or r.bytes 1 0 ≡ low f)
  invariant_header h f fits rest e = header_in longest r s r.place.phase invariant_in h f fits rest e

  pub invariant_step : (v : ℕ) → v < 2 → hear_frame r longest v ≡ Follows → Invariant longest (followed r v) (s ++ (v ∷ []))
  invariant_step v h e = step_invariant longest r s v h t e

  pub invariant_good : (v : ℕ) → v < 2 → hear_frame r longest v ≡ Good → Whole longest r (s ++ (v ∷ []))
  unfolding hear_frame
  invariant_good v h e = good_in longest r s r.place.phase invariant_in v h e

  pub invariant_acknowledges : receiver_level r ≡ 0 → Owed longest r s
  unfolding receiver_level
  invariant_acknowledges e = acknowledges_in longest r s r.place.phase invariant_in e

  pub invariant_silent : (v : ℕ) → hear_frame r longest v ≡ Silent → ⊥
  unfolding hear_frame
  invariant_silent v e = not_silent (silent_in longest r v r.place.phase s invariant_in) e

  pub invariant_last : (f : Frame) → Fits longest f → (v : ℕ) → s ++ (v ∷ []) ≡ slots f → hear_frame r longest v ≡ Good
  unfolding hear_frame
  invariant_last f fits v e = last_in longest r s r.place.phase invariant_in f fits v e

  -- a slot of a valid frame that is not its last
  pub invariant_goes : (f : Frame) → Fits longest f → Valid r.winner f → (v x : ℕ) (rest : List ℕ) → s ++ (v ∷ x ∷ rest) ≡ slots f → hear_frame r longest v ≡ Follows
  unfolding hear_frame
  invariant_goes f fits valid v x rest e = goes_in longest r s r.place.phase invariant_in f fits valid v x rest e

  pub invariant_fault : (f : Frame) → Fits longest f → Valid r.winner f → (v code : ℕ) (rest : List ℕ) → s ++ (v ∷ rest) ≡ slots f → hear_frame r longest v ≡ Fault code → ⊥
  invariant_fault f fits valid v code [] e d = fault_good (sym d ∙ invariant_last f fits v e)
  invariant_fault f fits valid v code (x ∷ rest) e d = fault_follows (sym d ∙ invariant_goes f fits valid v x rest e)

  -- a plain bit or first half of identifier, command, data or check follows whatever it is sampled as
  pub invariant_open : (f : Frame) → Fits longest f → (rest : List ℕ) → s ++ rest ≡ slots f → 10 ≤ length s → length s < 50 + 10 * length f.bytes → in_five (length s) < 4 → (v : ℕ) → hear_frame r longest v ≡ Follows
  unfolding hear_frame
  invariant_open f fits rest e a b c v = open_in longest r s r.place.phase invariant_in f fits rest e a b c v

  -- between identifier and end of data the place tells how many samples there are
  pub invariant_body : r.place.phase ≡ Body → length s ≡ 10 + 5 * r.nibbles + r.place.at
  invariant_body e = body_long r s (as_body longest r s (subst (λ (p : Phase). InvariantIn longest p r s) e invariant_in))

  -- a slot that follows is not the last of the longest frame
  pub invariant_short : (v : ℕ) → hear_frame r longest v ≡ Follows → length s + 1 < size longest
  unfolding hear_frame
  invariant_short v e = short_in longest r s v r.place.phase invariant_in e

  pub invariant_below : r.place.phase ≡ Body → Below 256 r.bytes
  invariant_below e = (as_body longest r s (subst (λ (p : Phase). InvariantIn longest p r s) e invariant_in)).below

-- The winner of a followed frame: it is named where a slot enters the body or closes a nibble, with four nibbles whole.
use Prim.Native.Nat.{ℕ, ◌+◌, ◌%◌}
use mathlib.Core.Bool.{Bool, true, false}
use mathlib.Core.List.{List}
use mathlib.Core.Path.{◌≡◌, refl, ap}
use native.Mathlib.Omega.{arith}
use lib.Dec.{eqb, ltb}
use borrow.Author.Tests.{ne_eqb, ltb-false}
use Rattle.line.specs.Bits.{pick}
use Rattle.rules.specs.Definitions.Registers.{both}
use Rattle.rules.specs.Definitions.Reception.{in_body, is_body, behind, command_ended, at_place, moved, entered, bit_taken, more_nibbles, nibble_taken, data_ended, begun, follow_start, follow_body, follow_acknowledge, follow_end, winner_taken}
use Rattle.rules.specs.Definitions.Hearing.{receiver_in}
use Rattle.rules.specs.declared.Phase.TheVariants.{Quiet, Start, Body, End}
use Rattle.rules.specs.declared.Reception.{Reception}
use Rattle.rules.proofs.Logic.{both_false}
use Rattle.row.specs.Row.{phase_of}
use Rattle.ordinary.specs.Ways.{named}

both_right : (a : Bool) → both a true ≡ a
both_right true = refl
both_right false = refl

-- between two slots of a phase no command has just ended
inside : (r : Reception) → eqb r.place.at 0 ≡ false → command_ended r ≡ false
unfolding command_ended behind
inside r e = rw (e, both_false (eqb r.nibbles 4)) (both_false (in_body r.place))

outside : (r : Reception) → is_body r.place.phase ≡ false → command_ended r ≡ false
unfolding command_ended behind in_body
outside r e = rw e

unnamed : (m : List ℕ) (r : Reception) → command_ended r ≡ false → named m r ≡ r
unfolding named
unnamed m r e = rw e

next_slot : (r : Reception) → command_ended (moved r) ≡ false
next_slot r = inside (moved r) (unfold moved at_place in ne_eqb (r.place.at + 1) 0 (λ q. absurd (omega (arith, q))))

next_bit : (r : Reception) (v : ℕ) → command_ended (bit_taken r v) ≡ false
next_bit r v = inside (bit_taken r v) (unfold bit_taken moved at_place in ne_eqb (r.place.at + 1) 0 (λ q. absurd (omega (arith, q))))

entered_body : (r : Reception) → command_ended (entered r Body) ≡ eqb r.nibbles 4
unfolding command_ended behind in_body is_body entered at_place
entered_body r = both_right (eqb r.nibbles 4)

pub start_moves : (m : List ℕ) (r : Reception) → ltb r.place.at 9 ≡ true → named m (follow_start r) ≡ moved r
unfolding follow_start
start_moves m r e = rw e (unnamed m (moved r) (next_slot r))

pub start_enters : (m : List ℕ) (r : Reception) → ltb r.place.at 9 ≡ false → named m (follow_start r) ≡ pick (eqb r.nibbles 4) (winner_taken (entered r Body) m) (entered r Body)
unfolding follow_start named
start_enters m r e = rw e (ap (λ (b : Bool). pick b (winner_taken (entered r Body) m) (entered r Body)) (entered_body r))

pub nibble_named : (m : List ℕ) (r : Reception) → named m (nibble_taken r) ≡ pick (eqb (more_nibbles r.nibbles) 4) (winner_taken (nibble_taken r) m) (nibble_taken r)
unfolding named
nibble_named m r = ap (λ (b : Bool). pick b (winner_taken (nibble_taken r) m) (nibble_taken r)) (ended r) where
  ended : (r : Reception) → command_ended (nibble_taken r) ≡ eqb (more_nibbles r.nibbles) 4
  ended r = unfold command_ended behind in_body is_body nibble_taken entered at_place in both_right (eqb (more_nibbles r.nibbles) 4)

pub body_bit : (m : List ℕ) (r : Reception) (v : ℕ) → ltb r.place.at 4 ≡ true → named m (follow_body r v) ≡ bit_taken r v
unfolding follow_body
body_bit m r v e = rw e (unnamed m (bit_taken r v) (next_bit r v))

pub body_ends : (m : List ℕ) (r : Reception) (v : ℕ) → ltb r.place.at 4 ≡ false → eqb v (r.bits % 2) ≡ true → named m (follow_body r v) ≡ data_ended r
unfolding follow_body
body_ends m r v e d = rw (e, d) (unnamed m (data_ended r) (outside (data_ended r) (unfold data_ended entered at_place is_body in refl)))

pub body_nibble : (m : List ℕ) (r : Reception) (v : ℕ) → ltb r.place.at 4 ≡ false → eqb v (r.bits % 2) ≡ false → named m (follow_body r v) ≡ named m (nibble_taken r)
unfolding follow_body
body_nibble m r v e d = rw (e, d)

pub acknowledge_named : (m : List ℕ) (r : Reception) (v : ℕ) → named m (follow_acknowledge r v) ≡ follow_acknowledge r v
unfolding follow_acknowledge
acknowledge_named m r v = go (eqb r.place.at 0) where
  go : (b : Bool) → named m (pick b (bit_taken r v) (entered r End)) ≡ pick b (bit_taken r v) (entered r End)
  go true = unnamed m (bit_taken r v) (next_bit r v)
  go false = unnamed m (entered r End) (outside (entered r End) (unfold entered at_place is_body in refl))

pub end_named : (m : List ℕ) (r : Reception) → named m (follow_end r) ≡ follow_end r
unfolding follow_end
end_named m r = go (ltb r.place.at 7) refl where
  go : (b : Bool) → ltb r.place.at 7 ≡ b → named m (pick b (moved r) r) ≡ pick b (moved r) r
  go true e = unnamed m (moved r) (next_slot r)
  go false e = let u = ltb-false r.place.at 7 e in unnamed m r (inside r (ne_eqb r.place.at 0 (λ q. absurd (omega (arith, u, q)))))

pub begun_named : (m : List ℕ) → named m begun ≡ begun
begun_named m = unnamed m begun (outside begun (unfold begun at_place is_body in refl))

-- ---- the phase of a byte

pub end_phase : (b : ℕ) → (b ≡ 0 → ⊥) → (b ≡ 1 → ⊥) → (b ≡ 2 → ⊥) → (b ≡ 3 → ⊥) → phase_of b ≡ End
end_phase b h i j k = rw (ne_eqb b 0 h, ne_eqb b 1 i, ne_eqb b 2 j, ne_eqb b 3 k)

pub recessive : (b : ℕ) (r : Reception) → (b ≡ 3 → ⊥) → 1 ≡ receiver_in (phase_of b) r
unfolding receiver_in
recessive b r h = rw (ne_eqb b 3 h) (go (eqb b 0) (eqb b 1) (eqb b 2)) where
  go : (x y z : Bool) → 1 ≡ receiver_in (pick x Quiet (pick y Start (pick z Body End))) r
  go true y z = refl
  go false true z = refl
  go false false true = refl
  go false false false = refl

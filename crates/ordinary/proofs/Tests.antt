-- What the tests of the code say of the state that a row says.
use Prim.Native.Nat.{ℕ, ◌+◌, ◌-◌, ◌*◌, ◌%◌, ◌/◌, ◌<◌, ◌≤◌}
use mathlib.Core.Bool.{Bool, true, false, false≢true, not, ◌&&◌, ◌||◌}
use mathlib.Core.List.{List}
use mathlib.Core.Path.{◌≡◌, refl, ap, ◌∙◌}
use native.Mathlib.Omega.{arith}
use lib.Dec.{eqb, ltb, leb}
use lib.ListN.{get_or}
use borrow.Author.Tests.{eq-eqb, ne_eqb, eqb-false, ltb-true, ltb-false, le-leb, lt-leb, lt-ltb}
use Rattle.line.specs.Bits.{pick, bits}
use Rattle.line.specs.LineCode.{pattern, line_code}
use Rattle.line.specs.Frame.{size}
use Rattle.rules.specs.Definitions.Attempt.{is_serving, is_waiting, is_driving, drives_frame, is_answering, is_answered, due, judge_slot, level_at}
use Rattle.rules.specs.Definitions.Reception.{is_under_way}
use Rattle.rules.specs.Definitions.Service.{stopped}
use Rattle.rules.specs.declared.Stage.TheVariants.{Resting, Waiting, Opening, Sending, Receiving}
use Rattle.std.specs.Prelude.{Option, Some, None}
use Rattle.rules.specs.declared.Ending.{Ending}
use Rattle.rules.specs.declared.Ending.TheVariants.{Going, Sent, Exhausted, Aborted, Rearbitrated, Fulfilled}
use Rattle.rules.specs.declared.Verdict.TheVariants.{Goes}
use Rattle.rules.specs.declared.Coded.{Coded}
use Rattle.rules.specs.declared.Phase.TheVariants.{Start, Body, Acknowledge, End}
use Rattle.judging.specs.Ordinary.{goes}
use Rattle.row.specs.Row.{byte_at, phase_of, stage_of, core_by, core_of}
use Rattle.ordinary.specs.Ways.{is_nothing, due_from, Listens}

-- the stage is that of no service where its byte is 0
pub rests : (b : ℕ) → not (is_serving (stage_of b)) ≡ eqb b 0
unfolding is_serving
rests b = go (eqb b 0) (eqb b 1) (eqb b 2) (eqb b 3) where
  open_stage : (x y z : Bool) → not (is_serving (pick x Waiting (pick y Opening (pick z Sending Receiving)))) ≡ false
  open_stage true y z = refl
  open_stage false true z = refl
  open_stage false false true = refl
  open_stage false false false = refl

  go : (a x y z : Bool) → not (is_serving (pick a Resting (pick x Waiting (pick y Opening (pick z Sending Receiving))))) ≡ a
  go true x y z = refl
  go false x y z = open_stage x y z

-- a start goes on, or its last slot with no service
pub either : (a b : Bool) → a || b ≡ pick a true b
either true b = refl
either false b = refl

le_not_lt : (n e : ℕ) → leb e n ≡ not (ltb n e)
le_not_lt n e = go (ltb n e) refl where
  go : (b : Bool) → ltb n e ≡ b → leb e n ≡ not b
  go true d = let u = ltb-true n e d in lt-leb e n (omega (arith, u))
  go false d = let u = ltb-false n e d in le-leb e n (omega (arith, u))

-- a service between attempts
pub goes_waiting : (n e : ℕ) (a r : Bool) → leb e n && (not a && not r) ≡ goes (pick (ltb n e) Exhausted (pick a Aborted (pick r Rearbitrated Going)))
unfolding goes
goes_waiting n e a r = rw (le_not_lt n e) (go (ltb n e) a r) where
  go : (x a r : Bool) → not x && (not a && not r) ≡ goes (pick x Exhausted (pick a Aborted (pick r Rearbitrated Going)))
  go true a r = refl
  go false true r = refl
  go false false true = refl
  go false false false = refl

-- the slots of a nibble
pub slot_0 : (n : ℕ) → n < 16 → n / 8 % 2 ≡ get_or (pattern (n % 16)) 0 0
unfolding pattern line_code bits
slot_0 n h = omega (arith, h)

pub slot_1 : (n : ℕ) → n < 16 → n / 4 % 2 ≡ get_or (pattern (n % 16)) 1 0
unfolding pattern line_code bits
slot_1 n h = omega (arith, h)

pub slot_2 : (n : ℕ) → n < 16 → n / 2 % 2 ≡ get_or (pattern (n % 16)) 2 0
unfolding pattern line_code bits
slot_2 n h = omega (arith, h)

pub slot_3 : (n : ℕ) → n < 16 → n % 2 ≡ get_or (pattern (n % 16)) 3 0
unfolding pattern line_code bits
slot_3 n h = omega (arith, h)

pub slot_4 : (n : ℕ) → n < 16 → 1 - n % 2 ≡ get_or (pattern (n % 16)) 4 0
unfolding pattern line_code bits
slot_4 n h = omega (arith, h)

-- the first slot of a nibble is its high bit
pub slot_first : (n : ℕ) → n < 16 → n / 8 ≡ get_or (pattern (n % 16)) 0 0
unfolding pattern line_code bits
slot_first n h = omega (arith, h)

-- a service that does not drive a frame and whose byte is not that of waiting does not wait
pub listening : (b : ℕ) → (b ≡ 1 → ⊥) → is_driving (stage_of b) ≡ false → is_waiting (stage_of b) ≡ false
unfolding is_waiting
listening b h d = rw (ne_eqb b 1 h) (go (eqb b 0) (eqb b 2) (eqb b 3)) where
  go : (x y z : Bool) → is_waiting (pick x Resting (pick y Opening (pick z Sending Receiving))) ≡ false
  go true y z = refl
  go false true z = refl
  go false false true = refl
  go false false false = refl

pub nothing_ready : (x : Option ℕ) → is_nothing x ≡ true → x ≡ None
unfolding is_nothing
nothing_ready None e = refl
nothing_ready (Some c) e = absurd (false≢true e)

-- ---- the stage by its byte

small : (b : ℕ) → b < 2 → (eqb b 0 ≡ false → eqb b 1 ≡ true)
small b h e = let u = eqb-false b 0 e in eq-eqb b 1 (omega (arith, h, u))

pub undriven : (b : ℕ) → b < 2 → is_driving (stage_of b) ≡ false
unfolding is_driving
undriven b h = go (eqb b 0) refl where
  go : (x : Bool) → eqb b 0 ≡ x → is_driving (stage_of b) ≡ false
  go true e = rw e
  go false e = rw (e, small b h e)

pub unanswered : (b : ℕ) → b < 2 → is_answering (stage_of b) ≡ false
unfolding is_answering
unanswered b h = go (eqb b 0) refl where
  go : (x : Bool) → eqb b 0 ≡ x → is_answering (stage_of b) ≡ false
  go true e = rw e
  go false e = rw (e, small b h e)

pub driven : (b : ℕ) → 2 ≤ b → b < 4 → is_driving (stage_of b) ≡ true
unfolding is_driving
driven b l h = go (eqb b 2) refl where
  go : (x : Bool) → eqb b 2 ≡ x → is_driving (stage_of b) ≡ true
  go true e = rw (ne_eqb b 0 (λ q. absurd (omega (arith, l, q))), ne_eqb b 1 (λ q. absurd (omega (arith, l, q))), e)
  go false e =
      let u = eqb-false b 2 e in
      rw (ne_eqb b 0 (λ q. absurd (omega (arith, l, q))), ne_eqb b 1 (λ q. absurd (omega (arith, l, q))), e, eq-eqb b 3 (omega (arith, l, h, u)))

going : (x : Ending) → goes x ≡ true → x ≡ Going
unfolding goes
going Going e = refl
going Sent e = absurd (false≢true e)
going Exhausted e = absurd (false≢true e)
going Aborted e = absurd (false≢true e)
going Rearbitrated e = absurd (false≢true e)
going Fulfilled e = absurd (false≢true e)

pub listens : (s : List ℕ) → (core_of s).activity.waiting ≡ false → byte_at s 68 < 2 → (byte_at s 69 ≡ 1 → ⊥) → goes (stopped (core_of s).service) ≡ true → Listens (core_of s)
unfolding core_of core_by drives_frame is_answered
listens s w h r g = record { waits = w; drives = undriven (byte_at s 68) h; answered = unanswered (byte_at s 68) h; replies = ne_eqb (byte_at s 69) 1 r; goes = going _ g }

-- a frame is under way unless its byte is 0
pub carried : (b : ℕ) → (b ≡ 0 → ⊥) → is_under_way (phase_of b) ≡ true
unfolding is_under_way
carried b h = rw (ne_eqb b 0 h) (go (eqb b 1) (eqb b 2) (eqb b 3)) where
  go : (x y z : Bool) → is_under_way (pick x Start (pick y Body (pick z Acknowledge End))) ≡ true
  go true y z = refl
  go false true z = refl
  go false false true = refl
  go false false false = refl

-- a slot of the model's own frame that is as due, before the last
pub slot_goes : (x : Coded) (k v d : ℕ) → d ≡ level_at x k → v ≡ due_from x k d → k < 59 + 10 * x.n → judge_slot x k v ≡ Goes
unfolding judge_slot due due_from size
slot_goes x k v d l e h = rw (eq-eqb v (due x k) (e ∙ ap (λ (n : ℕ). due_from x k n) l), lt-ltb (k + 1) (size x.n) (unfold size in omega (arith, h)))

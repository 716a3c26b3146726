-- The counts of the diagnosis stay in their ranges.
--   Limits == what holds of every reached diagnosis; control is 0x02        diagnosed_limits, pulsed_limits, renewed_limits, rate_limits == it is kept
use Prim.Native.Nat.{ℕ, ◌+◌, ◌-◌, ◌≤◌}
use mathlib.Core.Bool.{Bool, true, false, false≢true}
use mathlib.Core.Path.{◌≡◌, subst}
use native.Mathlib.Omega.{arith}
use borrow.Author.Tests.{ltb-true, leb-false}
use lib.Dec.{eqb, ltb, leb}
use Rattle.line.specs.Bits.{pick}
use Rattle.line.proofs.Laws.{picked}
use Rattle.diagnosis.specs.Control.{rate, divider, divider_runs}
use Rattle.diagnosis.specs.Rules.{with_slots, with_period, new_period, undiagnosed, input_level, edge, counted, connected, dominant_run, edges_counted, watched, noted, renewed, pulse, turned, pulsed, completes, ticked, returns, returned, judged, clocked, diagnosed}
use Rattle.diagnosis.specs.declared.Condition.{Condition}
use Rattle.diagnosis.specs.declared.Finding.{Finding}
use Rattle.diagnosis.specs.declared.Diagnosis.{Diagnosis}

pub record Limits (control : ℕ) (x : Diagnosis) : Type 0 where
  pub levels : x.levels ≤ 7
  pub dominant : x.dominant ≤ 8
  pub slots : x.period.slots ≤ divider control - 1
  pub rxd1 : x.period.rxd1 ≤ 4
  pub rxd2 : x.period.rxd2 ≤ 4
  pub connected : x.period.connected ≤ 4

counted_small : (largest : ℕ) (b : Bool) (n : ℕ) → n ≤ largest → counted largest b n ≤ largest
unfolding counted
counted_small largest b n h =
    picked (λ (x : ℕ). x ≤ largest) b (pick (ltb n largest) (n + 1) n) n
    (λ e. picked (λ (x : ℕ). x ≤ largest) (ltb n largest) (n + 1) n (λ d. let l = ltb-true n largest d in omega arith) (λ d. h)) (λ e. h)

run_small : (level n : ℕ) → n ≤ 8 → dominant_run level n ≤ 8
unfolding dominant_run
run_small level n h = picked (λ (x : ℕ). x ≤ 8) (eqb level 0) (counted 8 true n) 0 (λ e. counted_small 8 true n h) (λ e. omega arith)

module _ (control : ℕ) where
  watched_limits : (input levels : ℕ) (x : Diagnosis) → levels ≤ 7 → Limits control x → Limits control (watched input levels x)
  unfolding watched edges_counted
  watched_limits input levels x h l =
      record {
        levels = h;
        dominant = run_small (input_level levels input) x.dominant l.dominant;
        slots = l.slots;
        rxd1 = counted_small 4 (edge x.levels levels 1) x.period.rxd1 l.rxd1;
        rxd2 = counted_small 4 (edge x.levels levels 2) x.period.rxd2 l.rxd2;
        connected = counted_small 4 (edge x.levels levels input) x.period.connected l.connected;
      }

  noted_limits : (f : Finding) (x : Diagnosis) → Limits control x → Limits control (noted f x)
  unfolding noted
  noted_limits f x l = record { levels = l.levels; dominant = l.dominant; slots = l.slots; rxd1 = l.rxd1; rxd2 = l.rxd2; connected = l.connected }

  turned_limits : (before : Condition) (pulses : Bool) (x : Diagnosis) → Limits control x → Limits control (turned before pulses x)
  unfolding turned
  turned_limits before pulses x l = record { levels = l.levels; dominant = l.dominant; slots = l.slots; rxd1 = l.rxd1; rxd2 = l.rxd2; connected = l.connected }

  returned_limits : (x : Diagnosis) → Limits control x → Limits control (returned x)
  unfolding returned
  returned_limits x l = record { levels = l.levels; dominant = l.dominant; slots = l.slots; rxd1 = l.rxd1; rxd2 = l.rxd2; connected = l.connected }

  -- a period anew suits every divider
  pub renewed_limits : (other : ℕ) (x : Diagnosis) → Limits other x → Limits control (renewed x)
  unfolding renewed new_period
  renewed_limits other x l = record { levels = l.levels; dominant = l.dominant; slots = omega arith; rxd1 = omega arith; rxd2 = omega arith; connected = omega arith }

  pulse_limits : (x : Diagnosis) → Limits control x → Limits control (pulse control x)
  unfolding pulse renewed new_period
  pulse_limits x l = record { levels = l.levels; dominant = l.dominant; slots = omega arith; rxd1 = omega arith; rxd2 = omega arith; connected = omega arith }

  pub pulsed_limits : (x : Diagnosis) → Limits control x → Limits control (pulsed control x)
  unfolding pulsed
  pulsed_limits x l = turned_limits x.condition true (pulse control x) (pulse_limits x l)

  -- a slot that does not complete the period leaves fewer slots than the divider
  one_more : (x : Diagnosis) → divider_runs control ≡ true → completes control x.period ≡ false → x.period.slots + 1 ≤ divider control - 1
  unfolding completes
  one_more x r e = go (divider_runs control) r e
    where
      go : (b : Bool) → b ≡ true → pick b (leb (divider control) (x.period.slots + 1)) false ≡ false → x.period.slots + 1 ≤ divider control - 1
      go true d h = let n = leb-false (divider control) (x.period.slots + 1) h in omega arith
      go false d h = absurd (false≢true d)

  ticked_limits : (x : Diagnosis) → Limits control x → Limits control (ticked control x)
  unfolding ticked
  ticked_limits x l =
      picked (Limits control) (completes control x.period) (pulse control x) _ (λ e. pulse_limits x l)
      (λ e. picked (Limits control) (divider_runs control) (with_period x (with_slots x.period (x.period.slots + 1))) x
      (λ d. record { levels = l.levels; dominant = l.dominant; slots = one_more x d e; rxd1 = l.rxd1; rxd2 = l.rxd2; connected = l.connected }) (λ d. l))

  clocked_limits : (levels : ℕ) (turns : Bool) (x : Diagnosis) → levels ≤ 7 → Limits control x → Limits control (clocked control levels turns x)
  unfolding clocked judged
  clocked_limits levels turns x h l =
      turned_limits x.condition _ _ (ticked_limits _ (noted_limits _ _ (watched_limits (connected control x) levels x h l)))

  pub diagnosed_limits : (levels : ℕ) (turns ended : Bool) (x : Diagnosis) → levels ≤ 7 → Limits control x → Limits control (diagnosed control levels turns ended x)
  unfolding diagnosed
  diagnosed_limits levels turns ended x h l =
      picked (Limits control) (returns control ended) (returned (clocked control levels turns x)) (clocked control levels turns x)
      (λ e. returned_limits _ (clocked_limits levels turns x h l)) (λ e. clocked_limits levels turns x h l)

  pub undiagnosed_limits : Limits control undiagnosed
  unfolding undiagnosed new_period
  undiagnosed_limits = record { levels = omega arith; dominant = omega arith; slots = omega arith; rxd1 = omega arith; rxd2 = omega arith; connected = omega arith }

-- the divider is that of SDC[3:0] alone
pub same_divider : (a b : ℕ) → rate a ≡ rate b → divider a ≡ divider b
unfolding divider
same_divider a b e = rw e

pub rate_limits : (a b : ℕ) (x : Diagnosis) → rate a ≡ rate b → Limits a x → Limits b x
rate_limits a b x e l =
    record {
      levels = l.levels;
      dominant = l.dominant;
      slots = subst (λ (n : ℕ). x.period.slots ≤ n - 1) (same_divider a b e) l.slots;
      rxd1 = l.rxd1;
      rxd2 = l.rxd2;
      connected = l.connected;
    }

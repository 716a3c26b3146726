-- What the rules of a slot find, and what the automatic selection listens to.
use Prim.Native.Nat.{ℕ, ◌+◌, ◌<◌}
use mathlib.Core.Bool.{Bool, true, false}
use mathlib.Core.Path.{◌≡◌, refl}
use native.Mathlib.Omega.{arith}
use lib.Pow.{pow_pos}
use borrow.Author.Tests.{eq-eqb, ne_eqb, eqb-true}
use lib.Dec.{eqb}
use Rattle.line.specs.Bits.{pick}
use Rattle.line.proofs.Laws.{pick_same}
use Rattle.diagnosis.specs.Control.{rate, divider, selection, automatic}
use Rattle.diagnosis.specs.Rules.{input_level, automatic_input, connected, asynchronous, transmission, protocol, or_else, found, condition_pulsed, returns}
use Rattle.diagnosis.specs.declared.Condition.TheVariants.{Nominal}
use Rattle.diagnosis.specs.declared.Finding.TheVariants.{Nothing, Data, DataBar}
use Rattle.diagnosis.specs.declared.Period.{Period}
use Rattle.diagnosis.specs.declared.Diagnosis.{Diagnosis}

pub divider_positive : (control : ℕ) → 0 < divider control
unfolding divider
divider_positive control = pow_pos (6 + rate control)

-- ---- four edges on one and none on the other

pub async_data : (p : Period) → p.rxd2 ≡ 4 → p.rxd1 ≡ 0 → asynchronous p ≡ Data
unfolding asynchronous
async_data p a b = rw (a, b)

pub async_data_bar : (p : Period) → p.rxd1 ≡ 4 → p.rxd2 ≡ 0 → asynchronous p ≡ DataBar
unfolding asynchronous
async_data_bar p a b = rw (a, b)

pub async_equal : (p : Period) → p.rxd1 ≡ p.rxd2 → asynchronous p ≡ Nothing
unfolding asynchronous
async_equal p e = rw e (go (eqb p.rxd2 4) refl)
  where
    go : (b : Bool) → eqb p.rxd2 4 ≡ b → pick b (pick (eqb p.rxd2 0) DataBar Nothing) (pick b (pick (eqb p.rxd2 0) Data Nothing) Nothing) ≡ Nothing
    go true h = let z : eqb p.rxd2 0 ≡ false = ne_eqb p.rxd2 0 (λ d. let f = eqb-true p.rxd2 4 h in omega arith) in rw z
    go false h = refl

-- ---- nothing else speaks

no_protocol : (n : ℕ) → n < 8 → protocol n ≡ Nothing
unfolding protocol
no_protocol n h = rw (ne_eqb n 8 (λ e. omega arith))

pub found_edges : (compares : Bool) (x : Diagnosis) → x.dominant < 8 → compares ≡ false → found compares x ≡ asynchronous x.period
unfolding found or_else transmission
found_edges compares x h e = rw (no_protocol x.dominant h, e)

pub found_alike : (compares : Bool) (x : Diagnosis) → x.dominant < 8 → input_level x.levels 1 ≡ input_level x.levels 2 → found compares x ≡ asynchronous x.period
unfolding found or_else transmission
found_alike compares x h e = rw (no_protocol x.dominant h, eq-eqb (input_level x.levels 1) (input_level x.levels 2) e, pick_same compares Nothing)

-- ---- the automatic selection

selects : (control : ℕ) → automatic control ≡ true → selection control ≡ 3
unfolding automatic
selects control a = eqb-true (selection control) 3 a

pub automatic_connected : (control : ℕ) (x : Diagnosis) → automatic control ≡ true → connected control x ≡ automatic_input x.condition x.alternate
unfolding connected
automatic_connected control x a = rw (a, selects control a)

-- ---- a pulse with four edges keeps the nominal state

pub pulsed_nominal : (control : ℕ) (p : Period) → p.connected ≡ 4 → condition_pulsed control p Nominal ≡ Nominal
unfolding condition_pulsed
pulsed_nominal control p e = rw (e, pick_same p.failure Nominal, pick_same (automatic control) Nominal)

-- ---- RI

pub no_return : (control : ℕ) → returns control false ≡ false
unfolding returns
no_return control = pick_same (automatic control) false

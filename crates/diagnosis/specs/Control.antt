-- The diagnosis control register, 0x02 (000, Diagnosis Control Register): SDC[3:0] in bits 7 to 4, Ma in bit 3, Mb in bit 2, ETIP in bit 1, ESDC in bit 0.
--   rate, divider == SDC[3:0], and the slots of an SDC period        selection, automatic == Ma and Mb        compares_transmission == ETIP        divider_runs == ESDC
use Rattle.std.specs.Prelude.{ℕ, ◌+◌, ◌/◌, ◌%◌, ◌^◌, Bool, eqb}

unfoldable pub rate : ℕ → ℕ
rate control = control / 16

-- Table 6: "0000 64", and twice as many for each next
unfoldable pub divider : ℕ → ℕ
divider control = 2 ^ (6 + rate control)

-- Table 7: 00 RxD0, 01 RxD2, 10 RxD1, 11 automatic selection
unfoldable pub selection : ℕ → ℕ
selection control = control / 4 % 4

unfoldable pub automatic : ℕ → Bool
automatic control = eqb (selection control) 0b11

-- "Enable TIP generation"
unfoldable pub compares_transmission : ℕ → Bool
compares_transmission control = eqb (control / 2 % 2) 1

-- "Enable SDC divider"
unfoldable pub divider_runs : ℕ → Bool
divider_runs control = eqb (control % 2) 1

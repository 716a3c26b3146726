-- The interrupt line: status and enable share a one (specs/Interrupts.antt).
use Prim.Native.Nat.{ℕ, ◌+◌, ◌*◌, ◌/◌, ◌%◌, ◌≤◌, ◌<◌, min}
use mathlib.Core.Bool.{Bool, true, false, not, false≢true}
use mathlib.Core.Path.{◌≡◌, refl, ap, ◌∙◌, sym}
use native.Mathlib.Omega.{arith}
use borrow.Author.Tests.{eq-eqb, ne_eqb}
use lib.Dec.{eqb}
use lib.Bits.{bit_and}
use Rattle.rules.specs.Definitions.Registers.{interrupt_status_at, interrupt_enable, read_only, bit, interrupt_status, asserted}
use Rattle.rules.specs.Statements.Bits.{bit_at}
use Rattle.rules.specs.Definitions.Host.{byte_read, status_read, interrupt_line}
use Rattle.rules.proofs.Bits.{and_bit, no_bit, some_bit}
use Rattle.every_run.specs.Interrupts.{status_of, enable_of, Shared, Places}
use Rattle.rules.specs.declared.Flags.{Flags}
use Rattle.rules.specs.declared.Controller.{Controller}

-- ---- the status byte, bit by bit

bit_small : (b : Bool) → bit b ≤ 1
unfolding bit
bit_small true = omega arith
bit_small false = omega arith

module _ (a b c d e f : ℕ) (p : a ≤ 1) (q : b ≤ 1) (r : c ≤ 1) (s : d ≤ 1) (t : e ≤ 1) (u : f ≤ 1) where
  abbrev byte : ℕ
  byte = a * 128 + b * 16 + c * 8 + d * 4 + e * 2 + f

  at_7 : byte / 128 % 2 ≡ a
  at_7 = omega arith

  at_4 : byte / 16 % 2 ≡ b
  at_4 = omega arith

  at_3 : byte / 8 % 2 ≡ c
  at_3 = omega arith

  at_2 : byte / 4 % 2 ≡ d
  at_2 = omega arith

  at_1 : byte / 2 % 2 ≡ e
  at_1 = omega arith

  at_0 : byte / 1 % 2 ≡ f
  at_0 = omega arith

module _ (f : Flags) where
  pub places : Places f
  unfolding interrupt_status
  places =
      let p = bit_small f.rst in
      let q = bit_small f.te in
      let r = bit_small f.tok in
      let s = bit_small f.re in
      let t = bit_small f.rok in
      let u = bit_small f.rnok in
      record {
        rst = at_7 _ _ _ _ _ _ p q r s t u;
        te = at_4 _ _ _ _ _ _ p q r s t u;
        tok = at_3 _ _ _ _ _ _ p q r s t u;
        re = at_2 _ _ _ _ _ _ p q r s t u;
        rok = at_1 _ _ _ _ _ _ p q r s t u;
        rnok = at_0 _ _ _ _ _ _ p q r s t u;
      }

-- ---- the line

both_one : (a b : ℕ) → a < 2 → b < 2 → min a b ≡ 1 → (a ≡ 1) × (b ≡ 1)
both_one a b h g e = (omega arith, omega arith)

one_of : (a b : ℕ) → a ≡ 1 → b ≡ 1 → min a b ≡ 1
one_of a b e d = omega arith

not_zero : (n : ℕ) → not (eqb n 0) ≡ true → n ≡ 0 → ⊥
not_zero n e z = false≢true (sym (ap not (eq-eqb n 0 z)) ∙ e)

shares : (a b : ℕ) → not (eqb (bit_and a b) 0) ≡ true → Shared a b
shares a b e =
    let x = some_bit (bit_and a b) (not_zero (bit_and a b) e) in
    let k : ℕ = x.place in
    let p = both_one (bit_at a k) (bit_at b k) (omega arith) (omega arith) (sym (and_bit a b k) ∙ x.one) in
    record { place = k; first = p.0; second = p.1 }

shared : (a b : ℕ) → Shared a b → not (eqb (bit_and a b) 0) ≡ true
shared a b s =
    let k : ℕ = s.place in
    let e : bit_at (bit_and a b) k ≡ 1 = and_bit a b k ∙ one_of (bit_at a k) (bit_at b k) s.first s.second in
    ap not (ne_eqb (bit_and a b) 0 (λ (z : bit_and a b ≡ 0). let d : 0 ≡ 1 = sym (no_bit k) ∙ sym (ap (λ (n : ℕ). bit_at n k) z) ∙ e in omega arith))

pub line_shared : (c : Controller) → interrupt_line c ≡ true → Shared (status_of c) (enable_of c)
unfolding interrupt_line asserted
line_shared c e = shares (status_of c) (enable_of c) e

pub shared_line : (c : Controller) → Shared (status_of c) (enable_of c) → interrupt_line c ≡ true
unfolding interrupt_line asserted
shared_line c s = shared (status_of c) (enable_of c) s

pub status_is_read : (c : Controller) → byte_read c interrupt_status_at ≡ status_of c
unfolding byte_read read_only status_read
status_is_read c = refl

pub enable_is_read : (c : Controller) → byte_read c interrupt_enable ≡ enable_of c
unfolding byte_read read_only
enable_is_read c = refl

-- What the LEB128 reader's answer on a part says of the number at a place.
use Rattle.leb128.specs.declared.Refusal.{Refusal}
use Prim.Native.Nat.{ℕ, ◌+◌, ◌-◌, ◌<◌, ◌≤◌, min}
use mathlib.Core.List.{List}
use mathlib.Core.Path.{◌≡◌, ap}
use native.Mathlib.Omega.{arith}
use borrow.Author.Tests.{lt-ltb}
use lib.ListN.{length, get_or, drop, take, drop_of_length-le, length-drop}
use lib.Seq.{drop-cons, take-length}
use Rattle.leb128.specs.Leb128 as leb128
use Rattle.leb128.specs.Leb128.{decode, groups}
use Rattle.session.specs.declared.Fault.TheVariants.{Cut}
use Rattle.session.specs.Reading.{refusal, placed, varint_at, bad, Value}

pub past_end : (s : List ℕ) (at : ℕ) → length s ≤ at → bad Cut (length s) 0 ≡ varint_at s at
unfolding varint_at placed decode groups refusal
past_end s at h = rw (drop_of_length-le s h) (ap (λ (p : ℕ). bad Cut p 0) (omega arith))

-- one group
pub one_group : (s : List ℕ) (at : ℕ) → at < length s → get_or s at 0 < 128 → Value (get_or s at 0) (at + 1) 1 ≡ varint_at s at
unfolding varint_at placed decode groups
one_group s at h b = rw (drop-cons s at 0 h, lt-ltb _ _ b)

-- the reader's answer on the part that begins at the place
to_end : (a : ℕ) (s : List ℕ) → take (length s - a) (drop a s) ≡ drop a s
to_end a s = simp (← (length-drop a s), take-length)

module _ (s : List ℕ) (at : ℕ) (h : at < length s) where
  pub found : (v u : ℕ) (rest : List ℕ) → leb128.Value v u rest ≡ decode (take (length s - at) (drop at s)) → Value v (at + u) u ≡ varint_at s at
  unfolding varint_at placed
  found v u rest e = let d = rw (to_end at s) at e in rw (← d)

  pub refused : (f : Refusal) (u : ℕ) → leb128.Refused f u ≡ decode (take (length s - at) (drop at s)) → bad (refusal f) at u ≡ varint_at s at
  unfolding varint_at placed
  refused f u e = let m : min at (length s) ≡ at = omega arith in let d = rw (to_end at s) at e in rw (← d, m)

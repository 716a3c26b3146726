-- What a write to a row changes of the state that it says.
--   changed == the byte at each place after a write        written == the state after writes at named places        framed == after a frame is laid
use Prim.Native.Nat.{ℕ, zero, suc, ◌+◌, ◌-◌, ◌*◌, ◌/◌, ◌%◌, ◌<◌, ◌≤◌}
use mathlib.Core.Bool.{Bool, true, false, false≢true}
use mathlib.Core.List.{List, [], ◌∷◌, ◌++◌}
use mathlib.Core.Path.{◌≡◌, refl, sym, ◌∙◌, ap, subst, fun_ext}
use native.Mathlib.Nat.{add-zero}
use native.Mathlib.Numerals.{add-one}
use native.Mathlib.Omega.{arith}
use lib.Dec.{eqb, ltb, leb}
use lib.ListN.{get_or, set, length, length-set, take, drop}
use lib.Seq.{sets, sets-eq, get_or-set_same, get_or-set_other, drop-cons}
use borrow.Rule.Slice.PartMut.{put_mid}
use borrow.Author.Tests.{eqb-true, eqb-false, ltb-true, ltb-false, leb-true, leb-false, eq-eqb, ne_eqb}
use mir.Val.{bool_byte}
use denote.Enum.Declared.{tag_of}
use Rattle.rules.specs.contracts.Mode.{the_type as the_mode}
use Rattle.rules.specs.contracts.Phase.{the_type as the_phase}
use Rattle.rules.specs.contracts.Stage.{the_type as the_stage}
use Rattle.diagnosis.specs.contracts.Condition.{the_type as the_condition}
use Rattle.std.specs.Int.{w16, w32, to_le_bytes}
use Rattle.std.proofs.lemmas.List.{take_all}
use Rattle.std.proofs.lemmas.Slice.{put_mid-paste}
use Rattle.line.specs.Bits.{pick}
use Rattle.rules.specs.Definitions.Registers.{both}
use Rattle.rules.specs.Definitions.Setters.{with_reception, with_service, with_reply, with_effort, with_frame}
use Rattle.rules.specs.Definitions.Reception.{with_bytes}
use Rattle.diagnosis.specs.declared.Condition.{Condition}
use Rattle.diagnosis.specs.declared.Condition.TheVariants.{Nominal, DegradedOnData, DegradedOnDataBar, MajorError}
use Rattle.rules.specs.declared.Mode.{Mode}
use Rattle.rules.specs.declared.Mode.TheVariants.{Idle, Active, Asleep}
use Rattle.rules.specs.declared.Phase.{Phase}
use Rattle.rules.specs.declared.Phase.TheVariants.{Quiet, Start, Body, Acknowledge, End}
use Rattle.rules.specs.declared.Stage.{Stage}
use Rattle.rules.specs.declared.Stage.TheVariants.{Resting, Waiting, Opening, Sending, Receiving}
use Rattle.row.specs.Row.{byte_at, bytes_from, mode_of, phase_of, stage_of, condition_of, core_by, core_of}
use Rattle.row.specs.Bytes.{with_half, with_word}

-- ---- one write

abbrev pub changed : (ℕ → ℕ) → ℕ → ℕ → ℕ → ℕ
changed byte i x j = pick (eqb i j) x (byte j)

pub set_changes : (s : List ℕ) (i x : ℕ) → i < length s → byte_at (set s i x) ≡ changed (byte_at s) i x
set_changes s i x h = fun_ext (λ j. go j (eqb i j) refl) where
  go : (j : ℕ) (b : Bool) → eqb i j ≡ b → get_or (set s i x) j 0 ≡ pick b x (get_or s j 0)
  go j true e = rw (← (eqb-true i j e)) (get_or-set_same s i x 0 h)
  go j false e = get_or-set_other s i j x 0 (λ q. eqb-false i j e (sym q))

-- ---- writes one after another

abbrev pub writes : List ℕ → List (ℕ × ℕ) → List ℕ
writes s [] = s
writes s (w ∷ ws) = writes (set s w.0 w.1) ws

abbrev pub changes : (ℕ → ℕ) → List (ℕ × ℕ) → ℕ → ℕ
changes byte [] = byte
changes byte (w ∷ ws) = changes (changed byte w.0 w.1) ws

abbrev pub placed : List (ℕ × ℕ) → Bool
placed [] = true
placed (w ∷ ws) = pick (ltb w.0 176) (placed ws) false

placed_first : (a b : Bool) → pick a b false ≡ true → (a ≡ true) × (b ≡ true)
placed_first true b e = (refl, e)
placed_first false b e = absurd (false≢true e)

pub writes_change : (s : List ℕ) (ws : List (ℕ × ℕ)) → length s ≡ 176 → placed ws ≡ true → byte_at (writes s ws) ≡ changes (byte_at s) ws
writes_change s [] n p = refl
writes_change s (w ∷ ws) n p =
    let q = placed_first (ltb w.0 176) (placed ws) p in
    writes_change (set s w.0 w.1) ws (length-set s w.0 w.1 ∙ n) q.1
    ∙ ap (λ (byte : ℕ → ℕ). changes byte ws) (set_changes s w.0 w.1 (rw n (ltb-true _ _ q.0)))

pub written : (s : List ℕ) (ws : List (ℕ × ℕ)) → length s ≡ 176 → placed ws ≡ true → core_of (writes s ws) ≡ core_by (changes (byte_at s) ws)
unfolding core_of
written s ws n p = ap core_by (writes_change s ws n p)

pub writes_long : (s : List ℕ) (ws : List (ℕ × ℕ)) → length (writes s ws) ≡ length s
writes_long s [] = refl
writes_long s (w ∷ ws) = writes_long (set s w.0 w.1) ws ∙ length-set s w.0 w.1

-- a number of 16, of 32 bits, and writes behind it
abbrev pub halves : ℕ → ℕ → List (ℕ × ℕ) → List (ℕ × ℕ)
halves at x ws = (at, x % 256) ∷ (at + 1, x / 256) ∷ ws

abbrev pub words : ℕ → ℕ → List (ℕ × ℕ) → List (ℕ × ℕ)
words at x ws = (at, x % 256) ∷ (at + 1, x / 256 % 256) ∷ (at + 2, x / 65536 % 256) ∷ (at + 3, x / 16777216) ∷ ws

-- ---- what was laid is read back

-- an enum as the byte that `as` makes of it
abbrev pub mode_byte : Mode → ℕ
mode_byte x = tag_of the_mode x

pub mode_back : (x : Mode) → mode_of (mode_byte x) ≡ x
mode_back Idle = refl
mode_back Active = refl
mode_back Asleep = refl

abbrev pub phase_byte : Phase → ℕ
phase_byte x = tag_of the_phase x

pub phase_back : (x : Phase) → phase_of (phase_byte x) ≡ x
phase_back Quiet = refl
phase_back Start = refl
phase_back Body = refl
phase_back Acknowledge = refl
phase_back End = refl

abbrev pub stage_byte : Stage → ℕ
stage_byte x = tag_of the_stage x

pub stage_back : (x : Stage) → stage_of (stage_byte x) ≡ x
stage_back Resting = refl
stage_back Waiting = refl
stage_back Opening = refl
stage_back Sending = refl
stage_back Receiving = refl

abbrev pub condition_byte : Condition → ℕ
condition_byte x = tag_of the_condition x

pub condition_back : (x : Condition) → condition_of (condition_byte x) ≡ x
condition_back Nominal = refl
condition_back DegradedOnData = refl
condition_back DegradedOnDataBar = refl
condition_back MajorError = refl

pub half_back : (x : ℕ) → x % 256 + x / 256 * 256 ≡ x
half_back x = omega arith

pub word_back : (x : ℕ) → x % 256 + x / 256 % 256 * 256 + x / 65536 % 256 * 65536 + x / 16777216 * 16777216 ≡ x
word_back x = omega arith

pub flag_laid : (x : ℕ) (b : Bool) → x ≡ bool_byte b → eqb x 1 ≡ b
flag_laid x true e = ap (λ (n : ℕ). eqb n 1) e
flag_laid x false e = ap (λ (n : ℕ). eqb n 1) e

-- ---- a frame

abbrev over : (ℕ → ℕ) → ℕ → ℕ → List ℕ → ℕ → ℕ
over byte at n b j = pick (both (leb at j) (ltb j (at + n))) (get_or b (j - at) 0) (byte j)

laid_before : (s : List ℕ) (at : ℕ) (b : List ℕ) (j : ℕ) → j < at → get_or (sets s at b) j 0 ≡ get_or s j 0
laid_before s at [] j h = refl
laid_before s at (x ∷ xs) j h = laid_before (set s at x) (suc at) xs j (omega (arith, h)) ∙ get_or-set_other s at j x 0 (λ q. absurd (omega (arith, h, q)))

laid_behind : (s : List ℕ) (at : ℕ) (b : List ℕ) (j : ℕ) → at + length b ≤ j → get_or (sets s at b) j 0 ≡ get_or s j 0
laid_behind s at [] j h = refl
laid_behind s at (x ∷ xs) j h = laid_behind (set s at x) (suc at) xs j (omega (arith, h)) ∙ get_or-set_other s at j x 0 (λ q. absurd (omega (arith, h, q)))

laid_in : (s : List ℕ) (at : ℕ) (b : List ℕ) (i : ℕ) → i < length b → at + length b ≤ length s → get_or (sets s at b) (at + i) 0 ≡ get_or b i 0
laid_in s at [] i h n = absurd (omega (arith, h))
laid_in s at (x ∷ xs) zero h n =
    rw (add-zero at) (laid_before (set s at x) (suc at) xs at (omega arith) ∙ get_or-set_same s at x 0 (omega (arith, n)))
laid_in s at (x ∷ xs) (suc i) h n =
    let e : at + suc i ≡ suc at + i = omega arith in
    let k : suc at + length xs ≤ length (set s at x) = rw (length-set s at x) (omega (arith, n)) in
    rw e (laid_in (set s at x) (suc at) xs i (omega (arith, h)) k)

frame_over : (s : List ℕ) (at : ℕ) (b : List ℕ) → length b ≡ 34 → at + 34 ≤ length s → byte_at (sets s at b) ≡ over (byte_at s) at 34 b
frame_over s at b n h = fun_ext (λ j. go j (leb at j) (ltb j (at + 34)) refl refl) where
  go : (j : ℕ) (p q : Bool) → leb at j ≡ p → ltb j (at + 34) ≡ q → get_or (sets s at b) j 0 ≡ pick (both p q) (get_or b (j - at) 0) (get_or s j 0)
  go j true true e d =
      let u = leb-true at j e in
      let v = ltb-true j (at + 34) d in
      let k : at + (j - at) ≡ j = omega (arith, u) in
      subst (λ (i : ℕ). get_or (sets s at b) i 0 ≡ get_or b (j - at) 0) k (laid_in s at b (j - at) (omega (arith, u, v, n)) (omega (arith, h, n)))
  go j true false e d = let v = ltb-false j (at + 34) d in laid_behind s at b j (omega (arith, v, n))
  go j false q e d = let u = leb-false at j e in laid_before s at b j (omega (arith, u))

shifted : (n : ℕ) (f : ℕ → ℕ) (k : ℕ) → bytes_from n (λ i. f (suc i)) k ≡ bytes_from n f (suc k)
shifted zero f k = refl
shifted (suc n) f k = rw (add-one k, add-one (suc k)) (ap (λ (l : List ℕ). f (suc k) ∷ l) (shifted n f (suc k)))

listed : (b : List ℕ) → bytes_from (length b) (byte_at b) 0 ≡ b
listed [] = refl
listed (x ∷ xs) = ap (λ (l : List ℕ). x ∷ l) (sym (shifted (length xs) (byte_at (x ∷ xs)) 0) ∙ listed xs)

frame_is : (b : List ℕ) → length b ≡ 34 → bytes_from 34 (byte_at b) 0 ≡ b
frame_is b n = subst (λ (k : ℕ). bytes_from k (byte_at b) 0 ≡ b) n (listed b)

pub heard_framed : (s b : List ℕ) → length s ≡ 176 → length b ≡ 34 → core_of (sets s 74 b) ≡ with_reception (core_of s) (with_bytes (core_of s).reception b)
unfolding core_of core_by
heard_framed s b m n =
    ap core_by (frame_over s 74 b n (omega (arith, m)))
    ∙ ap (λ (l : List ℕ). with_reception (core_by (byte_at s)) (with_bytes (core_by (byte_at s)).reception l)) (frame_is b n)

pub own_framed : (s b : List ℕ) → length s ≡ 176 → length b ≡ 34 →
    core_of (sets s 108 b)
    ≡ with_service (core_of s)
    (with_effort (core_of s).service (with_frame (core_of s).service.effort (record { n = (core_of s).service.effort.frame.n; bytes = b })))
unfolding core_of core_by
own_framed s b m n =
    ap core_by (frame_over s 108 b n (omega (arith, m)))
    ∙ ap
    (λ (l : List ℕ).
    with_service (core_by (byte_at s))
    (with_effort (core_by (byte_at s)).service
    (with_frame (core_by (byte_at s)).service.effort (record { n = (core_by (byte_at s)).service.effort.frame.n; bytes = l }))))
    (frame_is b n)

pub reply_framed : (s b : List ℕ) → length s ≡ 176 → length b ≡ 34 →
    core_of (sets s 142 b)
    ≡ with_reply (core_of s)
    (record { going = (core_of s).reply.going; channel = (core_of s).reply.channel; at = (core_of s).reply.at; frame = record { n = (core_of s).reply.frame.n; bytes = b } })
unfolding core_of core_by
reply_framed s b m n =
    ap core_by (frame_over s 142 b n (omega (arith, m)))
    ∙ ap
    (λ (l : List ℕ).
    with_reply (core_by (byte_at s))
    (record {
      going = (core_by (byte_at s)).reply.going;
      channel = (core_by (byte_at s)).reply.channel;
      at = (core_by (byte_at s)).reply.at;
      frame = record { n = (core_by (byte_at s)).reply.frame.n; bytes = l };
    }))
    (frame_is b n)

-- ---- as a part of the row

cut : (n : ℕ) (s : List ℕ) (at : ℕ) → at + n ≤ length s → take n (drop at s) ≡ bytes_from n (byte_at s) at
cut zero s at h = refl
cut (suc n) s at h =
    let e : at + 1 ≡ suc at = omega arith in
    rw (drop-cons s at 0 (omega (arith, h)), e) (ap (λ (l : List ℕ). get_or s at 0 ∷ l) (cut n s (suc at) (omega (arith, h))))

pub frame_cut : (s : List ℕ) (at k : ℕ) → k ≡ 34 → at + 34 ≤ length s → take k (drop at s) ≡ bytes_from 34 (byte_at s) at
frame_cut s at k e h = rw e (cut 34 s at h)

laid : (m : ℕ) (s b ys : List ℕ) (at k : ℕ) → ys ≡ b → k ≡ m → length b ≡ m → at + m ≤ length s → put_mid at k s ys ≡ sets s at b
laid m s b ys at k e d n h =
    let t : take m b ≡ b = take_all m b (omega (arith, n)) in
    let r : sets s at b ≡ take at s ++ b ++ drop (at + length b) s = sets-eq b s at (omega (arith, n, h)) in
    let p : take at s ++ take m b ++ drop (at + m) s ≡ take at s ++ b ++ drop (at + length b) s = rw (t, n) in
    put_mid-paste at k s ys b m e (sym d) (sym n) ∙ p ∙ sym r

pub frame_put : (s b ys : List ℕ) (at k : ℕ) → ys ≡ b → k ≡ 34 → length b ≡ 34 → at + 34 ≤ length s → put_mid at k s ys ≡ sets s at b
frame_put s b ys at k e d n h = laid 34 s b ys at k e d n h

pub half_put : (s ys : List ℕ) (at k x : ℕ) → ys ≡ to_le_bytes w16 x → k ≡ 2 → x < 65536 → at + 2 ≤ length s → put_mid at k s ys ≡ with_half s at x
half_put s ys at k x e d f h =
    let p : suc at ≡ at + 1 = omega arith in
    let b : x / 256 % 256 ≡ x / 256 = omega (arith, f) in
    laid 2 s (to_le_bytes w16 x) ys at k e d refl h ∙ (λ i. set (set s at (x % 256)) (p i) (b i))

pub word_put : (s ys : List ℕ) (at k x : ℕ) → ys ≡ to_le_bytes w32 x → k ≡ 4 → x < 4294967296 → at + 4 ≤ length s → put_mid at k s ys ≡ with_word s at x
word_put s ys at k x e d f h =
    let p : suc at ≡ at + 1 = omega arith in
    let q : suc (suc at) ≡ at + 2 = omega arith in
    let r : suc (suc (suc at)) ≡ at + 3 = omega arith in
    let b : x / 16777216 % 256 ≡ x / 16777216 = omega (arith, f) in
    laid 4 s (to_le_bytes w32 x) ys at k e d refl h
    ∙ (λ i. set (set (set (set s at (x % 256)) (p i) (x / 256 % 256)) (q i) (x / 65536 % 256)) (r i) (b i))

-- ---- one byte of the frame under way

eqb_same : (n : ℕ) → eqb n n ≡ true
eqb_same n = eq-eqb n n refl

unaffected : (n : ℕ) (byte : ℕ → ℕ) (at k b : ℕ) → k < at → bytes_from n (changed byte k b) at ≡ bytes_from n byte at
unaffected zero byte at k b h = refl
unaffected (suc n) byte at k b h =
    rw (ne_eqb k at (λ q. absurd (omega (arith, h, q)))) (ap (λ (l : List ℕ). byte at ∷ l) (unaffected n byte (at + 1) k b (omega (arith, h))))

bytes_changed : (n : ℕ) (byte : ℕ → ℕ) (at i b : ℕ) → i < n → bytes_from n (changed byte (at + i) b) at ≡ set (bytes_from n byte at) i b
bytes_changed zero byte at i b h = absurd (omega (arith, h))
bytes_changed (suc n) byte at zero b h =
    rw (add-zero at, eqb_same at) (ap (λ (l : List ℕ). b ∷ l) (unaffected n byte (at + 1) at b (omega arith)))
bytes_changed (suc n) byte at (suc i) b h =
    let e : at + suc i ≡ at + 1 + i = omega arith in
    rw (ne_eqb (at + suc i) at (λ q. absurd (omega (arith, q))), e) (ap (λ (l : List ℕ). byte at ∷ l) (bytes_changed n byte (at + 1) i b (omega (arith, h))))

abbrev within : (ℕ → ℕ) → (ℕ → ℕ) → ℕ → ℕ
within inner byte j = pick (both (leb 74 j) (ltb j 108)) (inner j) (byte j)

heard_alone : (byte : ℕ → ℕ) (i b : ℕ) → i < 34 → changed byte (74 + i) b ≡ within (changed byte (74 + i) b) byte
heard_alone byte i b h = fun_ext (λ j. go j (leb 74 j) (ltb j 108) refl refl) where
  go : (j : ℕ) (p q : Bool) → leb 74 j ≡ p → ltb j 108 ≡ q → changed byte (74 + i) b j ≡ pick (both p q) (changed byte (74 + i) b j) (byte j)
  go j true true e d = refl
  go j true false e d = let v = ltb-false j 108 d in rw (ne_eqb (74 + i) j (λ r. absurd (omega (arith, h, v, r))))
  go j false q e d = let u = leb-false 74 j e in rw (ne_eqb (74 + i) j (λ r. absurd (omega (arith, u, r))))

pub heard_byte : (s : List ℕ) (i b : ℕ) → length s ≡ 176 → i < 34 →
    core_of (set s (74 + i) b) ≡ with_reception (core_of s) (with_bytes (core_of s).reception (set (core_of s).reception.bytes i b))
unfolding core_of core_by
heard_byte s i b n h =
    ap core_by (set_changes s (74 + i) b (omega (arith, n, h)) ∙ heard_alone (byte_at s) i b h)
    ∙ ap (λ (l : List ℕ). with_reception (core_by (byte_at s)) (with_bytes (core_by (byte_at s)).reception l)) (bytes_changed 34 (byte_at s) 74 i b h)

-- a byte of a frame
pub byte_of : (n : ℕ) (byte : ℕ → ℕ) (at i : ℕ) → i < n → get_or (bytes_from n byte at) i 0 ≡ byte (at + i)
byte_of zero byte at i h = absurd (omega (arith, h))
byte_of (suc n) byte at zero h = rw (add-zero at)
byte_of (suc n) byte at (suc i) h = let e : at + suc i ≡ at + 1 + i = omega arith in rw e (byte_of n byte (at + 1) i (omega (arith, h)))

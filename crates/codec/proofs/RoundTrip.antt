-- A slot sequence reads as a frame exactly when it is that frame's slots, for every longest length.
use Prim.Native.Nat.{ℕ, zero, suc, ◌+◌, ◌-◌, ◌*◌, ◌/◌, ◌%◌, ◌^◌, ◌≤◌, ◌<◌}
use mathlib.Core.Bool.{Bool, true, false, false≢true}
use mathlib.Core.List.{List, [], ◌∷◌, ◌++◌, append_assoc, append-nil}
use mathlib.Core.Path.{◌≡◌, refl, ap, ◌∙◌, sym, subst}
use native.Mathlib.Omega.{arith}
use borrow.Author.Tests.{eq-eqb, ne_eqb, le-leb, lt-leb, eqb-true, eqb-false, ltb-false, leb-true}
use lib.Dec.{eqb, ltb, leb}
use lib.ListN.{length, take, drop, length-append, length-drop, take-append-drop}
use lib.Seq.{take_at, drop_at, drop-drop, take-add, length-take-le}
use Rattle.line.specs.Bits.{pick, bits, bits_value, Below, none, one}
use Rattle.line.specs.LineCode.{line_code}
use Rattle.line.specs.Check.{check}
use Rattle.line.specs.Frame.{Frame, Fits, byte_bits, covered, carried, start, end_of_data, end_of_frame, acknowledge_slots, slots}
use Rattle.line.proofs.Laws.{bits_length, bits_below, value_bits, value_below, bits_value_lem, check_below, covered_length, carried_length}
use Rattle.codec.specs.declared.Refusal.{Refusal}
use Rattle.codec.specs.declared.Refusal.TheVariants.{Level, Start, Pair, Length, Check, Acknowledge, EndOfFrame, CutShort}
use Rattle.codec.specs.Decode.{Read, read, fault, Reading, frame, refused, after, levels, expected, most, nibbles, whole, plain_run, right, second_slot, acknowledged, bytes_of, frame_of, ended, closing, judged, reading}

-- ---- rows below a bound

pub below_append : {m : ℕ} {s t : List ℕ} → Below m s → Below m t → Below m (s ++ t)
below_append none t = t
below_append (one h s) t = one h (below_append s t)

pub below_left : {m : ℕ} (s t : List ℕ) → Below m (s ++ t) → Below m s
below_left [] t b = none
below_left (x ∷ s) t (one h b) = one h (below_left s t b)

pub below_right : {m : ℕ} (s t : List ℕ) → Below m (s ++ t) → Below m t
below_right [] t b = b
below_right (x ∷ s) t (one h b) = below_right s t b

pub below_take : {m : ℕ} (n : ℕ) {s : List ℕ} → Below m s → Below m (take n s)
below_take n {s} b = below_left (take n s) (drop n s) (rw (take-append-drop n s) b)

pub below_drop : {m : ℕ} (n : ℕ) {s : List ℕ} → Below m s → Below m (drop n s)
below_drop n {s} b = below_right (take n s) (drop n s) (rw (take-append-drop n s) b)

code_below : {s : List ℕ} → Below 2 s → Below 2 (line_code s)
unfolding line_code
code_below none = none
code_below (one a none) = one a none
code_below (one a (one b none)) = one a (one b none)
code_below (one a (one b (one c none))) = one a (one b (one c none))
code_below (one a (one b (one c (one {x = d} h s)))) =
    one a (one b (one c (one h (one {x = 1 - d} (omega arith) (code_below s)))))

-- ---- each part of a frame's slots is read as that part

levels_below : {s : List ℕ} → Below 2 s → levels s ≡ true
unfolding levels
levels_below none = refl
levels_below (one {x = zero} h s) = levels_below s
levels_below (one {x = suc zero} h s) = levels_below s
levels_below (one {x = suc (suc x)} h s) = absurd (omega arith)

pub below_levels : (s : List ℕ) → levels s ≡ true → Below 2 s
unfolding levels
below_levels [] e = none
below_levels (x ∷ s) e = go (ltb 1 x) refl e (below_levels s)
  where
    go : (t : Bool) → ltb 1 x ≡ t → pick t false (levels s) ≡ true → (levels s ≡ true → Below 2 s) → Below 2 (x ∷ s)
    go true h d rest = absurd (false≢true d)
    go false h d rest = one {x = x} (omega (arith, ltb-false)) (rest d)

expected_self : (r : Refusal) (p s : List ℕ) → expected r p (p ++ s) ≡ read tt s
unfolding expected
expected_self r [] s = refl
expected_self r (x ∷ p) s = rw (eq-eqb x x refl) (expected_self r p s)

differs : (d : ℕ) → eqb d (1 - d) ≡ false
differs d = ne_eqb d (1 - d) (λ e. omega arith)

snoc4 : (acc : List ℕ) (a b c d : ℕ) (s : List ℕ) → (acc ++ (a ∷ b ∷ c ∷ [])) ++ (d ∷ []) ++ s ≡ acc ++ (a ∷ b ∷ c ∷ d ∷ s)
snoc4 acc a b c d s = simp append_assoc

-- the bits before the end of data are read back, behind whole nibbles read before
coded_back : (longest : ℕ) (acc s t : List ℕ) → length s % 4 ≡ 3 → length acc % 4 ≡ 0 → (length acc + length s) / 4 ≤ most longest
    → plain_run longest (line_code s ++ (0 ∷ 0 ∷ t)) acc ≡ read (acc ++ s) t
unfolding plain_run line_code most nibbles
coded_back longest acc [] t h g m = absurd (omega arith)
coded_back longest acc (a ∷ []) t h g m = absurd (omega arith)
coded_back longest acc (a ∷ b ∷ []) t h g m = absurd (omega arith)
coded_back longest acc (a ∷ b ∷ c ∷ []) t h g m = refl
coded_back longest acc (a ∷ b ∷ c ∷ d ∷ s) t h g m =
    let l : length (acc ++ (a ∷ b ∷ c ∷ [])) ≡ length acc + 3 = length-append acc _ in
    let k : length ((acc ++ (a ∷ b ∷ c ∷ [])) ++ (d ∷ [])) ≡ length acc + 4 = length-append (acc ++ (a ∷ b ∷ c ∷ [])) _ ∙ omega arith in
    rw (differs d, lt-leb (7 + 2 * longest) (length (acc ++ (a ∷ b ∷ c ∷ [])) / 4) (omega arith))
    (coded_back longest ((acc ++ (a ∷ b ∷ c ∷ [])) ++ (d ∷ [])) s t (omega arith) (omega arith) (omega arith) ∙ ap (λ (l : List ℕ). read l t) (snoc4 acc a b c d s))

acknowledge_back : (a : Bool) (s : List ℕ) → acknowledged (acknowledge_slots a ++ s) ≡ read a s
unfolding acknowledged second_slot acknowledge_slots
acknowledge_back true s = refl
acknowledge_back false s = refl

bytes_below : (bs : List ℕ) → Below 2 (byte_bits bs)
unfolding byte_bits
bytes_below [] = none
bytes_below (b ∷ bs) = below_append (bits_below 8 b) (bytes_below bs)

acknowledge_below : (a : Bool) → Below 2 (acknowledge_slots a)
unfolding acknowledge_slots levels
acknowledge_below true = below_levels (1 ∷ 0 ∷ []) refl
acknowledge_below false = below_levels (1 ∷ 1 ∷ []) refl

-- ---- the frame that the carried bits are

bytes_back : {bs : List ℕ} → Below 256 bs → (t : List ℕ) → bytes_of (length bs) (byte_bits bs ++ t) ≡ bs
unfolding bytes_of byte_bits
bytes_back none t = refl
bytes_back (one {x = b} {xs = bs} h s) t =
    rw (append_assoc (bits 8 b), take_at (bits 8 b) (byte_bits bs ++ t) 8 (bits_length 8 b), drop_at (bits 8 b) (byte_bits bs ++ t) 8 (bits_length 8 b), value_bits 8 b h, bytes_back s t)

end_back : expected EndOfFrame end_of_frame end_of_frame ≡ read tt []
unfolding expected end_of_frame
end_back = refl

module _ (f : Frame) where
  regroup : carried f ≡ bits 12 f.identifier ++ (bits 4 f.command ++ (byte_bits f.bytes ++ bits 15 (check (covered f))))
  unfolding carried covered
  regroup = simp append_assoc

  behind_identifier : drop 12 (carried f) ≡ bits 4 f.command ++ (byte_bits f.bytes ++ bits 15 (check (covered f)))
  behind_identifier = rw regroup (drop_at (bits 12 f.identifier) _ 12 (bits_length 12 f.identifier))

  behind_command : drop 16 (carried f) ≡ byte_bits f.bytes ++ bits 15 (check (covered f))
  behind_command =
      sym (drop-drop 4 12 (carried f)) ∙ ap (λ (l : List ℕ). drop 4 l) behind_identifier ∙ drop_at (bits 4 f.command) _ 4 (bits_length 4 f.command)

  right_back : right (carried f) ≡ true
  unfolding right carried
  right_back =
      let m : length (carried f) - 15 ≡ length (covered f) = omega (arith, carried_length f, covered_length f) in
      simp (m, take_at (covered f) (bits 15 (check (covered f))) (length (covered f)) refl, drop_at (covered f) (bits 15 (check (covered f))) (length (covered f)) refl, value_bits 15 (check (covered f)) (check_below (covered f)))
      (eq-eqb (check (covered f)) (check (covered f)) refl)

  slots_below : Below 2 (slots f)
  unfolding slots start end_of_data end_of_frame carried covered levels
  slots_below =
      below_append (below_levels start refl)
      (below_append
      (code_below (below_append (below_append (bits_below 12 f.identifier) (below_append (bits_below 4 f.command) (bytes_below f.bytes))) (bits_below 15 (check (covered f)))))
      (below_append (below_levels end_of_data refl) (below_append (acknowledge_below f.acknowledge) (below_levels end_of_frame refl))))

module _ (longest : ℕ) (f : Frame) (fits : Fits longest f) where
  frame_back : frame_of (carried f) f.acknowledge ≡ f
  unfolding frame_of
  frame_back =
      let i : bits_value (take 12 (carried f)) ≡ f.identifier = rw (regroup f, take_at (bits 12 f.identifier) (bits 4 f.command ++ (byte_bits f.bytes ++ bits 15 (check (covered f)))) 12 (bits_length 12 f.identifier)) (value_bits 12 f.identifier (omega (arith, fits.identifier))) in
      let c : bits_value (take 4 (drop 12 (carried f))) ≡ f.command = rw (behind_identifier f, take_at (bits 4 f.command) (byte_bits f.bytes ++ bits 15 (check (covered f))) 4 (bits_length 4 f.command)) (value_bits 4 f.command (omega (arith, fits.command))) in
      let n : (length (carried f) - 31) / 8 ≡ length f.bytes = omega (arith, carried_length f) in
      let b : bytes_of ((length (carried f) - 31) / 8) (drop 16 (carried f)) ≡ f.bytes = rw (n, behind_command f) (bytes_back fits.bytes (bits 15 (check (covered f)))) in
      λ j. record { identifier = i j; command = c j; bytes = b j; acknowledge = f.acknowledge }

  whole_back : whole longest (nibbles (carried f)) ≡ true
  unfolding whole nibbles most
  whole_back =
      let n : ℕ = length f.bytes in
      simp (carried_length f, eq-eqb ((31 + 8 * n) / 4 % 2) 1 (omega arith), le-leb 7 ((31 + 8 * n) / 4) (omega arith))
      (le-leb ((31 + 8 * n) / 4) (7 + 2 * longest) (omega (arith, fits.size)))

  -- decoding a frame's slots gives it back
  pub slots_read : reading longest (slots f) ≡ frame f
  unfolding reading judged closing slots end_of_data after ended most
  slots_read =
      rw (
        levels_below (slots_below f),
        expected_self Start start (line_code (carried f) ++ (end_of_data ++ (acknowledge_slots f.acknowledge ++ end_of_frame))),
        coded_back longest [] (carried f) (acknowledge_slots f.acknowledge ++ end_of_frame) (omega (arith, carried_length f)) refl (omega (arith, carried_length f, fits.size)),
        whole_back,
        right_back f,
        acknowledge_back f.acknowledge end_of_frame,
        end_back,
      )
      (ap frame frame_back)

-- ---- what is read as a frame is that frame's slots

refused_frame : {r : Refusal} {f : Frame} → refused r ≡ frame f → ⊥
refused_frame {r} {f} e = let z : ◌≡◌ {A = ℕ} 0 1 = cc in omega arith

fault_read : {A : Type 0} {r : Refusal} {a : A} {s : List ℕ} → fault r ≡ read a s → ⊥
fault_read e = let z : ◌≡◌ {A = ℕ} 0 1 = cc in omega arith

-- a part that was read, and how the reading went on
after_frame : {A : Type 0} (r : Read A) (next : A → List ℕ → Reading) (f : Frame) → after r next ≡ frame f
    → (a : A) × (s : List ℕ) × (r ≡ read a s) × (next a s ≡ frame f)
unfolding after
after_frame (read a s) next f e = (a, s, refl, e)
after_frame (fault r) next f e = absurd (refused_frame e)

-- a test that was passed
passed : (t : Bool) (y : Reading) (r : Refusal) (f : Frame) → pick t y (refused r) ≡ frame f → (t ≡ true) × (y ≡ frame f)
passed true y r f e = (refl, e)
passed false y r f e = absurd (refused_frame e)

expected_is : (r : Refusal) (p s t : List ℕ) → expected r p s ≡ read tt t → s ≡ p ++ t
unfolding expected
expected_is r [] s t e = cc
expected_is r (x ∷ p) [] t e = absurd (fault_read e)
expected_is r (x ∷ p) (y ∷ s) t e = go (eqb y x) refl e (expected_is r p s t)
  where
    go : (b : Bool) → eqb y x ≡ b → pick b (expected r p s) (fault r) ≡ read tt t → (expected r p s ≡ read tt t → s ≡ p ++ t) → y ∷ s ≡ x ∷ (p ++ t)
    go true h d rest = let i = rest d in let j = eqb-true y x h in cc
    go false h d rest = absurd (fault_read d)

-- the bits that were read up to the end of data, behind those read before
record Coded (acc bs s t : List ℕ) : Type 0 where
  new : List ℕ
  bits_are : bs ≡ acc ++ new
  slots_are : s ≡ line_code new ++ (0 ∷ 0 ∷ t)
  long : length new % 4 ≡ 3
  below : Below 2 new

coded_is : (longest : ℕ) (s acc bs t : List ℕ) → Below 2 s → plain_run longest s acc ≡ read bs t → Coded acc bs s t
unfolding plain_run line_code
coded_is longest [] acc bs t l e = absurd (fault_read e)
coded_is longest (a ∷ []) acc bs t l e = absurd (fault_read e)
coded_is longest (a ∷ b ∷ []) acc bs t l e = absurd (fault_read e)
coded_is longest (a ∷ b ∷ c ∷ []) acc bs t l e = absurd (fault_read e)
coded_is longest (a ∷ b ∷ c ∷ x ∷ []) acc bs t l e = absurd (fault_read e)
coded_is longest (a ∷ b ∷ c ∷ x ∷ y ∷ s) acc bs t (one ha (one hb (one hc (one hx (one hy l))))) e =
    go (eqb x y) refl (eqb x 0) refl (leb (most longest) (nibbles (acc ++ (a ∷ b ∷ c ∷ [])))) e
    (coded_is longest s ((acc ++ (a ∷ b ∷ c ∷ [])) ++ (x ∷ [])) bs t l)
  where
    r : Read (List ℕ)
    r = plain_run longest s ((acc ++ (a ∷ b ∷ c ∷ [])) ++ (x ∷ []))

    go : (p : Bool) → eqb x y ≡ p → (z : Bool) → eqb x 0 ≡ z → (m : Bool)
        → pick p (pick z (read (acc ++ (a ∷ b ∷ c ∷ [])) s) (fault Pair)) (pick m (fault Length) r) ≡ read bs t
        → (r ≡ read bs t → Coded ((acc ++ (a ∷ b ∷ c ∷ [])) ++ (x ∷ [])) bs s t)
        → Coded acc bs (a ∷ b ∷ c ∷ x ∷ y ∷ s) t
    go true p true z m e rest =
        let u = eqb-true x y p in
        let v = eqb-true x 0 z in
        record {
          new = a ∷ b ∷ c ∷ [];
          bits_are = cc;
          slots_are = cc;
          long = refl;
          below = one ha (one hb (one hc none));
        }
    go true p false z m e rest = absurd (fault_read e)
    go false p z h true e rest = absurd (fault_read e)
    go false p z h false e rest =
        let k = rest e in
        let d = eqb-false x y p in
        let y-is : y ≡ 1 - x = omega arith in
        let s-is = k.slots_are in
        record {
          new = a ∷ b ∷ c ∷ x ∷ k.new;
          bits_are = k.bits_are ∙ snoc4 acc a b c x k.new;
          slots_are = cc;
          long = omega (arith, k.long);
          below = one ha (one hb (one hc (one hx k.below)));
        }

acknowledged_is : (s : List ℕ) (a : Bool) (t : List ℕ) → Below 2 s → acknowledged s ≡ read a t → s ≡ acknowledge_slots a ++ t
unfolding acknowledged second_slot acknowledge_slots
acknowledged_is [] a t l e = absurd (fault_read e)
acknowledged_is (x ∷ []) a t l e = go (eqb x 1) e
  where
    go : (p : Bool) → pick p (fault CutShort) (fault Acknowledge) ≡ read a t → x ∷ [] ≡ acknowledge_slots a ++ t
    go true e = absurd (fault_read e)
    go false e = absurd (fault_read e)
acknowledged_is (x ∷ y ∷ s) a t (one hx (one hy l)) e = go (eqb x 1) refl (eqb y 0) refl e
  where
    go : (p : Bool) → eqb x 1 ≡ p → (q : Bool) → eqb y 0 ≡ q → pick p (read q s) (fault Acknowledge) ≡ read a t → x ∷ y ∷ s ≡ acknowledge_slots a ++ t
    go true p true q e =
        let a-is : true ≡ a = cc in
        let t-is : s ≡ t = cc in
        let u = eqb-true x 1 p in
        let v = eqb-true y 0 q in
        rw (← a-is, ← t-is) cc
    go true p false q e =
        let a-is : false ≡ a = cc in
        let t-is : s ≡ t = cc in
        let u = eqb-true x 1 p in
        let w = eqb-false y 0 q in
        let v : y ≡ 1 = omega arith in
        rw (← a-is, ← t-is) cc
    go false p q h e = absurd (fault_read e)

bits_of_value : (w : ℕ) (s : List ℕ) → Below 2 s → length s ≡ w → bits w (bits_value s) ≡ s
unfolding bits_value
bits_of_value w s l e = rw (← e) (bits_value_lem l 0)

bytes_bits : (n : ℕ) (s : List ℕ) → Below 2 s → 8 * n ≤ length s → byte_bits (bytes_of n s) ≡ take (8 * n) s
unfolding byte_bits bytes_of
bytes_bits zero s l h = refl
bytes_bits (suc n) s l h =
    let e : 8 * suc n ≡ 8 + 8 * n = omega arith in
    let d = length-drop 8 s in
    rw (bits_of_value 8 (take 8 s) (below_take 8 l) (length-take-le 8 s (omega arith)), bytes_bits n (drop 8 s) (below_drop 8 l) (omega arith), e)
    (sym (take-add 8 (8 * n) s))

pub bytes_long : (n : ℕ) (s : List ℕ) → length (bytes_of n s) ≡ n
unfolding bytes_of
bytes_long zero s = refl
bytes_long (suc n) s = ap suc (bytes_long n (drop 8 s))

value_lt : (w : ℕ) (s : List ℕ) → Below 2 s → length s ≡ w → bits_value s < 2 ^ w
value_lt w s l e = rw e at (value_below l)

bytes_are_below : (n : ℕ) (s : List ℕ) → Below 2 s → 8 * n ≤ length s → Below 256 (bytes_of n s)
unfolding bytes_of
bytes_are_below zero s l h = none
bytes_are_below (suc n) s l h =
    let d = length-drop 8 s in
    one (value_lt 8 (take 8 s) (below_take 8 l) (length-take-le 8 s (omega arith))) (bytes_are_below n (drop 8 s) (below_drop 8 l) (omega arith))

-- bits that hold a frame of n data bytes and its check
module _ (bs : List ℕ) (n : ℕ) (l : Below 2 bs) (long : length bs ≡ 31 + 8 * n) (a : Bool) where
  count_is : (length bs - 31) / 8 ≡ n
  count_is = omega arith

  covered_is : covered (frame_of bs a) ≡ take (16 + 8 * n) bs
  unfolding covered frame_of
  covered_is =
      let d = length-drop 12 bs in
      let d' = length-drop 16 bs in
      let e : 16 + 8 * n ≡ 12 + (4 + 8 * n) = omega arith in
      rw (count_is, bits_of_value 12 (take 12 bs) (below_take 12 l) (length-take-le 12 bs (omega arith)), bits_of_value 4 (take 4 (drop 12 bs)) (below_take 4 (below_drop 12 l)) (length-take-le 4 (drop 12 bs) (omega arith)), bytes_bits n (drop 16 bs) (below_drop 16 l) (omega arith), e, take-add 12 (4 + 8 * n) bs, take-add 4 (8 * n) (drop 12 bs), drop-drop 4 12 bs)

  carried_is : right bs ≡ true → carried (frame_of bs a) ≡ bs
  unfolding carried right
  carried_is r =
      let m : length bs - 15 ≡ 16 + 8 * n = omega arith in
      let d = length-drop (16 + 8 * n) bs in
      let c : bits_value (drop (16 + 8 * n) bs) ≡ check (take (16 + 8 * n) bs) = rw m at (eqb-true (bits_value (drop (length bs - 15) bs)) (check (take (length bs - 15) bs)) r) in
      rw (covered_is, ← c, bits_of_value 15 (drop (16 + 8 * n) bs) (below_drop (16 + 8 * n) l) (omega arith)) (take-append-drop (16 + 8 * n) bs)

  fits_is : (longest : ℕ) → n ≤ longest → Fits longest (frame_of bs a)
  unfolding frame_of
  fits_is longest h =
      let d = length-drop 12 bs in
      let d' = length-drop 16 bs in
      let i = value_lt 12 (take 12 bs) (below_take 12 l) (length-take-le 12 bs (omega arith)) in
      let c = value_lt 4 (take 4 (drop 12 bs)) (below_take 4 (below_drop 12 l)) (length-take-le 4 (drop 12 bs) (omega arith)) in
      record {
        identifier = omega arith;
        command = omega arith;
        size = rw (count_is, bytes_long n (drop 16 bs)) h;
        bytes = rw count_is (bytes_are_below n (drop 16 bs) (below_drop 16 l) (omega arith));
      }

pub both : (t : Bool) (y : Bool) → pick t y false ≡ true → (t ≡ true) × (y ≡ true)
both true y e = (refl, e)
both false y e = absurd (false≢true e)

whole_is : (longest : ℕ) (bs : List ℕ) → length bs % 4 ≡ 3 → whole longest (nibbles bs) ≡ true
    → (length bs ≡ 31 + 8 * ((length bs - 31) / 8)) × ((length bs - 31) / 8 ≤ longest)
unfolding whole nibbles most
whole_is longest bs h e =
    let j : ℕ = length bs / 4 in
    let p = both (eqb (j % 2) 1) (pick (leb 7 j) (leb j (7 + 2 * longest)) false) e in
    let q = both (leb 7 j) (leb j (7 + 2 * longest)) p.1 in
    let o = eqb-true (j % 2) 1 p.0 in
    let m = leb-true 7 j q.0 in
    let u = leb-true j (7 + 2 * longest) q.1 in
    (omega arith, omega arith)

ended_is : (g : Frame) (s : List ℕ) (f : Frame) → ended g s ≡ frame f → (s ≡ []) × (g ≡ f)
unfolding ended
ended_is g [] f e = (refl, cc)
ended_is g (x ∷ s) f e = absurd (refused_frame e)

closing_is : (bs s : List ℕ) (f : Frame) → Below 2 s → closing bs s ≡ frame f
    → (a : Bool) × (frame_of bs a ≡ f) × (s ≡ acknowledge_slots a ++ end_of_frame)
unfolding closing
closing_is bs s f l e =
    let p = after_frame (acknowledged s) (λ a s₁. after (expected EndOfFrame end_of_frame s₁) (λ u s₂. ended (frame_of bs a) s₂)) f e in
    go p.0 p.1 p.2 p.3
  where
    go : (a : Bool) (s₁ : List ℕ) → acknowledged s ≡ read a s₁ → after (expected EndOfFrame end_of_frame s₁) (λ u s₂. ended (frame_of bs a) s₂) ≡ frame f
        → (a : Bool) × (frame_of bs a ≡ f) × (s ≡ acknowledge_slots a ++ end_of_frame)
    go a s₁ e₁ d =
        let q = after_frame (expected EndOfFrame end_of_frame s₁) (λ u s₂. ended (frame_of bs a) s₂) f d in
        let x = ended_is (frame_of bs a) q.1 f q.3 in
        let y : s₁ ≡ end_of_frame = expected_is EndOfFrame end_of_frame s₁ q.1 q.2 ∙ rw x.0 (append-nil end_of_frame) in
        (a, x.1, acknowledged_is s a s₁ l e₁ ∙ ap (λ (t : List ℕ). acknowledge_slots a ++ t) y)

-- from the end of the start on
abbrev IsFrame : ℕ → List ℕ → Frame → Type 0
IsFrame longest s f =
    Fits longest f × (s ≡ line_code (carried f) ++ (end_of_data ++ (acknowledge_slots f.acknowledge ++ end_of_frame)))

module _ (longest : ℕ) (s bs t : List ℕ) (k : Coded [] bs s t) (w : whole longest (nibbles bs) ≡ true) (r : right bs ≡ true) (a : Bool) (e : t ≡ acknowledge_slots a ++ end_of_frame) where
  is_frame : IsFrame longest s (frame_of bs a)
  unfolding end_of_data frame_of
  is_frame =
      let b : Below 2 bs = rw k.bits_are k.below in
      let n = whole_is longest bs (rw k.bits_are k.long) w in
      let q : carried (frame_of bs a) ≡ bs = carried_is bs ((length bs - 31) / 8) b n.0 a r in
      (fits_is bs ((length bs - 31) / 8) b n.0 a longest n.1, k.slots_are ∙ rw (q, ← e, k.bits_are))

coded_frame : (longest : ℕ) (s : List ℕ) (f : Frame) → Below 2 s → (bs t : List ℕ) → plain_run longest s [] ≡ read bs t → judged longest bs t ≡ frame f → IsFrame longest s f
unfolding judged
coded_frame longest s f l bs t e d =
    let k = coded_is longest s [] bs t l e in
    let w = passed (whole longest (nibbles bs)) (pick (right bs) (closing bs t) (refused Check)) Length f d in
    let r = passed (right bs) (closing bs t) Check f w.1 in
    let lt : Below 2 t = below_right (0 ∷ 0 ∷ []) t (below_right (line_code k.new) (0 ∷ 0 ∷ t) (rw k.slots_are at l)) in
    let c = closing_is bs t f lt r.1 in
    subst (IsFrame longest s) c.1 (is_frame longest s bs t k w.0 r.0 c.0 c.2)

-- what is read as a frame is that frame's slots, and the frame's numbers are in their ranges
pub read_is : (longest : ℕ) (s : List ℕ) (f : Frame) → reading longest s ≡ frame f → Fits longest f × (s ≡ slots f)
unfolding reading slots
read_is longest s f e =
    let p = passed (levels s) (after (expected Start start s) (λ u s₁. after (plain_run longest s₁ []) (judged longest))) Level f e in
    let q = after_frame (expected Start start s) (λ u s₁. after (plain_run longest s₁ []) (judged longest)) f p.1 in
    go q.1 p.0 q.2 q.3
  where
    go : (t : List ℕ) → levels s ≡ true → expected Start start s ≡ read tt t → after (plain_run longest t []) (judged longest) ≡ frame f
        → Fits longest f × (s ≡ slots f)
    go t b x y =
        let d : s ≡ start ++ t = expected_is Start start s t x in
        let lt : Below 2 t = below_right start t (rw d at (below_levels s b)) in
        let q = after_frame (plain_run longest t []) (judged longest) f y in
        let c = coded_frame longest t f lt q.0 q.1 q.2 q.3 in
        (c.0, d ∙ ap (λ (r : List ℕ). start ++ r) c.1)

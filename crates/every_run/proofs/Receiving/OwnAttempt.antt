-- The model's own frame as its receiver takes it, up to the end of the data: there contention may be lost, and the frame go on as another module's.
--   Own == the frame that a service sends        Placed == where its slot k stands for the receiver
use Prim.Native.Nat.{ℕ, ◌+◌, ◌-◌, ◌*◌, ◌/◌, ◌%◌, ◌≤◌, ◌<◌, min}
use mathlib.Core.Bool.{Bool, true, false}
use mathlib.Core.List.{List, ◌++◌}
use mathlib.Core.Path.{◌≡◌, refl, ap, ◌∙◌, sym}
use native.Mathlib.Omega.{arith}
use borrow.Author.Tests.{lt-ltb, ne_eqb, eq-eqb, ltb-true, ltb-false}
use lib.Dec.{ltb}
use lib.ListN.{length, get_or, take, get_or-append}
use Rattle.line.specs.LineCode.{line_code}
use Rattle.line.specs.Frame.{Frame, Fits, byte_bits, start, end_of_data, acknowledge_slots, end_of_frame, carried}
use Rattle.line.proofs.Laws.{picked}
use Rattle.line.proofs.Levels.{level_at_lem}
use Rattle.line.specs.Layout.{part_of, in_five, bit_of, coded_level, level_in, level_of}
use Rattle.line.specs.declared.Part.{Part}
use Rattle.line.specs.declared.Part.TheVariants as part
use Rattle.rules.specs.Definitions.Mailbox.{coded}
use Rattle.rules.specs.Definitions.Longest.{capacity, most_nibbles}
use Rattle.rules.specs.Definitions.Reception.{at_place, command_ended, moved, entered, bit_taken, more_nibbles, bits_laid, data_ended, nibble_taken, follow_start, follow_body, follow_in, followed, winner_taken}
use Rattle.rules.specs.Definitions.Longest.{most_nibbles}
use Rattle.rules.specs.Definitions.Hearing.{reception_after, hear_second_half, hear_body, hear_start, hear_in, hear_frame}
use Rattle.rules.specs.Definitions.Attempt.{sent_slots, level_at, due}
use Rattle.rules.specs.Definitions.Slots.{reception_judged}
use Rattle.every_run.proofs.Sending.Frames.{wider, level_coded}
use Rattle.rules.specs.declared.Phase.{Phase}
use Rattle.rules.specs.declared.Phase.TheVariants.{Start, Body}
use Rattle.rules.specs.declared.Reception.{Reception}
use Rattle.rules.specs.declared.Hearing.TheVariants.{Follows}
use Rattle.rules.specs.declared.Coded.{Coded}

-- ---- the model's own frame, up to the end of its data

pub record Own (longest : ℕ) (x : Coded) : Type 0 where
  pub most : longest ≤ capacity
  pub frame : Frame
  pub fits : Fits longest frame
  pub silent : frame.acknowledge ≡ false
  pub same : x ≡ coded frame

pub level_start : (x : Coded) (k : ℕ) → k < 10 → level_at x k ≡ get_or start k 1
unfolding level_at sent_slots start
level_start x k h =
    get_or-append start (line_code (take (31 + 8 * (x.n % (capacity + 1))) (byte_bits x.bytes)) ++ (end_of_data ++ (acknowledge_slots false ++ end_of_frame))) 1 k h

pub due_level : (x : Coded) (k : ℕ) → k < 30 + 10 * x.n → due x k ≡ level_at x k
unfolding due
due_level x k h = rw (ne_eqb k (51 + 10 * x.n) (λ e. omega arith))

level_inside : (f : Frame) (k : ℕ) → 10 ≤ k → k < 30 + 10 * length f.bytes → level_of f k ≡ coded_level f k
unfolding level_of part_of level_in
level_inside f k a b =
    picked P (ltb k 10) part.Start _ (λ e. absurd (omega (arith, ltb-true))) λ e₁.
    picked P (ltb k 25) part.Identifier _ (λ e. refl) λ e₂.
    picked P (ltb k 30) part.Command _ (λ e. refl) λ e₃.
    picked P (ltb k (30 + 10 * length f.bytes)) part.Data _ (λ e. refl) (λ e. absurd (omega (arith, ltb-false)))
  where
    P : Part → Type 0
    P p = level_in f k p ≡ coded_level f k

second_level : (f : Frame) (q k : ℕ) → k ≡ 10 + 5 * q + 4 → coded_level f k ≡ 1 - get_or (carried f) (4 * q + 3) 0
unfolding coded_level in_five bit_of
second_level f q k e =
    let i : (k - 10) % 5 ≡ 4 = omega arith in
    let j : (k - 10) / 5 * 4 + min 4 3 ≡ 4 * q + 3 = omega arith in
    rw (i, j)

first_level : (f : Frame) (q k : ℕ) → k ≡ 10 + 5 * q + 4 → coded_level f (k - 1) ≡ get_or (carried f) (4 * q + 3) 0
unfolding coded_level in_five bit_of
first_level f q k e =
    let i : (k - 1 - 10) % 5 ≡ 3 = omega arith in
    let j : (k - 1 - 10) / 5 * 4 + min 3 3 ≡ 4 * q + 3 = omega arith in
    rw (i, j)

own_level : {longest : ℕ} (x : Coded) (o : Own longest x) (k : ℕ) → 10 ≤ k → k < 30 + 10 * x.n → level_at x k ≡ coded_level o.frame k
own_level x o k a b =
    let f : Frame = o.frame in
    let n : x.n ≡ length f.bytes = ap (λ (y : Coded). y.n) o.same ∙ (unfold coded in refl) in
    ap (λ (y : Coded). level_at y k) o.same ∙ level_coded f (wider o.most o.fits) o.silent k ∙ sym (level_at_lem f k) ∙ level_inside f k a (omega arith)

-- a second half is unlike the first
unlike : {longest : ℕ} (x : Coded) → Own longest x → (q k : ℕ) → k ≡ 10 + 5 * q + 4 → k < 30 + 10 * x.n → level_at x k ≡ level_at x (k - 1) → ⊥
unlike x o q k e h d =
    let a : level_at x k ≡ 1 - get_or (carried o.frame) (4 * q + 3) 0 = own_level x o k (omega arith) h ∙ second_level o.frame q k e in
    let b : level_at x (k - 1) ≡ get_or (carried o.frame) (4 * q + 3) 0 = own_level x o (k - 1) (omega arith) (omega arith) ∙ first_level o.frame q k e in
    omega arith

pub data Placed (x : Coded) (k : ℕ) (r : Reception) : Type 0 where
  in_start : r.place.phase ≡ Start → r.place.at ≡ k → k ≤ 9 → r.nibbles ≡ 0 → Placed x k r
  in_code : r.place.phase ≡ Body → k ≡ 10 + 5 * r.nibbles + r.place.at → r.place.at ≤ 4 → (r.place.at ≡ 4 → r.bits % 2 ≡ level_at x (k - 1)) → Placed x k r

module _ (longest : ℕ) (x : Coded) (k : ℕ) (r : Reception) (v : ℕ) where
  start_follows : r.place.phase ≡ Start → r.place.at ≡ k → k ≤ 9 → v ≡ level_at x k → hear_frame r longest v ≡ Follows
  unfolding hear_frame hear_in hear_start
  start_follows p a h e = rw (p, a, eq-eqb v (get_or start k 1) (e ∙ level_start x k (omega arith)))

  hear_open : r.place.phase ≡ Body → r.place.at < 4 → hear_frame r longest v ≡ Follows
  unfolding hear_frame hear_in hear_body
  hear_open p a = rw (p, lt-ltb r.place.at 4 a)

  hear_second : r.place.phase ≡ Body → r.place.at ≡ 4 → r.nibbles < most_nibbles longest → (v ≡ r.bits % 2 → ⊥) → hear_frame r longest v ≡ Follows
  unfolding hear_frame hear_in hear_body hear_second_half
  hear_second p a n d = rw (p, a, ne_eqb v (r.bits % 2) d, lt-ltb r.nibbles (most_nibbles longest) n)

  second_unlike : Own longest x → k < 30 + 10 * x.n → v ≡ level_at x k → k ≡ 10 + 5 * r.nibbles + r.place.at → r.place.at ≡ 4 → r.bits % 2 ≡ level_at x (k - 1) → v ≡ r.bits % 2 → ⊥
  second_unlike o h e q a b d = unlike x o r.nibbles k (omega arith) h (sym e ∙ d ∙ b)

  -- a slot of the own frame that is sampled as driven follows
  pub own_follows : Own longest x → k < 30 + 10 * x.n → x.n ≤ longest → v ≡ level_at x k → Placed x k r → hear_frame r longest v ≡ Follows
  own_follows o h n e (in_start p a i z) = start_follows p a i e
  own_follows o h n e (in_code p q i b) = go (ltb r.place.at 4) refl
    where
      go : (t : Bool) → ltb r.place.at 4 ≡ t → hear_frame r longest v ≡ Follows
      go true d = hear_open p (ltb-true _ _ d)
      go false d =
          let a : r.place.at ≡ 4 = omega (arith, ltb-false) in
          hear_second p a (omega arith) (second_unlike o h e q a (b a))

  -- one that is lost follows, whatever it was sampled as
  pub lost_follows : 10 ≤ k → in_five k < 4 → Placed x k r → hear_frame r longest v ≡ Follows
  lost_follows h i (in_start p a j z) = absurd (omega arith)
  lost_follows h i (in_code p q j b) = hear_open p (unfold in_five in omega (arith, i))

  followed_in : (p : Phase) → r.place.phase ≡ p → followed r v ≡ follow_in p r v
  unfolding followed
  followed_in p e = ap (λ (q : Phase). follow_in q r v) e

  placed_start : r.place.phase ≡ Start → r.place.at ≡ k → k ≤ 9 → r.nibbles ≡ 0 → Placed x (k + 1) (followed r v)
  unfolding follow_in follow_start moved entered at_place
  placed_start p a h z =
      rw (followed_in Start p)
      (picked (Placed x (k + 1)) (ltb r.place.at 9) (moved r) (entered r Body)
      (λ e. in_start p (omega arith) (omega (arith, ltb-true)) z)
      (λ e. in_code refl (omega (arith, ltb-false)) (omega arith) (λ d. absurd (omega arith))))

  placed_code : r.place.phase ≡ Body → k ≡ 10 + 5 * r.nibbles + r.place.at → r.place.at ≤ 4 → r.nibbles < most_nibbles capacity
      → v < 2 → v ≡ level_at x k → (r.place.at ≡ 4 → v ≡ r.bits % 2 → ⊥) → Placed x (k + 1) (followed r v)
  unfolding follow_in follow_body bit_taken moved nibble_taken data_ended bits_laid entered more_nibbles at_place
  placed_code p q h n small e d =
      rw (followed_in Body p)
      (picked (Placed x (k + 1)) (ltb r.place.at 4) (bit_taken r v) _
      (λ i. in_code p (omega arith) (omega (arith, ltb-true)) (λ j. bit_last))
      (λ i. rw (ne_eqb v (r.bits % 2) (d (omega (arith, ltb-false))), lt-ltb r.nibbles (most_nibbles capacity) n) (in_code refl (omega (arith, ltb-false)) (omega arith) (λ j. absurd (omega arith)))))
    where
      bit_last : (r.bits % 8 * 2 + v % 2) % 2 ≡ level_at x (k + 1 - 1)
      bit_last = let a : (r.bits % 8 * 2 + v % 2) % 2 ≡ v = omega arith in let b : k + 1 - 1 ≡ k = omega arith in rw (a, b) e

  -- and the next slot is at its place
  pub placed_next : Own longest x → k < 30 + 10 * x.n → x.n ≤ longest → v < 2 → v ≡ level_at x k → Placed x k r → Placed x (k + 1) (followed r v)
  placed_next o h n small e (in_start p a i z) = placed_start p a i z
  placed_next o h n small e (in_code p q i b) = placed_code p q i (omega (arith, o.most)) small e (λ a. second_unlike o h e q a (b a))

pub own_small : {longest : ℕ} (x : Coded) → Own longest x → x.n ≤ longest
own_small x o = let n : x.n ≡ length o.frame.bytes = ap (λ (y : Coded). y.n) o.same ∙ (unfold coded in refl) in omega (arith, o.fits.size)

placed_named : {x : Coded} {k : ℕ} {r : Reception} (m : List ℕ) → Placed x k r → Placed x k (winner_taken r m)
unfolding winner_taken
placed_named m (in_start p a h z) = in_start p a h z
placed_named m (in_code p q h b) = in_code p q h b

pub placed_judged : {x : Coded} {k : ℕ} (m : List ℕ) (r : Reception) (v : ℕ) → Placed x k (followed r v) → Placed x k (reception_judged m Follows r v)
unfolding reception_judged reception_after
placed_judged {x} {k} m r v p =
    picked (Placed x k) (command_ended (followed r v)) (winner_taken (followed r v) m) (followed r v) (λ e. placed_named m p) (λ e. p)

-- Which channel takes a frame, what it holds, and where the frame's bytes go: laws of `winner_for` and `received`.
use Prim.Native.Nat.{ℕ, zero, suc, ◌+◌, ◌*◌, ◌/◌, ◌%◌, ◌≤◌, ◌<◌}
use mathlib.Core.Bool.{Bool, true, false, false≢true}
use mathlib.Core.List.{List, [], ◌∷◌, ◌++◌}
use mathlib.Core.Logic.{◌↔◌}
use mathlib.Core.Path.{◌≡◌, refl, sym, ◌∙◌, ap}
use native.Mathlib.Nat.{zero-add}
use native.Mathlib.Omega.{arith}
use borrow.Author.Tests.{le-leb, lt-leb, leb-true, leb-false, eqb-true, eqb-false}
use lib.Dec.{eqb, leb}
use lib.ListN.{length, get_or, set, replicate, length-set, length-append, get_or-append}
use lib.Seq.{get_or-append-add, get_or-set_same, get_or-set_other}
use Rattle.std.specs.Prelude.{Option, None, Some}
use Rattle.line.specs.Bits.{pick}
use Rattle.line.specs.Check.{check}
use Rattle.line.specs.Frame.{Frame, Fits, covered}
use Rattle.line.proofs.Laws.{picked}
use Rattle.rules.specs.Definitions.Registers.{both, read_only, write_only, reset_values}
use Rattle.rules.specs.Definitions.Longest.{capacity}
use Rattle.rules.specs.Definitions.Channels.{twelve, channels, base, channel_at, length_of, drak, no_buffer, own_buffer, linked_buffer, buffer_of, matches, listens, takes, nobody, winner_of, lowest, lowest_listening, won, winner_for}
use Rattle.rules.proofs.Logic.{both_true}
use Rattle.rules.proofs.Matching.Lowest.{found}
use Rattle.rules.specs.Definitions.Mailbox.{mailbox_at, status_byte, laid_from, stored, check_bytes, retagged, marked_cher, marked_chtx, marked_chrx, rows_written, reset_memory}
use Rattle.every_run.specs.Valid.{high, low}
use Rattle.rules.specs.Definitions.Delivery.{memory_stored, memory_delivered}
use Rattle.rules.specs.Definitions.Service.{memory_ended, memory_replied}
use Rattle.rules.specs.Definitions.Slots.{memory_judged, judged_slot, sampled_slot, diagnosed_slot, active_slot, resting_slot}
use Rattle.rules.specs.Definitions.Host.{reset_all, resets, sleeps, kept_byte, byte_written, host_written}
use Rattle.rules.specs.Definitions.Run.{fresh, refuse, accept, answered, rested_slot, next, after}
use Rattle.every_run.proofs.Steps.{Step, refusal, reset, wrote, gave, went, rested, step_of, resting_is}
use Rattle.every_run.specs.Receiving.{stored_bytes, stored_frame, received}
use Rattle.claims.specs.Claims.{buffer_channel, Held}
use Rattle.rules.specs.declared.Channel.{Channel}
use Rattle.rules.specs.declared.Buffer.{Buffer}
use Rattle.rules.specs.declared.Winner.{Winner}
use Rattle.rules.specs.declared.Reception.{Reception}
use Rattle.rules.specs.declared.Delivery.{Delivery}
use Rattle.rules.specs.declared.Delivery.TheVariants as effect
use Rattle.rules.specs.declared.Ending.{Ending}
use Rattle.rules.specs.declared.Ending.TheVariants.{Going, Sent, Exhausted, Aborted, Rearbitrated, Fulfilled}
use Rattle.rules.specs.declared.Verdict.{Verdict}
use Rattle.rules.specs.declared.Verdict.TheVariants.{Unjudged, Goes, Lost, Failed, Done, Answered}
use Rattle.rules.specs.declared.Answer.{Answer}
use Rattle.rules.specs.declared.Controller.{Controller}
use Rattle.rules.specs.declared.Event.{Event}

-- ---- who takes it

none_found : (passes : ℕ → Bool) (left from : ℕ) → lowest passes left from ≡ None → (k : ℕ) → from ≤ k → k < from + left → passes k ≡ false
unfolding lowest
none_found passes zero from e k a b = absurd (omega arith)
none_found passes (suc left) from e k a b = go (passes from) refl e (none_found passes left (from + 1)) (eqb k from) refl
  where
    go : (p : Bool) → passes from ≡ p → pick p (Some from) (lowest passes left (from + 1)) ≡ None
        → (lowest passes left (from + 1) ≡ None → (j : ℕ) → from + 1 ≤ j → j < from + 1 + left → passes j ≡ false)
        → (q : Bool) → eqb k from ≡ q → passes k ≡ false
    go true p h rest q z = absurd (let y : ◌≡◌ {A = ℕ} 0 1 = cc in omega arith)
    go false p h rest true z = let y : k ≡ from = eqb-true _ _ z in rw y p
    go false p h rest false z = let y : k ≡ from → ⊥ = eqb-false _ _ z in rest h k (omega (arith, y)) (omega arith)

module _ (m : List ℕ) (high low : ℕ) where
  pub winner_lowest : (winner_for m high low).matched ≡ true
      → (takes m (winner_for m high low).channel high low ≡ true) × ((k : ℕ) → k < (winner_for m high low).channel → takes m k high low ≡ false)
  unfolding winner_for lowest_listening
  winner_lowest = go (lowest (λ c. takes m c high low) 14 0) refl
    where
      go : (x : Option ℕ) → lowest (λ c. takes m c high low) 14 0 ≡ x → (won m x).matched ≡ true
          → (takes m (won m x).channel high low ≡ true) × ((k : ℕ) → k < (won m x).channel → takes m k high low ≡ false)
      go None e h = absurd (false≢true (unfold won nobody in h))
      go (Some c) e h = unfold won winner_of in let f = found (λ c. takes m c high low) 14 0 c e in (f.0, λ k i. f.1 k (omega arith) i)

  pub winner_none : (winner_for m high low).matched ≡ false → (k : ℕ) → k < 14 → takes m k high low ≡ false
  unfolding winner_for lowest_listening
  winner_none = go (lowest (λ c. takes m c high low) 14 0) refl
    where
      go : (x : Option ℕ) → lowest (λ c. takes m c high low) 14 0 ≡ x → (won m x).matched ≡ false → (k : ℕ) → k < 14 → takes m k high low ≡ false
      go None e h k i = none_found (λ c. takes m c high low) 14 0 e k (omega arith) (omega arith)
      go (Some c) e h k i = absurd (false≢true (sym (unfold won winner_of in h)))

-- ---- what it holds

own_held : (x : Channel) → (own_buffer x).legal ≡ true → ((own_buffer x).pointer ≡ x.pointer % 128) × ((own_buffer x).length ≡ x.status / 8) × (1 ≤ (own_buffer x).length)
unfolding own_buffer no_buffer length_of
own_held x =
    picked (λ (b : Buffer). b.legal ≡ true → (b.pointer ≡ x.pointer % 128) × (b.length ≡ x.status / 8) × (1 ≤ b.length)) (eqb (x.status / 8) 0) no_buffer _ (λ e h. absurd (false≢true h))
    (λ e h. let n : x.status / 8 ≡ 0 → ⊥ = eqb-false _ _ e in (refl, refl, omega (arith, n)))

own_legal : (x : Channel) → 1 ≤ x.status / 8 → (own_buffer x).legal ≡ true
unfolding own_buffer length_of
own_legal x h = picked (λ (b : Buffer). b.legal ≡ true) (eqb (x.status / 8) 0) no_buffer _ (λ e. let z : x.status / 8 ≡ 0 = eqb-true _ _ e in absurd (omega arith)) (λ e. refl)

linked_held : (m : List ℕ) (c link : ℕ) → (linked_buffer m c link).legal ≡ true
    → ((linked_buffer m c link).pointer ≡ (channel_at m link).pointer % 128) × ((linked_buffer m c link).length ≡ (channel_at m link).status / 8) × (1 ≤ (linked_buffer m c link).length) × (link < 14)
unfolding linked_buffer no_buffer
linked_held m c link =
    picked P (leb channels link) no_buffer _ (λ e h. absurd (false≢true h))
    (λ e. picked P (eqb link c) no_buffer _ (λ d h. absurd (false≢true h)) (λ d h. let o = own_held (channel_at m link) h in (o.0, o.1, o.2, leb-false channels link e)))
  where
    P : Buffer → Type 0
    P b = b.legal ≡ true → (b.pointer ≡ (channel_at m link).pointer % 128) × (b.length ≡ (channel_at m link).status / 8) × (1 ≤ b.length) × (link < 14)

module _ (m : List ℕ) (c : ℕ) where
  abbrev link : ℕ
  link = get_or m (base c + 2) 0 % 16

  buffer_as : (b : Bool) → (pick b (linked_buffer m c link) (own_buffer (channel_at m c))).legal ≡ true
      → ((pick b (linked_buffer m c link) (own_buffer (channel_at m c))).pointer ≡ get_or m (base (pick b link c) + 2) 0 % 128)
      × ((pick b (linked_buffer m c link) (own_buffer (channel_at m c))).length ≡ get_or m (base (pick b link c) + 3) 0 / 8)
  unfolding channel_at
  buffer_as true h = let o = linked_held m c link h in (o.0, o.1)
  buffer_as false h = let o = own_held (channel_at m c) h in (o.0, o.1)

  winner_of_held : (buffer_of m c).legal ≡ true → Held m (winner_of m c)
  unfolding buffer_of winner_of buffer_channel channel_at length_of drak
  winner_of_held h = let o = buffer_as (eqb (get_or m (base c + 3) 0 / 8) 0) h in record { own_drak = refl; pointer_used = o.0; length_used = o.1 }

  legal_as : (b : Bool) → eqb (get_or m (base c + 3) 0 / 8) 0 ≡ b → pick b link c < 14 → 1 ≤ get_or m (base (pick b link c) + 3) 0 / 8
      → (pick b (linked_buffer m c link) (own_buffer (channel_at m c))).legal ≡ true
  unfolding channel_at linked_buffer
  legal_as true e i n =
      rw (lt-leb channels link i)
      (picked (λ (b : Buffer). b.legal ≡ true) (eqb link c) no_buffer (own_buffer (channel_at m link)) (λ d. absurd (itself (eqb-true _ _ d) (eqb-true _ _ e) n)) (λ d. own_legal (channel_at m link) n))
    where
      itself : link ≡ c → get_or m (base c + 3) 0 / 8 ≡ 0 → 1 ≤ get_or m (base link + 3) 0 / 8 → ⊥
      itself q z h = let k : get_or m (base link + 3) 0 / 8 ≡ get_or m (base c + 3) 0 / 8 = ap (λ (x : ℕ). get_or m (base x + 3) 0 / 8) q in omega arith
  legal_as false e i n = own_legal (channel_at m c) n

  pub legal_exactly : c < 14 → ((buffer_of m c).legal ≡ true) ↔ ((buffer_channel m c < 14) × (1 ≤ get_or m (base (buffer_channel m c) + 3) 0 / 8))
  unfolding buffer_of buffer_channel channel_at length_of
  legal_exactly i = (λ h. forth (eqb (get_or m (base c + 3) 0 / 8) 0) h, λ p. legal_as (eqb (get_or m (base c + 3) 0 / 8) 0) refl p.0 p.1)
    where
      forth : (b : Bool) → (pick b (linked_buffer m c link) (own_buffer (channel_at m c))).legal ≡ true
          → (pick b link c < 14) × (1 ≤ get_or m (base (pick b link c) + 3) 0 / 8)
      forth true h = let o = linked_held m c link h in (o.3, let z = o.1 in let y = o.2 in omega arith)
      forth false h = let o = own_held (channel_at m c) h in (i, let z = o.1 in let y = o.2 in omega arith)

module _ (m : List ℕ) (high low : ℕ) where
  takes_legal : (c : ℕ) → takes m c high low ≡ true → (buffer_of m c).legal ≡ true
  unfolding takes
  takes_legal c h =
      let a : Bool = matches (twelve (channel_at m c).high (channel_at m c).low) (twelve (channel_at m c).mask_high (channel_at m c).mask_low) (twelve high low) in
      (both_true a (buffer_of m c).legal (both_true (listens (channel_at m c) low) (both a (buffer_of m c).legal) h).1).1

  pub winner_held : (winner_for m high low).matched ≡ true → Held m (winner_for m high low)
  unfolding winner_for lowest_listening
  winner_held = go (lowest (λ c. takes m c high low) 14 0) refl
    where
      go : (x : Option ℕ) → lowest (λ c. takes m c high low) 14 0 ≡ x → (won m x).matched ≡ true → Held m (won m x)
      go None e h = absurd (false≢true (unfold won nobody in h))
      go (Some c) e h = unfold won in winner_of_held m c (takes_legal c (found (λ c. takes m c high low) 14 0 c e).0)

-- ---- bytes laid into the mailbox

laid_other : (bs m : List ℕ) (p k a : ℕ) → ((j : ℕ) → j < length bs → a ≡ mailbox_at p (k + j) → ⊥) → get_or (laid_from m p k bs) a 0 ≡ get_or m a 0
unfolding laid_from mailbox_at
laid_other [] m p k a h = refl
laid_other (b ∷ bs) m p k a h =
    laid_other bs (set m (mailbox_at p k) b) p (k + 1) a (λ j i e. h (suc j) (omega arith) (omega arith))
    ∙ get_or-set_other m (mailbox_at p k) a b 0 (λ e. h 0 (omega arith) (omega arith))

laid_same : (bs m : List ℕ) (p k : ℕ) → length m ≡ 256 → length bs ≤ 128 → (j : ℕ) → j < length bs → get_or (laid_from m p k bs) (mailbox_at p (k + j)) 0 ≡ get_or bs j 0
unfolding laid_from
laid_same [] m p k l n j h = absurd (omega arith)
laid_same (b ∷ bs) m p k l n zero h =
    let z : k + 0 ≡ k = omega arith in
    rw z
    (laid_other bs (set m (mailbox_at p k) b) p (k + 1) (mailbox_at p k) (λ j i e. unfold mailbox_at in omega arith)
    ∙ get_or-set_same m (mailbox_at p k) b 0 (unfold mailbox_at in omega arith))
laid_same (b ∷ bs) m p k l n (suc j) h =
    let e : k + suc j ≡ k + 1 + j = omega arith in
    rw e (laid_same bs (set m (mailbox_at p k) b) p (k + 1) (length-set m (mailbox_at p k) b ∙ l) (omega arith) j (omega arith))

-- ---- the frame

module _ (m : List ℕ) (w : Winner) (f : Frame) where
  pub no_winner : w.matched ≡ false → received m w f ≡ m
  unfolding received
  no_winner e = rw e

  pub too_long : w.matched ≡ true → w.length ≤ length f.bytes → received m w f ≡ marked_cher m w.channel
  unfolding received
  too_long e h = rw (e, lt-leb (length f.bytes + 1) w.length (omega arith))

  received_fits : w.matched ≡ true → length f.bytes + 1 ≤ w.length → received m w f ≡ stored_frame m w f
  unfolding received
  received_fits e h = rw (e, le-leb (length f.bytes + 1) w.length (omega arith))

  -- the channel's own bytes are not the mailbox's
  channel_bytes : (x : List ℕ) (a : ℕ) → (a ≡ base w.channel → ⊥) → (a ≡ base w.channel + 1 → ⊥) → (a ≡ base w.channel + 3 → ⊥)
      → get_or (marked_chrx (retagged x w.channel (high f) (low f)) w.channel) a 0 ≡ get_or x a 0
  unfolding marked_chrx retagged
  channel_bytes x a h i j =
      get_or-set_other (retagged x w.channel (high f) (low f)) (base w.channel + 3) a _ 0 j
      ∙ get_or-set_other (set x (base w.channel) (high f)) (base w.channel + 1) a _ 0 i
      ∙ get_or-set_other x (base w.channel) a _ 0 h

  mailbox_apart : (k : ℕ) (d : ℕ) → d ≤ 7 → mailbox_at w.pointer k ≡ base w.channel + d → ⊥
  unfolding mailbox_at base
  mailbox_apart k d h e = omega arith

  laid_in : (x : List ℕ) (k : ℕ) → get_or (marked_chrx (retagged x w.channel (high f) (low f)) w.channel) (mailbox_at w.pointer k) 0 ≡ get_or x (mailbox_at w.pointer k) 0
  laid_in x k = channel_bytes x (mailbox_at w.pointer k) (λ e. mailbox_apart k 0 (omega arith) (omega arith)) (mailbox_apart k 1 (omega arith)) (mailbox_apart k 3 (omega arith))

  -- status byte and data, and behind them the check or nothing
  front : List ℕ
  front = status_byte (low f) (length f.bytes) ∷ f.bytes

  tail : Bool → List ℕ
  tail b = pick b (check_bytes f) []

  abbrev spare : Bool
  spare = leb (length f.bytes + 3) w.length

  tail_short : (b : Bool) → length (tail b) ≤ 2
  unfolding tail
  tail_short true = omega arith
  tail_short false = omega arith

  stored_long : length (stored_bytes w f) ≡ length f.bytes + 1 + length (tail spare)
  unfolding stored_bytes tail
  stored_long = let e = length-append f.bytes (tail spare) in omega (arith, e)

  laid_at : length m ≡ 256 → Fits capacity f → w.matched ≡ true → length f.bytes + 1 ≤ w.length
      → (k : ℕ) → k < length f.bytes + 1 + length (tail spare) → get_or (received m w f) (mailbox_at w.pointer k) 0 ≡ get_or (front ++ tail spare) k 0
  unfolding stored_frame stored_bytes front tail
  laid_at l g e h k i =
      let z = g.size in
      let s = tail_short spare in
      let n = stored_long in
      rw (received_fits e h)
      (laid_in _ k
      ∙ ap (λ (i : ℕ). get_or (laid_from m w.pointer 0 (stored_bytes w f)) (mailbox_at w.pointer i) 0) (sym (zero-add k))
      ∙ laid_same (stored_bytes w f) m w.pointer 0 l (omega arith) k (omega arith))

  pub message_at : length m ≡ 256 → Fits capacity f → w.matched ≡ true → length f.bytes + 1 ≤ w.length
      → (k : ℕ) → k ≤ length f.bytes → get_or (received m w f) (mailbox_at w.pointer k) 0 ≡ get_or (status_byte (low f) (length f.bytes) ∷ f.bytes) k 0
  unfolding front
  message_at l g e h k i = laid_at l g e h k (omega arith) ∙ get_or-append front (tail spare) 0 k (omega arith)

  tail_at : length m ≡ 256 → Fits capacity f → w.matched ≡ true → length f.bytes + 3 ≤ w.length
      → (k : ℕ) → k < 2 → get_or (received m w f) (mailbox_at w.pointer (length f.bytes + 1 + k)) 0 ≡ get_or (check_bytes f) k 0
  unfolding front tail
  tail_at l g e h k i =
      let b : spare ≡ true = le-leb (length f.bytes + 3) w.length h in
      let z : length f.bytes + 1 + k ≡ suc (length f.bytes) + k = omega arith in
      let t : length (tail spare) ≡ 2 = rw b in
      laid_at l g e (omega arith) (length f.bytes + 1 + k) (omega arith)
      ∙ ap (λ (j : ℕ). get_or (front ++ tail spare) j 0) z ∙ get_or-append-add front (tail spare) k 0 ∙ ap (λ (b : Bool). get_or (tail b) k 0) b

  pub check_at : length m ≡ 256 → Fits capacity f → w.matched ≡ true → length f.bytes + 3 ≤ w.length
      → (get_or (received m w f) (mailbox_at w.pointer (length f.bytes + 1)) 0 ≡ check (covered f) / 128)
      × (get_or (received m w f) (mailbox_at w.pointer (length f.bytes + 2)) 0 ≡ check (covered f) % 128 * 2)
  check_at l g e h =
      let a : length f.bytes + 1 + 0 ≡ length f.bytes + 1 = omega arith in
      let b : length f.bytes + 1 + 1 ≡ length f.bytes + 2 = omega arith in
      (rw (← a) (tail_at l g e h 0 (omega arith)), rw (← b) (tail_at l g e h 1 (omega arith)))

  -- what is not laid: a place behind the data is one of the check's
  behind_data : (a : ℕ) → (length f.bytes + 3 ≤ w.length → (a ≡ mailbox_at w.pointer (length f.bytes + 1) → ⊥) × (a ≡ mailbox_at w.pointer (length f.bytes + 2) → ⊥))
      → (b : Bool) → spare ≡ b → (k : ℕ) → length f.bytes < k → k < length f.bytes + 1 + length (tail b) → a ≡ mailbox_at w.pointer k → ⊥
  unfolding tail
  behind_data a n true e k i j q =
      let h = n (leb-true (length f.bytes + 3) w.length e) in
      go (eqb k (length f.bytes + 1)) refl h
    where
      go : (x : Bool) → eqb k (length f.bytes + 1) ≡ x → (a ≡ mailbox_at w.pointer (length f.bytes + 1) → ⊥) × (a ≡ mailbox_at w.pointer (length f.bytes + 2) → ⊥) → ⊥
      go true z h = h.0 (q ∙ ap (mailbox_at w.pointer) (eqb-true _ _ z))
      go false z h =
          let y : k ≡ length f.bytes + 1 → ⊥ = eqb-false _ _ z in
          let v : k ≡ length f.bytes + 2 = omega (arith, y) in
          h.1 (q ∙ ap (mailbox_at w.pointer) v)
  behind_data a n false e k i j q = omega arith

  pub elsewhere : w.matched ≡ true → length f.bytes + 1 ≤ w.length
      → (a : ℕ) → ((k : ℕ) → k ≤ length f.bytes → a ≡ mailbox_at w.pointer k → ⊥)
      → (length f.bytes + 3 ≤ w.length → (a ≡ mailbox_at w.pointer (length f.bytes + 1) → ⊥) × (a ≡ mailbox_at w.pointer (length f.bytes + 2) → ⊥))
      → (a ≡ base w.channel → ⊥) → (a ≡ base w.channel + 1 → ⊥) → (a ≡ base w.channel + 3 → ⊥) → get_or (received m w f) a 0 ≡ get_or m a 0
  unfolding stored_frame
  elsewhere e h a n b x y z =
      rw (received_fits e h) (channel_bytes _ a x y z ∙ laid_other (stored_bytes w f) m w.pointer 0 a (λ j i q. go j i (leb j (length f.bytes)) refl (q ∙ ap (mailbox_at w.pointer) (zero-add j))))
    where
      go : (j : ℕ) → j < length (stored_bytes w f) → (x : Bool) → leb j (length f.bytes) ≡ x → a ≡ mailbox_at w.pointer j → ⊥
      go j i true v q = n j (leb-true _ _ v) q
      go j i false v q = let u = leb-false j (length f.bytes) v in behind_data a b spare refl j (omega arith) (omega (arith, stored_long)) q

  pub within_places : (a : ℕ) → 128 ≤ a → ((k : ℕ) → k < w.length → a ≡ mailbox_at w.pointer k → ⊥) → get_or (received m w f) a 0 ≡ get_or m a 0
  unfolding base
  within_places a i n = go w.matched refl (leb (length f.bytes + 1) w.length) refl
    where
      go : (x : Bool) → w.matched ≡ x → (y : Bool) → leb (length f.bytes + 1) w.length ≡ y → get_or (received m w f) a 0 ≡ get_or m a 0
      go false e y h = rw (no_winner e)
      go true e false h = let u = leb-false (length f.bytes + 1) w.length h in rw (too_long e (omega arith)) (unfold marked_cher in get_or-set_other m (base w.channel + 3) a _ 0 (λ q. omega arith))
      go true e true h =
          let u = leb-true (length f.bytes + 1) w.length h in
          elsewhere e u a (λ k j q. n k (omega arith) q) (λ h. (n _ (omega arith), n _ (omega arith))) (λ q. omega arith) (λ q. omega arith) (λ q. omega arith)

-- ---- the map's length, over every run

laid_length : (bs m : List ℕ) (p k : ℕ) → length (laid_from m p k bs) ≡ length m
unfolding laid_from
laid_length [] m p k = refl
laid_length (b ∷ bs) m p k = laid_length bs (set m (mailbox_at p k) b) p (k + 1) ∙ length-set m (mailbox_at p k) b

ended_length : (x : Ending) (m : List ℕ) (c : ℕ) → length (memory_ended x m c) ≡ length m
unfolding memory_ended marked_chtx marked_cher
ended_length Going m c = refl
ended_length Sent m c = length-set m _ _
ended_length Exhausted m c = length-set (marked_cher m c) _ _ ∙ length-set m _ _
ended_length Aborted m c = length-set m _ _
ended_length Rearbitrated m c = refl
ended_length Fulfilled m c = refl

replied_length : (q : Verdict) (m : List ℕ) (c : ℕ) → length (memory_replied q m c) ≡ length m
unfolding memory_replied marked_chtx marked_chrx marked_cher
replied_length Unjudged m c = refl
replied_length Goes m c = refl
replied_length Lost m c = refl
replied_length (Failed code) m c = length-set m _ _
replied_length Done m c = length-set (marked_chtx m c) _ _ ∙ length-set m _ _
replied_length Answered m c = refl

delivered_length : (d : Delivery) (m : List ℕ) (r : Reception) → length (memory_delivered d m r) ≡ length m
unfolding memory_delivered memory_stored stored marked_chrx retagged marked_cher
delivered_length effect.Nothing m r = refl
delivered_length effect.Stored m r = simp (length-set, laid_length)
delivered_length effect.Overflowed m r = length-set m _ _
delivered_length effect.Spoiled m r = length-set m _ _

reset_length : (m : List ℕ) → length (reset_memory m) ≡ length m
unfolding reset_memory rows_written reset_values read_only
reset_length m = simp length-set

written_length : (c : Controller) (a v : ℕ) → length (host_written c a v).memory ≡ length c.memory
unfolding host_written reset_all byte_written kept_byte
written_length c a v =
    picked (λ (x : Controller). length x.memory ≡ length c.memory) (resets a v) (reset_all c) _ (λ e. reset_length c.memory)
    (λ e. picked (λ (x : Controller). length x.memory ≡ length c.memory) (sleeps a v) _ (byte_written c a v) (λ d. refl)
    (λ d. ended_length _ (kept_byte c.memory a v) c.core.service.channel
    ∙ picked (λ (x : List ℕ). length x ≡ length c.memory) (write_only a) c.memory (set c.memory (a % 256) v) (λ i. refl) (λ i. length-set c.memory (a % 256) v)))

slot_length : (c : Controller) (l : ℕ) → length (active_slot c l).memory ≡ length c.memory
unfolding active_slot diagnosed_slot sampled_slot judged_slot memory_judged
slot_length c l = replied_length _ _ _ ∙ ended_length _ _ _ ∙ delivered_length _ c.memory c.core.reception

rest_length : (c : Controller) (l : ℕ) → length (resting_slot c l).memory ≡ length c.memory
rest_length c l = ap (λ (d : Controller). length d.memory) (resting_is c l)

kept_length : (c : Controller) (e : Event) → Step c e → length (next c e).memory ≡ length c.memory
unfolding next refuse accept answered rested_slot reset_all
kept_length c e (refusal n h) = ap (λ (x : Answer). length x.next.memory) h
kept_length c e (reset h) = ap (λ (x : Answer). length x.next.memory) h ∙ reset_length c.memory
kept_length c e (wrote h) = ap (λ (x : Answer). length x.next.memory) h ∙ written_length c _ _
kept_length c e (gave v h) = ap (λ (x : Answer). length x.next.memory) h
kept_length c e (went a h) = ap (λ (x : Answer). length x.next.memory) h ∙ slot_length c _
kept_length c e (rested a h) = ap (λ (x : Answer). length x.next.memory) h ∙ rest_length c _

run_length : (c : Controller) (es : List Event) → length (after c es).memory ≡ length c.memory
unfolding after
run_length c [] = refl
run_length c (e ∷ es) = run_length (next c e) es ∙ kept_length c e (step_of c e)

pub map_long : (es : List Event) → length (after fresh es).memory ≡ 256
unfolding fresh reset_all
map_long es = run_length fresh es ∙ reset_length (replicate 256 0)

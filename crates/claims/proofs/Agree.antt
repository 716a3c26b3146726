-- The receiver and the decoder agree.
use Prim.Native.Nat.{ℕ, ◌≤◌, ◌<◌}
use mathlib.Core.Bool.{Bool, true, false, false≢true}
use mathlib.Core.List.{List, [], ◌∷◌, ◌++◌, append_assoc}
use mathlib.Core.Path.{◌≡◌, refl, sym, ◌∙◌, ap, subst}
use native.Mathlib.Omega.{arith}
use borrow.Author.Tests.{eqb-false, ltb-true, ltb-false}
use lib.Dec.{eqb, ltb, eqb-suc-zero}
use lib.ListN.{length, length-append}
use Rattle.line.specs.Bits.{pick, Below, none, one}
use Rattle.line.specs.Frame.{Frame, Fits, slots, size}
use Rattle.line.proofs.Laws.{slots_length}
use Rattle.codec.proofs.Exact.{codec}
use Rattle.rules.specs.Definitions.Channels.{nobody, winner_for}
use Rattle.rules.specs.Definitions.Longest.{capacity}
use Rattle.rules.specs.Definitions.Reception.{begun}
use Rattle.rules.specs.Definitions.Hearing.{hear_frame}
use Rattle.every_run.specs.Valid.{high, low, owes, Valid}
use Rattle.every_run.proofs.Receiving.Invariant.{Whole}
use Rattle.every_run.proofs.Receiving.InvariantLaws.{invariant_header, invariant_good, invariant_last, invariant_goes}
use Rattle.rules.specs.Definitions.Slots.{reception_judged}
use Rattle.every_run.specs.Receiving.{Log, no_log, sampled_log}
use Rattle.every_run.proofs.Receiving.Log.{Following, begun_following, following_next, none_wins}
use Rattle.rules.specs.declared.Reception.{Reception}
use Rattle.rules.specs.declared.Winner.{Winner}
use Rattle.rules.specs.declared.Hearing.{Hearing}
use Rattle.rules.specs.declared.Hearing.TheVariants.{Silent, Follows, Fault, Good}
use Rattle.claims.specs.Agree.{goes_on, receives, Accepted}

-- the map is held once the last command slot is past
abbrev Late : List ℕ → Log → Type 0
Late m l = 30 ≤ length l.samples → l.held ≡ m

late_next : (m : List ℕ) (l : Log) (v : ℕ) → Late m l → Late m (sampled_log l v m)
unfolding sampled_log
late_next m l v i h = go (eqb (length (l.samples ++ (v ∷ []))) 30) refl
  where
    go : (b : Bool) → eqb (length (l.samples ++ (v ∷ []))) 30 ≡ b → pick b m l.held ≡ m
    go true e = refl
    go false e = let n = length-append l.samples (v ∷ []) in let d : length (l.samples ++ (v ∷ [])) ≡ 30 → ⊥ = eqb-false _ 30 e in i (omega (arith, d))

valid_for : (w : Winner) (f : Frame) → w ≡ nobody → {x : Winner} → Valid x f → Valid w f
unfolding owes nobody
valid_for w f e v = record { request = v.request; asked = v.asked; driven = λ o. absurd (false≢true (sym (ap (λ (y : Winner). owes y f) e) ∙ o)) }

empty : (s : List ℕ) → eqb (length s) 0 ≡ true → s ≡ []
empty [] e = refl
empty (x ∷ s) e = absurd (false≢true (sym (eqb-suc-zero (length s)) ∙ e))

-- a frame whose slots begin with the samples
pub record Ends (longest : ℕ) (m : List ℕ) (l : Log) (s : List ℕ) : Type 0 where
  pub which : Frame
  pub fits : Fits longest which
  pub slots_are : l.samples ++ s ≡ slots which
  pub valid : Valid (winner_for m (high which) (low which)) which

module _ (longest : ℕ) (most : longest ≤ capacity) (m : List ℕ) where
  ends_here : (r : Reception) (l : Log) → Following longest r l → Late m l → (v : ℕ) → v < 2 → hear_frame r longest v ≡ Good → Ends longest m l (v ∷ [])
  unfolding size
  ends_here r l f i v h e =
      let w : Whole longest r (l.samples ++ (v ∷ [])) = invariant_good r l.samples f.invariant v h e in
      let a = length-append l.samples (v ∷ []) in
      let b : length (l.samples ++ (v ∷ [])) ≡ size (length w.frame.bytes) = ap length w.slots_are ∙ slots_length w.frame in
      let k : l.held ≡ m = i (omega arith) in
      let n : r.winner ≡ winner_for m (high w.frame) (low w.frame) = f.winner ∙ rw (k, w.high_is, w.low_is) in
      record { which = w.frame; fits = w.fits; slots_are = w.slots_are; valid = subst (λ (x : Winner). Valid x w.frame) n w.valid }

  longer : (l : Log) (v : ℕ) (s : List ℕ) → (sampled_log l v m).samples ++ s ≡ l.samples ++ (v ∷ s)
  unfolding sampled_log
  longer l v s = append_assoc l.samples (v ∷ []) s

  sound_from : (s : List ℕ) → Below 2 s → (r : Reception) (l : Log) → Following longest r l → Late m l → receives longest m r s ≡ true → Ends longest m l s
  unfolding receives goes_on
  sound_from [] none r l f i e = absurd (false≢true e)
  sound_from (v ∷ s) (one y b) r l f i e = go (λ k q j. sound_from s b k q j) (hear_frame r longest v) refl e
    where
      go : ((k : Reception) (q : Log) → Following longest k q → Late m q → receives longest m k s ≡ true → Ends longest m q s) → (h : Hearing) → hear_frame r longest v ≡ h → goes_on h s (receives longest m (reception_judged m Follows r v) s) ≡ true → Ends longest m l (v ∷ s)
      go rec Silent d x = absurd (false≢true x)
      go rec Follows d x =
          let t = rec (reception_judged m Follows r v) (sampled_log l v m) (following_next r l f v y d m) (late_next m l v i) x in
          record { which = t.which; fits = t.fits; slots_are = sym (longer l v s) ∙ t.slots_are; valid = t.valid }
      go rec (Fault code) d x = absurd (false≢true x)
      go rec Good d x = rw (empty s x) (ends_here r l f i v y d)

  -- who takes it: nobody before the map is held
  winner_valid : (r : Reception) (l : Log) → Following longest r l → Late m l → (f : Frame) → Fits longest f → (rest : List ℕ) → l.samples ++ rest ≡ slots f
      → Valid (winner_for m (high f) (low f)) f → Valid r.winner f
  winner_valid r l w i f g rest e v = go (ltb (length l.samples) 30) refl
    where
      go : (b : Bool) → ltb (length l.samples) 30 ≡ b → Valid r.winner f
      go true d = let n : l.held ≡ [] = w.before (ltb-true _ _ d) in valid_for r.winner f (w.winner ∙ rw n (none_wins _ _)) v
      go false d =
          let h = ltb-false _ _ d in
          let k = invariant_header r l.samples w.invariant h f g rest e in
          let n : r.winner ≡ winner_for m (high f) (low f) = w.winner ∙ rw (i h, k.0, k.1) in
          subst (λ (x : Winner). Valid x f) (sym n) v

  complete_from : (v : ℕ) (s : List ℕ) → Below 2 (v ∷ s) → (r : Reception) (l : Log) → Following longest r l → Late m l → Ends longest m l (v ∷ s) → receives longest m r (v ∷ s) ≡ true
  unfolding receives goes_on
  complete_from v [] b r l f i t = rw (invariant_last r l.samples f.invariant t.which t.fits v t.slots_are)
  complete_from v (x ∷ s) (one y b) r l f i t =
      let d : hear_frame r longest v ≡ Follows =
      invariant_goes r l.samples f.invariant t.which t.fits (winner_valid r l f i t.which t.fits (v ∷ x ∷ s) t.slots_are t.valid) v x s t.slots_are in
      rw d (complete_from x s b (reception_judged m Follows r v) (sampled_log l v m) (following_next r l f v y d m) (late_next m l v i)
      (record { which = t.which; fits = t.fits; slots_are = longer l v (x ∷ s) ∙ t.slots_are; valid = t.valid }))

  late_begun : Late m (sampled_log no_log 0 m)
  unfolding sampled_log no_log
  late_begun h = absurd (omega arith)

  begun_samples : (s : List ℕ) → (sampled_log no_log 0 m).samples ++ s ≡ 0 ∷ s
  unfolding sampled_log no_log
  begun_samples s = refl

  pub agree_sound : (s : List ℕ) → Below 2 s → receives longest m begun s ≡ true → Accepted longest m (0 ∷ s)
  agree_sound s b e =
      let t = sound_from s b begun (sampled_log no_log 0 m) (begun_following most m) late_begun e in
      record { which = t.which; decodes = ((codec longest).exact (0 ∷ s) t.which).1 (t.fits, sym (begun_samples s) ∙ t.slots_are); valid = t.valid }

  begun_short : (f : Frame) → 0 ∷ [] ≡ slots f → ⊥
  unfolding size
  begun_short f e = let b : length {A = ℕ} (0 ∷ []) ≡ size (length f.bytes) = ap length e ∙ slots_length f in omega arith

  pub agree_complete : (s : List ℕ) → Below 2 s → Accepted longest m (0 ∷ s) → receives longest m begun s ≡ true
  agree_complete [] b a = absurd (begun_short a.which (((codec longest).exact (0 ∷ []) a.which).0 a.decodes).1)
  agree_complete (v ∷ s) b a =
      let k = ((codec longest).exact (0 ∷ v ∷ s) a.which).0 a.decodes in
      complete_from v s b begun (sampled_log no_log 0 m) (begun_following most m) late_begun
      (record { which = a.which; fits = k.0; slots_are = begun_samples (v ∷ s) ∙ k.1; valid = a.valid })

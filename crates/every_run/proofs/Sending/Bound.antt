-- The tally alone: what holds of it between events, and what a judged slot keeps.
--   Good == the bounds between events        Bounded == errors and slots of a tally, as demand 3 states them
use Prim.Native.Nat.{ℕ, suc, ◌+◌, ◌*◌, ◌≤◌, ◌<◌}
use mathlib.Core.Bool.{Bool, true, false, false≢true}
use mathlib.Core.List.{List, [], ◌∷◌, ◌++◌}
use mathlib.Core.Path.{◌≡◌, refl, ap, ◌∙◌, sym, subst}
use native.Mathlib.Nat.{mul-le-mul_right}
use native.Mathlib.Numerals.{add-one}
use native.Mathlib.Omega.{arith}
use borrow.Author.Tests.{ltb-true, ltb-false, eqb-true}
use lib.Dec.{eqb, ltb}
use lib.ListN.{length, get_or, take, drop, length-append, length-drop, take-append-drop}
use lib.Seq.{drop-cons, take-suc, get_or-drop}
use Rattle.std.specs.Prelude.{Option, None, Some}
use Rattle.line.specs.Bits.{pick, Below}
use Rattle.line.specs.Frame.{Frame, Fits, slots, size}
use Rattle.line.proofs.Laws.{slots_length, picked}
use Rattle.line.specs.Layout.{part_of, half_of}
use Rattle.rules.specs.Definitions.Registers.{both, command, transmit_control, autonomous, asks_rearbitration}
use Rattle.rules.specs.Definitions.Channels.{base, cher, lowest_ready, channels, ready}
use Rattle.rules.specs.Definitions.Mailbox.{frame_with, sent_frame}
use Rattle.rules.specs.Definitions.Reception.{under_way, start_ended}
use Rattle.every_run.proofs.Ranges.Bytes.{fits_ready, setting_small}
use Rattle.rules.proofs.Matching.Lowest.{found}
use Rattle.rules.proofs.Logic.{both_true}
use Rattle.rules.specs.declared.Reception.{Reception}
use Rattle.every_run.specs.Tally as tally
use Rattle.every_run.specs.Tally.{Stand, away, between, opening, inside, answered, Tally, none, Verdict, goes, contended, failed, sent, answers, Answering, comes, wasted, request_t, replied_as, due_level, verdict, spent_t, judged_as, counted_in, counted_t, given_up, ended_in, ended_t, chosen_t, choice_t, choose_in, choose_t, start_in, start_t, is_away, asks, asked_in, asked_t, open_half_t, arbitrated_t}
use Rattle.every_run.proofs.Sending.Join.{attempting}
use Rattle.every_run.specs.Sending.{Opens, Origin, own, joined, Drives, bound_of}

-- slots of the attempt under way
unfoldable pub taken : Stand → ℕ
taken away = 0
taken between = 0
taken (opening start) = 0
taken (inside start levels) = length levels
taken (answered start n) = n

abbrev pub Standing : ℕ → Stand → Frame → Type 0
Standing longest away f = Unit {0}
Standing longest between f = Unit {0}
Standing longest (opening start) f = Origin start
Standing longest (answered start n) f = Origin start × (start + n < size longest) × (request_t f ≡ true)
Standing longest (inside start levels) f = Origin start × (start + length levels < size (length f.bytes)) × (levels ≡ take (length levels) (drop start (slots f)))

pub record Good (longest : ℕ) (t : Tally) : Type 0 where
  pub errors : t.errors ≤ t.setting
  pub setting : t.setting ≤ 15
  pub spent : t.slots ≤ (t.lost + t.errors) * size (bound_of longest t.frame) + taken t.stand
  pub stands : Standing longest t.stand t.frame
  pub fits : is_away t.stand ≡ false → Fits longest t.frame × (t.frame.acknowledge ≡ false)

pub record Bounded (longest : ℕ) (t : Tally) : Type 0 where
  pub errors : t.errors ≤ t.setting + 1
  pub slots : t.slots ≤ (t.lost + t.setting + 1) * size (bound_of longest t.frame)

-- a frame that fits is no longer than its bound
bound_least : {longest : ℕ} (f : Frame) → Fits longest f → size (length f.bytes) ≤ size (bound_of longest f)
unfolding bound_of size
bound_least {longest} f h = go (request_t f)
  where
    go : (b : Bool) → 60 + 10 * length f.bytes ≤ 60 + 10 * pick b longest (length f.bytes)
    go true = omega (arith, h.size)
    go false = omega arith

request_bound : (longest : ℕ) (f : Frame) → request_t f ≡ true → size longest ≡ size (bound_of longest f)
unfolding bound_of
request_bound longest f e = rw e

-- ---- the levels driven

long_enough : (f : Frame) (k : ℕ) → k < size (length f.bytes) → k < length (slots f)
long_enough f k h = let l = slots_length f in omega arith

-- in the first slot of an attempt
opens_first : (f : Frame) (start : ℕ) → start < size (length f.bytes) → Opens (get_or (slots f) start 1 ∷ []) (drop start (slots f))
opens_first f start h = record { rest = drop (suc start) (slots f); whole = sym (drop-cons (slots f) start 1 (long_enough f start h)) }

module _ (f : Frame) (start : ℕ) (levels : List ℕ) (h : start + length levels < size (length f.bytes)) (e : levels ≡ take (length levels) (drop start (slots f))) where
  left_long : length levels < length (drop start (slots f))
  left_long = let l = slots_length f in let d = length-drop start (slots f) in omega arith

  pub one_more : levels ++ (get_or (slots f) (start + length levels) 1 ∷ []) ≡ take (suc (length levels)) (drop start (slots f))
  one_more =
      sym (take-suc (drop start (slots f)) (length levels) 1 left_long ∙ rw (get_or-drop start (slots f) (length levels) 1) (ap (λ (l : List ℕ). l ++ (get_or (slots f) (start + length levels) 1 ∷ [])) (sym e)))

  pub opens_on : Opens (levels ++ (get_or (slots f) (start + length levels) 1 ∷ [])) (drop start (slots f))
  opens_on = record { rest = drop (suc (length levels)) (drop start (slots f)); whole = ap (λ (l : List ℕ). l ++ drop (suc (length levels)) (drop start (slots f))) one_more ∙ take-append-drop (suc (length levels)) (drop start (slots f)) }

origin_small : {start : ℕ} (n : ℕ) → Origin start → start < size n
unfolding size
origin_small n own = omega arith
origin_small n joined = omega arith

-- the frame's level in the slot to come
unfoldable pub level_in : Stand → Frame → ℕ
level_in away f = 1
level_in between f = 1
level_in (opening start) f = get_or (slots f) start 1
level_in (inside start levels) f = get_or (slots f) (start + length levels) 1
level_in (answered start n) f = 1

-- every attempt drives an opening part of the frame
pub drives_in : (longest : ℕ) (s : Stand) (f : Frame) → Standing longest s f → (d : ℕ) → (attempting s ≡ true → d ≡ level_in s f) → Drives s f d
unfolding level_in attempting
drives_in longest away f g d q = tt
drives_in longest between f g d q = tt
drives_in longest (opening start) f g d q = (g, rw (q refl) (opens_first f start (origin_small (length f.bytes) g)))
drives_in longest (inside start levels) f g d q = (g.0, rw (q refl) (opens_on f start levels g.1 g.2))
drives_in longest (answered start n) f g d q = tt

-- ---- bounds

taken_small : (longest : ℕ) (s : Stand) (f : Frame) → Standing longest s f → (is_away s ≡ false → Fits longest f) → taken s ≤ size (bound_of longest f)
unfolding taken
taken_small longest away f g h = omega arith
taken_small longest between f g h = omega arith
taken_small longest (opening start) f g h = omega arith
taken_small longest (inside start levels) f g h = let k = g.1 in let b = bound_least f (h (unfold is_away in refl)) in omega arith
taken_small longest (answered start n) f g h = let k = g.1 in let b = request_bound longest f g.2 in omega arith

pub bounded_now : {longest : ℕ} (t : Tally) → Good longest t → Bounded longest t
bounded_now {longest} t g =
    let s : ℕ = size (bound_of longest t.frame) in
    let k = taken_small longest t.stand t.frame g.stands (λ a. (g.fits a).0) in
    let m : (t.lost + t.errors + 1) * s ≤ (t.lost + t.setting + 1) * s = mul-le-mul_right s (omega (arith, g.errors)) in
    record { errors = omega (arith, g.errors); slots = omega (arith, g.spent) }

-- a slot of an attempt in which l slots were spent before
module _ {longest : ℕ} (t : Tally) (start l : ℕ) (levels : List ℕ) (g : t.errors ≤ t.setting) (spent : t.slots ≤ (t.lost + t.errors) * size (bound_of longest t.frame) + l) (room : l + 1 ≤ size (bound_of longest t.frame)) where
  pub judged_bounded : (w : Verdict) → Bounded longest (judged_as w t start levels)
  unfolding judged_as spent_t
  judged_bounded goes =
      let s : ℕ = size (bound_of longest t.frame) in
      let m : (t.lost + t.errors + 1) * s ≤ (t.lost + t.setting + 1) * s = mul-le-mul_right s (omega arith) in
      record { errors = omega arith; slots = omega arith }
  judged_bounded contended =
      let s : ℕ = size (bound_of longest t.frame) in
      let m : (t.lost + t.errors + 1) * s ≤ (t.lost + 1 + t.setting + 1) * s = mul-le-mul_right s (omega arith) in
      record { errors = omega arith; slots = omega arith }
  judged_bounded failed =
      let s : ℕ = size (bound_of longest t.frame) in
      let m : (t.lost + t.errors + 1) * s ≤ (t.lost + t.setting + 1) * s = mul-le-mul_right s (omega arith) in
      record { errors = omega arith; slots = omega arith }
  judged_bounded sent =
      let s : ℕ = size (bound_of longest t.frame) in
      let m : (t.lost + t.errors + 1) * s ≤ (t.lost + t.setting + 1) * s = mul-le-mul_right s (omega arith) in
      record { errors = omega arith; slots = omega arith }
  judged_bounded answers =
      let s : ℕ = size (bound_of longest t.frame) in
      let m : (t.lost + t.errors + 1) * s ≤ (t.lost + t.setting + 1) * s = mul-le-mul_right s (omega arith) in
      record { errors = omega arith; slots = omega arith }

  pub replied_bounded : (y : Answering) (n : ℕ) → Bounded longest (replied_as y t start n)
  unfolding replied_as spent_t
  replied_bounded comes n =
      let s : ℕ = size (bound_of longest t.frame) in
      let m : (t.lost + t.errors + 1) * s ≤ (t.lost + t.setting + 1) * s = mul-le-mul_right s (omega arith) in
      record { errors = omega arith; slots = omega arith }
  replied_bounded tally.taken n =
      let s : ℕ = size (bound_of longest t.frame) in
      let m : (t.lost + t.errors + 1) * s ≤ (t.lost + t.setting + 1) * s = mul-le-mul_right s (omega arith) in
      record { errors = omega arith; slots = omega arith }
  replied_bounded wasted n =
      let s : ℕ = size (bound_of longest t.frame) in
      let m : (t.lost + t.errors + 1) * s ≤ (t.lost + t.setting + 1) * s = mul-le-mul_right s (omega arith) in
      record { errors = omega arith; slots = omega arith }

-- ---- between events

pub good_none : {longest : ℕ} → Good longest none
unfolding none is_away taken
good_none =
    record { errors = omega arith; setting = omega arith; spent = omega arith; stands = tt; fits = λ e. absurd (false≢true (sym e)) }

pub pick_good : {longest : ℕ} (b : Bool) {x y : Tally} → Good longest x → Good longest y → Good longest (pick b x y)
pick_good true p q = p
pick_good false p q = q

-- between attempts a tally that is not given up has at most R errors
kept_good : {longest : ℕ} (t : Tally) → (ltb t.setting t.errors ≡ false → Good longest t) → Good longest (pick (given_up t) none t)
unfolding given_up
kept_good {longest} t h = go (ltb t.setting t.errors) refl t.abort t.rear
  where
    go : (a : Bool) → ltb t.setting t.errors ≡ a → (b c : Bool) → Good longest (pick (pick a true (pick b true c)) none t)
    go true e b c = good_none
    go false e true c = good_none
    go false e false true = good_none
    go false e false false = h e

ended_good_in : {longest : ℕ} (s : Stand) (t : Tally) → Good longest t → Good longest (ended_in s t)
unfolding ended_in
ended_good_in away t g = good_none
ended_good_in between t g = pick_good (given_up t) good_none g
ended_good_in (opening start) t g = pick_good (given_up t) good_none g
ended_good_in (inside start levels) t g = g
ended_good_in (answered start n) t g = g

pub ended_good : {longest : ℕ} (t : Tally) → Good longest t → Good longest (ended_t t)
unfolding ended_t
ended_good t g = ended_good_in t.stand t g

-- ---- a judged slot, and the end of a service

-- an attempt goes on only before its last slot, and is answered only where it is a request, in its RTR
pub data Verdicts (f : Frame) (k : ℕ) : Verdict → Type 0 where
  on : k + 1 < size (length f.bytes) → Verdicts f k goes
  lost : Verdicts f k contended
  error : Verdicts f k failed
  last : Verdicts f k sent
  met : k ≡ 28 → request_t f ≡ true → Verdicts f k answers

pub verdict_of : (f : Frame) (k d v : ℕ) → Verdicts f k (verdict f k d v)
unfolding verdict
verdict_of f k d v =
    picked P (eqb v (due_level f k d)) _ _ (λ e. picked P (ltb (k + 1) (size (length f.bytes))) goes sent (λ h. on (ltb-true _ _ h)) (λ h. last))
    (λ e. picked P (both (eqb k 28) (request_t f)) answers _ (λ h. let b = both_true (eqb k 28) (request_t f) h in met (eqb-true k 28 b.0) b.1)
    (λ h. picked P (both (both (eqb d 1) (open_half_t (half_of (length f.bytes) k))) (arbitrated_t (part_of (length f.bytes) k))) contended failed (λ i. lost) (λ i. error)))
  where
    P : Verdict → Type 0
    P w = Verdicts f k w

module _ {longest : ℕ} (t : Tally) (g : Good longest t) (serving : is_away t.stand ≡ false) (start l : ℕ) (levels : List ℕ) (o : Origin start) (spent : t.slots ≤ (t.lost + t.errors) * size (bound_of longest t.frame) + l)
    (room : start + l < size (length t.frame.bytes)) (long : length levels ≡ l + 1) (led : levels ≡ take (length levels) (drop start (slots t.frame))) where
  judged_good : {w : Verdict} → Verdicts t.frame (start + l) w → Good longest (ended_t (judged_as w t start levels))
  unfolding judged_as spent_t ended_t ended_in
  judged_good (on k) =
      record {
        errors = omega (arith, g.errors);
        setting = g.setting;
        spent = unfold taken in omega arith;
        stands = (o, omega arith, led);
        fits = λ e. g.fits serving;
      }
  judged_good lost =
      kept_good (tally.with_lost (spent_t t between) (t.lost + 1))
      (λ e. unfold spent_t in
      record {
        errors = omega (arith, g.errors);
        setting = g.setting;
        spent = let b = bound_least t.frame (g.fits serving).0 in unfold taken in omega arith;
        stands = tt;
        fits = λ e. g.fits serving;
      })
  judged_good error =
      kept_good (tally.with_errors (spent_t t between) (t.errors + 1))
      (λ e. unfold spent_t in
      record {
        errors = ltb-false t.setting (t.errors + 1) (unfold spent_t in e);
        setting = g.setting;
        spent = let b = bound_least t.frame (g.fits serving).0 in unfold taken in omega arith;
        stands = tt;
        fits = λ e. g.fits serving;
      })
  judged_good last = good_none
  judged_good (met k r) =
      record {
        errors = omega (arith, g.errors);
        setting = g.setting;
        spent = unfold taken in omega arith;
        stands = (o, unfold size in omega arith, r);
        fits = λ e. g.fits serving;
      }

-- an answered attempt, n slots of which are past
module _ {longest : ℕ} (t : Tally) (g : Good longest t) (start n : ℕ) (stands : t.stand ≡ answered start n) where
  serves : is_away t.stand ≡ false
  serves = rw stands (unfold is_away in refl)

  standing : Standing longest (answered start n) t.frame
  standing = subst (λ (s : Stand). Standing longest s t.frame) stands g.stands

  so_far : t.slots ≤ (t.lost + t.errors) * size (bound_of longest t.frame) + n
  so_far = unfold taken in (subst (λ (s : Stand). t.slots ≤ (t.lost + t.errors) * size (bound_of longest t.frame) + taken s) stands g.spent)

  replied_room : n + 1 ≤ size (bound_of longest t.frame)
  replied_room = let b = request_bound longest t.frame standing.2 in let k = standing.1 in omega arith

  replied_good : (y : Answering) → (y ≡ comes → start + n + 1 < size longest) → Good longest (ended_t (replied_as y t start n))
  unfolding replied_as spent_t ended_t ended_in
  replied_good comes h =
      let k = h refl in
      record {
        errors = omega (arith, g.errors);
        setting = g.setting;
        spent = unfold taken in omega (arith, so_far);
        stands = (standing.0, omega arith, standing.2);
        fits = λ e. g.fits serves;
      }
  replied_good tally.taken h = good_none
  replied_good wasted h =
      kept_good (tally.with_errors (spent_t t between) (t.errors + 1))
      (λ e. unfold spent_t in
      record {
        errors = ltb-false t.setting (t.errors + 1) (unfold spent_t in e);
        setting = g.setting;
        spent = unfold taken in omega (arith, so_far, replied_room);
        stands = tt;
        fits = λ e. g.fits serves;
      })

-- ---- the whole slot

first_led : (f : Frame) (start : ℕ) → start < size (length f.bytes) → get_or (slots f) start 1 ∷ [] ≡ take 1 (drop start (slots f))
first_led f start h = rw (drop-cons (slots f) start 1 (long_enough f start h))

-- y is what the tally takes a slot of an answer for, and an answer that comes is not yet at its longest
abbrev pub Coming : ℕ → Stand → Answering → Type 0
Coming longest away y = Unit {0}
Coming longest between y = Unit {0}
Coming longest (opening start) y = Unit {0}
Coming longest (inside start levels) y = Unit {0}
Coming longest (answered start n) y = y ≡ comes → start + n + 1 < size longest

counted_bounded : {longest : ℕ} (s : Stand) (t : Tally) → t.stand ≡ s → Good longest t → (d v : ℕ) (y : Answering) → Coming longest s y → (attempting s ≡ true → d ≡ level_in s t.frame)
    → Good longest (ended_t (counted_in s t d v y)) × Bounded longest (counted_in s t d v y)
unfolding counted_in level_in attempting
counted_bounded away t e g d v y c q = (ended_good t g, bounded_now t g)
counted_bounded between t e g d v y c q = (ended_good t g, bounded_now t g)
counted_bounded {longest} (opening start) t e g d v y c q =
    let f : Frame = t.frame in
    let serving : is_away t.stand ≡ false = unfold is_away in rw e in
    let o : Origin start = subst (λ (s : Stand). Standing longest s f) e g.stands in
    let b : start + 0 < size (length f.bytes) = let h = origin_small (length f.bytes) o in omega arith in
    let u = bound_least f (g.fits serving).0 in
    let p : t.slots ≤ (t.lost + t.errors) * size (bound_of longest f) + 0 = unfold taken in (subst (λ (s : Stand). t.slots ≤ (t.lost + t.errors) * size (bound_of longest f) + taken s) e g.spent) in
    let w : d ∷ [] ≡ take 1 (drop start (slots f)) = rw (q refl) (first_led f start (omega arith)) in
    let n : start + 0 ≡ start = omega arith in
    let z : Verdicts f (start + 0) (verdict f start d v) = rw n (verdict_of f start d v) in (
      judged_good t g serving start 0 (d ∷ []) o p b refl w z,
      judged_bounded t start 0 (d ∷ []) g.errors p (omega arith) (verdict f start d v),
    )
counted_bounded {longest} (inside start levels) t e g d v y c q =
    let f : Frame = t.frame in
    let serving : is_away t.stand ≡ false = unfold is_away in rw e in
    let x : Standing longest (inside start levels) f = subst (λ (s : Stand). Standing longest s f) e g.stands in
    let u = bound_least f (g.fits serving).0 in
    let p : t.slots ≤ (t.lost + t.errors) * size (bound_of longest f) + length levels = unfold taken in (subst (λ (s : Stand). t.slots ≤ (t.lost + t.errors) * size (bound_of longest f) + taken s) e g.spent) in
    let n : length (levels ++ (d ∷ [])) ≡ length levels + 1 = length-append levels (d ∷ []) in
    let w : levels ++ (d ∷ []) ≡ take (length (levels ++ (d ∷ []))) (drop start (slots f)) = rw (n, add-one (length levels), q refl) (one_more f start levels x.1 x.2) in (
      judged_good t g serving start (length levels) (levels ++ (d ∷ [])) x.0 p x.1 n w (verdict_of f (start + length levels) d v),
      judged_bounded t start (length levels) (levels ++ (d ∷ [])) g.errors p (omega (arith, x.1)) (verdict f (start + length levels) d v),
    )
counted_bounded {longest} (answered start n) t e g d v y c q =
    (replied_good t g start n e y c, replied_bounded t start n [] g.errors (so_far t g start n e) (replied_room t g start n e) y n)

pub counted_good : {longest : ℕ} (t : Tally) → Good longest t → (d v : ℕ) (y : Answering) → Coming longest t.stand y → (attempting t.stand ≡ true → d ≡ level_in t.stand t.frame)
    → Good longest (ended_t (counted_t t d v y)) × Bounded longest (counted_t t d v y)
unfolding counted_t
counted_good t g d v y c q = counted_bounded t.stand t refl g d v y c q

-- ---- choice, start, and what a host write asks

ready_good : (m : List ℕ) (longest c : ℕ) → Below 256 m → ready m longest c ≡ true → Good longest (chosen_t m c)
ready_good m longest c b r =
    unfold chosen_t none taken in
    record { errors = omega arith; setting = setting_small m b; spent = omega arith; stands = tt; fits = λ d. (fits_ready m longest c b r, unfold sent_frame frame_with in refl) }

chosen_good : (m : List ℕ) (longest : ℕ) → Below 256 m → (x : Option ℕ) → lowest_ready m longest ≡ x → Good longest (choice_t m x)
unfolding choice_t lowest_ready
chosen_good m longest b None e = good_none
chosen_good m longest b (Some c) e = ready_good m longest c b (found (ready m longest) channels 0 c e).0

choose_good_in : (s : Stand) (t : Tally) (m : List ℕ) (longest : ℕ) (a : Bool) (r : Reception) → Below 256 m → Good longest t → Good longest (choose_in s t m longest a r)
unfolding choose_in
choose_good_in away t m longest a r b g = pick_good a (pick_good (under_way r.place) g (chosen_good m longest b (lowest_ready m longest) refl)) g
choose_good_in between t m longest a r b g = g
choose_good_in (opening start) t m longest a r b g = g
choose_good_in (inside start levels) t m longest a r b g = g
choose_good_in (answered start n) t m longest a r b g = g

opened_good : {longest : ℕ} (t : Tally) (start : ℕ) → Origin start → t.stand ≡ between → Good longest t → Good longest (tally.with_stand t (opening start))
unfolding taken
opened_good {longest} t start o e g =
    record {
      errors = omega (arith, g.errors);
      setting = g.setting;
      spent = let p : t.slots ≤ (t.lost + t.errors) * size (bound_of longest t.frame) + 0 = subst (λ (s : Stand). t.slots ≤ (t.lost + t.errors) * size (bound_of longest t.frame) + taken s) e g.spent in omega arith;
      stands = o;
      fits = λ x. g.fits (unfold is_away in rw e);
    }

start_good_in : {longest : ℕ} (s : Stand) (t : Tally) (m : List ℕ) (is_free : Bool) (r : Reception) → t.stand ≡ s → Good longest t → Good longest (start_in s t m is_free r)
unfolding start_in
start_good_in away t m is_free r e g = g
start_good_in between t m is_free r e g =
    pick_good (start_ended r) (opened_good t 10 joined e g)
    (pick_good (under_way r.place) g (pick_good (both (autonomous (get_or m transmit_control 0)) is_free) (opened_good t 0 own e g) g))
start_good_in (opening start) t m is_free r e g = g
start_good_in (inside start levels) t m is_free r e g = g
start_good_in (answered start n) t m is_free r e g = g

pub after_good : (t : Tally) (m : List ℕ) (longest : ℕ) (a is_free : Bool) (r : Reception) → Below 256 m → Good longest t → Good longest (start_t (choose_t t m longest a r) m is_free r)
unfolding start_t choose_t
after_good t m longest a is_free r b g = start_good_in (choose_in t.stand t m longest a r).stand (choose_in t.stand t m longest a r) m is_free r refl (choose_good_in t.stand t m longest a r b g)

asking_good : {longest : ℕ} (t : Tally) (a r : Bool) → Good longest t → Good longest (tally.with_rear (tally.with_abort t a) r)
asking_good t a r g = record { errors = g.errors; setting = g.setting; spent = g.spent; stands = g.stands; fits = g.fits }

asks_good : {longest : ℕ} (t : Tally) (address v : ℕ) → Good longest t → Good longest (asks t address v)
unfolding asks
asks_good t address v g =
    pick_good (eqb address command) (pick_good (asks_rearbitration v) (asking_good t t.abort true g) g)
    (pick_good (both (eqb address (base t.channel + 3)) (cher v)) (asking_good t true t.rear g) g)

asked_good_in : {longest : ℕ} (s : Stand) (t : Tally) (address v : ℕ) → Good longest t → Good longest (asked_in s t address v)
unfolding asked_in
asked_good_in away t address v g = g
asked_good_in between t address v g = asks_good t address v g
asked_good_in (opening start) t address v g = asks_good t address v g
asked_good_in (inside start levels) t address v g = asks_good t address v g
asked_good_in (answered start n) t address v g = asks_good t address v g

pub asked_good : {longest : ℕ} (t : Tally) (address v : ℕ) → Good longest t → Good longest (asked_t t address v)
unfolding asked_t
asked_good t address v g = asked_good_in t.stand t address v g

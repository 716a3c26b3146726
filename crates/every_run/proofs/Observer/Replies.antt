-- The controller's immediate reply is the observer's (02, Req 01).
--   reply_of == the reply that the observer's stands for        ReplyFits == its frame fits        SameReply == both
--   own_heard == what a sample is for a frame of the model's own        replied_of == how a sample ends the reply
use Prim.Native.Nat.{ℕ, ◌+◌, ◌*◌, ◌<◌}
use mathlib.Core.Bool.{Bool, true, false}
use mathlib.Core.List.{List, [], ◌∷◌, ◌++◌}
use mathlib.Core.Path.{◌≡◌, refl, ap, ◌∙◌, sym, subst}
use native.Mathlib.Omega.{arith}
use lib.Dec.{eqb, ltb}
use native.Mathlib.Nat.{add_assoc}
use native.Mathlib.Numerals.{add-one}
use lib.ListN.{length, get_or, take, drop, length-append}
use Rattle.std.specs.Prelude.{Option, None, Some}
use Rattle.line.specs.Bits.{pick, Below}
use Rattle.line.specs.Frame.{Frame, Fits, size, slots}
use Rattle.line.specs.Layout.{part_of, half_of}
use Rattle.rules.specs.Definitions.Longest.{capacity, longest_of}
use Rattle.rules.specs.Definitions.Registers.{both, CV, ACKE, FCSE}
use Rattle.rules.specs.Definitions.Channels.{buffer_of, replier_for}
use Rattle.rules.specs.Definitions.Mailbox.{frame_with, reply_frame, coded}
use Rattle.rules.specs.Definitions.Reception.{at_place, quiet, under_way, is_body, in_body, command_ended, reads_asked, reply_low, begun, follow_in, followed, winner_taken}
use Rattle.rules.specs.Definitions.Hearing.{reception_after}
use Rattle.rules.specs.Definitions.Attempt.{drives_frame, is_answered, rtr_slot, level_at, in_check, in_acknowledge, difference_in, difference, judge_slot}
use Rattle.rules.specs.Definitions.Service.{no_reply, judge_reply, reply_moved, replied, reply_by, reply_taken, hear_own}
use Rattle.rules.specs.Definitions.Slots.{role_in, reply_verdict, reception_judged, reply_after, drives_as, drives}
use Rattle.every_run.specs.Tally as tally
use Rattle.every_run.specs.Tally.{goes, contended, failed, sent, answers, request_t, due_level, open_half_t, arbitrated_t, verdict}
use Rattle.every_run.specs.Observer.{Replying, silent, replies, is_replying, code_t, hears_own, reply_on, reply_from, reply_apart}
use Rattle.every_run.specs.Sending.{DrivesPart}
use Rattle.every_run.specs.Settled.{Replied, unended, whole, broken, replied_by, replied_apart}
use Rattle.rules.proofs.Logic.{left}
use Rattle.every_run.proofs.Judged.{Judged, went, lost, broke, done, answered, slot_judged}
use Rattle.every_run.proofs.Roles.{quiet_phase, role_sender, role_asker, role_replier, role_other}
use Rattle.every_run.proofs.Ranges.Bytes.{at_below, data_small, fits_with}
use Rattle.every_run.proofs.Sending.Join.{kind, open_same, arbitrated_same, due_same, request_same, kind_same}
use Rattle.every_run.proofs.Sending.Frames.{level_coded}
use Rattle.every_run.proofs.Sending.Bound as bound
use Rattle.every_run.proofs.Sending.Bound.{Verdicts, on, one_more, opens_on, verdict_of}
use Rattle.rules.specs.declared.Phase.TheVariants.{Quiet}
use Rattle.rules.specs.declared.Reception.{Reception}
use Rattle.rules.specs.declared.Hearing.{Hearing}
use Rattle.rules.specs.declared.Hearing.TheVariants.{Silent, Follows, Fault, Good}
use Rattle.rules.specs.declared.Coded.{Coded}
use Rattle.rules.specs.declared.ImmediateReply.{ImmediateReply}
use Rattle.rules.specs.declared.Verdict.{Verdict}
use Rattle.rules.specs.declared.Verdict.TheVariants.{Unjudged, Goes, Lost, Failed, Done, Answered}
use Rattle.rules.specs.declared.Role.{Role}
use Rattle.rules.specs.declared.Role.TheVariants.{Nobody, Receiver, Replier}
use Rattle.rules.specs.declared.Core.{Core}

-- ---- what a sample is for a frame of the model's own, an attempt's or a reply's

pub own_heard : (f : Frame) (k v : ℕ) → hear_own (judge_slot (coded f) k v) ≡ hears_own (verdict f k (level_at (coded f) k) v) (code_t f k (level_at (coded f) k))
unfolding judge_slot verdict coded code_t difference difference_in
own_heard f k v =
    let n : ℕ = length f.bytes in
    rw (due_same f k, request_same f, open_same (half_of n k), arbitrated_same (part_of n k))
    (go (eqb v (due_level f k (level_at (coded f) k))) (ltb (k + 1) (size n)) (both (eqb k rtr_slot) (request_t f)) (both (eqb (level_at (coded f) k) 1) (open_half_t (half_of n k))) (arbitrated_t (part_of n k)) (in_check (part_of n k)) (in_acknowledge (part_of n k)))
  where
    go : (a b r o p q s : Bool) → hear_own (pick a (pick b Goes Done) (pick r Answered (pick (both o p) Lost (pick (both o q) (Failed FCSE) (pick s (Failed ACKE) (Failed CV))))))
        ≡ hears_own (pick a (pick b goes sent) (pick r answers (pick (both o p) contended failed))) (pick (both o q) FCSE (pick s ACKE CV))
    go true true r o p q s = unfold hear_own hears_own in refl
    go true false r o p q s = unfold hear_own hears_own in refl
    go false b true o p q s = unfold hear_own hears_own in refl
    go false b false true true q s = unfold hear_own hears_own in refl
    go false b false true false true s = unfold hear_own hears_own in refl
    go false b false true false false true = unfold hear_own hears_own in refl
    go false b false true false false false = unfold hear_own hears_own in refl
    go false b false false p q true = unfold hear_own hears_own in refl
    go false b false false p q false = unfold hear_own hears_own in refl

-- ---- the reply that the observer's stands for

unfoldable pub reply_of : Replying → ImmediateReply
reply_of silent = no_reply
reply_of (replies c f levels) = record { going = true; channel = c; at = 28 + length levels; frame = coded f }

pub going_of : (y : Replying) → (reply_of y).going ≡ is_replying y
unfolding reply_of is_replying no_reply
going_of silent = refl
going_of (replies c f levels) = refl

abbrev pub ReplyFits : Replying → Type 0
ReplyFits silent = Unit {0}
ReplyFits (replies c f levels) = Fits capacity f × (f.acknowledge ≡ false) × (28 + length levels < size (length f.bytes)) × (levels ≡ take (length levels) (drop 28 (slots f)))

pub record SameReply (x : ImmediateReply) (y : Replying) : Type 0 where
  pub stands : x ≡ reply_of y
  pub fits : ReplyFits y

pub silent_same : SameReply no_reply silent
silent_same = record { stands = unfold reply_of in refl; fits = tt }

pub same_going : {x : ImmediateReply} {y : Replying} → SameReply x y → x.going ≡ is_replying y
same_going {x} {y} s = ap (λ (z : ImmediateReply). z.going) s.stands ∙ going_of y

-- ---- it goes on, or it ends

ends_judged : {x : Coded} {i v : ℕ} {w : Verdict} → Judged x i v w → (c : ℕ) (f : Frame) (levels : List ℕ) (d : ℕ)
    → replied w (reply_of (replies c f levels)) ≡ reply_of (reply_on (kind w) c f (levels ++ (d ∷ [])))
unfolding replied reply_moved kind reply_on reply_of
ends_judged (went a b) c f levels d = rw (length-append levels (d ∷ []), add_assoc 28 (length levels) 1)
ends_judged (lost a b e) c f levels d = refl
ends_judged (broke code b) c f levels d = refl
ends_judged done c f levels d = refl
ends_judged (answered a b e) c f levels d = refl

-- d is the level driven
module _ (c : ℕ) (f : Frame) (levels : List ℕ) (d : ℕ) (q : d ≡ get_or (slots f) (28 + length levels) 1) (h : ReplyFits (replies c f levels)) where
  on_fits : {w : tally.Verdict} → Verdicts f (28 + length levels) w → ReplyFits (reply_on w c f (levels ++ (d ∷ [])))
  unfolding reply_on
  on_fits (on k) =
      let n : length (levels ++ (d ∷ [])) ≡ length levels + 1 = length-append levels (d ∷ []) in
      (h.0, h.1, omega arith, rw (n, add-one (length levels), q) (one_more f 28 levels h.2 h.3))
  on_fits bound.lost = tt
  on_fits bound.error = tt
  on_fits bound.last = tt
  on_fits (bound.met k r) = tt

  -- the levels of the reply, that of the slot under way included
  pub part_driven : DrivesPart capacity f (levels ++ (d ∷ []))
  unfolding size
  part_driven =
      let n : length (levels ++ (d ∷ [])) ≡ length levels + 1 = length-append levels (d ∷ []) in
      let m : 28 + length levels < 60 + 10 * length f.bytes = h.2 in
      record { fits = h.0; opens = rw q (opens_on f 28 levels h.2 h.3); most = omega arith }

on_stands : (c : ℕ) (f : Frame) (levels : List ℕ) (v d : ℕ)
    → replied (judge_slot (coded f) (28 + length levels) v) (reply_of (replies c f levels)) ≡ reply_of (reply_on (verdict f (28 + length levels) (level_at (coded f) (28 + length levels)) v) c f (levels ++ (d ∷ [])))
on_stands c f levels v d =
    ends_judged (slot_judged (coded f) (28 + length levels) v) c f levels d ∙ ap (λ (w : tally.Verdict). reply_of (reply_on w c f (levels ++ (d ∷ [])))) (kind_same f (28 + length levels) v)

-- ---- it is taken in the R/W slot

from_stands : (m : List ℕ) (high low : ℕ) (x : Option ℕ) → reply_by m high low x ≡ reply_of (reply_from m high low x)
unfolding reply_by reply_from reply_of
from_stands m high low None = refl
from_stands m high low (Some c) = refl

from_fits : {m : List ℕ} → Below 256 m → (high low : ℕ) → high < 256 → low < 256 → (x : Option ℕ) → ReplyFits (reply_from m high low x)
unfolding reply_from reply_frame
from_fits b high low h l None = tt
from_fits {m} b high low h l (Some c) = (fits_with m c high low _ b h l (data_small (buffer_of m c).length), unfold frame_with in refl, unfold size in omega arith, refl)

low_small : (r : Reception) → Below 256 r.bytes → reply_low r < 256
unfolding reply_low
low_small r b = let h = at_below b 1 in omega arith

-- ---- no frame was under way: none has reached its R/W slot

module _ (r : Reception) (v : ℕ) (u : under_way r.place ≡ false) where
  quiet_place : r.place.phase ≡ Quiet
  quiet_place = quiet_phase r.place.phase (unfold under_way in u)

  quiet_after : (h : Hearing) → is_body (reception_after h r v).place.phase ≡ false
  unfolding reception_after
  quiet_after Silent = rw quiet_place (unfold is_body in refl)
  quiet_after Follows = unfold followed in rw quiet_place (unfold follow_in begun at_place is_body in refl)
  quiet_after (Fault code) = unfold quiet at_place is_body in refl
  quiet_after Good = unfold quiet at_place is_body in refl

  pub quiet_unasked : (m : List ℕ) (h : Hearing) → reads_asked (reception_judged m h r v) ≡ false
  unfolding reception_judged winner_taken
  quiet_unasked m h =
      left reads_asked (command_ended (reception_after h r v)) _ (reception_after h r v) false (unfold reads_asked in_body in rw (quiet_after h)) (unfold reads_asked in_body in rw (quiet_after h))

-- ---- the reply after a sample, outside an attempt

module _ (k : Core) (y : Replying) (s : SameReply k.reply y) (d : drives_frame k.service.effort.progress ≡ false) (a : is_answered k.service.effort.progress ≡ false) where
  pub is_silent : y ≡ silent → k.reply.going ≡ false
  is_silent e = same_going s ∙ rw e (unfold is_replying in refl)

  module _ (c : ℕ) (f : Frame) (levels : List ℕ) (e : y ≡ replies c f levels) where
    stands_so : k.reply ≡ reply_of (replies c f levels)
    stands_so = s.stands ∙ ap reply_of e

    pub fits_so : ReplyFits (replies c f levels)
    fits_so = subst ReplyFits e s.fits

    pub is_going : k.reply.going ≡ true
    is_going = same_going s ∙ rw e (unfold is_replying in refl)

    pub is_replier : role_in k ≡ Replier
    is_replier = role_replier k.service.effort.progress k.reply.going k.reception.place d a is_going

    -- the level driven is the frame's
    pub reply_drives : drives k ≡ level_at (coded f) (28 + length levels)
    unfolding drives drives_as
    reply_drives = ap (λ (x : Role). drives_as x k) is_replier ∙ ap (λ (x : ImmediateReply). level_at x.frame x.at) stands_so ∙ unfold reply_of in refl

    pub reply_level : drives k ≡ get_or (slots f) (28 + length levels) 1
    reply_level = reply_drives ∙ level_coded f fits_so.0 fits_so.1 (28 + length levels)

    pub reply_judged : (v : ℕ) → judge_reply k.reply v ≡ judge_slot (coded f) (28 + length levels) v
    unfolding judge_reply
    reply_judged v = ap (λ (x : ImmediateReply). judge_slot x.frame x.at v) stands_so ∙ unfold reply_of in refl

    replied_same : (m : List ℕ) (v : ℕ) (r : Reception)
        → SameReply (reply_after (role_in k) m k (reply_verdict (role_in k) k v) r) (reply_on (verdict f (28 + length levels) (drives k) v) c f (levels ++ (drives k ∷ [])))
    replied_same m v r =
        record {
          stands =
              rw is_replier
              (unfold reply_after reply_verdict in
              (ap (λ (w : Verdict). replied w k.reply) (reply_judged v) ∙ ap (replied (judge_slot (coded f) (28 + length levels) v)) stands_so ∙ on_stands c f levels v (drives k)
              ∙ ap (λ (d : ℕ). reply_of (reply_on (verdict f (28 + length levels) d v) c f (levels ++ (drives k ∷ [])))) (sym reply_drives)));
          fits = on_fits c f levels (drives k) reply_level fits_so (verdict_of f (28 + length levels) (drives k) v);
        }

  taken_same : {m : List ℕ} → Below 256 m → (r : Reception) → Below 256 r.bytes → y ≡ silent
      → SameReply (pick (reads_asked r) (reply_taken m (longest_of k) r) k.reply) (pick (reads_asked r) (reply_from m (get_or r.bytes 0 0) (reply_low r) (replier_for m (longest_of k) (get_or r.bytes 0 0) (reply_low r))) silent)
  taken_same {m} b r g e = go (reads_asked r)
    where
      go : (z : Bool) → SameReply (pick z (reply_taken m (longest_of k) r) k.reply) (pick z (reply_from m (get_or r.bytes 0 0) (reply_low r) (replier_for m (longest_of k) (get_or r.bytes 0 0) (reply_low r))) silent)
      go true = record { stands = unfold reply_taken in from_stands m (get_or r.bytes 0 0) (reply_low r) _; fits = from_fits b (get_or r.bytes 0 0) (reply_low r) (at_below g 0) (low_small r g) _ }
      go false = record { stands = s.stands ∙ ap reply_of e; fits = tt }

  heard_same : {m : List ℕ} → Below 256 m → (h : Hearing) (v : ℕ) → Below 256 (reception_judged m h k.reception v).bytes → y ≡ silent
      → SameReply (reply_after (role_in k) m k (reply_verdict (role_in k) k v) (reception_judged m h k.reception v)) (reply_apart silent (longest_of k) m (drives k) v (reception_judged m h k.reception v))
  unfolding reply_apart
  heard_same {m} b h v g e = rw (role_other k.service.effort.progress k.reply.going k.reception.place d a (is_silent e)) (go (under_way k.reception.place) refl)
    where
      go : (u : Bool) → under_way k.reception.place ≡ u
          → SameReply (reply_after (pick u Receiver Nobody) m k (reply_verdict (pick u Receiver Nobody) k v) (reception_judged m h k.reception v))
          (pick (reads_asked (reception_judged m h k.reception v)) (reply_from m (get_or (reception_judged m h k.reception v).bytes 0 0) (reply_low (reception_judged m h k.reception v)) (replier_for m (longest_of k) (get_or (reception_judged m h k.reception v).bytes 0 0) (reply_low (reception_judged m h k.reception v)))) silent)
      go true u = unfold reply_after in taken_same b (reception_judged m h k.reception v) g e
      go false u = unfold reply_after in rw (quiet_unasked k.reception v u m h) (record { stands = s.stands ∙ ap reply_of e; fits = tt })

  pub apart_reply : {m : List ℕ} → Below 256 m → (h : Hearing) (v : ℕ) → Below 256 (reception_judged m h k.reception v).bytes
      → SameReply (reply_after (role_in k) m k (reply_verdict (role_in k) k v) (reception_judged m h k.reception v)) (reply_apart y (longest_of k) m (drives k) v (reception_judged m h k.reception v))
  apart_reply {m} b h v g = go y refl
    where
      go : (x : Replying) → y ≡ x
          → SameReply (reply_after (role_in k) m k (reply_verdict (role_in k) k v) (reception_judged m h k.reception v)) (reply_apart x (longest_of k) m (drives k) v (reception_judged m h k.reception v))
      go silent e = heard_same b h v g e
      go (replies c f levels) e = unfold reply_apart in replied_same c f levels e m v (reception_judged m h k.reception v)

-- inside an attempt it stays as it is
pub own_reply : (k : Core) (y : Replying) → SameReply k.reply y → (m : List ℕ) (q : Verdict) (r : Reception) → drives_frame k.service.effort.progress ≡ true → SameReply (reply_after (role_in k) m k q r) y
own_reply k y s m q r d = rw (role_sender k.service.effort.progress k.reply.going k.reception.place d) (unfold reply_after in s)

pub asked_reply : (k : Core) (y : Replying) → SameReply k.reply y → (m : List ℕ) (q : Verdict) (r : Reception)
    → drives_frame k.service.effort.progress ≡ false → is_answered k.service.effort.progress ≡ true → SameReply (reply_after (role_in k) m k q r) y
asked_reply k y s m q r d a = rw (role_asker k.service.effort.progress k.reply.going k.reception.place d a) (unfold reply_after in s)

-- ---- how the sample ends it

unfoldable pub replied_of : Verdict → ℕ → Replied
replied_of Unjudged c = unended
replied_of Goes c = unended
replied_of Lost c = unended
replied_of (Failed code) c = broken c
replied_of Done c = whole c
replied_of Answered c = unended

replied_kind : (w : Verdict) (c : ℕ) → replied_of w c ≡ replied_by (kind w) c
unfolding replied_of replied_by kind
replied_kind Unjudged c = refl
replied_kind Goes c = refl
replied_kind Lost c = refl
replied_kind (Failed code) c = refl
replied_kind Done c = refl
replied_kind Answered c = refl

pub apart_ended : (k : Core) (y : Replying) → SameReply k.reply y → drives_frame k.service.effort.progress ≡ false → is_answered k.service.effort.progress ≡ false → (v : ℕ)
    → replied_of (reply_verdict (role_in k) k v) k.reply.channel ≡ replied_apart y (drives k) v
unfolding reply_verdict replied_of reply_of replied_apart
apart_ended k y s d a v = go y refl
  where
    other : (u : Bool) → replied_of (reply_verdict (pick u Receiver Nobody) k v) k.reply.channel ≡ unended
    other true = refl
    other false = refl

    channel_of : (c : ℕ) (f : Frame) (levels : List ℕ) → y ≡ replies c f levels → k.reply.channel ≡ c
    channel_of c f levels e = ap (λ (x : ImmediateReply). x.channel) (s.stands ∙ ap reply_of e)

    judged_so : (c : ℕ) (f : Frame) (levels : List ℕ) → y ≡ replies c f levels → reply_verdict (role_in k) k v ≡ judge_slot (coded f) (28 + length levels) v
    judged_so c f levels e = ap (λ (x : Role). reply_verdict x k v) (is_replier k y s d a c f levels e) ∙ (reply_judged k y s d a c f levels e v)

    go : (x : Replying) → y ≡ x → replied_of (reply_verdict (role_in k) k v) k.reply.channel ≡ replied_apart x (drives k) v
    go silent e =
        rw (role_other k.service.effort.progress k.reply.going k.reception.place d a (is_silent k y s d a e)) (other (under_way k.reception.place))
    go (replies c f levels) e =
        (ap (λ (n : ℕ). replied_of (reply_verdict (role_in k) k v) n) (channel_of c f levels e) ∙ ap (λ (w : Verdict). replied_of w c) (judged_so c f levels e) ∙ replied_kind (judge_slot (coded f) (28 + length levels) v) c
        ∙ ap (λ (w : tally.Verdict). replied_by w c) (kind_same f (28 + length levels) v) ∙ ap (λ (n : ℕ). replied_by (verdict f (28 + length levels) n v) c) (sym (reply_drives k y s d a c f levels e)))

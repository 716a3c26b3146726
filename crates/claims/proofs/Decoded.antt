-- What is delivered is what the samples decode to, by the codec's own definition.
use Prim.Native.Nat.{ℕ, ◌/◌, ◌%◌}
use mathlib.Core.List.{List, [], ◌∷◌}
use lib.ListN.{get_or}
use mathlib.Core.Path.{◌≡◌, sym, ◌∙◌, ap, subst}
use native.Mathlib.Omega.{arith}
use Rattle.line.specs.Frame.{Frame, Fits, slots}
use Rattle.codec.specs.declared.Refusal.{Refusal}
use Rattle.codec.specs.Decode.{frame, refused, reading}
use Rattle.codec.proofs.Exact.{codec}
use Rattle.rules.specs.Definitions.Longest.{longest_of}
use Rattle.every_run.specs.Valid.{Valid}
use Rattle.rules.specs.Definitions.Run.{fresh, next}
use Rattle.every_run.specs.OwnFrames.{status_at}
use Rattle.every_run.specs.Receiving as rule
use Rattle.every_run.specs.Receiving.{Log, no_log, log_next, received, taker, hears, Delivers, DeliversIn, ReceivingOver}
use Rattle.every_run.proofs.Receiving.EveryRun.{delivery}
use Rattle.rules.specs.declared.Hearing.TheVariants.{Good}
use Rattle.rules.specs.declared.Controller.{Controller}
use Rattle.rules.specs.declared.Event.{Event}
use Rattle.rules.specs.declared.Event.TheVariants.{Reset, Write, Read, Slot}
use Rattle.claims.specs.Decoded.{heard_so_far, Delivered, Decodable, Decodes, DecodesIn, Decoded}

no_frame : {f : Frame} {r : Refusal} → refused r ≡ frame f → ⊥
no_frame e = let z : ◌≡◌ {A = ℕ} 0 1 = cc in omega arith

module _ (c : Controller) (l : Log) (levels : ℕ) (d : Delivers c l levels) where
  sound : (s : List ℕ) (f : Frame) → reading (longest_of c.core) s ≡ frame f → Fits (longest_of c.core) f × (s ≡ slots f)
  sound s f e = ((codec (longest_of c.core)).exact s f).0 e

  back : (s : List ℕ) (f : Frame) → Fits (longest_of c.core) f → s ≡ slots f → reading (longest_of c.core) s ≡ frame f
  back s f g e = ((codec (longest_of c.core)).exact s f).1 (g, e)

  slot_good : hears c levels ≡ Good → Decodable c l levels
  slot_good h = let t = d.good h in record { which = t.frame; decodes = back _ t.frame t.fits t.whole }

  slot_taken : (f : Frame) → reading (longest_of c.core) (heard_so_far c l levels) ≡ frame f → Delivered c l levels f
  slot_taken f e =
      let k = sound (heard_so_far c l levels) f e in
      let h : hears c levels ≡ Good = d.complete f k.0 k.1 in
      let t : rule.Taken c l levels = d.good h in
      let n : t.frame ≡ f = (codec (longest_of c.core)).one t.frame f t.fits k.0 (sym t.whole ∙ k.1) in
      record {
        valid = subst (λ (x : Frame). Valid (taker l x) x) n t.valid;
        whole = k.1;
        one = λ g i q. (codec (longest_of c.core)).one g f i k.0 (sym q ∙ k.1);
        ends = h;
        memory = λ q. t.memory q ∙ ap (λ (x : Frame). received c.memory (taker l x) x) n;
        elsewhere = λ a h. t.elsewhere a h ∙ ap (λ (x : Frame). get_or (received c.memory (taker l x) x) a 0) n;
        status =
            (t.status.0 ∙ ap (λ (x : Frame). get_or (received c.memory (taker l x) x) (status_at c) 0 / 8) n, t.status.1 ∙ ap (λ (x : Frame). get_or (received c.memory (taker l x) x) (status_at c) 0 % 2) n);
      }

  slot_decodes : Decodes c l levels
  slot_decodes =
      record {
        taken = slot_taken;
        good = slot_good;
        early = λ r e. d.early (λ h. no_frame (sym e ∙ (slot_good h).decodes));
        fault = λ code h rest f e v. let k = sound _ f e in d.faultless code h f k.0 v rest k.1;
      }

decodes_in : (c : Controller) (l : Log) (e : Event) → DeliversIn c l e → DecodesIn c l e
decodes_in c l Reset d = tt
decodes_in c l (Write address value) d = tt
decodes_in c l (Read address) d = tt
decodes_in c l (Slot levels) d = λ y a q. slot_decodes c l levels ((d y a).1 q)

from : (c : Controller) (l : Log) (es : List Event) → ReceivingOver c l es → Decoded c l es
from c l [] d = tt
from c l (e ∷ es) d = (decodes_in c l e d.1, from (next c e) (log_next c l e) es d.2)

pub every_run : (es : List Event) → Decoded fresh no_log es
every_run es = from fresh no_log es (delivery es)

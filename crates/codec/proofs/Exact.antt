-- The codec is correct, complete and unambiguous, for every longest length.
use Prim.Native.Nat.{ℕ}
use mathlib.Core.Path.{◌≡◌, sym, ◌∙◌, ap}
use Rattle.line.specs.Frame.{Frame}
use Rattle.codec.specs.Decode.{frame, reading}
use Rattle.codec.specs.Claims.{Codec}
use Rattle.codec.proofs.RoundTrip.{slots_read, read_is}

same_frame : {f g : Frame} → frame f ≡ frame g → f ≡ g
same_frame e = cc

pub codec : (longest : ℕ) → Codec longest
codec longest =
    record {
      exact = λ s f. (read_is longest s f, λ p. ap (reading longest) p.1 ∙ slots_read longest f p.0);
      decoded = slots_read longest;
      encoded = λ s f e. sym (read_is longest s f e).1;
      one = λ f g p q e. same_frame (sym (slots_read longest f p) ∙ ap (reading longest) e ∙ slots_read longest g q);
    }

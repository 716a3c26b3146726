-- What is claimed of the codec, for every longest length: correct, complete and unambiguous.
use Rattle.std.specs.Prelude.{ℕ, List, ◌↔◌, ◌≡◌}
use Rattle.line.specs.Frame.{Frame, Fits, slots}
use Rattle.codec.specs.Decode.{frame, reading}

pub record Codec (longest : ℕ) : Type 0 where
  -- a slot list reads as a frame exactly when it is that frame's slot list
  pub exact : (s : List ℕ) (f : Frame) → (reading longest s ≡ frame f) ↔ (Fits longest f × (s ≡ slots f))
  -- decoding a frame's slots gives it back
  pub decoded : (f : Frame) → Fits longest f → reading longest (slots f) ≡ frame f
  -- encoding what was decoded gives the list back
  pub encoded : (s : List ℕ) (f : Frame) → reading longest s ≡ frame f → slots f ≡ s
  -- no slot list is that of two frames
  pub one : (f g : Frame) → Fits longest f → Fits longest g → slots f ≡ slots g → f ≡ g

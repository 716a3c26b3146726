-- What is refused leaves the lent room as it was.
use Prim.Native.Nat.{ℕ}
use mathlib.Core.Bool.{Bool, true, false}
use mathlib.Core.List.{List}
use mathlib.Core.Path.{◌≡◌, refl}
use native.Mathlib.Omega.{arith}
use lib.Dec.{ltb}
use lib.ListN.{length}
use Rattle.line.specs.Bits.{pick}
use Rattle.line.specs.Frame.{Frame}
use Rattle.codec.specs.Answer.{laid}
use Rattle.codec.specs.Encode.{encoded_room}
use Rattle.codec.specs.Decode.{Reading, frame, refused, head_of, decoded, decoded_room}
use Rattle.codec.specs.declared.Refusal.{Refusal}
use Rattle.codec.specs.declared.Refusal.TheVariants.{Room}
use Rattle.std.proofs.Common.{Ok, Err}

pub encode_room : (room : List ℕ) (f : Frame) (r : Refusal) → encoded_room room f (Err r) ≡ room
unfolding encoded_room
encode_room room f r = refl

pub decode_room : (room : List ℕ) (x : Reading) (r : Refusal) → decoded (length room) x ≡ Err r → decoded_room room x ≡ room
unfolding decoded decoded_room
decode_room room (frame f) r e = go (ltb (length room) (length f.bytes)) e
  where
    go : (b : Bool) → pick b (Err Room) (Ok (head_of f)) ≡ Err r → pick b room (laid f.bytes room) ≡ room
    go true d = refl
    go false d = absurd (let z : ◌≡◌ {A = ℕ} 0 1 = cc in omega arith)
decode_room room (refused x) r e = refl

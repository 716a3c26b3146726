-- Decoding a slot sequence (01, Frames on the line, "Decoding a slot sequence goes left to right; the first fault is the answer").
--   Read      == what reading a part gives: what was read with the slots that follow, or the fault
--   Reading   == what reading the whole gives: the frame, or the fault
--   expected  == slots that must be as written, judged slot by slot
--   plain_run, pair_at == three plain bits; a bit and its opposite. Each hands over to the other
--   reading   == the whole sequence, with at most `longest` data bytes
use Rattle.std.specs.Prelude.{ℕ, zero, suc, ◌+◌, ◌-◌, ◌*◌, ◌/◌, ◌%◌, Bool, true, false, List, [], ◌∷◌, ◌++◌, Result, Ok, Err, eqb, ltb, leb, length, take, drop}
use Rattle.line.specs.Bits.{pick, bits_value}
use Rattle.line.specs.Check.{check}
use Rattle.line.specs.Frame.{Frame, start, end_of_frame}
use Rattle.codec.specs.Answer.{laid}
use Rattle.codec.specs.declared.Refusal.{Refusal}
use Rattle.codec.specs.declared.Refusal.TheVariants.{Level, Start, Pair, Length, Check, Acknowledge, EndOfFrame, CutShort, LeftOver, Room}
use Rattle.codec.specs.declared.Head.{Head}

pub data Read (A : Type 0) : Type 0 where
  read : A → List ℕ → Read A
  fault : Refusal → Read A

pub data Reading : Type 0 where
  frame : Frame → Reading
  refused : Refusal → Reading

-- the next part is read where the one before it was
unfoldable pub after : {A : Type 0} → Read A → (A → List ℕ → Reading) → Reading
after (read a s) next = next a s
after (fault r) next = refused r

-- 01, Numbers refused: 5, "slot level .. above 1 (codec)"
unfoldable pub levels : List ℕ → Bool
levels [] = true
levels (x ∷ s) = pick (ltb 1 x) false (levels s)

unfoldable pub expected : Refusal → List ℕ → List ℕ → Read (Unit {0})
expected r [] s = read tt s
expected r (x ∷ xs) [] = fault CutShort
expected r (x ∷ xs) (y ∷ s) = pick (eqb y x) (expected r xs s) (fault r)

-- "Exactly an odd number of whole nibbles, 7 to 67, stands before the last three bits": 67 is 7 and two for each data byte
unfoldable pub most : ℕ → ℕ
most longest = 7 + 2 * longest

unfoldable pub nibbles : List ℕ → ℕ
nibbles bs = length bs / 4

unfoldable pub whole : ℕ → ℕ → Bool
whole longest j = pick (eqb (j % 2) 1) (pick (leb 7 j) (leb j (most longest)) false) false

-- from the bits read so far. "At a pair: 11 is 21; 00 ends the data"; "A 68th nibble closed by a proper pair is 22"
unfoldable mutual
  pub plain_run : ℕ → List ℕ → List ℕ → Read (List ℕ)
  plain_run longest [] bs = fault CutShort
  plain_run longest (a ∷ []) bs = fault CutShort
  plain_run longest (a ∷ b ∷ []) bs = fault CutShort
  plain_run longest (a ∷ b ∷ c ∷ s) bs = pair_at longest s (bs ++ (a ∷ b ∷ c ∷ []))

  pub pair_at : ℕ → List ℕ → List ℕ → Read (List ℕ)
  pair_at longest [] bs = fault CutShort
  pair_at longest (a ∷ []) bs = fault CutShort
  pair_at longest (a ∷ b ∷ s) bs =
      pick (eqb a b) (pick (eqb a 0) (read bs s) (fault Pair))
      (pick (leb (most longest) (nibbles bs)) (fault Length) (plain_run longest s (bs ++ (a ∷ []))))

-- the last fifteen bits are the check of those before them
unfoldable pub right : List ℕ → Bool
right bs = eqb (bits_value (drop (length bs - 15) bs)) (check (take (length bs - 15) bs))

-- "10 present, 11 absent"
unfoldable pub second_slot : List ℕ → Read Bool
second_slot [] = fault CutShort
second_slot (b ∷ s) = read (eqb b 0) s

unfoldable pub acknowledged : List ℕ → Read Bool
acknowledged [] = fault CutShort
acknowledged (a ∷ s) = pick (eqb a 1) (second_slot s) (fault Acknowledge)

unfoldable pub bytes_of : ℕ → List ℕ → List ℕ
bytes_of zero bs = []
bytes_of (suc n) bs = bits_value (take 8 bs) ∷ bytes_of n (drop 8 bs)

-- 12 bits of identifier, 4 of command, 8 for each data byte, 15 of check
unfoldable pub frame_of : List ℕ → Bool → Frame
frame_of bs a =
    record {
      identifier = bits_value (take 12 bs);
      command = bits_value (take 4 (drop 12 bs));
      bytes = bytes_of ((length bs - 31) / 8) (drop 16 bs);
      acknowledge = a;
    }

unfoldable pub ended : Frame → List ℕ → Reading
ended f [] = frame f
ended f (x ∷ s) = refused LeftOver

-- what follows the end of data
unfoldable pub closing : List ℕ → List ℕ → Reading
closing bs s = after (acknowledged s) (λ a s₁. after (expected EndOfFrame end_of_frame s₁) (λ u s₂. ended (frame_of bs a) s₂))

-- "22 is judged before 23"
unfoldable pub judged : ℕ → List ℕ → List ℕ → Reading
judged longest bs s = pick (whole longest (nibbles bs)) (pick (right bs) (closing bs s) (refused Check)) (refused Length)

-- "Decoding: 5 anywhere, then 20 to 27 by place"
unfoldable pub reading : ℕ → List ℕ → Reading
reading longest s =
    pick (levels s)
    (after (expected Start start s) (λ u s₁. after (plain_run longest s₁ []) (judged longest)))
    (refused Level)

unfoldable pub head_of : Frame → Head
head_of f =
    record {
      identifier = f.identifier;
      command = f.command;
      count = length f.bytes;
      acknowledge = f.acknowledge;
    }

-- "then 13 if the room lent for data is under n"
unfoldable pub decoded : ℕ → Reading → Result Head Refusal
decoded room (frame f) = pick (ltb room (length f.bytes)) (Err Room) (Ok (head_of f))
decoded room (refused r) = Err r

unfoldable pub decoded_room : List ℕ → Reading → List ℕ
decoded_room room (frame f) = pick (ltb (length room) (length f.bytes)) room (laid f.bytes room)
decoded_room room (refused r) = room

-- The search for the lowest of the channels that pass a test is a search in the list of their numbers.
use Rattle.std.proofs.Common.{◌≡◌, ℕ, zero, suc, ◌+◌, Bool, true, false, refl, sym, ◌∙◌}
use Rattle.std.specs.Prelude.{Option, None, Some, find}
use Rattle.std.specs.List.{range_with_len}
use Rattle.std.specs.Option.{option_map}
use Rattle.rules.specs.Definitions.Channels.{lowest}

lowest_is : (passes : ℕ → Bool) (left c : ℕ) → lowest passes left c ≡ find passes (range_with_len c left)
unfolding lowest
lowest_is passes zero c = refl
lowest_is passes (suc left) c = go (passes c) refl (lowest_is passes left (c + 1))
  where
    go : (b : Bool) → passes c ≡ b → lowest passes left (c + 1) ≡ find passes (range_with_len (c + 1) left) → lowest passes (suc left) c ≡ find passes (range_with_len c (suc left))
    go true e h = simp e
    go false e h = simp (e, h)

pub lowest_found : (passes : ℕ → Bool) (r : Option ℕ) → option_map (λ x. x) r ≡ find passes (range_with_len 0 14) → r ≡ lowest passes 14 0
lowest_found passes None e = e ∙ sym (lowest_is passes 14 0)
lowest_found passes (Some c) e = e ∙ sym (lowest_is passes 14 0)

-- An event's answer, and the line that is laid of it.
use Prim.Native.Nat.{ℕ}
use mathlib.Core.List.{List}
use mathlib.Core.Path.{◌≡◌, ap, ◌∙◌}
use Rattle.std.specs.Prelude.{Result}
use Rattle.session.specs.declared.Event.{Event}
use Rattle.rules.specs.Definitions.Answers.{refused_by, value_of, lent}
use Rattle.rules.specs.declared.Refusal.{Refusal}
use Rattle.rules.specs.declared.Controller.{Controller}
use Rattle.rules.specs.declared.Answer.{Answer}
use Rattle.listing.specs.Listing.{line}
use Rattle.listing.specs.Laid.{Laid}

module _ (r : Result ℕ Refusal) (c : Controller) (a : Answer) (h : lent r c ≡ a) where
  pub event_next : c ≡ a.next
  unfolding lent
  event_next = ap (λ (y : Answer). y.next) h

  pub event_laid : (room : List ℕ) (at index : ℕ) (e : Event) (refused value : ℕ) → refused ≡ refused_by r → value ≡ value_of r → (after : List ℕ) (p : ℕ) → Laid room at (line index e refused value) after p → Laid room at (line index e a.refused a.value) after p
  unfolding lent
  event_laid room at index e refused value n v after p l =
      let x : refused ≡ a.refused = n ∙ ap (λ (y : Answer). y.refused) h in
      let z : value ≡ a.value = v ∙ ap (λ (y : Answer). y.value) h in
      rw (← x, ← z) l

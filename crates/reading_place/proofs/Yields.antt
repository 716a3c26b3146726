-- The items of a reading, one by one.
use Rattle.std.proofs.Common.{◌≡◌, ℕ, zero, suc, ◌+◌, ◌-◌, ◌≤◌, List, [], ◌∷◌, length, Result, Ok, Err, arith, refl}
use Rattle.session.specs.declared.Bad.{Bad}
use Rattle.session.specs.declared.Event.{Event}
use Rattle.session.specs.Reading as reading
use Rattle.session.specs.Reading.{End, Item, Clean, Next, event_at, end_at, follow, events_at}
use Rattle.reading_place.specs.Items.{ended, items}

-- the items from a place on where one is due, by what stands there
abbrev pub followed : Item → (ℕ → List (Result Event Bad)) → List (Result Event Bad)
followed (Next e next) rest = Ok e ∷ rest next
followed (Err bad) rest = Err bad ∷ []

items_follow : (i : Item) (rest : ℕ → reading.Events) → items (follow i rest) ≡ followed i (λ next. items (rest next))
unfolding follow
items_follow (Next e next) rest = refl
items_follow (Err bad) rest = refl

pub first_item : (due : ℕ) (s : List ℕ) (at : ℕ) → (due ≡ 0 → ⊥) → items (events_at due s at) ≡ followed (event_at s at) (λ next. items (events_at (due - 1) s next))
unfolding events_at
first_item zero s at h = absurd (h refl)
first_item (suc due) s at h = let e : suc due - 1 ≡ due = omega arith in rw e (items_follow (event_at s at) (λ next. events_at due s next))

pub no_item : (s : List ℕ) (at : ℕ) → items (events_at 0 s at) ≡ ended (end_at s at)
unfolding events_at
no_item s at = refl

-- there is at most one item more than the events that are due
few_ended : (e : End) → length (ended e) ≤ 1
few_ended Clean = omega arith
few_ended (Err bad) = omega arith

few_follow : (due : ℕ) (i : Item) (rest : ℕ → reading.Events) → ((next : ℕ) → length (items (rest next)) ≤ due + 1) → length (items (follow i rest)) ≤ suc due + 1
unfolding follow
few_follow due (Next e next) rest h = let l = h next in omega arith
few_follow due (Err bad) rest h = omega arith

pub few_items : (due : ℕ) (s : List ℕ) (at : ℕ) → length (items (events_at due s at)) ≤ due + 1
unfolding events_at
few_items zero s at = few_ended (end_at s at)
few_items (suc due) s at = few_follow due (event_at s at) (λ next. events_at due s next) (few_items due s)

-- What the iterator yields gives the outcome of the reading.
use Rattle.std.proofs.Common.{◌≡◌, ℕ, suc, ◌+◌, List, [], ◌∷◌, length, Result, Ok, Err, arith, refl, ap, ◌∙◌}
use native.Mathlib.Nat.{add-zero, zero-add}
use Rattle.session.specs.declared.Bad.{Bad}
use Rattle.session.specs.declared.Event.{Event}
use Rattle.session.specs.Reading as reading
use Rattle.session.specs.Reading.{End, Clean, Good, header_at, events_at, started, session}
use Rattle.reading_place.specs.Items.{ended, before, items}
use Rattle.session_cases.specs.declared.Outcome.{Outcome}
use Rattle.session_cases.specs.declared.Outcome.TheVariants.{Refused}
use Rattle.session_cases.specs.Summary as rule
use Rattle.session_cases.specs.Summary.{outcome, outcome_of, summary}

summary_ended : (n : ℕ) (e : End) → summary n (ended e) ≡ rule.ended n e
unfolding rule.ended
summary_ended n Clean = refl
summary_ended n (Err bad) = refl

summary_before : (n : ℕ) (es : List Event) (e : End) → summary n (before es (ended e)) ≡ rule.ended (n + length es) e
summary_before n [] e = summary_ended n e ∙ rw (add-zero)
summary_before n (v ∷ es) e =
    let l : n + 1 + length es ≡ n + suc (length es) = omega arith in summary_before (n + 1) es e ∙ ap (λ (k : ℕ). rule.ended k e) l

pub summary_items : (r : reading.Events) → summary 0 (items r) ≡ outcome r
unfolding outcome
summary_items r = summary_before 0 r.events r.end ∙ rw (zero-add)

module _ (most : ℕ) (s : List ℕ) where
  pub refused : (bad : Bad) → header_at most s 0 ≡ Err bad → Refused bad ≡ outcome_of (session most s)
  unfolding session started outcome_of
  refused bad e = rw e

  pub counted : (count next : ℕ) → header_at most s 0 ≡ Good count next → summary 0 (items (events_at count s next)) ≡ outcome_of (session most s)
  unfolding session started outcome_of
  counted count next e = rw e (summary_items (events_at count s next))

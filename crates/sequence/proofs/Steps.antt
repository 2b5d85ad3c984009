-- A step by its five tests: it takes the section, or refuses it and stays as it is.
use Prim.Native.Nat.{ℕ}
use mathlib.Core.Path.{◌≡◌, refl}
use mathlib.Core.Bool.{Bool, true, false, not}
use mathlib.Core.Logic.{◌⊎◌, inl, inr}
use mathlib.Core.List.{List}
use Rattle.verdict.specs.Verdict.{is_accepted, number_of, place_of}
use Rattle.verdict.proofs.SaidLaws.{is_accepted_lem, is_refused}
use Rattle.section.specs.Reading.{judged}
use Rattle.head.specs.Head.{is_current, has_no_sub_table}
use Rattle.roll.specs.Roll.{another, end_unfit, roll_after, refusal, answering, taking_current, taking_accepted, taking}
use Rattle.sequence.specs.Sequence.{belongs, unrefused, FirstRefusal, by_the_judge, no_sub_table, another_sub_table, not_current, segment-end}
use Rattle.roll.specs.declared.Roll.{Roll}

-- refused with the first refusal that applies, and "itself unchanged"
pub record Refuses (t : List (List ℕ)) (r : Roll) (s : List ℕ) : Type 0 where
  pub number : ℕ
  pub place : ℕ
  pub first : FirstRefusal t s number place
  pub same : taking r s ≡ refusal r number place

module _ (r : Roll) (s : List ℕ) where
  -- a roll that compares with what was taken takes exactly what belongs there
  pub taken_or_refused : (t : List (List ℕ)) → another r s ≡ not (belongs t s)
      → ((unrefused t s ≡ true)
      × ((belongs t s ≡ true)
      × ((is_current s ≡ true) × ((end_unfit s ≡ false) × (taking r s ≡ answering (roll_after r s))))))
      ⊎ ((unrefused t s ≡ false) × Refuses t r s)
  unfolding taking taking_accepted taking_current unrefused
  taken_or_refused t h =
      go (is_accepted (judged s)) (has_no_sub_table s) (belongs t s) (is_current s) (end_unfit s) refl refl refl refl refl
    where
      go : (a n b c f : Bool) → is_accepted (judged s) ≡ a → has_no_sub_table s ≡ n → belongs t s ≡ b → is_current s ≡ c
          → end_unfit s ≡ f
          → ((unrefused t s ≡ true)
          × ((belongs t s ≡ true)
          × ((is_current s ≡ true) × ((end_unfit s ≡ false) × (taking r s ≡ answering (roll_after r s))))))
          ⊎ ((unrefused t s ≡ false) × Refuses t r s)
      go false n b c f p q u v x =
          inr (
            rw p,
            record {
              number = number_of (judged s);
              place = place_of (judged s);
              first = by_the_judge (is_refused (judged s) p);
              same = rw p;
            },
          )
      go true true b c f p q u v x =
          inr (
            rw (p, q),
            record { number = 83; place = 0; first = no_sub_table (is_accepted_lem (judged s) p) q; same = rw (p, q) },
          )
      go true false false c f p q u v x =
          inr (
            rw (p, q, u),
            record {
              number = 82;
              place = 0;
              first = another_sub_table (is_accepted_lem (judged s) p) q u;
              same = rw (p, q, h, u);
            },
          )
      go true false true false f p q u v x =
          inr (
            rw (p, q, u, v),
            record {
              number = 81;
              place = 0;
              first = not_current (is_accepted_lem (judged s) p) q u v;
              same = rw (p, q, h, u, v);
            },
          )
      go true false true true true p q u v x =
          inr (
            rw (p, q, u, v, x),
            record {
              number = 84;
              place = 0;
              first = segment-end (is_accepted_lem (judged s) p) q u v x;
              same = rw (p, q, h, u, v, x);
            },
          )
      go true false true true false p q u v x = inl (rw (p, q, u, v, x), (u, (v, (x, rw (p, q, h, u, v, x)))))

  -- alike, by the same tests, for two rolls that compare alike
  pub both_taken_or_refused : (q : Roll) → another r s ≡ another q s
      → ((another q s ≡ false) × ((is_current s ≡ true) × ((end_unfit s ≡ false)
      × ((taking r s ≡ answering (roll_after r s)) × (taking q s ≡ answering (roll_after q s))))))
      ⊎ ((k : ℕ) × (p : ℕ) × ((taking r s ≡ refusal r k p) × (taking q s ≡ refusal q k p)))
  unfolding taking taking_accepted taking_current
  both_taken_or_refused q h =
      go (is_accepted (judged s)) (has_no_sub_table s) (another q s) (is_current s) (end_unfit s) refl refl refl refl refl
    where
      go : (a n b c g : Bool) → is_accepted (judged s) ≡ a → has_no_sub_table s ≡ n → another q s ≡ b → is_current s ≡ c
          → end_unfit s ≡ g
          → ((another q s ≡ false) × ((is_current s ≡ true) × ((end_unfit s ≡ false)
          × ((taking r s ≡ answering (roll_after r s)) × (taking q s ≡ answering (roll_after q s))))))
          ⊎ ((k : ℕ) × (p : ℕ) × ((taking r s ≡ refusal r k p) × (taking q s ≡ refusal q k p)))
      go false n b c g e f u v x = inr (number_of (judged s), place_of (judged s), (rw e, rw e))
      go true true b c g e f u v x = inr (83, 0, (rw (e, f), rw (e, f)))
      go true false true c g e f u v x = inr (82, 0, (rw (e, f, h, u), rw (e, f, u)))
      go true false false false g e f u v x = inr (81, 0, (rw (e, f, h, u, v), rw (e, f, u, v)))
      go true false false true true e f u v x = inr (84, 0, (rw (e, f, h, u, v, x), rw (e, f, u, v, x)))
      go true false false true false e f u v x = inl (u, (v, (x, (rw (e, f, h, u, v, x), rw (e, f, u, v, x)))))

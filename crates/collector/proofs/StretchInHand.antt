-- A stretch that goes to the section in hand: its story for whatever a whole section comes to, and the answer by the judge.
use Rattle.std.proofs.Common.{◌≡◌, ℕ, ◌+◌, ◌-◌, ◌<◌, ◌≤◌, Bool, true, false, List, [], ◌∷◌, ◌++◌, length, take, drop, sym, refl, ap, ◌∙◌, subst, ⊎_elim, arith, length-append, length-drop, length-take-le, take-take}
use mathlib.Core.List.{flatten}
use lib.Seq.{take-append-add}
use Rattle.std.specs.Prelude.{if◌then◌else◌}
use Rattle.wire.specs.Sections.{total_of, Unfinished}
use Rattle.copy.specs.Laid.{over, laid}
use Rattle.copy.proofs.LaidLaws.{laid_none}
use Rattle.collector.specs.Rules.{Kind, accepted, broken, filler, Fate, done, in-hand, Mark, Story, same_fate, out_of_hand, hand_of, marked, settled, broken_off, finished, holding, kind_of, Mode, inside, outside, filling, skipping, Next, joined, resumed, plain, stretch, goesOn}
use Rattle.verdict.specs.Verdict.{number_of}
use Rattle.section.specs.Reading.{judged}
use Rattle.collector.specs.Judged.{by_judge}
use Rattle.collector.specs.Inner.Settling.{handedOut}
use Rattle.collector.specs.Inner.Stretch.{LookSays, nothing, with_section, Ends}
use Rattle.collector.specs.declared.stretch.Look.{Look}
use Rattle.collector.specs.declared.stretch.Look.TheVariants.{Going, Over, Whole}
use Rattle.collector.specs.declared.stretch.Gain.{Gain}
use Rattle.collector.proofs.MarkLaws.{settled_append, settled_marked}
use Rattle.collector.proofs.Parted.{parted, handed_more}
use Rattle.collector.proofs.ByteRuns.{place, all, all_append, lt_or_ge, total_prefix, pass, grow_short, grow_going, law_over, law_whole}
use Rattle.collector.proofs.Laying.{laid_part}
use Rattle.collector.proofs.SectionLoop.{ends_as, answer_of, gained, wholes, wholes_settled, made, made_more, made_broken, rest_of, ends_made, gained_more, nothing_gained, with_hand, with_breaking, with_filling, with_skipping}

-- ---- the story of a stretch that begins with bytes in hand

resumed_in : (h : List ℕ) → 0 < length h → resumed h ≡ inside
resumed_in [] k = absurd (omega arith)
resumed_in (b ∷ h) k = refl

module _ (comes : List ℕ → Kind) where
  abbrev start : List ℕ → Story ℕ
  start h = all in-hand h (made comes [])

  start_hand : (h : List ℕ) → hand_of (start h) ≡ h
  start_hand h = rest_of comes in-hand in-hand [] h (λ s. refl)

  -- where nothing is unfinished, it is the same whether it would be kept
  joined_made : (keep : Bool) (g : Fate) (secs : List (List ℕ)) (l : List ℕ) → out_of_hand (done broken) g ≡ g
      → joined keep (all g l (made comes secs)) ≡ all g l (made comes secs)
  joined_made true g secs l e = refl
  joined_made false g secs l e = λ i. record { marks = marks_is i; sections = secs }
    where
      marks_is : settled (done broken) (wholes comes secs ++ marked g l) ≡ wholes comes secs ++ marked g l
      marks_is =
          settled_append (done broken) (wholes comes secs) (marked g l)
          ∙ ap (λ (z : List (Mark ℕ)). z ++ settled (done broken) (marked g l))
          (wholes_settled comes (done broken) secs)
          ∙ ap (λ (z : List (Mark ℕ)). wholes comes secs ++ z)
          (settled_marked (done broken) g l ∙ ap (λ (f : Fate). marked f l) e)

-- ---- what the code finds

-- the n bytes in hand and the first m of the packet's are there, and what is in hand can stand
pub record Given (hold p : List ℕ) (n m : ℕ) : Type 0 where
  pub in_hold : n ≤ length hold
  pub in_packet : m ≤ length p
  pub stands : Unfinished (take n hold)

-- g: an answer for nothing yet
module _ {hold p : List ℕ} {n m : ℕ} (x : Given hold p n m) (out : List ℕ) (keep : Bool) (was : ℕ) (g : Gain)
    (ge : g ≡ nothing was) where
  abbrev h : List ℕ
  h = take n hold

  abbrev l : List ℕ
  l = take m p

  abbrev End : List ℕ → List ℕ → Gain → Type 0
  End hold' out' r = Ends (joined keep (goesOn by_judge plain (holding h) l)) was hold out 0 hold' out' r

  h_long : length h ≡ n
  h_long = length-take-le n hold x.in_hold

  l_long : m ≡ length l
  l_long = sym (length-take-le m p x.in_packet)

  both_long : n + m ≡ length (h ++ l)
  both_long = omega (arith, length-append h l, h_long, l_long)

  -- out is as it was where no section is finished
  out_same : out ≡ laid out 0 (flatten (parted accepted []))
  unfolding flatten
  out_same = laid_none out 0

  at-start : 0 ≡ 0 + length (flatten (parted accepted []))
  unfolding flatten
  at-start = refl

  -- the answer where all bytes have one fate, which is made of nothing yet
  end_one : (f : Fate) (bs : List ℕ) → joined keep (goesOn by_judge plain (holding h) l) ≡ all f bs (made by_judge [])
      → (hold' : List ℕ) (j : ℕ)
      → j ≡ length bs → hold' ≡ over (if same_fate in-hand f then bs else []) hold
      → (F : Gain → Gain) → F (gained was []) ≡ answer_of f was [] j → End hold' out (F g)
  end_one f bs e hold' j long eh F fe =
      subst (λ (z : Gain). End hold' out (F z)) (sym (ge ∙ nothing_gained was))
      (subst (End hold' out) (sym fe)
      (ends_as (all f bs (made by_judge [])) e (ends_made f was [] bs hold out 0 hold' out j long eh out_same)))

  pub end_none : n ≡ 0 → End hold out (with_skipping g m)
  end_none e =
      let empty : h ≡ [] = ap (λ (k : ℕ). take k hold) e in
      let is : goesOn by_judge plain (holding h) l ≡ all (done (kind_of skipping)) l (made by_judge []) =
      ap (λ (z : List ℕ). goesOn by_judge plain (holding z) l) empty
      ∙ ap (λ (z : Next ℕ). z.story)
      (pass by_judge (outside filling) (outside skipping) (done (kind_of skipping)) (λ b s. refl) (holding []) l) in
      end_one (done (kind_of skipping)) l
      (ap (joined keep) is ∙ joined_made by_judge keep (done (kind_of skipping)) [] l refl)
      hold m l_long refl (λ z. with_skipping z m) refl

  module _ (other : n ≡ 0 → ⊥) (r : Look) (says : LookSays (h ++ l) r) where
    some : 0 < n
    some = omega arith

    goes : goesOn by_judge plain (holding h) l
        ≡ (stretch by_judge plain (outside filling) (place inside (start by_judge h)) l).story
    goes =
        ap (λ (z : Mode). (stretch by_judge plain (outside filling) (place z (start by_judge h)) l).story)
        (ap resumed (start_hand by_judge h) ∙ resumed_in h (omega (arith, some, h_long)))

    -- what the look says, of the run as the rules see it
    run_is : h ++ l ≡ hand_of (start by_judge h) ++ l
    run_is = ap (λ (z : List ℕ). z ++ l) (sym (start_hand by_judge h))

    has : (r' : Look) → r ≡ r' → LookSays (hand_of (start by_judge h) ++ l) r'
    has r' e = subst (λ (z : List ℕ). LookSays z r') run_is (subst (LookSays (h ++ l)) e says)

    more_hand : all in-hand l (start by_judge h) ≡ all in-hand (h ++ l) (made by_judge [])
    more_hand = all_append in-hand h l (made by_judge [])

    going_is : r ≡ Going → goesOn by_judge plain (holding h) l ≡ all in-hand (h ++ l) (made by_judge [])
    going_is e =
        goes
        ∙ ap (λ (z : Next ℕ). z.story)
        (⊎_elim (λ w. grow_short by_judge (outside filling) (start by_judge h) l w)
        (λ w. grow_going by_judge (outside filling) (start by_judge h) l w.1 w.2) (has Going e))
        ∙ more_hand

    pub going_in : r ≡ Going → n + m < 4096
    going_in e =
        ⊎_elim (λ w. omega (arith, both_long)) (λ w. omega (arith, both_long, w.1, w.2))
        (subst (LookSays (h ++ l)) e says)

    pub end_kept : keep ≡ true → r ≡ Going → (hold' : List ℕ) → hold' ≡ laid hold n l
        → End hold' out (with_hand g (n + m))
    end_kept k e hold' w =
        end_one in-hand (h ++ l) (ap (λ (z : Bool). joined z (goesOn by_judge plain (holding h) l)) k ∙ going_is e) hold'
        (n + m) both_long
        (w ∙ laid_part hold n p m x.in_packet ∙ ap (λ (z : ℕ). (h ++ l) ++ drop z hold) both_long) (λ z. with_hand z (n + m)) refl

    pub end_dropped : keep ≡ false → r ≡ Going → End hold out (with_breaking g (n + m))
    end_dropped k e =
        end_one (done broken) (h ++ l)
        (ap (λ (z : Bool). joined z (goesOn by_judge plain (holding h) l)) k
        ∙ ap broken_off (going_is e)
        ∙ made_broken by_judge [] (h ++ l))
        hold (n + m) both_long refl (λ z. with_breaking z (n + m)) refl

    pub end_over : r ≡ Over → End hold out (with_breaking g (n + m))
    end_over e =
        let o = has Over e in
        let o₂ = subst (LookSays (h ++ l)) e says in
        let few : length h < 3 =
        ⊎_elim (λ w. w) (λ w. absurd (omega (arith, (x.stands.more w).0, total_prefix h l w, o₂.1)))
        (lt_or_ge (length h) 3) in
        let is : goesOn by_judge plain (holding h) l ≡ all (done broken) (h ++ l) (made by_judge []) =
        goes
        ∙ ap (λ (z : Next ℕ). z.story)
        (law_over by_judge (outside filling) (start by_judge h) l
        (subst (λ (z : List ℕ). length z < 3) (sym (start_hand by_judge h)) few) o.0 o.1)
        ∙ ap broken_off more_hand
        ∙ made_broken by_judge [] (h ++ l) in
        end_one (done broken) (h ++ l) (ap (joined keep) is ∙ joined_made by_judge keep (done broken) [] (h ++ l) refl)
        hold (n + m) both_long refl (λ z. with_breaking z (n + m)) refl

    module _ (t : ℕ) (e : r ≡ Whole t) where
      o : LookSays (h ++ l) (Whole t)
      o = subst (LookSays (h ++ l)) e says

      more : length h < total_of (h ++ l)
      more =
          ⊎_elim (λ w. omega arith) (λ w. omega (arith, (x.stands.more w).1, total_prefix h l w))
          (lt_or_ge (length h) 3)

      pub whole_in : (n < t) × (t ≤ n + m) × (t ≤ 4096)
      whole_in = (omega (arith, more, h_long, o.1), omega (arith, o.3, both_long), o.2)

      abbrev k : ℕ
      k = t - n

      abbrev s : List ℕ
      s = h ++ take k l

      s_long : t ≡ length s
      s_long =
          sym (ap length (sym (take-append-add h l k))
          ∙ length-take-le (length h + k) (h ++ l) (omega (arith, h_long, o.3, whole_in))
          ∙ omega (arith, h_long, whole_in))

      whole_is : goesOn by_judge plain (holding h) l ≡ all (done filler) (drop k l) (made by_judge (s ∷ []))
      whole_is =
          let total : total_of (hand_of (start by_judge h) ++ l) ≡ t = ap total_of (sym run_is) ∙ sym o.1 in
          let long : length (hand_of (start by_judge h)) ≡ n = ap length (start_hand by_judge h) ∙ h_long in
          goes
          ∙ ap (λ (z : Next ℕ). z.story)
          (law_whole by_judge (outside filling) (start by_judge h) l k (omega (arith, total, long, whole_in))
          (omega (arith, whole_in)) (omega (arith, total, o.2)) (omega (arith, whole_in, l_long)))
          ∙ ap
          (λ (z : List ℕ). (stretch by_judge plain (outside filling)
          (place (outside filling) (finished (by_judge z) (all in-hand (take k l) (start by_judge h)))) (drop k l)).story)
          (ap (λ (z : List ℕ). z ++ take k l) (start_hand by_judge h))
          ∙ ap
          (λ (z : Story ℕ). (stretch by_judge plain (outside filling)
          (place (outside filling) (finished (by_judge s) z)) (drop k l)).story)
          (all_append in-hand h (take k l) (made by_judge []))
          ∙ ap (λ (z : Story ℕ). (stretch by_judge plain (outside filling) (place (outside filling) z) (drop k l)).story)
          (made_more by_judge [] s)
          ∙ ap (λ (z : Next ℕ). z.story)
          (pass by_judge (outside filling) (outside filling) (done filler) (λ b s. refl) (made by_judge (s ∷ []))
          (drop k l))

      pub end_whole : (number : ℕ) → number ≡ number_of (judged (h ++ take k p)) → (hold' : List ℕ)
          → hold' ≡ hold
          → (out' : List ℕ) → out' ≡ handedOut out 0 (h ++ take k p) → (g' : Gain)
          → g' ≡ with_section g t number
          → End hold' out' (with_filling g' (m - k))
      end_whole number ne hold' he out' oe g' we =
          let taken : take k p ≡ take k l = sym (take-take k m p (omega (arith, whole_in))) in
          let same : h ++ take k p ≡ s = ap (λ (z : List ℕ). h ++ z) taken in
          let now : g' ≡ gained was (s ∷ []) =
          we
          ∙ (λ i. with_section ((ge ∙ nothing_gained was) i) (s_long i)
          ((ne ∙ ap (λ (z : List ℕ). number_of (judged z)) same) i))
          ∙ gained_more was [] s in
          let both : out' ≡ laid out 0 (flatten (parted accepted (s ∷ []))) =
          oe ∙ (λ i. handedOut (out_same i) (at-start i) (same i)) ∙ handed_more out 0 [] s (omega arith) in
          let rest : m - k ≡ length (drop k l) = omega (arith, length-drop k l, l_long) in
          subst (λ (z : Gain). End hold' out' (with_filling z (m - k))) (sym now)
          (ends_as (all (done filler) (drop k l) (made by_judge (s ∷ [])))
          (ap (joined keep) whole_is ∙ joined_made by_judge keep (done filler) (s ∷ []) (drop k l) refl)
          (ends_made (done filler) was (s ∷ []) (drop k l) hold out 0 hold' out' (m - k) rest he both))

-- What the collector makes of a payload that the writer lays, for whatever a whole section comes to that is no kind of
-- a rest: it finishes the sections that end in it, has in hand what is laid of the one begun, and breaks off and skips
-- nothing.
use mathlib.Core.Path.{◌≡◌, refl, sym, ap, ◌∙◌, subst}
use mathlib.Core.Bool.{true, false}
use mathlib.Core.List.{List, [], ◌∷◌, ◌++◌, append_assoc, append-nil, flatten}
use mathlib.Core.Logic.{inl, inr, ⊎_elim}
use Prim.Native.Nat.{ℕ, zero, suc, ◌+◌, ◌≤◌, ◌<◌}
use native.Mathlib.Omega.{arith}
use lib.ListN.{length, take, drop, replicate, length-append}
use lib.Seq.{take-append_seam, drop-append_seam}
use borrow.Author.Tests.{ne_eqb}
use Rattle.wire.specs.Each.{Each}
use Rattle.wire.specs.Sections.{total_of, Unfinished}
use Rattle.collector.specs.Rules.{Kind, broken, filler, skipped, done, in-hand, Story, count_of, hand_of, broken_off, finished, holding, outside, filling, skipping, breaking, Next, plain, stretch, goesOn, sections_in, payload}
use Rattle.collector.specs.Inner.Stretch.{LookSays}
use Rattle.collector.specs.declared.stretch.Look.TheVariants.{Going}
use Rattle.collector.proofs.MarkLaws.{bytes_of_marked}
use Rattle.collector.proofs.ByteRuns.{place, all, all_none, all_append, lt_or_ge, total_prefix, pass, grow_short, grow_going, law_whole}
use Rattle.collector.proofs.SectionLoop.{Apart, wholes_settled, made, made_more, rest_of, turn_filler, turn_going, turn_whole}
use Rattle.collector.proofs.PayloadLaws.{same_hand, front, back, whole, beside_back, sections_both, count_both}
use Rattle.reverse.specs.Sent.{Sendable}
use Rattle.reverse.proofs.CutSections.{Begun, none, part, unended, part_unfinished, Cut}

-- ---- what a story tells

-- these sections came whole, these bytes are in hand, and none is broken off or skipped
pub record Tells (s : Story ℕ) (sections : List (List ℕ)) (h : List ℕ) : Type 0 where
  pub sections_are : s.sections ≡ sections
  pub hand_is : hand_of s ≡ h
  pub none_broken : count_of (done broken) s.marks ≡ 0
  pub none_skipped : count_of (done skipped) s.marks ≡ 0

tells_as : {s : Story ℕ} (s' : Story ℕ) {sections : List (List ℕ)} {h : List ℕ} → s ≡ s' → Tells s' sections h
    → Tells s sections h
tells_as s' {sections} {h} e x = subst (λ (z : Story ℕ). Tells z sections h) (sym e) x

-- the bytes laid of the section begun go on, as its rules see them
going_here : (h : List ℕ) → Unfinished h → LookSays h Going
going_here h x = ⊎_elim (λ w. inl w) (λ w. inr (w, (x.more w).0, (x.more w).1)) (lt_or_ge (length h) 3)

module _ (comes : List ℕ → Kind) (apart : Apart comes) where
  tells_hand : (secs : List (List ℕ)) (l : List ℕ) → Tells (all in-hand l (made comes secs)) secs l
  tells_hand secs l = record {
    sections_are = refl;
    hand_is = rest_of comes in-hand in-hand secs l (λ s. refl);
    none_broken = ap length (rest_of comes (done broken) in-hand secs l (apart breaking));
    none_skipped = ap length (rest_of comes (done skipped) in-hand secs l (apart skipping));
  }

  tells_filler : (secs : List (List ℕ)) (l : List ℕ) → Tells (all (done filler) l (made comes secs)) secs []
  tells_filler secs l = record {
    sections_are = refl;
    hand_is = rest_of comes in-hand (done filler) secs l (λ s. refl);
    none_broken = ap length (rest_of comes (done broken) (done filler) secs l (apart breaking));
    none_skipped = ap length (rest_of comes (done skipped) (done filler) secs l (apart skipping));
  }

  tells_made : (secs : List (List ℕ)) → Tells (made comes secs) secs []
  tells_made secs =
      tells_as (all (done filler) [] (made comes secs)) (sym (all_none (done filler) (made comes secs)))
      (tells_filler secs [])

  -- ---- the stretch that goes to the section begun

  module _ (b : ℕ) (h : List ℕ) where
    abbrev begun : List ℕ
    begun = b ∷ h

    hand : hand_of (holding begun) ≡ begun
    hand = bytes_of_marked in-hand in-hand begun

    -- it does not end there
    goes_going : (l r : List ℕ) → 0 < length r → Sendable (begun ++ (l ++ r))
        → goesOn comes plain (holding begun) l ≡ all in-hand (begun ++ l) (made comes [])
    goes_going l r k x =
        let unfinished = part_unfinished (begun ++ l) r k (subst Sendable (sym (append_assoc begun l r)) x) in
        let run : begun ++ l ≡ hand_of (holding begun) ++ l = ap (λ (z : List ℕ). z ++ l) (sym hand) in
        let says : LookSays (hand_of (holding begun) ++ l) Going =
        subst (λ (z : List ℕ). LookSays z Going) run (going_here (begun ++ l) unfinished) in
        ap (λ (n : Next ℕ). n.story)
        (⊎_elim (λ w. grow_short comes (outside filling) (holding begun) l w)
        (λ w. grow_going comes (outside filling) (holding begun) l w.1 w.2) says)
        ∙ all_append in-hand begun l (made comes [])

    -- it ends there, and filler follows
    goes_whole : (rest f : List ℕ) → 0 < length rest → Sendable (begun ++ rest)
        → goesOn comes plain (holding begun) (rest ++ f) ≡ all (done filler) f (made comes ((begun ++ rest) ∷ []))
    goes_whole rest f k x =
        let s : Story ℕ = holding begun in
        let w = x.whole in
        let run : hand_of s ++ (rest ++ f) ≡ (begun ++ rest) ++ f =
        ap (λ (z : List ℕ). z ++ (rest ++ f)) hand ∙ sym (append_assoc begun rest f) in
        let total : total_of (hand_of s ++ (rest ++ f)) ≡ total_of (begun ++ rest) =
        ap total_of run ∙ total_prefix (begun ++ rest) f w.header in
        let front : take (length rest) (rest ++ f) ≡ rest = take-append_seam rest f in
        let long : length (hand_of s) + length rest ≡ length (begun ++ rest) =
        ap (λ (z : List ℕ). length z + length rest) hand ∙ sym (length-append begun rest) in
        ap (λ (n : Next ℕ). n.story)
        (law_whole comes (outside filling) s (rest ++ f) (length rest) (long ∙ w.exact ∙ sym total) k
        (subst (λ (n : ℕ). n ≤ 4096) (sym total) w.limit) (omega (arith, length-append rest f)))
        ∙ ap
        (λ (z : List ℕ). (stretch comes plain (outside filling)
        (place (outside filling) (finished (comes (hand_of s ++ z)) (all in-hand z s)))
        (drop (length rest) (rest ++ f))).story)
        front
        ∙ ap
        (λ (z : List ℕ). (stretch comes plain (outside filling)
        (place (outside filling) (finished (comes (z ++ rest)) (all in-hand rest s)))
        (drop (length rest) (rest ++ f))).story)
        hand
        ∙ ap
        (λ (z : Story ℕ). (stretch comes plain (outside filling)
        (place (outside filling) (finished (comes (begun ++ rest)) z)) (drop (length rest) (rest ++ f))).story)
        (all_append in-hand begun rest (made comes []))
        ∙ ap
        (λ (z : Story ℕ). (stretch comes plain (outside filling) (place (outside filling) z)
        (drop (length rest) (rest ++ f))).story)
        (made_more comes [] (begun ++ rest))
        ∙ ap
        (λ (z : List ℕ). (stretch comes plain (outside filling)
        (place (outside filling) (made comes ((begun ++ rest) ∷ []))) z).story)
        (drop-append_seam rest f)
        ∙ ap (λ (n : Next ℕ). n.story)
        (pass comes (outside filling) (outside filling) (done filler) (λ c z. refl)
        (made comes ((begun ++ rest) ∷ [])) f)

  -- ---- sections that begin in the payload

  -- a whole one
  section_ends : (secs : List (List ℕ)) (s l : List ℕ) → Sendable s
      → sections_in comes plain (made comes secs) (s ++ l) ≡ sections_in comes plain (made comes (secs ++ (s ∷ []))) l
  section_ends secs [] l x = absurd (omega (arith, x.whole.header))
  section_ends secs (b ∷ s) l x =
      let w = x.whole in
      let t : ℕ = length (b ∷ s) in
      let total : total_of ((b ∷ s) ++ l) ≡ total_of (b ∷ s) = total_prefix (b ∷ s) l w.header in
      let more = length-append (b ∷ s) l in
      let header = w.header in
      turn_whole comes secs b (s ++ l) t (ne_eqb b 255 x.no_filler)
      (omega arith, w.exact ∙ sym total, omega (arith, w.exact, w.limit), omega arith)
      ∙ ap (λ (z : List ℕ). sections_in comes plain (made comes (secs ++ (z ∷ []))) (drop t ((b ∷ s) ++ l)))
      (take-append_seam (b ∷ s) l)
      ∙ ap (λ (z : List ℕ). sections_in comes plain (made comes (secs ++ ((b ∷ s) ∷ []))) z) (drop-append_seam (b ∷ s) l)

  -- one after another
  sections-end : (secs ended : List (List ℕ)) (l : List ℕ) → Each Sendable ended
      → sections_in comes plain (made comes secs) (flatten ended ++ l)
      ≡ sections_in comes plain (made comes (secs ++ ended)) l
  unfolding flatten
  sections-end secs [] l x = ap (λ (z : List (List ℕ)). sections_in comes plain (made comes z) l) (sym (append-nil secs))
  sections-end secs (s ∷ ended) l x =
      ap (sections_in comes plain (made comes secs)) (append_assoc s (flatten ended) l)
      ∙ section_ends secs s (flatten ended ++ l) x.0
      ∙ sections-end (secs ++ (s ∷ [])) ended l x.1
      ∙ ap (λ (z : List (List ℕ)). sections_in comes plain (made comes z) l) (append_assoc secs (s ∷ []) ended)

  -- filler where a section would begin
  filler_follows : (secs : List (List ℕ)) (k : ℕ)
      → Tells (sections_in comes plain (made comes secs) (replicate k 255)) secs []
  filler_follows secs zero = tells_made secs
  filler_follows secs (suc k) =
      tells_as (all (done filler) (replicate (suc k) 255) (made comes secs))
      (turn_filler comes secs 255 (replicate k 255) refl)
      (tells_filler secs (replicate (suc k) 255))

  -- the part of a section that the payload ends with, or filler
  part_follows : (secs : List (List ℕ)) {h rest : List ℕ} (k : ℕ) → Begun h rest → (0 < k → h ≡ [])
      → Tells (sections_in comes plain (made comes secs) (h ++ replicate k 255)) secs h
  part_follows secs k none f = filler_follows secs k
  part_follows secs zero (part b h c rest x) f =
      tells_as (all in-hand (b ∷ h) (made comes secs))
      (ap (sections_in comes plain (made comes secs)) (append-nil (b ∷ h))
      ∙ turn_going comes secs b h (ne_eqb b 255 x.no_filler)
      (going_here (b ∷ h) (part_unfinished (b ∷ h) (c ∷ rest) (omega arith) x)))
      (tells_hand secs (b ∷ h))
  part_follows secs (suc k) (part b h c rest x) f = let z = ap length (f (omega arith)) in absurd (omega arith)

  back_tells : {m : ℕ} {ws : List (List ℕ)} (c : Cut m ws) (k : ℕ) → (0 < k → c.h ≡ [])
      → Tells (back comes (take m (flatten ws) ++ replicate k 255)) c.ended c.h
  back_tells {m} {ws} c k f =
      tells_as (sections_in comes plain (made comes c.ended) (c.h ++ replicate k 255))
      (ap (λ (z : List ℕ). back comes (z ++ replicate k 255)) c.laid
      ∙ ap (back comes) (append_assoc (flatten c.ended) c.h (replicate k 255))
      ∙ sections-end [] c.ended (c.h ++ replicate k 255) c.each_ended)
      (part_follows c.ended k c.begun f)

  -- ---- with the start flag

  front_made : {h rest : List ℕ} → Begun h rest → goesOn comes plain (holding h) rest ≡ made comes (unended h rest [])
  front_made none = refl
  front_made (part b h c rest x) =
      ap (goesOn comes plain (holding (b ∷ h))) (sym (append-nil (c ∷ rest)))
      ∙ goes_whole b h (c ∷ rest) [] (omega arith) x
      ∙ all_none (done filler) (made comes (((b ∷ h) ++ (c ∷ rest)) ∷ []))

  front_tells : {h rest : List ℕ} → Begun h rest → Tells (front comes h rest) (unended h rest []) []
  front_tells {h} {rest} x =
      let secs : List (List ℕ) = unended h rest [] in
      tells_as (made comes secs)
      (ap broken_off (front_made x)
      ∙ (λ i. record { marks = wholes_settled comes (done broken) secs i; sections = secs }))
      (tells_made secs)

  -- the section begun ends behind the pointer, and others follow
  pub flagged_tells : {h rest : List ℕ} → Begun h rest → {m : ℕ} {ws : List (List ℕ)} (c : Cut m ws) (k : ℕ)
      → (0 < k → c.h ≡ [])
      → Tells (payload comes plain true (holding h) (length rest ∷ (rest ++ (take m (flatten ws) ++ replicate k 255))))
      (unended h rest [] ++ c.ended) c.h
  flagged_tells {h} {rest} x {m} {ws} c k f =
      let p : ℕ = length rest in
      let l₂ : List ℕ = take m (flatten ws) ++ replicate k 255 in
      let a = front_tells x in
      let b = back_tells c k f in
      tells_as (whole comes p h rest l₂)
      (ap (λ (z : List ℕ). whole comes p h z (drop p (rest ++ l₂))) (take-append_seam rest l₂)
      ∙ ap (whole comes p h rest) (drop-append_seam rest l₂))
      (record {
        sections_are = sections_both comes p h rest l₂ ∙ (λ i. a.sections_are i ++ b.sections_are i);
        hand_is = same_hand (beside_back comes p h rest l₂) ∙ b.hand_is;
        none_broken = omega (arith, count_both comes p h rest l₂ (done broken) refl, a.none_broken, b.none_broken);
        none_skipped =
            omega (arith, count_both comes p h rest l₂ (done skipped) refl, a.none_skipped, b.none_skipped);
      })

  -- ---- without it

  -- the section begun goes on to the end of the payload
  pub going_tells : (b : ℕ) (h l r : List ℕ) → 0 < length r → Sendable ((b ∷ h) ++ (l ++ r))
      → Tells (payload comes plain false (holding (b ∷ h)) l) [] ((b ∷ h) ++ l)
  going_tells b h l r k x =
      tells_as (all in-hand ((b ∷ h) ++ l) (made comes [])) (goes_going b h l r k x) (tells_hand [] ((b ∷ h) ++ l))

  -- it ends, and filler follows
  pub ending_tells : (b : ℕ) (h rest f : List ℕ) → 0 < length rest → Sendable ((b ∷ h) ++ rest)
      → Tells (payload comes plain false (holding (b ∷ h)) (rest ++ f)) (((b ∷ h) ++ rest) ∷ []) []
  ending_tells b h rest f k x =
      tells_as (all (done filler) f (made comes (((b ∷ h) ++ rest) ∷ []))) (goes_whole b h rest f k x)
      (tells_filler (((b ∷ h) ++ rest) ∷ []) f)

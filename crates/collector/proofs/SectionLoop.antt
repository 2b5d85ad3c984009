-- The turns of the loop over the sections of a stretch: the story for whatever a whole section comes to, and the answer by the judge.
use Rattle.std.proofs.Common.{◌≡◌, ℕ, zero, suc, ◌+◌, ◌-◌, ◌<◌, ◌≤◌, Bool, true, false, eqb, List, [], ◌∷◌, ◌++◌, length, get_or, take, drop, sym, refl, ap, ◌∙◌, subst, ⊎_elim, append_assoc, append-nil, arith, length-append, length-drop, drop_of_length-le, length-take-le, take_all, drop-cons, eq-eqb, ne_eqb}
use mathlib.Core.List.{flatten}
use Rattle.std.specs.Prelude.{if◌then◌else◌}
use Rattle.wire.specs.Sections.{total_of}
use Rattle.copy.specs.Laid.{over, laid}
use Rattle.copy.proofs.LaidLaws.{laid_none, laid_long}
use Rattle.collector.specs.Rules.{Kind, accepted, rejected, broken, filler, Fate, done, in-hand, Mark, Story, sameKind, same_fate, bytes_of, hand_of, marked, given, settled, broken_off, finished, holding, begin, inside, outside, Rest, filling, kind_of, Next, begun, plain, stretch, sections_in}
use Rattle.collector.specs.Judged.{kind_said, by_judge, last_number}
use Rattle.verdict.specs.Verdict.{Said, is_accepted, number_of}
use Rattle.verdict.specs.Verdict as Verdict
use Rattle.section.specs.Reading.{judged}
use Rattle.section.proofs.Numbers.{refused_number}
use Rattle.collector.specs.Inner.Settling.{handedOut}
use Rattle.collector.specs.Inner.Stretch.{LookSays, gain_of, gain_with, nothing, with_section, Ends}
use Rattle.collector.specs.declared.stretch.Look.{Look}
use Rattle.collector.specs.declared.stretch.Look.TheVariants.{Going, Over, Whole}
use Rattle.collector.specs.declared.stretch.Gain.{Gain}
use Rattle.collector.proofs.Counters.{gain_with_lem}
use Rattle.collector.proofs.MarkLaws.{flatten_snoc, bytes_of_append, bytes_of_more, bytes_of_marked, settled_append, settled_marked}
use Rattle.collector.proofs.Parted.{said_apart, parted, parted_said, handed_more, last_more}
use Rattle.collector.proofs.ByteRuns.{place, all, all_none, hand_all, pass, grow_short, grow_going, law_over, law_whole}

-- an answer says of a story what it says of an equal one
pub ends_as : {s : Story ℕ} {was : ℕ} {hold out : List ℕ} {at : ℕ} {hold' out' : List ℕ} {r : Gain} (s' : Story ℕ)
    → s ≡ s'
    → Ends s' was hold out at hold' out' r → Ends s was hold out at hold' out' r
ends_as {s} {was} {hold} {out} {at} {hold'} {out'} {r} s' e h =
    subst (λ (x : Story ℕ). Ends x was hold out at hold' out' r) (sym e) h

-- ---- the story of a stretch of which only whole sections have come, with bytes of one more fate after them

-- whole sections come to no kind that the bytes of a stretch's rest have: the code counts those apart
abbrev pub Apart : (List ℕ → Kind) → Type 0
Apart comes = (rest : Rest) (s : List ℕ) → sameKind (kind_of rest) (comes s) ≡ false

pub by_judge_apart : Apart by_judge
by_judge_apart rest s = said_apart rest (judged s)

-- the answer for whole sections secs and m bytes of the fate g behind them
abbrev pub answer_of : Fate → ℕ → List (List ℕ) → ℕ → Gain
answer_of g was secs m =
    gain_with (if same_fate in-hand g then m else 0) (length (parted accepted secs))
    (length (flatten (parted accepted secs)))
    (length (flatten (parted rejected secs))) (last_number was (parted rejected secs))
    (λ rest. if same_fate (done (kind_of rest)) g then m else 0)

-- and for nothing behind them
abbrev pub gained : ℕ → List (List ℕ) → Gain
gained was secs = answer_of (done filler) was secs 0

if-long : (t : Bool) (l : List ℕ) (m : ℕ) → m ≡ length l → (if t then m else 0) ≡ length (if t then l else [])
if-long true l m e = e
if-long false l m e = refl

module _ (comes : List ℕ → Kind) where
  -- the marks of whole sections, one after another
  abbrev pub wholes : List (List ℕ) → List (Mark ℕ)
  wholes [] = []
  wholes (s ∷ secs) = marked (done (comes s)) s ++ wholes secs

  abbrev pub made : List (List ℕ) → Story ℕ
  made secs = record { marks = wholes secs; sections = secs }

  wholes_more : (secs : List (List ℕ)) (s : List ℕ)
      → wholes (secs ++ (s ∷ [])) ≡ wholes secs ++ marked (done (comes s)) s
  wholes_more [] s = append-nil (marked (done (comes s)) s)
  wholes_more (t ∷ secs) s =
      ap (λ (l : List (Mark ℕ)). marked (done (comes t)) t ++ l) (wholes_more secs s)
      ∙ sym (append_assoc (marked (done (comes t)) t) (wholes secs) (marked (done (comes s)) s))

  -- none of their bytes is in hand, or of another fate than they come to
  pub wholes_settled : (f : Fate) (secs : List (List ℕ)) → settled f (wholes secs) ≡ wholes secs
  wholes_settled f [] = refl
  wholes_settled f (s ∷ secs) =
      settled_append f (marked (done (comes s)) s) (wholes secs)
      ∙ ap (λ (l : List (Mark ℕ)). l ++ settled f (wholes secs)) (settled_marked f (done (comes s)) s)
      ∙ ap (λ (l : List (Mark ℕ)). marked (done (comes s)) s ++ l) (wholes_settled f secs)

  wholes_none : (f : Fate) → ((s : List ℕ) → same_fate f (done (comes s)) ≡ false) → (secs : List (List ℕ))
      → bytes_of f (wholes secs) ≡ []
  wholes_none f e [] = refl
  wholes_none f e (s ∷ secs) =
      bytes_of_append f (marked (done (comes s)) s) (wholes secs)
      ∙ ap (λ (l : List ℕ). l ++ bytes_of f (wholes secs))
      (bytes_of_marked f (done (comes s)) s ∙ ap (λ (t : Bool). if t then s else []) (e s))
      ∙ wholes_none f e secs

  -- one section more
  pub made_more : (secs : List (List ℕ)) (s : List ℕ)
      → finished (comes s) (all in-hand s (made secs)) ≡ made (secs ++ (s ∷ []))
  made_more secs s = λ i. record { marks = marks_is i; sections = secs ++ (hand_is i ∷ []) }
    where
      hand_is : hand_of (all in-hand s (made secs)) ≡ s
      hand_is = hand_all s (made secs) ∙ ap (λ (l : List ℕ). l ++ s) (wholes_none in-hand (λ t. refl) secs)

      marks_is : settled (done (comes s)) (wholes secs ++ marked in-hand s) ≡ wholes (secs ++ (s ∷ []))
      marks_is =
          settled_append (done (comes s)) (wholes secs) (marked in-hand s)
          ∙ ap (λ (l : List (Mark ℕ)). l ++ settled (done (comes s)) (marked in-hand s))
          (wholes_settled (done (comes s)) secs)
          ∙ ap (λ (l : List (Mark ℕ)). wholes secs ++ l) (settled_marked (done (comes s)) in-hand s)
          ∙ sym (wholes_more secs s)

  -- a section that declares too much, behind whole ones
  pub made_broken : (secs : List (List ℕ)) (l : List ℕ)
      → broken_off (all in-hand l (made secs)) ≡ all (done broken) l (made secs)
  made_broken secs l = λ i. record { marks = marks_is i; sections = secs }
    where
      marks_is : settled (done broken) (wholes secs ++ marked in-hand l) ≡ wholes secs ++ marked (done broken) l
      marks_is =
          settled_append (done broken) (wholes secs) (marked in-hand l)
          ∙ ap (λ (x : List (Mark ℕ)). x ++ settled (done broken) (marked in-hand l))
          (wholes_settled (done broken) secs)
          ∙ ap (λ (x : List (Mark ℕ)). wholes secs ++ x) (settled_marked (done broken) in-hand l)

  -- the bytes of a fate that no whole section comes to are all behind the sections
  pub rest_of : (f g : Fate) (secs : List (List ℕ)) (l : List ℕ) → ((s : List ℕ) → same_fate f (done (comes s)) ≡ false)
      → bytes_of f (all g l (made secs)).marks ≡ (if same_fate f g then l else [])
  rest_of f g secs l e =
      bytes_of_more f g (wholes secs) l
      ∙ ap (λ (x : List ℕ). x ++ (if same_fate f g then l else [])) (wholes_none f e secs)

  -- ---- what one turn comes to, under the byte-at-a-time rules

  module _ (secs : List (List ℕ)) where
    abbrev from : List ℕ → Story ℕ
    from l = sections_in comes plain (made secs) l

    abbrev first : ℕ → Story ℕ
    first b = all in-hand (b ∷ []) (made secs)

    first_hand : (b : ℕ) → hand_of (first b) ≡ b ∷ []
    first_hand b = rest_of in-hand in-hand secs (b ∷ []) (λ s. refl)

    -- the byte of a section's beginning, and the bytes behind it
    first_more : (b : ℕ) (l : List ℕ) → all in-hand l (first b) ≡ all in-hand (b ∷ l) (made secs)
    first_more b l = λ i.
        record {
          marks = append_assoc (wholes secs) (marked in-hand (b ∷ []))
              (marked in-hand l) i;
          sections = secs;
        }

    pub turn_filler : (b : ℕ) (l : List ℕ) → eqb b 255 ≡ true → from (b ∷ l) ≡ all (done filler) (b ∷ l) (made secs)
    turn_filler b l e =
        ap (λ (t : Bool). (stretch comes plain begin (begun t b (made secs)) l).story) e
        ∙ ap (λ (n : Next ℕ). n.story)
        (pass comes begin (outside filling) (done filler) (λ c s. refl) (given (done filler) b (made secs)) l)
        ∙ (λ i.
        record {
          marks = append_assoc (wholes secs) (marked (done filler) (b ∷ []))
              (marked (done filler) l) i;
          sections = secs;
        })

    turn_first : (b : ℕ) (l : List ℕ) → eqb b 255 ≡ false
        → from (b ∷ l) ≡ (stretch comes plain begin (place inside (first b)) l).story
    turn_first b l e = ap (λ (t : Bool). (stretch comes plain begin (begun t b (made secs)) l).story) e

    -- the run from the section's first byte on, as its header sees it
    here : (b : ℕ) (l : List ℕ) → hand_of (first b) ++ l ≡ b ∷ l
    here b l = ap (λ (h : List ℕ). h ++ l) (first_hand b)

    pub turn_going : (b : ℕ) (l : List ℕ) → eqb b 255 ≡ false → LookSays (b ∷ l) Going
        → from (b ∷ l) ≡ all in-hand (b ∷ l) (made secs)
    turn_going b l e says =
        let v = sym (here b l) in
        turn_first b l e
        ∙ ap (λ (n : Next ℕ). n.story)
        (⊎_elim (λ w. grow_short comes begin (first b) l (subst (λ (x : List ℕ). length x < 3) v w))
        (λ w. grow_going comes begin (first b) l (subst (λ (x : List ℕ). total_of x ≤ 4096) v w.1)
        (subst (λ (x : List ℕ). length x < total_of x) v w.2))
        says)
        ∙ first_more b l

    turn_over : (b : ℕ) (l : List ℕ) → eqb b 255 ≡ false → LookSays (b ∷ l) Over
        → from (b ∷ l) ≡ all (done broken) (b ∷ l) (made secs)
    turn_over b l e says =
        let v = sym (here b l) in
        turn_first b l e
        ∙ ap (λ (n : Next ℕ). n.story)
        (law_over comes begin (first b) l (omega (arith, ap length (first_hand b)))
        (subst (λ (x : List ℕ). 3 ≤ length x) v says.0) (subst (λ (x : List ℕ). 4096 < total_of x) v says.1))
        ∙ ap broken_off (first_more b l)
        ∙ made_broken secs (b ∷ l)

    pub turn_whole : (b : ℕ) (l : List ℕ) (t : ℕ) → eqb b 255 ≡ false → LookSays (b ∷ l) (Whole t)
        → from (b ∷ l) ≡ sections_in comes plain (made (secs ++ (take t (b ∷ l) ∷ []))) (drop t (b ∷ l))
    turn_whole b l zero e says = absurd (omega (arith, says.1))
    turn_whole b l (suc k) e says =
        let v = sym (here b l) in
        let one : length (hand_of (first b)) ≡ 1 = ap length (first_hand b) in
        let same : total_of (hand_of (first b) ++ l) ≡ suc k = ap total_of (here b l) ∙ sym says.1 in
        turn_first b l e
        ∙ ap (λ (n : Next ℕ). n.story)
        (law_whole comes begin (first b) l k (omega (arith, one, same)) (omega (arith, says.1))
        (omega (arith, same, says.2)) (omega (arith, says.3)))
        ∙ ap (λ (h : List ℕ). sections_in comes plain (finished (comes h) (all in-hand (take k l) (first b))) (drop k l))
        (here b (take k l))
        ∙ ap (λ (s : Story ℕ). sections_in comes plain (finished (comes (b ∷ take k l)) s) (drop k l))
        (first_more b (take k l))
        ∙ ap (λ (s : Story ℕ). sections_in comes plain s (drop k l)) (made_more secs (b ∷ take k l))

-- ---- the answer

pub ends_made : (g : Fate) (was : ℕ) (secs : List (List ℕ)) (l hold out : List ℕ) (at : ℕ) (hold' out' : List ℕ) (m : ℕ)
    → m ≡ length l → hold' ≡ over (if same_fate in-hand g then l else []) hold
    → out' ≡ laid out at (flatten (parted accepted secs))
    → Ends (all g l (made by_judge secs)) was hold out at hold' out' (answer_of g was secs m)
ends_made g was secs l hold out at hold' out' m long eh eo =
    let hand = sym (rest_of by_judge in-hand g secs l (λ s. refl)) in
    record {
      in-hand = if-long (same_fate in-hand g) l m long ∙ ap length hand;
      sections = refl;
      bytes = refl;
      rejected = refl;
      rejection = refl;
      counts = λ rest.
          gain_with_lem (if same_fate in-hand g then m else 0) (length (parted accepted secs))
          (length (flatten (parted accepted secs))) (length (flatten (parted rejected secs)))
          (last_number was (parted rejected secs)) (λ r. if same_fate (done (kind_of r)) g then m else 0) rest
          ∙ if-long (same_fate (done (kind_of rest)) g) l m long
          ∙ ap length (sym (rest_of by_judge (done (kind_of rest)) g secs l (by_judge_apart rest)));
      the_hold = eh ∙ ap (λ (x : List ℕ). over x hold) hand;
      the_out = eo;
    }

-- one section more
module _ (was : ℕ) (secs : List (List ℕ)) (s : List ℕ) where
  abbrev acc : List (List ℕ)
  acc = parted accepted secs

  abbrev rej : List (List ℕ)
  rej = parted rejected secs

  -- the answer by the sections of each kind
  abbrev answer_by : List (List ℕ) → List (List ℕ) → Gain
  answer_by a r = gain_with 0 (length a) (length (flatten a)) (length (flatten r)) (last_number was r) (λ rest. 0)

  now_parted : (v : Said) → judged s ≡ v
      → answer_by (acc ++ (if sameKind accepted (kind_said v) then s ∷ [] else []))
      (rej ++ (if sameKind rejected (kind_said v) then s ∷ [] else []))
      ≡ gained was (secs ++ (s ∷ []))
  now_parted v e = λ i. answer_by (sym (parted_said accepted secs s v e) i) (sym (parted_said rejected secs s v e) i)

  longer : (l : List (List ℕ)) → length (flatten l) + length s ≡ length (flatten (l ++ (s ∷ [])))
  longer l = sym (ap length (flatten_snoc l s) ∙ length-append (flatten l) s)

  -- an answer with one section more, by whether its number is 0
  abbrev more_by : Bool → ℕ → Gain
  more_by t number =
      if t then gain_with 0 (length acc + 1) (length (flatten acc) + length s) (length (flatten rej))
      (last_number was rej) (λ rest. 0)
      else gain_with 0 (length acc) (length (flatten acc)) (length (flatten rej) + length s) number (λ rest. 0)

  by_said : (v : Said) → judged s ≡ v
      → with_section (gained was secs) (length s) (number_of v) ≡ gained was (secs ++ (s ∷ []))
  by_said Verdict.accepted e =
      (λ i. gain_with 0 (sym (length-append acc (s ∷ [])) i) (longer acc i) (length (flatten (sym (append-nil rej) i)))
      (last_number was (sym (append-nil rej) i)) (λ rest. 0))
      ∙ now_parted Verdict.accepted e
  by_said (Verdict.refused k q) e =
      let number : k ≡ last_number was (rej ++ (s ∷ [])) = sym (last_more was rej (s ∷ []) ∙ ap number_of e) in
      ap (λ (t : Bool). more_by t k) (ne_eqb k 0 (λ z. omega (arith, refused_number s k q e)))
      ∙ (λ i. gain_with 0 (length (sym (append-nil acc) i)) (length (flatten (sym (append-nil acc) i))) (longer rej i)
      (number i)
      (λ rest. 0))
      ∙ now_parted (Verdict.refused k q) e

  pub gained_more : with_section (gained was secs) (length s) (number_of (judged s)) ≡ gained was (secs ++ (s ∷ []))
  gained_more = by_said (judged s) refl

-- it adds its bytes to those of one kind
module _ (g : Gain) (t number : ℕ) where
  abbrev added_to : Bool → Gain
  added_to b =
      if b then gain_with g.in_hand (g.sections + 1) (g.bytes + t) g.rejected g.rejection (gain_of g)
      else gain_with g.in_hand g.sections g.bytes (g.rejected + t) number (gain_of g)

  abbrev OneMore : Gain → Type 0
  OneMore z = (z.sections ≤ z.bytes) × (z.bytes + z.rejected ≡ g.bytes + g.rejected + t)
      × (z.bytes ≤ g.bytes + t)

  one_more : 1 ≤ t → g.sections ≤ g.bytes → (b : Bool) → OneMore (added_to b)
  one_more some few true = (omega arith, omega arith, omega arith)
  one_more some few false = (omega arith, omega arith, omega arith)

handed_long : (out : List ℕ) (at : ℕ) (s : List ℕ) → at + length s ≤ length out
    → length (handedOut out at s) ≡ length out
handed_long out at s w = by (is_accepted (judged s))
  where
    by : (b : Bool) → length (if b then laid out at s else out) ≡ length out
    by true = laid_long out at s w
    by false = refl

-- ---- where the loop stands: the sections secs came, and rest is what is left of the part; the accepted ones are in out

pub record Reached (part : List ℕ) (was : ℕ) (hold₀ out₀ : List ℕ) (at : ℕ) (hold out rest : List ℕ) (g : Gain)
    : Type 0 where
  pub secs : List (List ℕ)
  pub gain : g ≡ gained was secs
  pub few : g.sections ≤ g.bytes
  pub passed : g.bytes + g.rejected + length rest ≤ length part
  pub fits : at + g.bytes + length rest ≤ length out₀
  pub long : length out ≡ length out₀
  pub the_hold : hold ≡ hold₀
  pub hold_long : length hold ≡ length hold₀
  pub the_out : out ≡ laid out₀ at (flatten (parted accepted secs))
  pub so_far : sections_in by_judge plain (holding []) part
      ≡ sections_in by_judge plain (made by_judge secs) rest

-- at the start no section has come
pub nothing_gained : (was : ℕ) → nothing was ≡ gained was []
unfolding flatten
nothing_gained was = refl

pub none_yet : (part : List ℕ) (was : ℕ) (hold out : List ℕ) (at : ℕ) (g : Gain) → g ≡ nothing was
    → at + length part ≤ length out → Reached part was hold out at hold out part g
unfolding flatten
none_yet part was hold out at g e w =
    let no_bytes : g.bytes ≡ 0 = ap (λ (z : Gain). z.bytes) e in
    let no-sections : g.sections ≡ 0 = ap (λ (z : Gain). z.sections) e in
    let none_rejected : g.rejected ≡ 0 = ap (λ (z : Gain). z.rejected) e in
    record {
      secs = [];
      gain = e;
      few = omega (arith, no_bytes, no-sections);
      passed = omega (arith, no_bytes, none_rejected);
      fits = omega (arith, no_bytes);
      long = refl;
      the_hold = refl;
      hold_long = refl;
      the_out = laid_none out at;
      so_far = refl;
    }

-- an answer with the bytes of a stretch's end
abbrev pub with_hand : Gain → ℕ → Gain
with_hand g m = gain_with m g.sections g.bytes g.rejected g.rejection (gain_of g)

abbrev pub with_breaking : Gain → ℕ → Gain
with_breaking g m = record {
  in_hand = g.in_hand;
  sections = g.sections;
  bytes = g.bytes;
  rejected = g.rejected;
  rejection = g.rejection;
  breaking = m;
  filling = g.filling;
  skipping = g.skipping;
}

abbrev pub with_filling : Gain → ℕ → Gain
with_filling g m = record {
  in_hand = g.in_hand;
  sections = g.sections;
  bytes = g.bytes;
  rejected = g.rejected;
  rejection = g.rejection;
  breaking = g.breaking;
  filling = m;
  skipping = g.skipping;
}

abbrev pub with_skipping : Gain → ℕ → Gain
with_skipping g m = record {
  in_hand = g.in_hand;
  sections = g.sections;
  bytes = g.bytes;
  rejected = g.rejected;
  rejection = g.rejection;
  breaking = g.breaking;
  filling = g.filling;
  skipping = m;
}

module _ {part : List ℕ} {was : ℕ} {hold₀ out₀ : List ℕ} {at : ℕ} {hold out rest : List ℕ} {g : Gain}
    (x : Reached part was hold₀ out₀ at hold out rest g) where
  abbrev End : List ℕ → Gain → Type 0
  End hold' r = Ends (sections_in by_judge plain (holding []) part) was hold₀ out₀ at hold' out r

  -- an answer that is made of what the sections came to
  of_gained : (f : Gain → Gain) (hold' : List ℕ) → End hold' (f (gained was x.secs)) → End hold' (f g)
  of_gained f hold' e = subst (λ (z : Gain). End hold' (f z)) (sym x.gain) e

  pub end_all : length rest ≤ 0 → End hold g
  end_all k =
      of_gained (λ z. z) hold
      (ends_as (all (done filler) [] (made by_judge x.secs))
      (x.so_far
      ∙ ap (sections_in by_judge plain (made by_judge x.secs)) (drop_of_length-le rest k)
      ∙ sym (all_none (done filler) (made by_judge x.secs)))
      (ends_made (done filler) was x.secs [] hold₀ out₀ at hold out 0 refl x.the_hold x.the_out))

  module _ (k : 0 < length rest) where
    abbrev b : ℕ
    b = get_or rest 0 0

    abbrev tail : List ℕ
    tail = drop 1 rest

    cons : rest ≡ b ∷ tail
    cons = drop-cons rest 0 0 k

    now_here : sections_in by_judge plain (holding []) part
        ≡ sections_in by_judge plain (made by_judge x.secs) (b ∷ tail)
    now_here = x.so_far ∙ ap (sections_in by_judge plain (made by_judge x.secs)) cons

    long_here : length rest ≡ length (b ∷ tail)
    long_here = ap length cons

    pub end_filler : b ≡ 255 → End hold (with_filling g (length rest))
    end_filler e =
        of_gained (λ z. with_filling z (length rest)) hold
        (ends_as (all (done filler) (b ∷ tail) (made by_judge x.secs))
        (now_here ∙ turn_filler by_judge x.secs b tail (eq-eqb b 255 e))
        (ends_made (done filler) was x.secs (b ∷ tail) hold₀ out₀ at hold out (length rest) long_here x.the_hold
        x.the_out))

    module _ (other : b ≡ 255 → ⊥) (r : Look) (says : LookSays rest r) where
      look_here : (r' : Look) → r ≡ r' → LookSays (b ∷ tail) r'
      look_here r' e = subst (λ (l : List ℕ). LookSays l r') cons (subst (LookSays rest) e says)

      pub end_over : r ≡ Over → End hold (with_breaking g (length rest))
      end_over e =
          of_gained (λ z. with_breaking z (length rest)) hold
          (ends_as (all (done broken) (b ∷ tail) (made by_judge x.secs))
          (now_here ∙ turn_over by_judge x.secs b tail (ne_eqb b 255 other) (look_here Over e))
          (ends_made (done broken) was x.secs (b ∷ tail) hold₀ out₀ at hold out (length rest) long_here
          x.the_hold
          x.the_out))

      pub end_going : r ≡ Going → (hold' : List ℕ) → hold' ≡ laid hold 0 rest
          → End hold' (with_hand g (length rest))
      end_going e hold' w =
          let l : List ℕ = b ∷ tail in
          let kept : hold' ≡ over l hold₀ =
          w
          ∙ ap (λ (m : ℕ). rest ++ drop m hold) (omega arith)
          ∙ (λ j. over (cons j) (x.the_hold j)) in
          of_gained (λ z. with_hand z (length rest)) hold'
          (ends_as (all in-hand l (made by_judge x.secs))
          (now_here ∙ turn_going by_judge x.secs b tail (ne_eqb b 255 other) (look_here Going e))
          (ends_made in-hand was x.secs l hold₀ out₀ at hold' out (length rest) long_here kept x.the_out))

      module _ (t : ℕ) (e : r ≡ Whole t) where
        said : LookSays (b ∷ tail) (Whole t)
        said = look_here (Whole t) e

        pub whole_in : (3 ≤ t) × (t ≤ length rest)
        whole_in = (omega (arith, said.1), omega (arith, said.3, long_here))

        abbrev s : List ℕ
        s = take t rest

        s_long : t ≡ length s
        s_long = sym (length-take-le t rest (omega (arith, whole_in)))

        left : length (drop t rest) ≡ length rest - t
        left = length-drop t rest

        -- what is left behind the section
        behind : take (length rest - t) (drop t rest) ≡ drop t rest
        behind = take_all (length rest - t) (drop t rest) (omega (arith, left))

        pub again : at ≤ length out₀ → (number : ℕ) → number ≡ number_of (judged s) → (g' : Gain)
            → g' ≡ with_section g t number
            → (out' : List ℕ) → out' ≡ handedOut out (at + g.bytes) s
            → Reached part was hold₀ out₀ at hold out' (take (length rest - t) (drop t rest)) g'
        again fits number ne g' ge out' oe =
            let one : OneMore g t number g' =
            subst (OneMore g t number) (sym ge)
            (one_more g t number (omega (arith, whole_in)) x.few (eqb number 0)) in
            let place : at + g.bytes ≡ at + length (flatten (parted accepted x.secs)) =
            ap (λ (z : Gain). at + z.bytes) x.gain in
            subst (λ (l : List ℕ). Reached part was hold₀ out₀ at hold out' l g') (sym behind)
            (record {
              secs = x.secs ++ (s ∷ []);
              gain =
                  ge
                  ∙ (λ j. with_section (x.gain j) (s_long j) (ne j))
                  ∙ gained_more was x.secs s;
              few = one.0;
              passed = omega (arith, one, whole_in, left, x.passed);
              fits = omega (arith, one, whole_in, left, x.fits);
              long =
                  ap length oe
                  ∙ handed_long out (at + g.bytes) s (omega (arith, whole_in, s_long, x.fits, x.long))
                  ∙ x.long;
              the_hold = x.the_hold;
              hold_long = x.hold_long;
              the_out = oe ∙ (λ j. handedOut (x.the_out j) (place j) s) ∙ handed_more out₀ at x.secs s fits;
              so_far = now_here ∙ turn_whole by_judge x.secs b tail t (ne_eqb b 255 other) said
                  ∙ ap (λ (z : List ℕ). sections_in by_judge plain (made by_judge (x.secs ++ (take t z ∷ []))) (drop t z))
                  (sym cons);
            })

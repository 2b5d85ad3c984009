-- A packet's payload, from the code's answers for its stretches to its story. What a whole section comes to is left open,
-- but where the size of what comes out is bounded: that goes by the bytes that are delivered.
use Rattle.std.proofs.Common.{◌≡◌, ℕ, ◌+◌, ◌-◌, ◌<◌, ◌≤◌, Bool, true, false, not, List, [], ◌∷◌, ◌++◌, map, length, get_or, take, drop, sym, refl, ap, ◌∙◌, subst, append_assoc, append-nil, map-id, add-zero, arith, length-append, length-drop, get_or-drop, take_all, drop-cons, drop-drop}
use mathlib.Core.Bool.{false≢true}
use mathlib.Core.List.{flatten}
use lib.Seq.{take-append_seam, drop-append-add}
use Rattle.std.specs.Prelude.{if◌then◌else◌}
use Rattle.wire.specs.Each.{Each}
use Rattle.wire.proofs.EachLaws.{each_of}
use Rattle.copy.specs.Laid.{over}
use Rattle.collector.specs.Rules.{Kind, accepted, rejected, Fate, pointer, broken, done, in-hand, Story, same_fate, bytes_of, count_of, hand_of, marked, given, broken_off, holding, kind_of, joined, plain, goesOn, sections_in, started, payload}
use Rattle.collector.specs.Judged.{by_judge, delivered_of, rejected_of, last_number}
use Rattle.collector.specs.Inner.Stretch.{gain_of, Ends, Small, both_of}
use Rattle.collector.specs.Inner.Payload.{Fit, front_rest, front_bytes}
use Rattle.collector.specs.declared.stretch.Gain.{Gain}
use Rattle.collector.proofs.Counters.{one_of, rest_apart, gain_with_lem, small_by}
use Rattle.collector.proofs.MarkLaws.{flatten_append, bytes_of_more, settled_hand}
use Rattle.collector.proofs.SectionLoop.{ends_as}
use Rattle.collector.proofs.Simulation.{Beside, beside_broken, beside_goes, beside_sections}
use Rattle.collector.proofs.Invariants.{keep-goes, keep-sections}
use Rattle.collector.proofs.StoryLaws.{Any, Kept, keeps_kept, kept_holding, sections_more, counts_in, ended_in, few, sections_each}
use Rattle.collector.proofs.Parted.{accepted-by-end, rejected-by-end, parted, last_more}

-- ---- beside, over bare numbers

pub plain_sections : (l : List (List ℕ)) → map (map plain) l ≡ l
plain_sections [] = refl
plain_sections (s ∷ l) = λ i. map-id s i ∷ plain_sections l i

pub any : (l : List ℕ) → Each Any l
any l = each_of Any (λ a. tt) l

module _ {base : Fate → ℕ} {secs : List (List ℕ)} {s S : Story ℕ} (x : Beside plain base secs s S) where
  pub same_hand : hand_of S ≡ hand_of s
  same_hand = sym (map-id (hand_of S)) ∙ x.hand

  pub more_sections : S.sections ≡ secs ++ s.sections
  more_sections = sym (plain_sections S.sections) ∙ x.sections

-- a story with nothing in hand, beside nothing
pub beside_nothing : (F : Story ℕ) → hand_of F ≡ []
    → Beside plain (λ f. count_of f F.marks) F.sections (holding []) F
beside_nothing F e = record {
  hand = ap (map plain) e;
  sections = plain_sections F.sections ∙ sym (append-nil F.sections);
  counts = λ f h. sym (add-zero (count_of f F.marks));
}

-- a pointer byte, of each fate
abbrev one : ℕ → Fate → ℕ
one p f = length (if same_fate f (done pointer) then p ∷ [] else [])

-- the stretch that goes to the section in hand is in the packet
pub front_in : (start : Bool) {n : ℕ} {hold out packet : List ℕ} {from : ℕ} → Fit n hold out packet from start
    → (rest : List ℕ) → rest ≡ front_rest start (drop from packet) → (m : ℕ) → m ≡ front_bytes start (drop from packet)
    → (m ≤ length rest) × (from + length rest ≤ length packet)
front_in true {packet = packet} {from = from} x rest e m w =
    let long : length rest ≡ length packet - from - 1 =
    ap length e ∙ length-drop 1 (drop from packet) ∙ ap (λ (k : ℕ). k - 1) (length-drop from packet) in
    let at : m ≡ get_or packet from 0 =
    w ∙ get_or-drop from packet 0 0 ∙ ap (λ (i : ℕ). get_or packet i 0) (add-zero from) in
    (omega (arith, long, at, x.points refl), omega (arith, long, x.from_within))
front_in false {packet = packet} {from = from} x rest e m w =
    let long : length rest ≡ length packet - from = ap length e ∙ length-drop from packet in
    (omega (arith, w, ap length e), omega (arith, long, x.from_within))

-- ---- whatever a whole section comes to

module _ (comes : List ℕ → Kind) where
  -- ---- the stretch that goes to the section in hand

  -- keep says whether a section that is still unfinished stays in hand
  abbrev pub gone : Bool → List ℕ → List ℕ → Story ℕ
  gone keep h l = joined keep (goesOn comes plain (holding h) l)

  kept_on : (h l : List ℕ) → Kept comes plain (h ++ l) (goesOn comes plain (holding h) l)
  kept_on h l =
      keep-goes comes plain Any (Kept comes plain) (keeps_kept comes plain) h (holding h) l (any l)
      (kept_holding comes plain h)

  pub kept_gone : (keep : Bool) (h l : List ℕ) → Kept comes plain (h ++ l) (gone keep h l)
  kept_gone true h l = kept_on h l
  kept_gone false h l = (keeps_kept comes plain).breaks (h ++ l) (goesOn comes plain (holding h) l) (kept_on h l)

  -- ---- a packet with the start flag

  -- what comes before the target, where nothing unfinished is kept
  abbrev pub front : List ℕ → List ℕ → Story ℕ
  front h l = gone false h l

  -- the same with the pointer byte before it
  abbrev pointed : ℕ → List ℕ → List ℕ → Story ℕ
  pointed p h l = broken_off (goesOn comes plain (given (done pointer) p (holding h)) l)

  abbrev pub back : List ℕ → Story ℕ
  back l = sections_in comes plain (holding []) l

  pub kept_back : (l : List ℕ) → Kept comes plain l (back l)
  kept_back l =
      keep-sections comes plain Any (Kept comes plain) (keeps_kept comes plain) [] (holding []) l (any l)
      (kept_holding comes plain [])

  -- the pointer byte stays apart from the stretch after it
  beside_front : (p : ℕ) (h l : List ℕ) → Beside plain (one p) [] (front h l) (pointed p h l)
  beside_front p h l =
      subst (λ (z : List ℕ). Beside plain (one p) [] (front h z) (pointed p h l)) (map-id l)
      (beside_broken plain (one p) [] (goesOn comes plain (holding h) (map plain l))
      (goesOn comes plain (given (done pointer) p (holding h)) l)
      (beside_goes comes plain (one p) [] (holding h) (given (done pointer) p (holding h)) l (record {
        hand = map-id _ ∙ bytes_of_more in-hand (done pointer) (marked in-hand h) (p ∷ []) ∙ append-nil _;
        sections = refl;
        counts = λ f e. let more = ap length (bytes_of_more f (done pointer) (marked in-hand h) (p ∷ []))
            ∙ length-append (bytes_of f (marked in-hand h)) _ in omega (arith, more);
      })))

  abbrev pub whole : ℕ → List ℕ → List ℕ → List ℕ → Story ℕ
  whole p h l l₂ = sections_in comes plain (pointed p h l) l₂

  -- what came before the target stays apart from the sections after it
  pub beside_back : (p : ℕ) (h l l₂ : List ℕ)
      → Beside plain (λ f. count_of f (pointed p h l).marks) (pointed p h l).sections (back l₂) (whole p h l l₂)
  beside_back p h l l₂ =
      subst
      (λ (z : List ℕ). Beside plain (λ f. count_of f (pointed p h l).marks) (pointed p h l).sections (back z)
      (whole p h l l₂))
      (map-id l₂)
      (beside_sections comes plain _ _ (holding []) (pointed p h l) l₂
      (beside_nothing (pointed p h l)
      (settled_hand (done broken) refl (goesOn comes plain (given (done pointer) p (holding h)) l).marks)))

  module _ (p : ℕ) (h l l₂ : List ℕ) where
    pub sections_both : (whole p h l l₂).sections ≡ (front h l).sections ++ (back l₂).sections
    sections_both =
        more_sections (beside_back p h l l₂)
        ∙ ap (λ (z : List (List ℕ)). z ++ (back l₂).sections) (more_sections (beside_front p h l))

    pub count_both : (f : Fate) → same_fate f in-hand ≡ false
        → count_of f (whole p h l l₂).marks ≡ one p f + count_of f (front h l).marks + count_of f (back l₂).marks
    count_both f e = omega (arith, (beside_back p h l l₂).counts f e, (beside_front p h l).counts f e)

-- ---- by the judge: the numbers and rooms of the code

module _ (p : ℕ) (h l l₂ : List ℕ) where
  -- the sections of each kind, before the target and behind it
  parts_both : (k : Kind) → parted k (whole by_judge p h l l₂).sections
      ≡ parted k (front by_judge h l).sections ++ parted k (back by_judge l₂).sections
  parts_both k =
      ap (parted k) (sections_both by_judge p h l l₂)
      ∙ sections_more by_judge plain k (front by_judge h l).sections (back by_judge l₂).sections

  bytes_both : (k : Kind) → flatten (parted k (whole by_judge p h l l₂).sections)
      ≡ flatten (parted k (front by_judge h l).sections) ++ flatten (parted k (back by_judge l₂).sections)
  bytes_both k =
      ap flatten (parts_both k)
      ∙ flatten_append (parted k (front by_judge h l).sections) (parted k (back by_judge l₂).sections)

  long_both : (k : Kind) → length (flatten (parted k (whole by_judge p h l l₂).sections))
      ≡ length (flatten (parted k (front by_judge h l).sections))
      + length (flatten (parted k (back by_judge l₂).sections))
  long_both k = ap length (bytes_both k) ∙ length-append (flatten (parted k (front by_judge h l).sections)) _

  pub ends_both : (was : ℕ) (hold out hold₁ out₁ hold₂ out₂ : List ℕ) (a b : Gain)
      → Ends (front by_judge h l) was hold out 0 hold₁ out₁ a
      → Ends (back by_judge l₂) a.rejection hold₁ out₁ a.bytes hold₂ out₂ b
      → Ends (whole by_judge p h l l₂) was hold out 0 hold₂ out₂ (both_of a b)
  ends_both was hold out hold₁ out₁ hold₂ out₂ a b x y =
      let f : List ℕ = flatten (delivered_of (front by_judge h l)) in
      let g : List ℕ = flatten (delivered_of (back by_judge l₂)) in
      let d : List ℕ = drop (0 + length f) out in
      let hand : hand_of (whole by_judge p h l l₂) ≡ hand_of (back by_judge l₂) =
      same_hand (beside_back by_judge p h l l₂) in
      let none : hand_of (front by_judge h l) ≡ [] =
      settled_hand (done broken) refl (goesOn by_judge plain (holding h) l).marks in
      let kept : hold₁ ≡ hold = x.the_hold ∙ ap (λ (z : List ℕ). over z hold) none in
      let cut : take a.bytes out₁ ≡ f =
      ap (λ (z : List ℕ). take a.bytes z) x.the_out
      ∙ ap (λ (z : ℕ). take z (f ++ d)) x.bytes
      ∙ take-append_seam f d in
      let ends : 0 + length f + length g ≡ 0 + length (f ++ g) = omega (arith, length-append f g) in
      let tail : drop (a.bytes + length g) out₁ ≡ drop (0 + length (f ++ g)) out =
      ap (drop (a.bytes + length g)) x.the_out
      ∙ ap (λ (z : ℕ). drop (z + length g) (f ++ d)) x.bytes
      ∙ drop-append-add f d (length g)
      ∙ drop-drop (length g) (0 + length f) out
      ∙ ap (λ (z : ℕ). drop z out) ends in
      record {
        in-hand = y.in-hand ∙ ap length (sym hand);
        sections =
            omega (
              arith,
              x.sections,
              y.sections,
              ap length (parts_both accepted),
              length-append (delivered_of (front by_judge h l)) (delivered_of (back by_judge l₂)),
            );
        bytes = omega (arith, x.bytes, y.bytes, long_both accepted);
        rejected = omega (arith, x.rejected, y.rejected, long_both rejected);
        rejection =
            y.rejection
            ∙ ap (λ (z : ℕ). last_number z (rejected_of (back by_judge l₂))) x.rejection
            ∙ sym (last_more was (rejected_of (front by_judge h l)) (rejected_of (back by_judge l₂)))
            ∙ ap (last_number was) (sym (parts_both rejected));
        counts = λ rest.
            let apart : one p (done (kind_of rest)) ≡ 0 =
            ap (λ (t : Bool). length (if t then p ∷ [] else [])) (rest_apart rest).0 in
            gain_with_lem b.in_hand (a.sections + b.sections) (a.bytes + b.bytes) (a.rejected + b.rejected) b.rejection
            (λ r. gain_of a r + gain_of b r) rest
            ∙ omega
            (arith, x.counts rest, y.counts rest, count_both by_judge p h l l₂ (done (kind_of rest)) refl, apart);
        the_hold =
            y.the_hold
            ∙ ap (λ (z : List ℕ). over (hand_of (back by_judge l₂)) z) kept
            ∙ ap (λ (z : List ℕ). over z hold) (sym hand);
        the_out =
            y.the_out
            ∙ ap (λ (z : List ℕ). z ++ (g ++ drop (a.bytes + length g) out₁)) cut
            ∙ ap (λ (z : List ℕ). f ++ (g ++ z)) tail
            ∙ sym (append_assoc f g (drop (0 + length (f ++ g)) out))
            ∙ ap (λ (z : List ℕ). z ++ drop (0 + length z) out) (sym (bytes_both accepted));
      }

-- ---- the payload in the packet

module _ (hold out bs : List ℕ) (n was : ℕ) where
  abbrev taken : Bool → Story ℕ
  taken start = payload by_judge plain start (holding (take n hold)) bs

  ends-start : 0 < length bs → (hold₁ out₁ hold₂ out₂ : List ℕ) (a b : Gain)
      → Ends (front by_judge (take n hold) (take (get_or bs 0 0) (drop 1 bs))) was hold out 0 hold₁ out₁ a
      → Ends (back by_judge (drop (get_or bs 0 0) (drop 1 bs))) a.rejection hold₁ out₁ a.bytes hold₂ out₂ b
      → (r : Gain) → r ≡ both_of a b → Ends (taken true) was hold out 0 hold₂ out₂ r
  ends-start k hold₁ out₁ hold₂ out₂ a b x y r w =
      let p : ℕ = get_or bs 0 0 in
      let l : List ℕ = drop 1 bs in
      subst (Ends (taken true) was hold out 0 hold₂ out₂) (sym w)
      (ends_as (whole by_judge p (take n hold) (take p l) (drop p l))
      (ap (started by_judge plain (holding (take n hold))) (drop-cons bs 0 0 k))
      (ends_both p (take n hold) (take p l) (drop p l) was hold out hold₁ out₁ hold₂ out₂ a b x y))

  ends_on : (hold₁ out₁ : List ℕ) (a : Gain)
      → Ends (goesOn by_judge plain (holding (take n hold)) (take (length bs) bs)) was hold out 0 hold₁ out₁ a
      → Ends (taken false) was hold out 0 hold₁ out₁ a
  ends_on hold₁ out₁ a x =
      ends_as (goesOn by_judge plain (holding (take n hold)) (take (length bs) bs))
      (ap (goesOn by_judge plain (holding (take n hold))) (sym (take_all (length bs) bs (omega arith)))) x

  -- the stretch that goes to the section in hand
  first_as : (start : Bool) (rest : List ℕ) → rest ≡ front_rest start bs → (m : ℕ) → m ≡ front_bytes start bs
      → {hold₁ out₁ : List ℕ} {a : Gain} → Ends (gone by_judge (not start) (take n hold) (take m rest)) was hold out 0 hold₁ out₁ a
      → Ends (gone by_judge (not start) (take n hold) (take (front_bytes start bs) (front_rest start bs))) was hold out 0 hold₁ out₁ a
  first_as start rest e m f x =
      ends_as (gone by_judge (not start) (take n hold) (take m rest))
      (λ i. gone by_judge (not start) (take n hold) (take (sym f i) (sym e i))) x

  -- with the start flag sections follow where that stretch ends
  pub carry-start : (start : Bool) → start ≡ true → 0 < length bs → (rest : List ℕ) → rest ≡ front_rest start bs → (m : ℕ)
      → m ≡ front_bytes start bs → (hold₁ out₁ hold₂ out₂ : List ℕ) (a b : Gain)
      → Ends (gone by_judge (not start) (take n hold) (take m rest)) was hold out 0 hold₁ out₁ a
      → Ends (back by_judge (take (length rest - m) (drop m rest))) a.rejection hold₁ out₁ a.bytes hold₂ out₂ b
      → (r : Gain) → r ≡ both_of a b → Ends (taken start) was hold out 0 hold₂ out₂ r
  carry-start true t k rest e m f hold₁ out₁ hold₂ out₂ a b x y r w =
      let all : take (length rest - m) (drop m rest) ≡ drop m rest =
      take_all (length rest - m) (drop m rest) (omega (arith, length-drop m rest)) in
      ends-start k hold₁ out₁ hold₂ out₂ a b (first_as true rest e m f x)
      (ends_as (back by_judge (take (length rest - m) (drop m rest)))
      (ap (back by_judge) (sym (all ∙ (λ i. drop (f i) (e i))))) y)
      r w
  carry-start false t k rest e m f hold₁ out₁ hold₂ out₂ a b x y r w = absurd (false≢true t)

  -- without it that stretch is all
  pub carry_on : (start : Bool) → start ≡ false → (rest : List ℕ) → rest ≡ front_rest start bs → (m : ℕ) → m ≡ front_bytes start bs
      → (hold₁ out₁ : List ℕ) (a : Gain)
      → Ends (gone by_judge (not start) (take n hold) (take m rest)) was hold out 0 hold₁ out₁ a
      → Ends (taken start) was hold out 0 hold₁ out₁ a
  carry_on true t rest e m f hold₁ out₁ a x = absurd (false≢true (sym t))
  carry_on false t rest e m f hold₁ out₁ a x = ends_on hold₁ out₁ a (first_as false rest e m f x)

-- ---- what the code counts is no more than the bytes that it saw

pub small_of : (l : List ℕ) (s : Story ℕ) → Kept by_judge plain l s → length l ≤ 5000
    → {was : ℕ} {hold out : List ℕ} {at : ℕ} {hold' out' : List ℕ} {r : Gain} → Ends s was hold out at hold' out' r
    → Small r
small_of l s k w e =
    let sum = counts_in by_judge plain l s k in
    let a = ended_in by_judge plain accepted accepted-by-end l s k in
    let d = ended_in by_judge plain rejected rejected-by-end l s k in
    let f = few plain (delivered_of s) (sections_each by_judge plain accepted _ s.sections k.whole) in
    let at_most : (j : Kind) → count_of (done j) s.marks ≤ 5000 =
    λ j. omega (arith, one_of (λ g. count_of g s.marks) j, sum) in
    small_by _ (omega (arith, e.sections, at_most accepted)) (omega (arith, e.bytes, at_most accepted))
    (omega (arith, e.rejected, at_most rejected)) (λ rest. omega (arith, e.counts rest, at_most (kind_of rest)))

-- what comes out of the stretch that goes to the section in hand is no more than was in hand and came
pub gone_bytes : (keep : Bool) (h l : List ℕ)
    → length (flatten (delivered_of (gone by_judge keep h l))) ≤ length h + length l
gone_bytes keep h l =
    omega (
      arith,
      counts_in by_judge plain (h ++ l) (gone by_judge keep h l) (kept_gone by_judge keep h l),
      ended_in by_judge plain accepted accepted-by-end (h ++ l) (gone by_judge keep h l) (kept_gone by_judge keep h l),
      length-append h l,
    )

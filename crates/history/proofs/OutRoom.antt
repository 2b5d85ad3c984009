-- One call hands out 4,278 bytes at most.
use mathlib.Core.Path.{◌≡◌, refl, ap, ◌∙◌, subst}
use mathlib.Core.Bool.{Bool, true, false}
use mathlib.Core.List.{List, [], ◌∷◌, ◌++◌, append-nil, map, map-id, flatten}
use mathlib.Core.Option.{Option}
use Prim.Native.Nat.{ℕ, ◌%◌, ◌^◌, ◌≤◌, ◌<◌}
use native.Mathlib.Omega.{arith}
use lib.ListN.{length, take, drop, length-append, length-take, length-drop}
use lib.Dec.{eqb}
use Rattle.std.specs.Prelude.{if◌then◌else◌}
use Rattle.wire.proofs.IfLaws.{if-case}
use Rattle.wire.specs.Each.{Each}
use Rattle.packet.specs.Ruling.{mark_with, joins, Carried, repeats, repeated, takes, load_of, ruled_by}
use Rattle.wire.specs.Sections.{WholeSection}
use Rattle.collector.specs.Rules.{pointer, broken, done, in-hand, Story, bytes_of, sameKind, count_of, hand_of, marked, given, broken_off, finished, holding, Mode, begin, inside, outside, filling, Next, Size, going, whole, too_long, size_of, plain, begun, grown, resumed, joined, byte_in, stretch, goesOn, sections_in, payload, story_after, sections_of, accepted, Kind}
use Rattle.collector.specs.Judged.{kind_said, by_judge, accepted_among, delivered_of}
use Rattle.packet.specs.Refusals.{Judged, refuse, has_payload, judged}
use Rattle.collector.specs.Refusals.{before_of, cannot_stand, too_small}
use Rattle.packet.specs.Refusals as Refusals
use Rattle.section.specs.Reading as Reading
use Rattle.crc.specs.Crc.{crc}
use Rattle.verdict.specs.Verdict.{Said}
use Rattle.verdict.specs.Verdict as Verdict
use Rattle.collector.specs.Answer.{Outcome}
use Rattle.collector.specs.Collected.{outcome_of}
use Rattle.collector.specs.declared.Record.{Record}
use Rattle.collector.proofs.MarkLaws.{bytes_of_more, bytes_of_marked, settled_hand, settled_other}
use Rattle.collector.proofs.Simulation.{Beside, beside_sections}
use Rattle.collector.proofs.Invariants.{keep-goes, keep-sections}
use Rattle.collector.proofs.StoryLaws.{Any, keeps_points, counts_in, ended_in, sections_each}
use Rattle.collector.proofs.Parted.{accepted-by-end, said_no_pointer}
use Rattle.collector.proofs.PayloadLaws.{any, more_sections, beside_nothing}
use Rattle.collector.proofs.Fits.{fit_of}
use Rattle.history.specs.Run.{Promised, told_by}
use Rattle.history.specs.OutRoom.{AtMost, closed, longest, shorter, Reaches}
use Rattle.history.proofs.Agrees.{kept_taken, whole_taken}
use Rattle.history.proofs.FullSections.{longest_accepted, shorter_accepted}

-- ---- with the start flag: the pointer byte is not handed out

no_pointer : (t : Bool) (h : List ℕ) → count_of (done pointer) (joined t (holding h)).marks ≡ 0
no_pointer true h = ap length (bytes_of_marked (done pointer) in-hand h)
no_pointer false h =
    ap length
    (settled_other (done broken) (done pointer) refl refl (marked in-hand h)
    ∙ bytes_of_marked (done pointer) in-hand h)

one_pointer : (comes : List ℕ → Kind) → ((bs : List ℕ) → sameKind pointer (comes bs) ≡ false)
    → (s : Story ℕ) (p : ℕ) (bs : List ℕ)
    → count_of (done pointer) s.marks ≡ 0
    → count_of (done pointer) (payload comes plain true s (p ∷ bs)).marks ≡ 1
one_pointer comes none-points s p bs e =
    let first : count_of (done pointer) (given (done pointer) p s).marks ≡ 1 =
    omega (
      arith,
      ap length (bytes_of_more (done pointer) (done pointer) s.marks (p ∷ [])),
      length-append (bytes_of (done pointer) s.marks) (p ∷ []),
    ) in
    let f : Story ℕ = goesOn comes plain (given (done pointer) p s) (take p bs) in
    let y = keep-goes comes plain Any _ (keeps_points comes plain none-points 1) [] (given (done pointer) p s)
    (take p bs) (any (take p bs)) first in
    keep-sections comes plain Any _ (keeps_points comes plain none-points 1) [] (broken_off f) (drop p bs)
    (any (drop p bs))
    ((keeps_points comes plain none-points 1).breaks [] f y)

-- ---- without it: at most one section ends

abbrev One : Mode → Story ℕ → Type 0
One begin s = s.sections ≡ []
One inside s = s.sections ≡ []
One (outside m) s = length s.sections ≤ 1

one_grown : (k : Kind) (z : Size) (s : Story ℕ) → s.sections ≡ []
    → One (grown (outside filling) k z s).mode (grown (outside filling) k z s).story
one_grown k going s x = x
one_grown k whole s x = omega (arith, ap length x, length-append s.sections (hand_of s ∷ []))
one_grown k too_long s x = omega (arith, ap length x)

one_begun : (t : Bool) (b : ℕ) (s : Story ℕ) → s.sections ≡ [] → One (begun t b s).mode (begun t b s).story
one_begun true b s x = omega (arith, ap length x)
one_begun false b s x = x

one_most : (m : Mode) (s : Story ℕ) → One m s → length s.sections ≤ 1
one_most begin s x = omega (arith, ap length x)
one_most inside s x = omega (arith, ap length x)
one_most (outside m) s x = x

one_resumed : (h : List ℕ) (s : Story ℕ) → s.sections ≡ [] → One (resumed h) s
one_resumed [] s x = omega (arith, ap length x)
one_resumed (b ∷ h) s x = x

module _ (comes : List ℕ → Kind) where
  one_byte : (m : Mode) (b : ℕ) (s : Story ℕ) → One m s
      → One (byte_in comes plain (outside filling) m b s).mode (byte_in comes plain (outside filling) m b s).story
  one_byte begin b s x = one_begun (eqb b 255) b s x
  one_byte inside b s x =
      let run : List ℕ = map plain (hand_of s ++ (b ∷ [])) in
      one_grown (comes run) (size_of run) (given in-hand b s) x
  one_byte (outside m) b s x = x

  one_stretch : (n : Next ℕ) (bs : List ℕ) → One n.mode n.story
      → One (stretch comes plain (outside filling) n bs).mode (stretch comes plain (outside filling) n bs).story
  one_stretch n [] x = x
  one_stretch n (b ∷ bs) x =
      one_stretch (byte_in comes plain (outside filling) n.mode b n.story) bs (one_byte n.mode b n.story x)

  pub one_goes : (s : Story ℕ) (bs : List ℕ) → s.sections ≡ [] → length (goesOn comes plain s bs).sections ≤ 1
  one_goes s bs x =
      let n : Next ℕ = record { mode = resumed (hand_of s); story = s } in
      let m : Next ℕ = stretch comes plain (outside filling) n bs in
      one_most m.mode m.story (one_stretch n bs (one_resumed (hand_of s) s x))

pub none_yet : (t : Bool) (h : List ℕ) → (joined t (holding h)).sections ≡ []
none_yet true h = refl
none_yet false h = refl

whole_most : (secs : List (List ℕ)) → length secs ≤ 1 → Each WholeSection secs → length (flatten secs) ≤ 4096
unfolding flatten
whole_most [] k x = omega arith
whole_most (s ∷ []) k x = omega (arith, x.0.exact, x.0.limit, length-append s [])
whole_most (s ∷ z ∷ secs) k x = absurd (omega arith)

-- ---- a packet: the accepted sections are some of those that come whole

pub fewer : (k : Kind) (secs : List (List ℕ)) → length (sections_of by_judge plain k secs) ≤ length secs
fewer k [] = omega arith
fewer k (s ∷ secs) =
    if-case (λ (l : List (List ℕ)). length l ≤ length (s ∷ secs)) (sameKind k (by_judge (map plain s)))
    (λ e. omega (arith, fewer k secs)) (λ e. omega (arith, fewer k secs))

most_in : (last : Option ℕ) (h : List ℕ) (q : Carried ℕ) (start : Bool) (bs : List ℕ) → q.start ≡ start → q.bytes ≡ bs
    → length h ≤ 4095 → 0 < length bs → length bs ≤ 184
    → length (flatten (delivered_of (story_after by_judge plain last (holding h) q))) ≤ 4278
most_in last h q false bs e w few some long =
    let s : Story ℕ = story_after by_judge plain last (holding h) q in
    let one : length s.sections ≤ 1 =
    rw e
    (one_goes by_judge (joined (joins last q.spliced q.counter) (holding h)) q.bytes
    (none_yet (joins last q.spliced q.counter) h)) in
    let fits = whole_most (delivered_of s) (omega (arith, one, fewer accepted s.sections))
    (sections_each by_judge plain accepted WholeSection s.sections (whole_taken by_judge last h q)) in
    omega (arith, fits)
most_in last h q true [] e w few some long = absurd (omega arith)
most_in last h q true (p ∷ bs) e w few some long =
    let s : Story ℕ = story_after by_judge plain last (holding h) q in
    let kept = kept_taken by_judge last h q in
    let point : count_of (done pointer) s.marks ≡ 1 =
    rw (e, w)
    (one_pointer by_judge (λ l. said_no_pointer (Reading.judged l))
    (joined (joins last q.spliced q.counter) (holding h)) p bs
    (no_pointer (joins last q.spliced q.counter) h)) in
    omega (
      arith,
      counts_in by_judge plain (h ++ q.bytes) s kept,
      ended_in by_judge plain accepted accepted-by-end (h ++ q.bytes) s kept,
      length-append h q.bytes,
      ap length w,
      point,
    )

most_ruled : (r : Record) (hold out : List ℕ) (q : Carried ℕ) (t : Bool)
    → length (flatten (delivered_of (story_after by_judge plain (before_of r).last (holding (take r.in_hand hold)) q)))
    ≤ 4278
    → told_by (outcome_of r hold out (if t then repeated else takes q)).said ≤ 4278
most_ruled r hold out q true x = omega arith
most_ruled r hold out q false x = x

most_judged : (r : Record) (hold out packet : List ℕ) (j : Judged)
    → judged (too_small (length hold) (length out)) (cannot_stand r hold) r.pid packet ≡ j
    → told_by (outcome_of r hold out (ruled_by (before_of r) packet j)).said ≤ 4278
most_judged r hold out packet (refuse n) e = omega arith
most_judged r hold out packet (Refusals.bare splice) e = omega arith
most_judged r hold out packet (has_payload from start counter splice) e =
    let fit = fit_of r hold out packet from start counter splice e in
    let q : Carried ℕ = load_of (mark_with (before_of r) splice) packet from start counter in
    let long : length (drop from packet) ≡ _ = length-drop from packet in
    most_ruled r hold out q (repeats (before_of r).last q.spliced counter)
    (most_in (before_of r).last (take r.in_hand hold) q start (drop from packet) refl refl
    (omega (arith, length-take r.in_hand hold, fit.few)) (omega (arith, long, fit.from_within))
    (omega (arith, long, fit.from_past, fit.long)))

pub at-most-4278 : AtMost 4278 Promised
at-most-4278 r hold out packet o x =
    let most = most_judged r hold out packet
    (judged (too_small (length hold) (length out)) (cannot_stand r hold) r.pid packet)
    refl in
    let same : told_by o.said ≡ _ = ap (λ (y : Outcome). told_by y.said) x in
    omega (arith, most, same)

-- ---- and one hands out as many

-- a section that ends with the byte in front of the pointer's target, and what follows
module _ (h : List ℕ) (b c : ℕ) (tail : List ℕ) (e : size_of (c ∷ h ++ (b ∷ [])) ≡ whole) where
  abbrev hand : List ℕ
  hand = c ∷ h

  abbrev pointed : Story ℕ
  pointed = given (done pointer) 1 (holding hand)

  hand_is : hand_of pointed ≡ hand
  hand_is =
      bytes_of_more in-hand (done pointer) (marked in-hand hand) (1 ∷ [])
      ∙ append-nil (hand_of (holding hand))
      ∙ bytes_of_marked in-hand in-hand hand

  abbrev comes_to : Kind
  comes_to = by_judge (map plain (hand_of pointed ++ (b ∷ [])))

  ended : goesOn by_judge plain pointed (b ∷ []) ≡ finished comes_to (given in-hand b pointed)
  ended =
      ap (λ (m : Mode). (byte_in by_judge plain (outside filling) m b pointed).story) (ap resumed hand_is)
      ∙ ap (λ (z : Size). (grown (outside filling) comes_to z (given in-hand b pointed)).story)
      (ap size_of (map-id (hand_of pointed ++ (b ∷ [])) ∙ ap (λ (l : List ℕ). l ++ (b ∷ [])) hand_is) ∙ e)

  abbrev settled_story : Story ℕ
  settled_story = broken_off (finished comes_to (given in-hand b pointed))

  first_out : hand_of (given in-hand b pointed) ≡ hand ++ (b ∷ [])
  first_out = bytes_of_more in-hand in-hand pointed.marks (b ∷ []) ∙ ap (λ (l : List ℕ). l ++ (b ∷ [])) hand_is

  -- what follows is told beside it
  beside_tail : Beside plain (λ f. count_of f settled_story.marks) settled_story.sections
      (sections_in by_judge plain (holding []) tail) (sections_in by_judge plain settled_story tail)
  beside_tail =
      subst
      (λ (l : List ℕ). Beside plain (λ f. count_of f settled_story.marks) settled_story.sections
      (sections_in by_judge plain (holding []) l) (sections_in by_judge plain settled_story tail))
      (map-id tail)
      (beside_sections by_judge plain _ _ (holding []) settled_story tail
      (beside_nothing settled_story
      (settled_hand (done broken) refl (finished comes_to (given in-hand b pointed)).marks)))

  all_out : (payload by_judge plain true (holding hand) (1 ∷ b ∷ tail)).sections
      ≡ (hand ++ (b ∷ [])) ∷ (sections_in by_judge plain (holding []) tail).sections
  all_out =
      ap (λ (s : Story ℕ). (sections_in by_judge plain (broken_off s) tail).sections) ended
      ∙ more_sections beside_tail
      ∙ ap (λ (l : List ℕ). l ∷ (sections_in by_judge plain (holding []) tail).sections) first_out

both_accepted : (a c : List ℕ) → Reading.judged a ≡ Verdict.accepted → Reading.judged c ≡ Verdict.accepted
    → accepted_among (a ∷ c ∷ []) ≡ a ∷ c ∷ []
both_accepted a c e w =
    ap (λ (v : Said). among (kind_said v) (by_judge (map plain c))) (ap Reading.judged (map-id a) ∙ e)
    ∙ ap (λ (v : Said). among accepted (kind_said v)) (ap Reading.judged (map-id c) ∙ w)
  where
    among : Kind → Kind → List (List ℕ)
    among j k =
        let rest : List (List ℕ) = if sameKind accepted k then c ∷ [] else [] in
        if sameKind accepted j then a ∷ rest else rest

-- the section in hand but its last byte
held : List ℕ
held = take 4094 (drop 1 (closed longest))

last : ℕ
last = crc longest % 2 ^ 8

one_long : 0x50 ∷ held ++ (last ∷ []) ≡ closed longest
unfolding held last flatten
one_long = refl

ends_there : size_of (0x50 ∷ held ++ (last ∷ [])) ≡ whole
unfolding size_of held flatten
ends_there = refl

follows_it : (sections_in by_judge plain (holding []) (closed shorter)).sections ≡ closed shorter ∷ []
unfolding size_of
follows_it = refl

all_told : delivered_of (payload by_judge plain true (holding (0x50 ∷ held)) (1 ∷ last ∷ closed shorter))
    ≡ closed longest ∷ closed shorter ∷ []
all_told =
    ap accepted_among
    (all_out held last 0x50 (closed shorter) ends_there ∙ λ i. one_long i ∷ follows_it i)
    ∙ both_accepted (closed longest) (closed shorter) longest_accepted shorter_accepted

long : length (flatten (closed longest ∷ closed shorter ∷ [])) ≡ 4278
unfolding flatten
long = refl

pub reached : Reaches 4278
unfolding judged cannot_stand joins repeats held last flatten
reached = ap (λ (l : List (List ℕ)). length (flatten l)) all_told ∙ long

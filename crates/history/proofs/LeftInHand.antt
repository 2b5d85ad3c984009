-- What a run leaves in hand can stand: its first byte is not 0xFF, and its header, once it is known, declares more than
-- is there and not too much. So a record that a packet leaves can't be refused with 43.
use mathlib.Core.Path.{◌≡◌, refl, sym, ap, ◌∙◌, subst}
use mathlib.Core.Bool.{Bool, true, false, ◌&&◌, ◌||◌}
use mathlib.Core.List.{List, [], ◌∷◌, ◌++◌, map, map-id}
use mathlib.Core.Logic.{⊎_elim}
use mathlib.Core.Option.{Option}
use Prim.Native.Nat.{ℕ, ◌+◌, ◌≤◌, ◌<◌}
use native.Mathlib.Omega.{arith}
use lib.ListN.{length, take, drop, get_or, length-append, get_or-append}
use lib.Dec.{ltb, leb, eqb}
use borrow.Author.Tests.{ltb-true, ltb-false, leb-true, eqb-false, lt-ltb, le-ltb, lt-leb, ne_eqb}
use Rattle.std.specs.Prelude.{if◌then◌else◌, Some}
use Rattle.wire.specs.Sections.{total_of, Unfinished}
use Rattle.packet.specs.Ruling.{joins, Carried}
use Rattle.collector.specs.Rules.{Kind, Fate, pointer, broken, filler, done, in-hand, Story, same_fate, hand_of, given, broken_off, finished, holding, kind_of, Mode, begin, inside, outside, filling, Next, Size, going, whole, too_long, size_of, plain, begun, grown, resumed, joined, byte_in, stretch, goesOn, sections_in, payload, story_after}
use Rattle.collector.specs.Refusals.{is_none, counter_past, held_unfit, cannot_stand, Last}
use Rattle.collector.specs.declared.Record.{Record}
use Rattle.collector.proofs.MarkLaws.{bytes_of_more, bytes_of_marked, settled_hand}
use Rattle.collector.proofs.ByteRuns.{lt_or_ge, total_prefix}
use Rattle.wire.proofs.TestLaws.{or_none}

-- what may be in hand: an unfinished section, whose first byte is not 0xFF
pub record Standing (h : List ℕ) : Type 0 where
  pub first : 0 < length h → get_or h 0 0 ≡ 255 → ⊥
  pub unfinished : Unfinished h

pub standing_none : Standing []
standing_none = record { first = λ k e. omega arith; unfinished = record { more = λ k. absurd (omega arith) } }

-- ---- one byte

-- what is known of a section that goes on once three bytes are in
going_tests : (h : List ℕ) (t₁ t₂ t₃ : Bool) → ltb (length h) 3 ≡ t₁ → ltb 4096 (total_of h) ≡ t₂
    → eqb (length h) (total_of h) ≡ t₃
    → (if t₁ then going else (if t₂ then too_long else (if t₃ then whole else going))) ≡ going → 3 ≤ length h
    → (total_of h ≤ 4096) × (length h ≡ total_of h → ⊥)
going_tests h true t₂ t₃ e₁ e₂ e₃ e k = let w : length h < 3 = ltb-true _ _ e₁ in absurd (omega arith)
going_tests h false true t₃ e₁ e₂ e₃ e k = let z : ◌≡◌ {A = ℕ} 0 1 = cc in absurd (omega arith)
going_tests h false false true e₁ e₂ e₃ e k = let z : ◌≡◌ {A = ℕ} 0 1 = cc in absurd (omega arith)
going_tests h false false false e₁ e₂ e₃ e k = (ltb-false _ _ e₂, eqb-false _ _ e₃)

going_more : (h : List ℕ) → size_of h ≡ going → 3 ≤ length h → (total_of h ≤ 4096) × (length h ≡ total_of h → ⊥)
unfolding size_of
going_more h e k =
    going_tests h (ltb (length h) 3) (ltb 4096 (total_of h)) (eqb (length h) (total_of h)) refl refl refl e k

grows : (h : List ℕ) (b : ℕ) → 0 < length h → Standing h → size_of (h ++ (b ∷ [])) ≡ going → Standing (h ++ (b ∷ []))
grows h b some x e =
    let long : length (h ++ (b ∷ [])) ≡ length h + 1 = length-append h (b ∷ []) in
    record {
      first = λ k w. x.first some (sym (get_or-append h (b ∷ []) 0 0 some) ∙ w);
      unfinished = record {
        more = λ k.
            let g = going_more (h ++ (b ∷ [])) e k in
            let below : length h < total_of (h ++ (b ∷ [])) =
            ⊎_elim (λ w. omega arith) (λ w. omega (arith, (x.unfinished.more w).1, total_prefix h (b ∷ []) w))
            (lt_or_ge (length h) 3) in
            (g.0, omega (arith, g.1));
      };
    }

-- in a section something that stands is in hand, and elsewhere nothing is
abbrev In : Mode → Story ℕ → Type 0
In begin s = hand_of s ≡ []
In inside s = (0 < length (hand_of s)) × Standing (hand_of s)
In (outside m) s = hand_of s ≡ []

in_stands : (m : Mode) (s : Story ℕ) → In m s → Standing (hand_of s)
in_stands begin s x = subst Standing (sym x) standing_none
in_stands inside s x = x.1
in_stands (outside m) s x = subst Standing (sym x) standing_none

hand_given : (f : Fate) (b : ℕ) (s : Story ℕ)
    → hand_of (given f b s) ≡ hand_of s ++ (if same_fate in-hand f then b ∷ [] else [])
hand_given f b s = bytes_of_more in-hand f s.marks (b ∷ [])

other_hand : (f : Fate) → same_fate in-hand f ≡ false → (b : ℕ) (s : Story ℕ) → hand_of s ≡ [] → hand_of (given f b s) ≡ []
other_hand f e b s x =
    hand_given f b s ∙ ap (λ (t : Bool). hand_of s ++ (if t then b ∷ [] else [])) e ∙ ap (λ (h : List ℕ). h ++ []) x

in_begun : (t : Bool) (b : ℕ) (s : Story ℕ) → eqb b 255 ≡ t → hand_of s ≡ []
    → In (begun t b s).mode (begun t b s).story
in_begun true b s e x = other_hand (done filler) refl b s x
in_begun false b s e x =
    let hand : hand_of (given in-hand b s) ≡ b ∷ [] = hand_given in-hand b s ∙ ap (λ (h : List ℕ). h ++ (b ∷ [])) x in (
      omega (arith, ap length hand),
      subst Standing (sym hand) (record {
        first = λ k w. eqb-false b 255 e w;
        unfinished = record { more = λ k. absurd (omega arith) };
      }),
    )

module _ (comes : List ℕ → Kind) (after : Mode) (ends : (s : Story ℕ) → hand_of s ≡ [] → In after s) where
  in_grown : (k : Kind) (z : Size) (b : ℕ) (s : Story ℕ) → size_of (hand_of s ++ (b ∷ [])) ≡ z → In inside s
      → In (grown after k z (given in-hand b s)).mode (grown after k z (given in-hand b s)).story
  in_grown k going b s e x =
      let hand = hand_given in-hand b s in (
        omega (arith, ap length hand, length-append (hand_of s) (b ∷ [])),
        subst Standing (sym hand) (grows (hand_of s) b x.0 x.1 e),
      )
  in_grown k whole b s e x =
      ends (finished k (given in-hand b s)) (settled_hand (done k) refl (given in-hand b s).marks)
  in_grown k too_long b s e x = settled_hand (done broken) refl (given in-hand b s).marks

  in_byte : (m : Mode) (b : ℕ) (s : Story ℕ) → In m s
      → In (byte_in comes plain after m b s).mode (byte_in comes plain after m b s).story
  in_byte begin b s x = in_begun (eqb b 255) b s refl x
  in_byte inside b s x =
      in_grown (comes (map plain (hand_of s ++ (b ∷ [])))) (size_of (map plain (hand_of s ++ (b ∷ [])))) b s
      (ap size_of (sym (map-id (hand_of s ++ (b ∷ []))))) x
  in_byte (outside m) b s x = other_hand (done (kind_of m)) refl b s x

  in_stretch : (n : Next ℕ) (bs : List ℕ) → In n.mode n.story
      → In (stretch comes plain after n bs).mode (stretch comes plain after n bs).story
  in_stretch n [] x = x
  in_stretch n (b ∷ bs) x =
      in_stretch (byte_in comes plain after n.mode b n.story) bs (in_byte n.mode b n.story x)

-- ---- a packet

in_resumed : (s : Story ℕ) (h : List ℕ) → hand_of s ≡ h → Standing h → In (resumed h) s
in_resumed s [] e x = e
in_resumed s (b ∷ h) e x = (omega (arith, ap length e), subst Standing (sym e) x)

module _ (comes : List ℕ → Kind) where
  stands_goes : (s : Story ℕ) (bs : List ℕ) → Standing (hand_of s) → Standing (hand_of (goesOn comes plain s bs))
  stands_goes s bs x =
      let n : Next ℕ = record { mode = resumed (hand_of s); story = s } in
      let m : Next ℕ = stretch comes plain (outside filling) n bs in
      in_stands m.mode m.story
      (in_stretch comes (outside filling) (λ z e. e) n bs (in_resumed s (hand_of s) refl x))

  pub stands_sections : (s : Story ℕ) (bs : List ℕ) → hand_of s ≡ [] → Standing (hand_of (sections_in comes plain s bs))
  stands_sections s bs x =
      let n : Next ℕ = record { mode = begin; story = s } in
      let m : Next ℕ = stretch comes plain begin n bs in
      in_stands m.mode m.story (in_stretch comes begin (λ z e. e) n bs x)

  stands_payload : (t : Bool) (s : Story ℕ) (bs : List ℕ) → Standing (hand_of s)
      → Standing (hand_of (payload comes plain t s bs))
  stands_payload false s bs x = stands_goes s bs x
  stands_payload true s [] x = x
  stands_payload true s (p ∷ bs) x =
      let y : Story ℕ = goesOn comes plain (given (done pointer) p s) (take p bs) in
      stands_sections (broken_off y) (drop p bs) (settled_hand (done broken) refl y.marks)

  stands_joined : (t : Bool) (s : Story ℕ) → Standing (hand_of s) → Standing (hand_of (joined t s))
  stands_joined true s x = x
  stands_joined false s x = subst Standing (sym (settled_hand (done broken) refl s.marks)) standing_none

  pub stands_taken : (last : Option ℕ) (h : List ℕ) (q : Carried ℕ) → Standing h
      → Standing (hand_of (story_after comes plain last (holding h) q))
  stands_taken last h q x =
      stands_payload q.start (joined (joins last q.spliced q.counter) (holding h)) q.bytes
      (stands_joined (joins last q.spliced q.counter) (holding h)
      (subst Standing (sym (bytes_of_marked in-hand in-hand h)) x))

-- ---- the record

pub few_standing : (h : List ℕ) → Standing h → length h < 4096
few_standing h x =
    ⊎_elim (λ w. omega arith) (λ w. omega (arith, (x.unfinished.more w).0, (x.unfinished.more w).1))
    (lt_or_ge (length h) 3)

-- what stands in hand is not refused
held_ok : (h : List ℕ) → Standing h → (rest : List ℕ) → held_unfit (length h) false (h ++ rest) ≡ false
held_ok [] x rest = refl
held_ok (b ∷ h) x rest =
    let some : 0 < length (b ∷ h) = omega arith in
    let ff : eqb b 255 ≡ false = ne_eqb b 255 (x.first some) in
    simp (lt-ltb _ _ some, ff) (header (leb 3 (length (b ∷ h))) refl)
  where
    header : (t : Bool) → leb 3 (length (b ∷ h)) ≡ t
        → (t && (leb (total_of ((b ∷ h) ++ rest)) (length (b ∷ h)) || ltb 4096 (total_of ((b ∷ h) ++ rest)))) ≡ false
    header false e = refl
    header true e =
        let three : 3 ≤ length (b ∷ h) = leb-true _ _ e in
        let same = total_prefix (b ∷ h) rest three in
        let m = x.unfinished.more three in
        let above : length (b ∷ h) < total_of ((b ∷ h) ++ rest) = omega (arith, m.1, same) in
        let below : total_of ((b ∷ h) ++ rest) ≤ 4096 = omega (arith, m.0, same) in
        simp (lt-leb _ _ above, le-ltb _ _ below)

pub stands_after : (r : Record) (c : ℕ) → r.last ≡ Some c → c ≤ 15 → (h : List ℕ) → Standing h
    → r.in_hand ≡ length h → r.rejection ≤ 10 → (rest : List ℕ) → cannot_stand r (h ++ rest) ≡ ltb 8191 r.pid
unfolding cannot_stand
stands_after r c e k h x n m rest =
    let few : length h ≤ 4095 = omega (arith, few_standing h x) in
    ap (λ (l : Last). ltb 8191 r.pid
    || (counter_past l
    || (ltb 10 r.rejection || (ltb 4095 r.in_hand || held_unfit r.in_hand (is_none l) (h ++ rest)))))
    e
    ∙ ap (λ (t : Bool). ltb 8191 r.pid
    || (t || (ltb 10 r.rejection || (ltb 4095 r.in_hand || held_unfit r.in_hand false (h ++ rest)))))
    (le-ltb 15 c k)
    ∙ ap (λ (t : Bool). ltb 8191 r.pid || (t || (ltb 4095 r.in_hand || held_unfit r.in_hand false (h ++ rest))))
    (le-ltb 10 r.rejection m)
    ∙ ap (λ (m : ℕ). ltb 8191 r.pid || (ltb 4095 m || held_unfit m false (h ++ rest))) n
    ∙ ap (λ (t : Bool). ltb 8191 r.pid || (t || held_unfit (length h) false (h ++ rest))) (le-ltb 4095 (length h) few)
    ∙ ap (λ (t : Bool). ltb 8191 r.pid || t) (held_ok h x rest)
    ∙ or_none (ltb 8191 r.pid)

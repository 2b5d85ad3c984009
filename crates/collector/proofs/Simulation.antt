-- One simulation: the rules look at values only, and what was settled before stays apart. Where a story over bare numbers stands beside a
-- story over any bytes, with some sections and some counts before it, it stands beside it after any packet.
use Rattle.std.proofs.Common.{◌≡◌, ℕ, zero, suc, ◌+◌, Bool, true, false, eqb, List, [], ◌∷◌, ◌++◌, map, length, take, drop, sym, refl, ap, ◌∙◌, subst, append_assoc, map-id, arith, length-append}
use mathlib.Core.List.{map-append}
use mathlib.Core.Option.{Option}
use Rattle.std.specs.Prelude.{if◌then◌else◌}
use Rattle.packet.specs.Ruling.{joins, Carried}
use Rattle.collector.specs.Rules.{Kind, Fate, pointer, broken, filler, done, in-hand, Story, same_fate, bytes_of, count_of, hand_of, given, settled, broken_off, finished, kind_of, Mode, begin, inside, outside, filling, Next, Size, going, whole, too_long, size_of, plain, begun, grown, resumed, joined, byte_in, stretch, goesOn, sections_in, payload, story_after}
use Rattle.collector.proofs.MarkLaws.{bytes_of_more, settled_hand, settled_count}

-- ---- lists

module _ {A : Type 0} (value : A → ℕ) where
  map_long : (l : List A) → length (map value l) ≡ length l
  map_long [] = refl
  map_long (b ∷ l) = ap suc (map_long l)

  map_take : (n : ℕ) (l : List A) → take n (map value l) ≡ map value (take n l)
  map_take zero l = refl
  map_take (suc n) [] = refl
  map_take (suc n) (b ∷ l) = ap (λ (x : List ℕ). value b ∷ x) (map_take n l)

  map_drop : (n : ℕ) (l : List A) → drop n (map value l) ≡ map value (drop n l)
  map_drop zero l = refl
  map_drop (suc n) [] = refl
  map_drop (suc n) (b ∷ l) = map_drop n l

  map_if : (t : Bool) (l : List A) → map value (if t then l else []) ≡ (if t then map value l else [])
  map_if true l = refl
  map_if false l = refl

  if-long : (t : Bool) (b : A) → length (if t then b ∷ [] else []) ≡ length (if t then value b ∷ [] else [])
  if-long true b = refl
  if-long false b = refl

  resumed_map : (l : List A) → resumed (map value l) ≡ resumed l
  resumed_map [] = refl
  resumed_map (b ∷ l) = refl

  -- ---- beside

  -- before s came the sections secs, and base bytes of each fate but in hand
  pub record Beside (base : Fate → ℕ) (secs : List (List ℕ)) (s : Story ℕ) (S : Story A) : Type 0 where
    pub hand : map value (hand_of S) ≡ hand_of s
    pub sections : map (map value) S.sections ≡ secs ++ s.sections
    pub counts : (f : Fate) → same_fate f in-hand ≡ false → count_of f S.marks ≡ base f + count_of f s.marks

  module _ (base : Fate → ℕ) (secs : List (List ℕ)) where
    beside_given : (f : Fate) (b : A) (s : Story ℕ) (S : Story A) → Beside base secs s S
        → Beside base secs (given f (value b) s) (given f b S)
    beside_given f b s S x = record {
      hand =
          ap (map value) (bytes_of_more in-hand f S.marks (b ∷ []))
          ∙ map-append value (hand_of S) _
          ∙ ap (λ (l : List ℕ). l ++ map value (if same_fate in-hand f then b ∷ [] else [])) x.hand
          ∙ ap (λ (l : List ℕ). hand_of s ++ l) (map_if (same_fate in-hand f) (b ∷ []))
          ∙ sym (bytes_of_more in-hand f s.marks (value b ∷ []));
      sections = x.sections;
      counts = λ g h.
          let one = if-long (same_fate g f) b in
          let more : count_of g (given f b S).marks
          ≡ count_of g S.marks + length (if same_fate g f then b ∷ [] else []) =
          ap length (bytes_of_more g f S.marks (b ∷ [])) ∙ length-append (bytes_of g S.marks) _ in
          let more₂ : count_of g (given f (value b) s).marks
          ≡ count_of g s.marks + length (if same_fate g f then value b ∷ [] else []) =
          ap length (bytes_of_more g f s.marks (value b ∷ [])) ∙ length-append (bytes_of g s.marks) _ in
          let was = x.counts g h in
          omega arith;
    }

    -- as many bytes are in hand in both
    hand_long : (s : Story ℕ) (S : Story A) → Beside base secs s S → count_of in-hand S.marks ≡ count_of in-hand s.marks
    hand_long s S x = sym (map_long (hand_of S)) ∙ ap length x.hand

    settled_counts : (g : Fate) (s : Story ℕ) (S : Story A) → Beside base secs s S → (f : Fate)
        → same_fate f in-hand ≡ false → count_of f (settled g S.marks) ≡ base f + count_of f (settled g s.marks)
    settled_counts g s S x f h =
        let was = x.counts f h in
        let one = settled_count f g h S.marks in
        let two = settled_count f g h s.marks in
        let same : (if same_fate f g then count_of in-hand S.marks else 0)
        ≡ (if same_fate f g then count_of in-hand s.marks else 0) =
        ap (λ (n : ℕ). if same_fate f g then n else 0) (hand_long s S x) in
        omega arith

    settled_hands : (g : Fate) → same_fate in-hand g ≡ false → (s : Story ℕ) (S : Story A)
        → map value (bytes_of in-hand (settled g S.marks)) ≡ bytes_of in-hand (settled g s.marks)
    settled_hands g h s S = ap (map value) (settled_hand g h S.marks) ∙ sym (settled_hand g h s.marks)

    pub beside_broken : (s : Story ℕ) (S : Story A) → Beside base secs s S → Beside base secs (broken_off s) (broken_off S)
    beside_broken s S x = record {
      hand = settled_hands (done broken) refl s S;
      sections = x.sections;
      counts = settled_counts (done broken) s S x;
    }

    beside_finished : (k : Kind) (s : Story ℕ) (S : Story A) → Beside base secs s S → Beside base secs (finished k s) (finished k S)
    beside_finished k s S x = record {
      hand = settled_hands (done k) refl s S;
      sections =
          map-append (map value) S.sections (hand_of S ∷ [])
          ∙ ap (λ (l : List (List ℕ)). l ++ (map value (hand_of S) ∷ [])) x.sections
          ∙ append_assoc secs s.sections (map value (hand_of S) ∷ [])
          ∙ ap (λ (l : List ℕ). secs ++ (s.sections ++ (l ∷ []))) x.hand;
      counts = settled_counts (done k) s S x;
    }

    -- ---- a byte, and a stretch

    record BesideAt (n : Next ℕ) (N : Next A) : Type 0 where
      mode : N.mode ≡ n.mode
      story : Beside base secs n.story N.story

    beside_begun : (t : Bool) (b : A) (s : Story ℕ) (S : Story A) → Beside base secs s S → BesideAt (begun t (value b) s) (begun t b S)
    beside_begun true b s S x = record { mode = refl; story = beside_given (done filler) b s S x }
    beside_begun false b s S x = record { mode = refl; story = beside_given in-hand b s S x }

    beside_grown : (after : Mode) (k : Kind) (z : Size) (s : Story ℕ) (S : Story A) → Beside base secs s S
        → BesideAt (grown after k z s) (grown after k z S)
    beside_grown after k going s S x = record { mode = refl; story = x }
    beside_grown after k whole s S x = record { mode = refl; story = beside_finished k s S x }
    beside_grown after k too_long s S x = record { mode = refl; story = beside_broken s S x }

-- a packet's bytes as bare numbers
abbrev pub bare_of : {A : Type 0} → (A → ℕ) → Carried A → Carried ℕ
bare_of value q = record { counter = q.counter; start = q.start; spliced = q.spliced; bytes = map value q.bytes }

module _ (comes : List ℕ → Kind) {A : Type 0} (value : A → ℕ) (base : Fate → ℕ) (secs : List (List ℕ)) where
  -- what a section's size and what it comes to go by: its bytes' values
  same_run : (b : A) (s : Story ℕ) (S : Story A) → Beside value base secs s S
      → map plain (hand_of s ++ (value b ∷ [])) ≡ map value (hand_of S ++ (b ∷ []))
  same_run b s S x =
      map-id (hand_of s ++ (value b ∷ []))
      ∙ ap (λ (l : List ℕ). l ++ (value b ∷ [])) (sym x.hand)
      ∙ sym (map-append value (hand_of S) (b ∷ []))

  beside_byte : (after m : Mode) (b : A) (s : Story ℕ) (S : Story A) → Beside value base secs s S
      → BesideAt value base secs (byte_in comes plain after m (value b) s) (byte_in comes value after m b S)
  beside_byte after begin b s S x = beside_begun value base secs (eqb (value b) 255) b s S x
  beside_byte after inside b s S x =
      let run : List ℕ = map value (hand_of S ++ (b ∷ [])) in
      subst (λ (z : List ℕ). BesideAt value base secs (grown after (comes z) (size_of z) (given in-hand (value b) s))
      (byte_in comes value after inside b S))
      (sym (same_run b s S x))
      (beside_grown value base secs after (comes run) (size_of run) (given in-hand (value b) s) (given in-hand b S)
      (beside_given value base secs in-hand b s S x))
  beside_byte after (outside m) b s S x = record { mode = refl; story = beside_given value base secs (done (kind_of m)) b s S x }

  beside_stretch : (after : Mode) (n : Next ℕ) (N : Next A) (bs : List A) → BesideAt value base secs n N
      → BesideAt value base secs (stretch comes plain after n (map value bs)) (stretch comes value after N bs)
  beside_stretch after n N [] x = x
  beside_stretch after n N (b ∷ bs) x =
      beside_stretch after (byte_in comes plain after n.mode (value b) n.story) (byte_in comes value after N.mode b N.story) bs
      (subst
      (λ (m : Mode). BesideAt value base secs (byte_in comes plain after n.mode (value b) n.story)
      (byte_in comes value after m b N.story))
      (sym x.mode) (beside_byte after n.mode b n.story N.story x.story))

  -- ---- a packet

  pub beside_goes : (s : Story ℕ) (S : Story A) (bs : List A) → Beside value base secs s S
      → Beside value base secs (goesOn comes plain s (map value bs)) (goesOn comes value S bs)
  beside_goes s S bs x =
      (beside_stretch (outside filling) _ _ bs
      (record { mode = sym (resumed_map value (hand_of S)) ∙ ap resumed x.hand; story = x })).story

  pub beside_sections : (s : Story ℕ) (S : Story A) (bs : List A) → Beside value base secs s S
      → Beside value base secs (sections_in comes plain s (map value bs)) (sections_in comes value S bs)
  beside_sections s S bs x = (beside_stretch begin _ _ bs (record { mode = refl; story = x })).story

  pub beside_payload : (t : Bool) (s : Story ℕ) (S : Story A) (bs : List A) → Beside value base secs s S
      → Beside value base secs (payload comes plain t s (map value bs)) (payload comes value t S bs)
  beside_payload false s S bs x = beside_goes s S bs x
  beside_payload true s S [] x = x
  beside_payload true s S (p ∷ bs) x =
      let y = beside_goes (given (done pointer) (value p) s) (given (done pointer) p S) (take (value p) bs)
      (beside_given value base secs (done pointer) p s S x) in
      let z = beside_sections _ _ (drop (value p) bs) (beside_broken value base secs _ _ y) in
      subst
      (λ (l : List ℕ). Beside value base secs
      (sections_in comes plain (broken_off (goesOn comes plain (given (done pointer) (value p) s) l))
      (drop (value p) (map value bs)))
      (payload comes value true S (p ∷ bs)))
      (sym (map_take value (value p) bs))
      (subst
      (λ (l : List ℕ). Beside value base secs
      (sections_in comes plain
      (broken_off (goesOn comes plain (given (done pointer) (value p) s) (map value (take (value p) bs)))) l)
      (payload comes value true S (p ∷ bs)))
      (sym (map_drop value (value p) bs)) z)

  beside_joined : (t : Bool) (s : Story ℕ) (S : Story A) → Beside value base secs s S → Beside value base secs (joined t s) (joined t S)
  beside_joined true s S x = x
  beside_joined false s S x = beside_broken value base secs s S x

  pub beside_taken : (last : Option ℕ) (s : Story ℕ) (S : Story A) (q : Carried A) → Beside value base secs s S
      → Beside value base secs (story_after comes plain last s (bare_of value q)) (story_after comes value last S q)
  beside_taken last s S q x =
      beside_payload q.start (joined (joins last q.spliced q.counter) s) (joined (joins last q.spliced q.counter) S)
      q.bytes (beside_joined (joins last q.spliced q.counter) s S x)

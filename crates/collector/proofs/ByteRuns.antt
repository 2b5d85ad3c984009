-- Whole runs of bytes under the byte-at-a-time rules: what the code does at once.
use Rattle.std.proofs.Common.{◌≡◌, ℕ, zero, suc, ◌+◌, ◌-◌, ◌<◌, ◌≤◌, Bool, true, false, ltb, ◌⊎◌, List, [], ◌∷◌, ◌++◌, length, get_or, take, drop, sym, refl, ap, ◌∙◌, subst, inl, inr, ⊎_elim, append_assoc, append-nil, map-id, arith, length-append, take-append-drop, length-take, take-suc, ltb-false, ltb-true, le-ltb, lt-ltb, eq-eqb, ne_eqb}
use lib.ListN.{get_or-append}
use lib.Seq.{split_at}
use Rattle.wire.specs.Sections.{total_of}
use Rattle.collector.specs.Rules.{Kind, Fate, broken, done, in-hand, Mark, Story, hand_of, marked, given, settled, broken_off, finished, Mode, inside, outside, breaking, Next, Size, going, whole, too_long, size_of, grown, plain, byte_in, stretch}
use Rattle.collector.proofs.MarkLaws.{bytes_of_more, marked_append, settled_append, settled_marked}

lt_at : (a b : ℕ) (t : Bool) → ltb a b ≡ t → (a < b) ⊎ (b ≤ a)
lt_at a b true e = inl (ltb-true a b e)
lt_at a b false e = inr (ltb-false a b e)

pub lt_or_ge : (a b : ℕ) → (a < b) ⊎ (b ≤ a)
lt_or_ge a b = lt_at a b (ltb a b) refl

-- ---- what has come of a section

pub size_short : (s : List ℕ) → length s < 3 → size_of s ≡ going
unfolding size_of
size_short s h = simp (lt-ltb (length s) 3 h)

pub size_over : (s : List ℕ) → 3 ≤ length s → 4096 < total_of s → size_of s ≡ too_long
unfolding size_of
size_over s h k = simp (le-ltb (length s) 3 h, lt-ltb 4096 (total_of s) k)

pub size_whole : (s : List ℕ) → 3 ≤ length s → total_of s ≤ 4096 → length s ≡ total_of s → size_of s ≡ whole
unfolding size_of
size_whole s h k e = simp (le-ltb (length s) 3 h, le-ltb 4096 (total_of s) k, eq-eqb (length s) (total_of s) e)

pub size_going : (s : List ℕ) → 3 ≤ length s → total_of s ≤ 4096 → length s < total_of s → size_of s ≡ going
unfolding size_of
size_going s h k l = simp (le-ltb (length s) 3 h, le-ltb 4096 (total_of s) k, ne_eqb (length s) (total_of s) (λ e. omega arith))

-- a header's length stays as more bytes come
pub total_prefix : (s r : List ℕ) → 3 ≤ length s → total_of (s ++ r) ≡ total_of s
total_prefix s r h = simp (get_or-append s r 0 1 (omega arith), get_or-append s r 0 2 (omega arith))

-- a part from the start, of which the whole's header says more
prefix_going : (s r : List ℕ) → total_of (s ++ r) ≤ 4096 → length s < total_of (s ++ r) → size_of s ≡ going
prefix_going s r h k =
    ⊎_elim (λ w. size_short s w)
    (λ w. size_going s w (subst (λ (n : ℕ). n ≤ 4096) (total_prefix s r w) h) (subst (λ (n : ℕ). length s < n) (total_prefix s r w) k))
    (lt_or_ge (length s) 3)

-- ---- runs

abbrev pub place : {A : Type 0} → Mode → Story A → Next A
place m s = record { mode = m; story = s }

-- all bytes of a run have the fate f
abbrev pub all : {A : Type 0} → Fate → List A → Story A → Story A
all f l s = record { marks = s.marks ++ marked f l; sections = s.sections }

pub all_none : (f : Fate) (s : Story ℕ) → all f [] s ≡ s
all_none f s = λ i. record { marks = append-nil s.marks i; sections = s.sections }

all_cons : (f : Fate) (b : ℕ) (l : List ℕ) (s : Story ℕ) → all f l (given f b s) ≡ all f (b ∷ l) s
all_cons f b l s = λ i.
    record {
      marks = append_assoc s.marks (record { byte = b; fate = f } ∷ []) (marked f l) i;
      sections = s.sections;
    }

pub all_append : (f : Fate) (a c : List ℕ) (s : Story ℕ) → all f c (all f a s) ≡ all f (a ++ c) s
all_append f a c s = λ i.
    record {
      marks = (append_assoc s.marks (marked f a) (marked f c)
          ∙ ap (λ (l : List (Mark ℕ)). s.marks ++ l) (sym (marked_append f a c)))
          i;
      sections = s.sections;
    }

pub hand_all : (l : List ℕ) (s : Story ℕ) → hand_of (all in-hand l s) ≡ hand_of s ++ l
hand_all l s = bytes_of_more in-hand in-hand s.marks l

module _ (comes : List ℕ → Kind) where
  pub stretch_append : (after : Mode) (n : Next ℕ) (a c : List ℕ)
      → stretch comes plain after n (a ++ c) ≡ stretch comes plain after (stretch comes plain after n a) c
  stretch_append after n [] c = refl
  stretch_append after n (b ∷ a) c = stretch_append after (byte_in comes plain after n.mode b n.story) a c

  -- bytes whose fate is fixed at once
  pub pass : (after m : Mode) (f : Fate)
      → ((b : ℕ) (s : Story ℕ) → byte_in comes plain after m b s ≡ place m (given f b s)) → (s : Story ℕ) (l : List ℕ)
      → stretch comes plain after (place m s) l ≡ place m (all f l s)
  pass after m f e s [] = ap (place m) (sym (all_none f s))
  pass after m f e s (b ∷ l) =
      ap (λ (n : Next ℕ). stretch comes plain after n l) (e b s)
      ∙ pass after m f e (given f b s) l
      ∙ ap (place m) (all_cons f b l s)

  -- the next byte of the section in hand, where its size is known
  byte_inside : (after : Mode) (b : ℕ) (s : Story ℕ) (z : Size) → size_of (hand_of s ++ (b ∷ [])) ≡ z
      → byte_in comes plain after inside b s ≡ grown after (comes (hand_of s ++ (b ∷ []))) z (given in-hand b s)
  byte_inside after b s z e =
      let run : List ℕ = hand_of s ++ (b ∷ []) in
      λ i. grown after (comes (map-id run i)) ((ap size_of (map-id run) ∙ e) i) (given in-hand b s)

  -- bytes that end nothing
  grow : (after : Mode) (s : Story ℕ) (l : List ℕ) → ((a c : List ℕ) → a ++ c ≡ l → size_of (hand_of s ++ a) ≡ going)
      → stretch comes plain after (place inside s) l ≡ place inside (all in-hand l s)
  grow after s [] f = ap (place inside) (sym (all_none in-hand s))
  grow after s (b ∷ l) f =
      let s' : Story ℕ = given in-hand b s in
      let hand : hand_of s' ≡ hand_of s ++ (b ∷ []) = hand_all (b ∷ []) s in
      ap (λ (n : Next ℕ). stretch comes plain after n l) (byte_inside after b s going (f (b ∷ []) l refl))
      ∙ grow after s' l
      (λ a c e. ap (λ (h : List ℕ). size_of (h ++ a)) hand
      ∙ ap size_of (append_assoc (hand_of s) (b ∷ []) a)
      ∙ f (b ∷ a) c (ap (λ (x : List ℕ). b ∷ x) e))
      ∙ ap (place inside) (all_cons in-hand b l s)

  -- ---- the run in hand is too short for a header, or not at its end

  pub grow_short : (after : Mode) (s : Story ℕ) (l : List ℕ) → length (hand_of s ++ l) < 3
      → stretch comes plain after (place inside s) l ≡ place inside (all in-hand l s)
  grow_short after s l k =
      let h : List ℕ = hand_of s in
      grow after s l (λ a c e. size_short (h ++ a) (omega (arith, length-append h a, length-append h l, length-append a c, ap length e)))

  -- a part of h ++ l, whose header declares more than the part, goes on
  part_going : (h l a c : List ℕ) → a ++ c ≡ l → total_of (h ++ l) ≤ 4096 → length (h ++ a) < total_of (h ++ l) → size_of (h ++ a) ≡ going
  part_going h l a c e k j =
      let v : (h ++ a) ++ c ≡ h ++ l = append_assoc h a c ∙ ap (λ (x : List ℕ). h ++ x) e in
      prefix_going (h ++ a) c (subst (λ (x : List ℕ). total_of x ≤ 4096) (sym v) k)
      (subst (λ (x : List ℕ). length (h ++ a) < total_of x) (sym v) j)

  pub grow_going : (after : Mode) (s : Story ℕ) (l : List ℕ) → total_of (hand_of s ++ l) ≤ 4096
      → length (hand_of s ++ l) < total_of (hand_of s ++ l)
      → stretch comes plain after (place inside s) l ≡ place inside (all in-hand l s)
  grow_going after s l k j =
      let h : List ℕ = hand_of s in
      grow after s l (λ a c e. part_going h l a c e k
      (omega (arith, length-append h a, length-append h l, length-append a c, ap length e)))

  -- ---- the run has the byte that settles the section

  -- h with the first j + 1 bytes of l
  cut_long : (h l : List ℕ) (j : ℕ) → j < length l → length (h ++ (take j l ++ (get_or l j 0 ∷ []))) ≡ length h + suc j
  cut_long h l j k =
      omega (
        arith,
        length-append h (take j l ++ (get_or l j 0 ∷ [])),
        length-append (take j l) (get_or l j 0 ∷ []),
        length-take j l,
      )

  -- what stands before the cut has the whole's header
  cut_total : (h l : List ℕ) (j : ℕ) → j < length l → 3 ≤ length h + suc j
      → total_of (h ++ (take j l ++ (get_or l j 0 ∷ []))) ≡ total_of (h ++ l)
  cut_total h l j k w =
      let s : List ℕ = h ++ (take j l ++ (get_or l j 0 ∷ [])) in
      let e : s ++ drop (suc j) l ≡ h ++ l =
      ap (λ (x : List ℕ). (h ++ x) ++ drop (suc j) l) (sym (take-suc l j 0 k))
      ∙ append_assoc h (take (suc j) l) (drop (suc j) l)
      ∙ ap (λ (x : List ℕ). h ++ x) (take-append-drop (suc j) l) in
      sym (total_prefix s (drop (suc j) l) (subst (λ (n : ℕ). 3 ≤ n) (sym (cut_long h l j k)) w)) ∙ ap total_of e

  -- the byte at index j settles the section in hand
  settles : (after : Mode) (s : Story ℕ) (l : List ℕ) (j : ℕ) (z : Size) → j < length l
      → ((a c : List ℕ) → a ++ c ≡ take j l → size_of (hand_of s ++ a) ≡ going)
      → size_of (hand_of s ++ (take j l ++ (get_or l j 0 ∷ []))) ≡ z
      → stretch comes plain after (place inside s) l
      ≡ stretch comes plain after
      (grown after (comes (hand_of s ++ take (suc j) l)) z (all in-hand (take (suc j) l) s)) (drop (suc j) l)
  settles after s l j z k f e =
      let a : List ℕ = take j l in
      let b : ℕ = get_or l j 0 in
      let s' : Story ℕ = all in-hand a s in
      let cut : take (suc j) l ≡ a ++ (b ∷ []) = take-suc l j 0 k in
      let hand : hand_of s' ++ (b ∷ []) ≡ hand_of s ++ (a ++ (b ∷ [])) =
      ap (λ (h : List ℕ). h ++ (b ∷ [])) (hand_all a s) ∙ append_assoc (hand_of s) a (b ∷ []) in
      ap (stretch comes plain after (place inside s)) (split_at l j 0 k)
      ∙ stretch_append after (place inside s) a (b ∷ drop (suc j) l)
      ∙ ap (λ (n : Next ℕ). stretch comes plain after n (b ∷ drop (suc j) l)) (grow after s a f)
      ∙ ap (λ (n : Next ℕ). stretch comes plain after n (drop (suc j) l)) (byte_inside after b s' z (ap size_of hand ∙ e))
      ∙ ap (λ (x : List ℕ). stretch comes plain after (grown after (comes x) z (given in-hand b s')) (drop (suc j) l))
      (hand ∙ ap (λ (x : List ℕ). hand_of s ++ x) (sym cut))
      ∙ ap
      (λ (x : Story ℕ). stretch comes plain after (grown after (comes (hand_of s ++ take (suc j) l)) z x)
      (drop (suc j) l))
      (all_append in-hand a (b ∷ []) s ∙ ap (λ (x : List ℕ). all in-hand x s) (sym cut))

  -- a section that declares too much takes the rest of its stretch with it
  broken_more : (a c : List ℕ) (s : Story ℕ) → all (done broken) c (broken_off (all in-hand a s)) ≡ broken_off (all in-hand (a ++ c) s)
  broken_more a c s = λ i. record { marks = e i; sections = s.sections }
    where
      e : settled (done broken) (s.marks ++ marked in-hand a) ++ marked (done broken) c
          ≡ settled (done broken) (s.marks ++ marked in-hand (a ++ c))
      e =
          ap (λ (l : List (Mark ℕ)). settled (done broken) (s.marks ++ marked in-hand a) ++ l)
          (sym (settled_marked (done broken) in-hand c))
          ∙ sym (settled_append (done broken) (s.marks ++ marked in-hand a) (marked in-hand c))
          ∙ ap (settled (done broken))
          (append_assoc s.marks (marked in-hand a) (marked in-hand c)
          ∙ ap (λ (l : List (Mark ℕ)). s.marks ++ l) (sym (marked_append in-hand a c)))

  pub law_over : (after : Mode) (s : Story ℕ) (l : List ℕ) → length (hand_of s) < 3 → 3 ≤ length (hand_of s ++ l)
      → 4096 < total_of (hand_of s ++ l)
      → stretch comes plain after (place inside s) l ≡ place (outside breaking) (broken_off (all in-hand l s))
  law_over after s l k w o =
      let h : List ℕ = hand_of s in
      let j : ℕ = 2 - length h in
      let below : j < length l = omega (arith, length-append h l) in
      let three : length h + suc j ≡ 3 = omega arith in
      let long : length (h ++ (take j l ++ (get_or l j 0 ∷ []))) ≡ 3 = cut_long h l j below ∙ three in
      settles after s l j too_long below
      (λ a c e. size_short (h ++ a) (omega (arith, length-append h a, length-append a c, ap length e, length-take j l)))
      (size_over _ (omega (arith, long)) (subst (λ (m : ℕ). 4096 < m) (sym (cut_total h l j below (omega arith))) o))
      ∙ pass after (outside breaking) (done broken) (λ b x. refl) (broken_off (all in-hand (take (suc j) l) s)) (drop (suc j) l)
      ∙ ap (place (outside breaking))
      (broken_more (take (suc j) l) (drop (suc j) l) s
      ∙ ap (λ (x : List ℕ). broken_off (all in-hand x s)) (take-append-drop (suc j) l))

  pub law_whole : (after : Mode) (s : Story ℕ) (l : List ℕ) (k : ℕ) → length (hand_of s) + k ≡ total_of (hand_of s ++ l)
      → 0 < k → total_of (hand_of s ++ l) ≤ 4096 → k ≤ length l
      → stretch comes plain after (place inside s) l
      ≡ stretch comes plain after (place after (finished (comes (hand_of s ++ take k l)) (all in-hand (take k l) s)))
      (drop k l)
  law_whole after s l zero e some o w = absurd (omega arith)
  law_whole after s l (suc j) e some o w =
      let h : List ℕ = hand_of s in
      let below : j < length l = omega arith in
      let c : total_of (h ++ (take j l ++ (get_or l j 0 ∷ []))) ≡ total_of (h ++ l) = cut_total h l j below (omega arith) in
      settles after s l j whole below
      (λ a d f. part_going h l a (d ++ drop j l)
      (sym (append_assoc a d (drop j l)) ∙ ap (λ (x : List ℕ). x ++ drop j l) f ∙ take-append-drop j l) o
      (omega (arith, length-append h a, length-append a d, ap length f, length-take j l)))
      (size_whole _ (omega (arith, cut_long h l j below)) (subst (λ (m : ℕ). m ≤ 4096) (sym c) o) (cut_long h l j below ∙ e ∙ sym c))

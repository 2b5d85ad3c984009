-- What every story keeps: one mark for each byte seen, in order; the bytes of a kind that ends give are its sections'
-- bytes, in order; the counts of the fates make up the bytes; each section is whole by its own header; and a stretch
-- gives no byte the fate of a pointer.
use Rattle.std.proofs.Common.{◌≡◌, ℕ, suc, ◌+◌, ◌≤◌, Bool, true, false, eqb, ltb, List, [], ◌∷◌, ◌++◌, map, length, sym, refl, ap, ◌∙◌, subst, append_assoc, append-nil, map-id, arith, length-append, ltb-false, eq-eqb, eqb-true}
use mathlib.Core.List.{map-append, flatten}
use Rattle.std.specs.Prelude.{if◌then◌else◌}
use Rattle.wire.proofs.IfLaws.{if-case}
use Rattle.wire.specs.Each.{Each}
use Rattle.wire.specs.Sections.{total_of, WholeSection}
use Rattle.wire.proofs.EachLaws.{each_append}
use Rattle.collector.specs.Rules.{Kind, pointer, broken, Fate, in-hand, done, kinds, sum_in, sum_of, Mark, Story, kind_number, sameKind, same_fate, out_of_hand, bytes_of, count_of, hand_of, marked, given, settled, broken_off, finished, holding, breaking, going, whole, too_long, size_of, plain, sections_of}
use Rattle.collector.proofs.Counters.{times, once}
use Rattle.collector.proofs.MarkLaws.{flatten_snoc, if-cons, bytes_of_more, bytes_of_marked, settled_append, settled_marked, settled_bytes, settled_other, settled_alike, settled_hand, settled_twice}
use Rattle.collector.proofs.Invariants.{ByEnd, Keeps}

-- a byte of which nothing is asked
abbrev pub Any : {A : Type 0} → A → Type 0
Any a = Unit {0}

-- ---- one mark for each byte, in order

module _ (comes : List ℕ → Kind) {A : Type 0} (value : A → ℕ) where
  abbrev pub Seen : List A → Story A → Type 0
  Seen l s = map (λ m. m.byte) s.marks ≡ l

  seen_given : (f : Fate) (b : A) (l : List A) (s : Story A) → Seen l s → Seen (l ++ (b ∷ [])) (given f b s)
  seen_given f b l s x = map-append _ s.marks _ ∙ ap (λ (z : List A). z ++ (b ∷ [])) x

  pub keeps_seen : Keeps comes value Any Seen
  keeps_seen = record {
    gives = λ f e₁ e₂ b l s r x. seen_given f b l s x;
    ends = λ b l s r e x.
        settled_bytes (done (comes (map value (hand_of s ++ (b ∷ []))))) (given in-hand b s).marks ∙ seen_given in-hand b l s x;
    breaks = λ l s x. settled_bytes (done broken) s.marks ∙ x;
  }

  pub points_seen : (b : A) (l : List A) (s : Story A) → Any b → Seen l s → Seen (l ++ (b ∷ [])) (given (done pointer) b s)
  points_seen b l s r x = seen_given (done pointer) b l s x

  -- ---- the whole sections that come to a kind

  pub sections_more : (k : Kind) (secs more : List (List A))
      → sections_of comes value k (secs ++ more) ≡ sections_of comes value k secs ++ sections_of comes value k more
  sections_more k [] more = refl
  sections_more k (x ∷ secs) more =
      ap (λ (l : List (List A)). if sameKind k (comes (map value x)) then x ∷ l else l) (sections_more k secs more)
      ∙ sym (if-cons (sameKind k (comes (map value x))) x (sections_of comes value k secs) (sections_of comes value k more))

  pub sections_flat : (k : Kind) (secs : List (List A)) (x : List A) (t : Bool) → sameKind k (comes (map value x)) ≡ t
      → flatten (sections_of comes value k (secs ++ (x ∷ []))) ≡ flatten (sections_of comes value k secs) ++ (if t then x else [])
  sections_flat k secs x t e =
      ap flatten (sections_more k secs (x ∷ []) ∙ ap (λ (u : Bool). sections_of comes value k secs ++ (if u then x ∷ [] else [])) e)
      ∙ flat t
    where
      flat : (u : Bool) → flatten (sections_of comes value k secs ++ (if u then x ∷ [] else []))
          ≡ flatten (sections_of comes value k secs) ++ (if u then x else [])
      flat true = flatten_snoc (sections_of comes value k secs) x
      flat false = ap flatten (append-nil (sections_of comes value k secs)) ∙ sym (append-nil (flatten (sections_of comes value k secs)))

  -- ---- the bytes of a kind that ends give are those of its sections, in order

  -- would-be: they would still be in order if what is in hand came to that kind next
  pub record InOrder (k : Kind) (l : List A) (s : Story A) : Type 0 where
    pub out : bytes_of (done k) s.marks ≡ flatten (sections_of comes value k s.sections)
    pub would_be : bytes_of (done k) (settled (done k) s.marks) ≡ flatten (sections_of comes value k s.sections) ++ hand_of s

  module _ (k : Kind) (w : ByEnd k) where
    itself : sameKind k k ≡ true
    itself = eq-eqb (kind_number k) (kind_number k) refl

    -- a byte that is not of that kind at once would be of it exactly if it is in hand
    would : (f : Fate) → same_fate (done k) f ≡ false → same_fate (done k) (out_of_hand (done k) f) ≡ same_fate in-hand f
    would (done j) e = e
    would in-hand e = itself

    order_given : (f : Fate) → same_fate (done k) f ≡ false → (b : A) (l : List A) (s : Story A) → InOrder k l s
        → InOrder k (l ++ (b ∷ [])) (given f b s)
    order_given f e b l s x = record {
      out =
          bytes_of_more (done k) f s.marks (b ∷ [])
          ∙ ap (λ (t : Bool). bytes_of (done k) s.marks ++ (if t then b ∷ [] else [])) e
          ∙ append-nil _
          ∙ x.out;
      would_be =
          ap (bytes_of (done k)) (settled_append (done k) s.marks (marked f (b ∷ [])))
          ∙ bytes_of_more (done k) (out_of_hand (done k) f) (settled (done k) s.marks) (b ∷ [])
          ∙ ap (λ (t : Bool). bytes_of (done k) (settled (done k) s.marks) ++ (if t then b ∷ [] else [])) (would f e)
          ∙ ap (λ (z : List A). z ++ (if same_fate in-hand f then b ∷ [] else [])) x.would_be
          ∙ append_assoc (flatten (sections_of comes value k s.sections)) (hand_of s) _
          ∙ ap (λ (z : List A). flatten (sections_of comes value k s.sections) ++ z) (sym (bytes_of_more in-hand f s.marks (b ∷ [])));
    }

    -- what is in hand comes to a kind j, and the bytes of kind k are those of more sections
    settles : (j : Kind) (s : Story A) (secs : List (List A))
        → bytes_of (done k) (settled (done j) s.marks) ≡ flatten (sections_of comes value k secs)
        → InOrder k [] (record { marks = settled (done j) s.marks; sections = secs })
    settles j s secs e = record {
      out = e;
      would_be =
          ap (bytes_of (done k)) (settled_twice (done j) (done k) refl s.marks)
          ∙ e
          ∙ sym (append-nil (flatten (sections_of comes value k secs)))
          ∙ ap (λ (z : List A). flatten (sections_of comes value k secs) ++ z) (sym (settled_hand (done j) refl s.marks));
    }

    other_bytes : (j : Kind) (s : Story A) (l : List A) → sameKind k j ≡ false → InOrder k l s
        → bytes_of (done k) (settled (done j) s.marks) ≡ flatten (sections_of comes value k s.sections)
    other_bytes j s l e x = settled_other (done j) (done k) e refl s.marks ∙ x.out

    pub order_broken : (l : List A) (s : Story A) → InOrder k l s → InOrder k l (broken_off s)
    order_broken l s x =
        let y = settles broken s s.sections (other_bytes broken s l (w.not_rest breaking) x) in
        record { out = y.out; would_be = y.would_be }

    ended_bytes : (l : List A) (s : Story A) → InOrder k l s → (t : Bool) → sameKind k (comes (map value (hand_of s))) ≡ t
        → bytes_of (done k) (settled (done (comes (map value (hand_of s)))) s.marks)
        ≡ flatten (sections_of comes value k s.sections) ++ (if t then hand_of s else [])
    ended_bytes l s x true e =
        settled_alike (done (comes (map value (hand_of s)))) (done k) (done k) (e ∙ sym itself) s.marks ∙ x.would_be
    ended_bytes l s x false e = other_bytes (comes (map value (hand_of s))) s l e x ∙ sym (append-nil _)

    order_finished : (l : List A) (s : Story A) → InOrder k l s → InOrder k l (finished (comes (map value (hand_of s))) s)
    order_finished l s x =
        let j : Kind = comes (map value (hand_of s)) in
        let y = settles j s (s.sections ++ (hand_of s ∷ []))
        (ended_bytes l s x (sameKind k j) refl ∙ sym (sections_flat k s.sections (hand_of s) (sameKind k j) refl)) in
        record { out = y.out; would_be = y.would_be }

    pub keeps_order : Keeps comes value Any (InOrder k)
    keeps_order = record {
      gives = λ f e₁ e₂ b l s r x. order_given f (e₂ k w) b l s x;
      ends = λ b l s r e x.
          let grown = given in-hand b s in
          let hand : hand_of grown ≡ hand_of s ++ (b ∷ []) = bytes_of_more in-hand in-hand s.marks (b ∷ []) in
          subst (λ (z : List A). InOrder k (l ++ (b ∷ [])) (finished (comes (map value z)) grown)) hand
          (order_finished (l ++ (b ∷ [])) grown (order_given in-hand refl b l s x));
      breaks = λ l s x. order_broken l s x;
    }

    pub points_order : (b : A) (l : List A) (s : Story A) → Any b → InOrder k l s → InOrder k (l ++ (b ∷ [])) (given (done pointer) b s)
    points_order b l s r x = order_given (done pointer) w.not-pointer b l s x

    pub order_holding : (bs : List A) → InOrder k bs (holding bs)
    unfolding flatten
    order_holding bs = record {
      out = bytes_of_marked (done k) in-hand bs;
      would_be =
          ap (bytes_of (done k)) (settled_marked (done k) in-hand bs)
          ∙ bytes_of_marked (done k) (done k) bs
          ∙ ap (λ (t : Bool). if t then bs else []) itself
          ∙ sym (bytes_of_marked in-hand in-hand bs);
    }

-- ---- each section is whole by its own header

whole_tests : (bs : List ℕ) (t₁ t₂ t₃ : Bool) → ltb (length bs) 3 ≡ t₁ → ltb 4096 (total_of bs) ≡ t₂
    → eqb (length bs) (total_of bs) ≡ t₃
    → (if t₁ then going else (if t₂ then too_long else (if t₃ then whole else going))) ≡ whole → WholeSection bs
whole_tests bs true t₂ t₃ e₁ e₂ e₃ e = let z : ◌≡◌ {A = ℕ} 0 1 = cc in absurd (omega arith)
whole_tests bs false true t₃ e₁ e₂ e₃ e = let z : ◌≡◌ {A = ℕ} 0 1 = cc in absurd (omega arith)
whole_tests bs false false true e₁ e₂ e₃ e = record { header = ltb-false _ _ e₁; exact = eqb-true _ _ e₃; limit = ltb-false _ _ e₂ }
whole_tests bs false false false e₁ e₂ e₃ e = let z : ◌≡◌ {A = ℕ} 0 1 = cc in absurd (omega arith)

pub whole_section : (bs : List ℕ) → size_of bs ≡ whole → WholeSection bs
unfolding size_of
whole_section bs e = whole_tests bs (ltb (length bs) 3) (ltb 4096 (total_of bs)) (eqb (length bs) (total_of bs)) refl refl refl e

module _ (comes : List ℕ → Kind) {A : Type 0} (value : A → ℕ) where
  abbrev pub AllWhole : List A → Story A → Type 0
  AllWhole l s = Each (λ (x : List A). WholeSection (map value x)) s.sections

  pub keeps_whole : Keeps comes value Any AllWhole
  keeps_whole = record {
    gives = λ f e₁ e₂ b l s r x. x;
    ends = λ b l s r e x.
        let hand = ap (map value) (bytes_of_more in-hand in-hand s.marks (b ∷ [])) in
        each_append (λ (z : List A). WholeSection (map value z)) s.sections (hand_of (given in-hand b s) ∷ []) x
        (subst WholeSection (sym hand) (whole_section _ e), tt);
    breaks = λ l s x. x;
  }

  -- ---- no stretch has a pointer byte

  abbrev pub Points : ℕ → List A → Story A → Type 0
  Points n l s = count_of (done pointer) s.marks ≡ n

  points_given : (n : ℕ) (f : Fate) → same_fate (done pointer) f ≡ false → (b : A) (s : Story A)
      → count_of (done pointer) s.marks ≡ n → count_of (done pointer) (given f b s).marks ≡ n
  points_given n f e b s x =
      ap length
      (bytes_of_more (done pointer) f s.marks (b ∷ [])
      ∙ ap (λ (t : Bool). bytes_of (done pointer) s.marks ++ (if t then b ∷ [] else [])) e
      ∙ append-nil (bytes_of (done pointer) s.marks))
      ∙ x

  -- if no end gives it either
  pub keeps_points : ((bs : List ℕ) → sameKind pointer (comes bs) ≡ false) → (n : ℕ) → Keeps comes value Any (Points n)
  keeps_points never n = record {
    gives = λ f e₁ e₂ b l s r x. points_given n f e₁ b s x;
    ends = λ b l s r e x.
        let run : List ℕ = map value (hand_of s ++ (b ∷ [])) in
        ap length (settled_other (done (comes run)) (done pointer) (never run) refl (given in-hand b s).marks)
        ∙ points_given n in-hand refl b s x;
    breaks = λ l s x. ap length (settled_other (done broken) (done pointer) refl refl s.marks) ∙ x;
  }

-- ---- the counts of the fates make up the bytes

module _ {A : Type 0} where
  one_more : (t : Bool) (b : A) (l : List A) → length (if t then b ∷ l else l) ≡ length l + (if t then 1 else 0)
  one_more true b l = omega arith
  one_more false b l = omega arith

  -- a byte of one kind more, over a list of kinds
  one_kind : (g : Kind) (b : A) (l : Kind → List A) (ks : List Kind)
      → sum_in (λ k. length (if sameKind k g then b ∷ l k else l k)) ks ≡ sum_in (λ k. length (l k)) ks + times g ks
  one_kind g b l [] = refl
  one_kind g b l (k ∷ ks) = omega (arith, one_more (sameKind k g) b (l k), one_kind g b l ks)

  one_fate : (g : Fate) (b : A) (n : ℕ) (l : Fate → List A) → sum_of (λ f. length (l f)) ≡ n
      → sum_of (λ f. length (if same_fate f g then b ∷ l f else l f)) ≡ suc n
  one_fate in-hand b n l e = omega arith
  one_fate (done k) b n l e = omega (arith, one_kind k b (λ j. l (done j)) kinds, once k)

  pub make_up : (ms : List (Mark A)) → sum_of (λ f. count_of f ms) ≡ length (map (λ m. m.byte) ms)
  make_up [] = refl
  make_up (m ∷ ms) = one_fate m.fate m.byte (length (map (λ k. k.byte) ms)) (λ f. bytes_of f ms) (make_up ms)

-- ---- no more sections than bytes of them

pub few : {A : Type 0} (value : A → ℕ) (secs : List (List A)) → Each (λ (x : List A). WholeSection (map value x)) secs
    → length secs ≤ length (flatten secs)
unfolding flatten
few value [] x = omega arith
few {A} value (s ∷ secs) x =
    let some : 1 ≤ length s = nonempty s x.0.header in
    omega (arith, few value secs x.1, length-append s (flatten secs))
  where
    nonempty : (l : List A) → 3 ≤ length (map value l) → 1 ≤ length l
    nonempty [] h = absurd (omega arith)
    nonempty (b ∷ l) h = omega arith

-- ---- all of it together

module _ (comes : List ℕ → Kind) {A : Type 0} (value : A → ℕ) where
  pub record Kept (l : List A) (s : Story A) : Type 0 where
    pub seen : map (λ m. m.byte) s.marks ≡ l
    pub order : (k : Kind) → ByEnd k → InOrder comes value k l s
    pub whole : Each (λ (x : List A). WholeSection (map value x)) s.sections

  pub keeps_kept : Keeps comes value Any Kept
  keeps_kept = record {
    gives = λ f e₁ e₂ b l s r x. record {
      seen = (keeps_seen comes value).gives f e₁ e₂ b l s r x.seen;
      order = λ k w. (keeps_order comes value k w).gives f e₁ e₂ b l s r (x.order k w);
      whole = x.whole;
    };
    ends = λ b l s r e x. record {
      seen = (keeps_seen comes value).ends b l s r e x.seen;
      order = λ k w. (keeps_order comes value k w).ends b l s r e (x.order k w);
      whole = (keeps_whole comes value).ends b l s r e x.whole;
    };
    breaks = λ l s x. record {
      seen = (keeps_seen comes value).breaks l s x.seen;
      order = λ k w. (keeps_order comes value k w).breaks l s (x.order k w);
      whole = x.whole;
    };
  }

  pub points_kept : (b : A) (l : List A) (s : Story A) → Any b → Kept l s → Kept (l ++ (b ∷ [])) (given (done pointer) b s)
  points_kept b l s r x = record {
    seen = points_seen comes value b l s r x.seen;
    order = λ k w. points_order comes value k w b l s r (x.order k w);
    whole = x.whole;
  }

  seen_holding : (bs : List A) → map (λ m. m.byte) (marked in-hand bs) ≡ bs
  seen_holding [] = refl
  seen_holding (b ∷ bs) = ap (λ (l : List A). b ∷ l) (seen_holding bs)

  pub kept_holding : (bs : List A) → Kept bs (holding bs)
  kept_holding bs = record { seen = seen_holding bs; order = λ k w. order_holding comes value k w bs; whole = tt }

  -- each count is at most the number of bytes seen, and so is the number of sections
  pub counts_in : (l : List A) (s : Story A) → Kept l s → sum_of (λ f. count_of f s.marks) ≡ length l
  counts_in l s x = make_up s.marks ∙ ap length x.seen

  pub ended_in : (k : Kind) → ByEnd k → (l : List A) (s : Story A) → Kept l s
      → count_of (done k) s.marks ≡ length (flatten (sections_of comes value k s.sections))
  ended_in k w l s x = ap length (x.order k w).out

  pub few_in : (l : List A) (s : Story A) → Kept l s → length s.sections ≤ length (flatten s.sections)
  few_in l s x = few value s.sections x.whole

-- ---- the whole sections of a kind, among all

values_if : {A : Type 0} (value : A → ℕ) (t : Bool) (x : List A) (secs : List (List A)) (vs : List (List ℕ)) → map (map value) secs ≡ vs
    → map (map value) (if t then x ∷ secs else secs) ≡ (if t then map value x ∷ vs else vs)
values_if value true x secs vs e = ap (λ (l : List (List ℕ)). map value x ∷ l) e
values_if value false x secs vs e = e

-- they are told by the bytes' values
pub sections_values : (comes : List ℕ → Kind) {A : Type 0} (value : A → ℕ) (k : Kind) (secs : List (List A))
    → map (map value) (sections_of comes value k secs) ≡ sections_of comes plain k (map (map value) secs)
sections_values comes value k [] = refl
sections_values comes value k (x ∷ secs) =
    let vs : List (List ℕ) = sections_of comes plain k (map (map value) secs) in
    values_if value (sameKind k (comes (map value x))) x (sections_of comes value k secs) vs (sections_values comes value k secs)
    ∙ ap (λ (l : List ℕ). if sameKind k (comes l) then map value x ∷ vs else vs) (sym (map-id (map value x)))

pub sections_each : (comes : List ℕ → Kind) {A : Type 0} (value : A → ℕ) (k : Kind) (P : List A → Type 0) (secs : List (List A))
    → Each P secs → Each P (sections_of comes value k secs)
sections_each comes value k P [] x = tt
sections_each comes value k P (s ∷ secs) x =
    if-case (Each P) (sameKind k (comes (map value s)))
    (λ e. (x.0, sections_each comes value k P secs x.1)) (λ e. sections_each comes value k P secs x.1)

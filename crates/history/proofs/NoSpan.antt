-- No section that comes whole spans a break in the counter or a mark, whatever it comes to: what is in hand is joined,
-- packet by packet, to the packet that comes next, and a packet that is not joined to the one before takes it.
use mathlib.Core.Path.{◌≡◌, refl, sym, ap, ◌∙◌, subst}
use mathlib.Core.Bool.{Bool, true, false, not, ◌&&◌}
use mathlib.Core.List.{List, [], ◌∷◌, ◌++◌, append_assoc, map, map-append}
use mathlib.Core.Logic.{⊎_elim}
use mathlib.Core.Option.{Option, some}
use Prim.Native.Nat.{ℕ, zero, suc, ◌+◌, ◌≤◌, ◌<◌}
use native.Mathlib.Omega.{arith}
use lib.ListN.{length, get_or, length-append}
use lib.Seq.{get_or_at}
use borrow.Author.Tests.{ne_eqb}
use Rattle.std.specs.Prelude.{if◌then◌else◌}
use Rattle.wire.specs.Each.{Each}
use Rattle.wire.proofs.IfLaws.{true_not_false}
use Rattle.packet.specs.Ruling.{joins, Carried}
use Rattle.collector.specs.Rules.{Kind, Fate, pointer, broken, done, in-hand, Story, same_fate, hand_of, given, settled, joined}
use Rattle.collector.proofs.MarkLaws.{bytes_of_more, settled_hand}
use Rattle.collector.proofs.ByteRuns.{lt_or_ge}
use Rattle.wire.proofs.EachLaws.{each_append, each_map}
use Rattle.collector.proofs.Invariants.{Keeps, keep-payload}
use Rattle.wire.proofs.TestLaws.{and_none}
use Rattle.history.specs.History.{Byte, value_of, numbered, History, unbegun, history_after, history_from, history_of, counter_at, BreakAfter, Spans, Unbroken, Unmarked}

-- is packet number k behind a mark; beyond the packets that came, it counts as behind one
abbrev pub spliced_at : List (Carried ℕ) → ℕ → Bool
spliced_at qs k = get_or (map (λ q. q.spliced) qs) k true

-- packet number k + 1 is not joined to the one before it
abbrev Apart : List (Carried ℕ) → ℕ → Type 0
Apart qs k = joins (some (counter_at qs k)) (spliced_at qs (k + 1)) (counter_at qs (k + 1)) ≡ false

-- two bytes with no such packet between them
abbrev Joined : List (Carried ℕ) → Byte → Byte → Type 0
Joined qs x y = (k : ℕ) → x.packet ≤ k → k < y.packet → Apart qs k → ⊥

abbrev pub Whole : List (Carried ℕ) → List Byte → Type 0
Whole qs section = Each (λ x. Each (Joined qs x) section) section

module _ (comes : List ℕ → Kind) (qs : List (Carried ℕ)) where
  -- a byte of one of the first n packets, joined to the last of them
  record Linked (n : ℕ) (x : Byte) : Type 0 where
    within : x.packet < n
    on : (k : ℕ) → x.packet ≤ k → k + 1 < n → Apart qs k → ⊥

  -- bytes that are all linked to one packet are joined to each other
  linked_pair : (n : ℕ) (x y : Byte) → Linked n x → Linked n y → Joined qs x y
  linked_pair n x y a b k v w = a.on k v (omega (arith, w, b.within))

  linked_with : (n : ℕ) (x : Byte) (l : List Byte) → Linked n x → Each (Linked n) l → Each (Joined qs x) l
  linked_with n x l a b = each_map (Linked n) (Joined qs x) (λ y c. linked_pair n x y a c) l b

  linked_section : (n : ℕ) (l : List Byte) → Each (Linked n) l → Whole qs l
  linked_section n l a = each_map (Linked n) (λ x. Each (Joined qs x) l) (λ x b. linked_with n x l b a) l a

  -- ---- within one packet

  record Linking (n : ℕ) (l : List Byte) (s : Story Byte) : Type 0 where
    hand : Each (Linked n) (hand_of s)
    sections : Each (Whole qs) s.sections

  each_if : (n : ℕ) (t : Bool) (b : Byte) → Linked n b → Each (Linked n) (if t then b ∷ [] else [])
  each_if n true b r = (r, tt)
  each_if n false b r = tt

  linking_given : (n : ℕ) (f : Fate) (b : Byte) (l : List Byte) (s : Story Byte) → Linked n b → Linking n l s
      → Linking n (l ++ (b ∷ [])) (given f b s)
  linking_given n f b l s r x = record {
    hand =
        subst (Each (Linked n)) (sym (bytes_of_more in-hand f s.marks (b ∷ [])))
        (each_append (Linked n) (hand_of s) (if same_fate in-hand f then b ∷ [] else []) x.hand
        (each_if n (same_fate in-hand f) b r));
    sections = x.sections;
  }

  no_hand : (n : ℕ) (f : Fate) → same_fate in-hand f ≡ false → (s : Story Byte)
      → Each (Linked n) (hand_of (record { marks = settled f s.marks; sections = s.sections }))
  no_hand n f e s = subst (Each (Linked n)) (sym (settled_hand f e s.marks)) tt

  keeps_linking : (n : ℕ) → Keeps comes value_of (Linked n) (Linking n)
  keeps_linking n = record {
    gives = λ f e₁ e₂ b l s r x. linking_given n f b l s r x;
    ends = λ b l s r e x.
        let y = linking_given n in-hand b l s r x in
        record {
          hand = no_hand n (done (comes (map value_of (hand_of s ++ (b ∷ []))))) refl (given in-hand b s);
          sections = each_append (Whole qs) s.sections (hand_of (given in-hand b s) ∷ []) x.sections
              (linked_section n (hand_of (given in-hand b s)) y.hand, tt);
        };
    breaks = λ l s x. record { hand = no_hand n (done broken) refl s; sections = x.sections };
  }

  -- ---- from packet to packet

  -- the last counter is that of the last packet
  abbrev LastIs : History → Type 0
  LastIs h = (m : ℕ) → h.packets ≡ m + 1 → h.last ≡ some (counter_at qs m)

  -- the packet that comes next
  record Here (n : ℕ) (q : Carried ℕ) : Type 0 where
    counter : q.counter ≡ counter_at qs n
    spliced : q.spliced ≡ spliced_at qs n

  -- one that is joined is not apart
  joined_on : (last : Option ℕ) (m : ℕ) (q : Carried ℕ) → last ≡ some (counter_at qs m) → Here (m + 1) q
      → joins last q.spliced q.counter ≡ true → Apart qs m → ⊥
  joined_on last m q l e f b =
      true_not_false (sym f ∙ (λ i. joins (l i) (e.spliced i) (e.counter i)) ∙ b)

  linked_on : (h : History) (q : Carried ℕ) → LastIs h → Here h.packets q
      → joins h.last q.spliced q.counter ≡ true → (x : Byte)
      → Linked h.packets x → Linked (h.packets + 1) x
  linked_on h q l e f x a = record {
    within = omega (arith, a.within);
    on = λ k w v b. ⊎_elim (λ u. a.on k w u b)
        (λ u.
        let at : h.packets ≡ k + 1 = omega arith in
        joined_on h.last k q (l k at) (subst (λ (n : ℕ). Here n q) at e) f b) (lt_or_ge (k + 1) h.packets);
  }

  linked_joined : (t : Bool) (h : History) (q : Carried ℕ) (l : List Byte) → LastIs h → Here h.packets q
      → joins h.last q.spliced q.counter ≡ t
      → Linking h.packets l h.story → Linking (h.packets + 1) l (joined t h.story)
  linked_joined true h q l k e f x = record {
    hand = each_map (Linked h.packets) (Linked (h.packets + 1))
        (linked_on h q k e f) (hand_of h.story) x.hand;
    sections = x.sections;
  }
  linked_joined false h q l k e f x = record {
    hand = no_hand (h.packets + 1) (done broken) refl h.story;
    sections = x.sections;
  }

  -- the packet's own bytes
  linked_new : (n : ℕ) (bs : List ℕ) → Each (Linked (n + 1)) (numbered n bs)
  linked_new n [] = tt
  linked_new n (b ∷ bs) = (record { within = omega arith; on = λ k w v c. omega arith }, linked_new n bs)

  linked_after : (h : History) (q : Carried ℕ) (l : List Byte) → LastIs h → Here h.packets q
      → Linking h.packets l h.story
      → Linking (h.packets + 1) (l ++ numbered h.packets q.bytes) (history_after comes h q).story
  linked_after h q l k e x =
      let t = joins h.last q.spliced q.counter in
      keep-payload comes value_of (Linked (h.packets + 1)) (Linking (h.packets + 1)) (keeps_linking (h.packets + 1))
      (λ b m s r y. linking_given (h.packets + 1) (done pointer) b m s r y) q.start l
      (joined t h.story) (numbered h.packets q.bytes)
      (linked_new h.packets q.bytes) (linked_joined t h q l k e refl x)

  last_after : (h : History) (q : Carried ℕ) → Here h.packets q → LastIs (history_after comes h q)
  last_after h q e m w =
      let same : h.packets ≡ m = omega arith in
      ap some (e.counter ∙ ap (counter_at qs) same)

-- the packet after some packets
pub at_here : {B : Type 0} (f : Carried ℕ → B) (d : B) (before : List (Carried ℕ)) (q : Carried ℕ) (rest : List (Carried ℕ))
    → get_or (map f (before ++ (q ∷ rest))) (length before) d ≡ f q
at_here f d before q rest =
    ap (λ l. get_or l (length before) d) (map-append f before (q ∷ rest))
    ∙ get_or_at (map f before) (f q) (map f rest) d (length before) (long before)
  where
    long : (l : List (Carried ℕ)) → length (map f l) ≡ length l
    long [] = refl
    long (p ∷ l) = ap suc (long l)

linked_run : (comes : List ℕ → Kind) (qs before rest : List (Carried ℕ)) (h : History) (l : List Byte) → qs ≡ before ++ rest
    → h.packets ≡ length before → LastIs comes qs h → Linking comes qs h.packets l h.story
    → Each (Whole qs) (history_from comes h rest).story.sections
linked_run comes qs before [] h l e n k x = x.sections
linked_run comes qs before (q ∷ rest) h l e n k x =
    let here : Here comes qs h.packets q =
    subst (λ (m : ℕ). Here comes qs m q) (sym n)
    (subst (λ (z : List (Carried ℕ)). Here comes z (length before) q) (sym e)
    (record {
      counter = sym (at_here (λ p. p.counter) 0 before q rest);
      spliced = sym (at_here (λ p. p.spliced) true before q rest);
    })) in
    linked_run comes qs (before ++ (q ∷ [])) rest (history_after comes h q) (l ++ numbered h.packets q.bytes)
    (e ∙ sym (append_assoc before (q ∷ []) rest)) (omega (arith, n, length-append before (q ∷ [])))
    (last_after comes qs h q here) (linked_after comes qs h q l k here x)

-- whatever the packets, no section that comes whole has bytes of packets that are not joined
pub sections_whole : (comes : List ℕ → Kind) (qs : List (Carried ℕ)) → Each (Whole qs) (history_of comes qs).story.sections
sections_whole comes qs =
    linked_run comes qs [] qs unbegun [] refl refl (λ m e. absurd (omega arith)) (record { hand = tt; sections = tt })

-- ---- so it spans no break

break_apart : (qs : List (Carried ℕ)) (k : ℕ) → BreakAfter qs k → Apart qs k
unfolding joins
break_apart qs k b =
    ap (λ (t : Bool). not (spliced_at qs (k + 1)) && t) (ne_eqb _ _ b.break) ∙ and_none (not (spliced_at qs (k + 1)))

whole_unbroken : (qs : List (Carried ℕ)) (l : List Byte) → Whole qs l → Unbroken qs l
whole_unbroken qs l =
    each_map (λ x. Each (Joined qs x) l) (λ x. Each (λ y. Spans qs x y → ⊥) l)
    (λ x. each_map (Joined qs x) (λ y. Spans qs x y → ⊥)
    (λ y j w. j w.at w.before w.behind (break_apart qs w.at w.broken)) l) l

pub sections_unbroken : (comes : List ℕ → Kind) (qs : List (Carried ℕ)) → Each (Unbroken qs) (history_of comes qs).story.sections
sections_unbroken comes qs =
    each_map (Whole qs) (Unbroken qs) (whole_unbroken qs) (history_of comes qs).story.sections (sections_whole comes qs)

-- ---- nor a mark

splice_apart : (qs : List (Carried ℕ)) (k : ℕ) → spliced_at qs (k + 1) ≡ true → Apart qs k
unfolding joins
splice_apart qs k e = rw (e)

spliced_pair : (qs : List (Carried ℕ)) (k : ℕ) (x y : Byte) → spliced_at qs k ≡ true → Joined qs x y
    → x.packet < k → k ≤ y.packet → ⊥
spliced_pair qs zero x y e j a b = omega arith
spliced_pair qs (suc k) x y e j a b =
    j k (omega arith) (omega arith) (splice_apart qs k (ap (spliced_at qs) at ∙ e))
  where
    at : k + 1 ≡ suc k
    at = omega arith

-- of packets that are behind a mark
whole_unmarked : (qs : List (Carried ℕ)) (splices : List ℕ) → Each (λ k. spliced_at qs k ≡ true) splices → (l : List Byte)
    → Whole qs l → Unmarked splices l
whole_unmarked qs splices e l w =
    each_map (λ k. spliced_at qs k ≡ true) (λ k. Each (λ x. Each (λ y. x.packet < k → k ≤ y.packet → ⊥) l) l)
    (λ k s. each_map (λ x. Each (Joined qs x) l) (λ x. Each (λ y. x.packet < k → k ≤ y.packet → ⊥) l)
    (λ x. each_map (Joined qs x) (λ y. x.packet < k → k ≤ y.packet → ⊥) (λ y j. spliced_pair qs k x y s j) l) l w)
    splices e

pub sections_unmarked : (comes : List ℕ → Kind) (qs : List (Carried ℕ)) (splices : List ℕ)
    → Each (λ k. spliced_at qs k ≡ true) splices → Each (Unmarked splices) (history_of comes qs).story.sections
sections_unmarked comes qs splices e =
    each_map (Whole qs) (Unmarked splices) (whole_unmarked qs splices e) (history_of comes qs).story.sections
    (sections_whole comes qs)

-- Laws of the bytes of a payload: which of them are bytes of sections, where the first filler stands, and what stands
-- before and behind a filler at the payload's end.
use mathlib.Core.Path.{◌≡◌, refl, sym, ap, ◌∙◌, subst}
use mathlib.Core.List.{List, [], ◌∷◌, ◌++◌, map, flatten, nil≢cons, cons≢nil, head-eq_of_cons-eq, tail-eq_of_cons-eq}
use mathlib.Core.Logic.{◌⊎◌, inl, inr, ⊎_elim}
use Prim.Native.Nat.{ℕ, zero, suc, ◌+◌}
use native.Mathlib.Omega.{arith}
use lib.ListN.{length, replicate}
use Rattle.wire.specs.Each.{Each}
use Rattle.writer.specs.Layout.{Cell, pointer, byte, filler, Payload}
use Rattle.reverse.specs.Places.{Place}
use Rattle.reverse.specs.Rule.{bytes_in, NoPointer, BeginsNothing}

abbrev pub Cells : Type 0
Cells = List (Cell Place)

-- ---- lists

pub none_there : {A : Type 0} (l : List A) → length l ≡ 0 → l ≡ []
none_there [] e = refl
none_there (x ∷ l) e = absurd (omega arith)

not_none : {A : Type 0} (a : List A) (x : A) (c : List A) → a ++ (x ∷ c) ≡ [] → ⊥
not_none [] x c e = cons≢nil e
not_none (y ∷ a) x c e = cons≢nil e

-- what a property of all says of one of them
pub each_at : {A : Type 0} (P : A → Type 0) (a : List A) (x : A) (c : List A) → Each P (a ++ (x ∷ c)) → P x
each_at P [] x c e = e.0
each_at P (y ∷ a) x c e = each_at P a x c e.1

-- ---- the sections' bytes

pub bytes_in_append : (a c : Cells) → bytes_in (a ++ c) ≡ bytes_in a ++ bytes_in c
bytes_in_append [] c = refl
bytes_in_append (pointer p ∷ a) c = bytes_in_append a c
bytes_in_append (byte b ∷ a) c = ap (λ (l : List Place). b ∷ l) (bytes_in_append a c)
bytes_in_append (filler ∷ a) c = bytes_in_append a c

pub bytes_in_bytes : (l : List Place) → bytes_in (map byte l) ≡ l
bytes_in_bytes [] = refl
bytes_in_bytes (b ∷ l) = ap (λ (m : List Place). b ∷ m) (bytes_in_bytes l)

pub bytes_in_fillers : (n : ℕ) → bytes_in (replicate n filler) ≡ []
bytes_in_fillers zero = refl
bytes_in_fillers (suc n) = bytes_in_fillers n

pub bytes_in_filled : (l : List Place) (k : ℕ) → bytes_in (map byte l ++ replicate k filler) ≡ l
bytes_in_filled [] k = bytes_in_fillers k
bytes_in_filled (b ∷ l) k = ap (λ (m : List Place). b ∷ m) (bytes_in_filled l k)

pub bytes_in_all : (ps : List (Payload Place))
    → bytes_in (flatten (map (λ p. p.cells) ps)) ≡ flatten (map (λ p. bytes_in p.cells) ps)
unfolding flatten
bytes_in_all [] = refl
bytes_in_all (p ∷ ps) =
    bytes_in_append p.cells (flatten (map (λ q. q.cells) ps))
    ∙ ap (λ (l : List Place). bytes_in p.cells ++ l) (bytes_in_all ps)

-- ---- bytes with which no section begins, and bytes that are no pointer

abbrev pub NoBegin : Place → Type 0
NoBegin b = b.before ≡ 0 → ⊥

pub begins_none : (c : Cells) → Each BeginsNothing c → Each NoBegin (bytes_in c)
begins_none [] x = tt
begins_none (pointer p ∷ c) x = absurd x.0
begins_none (byte b ∷ c) x = (x.0, begins_none c x.1)
begins_none (filler ∷ c) x = begins_none c x.1

pub begins_of_bytes : (l : List Place) → Each NoBegin l → Each BeginsNothing (map byte l)
begins_of_bytes [] x = tt
begins_of_bytes (b ∷ l) x = (x.0, begins_of_bytes l x.1)

pub begins_of_fillers : (n : ℕ) → Each BeginsNothing (replicate n filler)
begins_of_fillers zero = tt
begins_of_fillers (suc n) = (tt, begins_of_fillers n)

pub no_pointer_cell : (x : Cell Place) → BeginsNothing x → NoPointer x
no_pointer_cell (pointer p) e = e
no_pointer_cell (byte b) e = tt
no_pointer_cell filler e = tt

pub pointerless_bytes : (l : List Place) → Each NoPointer (map byte l)
pointerless_bytes [] = tt
pointerless_bytes (b ∷ l) = (tt, pointerless_bytes l)

pub pointerless_fillers : (n : ℕ) → Each NoPointer (replicate n filler)
pointerless_fillers zero = tt
pointerless_fillers (suc n) = (tt, pointerless_fillers n)

-- ---- the first filler

-- where no section's byte is and no pointer, all is filler
pub only_fillers : (c : Cells) → Each NoPointer c → bytes_in c ≡ [] → c ≡ replicate (length c) filler
only_fillers [] x e = refl
only_fillers (pointer p ∷ c) x e = absurd x.0
only_fillers (byte b ∷ c) x e = absurd (cons≢nil e)
only_fillers (filler ∷ c) x e = ap (λ (l : Cells). filler ∷ l) (only_fillers c x.1 e)

pub record FirstFiller (c : Cells) : Type 0 where
  pub bytes : List Place
  pub back : Cells
  pub whole : c ≡ map byte bytes ++ (filler ∷ back)
  pub no_pointer : Each NoPointer back

-- bytes of sections alone, or a first filler behind some
pub first_filler : (c : Cells) → Each NoPointer c → (c ≡ map byte (bytes_in c)) ⊎ FirstFiller c
first_filler [] x = inl refl
first_filler (pointer p ∷ c) x = absurd x.0
first_filler (byte b ∷ c) x =
    ⊎_elim (λ e. inl (ap (λ (l : Cells). byte b ∷ l) e))
    (λ f. inr (record {
      bytes = b ∷ f.bytes;
      back = f.back;
      whole = ap (λ (l : Cells). byte b ∷ l) f.whole;
      no_pointer = f.no_pointer;
    })) (first_filler c x.1)
first_filler (filler ∷ c) x = inr (record { bytes = []; back = c; whole = refl; no_pointer = x.1 })

-- ---- a filler among what is filled up

abbrev pub NoFiller : Cell Place → Type 0
NoFiller (pointer p) = Unit {0}
NoFiller (byte b) = Unit {0}
NoFiller filler = ⊥

pub no_filler_bytes : (l : List Place) → Each NoFiller (map byte l)
no_filler_bytes [] = tt
no_filler_bytes (b ∷ l) = (tt, no_filler_bytes l)

-- it is one of the fillers at the end
pub record AtEnd (c : Cells) (k : ℕ) (front back : Cells) : Type 0 where
  pub fillers : ℕ
  pub front_is : front ≡ c ++ replicate fillers filler
  pub others : ℕ
  pub back_is : back ≡ replicate others filler
  pub all : k ≡ fillers + suc others

at_end_fillers : (k : ℕ) (front back : Cells) → replicate k filler ≡ front ++ (filler ∷ back) → AtEnd [] k front back
at_end_fillers zero [] back e = absurd (nil≢cons e)
at_end_fillers zero (x ∷ front) back e = absurd (nil≢cons e)
at_end_fillers (suc k) [] back e =
    record { fillers = 0; front_is = refl; others = k; back_is = sym (tail-eq_of_cons-eq e); all = omega arith }
at_end_fillers (suc k) (x ∷ front) back e =
    let r = at_end_fillers k front back (tail-eq_of_cons-eq e) in
    record {
      fillers = suc r.fillers;
      front_is = λ i. head-eq_of_cons-eq (sym e) i ∷ r.front_is i;
      others = r.others;
      back_is = r.back_is;
      all = omega (arith, r.all);
    }

pub at-end : (c : Cells) → Each NoFiller c → (k : ℕ) (front back : Cells)
    → c ++ replicate k filler ≡ front ++ (filler ∷ back) → AtEnd c k front back
at-end [] x k front back e = at_end_fillers k front back e
at-end (y ∷ c) x k [] back e = absurd (subst NoFiller (head-eq_of_cons-eq e) x.0)
at-end (y ∷ c) x k (z ∷ front) back e =
    let r = at-end c x.1 k front back (tail-eq_of_cons-eq e) in
    record {
      fillers = r.fillers;
      front_is = λ i. head-eq_of_cons-eq (sym e) i ∷ r.front_is i;
      others = r.others;
      back_is = r.back_is;
      all = r.all;
    }

pub byte_there : (front : Cells) (b : Place) (back : Cells) → bytes_in (front ++ (byte b ∷ back)) ≡ [] → ⊥
byte_there front b back e = not_none (bytes_in front) b (bytes_in back) (sym (bytes_in_append front (byte b ∷ back)) ∙ e)

-- what stands before a section's byte there are bytes of sections alone
pub all_bytes_before : (front : Cells) (first : Place) (back : Cells) (l : List Place) (k : ℕ)
    → front ++ (byte first ∷ back) ≡ map byte l ++ replicate k filler → length (bytes_in front) ≡ length front
all_bytes_before [] first back l k e = refl
all_bytes_before (x ∷ front) first back [] k e =
    absurd (byte_there (x ∷ front) first back (ap bytes_in e ∙ bytes_in_fillers k))
all_bytes_before (x ∷ front) first back (b ∷ l) k e =
    ap (λ (y : Cell Place). length (bytes_in (y ∷ front))) (head-eq_of_cons-eq e)
    ∙ ap suc (all_bytes_before front first back l k (tail-eq_of_cons-eq e))

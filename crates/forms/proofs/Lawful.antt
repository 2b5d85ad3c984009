-- The two laws of a form, and the forms that carry them: what is read is what is shown, and what is shown is read.
use Prim.{tt}
use Prim.Native.Nat.{ℕ, zero, suc, ◌+◌, ◌<◌}
use mathlib.Core.Path.{◌≡◌, refl, sym, ap, ap₂, ◌∙◌, subst}
use mathlib.Core.List.{List, [], ◌∷◌, ◌++◌, append_assoc}
use mathlib.Core.Bool.{Bool, true}
use native.Mathlib.Omega.{arith}
use borrow.Author.Tests.{leb-true, le-leb}
use lib.ListN.{length, get_or, take, drop, length-append, take-append-drop}
use lib.Seq.{take_at, drop_at, get_or-append-add, length-take-le}
use lib.Dec.{leb}
use Rattle.wire.specs.Bytes.{Bytes}
use Rattle.wire.specs.Reading.{Reading, value, refused, ◌>>=◌}
use Rattle.wire.proofs.ReadingLaws.{value_is, never, through}
use Rattle.wire.proofs.IfLaws.{if-case}
use Rattle.forms.specs.Laws.{Complete, Sound, Lawful}
use Rattle.forms.specs.Form.{Front, Form, mute, raw_read, raw, both_read, ◌then◌, such_read, such, each_read, each_show, EachOk, each}

-- ---- lists of bytes

-- a list of one element, and of two
pub one_of : (a : List ℕ) → length a ≡ 1 → a ≡ get_or a 0 0 ∷ []
one_of [] e = absurd (omega arith)
one_of (x ∷ []) e = refl
one_of (x ∷ y ∷ a) e = absurd (omega arith)

pub two_of : (a : List ℕ) → length a ≡ 2 → a ≡ get_or a 0 0 ∷ get_or a 1 0 ∷ []
two_of [] e = absurd (omega arith)
two_of (x ∷ []) e = absurd (omega arith)
two_of (x ∷ y ∷ []) e = refl
two_of (x ∷ y ∷ z ∷ a) e = absurd (omega arith)

pub bytes_behind : {s : List ℕ} (x r : List ℕ) → s ≡ x ++ r → Bytes s → Bytes r
bytes_behind x r e h i = subst (λ n. n < 256) (get_or-append-add x r i 0) (subst Bytes e h (length x + i))

pub bytes_front : {s : List ℕ} (x r : List ℕ) → s ≡ x ++ r → Bytes s → Bytes x
bytes_front x r e h = go x (subst Bytes e h)
  where
    go : (x : List ℕ) → Bytes (x ++ r) → Bytes x
    go [] h i = omega arith
    go (a ∷ x) h zero = h 0
    go (a ∷ x) h (suc i) = go x (λ j. h (suc j)) i

-- ---- readings

-- a reading that goes on with what was read
pub read_on : {A B : Type 0} {x : Reading A} {a : A} (f : A → Reading B) → x ≡ value a → (x >>= f) ≡ f a
read_on f e = ap (λ y. y >>= f) e

-- a refusal stays
pub stays : {A B : Type 0} {x : Reading A} {k : ℕ} (f : A → Reading B) → x ≡ refused k → (x >>= f) ≡ refused k
stays f e = ap (λ y. y >>= f) e

-- ---- one by one

pub mute_lawful : {A : Type 0} (v : A) → Lawful (mute v)
mute_lawful {A} v = record {
  sound = λ s a r w e.
      let p : ◌≡◌ {A = A × List ℕ} (v, s) (a, r) = value_is e in
      (ap (λ (z : A × List ℕ). z.1) p, sym (ap (λ (z : A × List ℕ). z.0) p));
  complete = λ a r o. ap (λ x. value (x, r)) (sym o);
}

pub raw_read_lem : (n : ℕ) (a r : List ℕ) → length a ≡ n → raw_read n (a ++ r) ≡ value (a, r)
unfolding raw_read
raw_read_lem n a r e =
    let l = length-append a r in simp (le-leb n (length (a ++ r)) (omega arith), take_at a r n e, drop_at a r n e)

pub raw_shown : (n : ℕ) (s a r : List ℕ) → raw_read n s ≡ value (a, r) → (s ≡ a ++ r) × (length a ≡ n)
unfolding raw_read
raw_shown n s a r =
    if-case P (leb n (length s))
    (λ h e.
    let x : ◌≡◌ {A = List ℕ × List ℕ} (take n s, drop n s) (a, r) = value_is e in
    let p : take n s ≡ a = ap (λ (z : List ℕ × List ℕ). z.0) x in
    let q : drop n s ≡ r = ap (λ (z : List ℕ × List ℕ). z.1) x in
    (sym (take-append-drop n s) ∙ ap₂ (λ x y. x ++ y) p q, sym (ap length p) ∙ length-take-le n s (leb-true _ _ h)))
    (λ _ e. absurd (never (sym e)))
  where
    P : Front (List ℕ) → Type 0
    P x = x ≡ value (a, r) → (s ≡ a ++ r) × (length a ≡ n)

pub raw_lawful : (n : ℕ) → Lawful (raw n)
raw_lawful n = record { sound = λ s a r w e. raw_shown n s a r e; complete = λ a r o. raw_read_lem n a r o }

module _ {A B : Type 0} (c : Form A) (d : Form B) where
  pub then-complete : Complete c → Complete d → Complete (c then d)
  unfolding both_read
  then-complete f g p r o =
      ap (both_read c d) (append_assoc (c.show p.0) (d.show p.1) r)
      ∙ read_on _ (f p.0 (d.show p.1 ++ r) o.0)
      ∙ read_on _ (g p.1 r o.1)

  then-sound : Sound c → Sound d → Sound (c then d)
  unfolding both_read
  then-sound f g s p t w e =
      let x = through (c.read s) _ (p, t) e in
      let a = x.0.0 in
      let r = x.0.1 in
      let y = through (d.read r) _ (p, t) x.2 in
      let b = y.0.0 in
      let u = y.0.1 in
      let k = f s a r w x.1 in
      let l = g r b u (bytes_behind (c.show a) r k.0 w) y.1 in
      let q : ◌≡◌ {A = (A × B) × List ℕ} ((a, b), u) (p, t) = value_is y.2 in
      let h : s ≡ (c.show a ++ d.show b) ++ u =
      k.0 ∙ ap (λ m. c.show a ++ m) l.0 ∙ sym (append_assoc (c.show a) (d.show b) u) in
      subst
      (λ (z : (A × B) × List ℕ). (s ≡ (c.show z.0.0 ++ d.show z.0.1) ++ z.1)
      × (c.Ok z.0.0 × d.Ok z.0.1))
      q (h, (k.1, l.1))

  pub then-lawful : Lawful c → Lawful d → Lawful (c then d)
  then-lawful f g = record {
    sound = then-sound f.sound g.sound;
    complete = then-complete f.complete g.complete;
  }

module _ {A : Type 0} (c : Form A) (k : ℕ) (test : A → Bool) where
  pub such_complete : Complete c → Complete (such c k test)
  unfolding such_read
  such_complete f a r o = read_on _ (f a r o.0) ∙ rw o.1

  such_sound : Sound c → Sound (such c k test)
  unfolding such_read
  such_sound f s b t w e =
      let x = through (c.read s) _ (b, t) e in
      let a = x.0.0 in
      let r = x.0.1 in
      if-case P (test a)
      (λ h g.
      let q : ◌≡◌ {A = A × List ℕ} (a, r) (b, t) = value_is g in
      let y = f s b t w (x.1 ∙ ap value q) in
      (y.0, (y.1, sym (ap (λ (z : A × List ℕ). test z.0) q) ∙ h)))
      (λ _ g. absurd (never (sym g)))
      x.2
    where
      P : Front A → Type 0
      P y = y ≡ value (b, t) → (s ≡ c.show b ++ t) × (c.Ok b × (test b ≡ true))

  pub such_lawful : Lawful c → Lawful (such c k test)
  such_lawful f = record { sound = such_sound f.sound; complete = such_complete f.complete }

module _ {X A : Type 0} (f : X → Form A) where
  pub each_complete : ((x : X) → Complete (f x)) → (xs : List X) → Complete (each f xs)
  unfolding each_read each_show EachOk
  each_complete h [] [] t o = refl
  each_complete h [] (a ∷ l) t o = absurd o
  each_complete h (x ∷ xs) [] t o = absurd o
  each_complete h (x ∷ xs) (a ∷ l) t o =
      ap (each_read f (x ∷ xs)) (append_assoc ((f x).show a) (each_show f xs l) t)
      ∙ read_on _ (h x a (each_show f xs l ++ t) o.0)
      ∙ read_on _ (each_complete h xs l t o.1)

  each_sound : ((x : X) → Sound (f x)) → (xs : List X) → Sound (each f xs)
  unfolding each_read each_show EachOk
  each_sound h [] s l t w e =
      let q : ◌≡◌ {A = List A × List ℕ} ([], s) (l, t) = value_is e in
      subst (λ (z : List A × List ℕ). (s ≡ each_show f [] z.0 ++ z.1) × EachOk f [] z.0) q (refl, tt)
  each_sound h (x ∷ xs) s l t w e =
      let y = through ((f x).read s) _ (l, t) e in
      let a = y.0.0 in
      let r = y.0.1 in
      let z = through (each_read f xs r) _ (l, t) y.2 in
      let m = z.0.0 in
      let u = z.0.1 in
      let p = h x s a r w y.1 in
      let v = each_sound h xs r m u (bytes_behind ((f x).show a) r p.0 w) z.1 in
      let q : ◌≡◌ {A = List A × List ℕ} (a ∷ m, u) (l, t) = value_is z.2 in
      let g : s ≡ ((f x).show a ++ each_show f xs m) ++ u =
      p.0 ∙ ap (λ j. (f x).show a ++ j) v.0 ∙ sym (append_assoc ((f x).show a) (each_show f xs m) u) in
      subst (λ (z : List A × List ℕ). (s ≡ each_show f (x ∷ xs) z.0 ++ z.1) × EachOk f (x ∷ xs) z.0) q
      (g, (p.1, v.1))

  pub each_lawful : ((x : X) → Lawful (f x)) → (xs : List X) → Lawful (each f xs)
  each_lawful h xs = record {
    sound = each_sound (λ x. (h x).sound) xs;
    complete = each_complete (λ x. (h x).complete) xs;
  }

-- what is right in one form of each value is right in another
pub each_ok : {X A : Type 0} (f g : X → Form A) → ((x : X) (a : A) → (f x).Ok a → (g x).Ok a) → (xs : List X) (l : List A)
    → EachOk f xs l → EachOk g xs l
unfolding EachOk
each_ok f g h [] [] o = tt
each_ok f g h [] (a ∷ l) o = absurd o
each_ok f g h (x ∷ xs) [] o = absurd o
each_ok f g h (x ∷ xs) (a ∷ l) o = (h x a o.0, each_ok f g h xs l o.1)

-- What stands at the front of bytes, by a form that sheets have: a whole value, bytes that more of them could make
-- one, or bytes that none could.
use Prim.{tt}
use Prim.Native.Nat.{ℕ, zero, suc, ◌+◌, ◌-◌, ◌*◌, ◌/◌, ◌%◌, ◌^◌, ◌≤◌, ◌<◌}
use mathlib.Core.Path.{◌≡◌, refl, sym, ap, ap₂, ◌∙◌}
use mathlib.Core.List.{List, [], ◌∷◌, ◌++◌, append_assoc}
use native.Mathlib.Omega.{arith}
use native.Mathlib.Decide.{dec_le, dec_lt}
use borrow.Author.Tests.{lt-leb, le-ltb}
use lib.ListN.{length, take, drop, replicate, length-append, length-replicate, take-append-drop}
use lib.Pow.{pow_pos}
use lib.Seq.{length-take-le}
use Rattle.wire.specs.Bytes.{Bytes}
use Rattle.wire.specs.Reading.{value, refused, ◌>>=◌}
use Rattle.forms.specs.Form.{Form, mute, raw_read, raw, both_read, ◌then◌, each_read, each_show, EachOk, each}
use Rattle.forms.specs.Fields.{Field, kept, reserved, below_read, below, sheet_field, sheet_fields}
use Rattle.forms.specs.Lists.{times_read, all, none, one, times, counted_read, counted_show, counted}
use Rattle.forms.specs.Laws.{Lawful, Complete}
use Rattle.forms.proofs.Lawful.{read_on, stays, raw_read_lem, bytes_behind}
use Rattle.forms.proofs.FieldLaws.{field_lawful}

-- a whole value and what follows it; the beginning of a value, which u ends; or bytes that are refused, whatever
-- follows
pub data View {A : Type 0} (c : Form A) (s : List ℕ) : Type 0 where
  whole : (a : A) (r : List ℕ) → c.Ok a → s ≡ c.show a ++ r → View c s
  early : (a : A) (u : List ℕ) → c.Ok a → s ++ u ≡ c.show a → c.read s ≡ refused 22 → View c s
  wide : ((u : List ℕ) → c.read (s ++ u) ≡ refused 24) → View c s

-- a form of which any bytes are seen so; it has a value
pub record Seen {A : Type 0} (c : Form A) : Type 0 where
  pub some : (a : A) × c.Ok a
  pub view : (s : List ℕ) → Bytes s → View c s

-- h reads and shows what c does, and then what d does
module _ {A B C : Type 0} (c : Form A) (d : Form B) (h : Form C) (g : A → B → C)
    (by : (s : List ℕ) → h.read s ≡ (c.read s >>= λ a. d.read a.1 >>= λ b. value (g a.0 b.0, b.1)))
    (shows : (a : A) (b : B) → h.show (g a b) ≡ c.show a ++ d.show b)
    (ok : (a : A) (b : B) → c.Ok a → d.Ok b → h.Ok (g a b))
    (complete : Complete c) (first : Seen c) (second : Seen d) where
  both_view : (s : List ℕ) → Bytes s → View h s
  both_view s w = front (first.view s w)
    where
      behind : (a : A) (r : List ℕ) → c.Ok a → s ≡ c.show a ++ r → View d r → View h s
      behind a r o e (whole b t p q) =
          whole (g a b) t (ok a b o p)
          (e ∙ ap (λ x. c.show a ++ x) q
          ∙ sym (append_assoc (c.show a) (d.show b) t)
          ∙ ap (λ x. x ++ t) (sym (shows a b)))
      behind a r o e (early b u p q n) =
          early (g a b) u (ok a b o p)
          (ap (λ x. x ++ u) e ∙ append_assoc (c.show a) r u ∙ ap (λ x. c.show a ++ x) q ∙ sym (shows a b))
          (ap h.read e ∙ by (c.show a ++ r) ∙ read_on _ (complete a r o) ∙ stays _ n)
      behind a r o e (wide f) =
          wide (λ u. ap h.read (ap (λ x. x ++ u) e ∙ append_assoc (c.show a) r u)
          ∙ by (c.show a ++ (r ++ u))
          ∙ read_on _ (complete a (r ++ u) o)
          ∙ stays _ (f u))

      front : View c s → View h s
      front (whole a r o e) = behind a r o e (second.view r (bytes_behind (c.show a) r e w))
      front (early a u o e n) =
          let b = second.some.0 in
          early (g a b) (u ++ d.show b) (ok a b o second.some.1)
          (sym (append_assoc s u (d.show b)) ∙ ap (λ x. x ++ d.show b) e ∙ sym (shows a b)) (by s ∙ stays _ n)
      front (wide f) = wide (λ u. by (s ++ u) ∙ stays _ (f u))

  both_seen : Seen h
  both_seen = record {
    some = (g first.some.0 second.some.0, ok _ _ first.some.1 second.some.1);
    view = both_view;
  }

pub then-seen : {A B : Type 0} {c : Form A} {d : Form B} → Complete c → Seen c → Seen d → Seen (c then d)
unfolding both_read
then-seen {A} {B} {c} {d} = both_seen c d (c then d) (λ a b. (a, b)) (λ s. refl) (λ a b. refl) (λ a b o p. (o, p))

pub mute_seen : {A : Type 0} (v : A) → Seen (mute v)
mute_seen v = record { some = (v, refl); view = λ s w. whole v s refl refl }

pub raw_short : (n : ℕ) (s : List ℕ) → length s < n → raw_read n s ≡ refused 22
unfolding raw_read
raw_short n s h = rw (lt-leb n (length s) h)

pub raw_seen : (n : ℕ) → Seen (raw n)
raw_seen n = record { some = (replicate n 0, length-replicate {A = ℕ} n 0); view = λ s w. go s (dec_le n (length s)) }
  where
    go : (s : List ℕ) → Dec (n ≤ length s) → View (raw n) s
    go s (yes h) = whole (take n s) (drop n s) (length-take-le n s h) (sym (take-append-drop n s))
    go s (no h) =
        let z : List ℕ = replicate (n - length s) 0 in
        let l = length-append s z in
        let k = length-replicate {A = ℕ} (n - length s) 0 in
        early (s ++ z) z (omega arith) refl (raw_short n s (omega arith))

pub below_seen : (n : ℕ) → 0 < n → Seen (below n)
unfolding below_read
below_seen n p = record { some = (0, p); view = λ s w. go s }
  where
    tested : (b : ℕ) (r : List ℕ) → Dec (b < n) → View (below n) (b ∷ r)
    tested b r (yes h) = whole b r h refl
    tested b r (no h) =
        let i : n ≤ b = omega arith in wide (λ u. read_on _ (raw_read_lem 1 (b ∷ []) (r ++ u) refl) ∙ rw (le-ltb b n i))

    go : (s : List ℕ) → View (below n) s
    go [] = early 0 (0 ∷ []) p refl (stays _ (raw_short 1 [] (omega arith)))
    go (b ∷ r) = tested b r (dec_lt b n)

field_seen : (f : Field) → Seen (sheet_field f)
field_seen (kept w) = below_seen (2 ^ w) (pow_pos w)
field_seen (reserved w) = mute_seen (2 ^ w - 1)

module _ {X A : Type 0} (f : X → Form A) (l : (x : X) → Lawful (f x)) (v : (x : X) → Seen (f x)) where
  pub each_seen : (xs : List X) → Seen (each f xs)
  unfolding each_read each_show EachOk
  each_seen [] = record { some = ([], tt); view = λ s w. whole [] s tt refl }
  each_seen (x ∷ xs) =
      both_seen (f x) (each f xs) (each f (x ∷ xs)) (λ a m. a ∷ m) (λ s. refl) (λ a m. refl) (λ a m o p. (o, p))
      (l x).complete (v x) (each_seen xs)

pub fields_seen : (fs : List Field) → Seen (sheet_fields fs)
fields_seen = each_seen sheet_field field_lawful field_seen

module _ {A : Type 0} (c : Form A) (l : Lawful c) (v : Seen c) where
  times_seen : (k : ℕ) → Seen (times c k)
  unfolding times_read all
  times_seen zero = record { some = ([], (refl, none)); view = λ s w. whole [] s (refl, none) refl }
  times_seen (suc k) =
      both_seen c (times c k) (times c (suc k)) (λ a m. a ∷ m) (λ s. refl) (λ a m. refl)
      (λ a m o p. (ap suc p.0, one o p.1)) l.complete v (times_seen k)

  -- the number of the items stands in two bytes
  shown : (i j : ℕ) (m : List A) → length m ≡ i * 256 + j → j < 256 → counted_show c m ≡ i ∷ j ∷ all c m
  unfolding counted_show
  shown i j m e h =
      let p : length m / 256 ≡ i = omega arith in
      let q : length m % 256 ≡ j = omega arith in
      ap₂ (λ x y. x ∷ y ∷ all c m) p q

  counted_view : (s : List ℕ) → Bytes s → View (counted c) s
  unfolding counted_read all
  counted_view [] w =
      early [] (0 ∷ 0 ∷ []) (omega arith, none) (sym (shown 0 0 [] refl (omega arith)))
      (stays _ (raw_short 2 [] (omega arith)))
  counted_view (b ∷ []) w =
      let m = (times_seen (b * 256)).some in
      let h = w 0 in
      let n : length m.0 ≡ b * 256 + 0 = m.1.0 ∙ omega arith in
      early m.0 (0 ∷ all c m.0) (omega arith, m.1.1) (sym (shown b 0 m.0 n (omega arith)))
      (stays _ (raw_short 2 (b ∷ []) (omega arith)))
  counted_view (i ∷ j ∷ r) w = go ((times_seen (i * 256 + j)).view r (λ n. w (suc (suc n))))
    where
      go : View (times c (i * 256 + j)) r → View (counted c) (i ∷ j ∷ r)
      go (whole m t o e) =
          let h = w 0 in
          let k = w 1 in
          let n = o.0 in
          whole m t (omega arith, o.1) (ap (λ x. i ∷ j ∷ x) e ∙ ap (λ x. x ++ t) (sym (shown i j m o.0 k)))
      go (early m u o e n) =
          let h = w 0 in
          let k = w 1 in
          let z = o.0 in
          early m u (omega arith, o.1) (ap (λ x. i ∷ j ∷ x) e ∙ sym (shown i j m o.0 k))
          (read_on _ (raw_read_lem 2 (i ∷ j ∷ []) r refl) ∙ n)
      go (wide f) = wide (λ u. read_on _ (raw_read_lem 2 (i ∷ j ∷ []) (r ++ u) refl) ∙ f u)

  pub counted_seen : Seen (counted c)
  counted_seen = record { some = ([], (omega arith, none)); view = counted_view }

-- Laws of lists of values: counted in a sheet, sized in a section.
use Prim.Native.Nat.{ℕ, zero, suc, ◌+◌, ◌*◌, ◌/◌, ◌%◌, ◌<◌, ◌≤◌}
use mathlib.Core.Path.{◌≡◌, refl, sym, ap, ap₂, ◌∙◌, subst}
use mathlib.Core.List.{List, [], ◌∷◌, ◌++◌, append_assoc}
use native.Mathlib.Omega.{arith}
use lib.ListN.{length, get_or, length-append}
use Rattle.wire.specs.Bytes.{Bytes, len12_at}
use Rattle.wire.specs.Number.{number}
use Rattle.wire.specs.Reading.{value, ◌>>=◌}
use Rattle.wire.proofs.ReadingLaws.{value_is, through}
use Rattle.forms.specs.Form.{Form, raw_read}
use Rattle.forms.specs.Fields.{Field, room, pack, unpack}
use Rattle.forms.specs.Lists.{times_read, all, All, none, one, counted_read, counted_show, counted, until_read, filling_read, filling, loop_read, loop_show, loop}
use Rattle.forms.specs.Laws.{Lawful, Sound, Complete}
use Rattle.forms.proofs.Lawful.{read_on, raw_read_lem, raw_shown, two_of, bytes_behind}
use Rattle.forms.proofs.FieldLaws.{pack_lt, unpack_pack}

module _ {A : Type 0} (c : Form A) where
  -- ---- so many items

  pub times_read_lem : Complete c → (l : List A) (r : List ℕ) → All c l → times_read c (length l) (all c l ++ r) ≡ value (l, r)
  unfolding times_read all
  times_read_lem f [] r none = refl
  times_read_lem f (a ∷ l) r (one o os) =
      ap (times_read c (suc (length l))) (append_assoc (c.show a) (all c l) r)
      ∙ read_on _ (f a (all c l ++ r) o)
      ∙ read_on _ (times_read_lem f l r os)

  pub record Shown (k : ℕ) (s : List ℕ) (l : List A) (r : List ℕ) : Type 0 where
    pub bytes : s ≡ all c l ++ r
    pub number : length l ≡ k
    pub ok : All c l

  pub times_shown : Sound c → (k : ℕ) (s : List ℕ) (l : List A) (r : List ℕ) → Bytes s → times_read c k s ≡ value (l, r) → Shown k s l r
  unfolding times_read all
  times_shown f zero s l r w e =
      let q : ◌≡◌ {A = List A × List ℕ} ([], s) (l, r) = value_is e in
      subst (λ (z : List A × List ℕ). Shown 0 s z.0 z.1) q (record { bytes = refl; number = refl; ok = none })
  times_shown f (suc k) s l r w e =
      let x = through (c.read s) _ (l, r) e in
      let a = x.0.0 in
      let t = x.0.1 in
      let y = through (times_read c k t) _ (l, r) x.2 in
      let m = y.0.0 in
      let u = y.0.1 in
      let p = f s a t w x.1 in
      let v = times_shown f k t m u (bytes_behind (c.show a) t p.0 w) y.1 in
      let q : ◌≡◌ {A = List A × List ℕ} (a ∷ m, u) (l, r) = value_is y.2 in
      subst (λ (z : List A × List ℕ). Shown (suc k) s z.0 z.1) q (record {
        bytes = p.0 ∙ ap (λ j. c.show a ++ j) v.bytes ∙ sym (append_assoc (c.show a) (all c m) u);
        number = ap suc v.number;
        ok = one p.1 v.ok;
      })

  -- ---- after the number of the items

  counted_complete : Complete c → Complete (counted c)
  unfolding counted_read counted_show
  counted_complete f l r o =
      let n : ℕ = length l in
      let e : number (n / 256 ∷ n % 256 ∷ []) ≡ n = omega arith in
      read_on _ (raw_read_lem 2 (n / 256 ∷ n % 256 ∷ []) (all c l ++ r) refl)
      ∙ ap (λ k. times_read c k (all c l ++ r)) e
      ∙ times_read_lem f l r o.1

  counted_sound : Sound c → Sound (counted c)
  unfolding counted_read counted_show
  counted_sound f s l r w e =
      let x = through (raw_read 2 s) _ (l, r) e in
      let a = x.0.0 in
      let t = x.0.1 in
      let h = raw_shown 2 s a t x.1 in
      let p : a ≡ get_or a 0 0 ∷ get_or a 1 0 ∷ [] = two_of a h.1 in
      let i : ℕ = get_or a 0 0 in
      let j : ℕ = get_or a 1 0 in
      let es : s ≡ i ∷ j ∷ t = h.0 ∙ ap (λ z. z ++ t) p in
      let bi : i < 256 = subst Bytes es w 0 in
      let bj : j < 256 = subst Bytes es w 1 in
      let m : number a ≡ i * 256 + j = ap number p in
      let v = times_shown f (number a) t l r (bytes_behind (i ∷ j ∷ []) t es w) x.2 in
      let n = v.number in
      let hi : i ≡ length l / 256 = omega arith in
      let hj : j ≡ length l % 256 = omega arith in
      (es ∙ ap₂ (λ y z. y ∷ z ∷ t) hi hj ∙ ap (λ z. length l / 256 ∷ length l % 256 ∷ z) v.bytes, (omega arith, v.ok))

  pub counted_lawful : Lawful c → Lawful (counted c)
  counted_lawful f = record { sound = counted_sound f.sound; complete = counted_complete f.complete }

  -- ---- items that fill their bytes

  -- an item is at least a byte
  abbrev pub Full : Type 0
  Full = (a : A) → c.Ok a → 0 < length (c.show a)

  until_by : (k : ℕ) (s : List ℕ) → 0 < length s
      → until_read c (suc k) s ≡ (c.read s >>= λ a. until_read c k a.1 >>= λ l. value (a.0 ∷ l))
  unfolding until_read
  until_by k [] h = absurd (omega arith)
  until_by k (b ∷ s) h = refl

  until_none : (k : ℕ) → until_read c k [] ≡ value []
  unfolding until_read
  until_none zero = refl
  until_none (suc k) = refl

  until_read_lem : Complete c → Full → (k : ℕ) (l : List A) → length (all c l) ≤ k → All c l → until_read c k (all c l) ≡ value l
  unfolding all
  until_read_lem f g k [] h none = until_none k
  until_read_lem f g zero (a ∷ l) h (one o os) = let n = length-append (c.show a) (all c l) in let m = g a o in absurd (omega arith)
  until_read_lem f g (suc k) (a ∷ l) h (one o os) =
      let n = length-append (c.show a) (all c l) in
      let m = g a o in
      until_by k (c.show a ++ all c l) (omega arith)
      ∙ read_on _ (f a (all c l) o)
      ∙ read_on _ (until_read_lem f g k l (omega arith) os)

  pub filling_read_lem : Complete c → Full → (n : ℕ) → Complete (filling c n)
  unfolding filling_read
  filling_read_lem f g n l r o =
      let h = o.0 in
      read_on _ (raw_read_lem n (all c l) r h) ∙ read_on _ (until_read_lem f g n l (omega arith) o.1)

  pub loop-complete : Complete c → Full → (fs : List Field) → room fs ≡ 16 → Complete (loop c fs)
  unfolding loop_read loop_show
  loop-complete f g fs half p r o =
      let n : ℕ = length (all c p.1) in
      let k = pack_lt fs p.0 o.0 in
      let x : ℕ = pack fs p.0 * 16 + n / 256 in
      let i : len12_at (x ∷ n % 256 ∷ []) 0 ≡ n = omega (arith, o.1) in
      let j : x / 16 ≡ pack fs p.0 = omega (arith, o.1) in
      read_on _ (raw_read_lem 2 (x ∷ n % 256 ∷ []) (all c p.1 ++ r) refl)
      ∙ read_on _ (filling_read_lem f g (len12_at (x ∷ n % 256 ∷ []) 0) p.1 r (sym i, o.2))
      ∙ ap (λ z. value ((z, p.1), r)) (ap (unpack fs) j ∙ unpack_pack fs p.0 o.0)

-- Laws of turning one form into another: what is turned piece by piece is turned as a whole.
use Prim.Native.Nat.{ℕ, suc, ◌+◌, ◌≤◌}
use mathlib.Core.Path.{◌≡◌, refl, sym, ap, ap₂, ◌∙◌, subst}
use mathlib.Core.List.{List, [], ◌∷◌, ◌++◌}
use mathlib.Core.Bool.{Bool}
use native.Mathlib.Omega.{arith}
use lib.ListN.{length, length-append}
use Rattle.wire.specs.Parts.{Part}
use Rattle.wire.proofs.PartLaws.{part_first, part_second}
use Rattle.forms.specs.Form.{Form, ◌then◌, such, each, each_show, EachOk}
use Rattle.forms.specs.Lists.{all, All, one, times}
use Rattle.forms.specs.Room.{put}
use Rattle.forms.specs.Inner.Turning.{Done, Turned}
use Rattle.forms.proofs.Puts.{put_none, put_put, length_put}
use Rattle.forms.specs.declared.Place.{Place}

-- two pieces, joined: x and y are read, u and v written
pub done_both : {p q r : Place} {o o' o'' : List ℕ} (x y u v : List ℕ) → p.to + length (u ++ v) ≤ length o
    → Done p x u o q o' → Done q y v o' r o''
    → Done p (x ++ y) (u ++ v) o r o''
done_both {p = p} {o = o} x y u v f g h =
    let lx = length-append x y in
    let lu = length-append u v in
    record {
      room = h.room ∙ ap₂ (λ m n. put m n v) g.room g.written ∙ put_put o p.to u (omega arith) v (omega arith);
      read = omega (arith, h.read, g.read);
      written = omega (arith, h.written, g.written);
    }

pub done_length : {p q : Place} {o o' : List ℕ} (x u : List ℕ) → p.to + length u ≤ length o → Done p x u o q o' → length o' ≡ length o
done_length {p = p} {o = o} x u f g = ap length g.room ∙ length_put o p.to u f

-- where no value stands there for which there is room
pub turned_never : {A : Type 0} {c d : Form A} {s : List ℕ} {p q : Place} {o o' : List ℕ}
    → ((a : A) → c.Ok a → Part s p.at (c.show a) → p.to + length (d.show a) ≤ length o → ⊥) → Turned c d s p o q o'
turned_never h = record { turned = λ a k w f. absurd (h a k w f) }

-- nothing stands there, and nothing is written
pub turned_nothing : {A : Type 0} (c d : Form A) (s : List ℕ) (p : Place) (o : List ℕ)
    → ((a : A) → c.Ok a → (c.show a ≡ []) × (d.show a ≡ []))
    → Turned c d s p o p o
turned_nothing c d s p o h = record {
  turned = λ a k w f.
      let e = h a k in
      let lc = ap length e.0 in
      let ld = ap length e.1 in
      record { room = sym (ap (put o p.to) e.1 ∙ put_none o p.to (omega arith)); read = omega arith; written = omega arith };
}

-- one behind the other: y stands where x ends, and v is put where u ends
pub done_then : {s : List ℕ} {p q r : Place} {o o' o'' : List ℕ} (x y u v : List ℕ) → Part s p.at (x ++ y)
    → p.to + length (u ++ v) ≤ length o → (Part s p.at x → p.to + length u ≤ length o → Done p x u o q o')
    → (Done p x u o q o' → Part s q.at y → q.to + length v ≤ length o' → Done q y v o' r o'')
    → Done p (x ++ y) (u ++ v) o r o''
done_then {s} x y u v w f g h =
    let lu = length-append u v in
    let i = g (part_first x y w) (omega arith) in
    let l = done_length x u (omega arith) i in
    let e = i.written in
    done_both x y u v f i (h i (subst (λ n. Part s n y) (sym i.read) (part_second x y w)) (omega arith))

module _ {A B : Type 0} {c d : Form A} {c' d' : Form B} {s : List ℕ} {p q r : Place} {o o' o'' : List ℕ} where
  pub turned_then : Turned c d s p o q o' → Turned c' d' s q o' r o'' → Turned (c then c') (d then d') s p o r o''
  turned_then g h = record {
    turned = λ a k w f.
        done_then (c.show a.0) (c'.show a.1) (d.show a.0) (d'.show a.1) w f (g.turned a.0 k.0)
        (λ _. h.turned a.1 k.1);
  }

-- what is turned as one form is turned as another that shows the same
module _ {A B : Type 0} {c d : Form A} {c' d' : Form B} {s : List ℕ} {p q : Place} {o o' : List ℕ} where
  pub turned_as : ((b : B) → c'.Ok b → (a : A) × c.Ok a × (c'.show b ≡ c.show a) × (d'.show b ≡ d.show a))
      → Turned c d s p o q o' → Turned c' d' s p o q o'
  turned_as h g = record {
    turned = λ b k w f.
        let x = h b k in
        let e = x.2 in
        let i = x.3 in
        let le = ap length e in
        let li = ap length i in
        let t = g.turned x.0 x.1 (subst (Part s p.at) e w) (omega arith) in
        record { room = t.room ∙ ap (put o p.to) (sym i); read = omega (arith, t.read); written = omega (arith, t.written) };
  }

module _ {A : Type 0} {c d : Form A} {s : List ℕ} {p q : Place} {o o' : List ℕ} where
  pub turned_such : (k j : ℕ) (t u : A → Bool) → Turned c d s p o q o' → Turned (such c k t) (such d j u) s p o q o'
  turned_such k j t u g = record { turned = λ a m w f. g.turned a m.0 w f }

-- a list of forms
module _ {X A : Type 0} (f g : X → Form A) where
  pub turned_none : {s : List ℕ} {p : Place} {o : List ℕ} → Turned (each f []) (each g []) s p o p o
  unfolding each_show
  turned_none {s} {p} {o} = turned_nothing (each f []) (each g []) s p o nothing
    where
      nothing : (l : List A) → EachOk f [] l → (each_show f [] l ≡ []) × (each_show g [] l ≡ [])
      nothing l k = (refl, refl)

  pub turned_one : {s : List ℕ} {p q r : Place} {o o' o'' : List ℕ} (x : X) (xs : List X)
      → Turned (f x) (g x) s p o q o' → Turned (each f xs) (each g xs) s q o' r o''
      → Turned (each f (x ∷ xs)) (each g (x ∷ xs)) s p o r o''
  unfolding each_show EachOk
  turned_one x xs h t = turned_as cut (turned_then h t)
    where
      cut : (l : List A) → EachOk f (x ∷ xs) l → (a : A × List A) × ((f x).Ok a.0 × EachOk f xs a.1)
          × (each_show f (x ∷ xs) l ≡ (f x).show a.0 ++ each_show f xs a.1)
          × (each_show g (x ∷ xs) l ≡ (g x).show a.0 ++ each_show g xs a.1)
      cut [] k = absurd k
      cut (a ∷ l) k = ((a, l), k, refl, refl)

-- so many items
module _ {A : Type 0} (c d : Form A) where
  pub turned_zero : {s : List ℕ} {p : Place} {o : List ℕ} → Turned (times c 0) (times d 0) s p o p o
  unfolding all
  turned_zero {s} {p} {o} = turned_nothing (times c 0) (times d 0) s p o nothing
    where
      nothing : (l : List A) → (length l ≡ 0) × All c l → (all c l ≡ []) × (all d l ≡ [])
      nothing [] k = (refl, refl)
      nothing (a ∷ l) k = let e = k.0 in absurd (omega arith)

  pub turned_suc : {s : List ℕ} {p q r : Place} {o o' o'' : List ℕ} (k : ℕ) → Turned c d s p o q o'
      → Turned (times c k) (times d k) s q o' r o'' → Turned (times c (suc k)) (times d (suc k)) s p o r o''
  unfolding all
  turned_suc k h t = turned_as cut (turned_then h t)
    where
      cut : (l : List A) → (length l ≡ suc k) × All c l → (a : A × List A) × (c.Ok a.0 × ((length a.1 ≡ k) × All c a.1))
          × (all c l ≡ c.show a.0 ++ all c a.1) × (all d l ≡ d.show a.0 ++ all d a.1)
      cut [] e = let n = e.0 in absurd (omega arith)
      cut (a ∷ l) (n, one o os) = ((a, l), (o, (omega (arith, n), os)), refl, refl)

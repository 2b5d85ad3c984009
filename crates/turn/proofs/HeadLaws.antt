-- Laws of heads: their items, row by row, and items turned one behind the other.
use Prim.Native.Nat.{ℕ, zero, suc, ◌<◌, ◌≤◌}
use mathlib.Core.Path.{◌≡◌, refl, sym, ap, subst}
use mathlib.Core.List.{List, [], ◌∷◌}
use mathlib.Core.Bool.{Bool, true, false}
use native.Mathlib.Omega.{arith}
use lib.ListN.{drop}
use Rattle.forms.specs.Form.{raw}
use Rattle.forms.specs.Inner.Turning.{Turned}
use Rattle.forms.proofs.Turns.{turned_none, turned_one, turned_such}
use Rattle.tables.specs.Tables.{place}
use Rattle.tables.specs.declared.Table.{Table}
use Rattle.tables.specs.declared.Table.TheVariants.{Nit, Sdt, Bat, Eit, Tdt, Tot}
use Rattle.sheet.specs.Content.{Item, plain, numbers, version, filler, head_of}
use Rattle.sheet.specs.Sheet.{inOrder}
use Rattle.contents.proofs.SectionLaws.{each_row}
use Rattle.turn.specs.Inner.Ways.{item_from, item_to, items_from, items_to}
use Rattle.forms.specs.declared.Place.{Place}

-- ---- items row by row

-- what is so of each row that has section numbers
pub four_rows : (P : ℕ → Type 0) → P 0 → P 1 → P 2 → P 3 → (row : ℕ) → row < 4 → P row
four_rows P a b c d zero h = a
four_rows P a b c d (suc zero) h = b
four_rows P a b c d (suc (suc zero)) h = c
four_rows P a b c d (suc (suc (suc zero))) h = d
four_rows P a b c d (suc (suc (suc (suc row)))) h = absurd (omega arith)

module _ (t : Table) where
  pub sdt_ids : t ≡ Sdt → plain 2 ∷ filler ∷ [] ≡ drop 3 (head_of (place t))
  unfolding head_of
  sdt_ids e = ap (λ t. drop 3 (head_of (place t))) (sym e)

  pub eit_ids : t ≡ Eit → plain 6 ∷ [] ≡ drop 3 (head_of (place t))
  unfolding head_of
  eit_ids e = ap (λ t. drop 3 (head_of (place t))) (sym e)

pub no_ids : (t : Table) → (t ≡ Sdt → ⊥) → (t ≡ Eit → ⊥) → [] ≡ drop 3 (head_of (place t))
unfolding head_of
no_ids Nit f g = refl
no_ids Sdt f g = absurd (f refl)
no_ids Bat f g = refl
no_ids Eit f g = absurd (g refl)
no_ids Tdt f g = refl
no_ids Tot f g = refl

pub common_items : (row : ℕ) → row < 4 → plain 2 ∷ version ∷ numbers ∷ drop 3 (head_of row) ≡ head_of row
unfolding head_of
common_items = four_rows (λ row. plain 2 ∷ version ∷ numbers ∷ drop 3 (head_of row) ≡ head_of row) refl refl refl refl

abbrev Times : ℕ → Type 0
Times row = 4 ≤ row → plain 5 ∷ [] ≡ head_of row

pub time_items : (row : ℕ) → row < 6 → Times row
unfolding head_of
time_items =
    each_row Times (λ h. absurd (omega arith)) (λ h. absurd (omega arith)) (λ h. absurd (omega arith))
    (λ h. absurd (omega arith)) (λ h. refl) (λ h. refl)

-- ---- items one behind the other

module _ (b : Bool) {s : List ℕ} where
  pub no_items : {p : Place} {o : List ℕ} → Turned (items_from b []) (items_to b []) s p o p o
  no_items = turned_none (item_from b) (item_to b)

  pub an_item : {p q r : Place} {o o' o'' : List ℕ} (x : Item) (xs : List Item) → Turned (item_from b x) (item_to b x) s p o q o'
      → Turned (items_from b xs) (items_to b xs) s q o' r o'' → Turned (items_from b (x ∷ xs)) (items_to b (x ∷ xs)) s p o r o''
  an_item x xs t u = turned_one (item_from b) (item_to b) x xs t u

  -- one, and no more
  pub last_item : {p q : Place} {o o' : List ℕ} (x : Item) → Turned (item_from b x) (item_to b x) s p o q o'
      → Turned (items_from b (x ∷ [])) (items_to b (x ∷ [])) s p o q o'
  last_item x t = an_item x [] t no_items

pub plain_item : {s : List ℕ} {p q : Place} {o o' : List ℕ} (b : Bool) (n : ℕ) → Turned (raw n) (raw n) s p o q o'
    → Turned (item_from b (plain n)) (item_to b (plain n)) s p o q o'
plain_item true n t = t
plain_item false n t = t

pub numbers_item : {s : List ℕ} {p q : Place} {o o' : List ℕ} (b : Bool) → Turned (raw 2) (raw 2) s p o q o'
    → Turned (item_from b numbers) (item_to b numbers) s p o q o'
numbers_item true t = turned_such 24 7 inOrder inOrder t
numbers_item false t = turned_such 7 24 inOrder inOrder t

-- the same items
pub as_items : {s : List ℕ} {p q : Place} {o o' : List ℕ} (b : Bool) {xs ys : List Item} → xs ≡ ys
    → Turned (items_from b xs) (items_to b xs) s p o q o'
    → Turned (items_from b ys) (items_to b ys) s p o q o'
as_items {s} {p} {q} {o} {o'} b e t = subst (λ zs. Turned (items_from b zs) (items_to b zs) s p o q o') e t

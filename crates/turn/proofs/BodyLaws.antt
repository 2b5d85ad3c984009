-- Laws of whole bodies: head, top loop and entries, one behind the other, either way.
use Prim.Native.Nat.{ℕ, ◌+◌, ◌<◌}
use mathlib.Core.Path.{◌≡◌, refl, sym, ap, ◌∙◌, subst}
use mathlib.Core.List.{List, [], ◌++◌}
use mathlib.Core.Bool.{Bool, true, false, not}
use native.Mathlib.Omega.{arith}
use lib.ListN.{length, length-append}
use lib.Dec.{eqb}
use Rattle.tables.specs.Tables.{cell, row_at}
use Rattle.tables.specs.declared.Row.{Row}
use Rattle.forms.specs.Form.{Form, ◌then◌}
use Rattle.forms.specs.Inner.Turning.{Done, Turned}
use Rattle.forms.proofs.Turns.{done_then}
use Rattle.sheet.specs.Content.{head_of, Entries, TableShape, neither, top_only, entries_only, both, shape_of, has_top}
use Rattle.sheet.proofs.Shapes.{Columns, shape_columns, has_top_lem}
use Rattle.contents.proofs.SectionLaws.{each_row}
use Rattle.turn.specs.Inner.Ways.{items_from, items_to, top_if, withEntries, in_section, TurnedTo, EntriesTurned, EntrySizes}
use Rattle.turn.specs.Inner.Bodies.{BodyTurned}
use Rattle.turn.proofs.EntriesLaws.{none_turned}
use Rattle.forms.specs.declared.Place.{Place}

-- only the first four rows have entries
abbrev SomeEntries : ℕ → Type 0
SomeEntries row = ((row_at row).fixed ≡ 0 → ⊥) → row < 4

with_entries : (row : ℕ) → row < 6 → SomeEntries row
unfolding cell
with_entries =
    each_row SomeEntries (λ f. omega arith) (λ f. omega arith) (λ f. omega arith) (λ f. omega arith)
    (λ f. absurd (f refl)) (λ f. absurd (f refl))

-- of two pieces the last ends in the section where both do
module _ {A B : Type 0} {c d : Form A} {c' d' : Form B} {s : List ℕ} {p q r : Place} {end : ℕ} {o o' o'' : List ℕ} where
  then_to : (b : Bool) → Turned c d s p o q o' → TurnedTo b c' d' s q end o' r o'' → TurnedTo b (c then c') (d then d') s p end o r o''
  then_to b g h = record {
    turned = λ a k w f e small.
        let x = c.show a.0 in let y = c'.show a.1 in let u = d.show a.0 in let v = d'.show a.1 in
        done_then x y u v w f (g.turned a.0 k.0) (λ i j l. h.turned a.1 k.1 j l (ends b x y u v e i) small);
  }
    where
      ends : (b : Bool) (x y u v : List ℕ) → in_section b p.at p.to + length (in_section b (x ++ y) (u ++ v)) ≡ end
          → Done p x u o q o' → in_section b q.at q.to + length (in_section b y v) ≡ end
      ends true x y u v e i = let l = length-append u v in omega (arith, i.written)
      ends false x y u v e i = let l = length-append x y in omega (arith, i.read)

-- the entries of a row that has some
pub entries_known : (number : ℕ) {row : Row} → row ≡ row_at number → (row.fixed ≡ 0 → ⊥) → number < 6 → EntrySizes row.fixed number
entries_known number hr n h =
    let fixed = ap (λ (x : Row). x.fixed) hr in record { has = fixed; known = with_entries number h (λ e. n (fixed ∙ e)) }

module _ (b : Bool) (number : ℕ) {row : Row} (hr : row ≡ row_at number) {top : Bool} (ht : top ≡ eqb row.top 1) where
  is_top : top ≡ has_top (shape_of number)
  is_top = ht ∙ ap (λ (x : Row). eqb x.top 1) hr ∙ has_top_lem number

  -- the shape of the row, by both
  with_some : (row.fixed ≡ 0 → ⊥) → withEntries top ≡ shape_of number
  with_some n = go (shape_of number) top is_top (shape_columns number)
    where
      go : (x : TableShape) (t : Bool) → t ≡ has_top x → Columns (row_at number) x → withEntries t ≡ x
      go neither t e c = absurd (n (ap (λ (x : Row). x.fixed) hr ∙ c.1))
      go top_only t e c = absurd (n (ap (λ (x : Row). x.fixed) hr ∙ c.1))
      go entries_only t e c = ap withEntries e
      go both t e c = ap withEntries e

  pub rest_some : {s o o' : List ℕ} {r v : Place} {end : ℕ} → (row.fixed ≡ 0 → ⊥)
      → EntriesTurned b (withEntries top) number s r end o v o' → EntriesTurned b (shape_of number) number s r end o v o'
  rest_some {s} {o} {o'} {r} {v} {end} n = subst (λ x. EntriesTurned b x number s r end o v o') (with_some n)

  pub rest_none : {s o : List ℕ} {r : Place} {end : ℕ} → row.fixed ≡ 0 → EntriesTurned b (shape_of number) number s r end o r o
  rest_none {s} {o} {r} {end} e = go (shape_of number) (shape_columns number)
    where
      go : (x : TableShape) → Columns (row_at number) x → EntriesTurned b x number s r end o r o
      go neither c = record { turned = λ a k w f _ _. (none_turned {A = Entries} ([], []) b).turned a k w f }
      go top_only c = record { turned = λ a k w f _ _. (none_turned {A = Entries} ([], []) b).turned a k w f }
      go entries_only c = absurd (c.1 (ap (λ (x : Row). x.fixed) (sym hr) ∙ e))
      go both c = absurd (c.1 (ap (λ (x : Row). x.fixed) (sym hr) ∙ e))

  pub body_turned : {s o o₁ o₂ o₃ : List ℕ} {p q r v : Place} {end : ℕ}
      → Turned (items_from b (head_of number)) (items_to b (head_of number)) s p o q o₁
      → Turned (top_if b top) (top_if (not b) top) s q o₁ r o₂ → EntriesTurned b (shape_of number) number s r end o₂ v o₃
      → BodyTurned b number s p end o v o₃
  body_turned {s} {o₁ = o₁} {o₂} {q = q} {r} h u m =
      then_to b h (then_to b (subst (λ t. Turned (top_if b t) (top_if (not b) t) s q o₁ r o₂) is_top u) m)

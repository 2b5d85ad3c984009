-- That packets which obey the rule have no filler between two bytes of one section: what stands before a filler that
-- bytes follow ends with a section's last byte, and the bytes behind that are of later sections.
use mathlib.Core.Path.{◌≡◌, refl, sym, ap, ◌∙◌, subst}
use mathlib.Core.List.{List, [], ◌∷◌, ◌++◌, append_assoc, map, flatten, nil≢cons, head-eq_of_cons-eq, tail-eq_of_cons-eq}
use mathlib.Core.Logic.{◌⊎◌, inl, inr, ⊎_elim}
use Prim.Native.Nat.{ℕ, ◌+◌, ◌≤◌, ◌<◌}
use native.Mathlib.Omega.{arith}
use lib.ListN.{length}
use Rattle.wire.specs.Each.{Each}
use Rattle.wire.proofs.EachLaws.{each_append, each_map}
use Rattle.writer.specs.Layout.{Cell, byte, filler, Payload}
use Rattle.reverse.specs.Places.{Place, places_of, placed_from, placed}
use Rattle.reverse.specs.Rule.{bytes_in, FillerOnly, Obeys}
use Rattle.reverse.specs.Packets.{NoFillerInside}
use Rattle.reverse.proofs.CellLaws.{Cells, none_there, bytes_in_append, bytes_in_all, each_at, byte_there}

-- ---- the sections in their order

abbrev From : ℕ → Place → Type 0
From i b = i ≤ b.section

places_from : (i j : ℕ) (s : List ℕ) → Each (From i) (places_of i j s)
places_from i j [] = tt
places_from i j (v ∷ vs) = (omega arith, places_from i (j + 1) vs)

placed_from_lem : (i : ℕ) (ss : List (List ℕ)) → Each (From i) (flatten (placed_from i ss))
unfolding flatten
placed_from_lem i [] = tt
placed_from_lem i (s ∷ ss) =
    each_append (From i) (places_of i 0 s) (flatten (placed_from (i + 1) ss)) (places_from i 0 s)
    (each_map (From (i + 1)) (From i) (λ b k. omega (arith, k)) (flatten (placed_from (i + 1) ss))
    (placed_from_lem (i + 1) ss))

-- a byte that none of its section follows: those before it are of no later section, and those behind it of later ones
record Parts (i : ℕ) (before : List Place) (end : Place) (after : List Place) : Type 0 where
  here : i ≤ end.section
  no_later : Each (λ b. b.section ≤ end.section) before
  later : Each (From (end.section + 1)) after

module _ (i : ℕ) (others : List Place) (All-from : Each (From (i + 1)) others)
    (parts : (before : List Place) (end : Place) (after : List Place) → others ≡ before ++ (end ∷ after)
    → end.behind ≡ 0 → Parts (i + 1) before end after) where
  places_part : (j : ℕ) (s : List ℕ) (before : List Place) (end : Place) (after : List Place)
      → places_of i j s ++ others ≡ before ++ (end ∷ after) → end.behind ≡ 0 → Parts i before end after
  places_part j [] before end after e z =
      let r = parts before end after e z in
      record { here = omega (arith, r.here); no_later = r.no_later; later = r.later }
  places_part j (v ∷ vs) [] end after e z =
      let is : record { section = i; before = j; behind = length vs; value = v } ≡ end = head-eq_of_cons-eq e in
      let number : i ≡ end.section = ap (λ (b : Place). b.section) is in
      let none : vs ≡ [] = none_there vs (ap (λ (b : Place). b.behind) is ∙ z) in
      let are : others ≡ after =
      ap (λ (l : List ℕ). places_of i (j + 1) l ++ others) (sym none) ∙ tail-eq_of_cons-eq e in
      record {
        here = omega (arith, number);
        no_later = tt;
        later = subst (λ (n : ℕ). Each (From (n + 1)) after) number (subst (Each (From (i + 1))) are All-from);
      }
  places_part j (v ∷ vs) (b ∷ before) end after e z =
      let r = places_part (j + 1) vs before end after (tail-eq_of_cons-eq e) z in
      let number : i ≡ b.section = ap (λ (b : Place). b.section) (head-eq_of_cons-eq e) in
      record { here = r.here; no_later = (omega (arith, number, r.here), r.no_later); later = r.later }

placed_part : (i : ℕ) (ss : List (List ℕ)) (before : List Place) (end : Place) (after : List Place)
    → flatten (placed_from i ss) ≡ before ++ (end ∷ after) → end.behind ≡ 0 → Parts i before end after
unfolding flatten
placed_part i [] [] end after e z = absurd (nil≢cons e)
placed_part i [] (b ∷ before) end after e z = absurd (nil≢cons e)
placed_part i (s ∷ ss) before end after e z =
    places_part i (flatten (placed_from (i + 1) ss)) (placed_from_lem (i + 1) ss)
    (λ b c d f g. placed_part (i + 1) ss b c d f g) 0 s before end after e z

-- ---- a filler among all bytes of the payloads

-- where one list ends within another
record Ends (a u : Cells) (x : Cell Place) (v f : Cells) : Type 0 where
  back : Cells
  here : a ≡ u ++ (x ∷ back)
  behind : v ≡ back ++ f

record Follows (a u : Cells) (x : Cell Place) (v f : Cells) : Type 0 where
  front : Cells
  before : u ≡ a ++ front
  there : f ≡ front ++ (x ∷ v)

in_which : (a u : Cells) (x : Cell Place) (v f : Cells) → a ++ f ≡ u ++ (x ∷ v)
    → Ends a u x v f ⊎ Follows a u x v f
in_which [] u x v f e = inr (record { front = u; before = refl; there = e })
in_which (y ∷ a) [] x v f e = inl (record {
  back = a;
  here = λ i. head-eq_of_cons-eq e i ∷ a;
  behind = sym (tail-eq_of_cons-eq e);
})
in_which (y ∷ a) (z ∷ u) x v f e =
    ⊎_elim (λ r. inl (record { back = r.back; here = λ i. head-eq_of_cons-eq e i ∷ r.here i; behind = r.behind }))
    (λ r. inr (record { front = r.front; before = λ i. head-eq_of_cons-eq (sym e) i ∷ r.before i; there = r.there }))
    (in_which a u x v f (tail-eq_of_cons-eq e))

record Closed (u : Cells) : Type 0 where
  others : Cells
  end : Place
  directly : u ≡ others ++ (byte end ∷ [])
  ends : end.behind ≡ 0

none_laid : (ps : List (Payload Place)) → Each (λ p. bytes_in p.cells ≡ []) ps
    → bytes_in (flatten (map (λ p. p.cells) ps)) ≡ []
unfolding flatten
none_laid [] x = refl
none_laid (p ∷ ps) x =
    bytes_in_append p.cells (flatten (map (λ q. q.cells) ps)) ∙ (λ i. x.0 i ++ none_laid ps x.1 i)

-- no byte follows it, or what stands before it ends with a section's last byte
filler_where : (ps : List (Payload Place)) → FillerOnly ps → (u v : Cells)
    → flatten (map (λ p. p.cells) ps) ≡ u ++ (filler ∷ v) → (bytes_in v ≡ []) ⊎ Closed u
unfolding flatten
filler_where [] x [] v e = absurd (nil≢cons e)
filler_where [] x (y ∷ u) v e = absurd (nil≢cons e)
filler_where (p ∷ ps) x u v e =
    ⊎_elim
    (λ r. ⊎_elim
    (λ w. inl (ap bytes_in r.behind ∙ bytes_in_append r.back (flatten (map (λ q. q.cells) ps))
    ∙ (λ i. w.0 i ++ none_laid ps w.1 i)))
    (λ o. inr (record { others = o.others; end = o.end; directly = o.directly; ends = o.ends }))
    (x.0 u r.back r.here))
    (λ r. ⊎_elim (λ w. inl w)
    (λ c. inr (record {
      others = p.cells ++ c.others;
      end = c.end;
      directly = r.before ∙ ap (λ (l : Cells). p.cells ++ l) c.directly
          ∙ sym (append_assoc p.cells c.others (byte c.end ∷ []));
      ends = c.ends;
    })) (filler_where ps x.1 r.front v r.there))
    (in_which p.cells u filler v (flatten (map (λ q. q.cells) ps)) e)

-- ---- no filler inside a section

module _ (pid counter : ℕ) (sections packets : List (List ℕ)) (o : Obeys pid counter sections packets)
    (a m₁ m₂ c : Cells) (x y : Place)
    (e : flatten (map (λ p. p.cells) o.payloads) ≡ (a ++ (byte x ∷ m₁)) ++ (filler ∷ (m₂ ++ (byte y ∷ c)))) where
  abbrev u : Cells
  u = a ++ (byte x ∷ m₁)

  abbrev v : Cells
  v = m₂ ++ (byte y ∷ c)

  bytes_are : flatten (placed sections) ≡ bytes_in u ++ bytes_in v
  bytes_are =
      sym o.laid_once ∙ sym (bytes_in_all o.payloads) ∙ ap bytes_in e ∙ bytes_in_append u (filler ∷ v)

  later_section : Closed u → x.section < y.section
  later_section z =
      let are : bytes_in u ≡ bytes_in z.others ++ (z.end ∷ []) =
      ap bytes_in z.directly ∙ bytes_in_append z.others (byte z.end ∷ []) in
      let p = placed_part 0 sections (bytes_in z.others) z.end (bytes_in v)
      (bytes_are ∙ ap (λ (l : List Place). l ++ bytes_in v) are
      ∙ append_assoc (bytes_in z.others) (z.end ∷ []) (bytes_in v)) z.ends in
      let Upto : Place → Type 0 = λ b. b.section ≤ z.end.section in
      let upto : Each Upto (bytes_in u) =
      subst (Each Upto) (sym are)
      (each_append Upto (bytes_in z.others) (z.end ∷ []) p.no_later (omega arith, tt)) in
      let first : x.section ≤ z.end.section =
      each_at Upto (bytes_in a) x (bytes_in m₁) (subst (Each Upto) (bytes_in_append a (byte x ∷ m₁)) upto) in
      let second : z.end.section + 1 ≤ y.section =
      each_at (From (z.end.section + 1)) (bytes_in m₂) y (bytes_in c)
      (subst (Each (From (z.end.section + 1))) (bytes_in_append m₂ (byte y ∷ c)) p.later) in
      omega (arith, first, second)

  apart : x.section ≡ y.section → ⊥
  apart s =
      ⊎_elim (λ w. byte_there m₂ y c w) (λ z. omega (arith, s, later_section z))
      (filler_where o.payloads o.fillers u v e)

pub none_inside : NoFillerInside
none_inside pid counter sections packets o a m c x y e s m₁ m₂ f =
    apart pid counter sections packets o a m₁ m₂ c x y
    (e ∙ ap (λ (l : Cells). a ++ (byte x ∷ (l ++ (byte y ∷ c)))) f
    ∙ ap (λ (l : Cells). a ++ (byte x ∷ l)) (append_assoc m₁ (filler ∷ m₂) (byte y ∷ c))
    ∙ sym (append_assoc a (byte x ∷ m₁) (filler ∷ (m₂ ++ (byte y ∷ c))))) s

-- Demand 2, "A descriptor handed out is that part of the caller's bytes."
use Prim.Native.Nat.{ℕ, ◌+◌}
use mathlib.Core.Path.{refl, ap, ◌∙◌, sym}
use mathlib.Core.List.{List, [], ◌∷◌, ◌++◌, append-nil}
use native.Mathlib.Omega.{arith}
use lib.ListN.{length}
use Rattle.wire.specs.Parts.{Part}
use Rattle.wire.proofs.PartLaws.{part_first, part_second}
use Rattle.loops.specs.Descriptors.{Placed}
use Rattle.section.specs.Grammar as grammar
use Rattle.section.specs.Standing.{AllStanding, none, more}
use Rattle.loops.specs.Walking as standing
use Rattle.loops.proofs.Standing.{moved, in_loop}
use Rattle.section.specs.Grammar.{Entries, Inside, Section, nothing, loop, loops}
use Rattle.tables.specs.declared.Row.{Row}

module _ (s : List ℕ) where
  in_entries : {fixed p : ℕ} {l : List ℕ} {ls : List (List Placed)} → Entries fixed p l ls → Part s p l → AllStanding s ls
  in_entries grammar.Entries.none h = none
  in_entries {fixed} {p} (grammar.Entries.one head body {l = l} g d e) h =
      let b : Part s (p + fixed) (body ++ l) = moved s (ap (λ k. p + k) g.size) (part_second head (body ++ l) h) in
      more (in_loop s d (part_first body l b)) (in_entries e (part_second body l b))

  inside : {row : Row} {p : ℕ} {m : List ℕ} {ls : List (List Placed)} → Inside row p m ls → Part s p m → AllStanding s ls
  inside (nothing t f) h = none
  inside (loop t f high low {l = l} e d) h = more (in_loop s d (part_second (high ∷ low ∷ []) l h)) none
  inside {p = p} (loops t f high low top e d high' low' {l = l} e' r) h =
      let a : Part s (p + 2) (top ++ (high' ∷ low' ∷ l)) = part_second (high ∷ low ∷ []) (top ++ (high' ∷ low' ∷ l)) h in
      let b : Part s (p + 2 + length top) (high' ∷ low' ∷ l) = part_second top (high' ∷ low' ∷ l) a in
      let c : Part s (p + 2 + length top + 2) l = part_second (high' ∷ low' ∷ []) l b in
      more (in_loop s d (part_first top (high' ∷ low' ∷ l) a)) (in_entries r (moved s (omega arith) c))
  inside (grammar.Inside.entries t f r) h = more standing.Standing.none (in_entries r h)

  -- every descriptor of a section stands at its place in the section
  pub section_stands : (ls : List (List Placed)) → Section s ls → AllStanding s ls
  section_stands ls x =
      let c = x.cut in
      inside x.inside
      (part_first x.middle c.tail
      (moved s (omega (arith, c.before)) (part_second c.head (x.middle ++ c.tail) all)))
    where
      all : Part s 0 (x.cut.head ++ (x.middle ++ x.cut.tail))
      all = record { front = []; back = []; whole = x.cut.whole ∙ sym (append-nil _); place = refl }
